use Rattle.std.proofs.Common.{◌≡◌, map}
use Rattle.std.specs.List.{list_all}
use Rattle.cf_lower_kept.specs.Ready.{function_ready}
use Rattle.cf_plain.specs.View.{function_of}
use Rattle.cf_lowerable_ready.proofs.UnitLaws.{From}
use Rattle.cf_lowerable_ready.proofs.unit.are_ready.Given as goal

abbrev pub invariant-loop-f : goal.invariant-loop-f
invariant-loop-f l = From l.tables l.all l.f-index ≡ list_all function_ready (map (function_of l.tables) l.all)
