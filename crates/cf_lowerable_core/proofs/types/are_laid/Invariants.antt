use Rattle.std.proofs.Common.{◌≡◌, drop, map}
use Rattle.std.specs.List.{list_all}
use Rattle.cf_core.specs.FromTypes.{type_of}
use Rattle.cf_core.specs.FromUnit.{tables_of}
use Rattle.cf_lower_program.specs.Types.{is_laid}
use Rattle.cf_lowerable_core.proofs.types.are_laid.Given as goal

abbrev pub invariant-loop-id : goal.invariant-loop-id
invariant-loop-id l = list_all is_laid (map (type_of (tables_of l.unit)) (drop l.id-index l.ids)) ≡ list_all is_laid (map (type_of (tables_of l.unit)) l.ids)
