use Rattle.std.proofs.Common.{◌≡◌, drop}
use Rattle.std.specs.List.{list_all}
use Rattle.cf_core.specs.FromUnit.{is_short}
use Rattle.cf_core.specs.declared.unit.CoreFn.{CoreFn}
use Rattle.cf_elab_ends.proofs.names.functions_short.Given as goal

abbrev pub invariant-loop-f : goal.invariant-loop-f
invariant-loop-f l = list_all (λ (f : CoreFn). is_short f.name) (drop l.f-index l.functions) ≡ list_all (λ (f : CoreFn). is_short f.name) l.functions
