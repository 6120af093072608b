use Rattle.std.proofs.Common.{◌≡◌, drop}
use Rattle.std.specs.List.{list_all}
use Rattle.cf_core.specs.FromUnit.{is_short}
use Rattle.cf_core.specs.declared.unit.CoreStatic.{CoreStatic}
use Rattle.cf_elab_ends.proofs.names.statics_short.Given as goal

abbrev pub invariant-loop-x : goal.invariant-loop-x
invariant-loop-x l = list_all (λ (x : CoreStatic). is_short x.name) (drop l.x-index l.statics) ≡ list_all (λ (x : CoreStatic). is_short x.name) l.statics
