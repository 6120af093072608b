use Rattle.std.proofs.Common.{◌≡◌, ◌++◌, map, take}
use Rattle.cf_core.specs.declared.unit.CoreFn.{CoreFn}
use Rattle.cf_core.specs.declared.unit.CoreStatic.{CoreStatic}
use Rattle.cf_elab_ends.specs.Linked.{seen}
use Rattle.cf_elab_ends.proofs.names.link_names.Given as goal

abbrev pub invariant-loop-f : goal.invariant-loop-f
invariant-loop-f l = seen l.names.items ≡ map (λ (f : CoreFn). f.name) (take l.f-index l.functions)

abbrev pub invariant-loop-x : goal.invariant-loop-x
invariant-loop-x l = seen l.names.items ≡ map (λ (f : CoreFn). f.name) l.functions ++ map (λ (x : CoreStatic). x.name) (take l.x-index l.statics)
