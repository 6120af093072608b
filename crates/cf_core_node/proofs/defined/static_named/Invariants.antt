use Rattle.std.proofs.Common.{◌≡◌, drop, find, bytes_eq}
use Rattle.cf_core_node.specs.declared.defined.StaticHead.{StaticHead}
use Rattle.cf_core_node.proofs.defined.static_named.Given as goal

abbrev pub invariant-loop-x : goal.invariant-loop-x
invariant-loop-x l = find (λ (x : StaticHead). bytes_eq x.name l.name) (drop l.x-index l.statics) ≡ find (λ (x : StaticHead). bytes_eq x.name l.name) l.statics
