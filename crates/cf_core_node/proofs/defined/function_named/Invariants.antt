use Rattle.std.proofs.Common.{◌≡◌, drop, find, bytes_eq}
use Rattle.cf_core_node.specs.declared.defined.FunctionHead.{FunctionHead}
use Rattle.cf_core_node.proofs.defined.function_named.Given as goal

abbrev pub invariant-loop-h : goal.invariant-loop-h
invariant-loop-h l = find (λ (h : FunctionHead). bytes_eq h.name l.name) (drop l.h-index l.functions) ≡ find (λ (h : FunctionHead). bytes_eq h.name l.name) l.functions
