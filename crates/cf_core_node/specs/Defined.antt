-- Whether what is named has the very type of its definition in the file, where it has one there.
use Rattle.std.specs.Prelude.{ℕ, Bool, true, false, ◌&&◌, ◌==◌, find, bytes_eq, Option, Some, None}
use Rattle.cf_types.specs.declared.ty.Fun.{Fun}
use Rattle.cf_core.specs.Types.{Name}
use Rattle.cf_core_node.specs.declared.defined.Defined.{Defined}
use Rattle.cf_core_node.specs.declared.defined.FunctionHead.{FunctionHead}
use Rattle.cf_core_node.specs.declared.defined.StaticHead.{StaticHead}

abbrev pub same_head : FunctionHead → Fun → Bool
same_head h f = (h.result == f.result) && bytes_eq h.params f.params

abbrev pub has_head : FunctionHead → Option Fun → Bool
has_head h None = false
has_head h (Some f) = same_head h f

abbrev pub agrees : Option FunctionHead → Option Fun → Bool
agrees None f = true
agrees (Some h) f = has_head h f

abbrev pub agrees_object : Option StaticHead → ℕ → Bool
agrees_object None t = true
agrees_object (Some x) t = x.ty == t

abbrev pub function_defined : Defined → Name → Option FunctionHead
function_defined d n = find (λ (h : FunctionHead). bytes_eq h.name n) d.functions

abbrev pub static_defined : Defined → Name → Option StaticHead
static_defined d n = find (λ (x : StaticHead). bytes_eq x.name n) d.statics
