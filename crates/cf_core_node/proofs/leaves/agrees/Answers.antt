use Rattle.std.proofs.Common.{◌∙◌, List, Option, find, bytes_eq, option_copied, slice_get, ap, sym}
use Rattle.cf_classes.specs.TypeTree.{fun_of}
use Rattle.cf_core_node.specs.declared.defined.FunctionHead.{FunctionHead}
use Rattle.cf_core_node.specs.Defined as heads
use Rattle.cf_core_node.proofs.leaves.agrees.Goals as goal

pub returns-in-None : goal.returns-in-None
returns-in-None c = sym (ap (λ (o : Option FunctionHead). heads.agrees o (fun_of c.args.unit.now.types (slice_get c.args.unit.now.types.types c.args.ty)))
    (ap (λ (l : List FunctionHead). find (λ (h : FunctionHead). bytes_eq h.name c.args.name.now) l) (sym c.as_slice.ensures) ∙ sym c.function_named.ensures ∙ ap option_copied c.in-None.is))

pub returns-in-Some : goal.returns-in-Some
returns-in-Some c = c.has_head.ensures
    ∙ sym (ap (λ (o : Option FunctionHead). heads.agrees o (fun_of c.args.unit.now.types (slice_get c.args.unit.now.types.types c.args.ty)))
    (ap (λ (l : List FunctionHead). find (λ (h : FunctionHead). bytes_eq h.name c.args.name.now) l) (sym c.as_slice.ensures) ∙ sym c.function_named.ensures ∙ ap option_copied c.in-Some.is))
