use Rattle.std.proofs.Common.{◌∙◌, List, Option, find, bytes_eq, option_copied, ap, sym}
use Rattle.cf_core_node.specs.declared.defined.StaticHead.{StaticHead}
use Rattle.cf_core_node.specs.Defined as heads
use Rattle.cf_core_node.proofs.leaves.agrees_object.Goals as goal

pub returns-in-None : goal.returns-in-None
returns-in-None c = sym (ap (λ (o : Option StaticHead). heads.agrees_object o c.args.ty)
    (ap (λ (l : List StaticHead). find (λ (x : StaticHead). bytes_eq x.name c.args.name.now) l) (sym c.as_slice.ensures) ∙ sym c.static_named.ensures ∙ ap option_copied c.in-None.is))

pub returns-in-Some : goal.returns-in-Some
returns-in-Some c = c.has_type.ensures
    ∙ sym (ap (λ (o : Option StaticHead). heads.agrees_object o c.args.ty)
    (ap (λ (l : List StaticHead). find (λ (x : StaticHead). bytes_eq x.name c.args.name.now) l) (sym c.as_slice.ensures) ∙ sym c.static_named.ensures ∙ ap option_copied c.in-Some.is))
