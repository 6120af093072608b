use Rattle.std.proofs.Common.{◌∙◌, List, Some, None, ap, sym, subst, map, reverse}
use Rattle.std.specs.Prelude.{find}
use Rattle.cf_base.specs.World.{Ran}
use Rattle.cf_core.specs.Objects.{found_literal}
use Rattle.cf_core.specs.Run.{Did}
use Rattle.cf_core_objects.specs.declared.object.Literal.{Literal}
use Rattle.cf_core_objects.specs.Answer.{Told}
use Rattle.cf_core_objects.specs.Store.{state_of, literal_of}
use Rattle.cf_core_objects.proofs.MadeLaws.{literal-as, is_text}
use Rattle.cf_core_objects.proofs.making.literal_object.Goals as goal

pub returns-in-Some : goal.returns-in-Some
returns-in-Some c = λ T w.
    literal-as T c.args.entered.now c.args.objects.now c.args.number c.args.bytes.now (Some c.in-Some.object) w
    (ap (λ (l : List Literal). found_literal (find (is_text c.args.entered.now.name.now c.args.number) (reverse (map literal_of l)))) (sym c.as_slice.ensures.value) ∙ sym c.made_literal.ensures ∙ c.in-Some.is)

pub returns-in-None : goal.returns-in-None
returns-in-None c = λ T w.
    subst (λ (x : Ran (Did _)). Told (λ o. o) c.new_literal.result (state_of T c.args.entered.now c.new_literal.new.objects) w x)
    (sym (literal-as T c.args.entered.now c.args.objects.now c.args.number c.args.bytes.now None w
    (ap (λ (l : List Literal). found_literal (find (is_text c.args.entered.now.name.now c.args.number) (reverse (map literal_of l)))) (sym c.as_slice.ensures.value) ∙ sym c.made_literal.ensures ∙ c.in-None.is)))
    (c.new_literal.ensures T c.args.entered.now w)
