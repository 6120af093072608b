use Rattle.std.proofs.Common.{sym, ◌∙◌, ap}
use Rattle.std.specs.Prelude.{slice_set, unwrap_or, option_map}
use Rattle.cf_syntax.specs.declared.type_names.ClassNames.{ClassNames}
use Rattle.cf_syntax.specs.Names.{no_class, grown}
use Rattle.cf_syntax.proofs.Newest.{class-read, set_missing}
use Rattle.cf_syntax.proofs.type_names.add_to_class.Goals as goal

pub returns-in_default-clause-ok : goal.returns-in_default-clause-ok
returns-in_default-clause-ok c =
    sym (set_missing c.args.classes.now c.args.class _ (ap (option_map (λ x. x.now)) (sym c.in_default.is) ∙ c.get.ensures))

pub returns-clause-ok : goal.returns-clause-ok
returns-clause-ok c =
    let looked = class-read c.args.classes.now c.args.class _ c.get.ensures ∙ ap (λ r. unwrap_or (option_map (λ x. x.now) r) no_class) c.in-Some.is in
    c.in_ok-set.ensures.ok ∙ ap (λ (k : ClassNames). slice_set c.args.classes.now c.args.class k) (c.in_ok-grown.ensures ∙ ap (λ (k : ClassNames). grown k c.args.entry) (sym looked))
