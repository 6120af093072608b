use Rattle.std.proofs.Common.{sym, ◌∙◌, ap}
use Rattle.std.specs.Prelude.{unwrap_or, option_map}
use Rattle.cf_syntax.specs.declared.type_names.ClassNames.{ClassNames}
use Rattle.cf_syntax.specs.Names.{no_class}
use Rattle.cf_syntax.proofs.Newest.{class-read}
use Rattle.cf_syntax.proofs.type_names.is_class_defined.Goals as goal

pub returns-in-None : goal.returns-in-None
returns-in-None c =
    let looked = class-read c.args.classes.now c.args.class _ c.get.ensures ∙ ap (λ r. unwrap_or (option_map (λ x. x.now) r) no_class) c.in-None.is in
    ap (λ (k : ClassNames). k.is_defined) (sym looked)
