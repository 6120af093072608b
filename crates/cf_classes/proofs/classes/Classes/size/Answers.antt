use Rattle.std.proofs.Common.{sym, ap, ◌∙◌, reverse}
use Rattle.cf_classes.specs.Layout.{extent, accepted_size}
use Rattle.cf_classes.proofs.classes.Classes.size.Goals as goal

pub returns : goal.returns
returns c =
    c.size_without_classes.ensures ∙ ap (λ defs. accepted_size (extent c.args.types.now (reverse defs) c.args.ty).size) (sym c.requires.no_class)
