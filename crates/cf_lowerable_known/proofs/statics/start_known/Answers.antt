use Rattle.cf_lowerable_known.proofs.Files.{start_is}
use Rattle.cf_lowerable_known.proofs.statics.start_known.Goals as goal

pub returns : goal.returns
returns c =
    start_is c.args.tables.now c.args.object.now c.site-site.result c.in_ok-is.is' c.site-site.ensures.at c.site-site.ensures.owner c.in_ok-is.ensures
