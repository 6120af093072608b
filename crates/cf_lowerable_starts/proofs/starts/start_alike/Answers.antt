use Rattle.cf_lowerable_starts.proofs.Owners.{start_is}
use Rattle.cf_lowerable_starts.proofs.starts.start_alike.Goals as goal

pub returns : goal.returns
returns c =
    start_is c.args.tables.now c.args.object.now c.site-site.result c.as_slice.result.now c.in_ok-is.is' c.site-site.ensures.at c.site-site.ensures.owner c.as_slice.ensures
    c.in_ok-is.ensures
