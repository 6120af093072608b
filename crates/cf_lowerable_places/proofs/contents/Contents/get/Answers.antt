use Rattle.std.proofs.Common.{◌∙◌}
use Rattle.cf_lowerable_places.proofs.Holding.{got}
use Rattle.cf_lowerable_places.proofs.contents.Contents.get.Goals as goal

pub returns : goal.returns
returns c =
    λ tables. c.content_of.ensures tables
    ∙ got tables c.args.self.now c.args.register c.get-held.result c.at-kinds.result c.as_slice.result.now c.get-held.ensures c.at-kinds.ensures c.as_slice.ensures.value
