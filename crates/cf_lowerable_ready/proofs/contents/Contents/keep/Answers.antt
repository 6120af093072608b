use Rattle.std.proofs.Common.{refl}
use Rattle.cf_lowerable_ready.proofs.Keepings.{kept_one}
use Rattle.cf_lowerable_ready.proofs.contents.Contents.keep.Goals as goal

pub returns : goal.returns
returns c =
    λ tables. kept_one tables c.args.self.now.held.items c.reach.new.self.held.items c.put.new.all.items c.args.register c.args.register c.args.content c.in_ok-reach.ensures.same
    c.in_ok-reach.ensures.long refl c.put.ensures
