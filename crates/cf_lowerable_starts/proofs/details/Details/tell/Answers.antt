use Rattle.cf_lowerable_starts.proofs.DetailLaws.{told_one}
use Rattle.cf_lowerable_starts.proofs.details.Details.tell.Goals as goal

pub returns : goal.returns
returns c =
    λ tables. told_one tables c.args.self.now.details.items c.reach.new.all.items c.put.new.all.items c.args.register c.args.detail c.in_ok-reach.ensures.same
    c.in_ok-reach.ensures.long c.put.ensures
