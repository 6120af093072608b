use Rattle.std.proofs.Common.{refl}
use Rattle.cf_lowerable_open.proofs.Holding.{put_one}
use Rattle.cf_lowerable_open.proofs.objects.Objects.place.Goals as goal

pub returns : goal.returns
returns c =
    put_one c.args.self.now.held.items c.reach.new.all.items c.put.new.all.items c.args.register c.args.register c.args.held c.in_ok-reach.ensures.same
    c.in_ok-reach.ensures.long refl c.put.ensures
