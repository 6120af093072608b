use Rattle.std.proofs.Common.{refl}
use Rattle.cf_lower_constants.proofs.Lists.{known_one}
use Rattle.cf_lower_constants.proofs.registers.Knowns.know.Goals as goal

pub returns : goal.returns
returns c =
    λ tables. known_one tables c.args.self.now.known.items c.reach.new.all.items c.put.new.all.items c.args.register c.args.register c.args.known c.in_ok-reach.ensures.same
    c.in_ok-reach.ensures.long refl c.put.ensures
