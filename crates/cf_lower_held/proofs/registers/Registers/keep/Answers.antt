use Rattle.std.proofs.Common.{refl}
use Rattle.cf_lower_held.proofs.Keepings.{kept_one}
use Rattle.cf_lower_held.proofs.registers.Registers.keep.Goals as goal

pub returns : goal.returns
returns c =
    λ tables. kept_one tables c.args.self.now.held.items c.reach.new.all.items c.put.new.all.items c.args.register c.args.register c.args.kept c.in_ok-reach.ensures.same
    c.in_ok-reach.ensures.long refl c.put.ensures
