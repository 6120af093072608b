use Rattle.std.proofs.Common.{refl}
use Rattle.cf_lower_held.specs.Holds.{kept_in}
use Rattle.cf_lowerable_places.proofs.Holding.{kept_one}
use Rattle.cf_lowerable_places.proofs.contents.Contents.keep.Goals as goal

pub returns : goal.returns
returns c =
    λ tables. kept_one tables c.args.self.now (record { registers = c.keep.new.self; kinds = c.put.new.all }) c.reach.new.all.items c.args.register c.args.register (kept_in tables c.args.held) c.args.kinds c.in_ok-reach.ensures.same
    c.in_ok-reach.ensures.long refl c.put.ensures (c.in_ok-keep.ensures tables)
