use Rattle.std.proofs.Common.{arith}
use Rattle.cf_name_list.proofs.ListLaws.{cut_next}
use Rattle.cf_name_places.proofs.places.Places.cut.Goals as goal

pub loop-self-preserved : goal.loop-self-preserved
loop-self-preserved c =
    let last = cut_next c.args.self.now c.loop-self.self c.remove_last.new.self c.loop-self.invariant.longer (omega arith) c.loop-self.invariant.left c.remove_last.ensures in
    record {
      enough = omega (arith, last.0, c.len.ensures, c.loop-self-test.true);
      longer = omega (arith, last.0, c.loop-self.invariant.longer);
      left = last.1;
    }
