use Rattle.std.proofs.Common.{◌≡◌, ◌<◌, false, sym, ◌∙◌, arith}
use Rattle.cf_elab_initial.specs.Lists.Fronts.{is_nil}
use Rattle.cf_elab_initial.specs.Lists.Seen.{trees_seen}
use Rattle.cf_elab_initial.proofs.ListsLaws.CountLaws.{one_taken}
use Rattle.cf_elab_initial.proofs.lists.counting.+counting.Goals as goal

pub some_of-loop-count-preserved : goal.some_of-loop-count-preserved
some_of-loop-count-preserved t c =
    let ts = trees_seen c.loop-count.left.now in
    let more : c.loop-count.count < c.args.most = omega (arith, c.loop-count-test.true) in
    let filled : is_nil ts ≡ false = sym c.is_none_left.ensures ∙ c.if-not-is_none_left.true in
    one_taken c.args.env.now.types c.args.ty c.args.most (trees_seen c.args.trees.now) c.loop-count.count ts c.loop-count.invariant (trees_seen c.behind_one-left.result.now) more filled
    c.behind_one-left.ensures
