use Rattle.std.proofs.Common.{◌∙◌, sym, arith}
use Rattle.cf_elab_ends.proofs.NameLaws.{one_twice, one_more, still_differ}
use Rattle.cf_elab_ends.proofs.names.all_differ.Goals as goal

pub returns-then-has : goal.returns-then-has
returns-then-has c =
    one_twice c.args.all.now c.loop-left.left _ c.loop-left.behind (omega arith) c.loop-left.invariant.within c.loop-left.invariant.names (sym c.has.ensures ∙ c.if-has.true)

pub loop-left-preserved : goal.loop-left-preserved
loop-left-preserved c = record {
  within = omega (arith, c.loop-left.invariant.within);
  names = one_more c.args.all.now c.loop-left.left _ c.loop-left.behind (omega arith) c.loop-left.invariant.within c.loop-left.invariant.names c.add.new.self c.in_ok-add.ensures;
  differ =
      still_differ c.args.all.now c.loop-left.left _ c.loop-left.behind (omega arith) c.loop-left.invariant.within c.loop-left.invariant.names (sym c.has.ensures ∙ c.if-has.false)
      c.loop-left.invariant.differ;
}
