use Rattle.std.proofs.Common.{◌∙◌, get_or, max, sym, ap}
use Rattle.cf_compile.proofs.Greatest.{greatest-more, greatest-all}
use Rattle.cf_compile.proofs.making.greatest.Goals as goal

pub loop-bound-preserved : goal.loop-bound-preserved
loop-bound-preserved c =
    let bounds = c.args.bounds.now in
    let i = c.loop-bound.bound-index in
    c.max-most.ensures ∙ (ap (λ m. max m (get_or bounds i 0)) c.loop-bound.invariant ∙ sym (greatest-more bounds i 0 c.loop-bound-test.true))

pub returns : goal.returns
returns c = c.loop-bound.invariant ∙ greatest-all c.args.bounds.now c.loop-bound.bound-index c.loop-bound-test.false
