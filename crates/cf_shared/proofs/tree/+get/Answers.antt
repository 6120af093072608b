use Rattle.std.proofs.Common.{◌-◌, Some, ap, sym, ◌∙◌, arith}
use Rattle.std.specs.Option.{option_copied}
use Rattle.cf_shared.specs.At.{at}
use Rattle.cf_shared.proofs.Indices.{at-empty, at-here, at-odd, at-even, opened-fork}
use Rattle.cf_shared.proofs.tree.+get.Goals as goal

pub returns-in_default : goal.returns-in_default
returns-in_default g t c = sym (ap (λ t. at t c.args.index) c.in_default.is ∙ at-empty c.args.index)

pub returns-in-Some : goal.returns-in-Some
returns-in-Some g t c =
    let root = opened-fork c.args.tree.now c.in-Fork.fork c.get-fork.result.now c.in-Fork.is c.get-fork.ensures in
    sym (at-here c.args.tree.now c.get-fork.result.now root c.args.index c.if-index-eq0.true ∙ c.in-Some.is ∙ ap Some (sym c.get.ensures))

pub returns-in-None : goal.returns-in-None
returns-in-None g t c =
    let root = opened-fork c.args.tree.now c.in-Fork.fork c.get-fork.result.now c.in-Fork.is c.get-fork.ensures in
    sym (at-here c.args.tree.now c.get-fork.result.now root c.args.index c.if-index-eq0.true ∙ c.in-None.is)

pub returns-then-beyond-eq0 : goal.returns-then-beyond-eq0
returns-then-beyond-eq0 g t c =
    let root = opened-fork c.args.tree.now c.in-Fork.fork c.get-fork.result.now c.in-Fork.is c.get-fork.ensures in
    c.get-then-beyond-eq0.ensures
    ∙ sym (at-odd c.args.tree.now c.get-fork.result.now root c.args.index (c.args.index - 1) (omega (arith, c.if-index-eq0.false)) c.if-beyond-eq0.true)

pub returns-else-beyond-eq0 : goal.returns-else-beyond-eq0
returns-else-beyond-eq0 g t c =
    let root = opened-fork c.args.tree.now c.in-Fork.fork c.get-fork.result.now c.in-Fork.is c.get-fork.ensures in
    c.get-else-beyond-eq0.ensures
    ∙ sym (at-even c.args.tree.now c.get-fork.result.now root c.args.index (c.args.index - 1) (omega (arith, c.if-index-eq0.false)) (omega (arith, c.if-beyond-eq0.false)))
