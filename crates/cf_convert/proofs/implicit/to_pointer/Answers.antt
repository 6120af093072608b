use Rattle.std.proofs.Common.{ap, ◌∙◌, []}
use Rattle.cf_convert.specs.Constness.{is_const}
use Rattle.cf_convert.specs.Converts.{with_const, pointee}
use Rattle.cf_convert.proofs.Steps.{with_const-front, gives}
use Rattle.cf_convert.proofs.implicit.to_pointer.Goals as goal

pub returns : goal.returns
returns c =
    let types = c.args.types.now in
    let front = c.args.steps in
    gives c.with_const.result _ _
    (ap (λ b. with_const b c.is_const-2.result c.in_ok-steps.steps) c.is_const.ensures
    ∙ ap (λ b. with_const (is_const types c.args.from) b c.in_ok-steps.steps) c.is_const-2.ensures
    ∙ ap (with_const (is_const types c.args.from) (is_const types c.args.to)) c.in_ok-steps.ensures
    ∙ with_const-front front (is_const types c.args.from) (is_const types c.args.to) (pointee types [] c.args.from c.args.to))
    c.with_const.ensures
