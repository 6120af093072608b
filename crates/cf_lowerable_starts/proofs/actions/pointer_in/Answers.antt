use Rattle.std.proofs.Common.{ap, ◌∙◌}
use Rattle.cf_lower_constants.specs.Knowing.{known_in}
use Rattle.cf_lower_program.specs.Alike.{pointer_fact}
use Rattle.cf_lowerable_starts.specs.Telling.{detail_in, knows, tells}
use Rattle.cf_lowerable_starts.proofs.actions.pointer_in.Goals as goal

pub returns : goal.returns
returns c =
    let x = c.args.x.now in
    let s = c.args.s.now in
    let tables = x.tables.now in
    let a = c.in_ok-a.a in
    let b = c.in_ok-b.b in
    let f = detail_in tables c.get-first.result in
    let h = detail_in tables c.get-second.result in
    let k = knows x s c.args.left in
    let m = knows x s c.args.right in
    c.in_ok-given.ensures tables a.target b.target a.name b.name ∙ ap (λ v. pointer_fact c.args.op (known_in tables v) (known_in tables b) f h) c.in_ok-a.ensures
    ∙ ap (λ v. pointer_fact c.args.op k (known_in tables v) f h) c.in_ok-b.ensures ∙ ap (λ d. pointer_fact c.args.op k m (detail_in tables d) h) c.get-first.ensures
    ∙ ap (λ d. pointer_fact c.args.op k m ((tells x s).facts c.args.left) (detail_in tables d)) c.get-second.ensures
