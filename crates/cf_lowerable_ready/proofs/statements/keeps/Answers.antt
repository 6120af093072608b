use Rattle.cf_lowerable_ready.specs.Contents.{keeping, known}
use Rattle.cf_lowerable_ready.proofs.StepLaws.{set_fails, set_goes}
use Rattle.cf_lowerable_ready.proofs.statements.keeps.Goals as goal

pub returns-then-not-good : goal.returns-then-not-good
returns-then-not-good c =
    λ tables. set_fails (keeping tables c.args.cs.now) (keeping tables c.args.cs.now) c.args.register (known tables c.args.content.now) c.is_set-good.result (c.is_set-good.ensures tables)
    c.if-not-good.true

pub returns : goal.returns
returns c =
    λ tables. set_goes (keeping tables c.args.cs.now) (keeping tables c.keep.new.self) c.args.register (known tables c.args.content.now) c.is_set-good.result (c.is_set-good.ensures tables)
    c.if-not-good.false (c.in_ok-keep.ensures tables)
