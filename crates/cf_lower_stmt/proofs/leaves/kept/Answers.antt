use Rattle.std.proofs.Common.{◌++◌, ap, ◌∙◌}
use Rattle.cf_lower_held.specs.Scenes.{holding}
use Rattle.cf_lower_stmt.specs.Steps.{inside, written}
use Rattle.cf_lower_stmt.proofs.Others.{other_kept}
use Rattle.cf_lower_stmt.proofs.leaves.kept.Goals as goal

pub returns-in_ok-kept_value-in_default : goal.returns-in_ok-kept_value-in_default
returns-in_ok-kept_value-in_default c =
    let x = c.args.x.now in
    λ around. c.in_ok-kept_value-in_default.ensures around
    ∙ ap (λ l. written c.args.code.now ++ l)
    (other_kept x (inside x around) (holding x c.args.rs.now) c.args.register c.args.a.now c.in_default.not-Call c.in_default.not-PointerCall)
