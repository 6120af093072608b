use Rattle.std.proofs.Common.{◌≡◌, ◌∙◌, Bool, true, ap, sym, not, rules}
use Rattle.std.specs.Prelude.{◌&&◌}
use Rattle.cf_core.specs.Joined.{is_nothing}
use Rattle.cf_run_tree.specs.Tree.{core_of}
use Rattle.cf_core_run.proofs.statics.sets_constant.Goals as goal

pub returns-then-x : goal.returns-then-x
returns-then-x c = λ T p.
    ap not (c.is_blank.ensures T p)
    ∙ sym (ap (λ (b : Bool). b && not (is_nothing (core_of T p c.args.x.now.start))) (let h : c.args.x.now.is_constant ≡ true = search rules in h))
