use Rattle.cf_core_run.proofs.NearLaws.{pushed-left}
use Rattle.std.proofs.Common.{◌∙◌, ◌++◌, ◌∷◌, [], ℕ, ap, arith}
use Rattle.std.specs.Global.{Global}
use Rattle.std.specs.Prelude.{Vec}
use Rattle.cf_core_run.specs.declared.mark.ValueMark.TheVariants as vm
use Rattle.cf_core_run.specs.declared.mark.Mark.TheVariants as mark
use Rattle.cf_core_run.proofs.Goes.{start-opens}
use Rattle.cf_core_run.proofs.state.Machine.open_start.Goals as goal

pub returns-clause-opens : goal.returns-clause-opens
returns-clause-opens c = start-opens c.args.self.now c.push.new.self c.push-2.new.self c.args.goal c.args.mark c.replace-around.new.dest c.in_ok-push.ensures.items
    (c.in_ok-push-2.ensures.items ∙ ap (λ (v : Vec ℕ Global). c.push.new.self.items ++ mark.Value c.args.self.now.fuel (vm.Stored c.args.goal v) ∷ []) c.replace-around.ensures.value) (ap (λ (v : Vec ℕ Global). v.items) c.replace-around.ensures.after ∙ c.new.ensures.items)

pub returns-clause-within : goal.returns-clause-within
returns-clause-within c = omega (arith, pushed-left _ _ _ c.in_ok-push.ensures.items, pushed-left _ _ _ c.in_ok-push-2.ensures.items)
