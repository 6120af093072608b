use Rattle.std.proofs.Common.{◌∙◌, List, ℕ, ap, sym}
use Rattle.cf_core.specs.Calls.{argument}
use Rattle.cf_core_objects.specs.Store.{state_of}
use Rattle.cf_core_run.proofs.Laws.{nil}
use Rattle.cf_core_run.proofs.state.Machine.first_argument.Goals as goal

pub returns-in-None : goal.returns-in-None
returns-in-None c = λ T. sym (ap (λ (l : List ℕ). argument l (state_of T c.args.self.now.entered c.args.self.now.objects)) (nil c.args.made.now c.in-None.ensures.cases))

pub returns-in-Some : goal.returns-in-Some
returns-in-Some c = λ T. sym (c.whole_held.ensures T) ∙ sym (ap (λ (l : List ℕ). argument l (state_of T c.args.self.now.entered c.args.self.now.objects)) c.in-Some.ensures.cases.0)
