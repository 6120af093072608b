-- What a function of code answers, where a definition of elaboration says the answer. Want of memory is free.
use Rattle.std.specs.Prelude.{◌≡◌, Result, Ok, Err}
use Rattle.cf_elab.specs.Env.{Env}
use Rattle.cf_elab.specs.Answer.{Answer, Made, Refused, Passed}
use Rattle.cf_elab_env.specs.declared.stop.Stop.{Stop}
use Rattle.cf_elab_env.specs.declared.stop.Stop.TheVariants.{Broken as RuleBroken, Passed as LimitPassed, Memory}

-- the same rule at the same place, or the same limit
abbrev pub Stops : {A : Type 0} → Answer A → Stop → Type 0
Stops answer (RuleBroken b) = answer ≡ Refused b.rule b.at
Stops answer (LimitPassed l) = answer ≡ Passed l.bound l.most
Stops answer Memory = Unit {0}

-- the same value, as the definitions see it, and the same state behind it
abbrev pub AgreesAs : {A B : Type 0} → (B → A) → Answer A → Result B Stop → Env → Type 0
AgreesAs seen answer (Ok b) env = answer ≡ Made (seen b) env
AgreesAs seen answer (Err stop) env = Stops answer stop

abbrev pub Agrees : {A : Type 0} → Answer A → Result A Stop → Env → Type 0
Agrees answer (Ok a) env = answer ≡ Made a env
Agrees answer (Err stop) env = Stops answer stop
