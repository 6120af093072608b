-- Chains of answers.
use Rattle.std.proofs.Common.{◌≡◌, refl}
use Rattle.cf_elab.specs.Answer.{Answer, Made, Refused, Passed, Elab, onward}
use Rattle.cf_elab.specs.Env.{Env}

pub onward-assoc : {A B C : Type 0} (a : Answer A) (f : A → Elab B) (g : B → Elab C) → onward (onward a f) g ≡ onward a (λ x env. onward (f x env) g)
onward-assoc (Made x env) f g = refl
onward-assoc (Refused rule at) f g = refl
onward-assoc (Passed bound most) f g = refl

-- what is the same of each value is so behind an answer
pub onward-same : {A B : Type 0} (a : Answer A) (f g : A → Elab B) → ((x : A) (env : Env) → f x env ≡ g x env) → onward a f ≡ onward a g
onward-same (Made x env) f g same = same x env
onward-same (Refused rule at) f g same = refl
onward-same (Passed bound most) f g same = refl
