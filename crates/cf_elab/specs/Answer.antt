-- What elaboration answers: a value and what is known behind it, the first broken rule with its place, or a limit that is passed.
--
-- A definition of a construct is a chain: its parts from left to right, and then its checks in order. The first that fails is the answer.
use Rattle.std.specs.Prelude.{ℕ, Bool, true, false, List, [], ◌∷◌, Option, None, Some}
use Rattle.cf_base.specs.declared.limit.Bound.{Bound}
use Rattle.cf_elab.specs.Env.{Env, Hand}

pub data Answer (A : Type 0) : Type 0 where
  Made : A → Env → Answer A
  Refused : ℕ → ℕ → Answer A  -- the rule's number and the place
  Passed : Bound → ℕ → Answer A  -- the limit, and the most that it allows

abbrev pub Elab : Type 0 → Type 0
Elab A = Env → Answer A

abbrev pub onward : {A B : Type 0} → Answer A → (A → Elab B) → Answer B
onward (Made a env) go = go a env
onward (Refused rule at) go = Refused rule at
onward (Passed bound most) go = Passed bound most

-- one, and then what its value leads to
abbrev pub ◌>>=◌ : {A B : Type 0} → Elab A → (A → Elab B) → Elab B
◌>>=◌ first go = λ env. onward (first env) go

abbrev pub ◌>>◌ : {A B : Type 0} → Elab A → Elab B → Elab B
◌>>◌ first next = λ env. onward (first env) (λ _. next)

infixl 1 ◌>>=◌
infixl 1 ◌>>◌
abbrev pub gives : {A : Type 0} → A → Elab A
gives a = λ env. Made a env

abbrev pub done : Elab (Unit {0})
done = gives tt

-- the rule of this number is broken at this place
abbrev pub breaks : {A : Type 0} → ℕ → ℕ → Elab A
breaks rule at = λ env. Refused rule at

abbrev pub passes : {A : Type 0} → Bound → ℕ → Elab A
passes bound most = λ env. Passed bound most

-- where this does not hold, the rule is broken at the place
abbrev pub need : Bool → ℕ → ℕ → Elab (Unit {0})
need true rule at = done
need false rule at = breaks rule at

-- where there is a place at fault, the rule is broken there
abbrev pub none_at : Option ℕ → ℕ → Elab (Unit {0})
none_at None rule = done
none_at (Some at) rule = breaks rule at

-- the value, or the rule is broken
abbrev pub wanted : {A : Type 0} → Option A → ℕ → ℕ → Elab A
wanted None rule at = breaks rule at
wanted (Some a) rule at = gives a

abbrev pub known : Elab Env
known = λ env. Made env env

abbrev pub changed : (Env → Env) → Elab (Unit {0})
changed f = λ env. Made tt (f env)

abbrev pub hand_changed : (Hand → Hand) → Elab (Unit {0})
hand_changed f = changed (λ env. record env { hand = f env.hand })

-- each in order
abbrev pub each : {A B : Type 0} → (A → Elab B) → List A → Elab (List B)
each f [] = gives []
each f (x ∷ xs) = do
  y ← f x
  ys ← each f xs
  gives (y ∷ ys)

abbrev pub all : {A : Type 0} → List (Elab A) → Elab (List A)
all [] = gives []
all (x ∷ xs) = do
  y ← x
  ys ← all xs
  gives (y ∷ ys)

abbrev pub for_each : {A : Type 0} → (A → Elab (Unit {0})) → List A → Elab (Unit {0})
for_each f [] = done
for_each f (x ∷ xs) = f x >> for_each f xs

abbrev pub maybe : {A B : Type 0} → (A → Elab B) → Option A → Elab (Option B)
maybe f None = gives None
maybe f (Some x) = do
  y ← f x
  gives (Some y)
