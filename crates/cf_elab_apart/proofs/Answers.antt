-- Answers of which something is known at once, and answers that are fine in two ways.
use Rattle.std.proofs.Common.{◌≡◌, sym, subst}
use Rattle.cf_elab.specs.Answer.{Answer, Made, Refused, Passed, onward}
use Rattle.cf_elab.specs.Env.{Env}
use Rattle.cf_elab_valid.specs.Answers.{Fine, FineAs}
use Rattle.cf_elab_valid.specs.Scene.{Scene, Within, Steps, Classless, Holds}
use Rattle.cf_elab_valid.proofs.FitRows.{Still}
use Rattle.cf_elab_valid.proofs.Ways.{within-before, When}

-- of what is made this is known
abbrev pub Known : {A : Type 0} → (A → Type 0) → Answer A → Type 0
Known K (Made x f) = K x
Known K (Refused rule at) = Unit {0}
Known K (Passed bound most) = Unit {0}

-- whatever is made first
pub known-onward : {A B : Type 0} (K : B → Type 0) (r : Answer A) (go : A → Env → Answer B) → ((a : A) (f : Env) → Known K (go a f)) → Known K (onward r go)
known-onward K (Made a f) go next = next a f
known-onward K (Refused rule at) go next = tt
known-onward K (Passed bound most) go next = tt

-- behind what is known of the first
pub known-then : {A B : Type 0} (J : A → Type 0) (K : B → Type 0) (r : Answer A) (go : A → Env → Answer B) → Known J r → ((a : A) (f : Env) → J a → Known K (go a f)) → Known K (onward r go)
known-then J K (Made a f) go j next = next a f j
known-then J K (Refused rule at) go j next = tt
known-then J K (Passed bound most) go j next = tt

pub known-as : {A : Type 0} (J K : A → Type 0) (r : Answer A) → ((a : A) → J a → K a) → Known J r → Known K r
known-as J K (Made a f) turn j = turn a j
known-as J K (Refused rule at) turn j = tt
known-as J K (Passed bound most) turn j = tt

pub known-any : {A : Type 0} (K : A → Type 0) (r : Answer A) → ((a : A) → K a) → Known K r
known-any K (Made a f) all = all a
known-any K (Refused rule at) all = tt
known-any K (Passed bound most) all = tt

-- behind a check
pub still-known : {A B : Type 0} (K : B → Type 0) (e : Env) (r : Answer A) (go : Env → Answer B) → Still e r → Known K (go e) → Known K (onward r (λ _. go))
still-known K e (Made a f) go h k = subst (λ x. Known K (go x)) (sym h) k
still-known K e (Refused rule at) go h k = tt
still-known K e (Passed bound most) go h k = tt

-- ---- fine answers

pub fine-both : {A : Type 0} (s : Scene) (P Q : A → Env → Type 0) (e : Env) (r : Answer A) → Fine s P e r → Fine s Q e r → Fine s (λ x f. P x f × Q x f) e r
fine-both s P Q e (Made a b) g k = record { steps = g.steps; classless = g.classless; holds = g.holds; made = λ w. (g.made w, k.made w) }
fine-both s P Q e (Refused rule at) g k = tt
fine-both s P Q e (Passed bound most) g k = tt

pub as-both : {A : Type 0} (s : Scene) (S : A → Type 0) (P Q : A → Env → Type 0) (e : Env) (r : Answer A) → FineAs s S P e r → Fine s Q e r → FineAs s S (λ x f. P x f × Q x f) e r
as-both s S P Q e (Made a b) g k = (record { steps = g.0.steps; classless = g.0.classless; holds = g.0.holds; made = λ w. (g.0.made w, k.made w) }, g.1)
as-both s S P Q e (Refused rule at) g k = tt
as-both s S P Q e (Passed bound most) g k = tt

-- what is known where the environment before leads to the end
pub known-fine : {A : Type 0} (s : Scene) (P : A → Env → Type 0) (K : A → Type 0) (e : Env) (r : Answer A) → Fine s P e r → Known (λ x. Within e s → K x) r → Fine s (λ x f. K x) e r
known-fine s P K e (Made a b) g k = record { steps = g.steps; classless = g.classless; holds = g.holds; made = λ w. k (within-before e b s g.steps w) }
known-fine s P K e (Refused rule at) g k = tt
known-fine s P K e (Passed bound most) g k = tt

-- ---- what is told in each end that the environment behind leads to

abbrev pub Tells : {A : Type 0} → Scene → (A → Type 0) → Answer A → Type 0
Tells s K (Made x f) = Within f s → K x
Tells s K (Refused rule at) = Unit {0}
Tells s K (Passed bound most) = Unit {0}

pub tells-known : {A : Type 0} (s : Scene) (K : A → Type 0) (r : Answer A) → Known K r → Tells s K r
tells-known s K (Made x f) k = λ w. k
tells-known s K (Refused rule at) k = tt
tells-known s K (Passed bound most) k = tt

pub tells-fine : {A : Type 0} (s : Scene) (K : A → Type 0) (e : Env) (r : Answer A) → Fine s (λ x f. K x) e r → Tells s K r
tells-fine s K e (Made x f) k = λ w. k.made w
tells-fine s K e (Refused rule at) k = tt
tells-fine s K e (Passed bound most) k = tt

pub fine-tells : {A : Type 0} (s : Scene) (P : A → Env → Type 0) (K : A → Type 0) (e : Env) (r : Answer A) → Fine s P e r → Tells s K r → Fine s (λ x f. K x) e r
fine-tells s P K e (Made x f) g k = record { steps = g.steps; classless = g.classless; holds = g.holds; made = k }
fine-tells s P K e (Refused rule at) g k = tt
fine-tells s P K e (Passed bound most) g k = tt

pub tells-behind : {A B : Type 0} (s : Scene) (P : A → Env → Type 0) (K : B → Type 0) (e : Env) (r : Answer A) (go : A → Env → Answer B) → Fine s P e r
    → ((a : A) (e1 : Env) → Steps e e1 → Classless e1 → When s e1 (Holds s e1) → When s e1 (P a e1) → Tells s K (go a e1)) → Tells s K (onward r go)
tells-behind s P K e (Made a e1) go g next = next a e1 g.steps g.classless g.holds g.made
tells-behind s P K e (Refused rule at) go g next = tt
tells-behind s P K e (Passed bound most) go g next = tt

pub tells-still : {A B : Type 0} (s : Scene) (K : B → Type 0) (e : Env) (r : Answer A) (go : Env → Answer B) → Still e r → Tells s K (go e) → Tells s K (onward r (λ _. go))
tells-still s K e (Made a f) go h k = subst (λ x. Tells s K (go x)) (sym h) k
tells-still s K e (Refused rule at) go h k = tt
tells-still s K e (Passed bound most) go h k = tt

-- behind a first answer that is fine, and of which something is told
pub tells-through : {A B : Type 0} (s : Scene) (P : A → Env → Type 0) (J : A → Type 0) (K : B → Type 0) (e : Env) (r : Answer A) (go : A → Env → Answer B) → Fine s P e r → Tells s J r
    → ((a : A) (e1 : Env) → Steps e e1 → Classless e1 → When s e1 (Holds s e1) → When s e1 (P a e1) → When s e1 (J a) → Tells s K (go a e1)) → Tells s K (onward r go)
tells-through s P J K e (Made a e1) go g j next = next a e1 g.steps g.classless g.holds g.made j
tells-through s P J K e (Refused rule at) go g j next = tt
tells-through s P J K e (Passed bound most) go g j next = tt

pub tells-then : {A B : Type 0} (s : Scene) (J : A → Type 0) (K : B → Type 0) (r : Answer A) (go : A → Env → Answer B) → Tells s J r → ((a : A) (f : Env) → When s f (J a) → Tells s K (go a f)) → Tells s K (onward r go)
tells-then s J K (Made a f) go j next = next a f j
tells-then s J K (Refused rule at) go j next = tt
tells-then s J K (Passed bound most) go j next = tt
