-- Phrases leave no more tokens than there were, and those that begin with a token leave fewer.
use Rattle.std.proofs.Common.{◌≡◌, ℕ, ◌<◌, ◌≤◌, Bool, true, false, cond, inl, inr, List, [], ◌∷◌, length, drop, Option, Some, None, nat_eq, refl, ◌∙◌, ap, arith}
use Rattle.cf_tokens.specs.declared.token.Token.{Token}
use Rattle.cf_syntax.specs.Words.{code, front}
use Rattle.cf_syntax.specs.Parse.{Parse, word}
use Rattle.cf_syntax.specs.Language.{Language, Empty, Never, Exactly, Word, Then, Either, Made, Where, Maybe, Many, By, Rather, ended, again}
use Rattle.cf_syntax.specs.Operators.{operator_of, found, operator}
use Rattle.cf_syntax.proofs.Good.{among, Starts, Eats, both-ways, cond-cases, some-is-not-none, some-value}
use Rattle.cf_syntax.proofs.Under.{Under}

abbrev pub Keeps : {A : Type 0} → Language A → Type 0
Keeps {A = A} L = (ts : List Token) (x : A) (rest : List Token) → L ts x rest → length rest ≤ length ts

pub keeps-empty : {A : Type 0} (x : A) → Keeps (Empty x)
keeps-empty x ts y rest l = let at = ap length l.1 in omega (arith, at)

pub keeps-never : {A : Type 0} → Keeps {A = A} Never
keeps-never ts x rest l = absurd l

pub keeps-exactly : {A : Type 0} (p : Parse A) → ((ts : List Token) → Under (length ts) (p ts)) → Keeps (Exactly p)
keeps-exactly p h ts x rest e = (h ts).by (x, rest) e

pub keeps-then : {A B : Type 0} (L : Language A) (M : A → Language B) → Keeps L → ((a : A) → Keeps (M a)) → Keeps (Then L M)
keeps-then L M k h ts b rest (a, mid, l, m) = let one = k ts a mid l in let two = h a mid b rest m in omega (arith, one, two)

pub keeps-made : {A B : Type 0} (f : A → B) (L : Language A) → Keeps L → Keeps (Made f L)
keeps-made f L k ts b rest (a, l, e) = k ts a rest l

pub keeps-either : {A : Type 0} (L M : Language A) → Keeps L → Keeps M → Keeps (Either L M)
keeps-either L M k h ts x rest (inl l) = k ts x rest l
keeps-either L M k h ts x rest (inr m) = h ts x rest m

pub keeps-where : {A : Type 0} (P : List Token → Type 0) (L : Language A) → Keeps L → Keeps (Where P L)
keeps-where P L k ts x rest l = k ts x rest l.1

pub keeps-by : {A : Type 0} (test : List Token → Bool) (L M : Language A) → Keeps L → Keeps M → Keeps (By test L M)
keeps-by test L M k h = keeps-either _ _ (keeps-where _ L k) (keeps-where _ M h)

pub keeps-rather : {A : Type 0} (P : List Token → Type 0) (L M : Language A) → Keeps L → Keeps M → Keeps (Rather P L M)
keeps-rather P L M k h = keeps-either _ _ (keeps-where _ L k) (keeps-where _ M h)

pub keeps-maybe : {A : Type 0} (M : A → Language A) (a : A) → ((a : A) → Keeps (M a)) → Keeps (Maybe M a)
keeps-maybe M a h = keeps-either _ _ (keeps-empty a) (h a)

pub keeps-many : {A : Type 0} (M : A → Language A) → ((a : A) → Keeps (M a)) → (a : A) → Keeps (Many M a)
keeps-many {A = A} M h a ts x rest m = go a ts x rest m
  where
    go : (a : A) (ts : List Token) (x : A) (rest : List Token) → Many M a ts x rest → length rest ≤ length ts
    go _ _ _ _ (ended a ts) = omega arith
    go _ _ _ _ (again a b c ts mid rest m more) = let one = h a ts b mid m in let two = go b mid c rest more in omega (arith, one, two)

-- ---- phrases that begin with a token

abbrev pair : ℕ → List Token → ℕ × List Token
pair x rest = (x, rest)

pub eats-word : (n : ℕ) → Eats (Word n)
eats-word n ts x rest e = go ts e
  where
    go : (ts : List Token) → word n ts ≡ Some (x, rest) → length rest < length ts
    go [] q = some-is-not-none None (pair x rest) refl q
    go (t ∷ us) q = cond-cases (nat_eq (code t.word) n) (Some (t.at, us)) None (Some (pair x rest)) q
        (λ _ h. let at = ap (λ (w : ℕ × List Token). length w.1) (some-value (t.at, us) (pair x rest) h) in omega (arith, at)) (λ _ h. some-is-not-none None (pair x rest) refl h)

pub eats-then : {A B : Type 0} (L : Language A) (M : A → Language B) → Eats L → ((a : A) → Keeps (M a)) → Eats (Then L M)
eats-then L M k h ts b rest (a, mid, l, m) = let one = k ts a mid l in let two = h a mid b rest m in omega (arith, one, two)

pub starts-then : {A B : Type 0} (firsts : List ℕ) (L : Language A) (M : A → Language B) → Starts firsts L → Starts firsts (Then L M)
starts-then firsts L M k ts b rest (a, mid, l, m) = k ts a mid l

pub eats-made : {A B : Type 0} (f : A → B) (L : Language A) → Eats L → Eats (Made f L)
eats-made f L k ts b rest (a, l, e) = k ts a rest l

pub starts-made : {A B : Type 0} (firsts : List ℕ) (f : A → B) (L : Language A) → Starts firsts L → Starts firsts (Made f L)
starts-made firsts f L k ts b rest (a, l, e) = k ts a rest l

pub keeps-eats : {A : Type 0} (L : Language A) → Eats L → Keeps L
keeps-eats L k ts x rest l = let less = k ts x rest l in omega (arith, less)

pub starts-by : {A : Type 0} (firsts : List ℕ) (test : List Token → Bool) (L M : Language A) → Starts firsts L → Starts firsts M → Starts firsts (By test L M)
starts-by firsts test L M k h ts x rest (inl l) = k ts x rest l.1
starts-by firsts test L M k h ts x rest (inr m) = h ts x rest m.1

pub eats-by : {A : Type 0} (test : List Token → Bool) (L M : Language A) → Eats L → Eats M → Eats (By test L M)
eats-by test L M k h ts x rest (inl l) = k ts x rest l.1
eats-by test L M k h ts x rest (inr m) = h ts x rest m.1

-- ---- operators

abbrev pub codes_of : {A : Type 0} → List (ℕ × A) → List ℕ
codes_of [] = []
codes_of (row ∷ rows) = row.0 ∷ codes_of rows

pub operator-among : {A : Type 0} (rows : List (ℕ × A)) (n : ℕ) (op : A) → operator_of rows n ≡ Some op → among (codes_of rows) n ≡ true
operator-among [] n op e = some-is-not-none None op refl e
operator-among (row ∷ rows) n op e = cond-cases (nat_eq n row.0) (Some row.1) (operator_of rows n) (Some op) e
    (λ same _. ap (λ b. cond b true (among (codes_of rows) n)) same)
    (λ other h. ap (λ b. cond b true (among (codes_of rows) n)) other ∙ operator-among rows n op h)

found-some : {A : Type 0} (o : Option A) (at : ℕ) (us : List Token) (x : ℕ × A) (rest : List Token) → found o at us ≡ Some (x, rest) → (o ≡ Some x.1) × (us ≡ rest)
found-some None at us x rest e = some-is-not-none None (x, rest) refl e
found-some (Some op) at us x rest e =
    let same = some-value ((at, op), us) (x, rest) e in (ap (λ w. Some w.0.1) same, ap (λ w. w.1) same)

pub starts-operator : {A : Type 0} (rows : List (ℕ × A)) → Starts (codes_of rows) (Exactly (operator rows))
starts-operator rows ts x rest e = operator-among rows (front ts) x.1 (found-some (operator_of rows (front ts)) _ (drop 1 ts) x rest e).0

pub eats-operator : {A : Type 0} (rows : List (ℕ × A)) → among (codes_of rows) 255 ≡ false → Eats (Exactly (operator rows))
eats-operator rows none [] x rest e = both-ways (among (codes_of rows) 255) (starts-operator rows [] x rest e) none
eats-operator rows none (t ∷ ts) x rest e =
    let at = ap length (found-some (operator_of rows (front (t ∷ ts))) _ ts x rest e).1 in omega (arith, at)
