-- Languages: which values the tokens from one place up to another spell.
--
-- A phrase begins with a list of tokens and ends where a rest of it begins. A production of the grammar is a
-- language made of these parts, and says nothing of how it is read.
use Rattle.std.specs.Prelude.{◌≡◌, ℕ, Bool, true, false, ◌⊎◌, List, Some}
use Rattle.cf_tokens.specs.declared.token.Token.{Token}
use Rattle.cf_syntax.specs.Parse.{Parse, word}

-- the tokens from the first list up to the second spell the value
abbrev pub Language : Type 0 → Type 1
Language A = List Token → A → List Token → Type 0

-- no tokens
abbrev pub Empty : {A : Type 0} → A → Language A
Empty x ts y rest = (y ≡ x) × (rest ≡ ts)

-- nothing is spelled so
abbrev pub Never : {A : Type 0} → Language A
Never ts x rest = ⊥

-- what a function of the tokens tells
abbrev pub Exactly : {A : Type 0} → Parse A → Language A
Exactly f ts x rest = f ts ≡ Some (x, rest)

-- the word of this code
abbrev pub Word : ℕ → Language ℕ
Word n = Exactly (word n)

-- one behind the other
abbrev pub Then : {A B : Type 0} → Language A → (A → Language B) → Language B
Then {A = A} L M ts b rest = (a : A) × (mid : List Token) × (L ts a mid) × (M a mid b rest)

abbrev pub Either : {A : Type 0} → Language A → Language A → Language A
Either L M ts x rest = L ts x rest ⊎ M ts x rest

-- a value made of another
abbrev pub Made : {A B : Type 0} → (A → B) → Language A → Language B
Made {A = A} f L ts b rest = (a : A) × (L ts a rest) × (b ≡ f a)

-- only where this holds of the tokens that begin there
abbrev pub Where : {A : Type 0} → (List Token → Type 0) → Language A → Language A
Where P L ts x rest = P ts × L ts x rest

-- what may follow a value, or nothing
abbrev pub Maybe : {A : Type 0} → (A → Language A) → A → Language A
Maybe M a = Either (Empty a) (M a)

-- what follows a value, any number of times
pub data Many {A : Type 0} (M : A → Language A) : A → List Token → A → List Token → Type 0 where
  ended : (a : A) (ts : List Token) → Many M a ts a ts
  again : (a b c : A) (ts mid rest : List Token) → M a ts b mid → Many M b mid c rest → Many M a ts c rest

-- one where the test holds of the tokens that begin there, and another elsewhere
abbrev pub By : {A : Type 0} → (List Token → Bool) → Language A → Language A → Language A
By test L M = Either (Where (λ ts. test ts ≡ true) L) (Where (λ ts. test ts ≡ false) M)

-- one where this can be read there, and another elsewhere
abbrev pub Rather : {A : Type 0} → (List Token → Type 0) → Language A → Language A → Language A
Rather P L M = Either (Where P L) (Where (λ ts. P ts → ⊥) M)
