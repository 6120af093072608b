-- The longest phrase of a language.
use Rattle.std.specs.Prelude.{◌≡◌, ◌≤◌, List, [], length}
use Rattle.cf_tokens.specs.declared.token.Token.{Token}
use Rattle.cf_syntax.specs.Language.{Language}

-- a phrase, and no phrase from the same token on is longer
pub record IsLongest {A : Type 0} (L : Language A) (ts : List Token) (x : A) (rest : List Token) : Type 0 where
  pub spells : L ts x rest
  pub longest : (y : A) (after : List Token) → L ts y after → length rest ≤ length after

-- tokens have at most one longest phrase, and it has one value
abbrev pub HasOneLongest : {A : Type 0} → Language A → Type 0
HasOneLongest {A = A} L = (ts : List Token) (x y : A) (rest after : List Token) → IsLongest L ts x rest → IsLongest L ts y after → (x ≡ y) × (rest ≡ after)

-- whole tokens have at most one value
abbrev pub HasOneTree : {A : Type 0} → Language A → Type 0
HasOneTree {A = A} L = (ts : List Token) (x y : A) → L ts x [] → L ts y [] → x ≡ y
