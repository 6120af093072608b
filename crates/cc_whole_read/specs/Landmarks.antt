-- A landmark by its number.
use Rattle.std.specs.Prelude.{◌≡◌, ℕ, ◌+◌, ◌-◌, Bool, ◌==◌, if◌then◌else◌, List, [], ◌∷◌, ◌++◌, length, Option, Some, None}
use Rattle.cc_whole_tokens.specs.declared.token.Token.{Token}
use Rattle.cc_whole_laws.specs.Landmark.{landmark, landmarks_in}

abbrev pub is_one : ℕ → Bool
is_one n = n == 1

-- the token of this index is a landmark, before which this number of them stand
pub record Nth (tokens : List Token) (number index : ℕ) : Type 0 where
  pub before : List Token
  pub token : Token
  pub after : List Token
  pub parts : tokens ≡ before ++ (token ∷ after)
  pub place : index ≡ length before
  pub is_landmark : landmark token ≡ 1
  pub count : landmarks_in before ≡ number

-- how the code looks for it: so many are to be passed, from the token of this index on
abbrev pub landmark_from : List Token → ℕ → ℕ → Option ℕ
landmark_from [] index left = None
landmark_from (t ∷ ts) index left =
    if is_one (landmark t) then (if left == 0 then Some index else landmark_from ts (index + 1) (left - 1)) else landmark_from ts (index + 1) left
