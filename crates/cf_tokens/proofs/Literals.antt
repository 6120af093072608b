-- Reading a literal from left to right.
use Rattle.std.proofs.Common.{◌≡◌, ℕ, suc, ◌+◌, ◌-◌, ◌<◌, ◌≤◌, List, [], ◌∷◌, ◌++◌, drop, length, get_or, Option, Some, None, true, false, refl, nat_eq, append_assoc, add_assoc, zero-add, arith, ◌∙◌, sym, ap}
use Rattle.std.proofs.lemmas.List.{drop-drop, append-nil, length-drop}
use Rattle.cf_tokens.specs.Literal.{characters, before}
use Rattle.cf_tokens.specs.Character.{unit_at}

-- these values and bytes before the others
abbrev pub behind_those : List ℕ → ℕ → Option (List ℕ × ℕ) → Option (List ℕ × ℕ)
behind_those values n (Some (more, m)) = Some (values ++ more, n + m)
behind_those values n None = None

-- the whole is these values, spelled by the bytes before `at`, and what at most `most` characters from there on are
pub record ReadSoFar (bytes values : List ℕ) (at most : ℕ) : Type 0 where
  pub whole : characters (length bytes) bytes ≡ behind_those values at (characters most (drop at bytes))
  pub within : at ≤ length bytes

behind-before : (values : List ℕ) (at value n : ℕ) (read : Option (List ℕ × ℕ))
    → behind_those values at (before (value, n) read) ≡ behind_those (values ++ value ∷ []) (at + n) read
behind-before values at value n (Some (more, m)) = rw (append_assoc, add_assoc) refl
behind-before values at value n None = refl

behind-nil : (read : Option (List ℕ × ℕ)) → read ≡ behind_those [] 0 read
behind-nil (Some (more, m)) = rw zero-add refl
behind-nil None = refl

pub read_nothing : (bytes : List ℕ) → ReadSoFar bytes [] 0 (length bytes - 0)
read_nothing bytes =
    let most : length bytes - 0 ≡ length bytes = omega arith in
    record { whole = rw most (behind-nil (characters (length bytes) bytes)); within = omega arith }

-- one more character
pub step : (most value n : ℕ) (rest : List ℕ) → nat_eq (get_or rest 0 0) 34 ≡ false → unit_at rest ≡ Some (value, n)
    → characters (suc most) rest ≡ before (value, n) (characters most (drop n rest))
step most value n rest no_end unit = rw (no_end, unit) refl

pub read_more : (bytes values rest : List ℕ) (at turn end value n : ℕ) → ReadSoFar bytes values at (end - turn) → turn < end
    → rest ≡ drop at bytes → nat_eq (get_or rest 0 0) 34 ≡ false → unit_at rest ≡ Some (value, n) → n ≤ length rest
    → ReadSoFar bytes (values ++ value ∷ []) (at + n) (end - (turn + 1))
read_more bytes values rest at turn end value n so_far turns is no_end unit fits =
    let most : end - turn ≡ suc (end - (turn + 1)) = omega arith in
    let here : characters (end - turn) (drop at bytes) ≡ before (value, n) (characters (end - (turn + 1)) (drop n rest))
    = rw (← is, most) (step (end - (turn + 1)) value n rest no_end unit) in
    let behind : drop n rest ≡ drop (at + n) bytes = rw is (drop-drop n at bytes) in
    record {
      whole = so_far.whole ∙ (ap (behind_those values at) here
          ∙ (behind-before values at value n (characters (end - (turn + 1)) (drop n rest))
          ∙ ap (λ r. behind_those (values ++ value ∷ []) (at + n) (characters (end - (turn + 1)) r)) behind));
      within = omega (arith, so_far.within, fits, ap length is ∙ length-drop at bytes);
    }

pub at_end : (most : ℕ) (rest : List ℕ) → nat_eq (get_or rest 0 0) 34 ≡ true → characters (suc most) rest ≡ Some ([], 1)
at_end most rest end = rw end refl

pub read_all : (bytes values rest : List ℕ) (at turn end : ℕ) → ReadSoFar bytes values at (end - turn) → turn < end
    → rest ≡ drop at bytes → nat_eq (get_or rest 0 0) 34 ≡ true → Some (values, at + 1) ≡ characters (length bytes) bytes
read_all bytes values rest at turn end so_far turns is ends =
    let most : end - turn ≡ suc (end - (turn + 1)) = omega arith in
    let here : characters (end - turn) (drop at bytes) ≡ Some ([], 1) = rw (← is, most) (at_end (end - (turn + 1)) rest ends) in
    sym (so_far.whole ∙ (ap (behind_those values at) here ∙ ap (λ v. Some (v, at + 1)) (append-nil values)))

at_none : (most : ℕ) (rest : List ℕ) → nat_eq (get_or rest 0 0) 34 ≡ false → unit_at rest ≡ None → characters (suc most) rest ≡ None
at_none most rest no_end none = rw (no_end, none) refl

pub read_none : (bytes values rest : List ℕ) (at turn end : ℕ) → ReadSoFar bytes values at (end - turn) → turn < end
    → rest ≡ drop at bytes → nat_eq (get_or rest 0 0) 34 ≡ false → unit_at rest ≡ None → None ≡ characters (length bytes) bytes
read_none bytes values rest at turn end so_far turns is no_end none =
    let most : end - turn ≡ suc (end - (turn + 1)) = omega arith in
    let here : characters (end - turn) (drop at bytes) ≡ None = rw (← is, most) (at_none (end - (turn + 1)) rest no_end none) in
    sym (so_far.whole ∙ ap (behind_those values at) here)

pub read_out : (bytes values : List ℕ) (at turn end : ℕ) → ReadSoFar bytes values at (end - turn) → end ≤ turn
    → None ≡ characters (length bytes) bytes
read_out bytes values at turn end so_far turns =
    let none : end - turn ≡ 0 = omega arith in
    sym (so_far.whole ∙ ap (λ most. behind_those values at (characters most (drop at bytes))) none)
