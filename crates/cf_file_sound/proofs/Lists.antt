-- Lists: what is so of each element, whether a search finds one, and what a map keeps.
use Rattle.std.proofs.Common.{◌≡◌, ℕ, zero, suc, ◌+◌, Bool, true, false, cond, ◌||◌, not, nat_lt, List, [], ◌∷◌, length, map, ap, refl, sym, ◌∙◌, subst, arith}
use Rattle.std.specs.Prelude.{Some, None, is_some, find, position, slice_get}
use Rattle.std.specs.List.{list_any, list_all, prefix_len}
use Rattle.std.proofs.lemmas.Bool.Decides.{nat_tests}
use Rattle.cf_base.proofs.Tests.{all_of}
use Rattle.cf_file_sound.proofs.Typed.{never}

pub none-is : {A : Type 0} (a : A) → None ≡ Some a → ⊥
none-is a e = absurd (cc)

pub of-some : {A : Type 0} (a b : A) → Some a ≡ Some b → a ≡ b
of-some a b e = cc

pub negated : (b : Bool) → not b ≡ true → b ≡ false
negated true e = never e
negated false e = refl

module _ {A : Type 0} where
  -- what is so of each element is so of all
  pub all-by : (test : A → Bool) (xs : List A) → ((i : ℕ) (x : A) → slice_get xs i ≡ Some x → test x ≡ true) → list_all test xs ≡ true
  all-by test [] each = refl
  all-by test (x ∷ xs) each = all_of (test x) (list_all test xs) (each 0 x refl) (all-by test xs (λ i y at. each (suc i) y at))

  pub any-at : (test : A → Bool) (xs : List A) (i : ℕ) (x : A) → slice_get xs i ≡ Some x → test x ≡ true → list_any test xs ≡ true
  any-at test [] i x at is = absurd (none-is x at)
  any-at test (y ∷ xs) zero x at is = ap (λ b. b || list_any test xs) (subst (λ z. test z ≡ true) (sym (of-some y x at)) is)
  any-at test (y ∷ xs) (suc i) x at is = or-right (test y) (list_any test xs) (any-at test xs i x at is)
    where
      or-right : (a b : Bool) → b ≡ true → a || b ≡ true
      or-right true b e = refl
      or-right false b e = e

  pub found-any : (test : A → Bool) (xs : List A) → is_some (find test xs) ≡ list_any test xs
  found-any test [] = refl
  found-any test (x ∷ xs) = by (test x) (found-any test xs)
    where
      by : (b : Bool) → is_some (find test xs) ≡ list_any test xs → is_some (cond b (Some x) (find test xs)) ≡ b || list_any test xs
      by true rest = refl
      by false rest = rest

  pub placed-any : (test : A → Bool) (xs : List A) → is_some (position test xs) ≡ list_any test xs
  placed-any test xs = of-test (nat_lt (prefix_len (λ x. not (test x)) xs) (length xs)) ∙ less xs
    where
      of-test : (b : Bool) → is_some (cond b (Some (prefix_len (λ x. not (test x)) xs)) None) ≡ b
      of-test true = refl
      of-test false = refl

      less-both : (n l : ℕ) → nat_lt (1 + n) (suc l) ≡ nat_lt n l
      less-both n l = at (nat_lt n l) refl
        where
          at : (b : Bool) → nat_lt n l ≡ b → nat_lt (1 + n) (suc l) ≡ b
          at true h = grind (arith, nat_tests, h)
          at false h = grind (arith, nat_tests, h)

      less : (xs : List A) → nat_lt (prefix_len (λ x. not (test x)) xs) (length xs) ≡ list_any test xs
      less [] = refl
      less (x ∷ xs) = by (test x) (less xs)
        where
          by : (b : Bool) → nat_lt (prefix_len (λ x. not (test x)) xs) (length xs) ≡ list_any test xs
              → nat_lt (cond (not b) (1 + prefix_len (λ x. not (test x)) xs) 0) (suc (length xs)) ≡ b || list_any test xs
          by true rest = let h : nat_lt 0 (suc (length xs)) ≡ true = grind (arith, nat_tests) in h
          by false rest = less-both (prefix_len (λ x. not (test x)) xs) (length xs) ∙ rest

  -- an element that passes one test, taken by the map, passes the other
  pub any-map : {B : Type 0} (one : A → Bool) (other : B → Bool) (g : A → B) → ((x : A) → one x ≡ true → other (g x) ≡ true) → (xs : List A)
      → list_any one xs ≡ true → list_any other (map g xs) ≡ true
  any-map one other g go [] ok = never ok
  any-map one other g go (x ∷ xs) ok = by (any-map one other g go xs) (one x) refl ok
    where
      or-right : (a b : Bool) → b ≡ true → a || b ≡ true
      or-right true b e = refl
      or-right false b e = e

      by : (list_any one xs ≡ true → list_any other (map g xs) ≡ true) → (b : Bool) → one x ≡ b → b || list_any one xs ≡ true → other (g x) || list_any other (map g xs) ≡ true
      by later true is ok = ap (λ b. b || list_any other (map g xs)) (go x is)
      by later false is ok = or-right (other (g x)) (list_any other (map g xs)) (later ok)
