-- Initialisers of scalars, references and arrays (8.4).
use Rattle.std.proofs.Common.{◌≡◌, ℕ, Bool, true, false, ◌&&◌, ◌||◌, not, nat_le, List, length, find, Some, bytes_eq, slice_get, refl, ap, ◌∙◌}
use Rattle.cf_core.specs.Types.{Name, SourceType, reference, array, same_but_const}
use Rattle.cf_core.specs.Core.{Core, Cores, Static, no_temporary, local_temporary, static_temporary, bind, temporary, list, string, zeros, blank, none, more}
use Rattle.cf_core.specs.Typing.{Scope, of_place, same_type}
use Rattle.cf_core.specs.Typed.{typing, typings, all_start, is_char, is_reference, holds_for}
use Rattle.cf_core_typed.specs.Same.{Same, is_normal}
use Rattle.cf_core_typed.specs.Meets.{IsPlace}
use Rattle.cf_core_typed.proofs.Same.{and-both, same-told}
use Rattle.cf_core_typed.proofs.Values.{allow, of_place-is, place-is}

module _ (scope : Scope) where
  -- ---- references

  -- a reference binds a place
  pub bind-place : (e : Core) (t : SourceType) → IsPlace (typing scope e) t → (typing scope (bind no_temporary e)).start (reference t) ≡ true
  bind-place e t p = place-is (typing scope e) t p

  -- or a temporary that its value initialises, which lives to the end of the full expression
  pub temporary-is : (e : Core) (t : SourceType) → is_normal t ≡ true → (typing scope e).start t ≡ true → IsPlace (typing scope (temporary t e)) t
  temporary-is e t n h = allow (λ x. IsPlace x t) ((typing scope e).start t) (of_place t) h (of_place-is t n)

  -- or as long as the reference
  pub bind-local : (e : Core) (t : SourceType) (i : ℕ) → slice_get scope.locals i ≡ Some t → (typing scope e).start t ≡ true
      → (typing scope (bind (local_temporary i t) e)).start (reference t) ≡ true
  bind-local e t i here h =
      and-both (same_but_const t t && same_type (slice_get scope.locals i) t) ((typing scope e).start t)
      (and-both (same_but_const t t) (same_type (slice_get scope.locals i) t) (same-told t t refl) (ap (λ o. same_type o t) here ∙ same-told t t refl)) h

  pub bind-static : (e : Core) (t : SourceType) (name : Name) (x : Static) → find (λ (s : Static). bytes_eq s.name name) scope.statics ≡ Some x → Same x.type t
      → (typing scope e).start t ≡ true → (typing scope (bind (static_temporary name) e)).start (reference t) ≡ true
  bind-static e t name x here same h =
      and-both (holds_for scope (find (λ (s : Static). bytes_eq s.name name) scope.statics) t) ((typing scope e).start t)
      (ap (λ o. holds_for scope o t) here ∙ same-told x.type t same) h

  -- ---- arrays

  no_more : (n m : ℕ) (b : Bool) → b ≡ true → (nat_le n m || b) ≡ true
  no_more n m b h = by (nat_le n m)
    where
      by : (c : Bool) → (c || b) ≡ true
      by true = refl
      by false = h

  -- by its first elements, and zeros behind them
  pub list-array : (es : Cores) (t : SourceType) (n : ℕ) → nat_le (length (typings scope es)) n ≡ true → all_start scope t (typings scope es) ≡ true → is_reference scope t ≡ false
      → (typing scope (list es zeros)).start (array t n) ≡ true
  list-array es t n fit each r =
      and-both (nat_le (length (typings scope es)) n && all_start scope t (typings scope es)) (nat_le n (length (typings scope es)) || not (is_reference scope t))
      (and-both (nat_le (length (typings scope es)) n) (all_start scope t (typings scope es)) fit each)
      (no_more n (length (typings scope es)) (not (is_reference scope t)) (ap not r))

  pub all-none : (t : SourceType) → all_start scope t (typings scope none) ≡ true
  all-none t = refl

  pub all-more : (e : Core) (es : Cores) (t : SourceType) → (typing scope e).start t ≡ true → all_start scope t (typings scope es) ≡ true → all_start scope t (typings scope (more e es)) ≡ true
  all-more e es t h rest = and-both ((typing scope e).start t) (all_start scope t (typings scope es)) h rest

  -- by the bytes of a literal
  pub string-array : (bytes : List ℕ) (t : SourceType) (n : ℕ) → is_char scope t ≡ true → nat_le (length bytes) n ≡ true → (typing scope (string bytes)).start (array t n) ≡ true
  string-array bytes t n c fit = and-both (is_char scope t) (nat_le (length bytes) n) c fit

  -- what is left without an initialiser
  pub blank-starts : (t : SourceType) → is_reference scope t ≡ false → (typing scope blank).start t ≡ true
  blank-starts t r = ap not r

  pub zeros-start : (t : SourceType) → is_reference scope t ≡ false → (typing scope zeros).start t ≡ true
  zeros-start t r = ap not r
