-- Pointers moved and compared, by what a register holds.
use Rattle.std.proofs.Common.{◌≡◌, ℕ, Bool, true, false, List, Option, Some, None, refl, sym, ap, ◌∙◌}
use Rattle.std.specs.Option.{option_map}
use Rattle.cc_whole.specs.Plain.{Expression, binary}
use Rattle.cf_base.specs.declared.arith.Arith.{Arith}
use Rattle.cf_base.specs.declared.arith.Arith.TheVariants as op
use Rattle.cf_core.specs.Classes.{Class}
use Rattle.cf_core.specs.FromTypes.{Tables}
use Rattle.cf_core.specs.Size.{size}
use Rattle.cf_core.specs.Types.{SourceType}
use Rattle.cf_lower_layout.specs.Sorts.{number, address, code}
use Rattle.cf_lower.specs.Kept.{Kept, unknown, integer_of, holds, argument}
use Rattle.cf_lower.specs.Expressions.{zero, address_in, integer_in, element_bytes, moved_by, sum_by, equated}
use Rattle.cf_lower_held.specs.Holds.{place_type, is_function}
use Rattle.cf_lower_types.specs.declared.place.PlaceType.{PlaceType}
use Rattle.cf_lower_types.specs.Bare.{type_in}

some_same : (a b : SourceType) → Some a ≡ Some b → a ≡ b
some_same a b e = cc

module _ (classes : List Class) (tables : Tables) (k : Kept) (o : Option PlaceType) (is : option_map (type_in tables) o ≡ place_type k) where
  here : (p : PlaceType) → o ≡ Some p → Some (type_in tables p) ≡ place_type k
  here p some = sym (ap (option_map (type_in tables)) some) ∙ is

  nowhere : o ≡ None → None ≡ place_type k
  nowhere none = sym (ap (option_map (type_in tables)) none) ∙ is

  -- ---- the bytes of an element

  bytes_here : (k : Kept) (t : SourceType) → Some t ≡ place_type k → size classes t ≡ element_bytes classes k
  bytes_here unknown t e = cc
  bytes_here (integer_of f) t e = cc
  bytes_here (holds (number l)) t e = cc
  bytes_here (holds (address u)) t e = ap (size classes) (some_same t u e)
  bytes_here (holds (code u)) t e = cc
  bytes_here (argument i u) t e = cc

  bytes_nowhere : (k : Kept) → None ≡ place_type k → 1 ≡ element_bytes classes k
  bytes_nowhere unknown e = refl
  bytes_nowhere (integer_of f) e = refl
  bytes_nowhere (holds (number l)) e = refl
  bytes_nowhere (holds (address u)) e = cc
  bytes_nowhere (holds (code u)) e = refl
  bytes_nowhere (argument i u) e = refl

  pub bytes_some : (p : PlaceType) (n : ℕ) → o ≡ Some p → n ≡ size classes (type_in tables p) → n ≡ element_bytes classes k
  bytes_some p n some bytes = bytes ∙ bytes_here k (type_in tables p) (here p some)

  pub bytes_none : o ≡ None → 1 ≡ element_bytes classes k
  bytes_none none = bytes_nowhere k (nowhere none)

  -- ---- a pointer and an integer

  module _ (j : Kept) (r q : ℕ) (e : Expression) where
    pub sum_first : (p : PlaceType) → o ≡ Some p → e ≡ moved_by op.Add (address_in r) (element_bytes classes k) (integer_in q) → e ≡ sum_by classes k j r q
    sum_first p some made = made ∙ by k (here p some)
      where
        by : (k : Kept) → Some (type_in tables p) ≡ place_type k → moved_by op.Add (address_in r) (element_bytes classes k) (integer_in q) ≡ sum_by classes k j r q
        by unknown h = cc
        by (integer_of f) h = cc
        by (holds (number l)) h = cc
        by (holds (address t)) h = refl
        by (holds (code t)) h = cc
        by (argument i t) h = cc

    pub sum_second : o ≡ None → e ≡ moved_by op.Add (address_in q) (element_bytes classes j) (integer_in r) → e ≡ sum_by classes k j r q
    sum_second none made = made ∙ by k (nowhere none)
      where
        by : (k : Kept) → None ≡ place_type k → moved_by op.Add (address_in q) (element_bytes classes j) (integer_in r) ≡ sum_by classes k j r q
        by unknown h = refl
        by (integer_of f) h = refl
        by (holds (number l)) h = refl
        by (holds (address t)) h = cc
        by (holds (code t)) h = refl
        by (argument i t) h = refl

-- ---- whether two are equal

module _ (o : Arith) (k : Kept) (c : Bool) (is : c ≡ is_function k) (a b e : Expression) where
  pub equated_functions : c ≡ true → e ≡ binary o (binary op.Equal a zero) (binary op.Equal b zero) → e ≡ equated o k a b
  equated_functions so made = made ∙ by k (sym so ∙ is)
    where
      by : (k : Kept) → true ≡ is_function k → binary o (binary op.Equal a zero) (binary op.Equal b zero) ≡ equated o k a b
      by unknown h = cc
      by (integer_of f) h = cc
      by (holds (number l)) h = cc
      by (holds (address t)) h = cc
      by (holds (code t)) h = refl
      by (argument i t) h = cc

  pub equated_others : c ≡ false → e ≡ binary o a b → e ≡ equated o k a b
  equated_others not_so made = made ∙ by k (sym not_so ∙ is)
    where
      by : (k : Kept) → false ≡ is_function k → binary o a b ≡ equated o k a b
      by unknown h = refl
      by (integer_of f) h = refl
      by (holds (number l)) h = refl
      by (holds (address t)) h = refl
      by (holds (code t)) h = cc
      by (argument i t) h = refl
