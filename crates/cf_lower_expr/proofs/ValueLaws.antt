-- Values by how the C has what a register holds.
use Rattle.std.proofs.Common.{◌≡◌, ℕ, Bool, true, false, Option, Some, None, refl, sym, ap, ◌∙◌}
use Rattle.std.specs.Option.{option_map}
use Rattle.cc_whole.specs.Plain.{Expression}
use Rattle.cf_core.specs.FromTypes.{Tables}
use Rattle.cf_core.specs.Types.{SourceType}
use Rattle.cf_lower_layout.specs.Sorts.{Sort, number, address, code, sort_of}
use Rattle.cf_lower.specs.Kept.{Kept, unknown, integer_of, holds, argument, local_kept}
use Rattle.cf_lower.specs.Expressions.{zero, in_register, as_value, local_value, same_value, loaded_or, read_value}
use Rattle.cf_lower_held.specs.declared.held.Held.{Held}
use Rattle.cf_lower_held.specs.declared.held.Held.TheVariants as held
use Rattle.cf_lower_held.specs.Holds.{kept_in, place_type, is_function, is_integer}
use Rattle.cf_lower_expr.specs.Values.{local_cell, pointer_cell}
use Rattle.cf_base.specs.declared.kind.Kind.TheVariants.{Int}
use Rattle.cf_lower_names.specs.declared.cell.Cell.{Cell}
use Rattle.cf_lower_names.specs.declared.cell.Cell.TheVariants as cell
use Rattle.cf_lower_names.specs.Cells.{cell_of, sort_for}
use Rattle.cf_lower_types.specs.declared.place.PlaceType.{PlaceType}
use Rattle.cf_lower_types.specs.declared.scalar.Scalar.{Scalar}
use Rattle.cf_lower_types.specs.Bare.{sort_in, type_in}

same_cell : (a b : Cell) → Some a ≡ Some b → a ≡ b
same_cell a b e = cc

-- ---- how the C has what a register holds

module _ (tables : Tables) (k : Kept) (o : Option PlaceType) (is : option_map (type_in tables) o ≡ place_type k) where
  pub pointer_place : (p : PlaceType) → o ≡ Some p → Some cell.Address ≡ pointer_cell k
  pointer_place p some = by k (sym (ap (option_map (type_in tables)) some) ∙ is)
    where
      by : (k : Kept) → Some (type_in tables p) ≡ place_type k → Some cell.Address ≡ pointer_cell k
      by unknown h = cc
      by (integer_of f) h = cc
      by (holds (number l)) h = cc
      by (holds (address t)) h = refl
      by (holds (code t)) h = cc
      by (argument i t) h = cc

-- where it is no address and no function
pub no_pointer : (tables : Tables) (h : Held) (o : Option PlaceType) (c : Bool) → option_map (type_in tables) o ≡ place_type (kept_in tables h) → o ≡ None
    → c ≡ is_function (kept_in tables h) → c ≡ false → None ≡ pointer_cell (kept_in tables h)
no_pointer tables h o c is none f not_so = by h (sym (ap (option_map (type_in tables)) none) ∙ is) (sym not_so ∙ f)
  where
    by : (h : Held) → None ≡ place_type (kept_in tables h) → false ≡ is_function (kept_in tables h) → None ≡ pointer_cell (kept_in tables h)
    by held.Nothing p q = refl
    by held.Integer p q = refl
    by (held.Place t) p q = cc
    by held.Void p q = cc
    by held.Character p q = cc
    by (held.Characters n) p q = cc
    by (held.Code t) p q = cc
    by (held.Argument i t) p q = refl

pub pointer_function : (k : Kept) (c : Bool) → c ≡ is_function k → c ≡ true → Some cell.Code ≡ pointer_cell k
pointer_function k c is so = by k (sym so ∙ is)
  where
    by : (k : Kept) → true ≡ is_function k → Some cell.Code ≡ pointer_cell k
    by unknown h = cc
    by (integer_of f) h = cc
    by (holds (number l)) h = cc
    by (holds (address t)) h = cc
    by (holds (code t)) h = refl
    by (argument i t) h = cc

module _ (k : Kept) (c : Bool) (is : c ≡ is_integer k) where
  pub local_integer : c ≡ true → Some (cell.Number Int) ≡ local_cell k
  local_integer so = by k (sym so ∙ is)
    where
      by : (k : Kept) → true ≡ is_integer k → Some (cell.Number Int) ≡ local_cell k
      by unknown h = cc
      by (integer_of f) h = refl
      by (holds s) h = cc
      by (argument i t) h = cc

  pub local_pointer : (q : Option Cell) → c ≡ false → q ≡ pointer_cell k → q ≡ local_cell k
  local_pointer q not_so pointer = pointer ∙ by k (sym not_so ∙ is)
    where
      by : (k : Kept) → false ≡ is_integer k → pointer_cell k ≡ local_cell k
      by unknown h = refl
      by (integer_of f) h = cc
      by (holds s) h = refl
      by (argument i t) h = refl

-- ---- what stands in a register

local_value_is : (o : Option Sort) (r : ℕ) → local_value (option_map sort_for (option_map cell_of o)) r ≡ local_value o r
local_value_is None r = refl
local_value_is (Some (number k)) r = refl
local_value_is (Some (address t)) r = refl
local_value_is (Some (code t)) r = refl

pub local_by_cell : (k : Kept) (q : Option Cell) (r : ℕ) (e : Expression) → q ≡ local_cell k → e ≡ local_value (option_map sort_for q) r → e ≡ local_value (local_kept k) r
local_by_cell k q r e cell is = is ∙ ap (λ p. local_value (option_map sort_for p) r) cell ∙ local_value_is (local_kept k) r

-- ---- the same once more

same_cast : (s : Sort) (r : ℕ) → as_value (sort_for (cell_of s)) (in_register (sort_for (cell_of s)) r) ≡ as_value s (in_register s r)
same_cast (number k) r = refl
same_cast (address t) r = refl
same_cast (code t) r = refl

module _ (k : Kept) (q : Option Cell) (is : q ≡ pointer_cell k) (r : ℕ) (e : Expression) where
  pub same_some : (c : Cell) → q ≡ Some c → e ≡ as_value (sort_for c) (in_register (sort_for c) r) → e ≡ same_value k r
  same_some c some made = made ∙ by k (sym some ∙ is)
    where
      by : (k : Kept) → Some c ≡ pointer_cell k → as_value (sort_for c) (in_register (sort_for c) r) ≡ same_value k r
      by unknown p = cc
      by (integer_of f) p = cc
      by (holds s) p = ap (λ c. as_value (sort_for c) (in_register (sort_for c) r)) (same_cell c (cell_of s) p) ∙ same_cast s r
      by (argument i t) p = cc

  pub same_none : q ≡ None → e ≡ zero → e ≡ same_value k r
  same_none none made = made ∙ by k (sym none ∙ is)
    where
      by : (k : Kept) → None ≡ pointer_cell k → zero ≡ same_value k r
      by unknown p = refl
      by (integer_of f) p = refl
      by (holds s) p = cc
      by (argument i t) p = refl

-- ---- what the scalar at a place holds

loaded_is : (o : Option Sort) (r : ℕ) → loaded_or (option_map sort_for (option_map cell_of o)) r ≡ loaded_or o r
loaded_is None r = refl
loaded_is (Some (number k)) r = refl
loaded_is (Some (address t)) r = refl
loaded_is (Some (code t)) r = refl

same_type : (a b : SourceType) → Some a ≡ Some b → a ≡ b
same_type a b e = cc

module _ (tables : Tables) (k : Kept) (o : Option PlaceType) (is : option_map (type_in tables) o ≡ place_type k) (r : ℕ) (e : Expression) where
  pub read_some : (p : PlaceType) (s : Option Scalar) (q : Option Cell) → o ≡ Some p → option_map (sort_in tables) s ≡ sort_of (type_in tables p)
      → q ≡ option_map cell_of (option_map (sort_in tables) s) → e ≡ loaded_or (option_map sort_for q) r → e ≡ read_value k r
  read_some p s q some sort cell made =
      made ∙ ap (λ q. loaded_or (option_map sort_for q) r) (cell ∙ ap (option_map cell_of) sort) ∙ loaded_is (sort_of (type_in tables p)) r
      ∙ by k (sym (ap (option_map (type_in tables)) some) ∙ is)
    where
      by : (k : Kept) → Some (type_in tables p) ≡ place_type k → loaded_or (sort_of (type_in tables p)) r ≡ read_value k r
      by unknown h = cc
      by (integer_of f) h = cc
      by (holds (number l)) h = cc
      by (holds (address t)) h = ap (λ u. loaded_or (sort_of u) r) (same_type (type_in tables p) t h)
      by (holds (code t)) h = cc
      by (argument i t) h = cc

  pub read_none : o ≡ None → e ≡ zero → e ≡ read_value k r
  read_none none made = made ∙ by k (sym (ap (option_map (type_in tables)) none) ∙ is)
    where
      by : (k : Kept) → None ≡ place_type k → zero ≡ read_value k r
      by unknown h = refl
      by (integer_of f) h = refl
      by (holds (number l)) h = refl
      by (holds (address t)) h = cc
      by (holds (code t)) h = refl
      by (argument i t) h = refl
