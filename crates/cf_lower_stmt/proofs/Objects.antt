-- What is stored in an object, by what the register with its place holds.
use Rattle.std.proofs.Common.{◌≡◌, ℕ, List, [], ◌++◌, Option, Some, None, refl, sym, ap, ◌∙◌, append-nil}
use Rattle.std.specs.Option.{option_map}
use Rattle.cc_whole.specs.Plain.{Expression, Statement}
use Rattle.cf_base.specs.declared.kind.Kind.TheVariants.{Char}
use Rattle.cf_core.specs.Classes.{Class}
use Rattle.cf_core.specs.FromTypes.{Tables, type_of}
use Rattle.cf_core.specs.Objects.{character_kind}
use Rattle.cf_core.specs.Types.{SourceType}
use Rattle.cf_lower.specs.Expressions.{address_in}
use Rattle.cf_lower.specs.Kept.{Kept, unknown, integer_of, holds, argument}
use Rattle.cf_lower.specs.Statements.{stored, stored_in, first_in, zeros, zeros_in, kind_in}
use Rattle.cf_lower_layout.specs.Sorts.{number, address, code, sort_of}
use Rattle.cf_lower_held.specs.declared.held.Argument.{Argument}
use Rattle.cf_lower_held.specs.Holds.{argument_of, place_type}
use Rattle.cf_lower_names.specs.declared.cell.Cell.{Cell}
use Rattle.cf_lower_names.specs.Cells.{sort_for, cell_of}
use Rattle.cf_lower_types.specs.declared.place.PlaceType.{PlaceType}
use Rattle.cf_lower_types.specs.declared.scalar.Scalar.{Scalar}
use Rattle.cf_lower_types.specs.Bare.{sort_in, type_in}
use Rattle.cf_lower_stmt.specs.Steps.{local_stored}
use Rattle.cf_lower_stmt.proofs.Cells.{cell_is, stored_cell}

some_same : (a b : SourceType) → Some a ≡ Some b → a ≡ b
some_same a b e = cc

-- ---- by the type of the place

is_stored : (k : Kept) (t : SourceType) (r : ℕ) (e : Expression) → Some t ≡ place_type k → stored (sort_of t) r e ≡ stored_in k r e
is_stored unknown t r e h = cc
is_stored (integer_of f) t r e h = cc
is_stored (holds (number l)) t r e h = cc
is_stored (holds (address u)) t r e h = ap (λ w. stored (sort_of w) r e) (some_same t u h)
is_stored (holds (code u)) t r e h = cc
is_stored (argument i u) t r e h = cc

not_stored : (k : Kept) (r : ℕ) (e : Expression) → None ≡ place_type k → stored_in k r e ≡ []
not_stored unknown r e h = refl
not_stored (integer_of f) r e h = refl
not_stored (holds (number l)) r e h = refl
not_stored (holds (address u)) r e h = cc
not_stored (holds (code u)) r e h = refl
not_stored (argument i u) r e h = refl

is_zeroed : (cs : List Class) (k : Kept) (t : SourceType) (r : ℕ) → Some t ≡ place_type k → zeros cs t (address_in r) 0 ≡ zeros_in cs k r
is_zeroed cs unknown t r h = cc
is_zeroed cs (integer_of f) t r h = cc
is_zeroed cs (holds (number l)) t r h = cc
is_zeroed cs (holds (address u)) t r h = ap (λ w. zeros cs w (address_in r) 0) (some_same t u h)
is_zeroed cs (holds (code u)) t r h = cc
is_zeroed cs (argument i u) t r h = cc

not_zeroed : (cs : List Class) (k : Kept) (r : ℕ) → None ≡ place_type k → zeros_in cs k r ≡ []
not_zeroed cs unknown r h = refl
not_zeroed cs (integer_of f) r h = refl
not_zeroed cs (holds (number l)) r h = refl
not_zeroed cs (holds (address u)) r h = cc
not_zeroed cs (holds (code u)) r h = refl
not_zeroed cs (argument i u) r h = refl

is_kind : (k : Kept) (t : SourceType) → Some t ≡ place_type k → character_kind t ≡ kind_in k
is_kind unknown t h = cc
is_kind (integer_of f) t h = cc
is_kind (holds (number l)) t h = cc
is_kind (holds (address u)) t h = ap character_kind (some_same t u h)
is_kind (holds (code u)) t h = cc
is_kind (argument i u) t h = cc

no_kind : (k : Kept) → None ≡ place_type k → kind_in k ≡ Char
no_kind unknown h = refl
no_kind (integer_of f) h = refl
no_kind (holds (number l)) h = refl
no_kind (holds (address u)) h = cc
no_kind (holds (code u)) h = refl
no_kind (argument i u) h = refl

module _ (tables : Tables) (k : Kept) (o : Option PlaceType) (is : option_map (type_in tables) o ≡ place_type k) where
  pub kind_place : (p : PlaceType) → o ≡ Some p → character_kind (type_in tables p) ≡ kind_in k
  kind_place p some = is_kind k (type_in tables p) (sym (ap (option_map (type_in tables)) some) ∙ is)

  pub kind_nowhere : o ≡ None → Char ≡ kind_in k
  kind_nowhere none = sym (no_kind k (sym (ap (option_map (type_in tables)) none) ∙ is))

module _ (tables : Tables) (k : Kept) (o : Option PlaceType) (is : option_map (type_in tables) o ≡ place_type k) (r : ℕ) (w v : List Statement) where
  here : (p : PlaceType) → o ≡ Some p → Some (type_in tables p) ≡ place_type k
  here p some = sym (ap (option_map (type_in tables)) some) ∙ is

  nowhere : o ≡ None → None ≡ place_type k
  nowhere none = sym (ap (option_map (type_in tables)) none) ∙ is

  pub stored_place : (p : PlaceType) (s : Option Scalar) (q : Option Cell) (e : Expression) → o ≡ Some p → option_map (sort_in tables) s ≡ sort_of (type_in tables p)
      → q ≡ option_map cell_of (option_map (sort_in tables) s) → v ≡ w ++ stored (option_map sort_for q) r e → v ≡ w ++ stored_in k r e
  stored_place p s q e some sort cell made =
      made ∙ ap (λ s. w ++ stored s r e) (cell_is (sort_of (type_in tables p)) (option_map (sort_in tables) s) q sort cell)
      ∙ ap (λ l. w ++ l) (stored_cell (sort_of (type_in tables p)) r e ∙ is_stored k (type_in tables p) r e (here p some))

  pub stored_nowhere : (e : Expression) → o ≡ None → w ≡ w ++ stored_in k r e
  stored_nowhere e none = sym (append-nil w) ∙ sym (ap (λ l. w ++ l) (not_stored k r e (nowhere none)))

  pub zeros_place : (cs : List Class) (p : PlaceType) → o ≡ Some p → v ≡ w ++ zeros cs (type_in tables p) (address_in r) 0 → v ≡ w ++ zeros_in cs k r
  zeros_place cs p some made = made ∙ ap (λ l. w ++ l) (is_zeroed cs k (type_in tables p) r (here p some))

  pub zeros_nowhere : (cs : List Class) → o ≡ None → w ≡ w ++ zeros_in cs k r
  zeros_nowhere cs none = sym (append-nil w) ∙ sym (ap (λ l. w ++ l) (not_zeroed cs k r (nowhere none)))

-- ---- first values

pair_same : (a b : ℕ × SourceType) → Some a ≡ Some b → a ≡ b
pair_same a b e = cc

is_first : (k : Kept) (a : ℕ × SourceType) (r : ℕ) (e : Expression) → Some a ≡ argument_of k → local_stored (sort_of a.1) a.0 e ≡ first_in k r e
is_first unknown a r e h = cc
is_first (integer_of f) a r e h = cc
is_first (holds s) a r e h = cc
is_first (argument i t) a r e h = ap (λ (b : ℕ × SourceType). local_stored (sort_of b.1) b.0 e) (pair_same a (i, t) h)

is_other : (k : Kept) (r : ℕ) (e : Expression) → None ≡ argument_of k → stored_in k r e ≡ first_in k r e
is_other unknown r e h = refl
is_other (integer_of f) r e h = refl
is_other (holds s) r e h = refl
is_other (argument i t) r e h = cc

module _ (tables : Tables) (k : Kept) (o : Option Argument) (is : option_map (λ (a : Argument). (a.local, type_of tables a.ty)) o ≡ argument_of k)
    (r : ℕ) (e : Expression) (w v : List Statement) where
  abbrev told : Option Argument → Option (ℕ × SourceType)
  told = option_map (λ (a : Argument). (a.local, type_of tables a.ty))

  pub first_argument : (a : Argument) → o ≡ Some a → v ≡ w ++ local_stored (sort_of (type_of tables a.ty)) a.local e → v ≡ w ++ first_in k r e
  first_argument a some made = made ∙ ap (λ l. w ++ l) (is_first k (a.local, type_of tables a.ty) r e (sym (ap told some) ∙ is))

  pub first_other : o ≡ None → v ≡ w ++ stored_in k r e → v ≡ w ++ first_in k r e
  first_other none made = made ∙ ap (λ l. w ++ l) (is_other k r e (sym (ap told none) ∙ is))
