-- What stands at a part: its type, and whether it may be used and changed.
use Rattle.std.proofs.Common.{◌≡◌, ◌∙◌, ℕ, Bool, true, false, not, ◌&&◌, nat_lt, [], ◌∷◌, slice_get, Option, Some, None, refl, ap, sym}
use Rattle.std.specs.Prelude.{◌||◌}
use Rattle.cf_core.specs.FromTypes.{Tables}
use Rattle.cf_core.specs.Types.{SourceType, const, plain, element}
use Rattle.cf_core.specs.Core.{item, past}
use Rattle.cf_core.specs.Places.{Route, type_at, is_inside, bound, is_const}
use Rattle.cf_core.specs.Pointers.{element_of, bound_of}
use Rattle.cf_core.specs.Store.{Value, Object, Storage, automatic, permanent, literal, is_usable, is_dead, is_constant_place, is_base_part}
use Rattle.cf_run_tree.specs.declared.shape.Bounds.{Bounds}
use Rattle.cf_run_tree.specs.declared.shape.Bounds.TheVariants as bounds
use Rattle.cf_run_tree.specs.declared.shape.Form.{Form}
use Rattle.cf_run_tree.specs.declared.shape.Form.TheVariants as form
use Rattle.cf_run_tree.specs.declared.shape.Shape.{Shape}
use Rattle.cf_run_tree.specs.Tree.{list_of, arrays, kept, form_type, shape_type}
use Rattle.cf_core_place.specs.declared.part.Part.{Part}
use Rattle.cf_core_place.specs.declared.part.Part.TheVariants as part
use Rattle.cf_core_place.specs.Routes.{route_of, depth, or_one, is_item}

pub same-some : {A : Type 0} (a b : A) → (let x : Option A = Some a in x) ≡ Some b → a ≡ b
same-some {A} a b h = ap (λ (o : Option A). elim o [ None ↦ a | Some x ↦ x ]) h

pub none_deeper : (b : Bounds) → None ≡ slice_get (list_of b) 2
none_deeper bounds.None = refl
none_deeper (bounds.One n) = refl
none_deeper (bounds.Two n m) = refl

-- A scalar is no array, and counts as one of one element, which is itself but for const.
pub record IsSingle (t : SourceType) : Type 0 where
  pub one : bound t ≡ 1
  pub itself : element (plain t) ≡ plain t
  pub again : plain (plain t) ≡ plain t
  pub inner : bound (plain t) ≡ 1
  pub free : is_const (plain t) ≡ false

single-form : (T : Tables) (b : Bool) (f : Form) → IsSingle (kept b (form_type T f))
single-form T true form.Void = record { one = refl; itself = refl; again = refl; inner = refl; free = refl }
single-form T true (form.Integer k) = record { one = refl; itself = refl; again = refl; inner = refl; free = refl }
single-form T true (form.Enumeration e) = record { one = refl; itself = refl; again = refl; inner = refl; free = refl }
single-form T true (form.Pointer t) = record { one = refl; itself = refl; again = refl; inner = refl; free = refl }
single-form T true (form.Reference t) = record { one = refl; itself = refl; again = refl; inner = refl; free = refl }
single-form T false form.Void = record { one = refl; itself = refl; again = refl; inner = refl; free = refl }
single-form T false (form.Integer k) = record { one = refl; itself = refl; again = refl; inner = refl; free = refl }
single-form T false (form.Enumeration e) = record { one = refl; itself = refl; again = refl; inner = refl; free = refl }
single-form T false (form.Pointer t) = record { one = refl; itself = refl; again = refl; inner = refl; free = refl }
single-form T false (form.Reference t) = record { one = refl; itself = refl; again = refl; inner = refl; free = refl }

pub single : (T : Tables) (s : Shape) → IsSingle (shape_type T s)
single T s = single-form T s.is_const s.form

-- the type of a part
abbrev pub type_in : Bounds → Part → SourceType → SourceType
type_in b part.Whole t = arrays (list_of b) t
type_in b part.Past t = arrays (list_of b) t
type_in bounds.None (part.Item i) t = plain t
type_in (bounds.One n) (part.Item i) t = t
type_in (bounds.Two n m) (part.Item i) t = arrays (m ∷ []) t
type_in bounds.None (part.Inner i j) t = plain t
type_in (bounds.One n) (part.Inner i j) t = plain t
type_in (bounds.Two n m) (part.Inner i j) t = t

-- Objects without classes live until their storage ends.
and-true : (b : Bool) → (b && true) ≡ b
and-true true = refl
and-true false = refl

or-true : (b : Bool) → (b || true) ≡ true
or-true true = refl
or-true false = refl

or-false : (b : Bool) → (b || false) ≡ b
or-false true = refl
or-false false = refl

and-false : (b : Bool) → (b && false) ≡ false
and-false true = refl
and-false false = refl

or-same : (b : Bool) → (b || b) ≡ b
or-same true = refl
or-same false = refl

module _ (t : SourceType) (held : Route → Option Value) (storage : Storage) (is_gone : Bool) where
  abbrev pub plain_object : Object
  plain_object = record { type = t; held = held; life = λ π. None; storage = storage; is_gone = is_gone }

  pub usable : (π : Route) → is_usable [] plain_object π ≡ not is_gone
  usable [] = and-true (not is_gone)
  usable (s ∷ π) = ap (λ b. b && is_usable [] plain_object π) (or-true (is_base_part s)) ∙ usable π

  pub dead : (π : Route) → is_dead [] plain_object π ≡ is_gone
  dead [] = or-false is_gone
  dead (s ∷ π) = ap (λ b. b || is_dead [] plain_object π) (and-false (not (is_base_part s))) ∙ dead π

module _ (t : SourceType) (is : IsSingle t) where
  pub type-of : (b : Bounds) (q : Part) → type_at [] (arrays (list_of b) t) (route_of q) ≡ type_in b q t
  type-of b part.Whole = refl
  type-of b part.Past = refl
  type-of bounds.None (part.Item i) = is.itself
  type-of (bounds.One n) (part.Item i) = refl
  type-of (bounds.Two n m) (part.Item i) = refl
  type-of bounds.None (part.Inner i j) = ap (λ u. element (plain u)) is.itself ∙ ap element is.again ∙ is.itself
  type-of (bounds.One n) (part.Inner i j) = is.itself
  type-of (bounds.Two n m) (part.Inner i j) = refl

  -- how many elements the arrays have, the outermost first
  pub outer-bound : (b : Bounds) → bound (arrays (list_of b) t) ≡ or_one (slice_get (list_of b) 0)
  outer-bound bounds.None = is.one
  outer-bound (bounds.One n) = refl
  outer-bound (bounds.Two n m) = refl

  pub inner-bound : (b : Bounds) (i : ℕ) → bound (type_at [] (arrays (list_of b) t) (item i ∷ [])) ≡ or_one (slice_get (list_of b) 1)
  inner-bound bounds.None i = ap bound is.itself ∙ is.inner
  inner-bound (bounds.One n) i = is.one
  inner-bound (bounds.Two n m) i = refl

  pub item-inside : (b : Bounds) (i : ℕ) → is_inside [] (arrays (list_of b) t) (item i ∷ []) ≡ is_item (slice_get (list_of b) 0) i
  item-inside b i = and-true (nat_lt i (bound (arrays (list_of b) t))) ∙ ap (nat_lt i) (outer-bound b)

  pub inner-inside : (b : Bounds) (i j : ℕ) → is_inside [] (arrays (list_of b) t) (item j ∷ item i ∷ []) ≡ (is_item (slice_get (list_of b) 1) j && is_item (slice_get (list_of b) 0) i)
  inner-inside b i j =
      ap (λ n. nat_lt j n && is_inside [] (arrays (list_of b) t) (item i ∷ [])) (inner-bound b i)
      ∙ ap (λ c. is_item (slice_get (list_of b) 1) j && c) (item-inside b i)

-- An object is const where its scalars are.
free-first : (b c : Bool) → b ≡ false → ((b && true) || (c && true)) ≡ c
free-first true c h = absurd (cc)
free-first false c h = and-true c

module _ (t : SourceType) (is : IsSingle t) (held : Route → Option Value) (is_gone : Bool) where
  abbrev cell : Bounds → Object
  cell b = plain_object (arrays (list_of b) t) held automatic is_gone

  -- where no bound is left, it is a scalar
  abbrev pub const_in : Bounds → Part → Bool
  const_in b q = elim (slice_get (list_of b) (depth q)) [ None ↦ is_const t | Some n ↦ false ]

  item-free : is_const (element (plain t)) ≡ false
  item-free = ap is_const is.itself ∙ is.free

  pub constant-of : (b : Bounds) (q : Part) → is_constant_place [] (cell b) (route_of q) ≡ const_in b q
  constant-of bounds.None part.Whole = and-true (is_const t)
  constant-of (bounds.One n) part.Whole = refl
  constant-of (bounds.Two n m) part.Whole = refl
  constant-of bounds.None part.Past = or-same (is_const t && true) ∙ and-true (is_const t)
  constant-of (bounds.One n) part.Past = refl
  constant-of (bounds.Two n m) part.Past = refl
  constant-of bounds.None (part.Item i) = free-first (is_const (element (plain t))) (is_const t) item-free
  constant-of (bounds.One n) (part.Item i) = or-false (is_const t && true) ∙ and-true (is_const t)
  constant-of (bounds.Two n m) (part.Item i) = refl
  constant-of bounds.None (part.Inner i j) =
      ap (λ b. (is_const (type_at [] t (item j ∷ item i ∷ [])) && true) || b) (free-first (is_const (element (plain t))) (is_const t) item-free ∙ sym (and-true (is_const t)))
      ∙ free-first (is_const (type_at [] t (item j ∷ item i ∷ []))) (is_const t) (ap is_const (type-of t is bounds.None (part.Inner i j)) ∙ is.free)
  constant-of (bounds.One n) (part.Inner i j) =
      ap (λ b. (is_const (element (plain t)) && true) || b) (or-false (is_const t && true))
      ∙ free-first (is_const (element (plain t))) (is_const t) item-free
  constant-of (bounds.Two n m) (part.Inner i j) = or-false (is_const t && true) ∙ and-true (is_const t)

-- whether an object was declared const does not hang on where it is stored, and a string literal is constant everywhere
pub permanent-constant : (t : SourceType) (held : Route → Option Value) (is_gone : Bool) (π : Route)
    → is_constant_place [] (plain_object t held permanent is_gone) π ≡ is_constant_place [] (plain_object t held automatic is_gone) π
permanent-constant t held is_gone [] = refl
permanent-constant t held is_gone (s ∷ π) = ap (λ b. (is_const (type_at [] t (s ∷ π)) && true) || b) (permanent-constant t held is_gone π)

pub literal-constant : (t : SourceType) (held : Route → Option Value) (is_gone : Bool) (π : Route) → is_constant_place [] (plain_object t held literal is_gone) π ≡ true
literal-constant t held is_gone [] = refl
literal-constant t held is_gone (s ∷ π) = ap (λ b. (is_const (type_at [] t (s ∷ π)) && true) || b) (literal-constant t held is_gone π) ∙ or-true (is_const (type_at [] t (s ∷ π)) && true)
