-- What a valid node is used for tells that its parts are valid: they are places, values, constants or initialisers.
use Rattle.std.proofs.Common.{◌≡◌, Bool, true, false, ◌&&◌, ◌||◌, not, if◌then◌else◌, refl, sym, subst, ◌∙◌}
use Rattle.std.specs.Prelude.{ℕ, ℤ, Option, Some, None, is_some, slice_get, find, bytes_eq}
use Rattle.cf_base.specs.declared.kind.Kind.{Kind}
use Rattle.cf_base.specs.declared.kind.Kind.TheVariants.{Int, ULong}
use Rattle.cf_base.specs.declared.arith.Arith.{Arith}
use Rattle.cf_base.proofs.Tests.{both}
use Rattle.cf_types.specs.Operators.{is_shift}
use Rattle.cf_core.specs.declared.operators.PointerOperator.{PointerOperator}
use Rattle.cf_core.specs.declared.operators.PointerOperator.TheVariants as ptr
use Rattle.cf_core.specs.Types.{Name, SourceType, void, integer, enumeration, pointer, reference, data_member, function_member, const, same_but_const, is_void}
use Rattle.cf_core.specs.Core.{Change, arithmetic, moved, Static, no_temporary, local_temporary, static_temporary}
use Rattle.cf_core.specs.Places.{is_scalar}
use Rattle.cf_core.specs.Typing.{Scope, Typing, no_typing, allowed, is_function, is_integral, same_type, of_start, of_value, of_name, is_integer, integral_type, scalar_type, compares_with_null, is_condition, is_expression, is_zero, pointed, points_to_object, is_right_operand, pointers_alike, may_be_equal, pointer_operated, changes, either, or_else, to_pointer, converts}
use Rattle.cf_core.specs.Typing as typing
use Rattle.cf_core.specs.Typed.{indexed_type, stored, changed_in_place, holds_for, binds}
use Rattle.cf_sequence.proofs.Calling.{never}

pub data Serves (x : Typing) : Type 0 where
  as_place : (t : SourceType) → x.place ≡ Some t → Serves x
  of_type : (t : SourceType) → x.type ≡ Some t → Serves x
  as_number : (z : ℤ) → x.number ≡ Some z → Serves x
  as_value : (t : SourceType) → x.value t ≡ true → Serves x
  as_start : (t : SourceType) → x.start t ≡ true → Serves x

-- what is not valid serves for nothing
pub nothing-serves : {A : Type 0} → Serves no_typing → A
nothing-serves (as_place t e) = absurd (cc)
nothing-serves (of_type t e) = absurd (cc)
nothing-serves (as_number z e) = absurd (cc)
nothing-serves (as_value t e) = never e
nothing-serves (as_start t e) = never e

pub allowed-is : (b : Bool) (x : Typing) → Serves (allowed b x) → b ≡ true
allowed-is true x s = refl
allowed-is false x s = nothing-serves s

pub allowed-serves : (b : Bool) (x : Typing) → Serves (allowed b x) → Serves x
allowed-serves true x s = s
allowed-serves false x s = nothing-serves s

pub either-true : {A : Type 0} (a b : Bool) → (a || b) ≡ true → (a ≡ true → A) → (b ≡ true → A) → A
either-true true b ok f g = f refl
either-true false b ok f g = g ok

-- Nodes that are used as places, or by the type of their value.

pub by-place : (x : Typing) (f : Option SourceType → Typing) → f None ≡ no_typing → Serves (f x.place) → Serves x
by-place x f none s = by x.place refl s
  where
    by : (o : Option SourceType) → x.place ≡ o → Serves (f o) → Serves x
    by None e s = nothing-serves (subst Serves none s)
    by (Some t) e s = as_place t e

pub by-type : (x : Typing) (f : Option SourceType → Bool) → f None ≡ false → f x.type ≡ true → Serves x
by-type x f none ok = by x.type refl ok
  where
    by : (o : Option SourceType) → x.type ≡ o → f o ≡ true → Serves x
    by None e ok = never (sym none ∙ ok)
    by (Some t) e ok = of_type t e

pub by-pointed : (x : Typing) (f : Option SourceType → Typing) → f None ≡ no_typing → Serves (f (pointed x.type)) → Serves x
by-pointed x f none s = by x.type refl s
  where
    by : (o : Option SourceType) → x.type ≡ o → Serves (f (pointed o)) → Serves x
    by None e s = nothing-serves (subst Serves none s)
    by (Some t) e s = of_type t e

pub some-place : (x : Typing) → is_some x.place ≡ true → Serves x
some-place x ok = by x.place refl ok
  where
    by : (o : Option SourceType) → x.place ≡ o → is_some o ≡ true → Serves x
    by None e ok = never ok
    by (Some t) e ok = as_place t e

pub some-number : (x : Typing) → is_some x.number ≡ true → Serves x
some-number x ok = by x.number refl ok
  where
    by : (o : Option ℤ) → x.number ≡ o → is_some o ≡ true → Serves x
    by None e ok = never ok
    by (Some z) e ok = as_number z e

pub zero-number : (x : Typing) → is_zero x.number ≡ true → Serves x
zero-number x ok = by x.number refl ok
  where
    by : (o : Option ℤ) → x.number ≡ o → is_zero o ≡ true → Serves x
    by None e ok = never ok
    by (Some z) e ok = as_number z e

pub integers-serve : (x : Typing) → is_integer x ≡ true → Serves x
integers-serve x ok =
    either-true (integral_type x.type || is_some x.number || x.value (integer Int)) (x.value (integer ULong)) ok
    (λ a.
    either-true (integral_type x.type || is_some x.number) (x.value (integer Int)) a
    (λ b. either-true (integral_type x.type) (is_some x.number) b (by-type x integral_type refl) (some-number x)) (as_value (integer Int)))
    (as_value (integer ULong))

pub conditions-serve : (x : Typing) → is_condition x ≡ true → Serves x
conditions-serve x ok = either-true (is_integer x) (scalar_type x.type) ok (integers-serve x) (by-type x scalar_type refl)

pub expressions-serve : (x : Typing) → is_expression x ≡ true → Serves x
expressions-serve x ok =
    either-true (is_some x.place || is_some x.type) (is_integer x) ok
    (λ a. either-true (is_some x.place) (is_some x.type) a (some-place x) (by-type x is_some refl)) (integers-serve x)

pub pointers-serve : (x : Typing) → points_to_object x ≡ true → Serves x
pointers-serve x ok = by x.type refl ok
  where
    by : (o : Option SourceType) → x.type ≡ o → points_to_object (record x { type = o }) ≡ true → Serves x
    by None e ok = never ok
    by (Some t) e ok = of_type t e

-- Operators.

abbrev pub Both : Typing → Typing → Type 0
Both x y = Serves x × Serves y

pub right-serves : (op : Arith) (k : Kind) (y : Typing) → is_right_operand op k y ≡ true → Serves y
right-serves op k y ok = by (is_shift op) ok
  where
    by : (b : Bool) → (if b then is_integer y else y.value (integer k)) ≡ true → Serves y
    by true ok = integers-serve y ok
    by false ok = as_value (integer k) ok

-- one of two choices is taken
chosen : {A : Type 0} (a b : Bool) (p q : Typing) → Serves (if a then p else (if b then q else no_typing)) → (a ≡ true → A) → (b ≡ true → A) → A
chosen true b p q s f g = f refl
chosen false true p q s f g = g refl
chosen false false p q s f g = nothing-serves s

moved-serve : (x y : Typing) → points_to_object x && is_integer y ≡ true → Both x y
moved-serve x y ok = let p = both (points_to_object x) (is_integer y) ok in (pointers-serve x p.0, integers-serve y p.1)

moving-serve : (x y : Typing) → is_integer x && points_to_object y ≡ true → Both x y
moving-serve x y ok = let p = both (is_integer x) (points_to_object y) ok in (integers-serve x p.0, pointers-serve y p.1)

pub index-serves : (scope : Scope) (x y : Typing) → Serves (indexed_type scope x y) → Both x y
index-serves scope x y s = chosen (points_to_object x && is_integer y) (is_integer x && points_to_object y) _ _ s (moved-serve x y) (moving-serve x y)

alike-serve : (x y : Typing) → pointers_alike x y ≡ true → Both x y
alike-serve x y ok = by x.type refl ok
  where
    by : (o : Option SourceType) → x.type ≡ o → pointers_alike (record x { type = o }) y ≡ true → Both x y
    by None e ok = never ok
    by (Some t) e ok = (of_type t e, as_value t (both (is_scalar t && not (is_integral t)) (y.value t) ok).1)

equal-serve : (x y : Typing) → may_be_equal x y ≡ true → Both x y
equal-serve x y ok = alike-serve x y (both (pointers_alike x y) (not (compares_with_null x.type) || x.is_null || y.is_null) ok).0

ordered-serve : (x y : Typing) → points_to_object x && pointers_alike x y ≡ true → Both x y
ordered-serve x y ok = alike-serve x y (both (points_to_object x) (pointers_alike x y) ok).1

pub pointer-serves : (op : PointerOperator) (x y : Typing) → Serves (pointer_operated op x y) → Both x y
pointer-serves ptr.Add x y s = chosen (points_to_object x && is_integer y) (is_integer x && points_to_object y) _ _ s (moved-serve x y) (moving-serve x y)
pointer-serves ptr.Subtract x y s = moved-serve x y (allowed-is (points_to_object x && is_integer y) _ s)
pointer-serves ptr.Equal x y s = equal-serve x y (allowed-is (may_be_equal x y) _ s)
pointer-serves ptr.NotEqual x y s = equal-serve x y (allowed-is (may_be_equal x y) _ s)
pointer-serves op x y s = ordered-serve x y (allowed-is (points_to_object x && pointers_alike x y) _ s)

pub either-serves : (x y : Typing) → Serves (either x y) → Both x y
either-serves x y (as_place t e) = by x.place y.place refl refl e
  where
    by : (o p : Option SourceType) → x.place ≡ o → y.place ≡ p → typing.both o p ≡ Some t → Both x y
    by None p e f is = absurd (cc)
    by (Some a) None e f is = absurd (cc)
    by (Some a) (Some b) e f is = (as_place a e, as_place b f)
either-serves x y (of_type t e) = by x.type y.type refl refl e
  where
    one : (a : SourceType) (u v : Typing) → u.type ≡ Some a → (b : Bool) → v.value a ≡ b → (if b then Some a else None) ≡ Some t → Both u v
    one a u v e true is same = (of_type a e, as_value a is)
    one a u v e false is same = absurd (cc)

    turned : {u v : Typing} → Both u v → Both v u
    turned p = (p.1, p.0)

    left : (o : Option SourceType) → or_else o None ≡ Some t → o ≡ Some t
    left None e = e
    left (Some a) e = e

    by : (o p : Option SourceType) → x.type ≡ o → y.type ≡ p → (either (record x { type = o }) (record y { type = p })).type ≡ Some t → Both x y
    by None None e f is = absurd (cc)
    by None (Some b) e f is = turned (one b y x f (x.value b) refl is)
    by (Some a) None e f is = one a x y e (y.value a) refl (left (if y.value a then Some a else None) is)
    by (Some a) (Some b) e f is = (of_type a e, of_type b f)
either-serves x y (as_number z e) = absurd (cc)
either-serves x y (as_value t e) = let p = both (x.value t) (y.value t) e in (as_value t p.0, as_value t p.1)
either-serves x y (as_start t e) =
    let p = both (is_scalar t && x.value t) (y.value t) e in (as_value t (both (is_scalar t) (x.value t) p.0).1, as_value t p.1)

pub store-serves : (scope : Scope) (x y : Typing) → Serves (stored scope x.place y) → Both x y
store-serves scope x y s = by x.place refl s
  where
    by : (o : Option SourceType) → x.place ≡ o → Serves (stored scope o y) → Both x y
    by None e s = nothing-serves s
    by (Some t) e s = (as_place t e, as_value t (both (is_scalar t) (y.value t) (allowed-is (is_scalar t && y.value t) _ s)).1)

changes-serve : (c : Change) (t : Option SourceType) (y : Typing) → changes c t y ≡ true → Serves y
changes-serve (arithmetic op k to) None y ok = never ok
changes-serve (arithmetic op k to) (Some t) y ok = right-serves op k y (both (same_but_const t (integer to)) (is_right_operand op k y) ok).1
changes-serve (moved back) (Some (pointer t)) y ok = integers-serve y (both (not (is_function t) && not (is_void t)) (is_integer y) ok).1
changes-serve (moved back) (Some (const (pointer t))) y ok = integers-serve y (both (not (is_function t) && not (is_void t)) (is_integer y) ok).1
changes-serve (moved back) t y ok = never ok

pub update-serves : (scope : Scope) (c : Change) (x y : Typing) → Serves (changed_in_place scope x.place (changes c x.place y)) → Both x y
update-serves scope c x y s = by x.place refl s
  where
    by : (o : Option SourceType) → x.place ≡ o → Serves (changed_in_place scope o (changes c o y)) → Both x y
    by None e s = nothing-serves s
    by (Some t) e s = (as_place t e, changes-serve c (Some t) y (allowed-is (changes c (Some t) y) _ s))

-- Conversions, and what a reference binds.

to-pointer : (t : SourceType) (x : Typing) → to_pointer t x ≡ true → Serves x
to-pointer t x ok = by x.type refl ok
  where
    by : (o : Option SourceType) → x.type ≡ o → to_pointer t (record x { type = o }) ≡ true → Serves x
    by None e ok = either-true (is_zero x.number) false ok (zero-number x) never
    by (Some u) e ok = of_type u e

pub converts-serve : (t : SourceType) (x : Typing) → converts t x ≡ true → Serves x
converts-serve void x ok = expressions-serve x ok
converts-serve (integer k) x ok = integers-serve x ok
converts-serve (enumeration e) x ok = integers-serve x ok
converts-serve (pointer t) x ok = to-pointer t x ok
converts-serve (data_member c t) x ok = either-true (is_zero x.number) (x.value (data_member c t)) ok (zero-number x) (as_value (data_member c t))
converts-serve (function_member c t) x ok = either-true (is_zero x.number) (x.value (function_member c t)) ok (zero-number x) (as_value (function_member c t))
converts-serve t x ok = never ok

bound-serves : (scope : Scope) (x : Typing) (t : SourceType) → binds scope no_temporary x t ≡ true → Serves x
bound-serves scope x (reference t) ok = by x.place refl ok
  where
    by : (o : Option SourceType) → x.place ≡ o → same_type o t ≡ true → Serves x
    by None e ok = never ok
    by (Some u) e ok = as_place u e
bound-serves scope x (const t) ok = bound-serves scope x t ok
bound-serves scope x t ok = never ok

pub bind-serves : (scope : Scope) (x : Typing) → Serves (of_start (binds scope no_temporary x)) → Serves x
bind-serves scope x (as_place t e) = absurd (cc)
bind-serves scope x (of_type t e) = absurd (cc)
bind-serves scope x (as_number z e) = absurd (cc)
bind-serves scope x (as_value t e) = never e
bind-serves scope x (as_start t e) = bound-serves scope x t e

-- what is called through a pointer
pub called-serves : (t : SourceType) (x : Typing) → (x.value (pointer t) || same_type x.place t) ≡ true → Serves x
called-serves t x ok = either-true (x.value (pointer t)) (same_type x.place t) ok (as_value (pointer t)) (by x.place refl)
  where
    by : (o : Option SourceType) → x.place ≡ o → same_type o t ≡ true → Serves x
    by None e ok = never ok
    by (Some u) e ok = as_place u e

-- what a local reference binds that is no place: the local of the temporary has its type, and the value starts it
pub bound-parts : (scope : Scope) (j : ℕ) (u : SourceType) (x : Typing) (t : SourceType) → binds scope (local_temporary j u) x t ≡ true
    → (same_type (slice_get scope.locals j) u ≡ true) × (x.start u ≡ true)
bound-parts scope j u x (reference t) fit =
    let parts = both (same_but_const u t && same_type (slice_get scope.locals j) u) (x.start u) fit in
    ((both (same_but_const u t) (same_type (slice_get scope.locals j) u) parts.0).1, parts.1)
bound-parts scope j u x (const t) fit = bound-parts scope j u x t fit
bound-parts scope j u x t fit = never fit

-- what a static reference binds that is no place: a value starts its temporary
pub static-starts : (scope : Scope) (name : Name) (x : Typing) (t : SourceType) → binds scope (static_temporary name) x t ≡ true → (u : SourceType) × (x.start u ≡ true)
static-starts scope name x (reference t) fit = (t, (both (holds_for scope (find (λ (s : Static). bytes_eq s.name name) scope.statics) t) (x.start t) fit).1)
static-starts scope name x (const t) fit = static-starts scope name x t fit
static-starts scope name x t fit = never fit
