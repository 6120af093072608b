-- The types that a simple node's typing tells are whole, and only scalars are initialised by values.
use Rattle.std.proofs.Common.{◌≡◌, ℕ, Bool, true, false, ◌&&◌, not, if◌then◌else◌, ℤ, refl, sym, subst, true≢false, length}
use Rattle.std.specs.Prelude.{Option, Some, None, slice_get}
use Rattle.cf_base.proofs.Tests.{both}
use Rattle.cf_base.specs.declared.kind.Kind.{Kind}
use Rattle.cf_base.specs.declared.kind.Kind.TheVariants.{Int, Char}
use Rattle.cf_base.specs.declared.arith.Arith.{Arith}
use Rattle.cf_core.specs.declared.operators.PointerOperator.{PointerOperator}
use Rattle.cf_core.specs.declared.operators.PointerOperator.TheVariants as ptr
use Rattle.cf_core.specs.Types.{SourceType, void, integer, enumeration, class, pointer, reference, array, takes, gives, data_member, function_member, const, plain, same_but_const, is_class, result}
use Rattle.cf_core.specs.Core as core
use Rattle.cf_core.specs.Core.{Core, Cores, no_temporary, local_temporary, static_temporary, absent, given, Change}
use Rattle.cf_core.specs.Places.{is_scalar, is_reference}
use Rattle.cf_core.specs.Calls.{Program}
use Rattle.cf_core.specs.Typing.{Scope, Typing, no_typing, allowed, is_function, of_value, of_place, of_name, of_result, null_if, holds_number, pointed, is_comparison, operated_type, pointer_operated, both as both_types, or_else, either}
use Rattle.cf_core.specs.Typed.{typing, last_typing, read_type, decayed_type, pointed_place, address_type, stored, changed_in_place, indexed_type, stepped, binds}
use Rattle.cf_core_typed.specs.Same.{is_bare, takes_const}
use Rattle.cf_core_sound.specs.Proper.{is_proper, Whole}
use Rattle.cf_core_sound.specs.Simple.{is_simple, are_simple, is_whole, is_called_type}
use Rattle.cf_core_sound.proofs.Shapes.{plain-whole, whole-tested, pointed-whole, referred-whole, element-whole, pointer-whole}

-- a value's type: whole, and with no const on it
pub record Bare (t : SourceType) : Type 0 where
  pub whole : Whole t
  pub bare : is_bare t ≡ true

pub record Good (x : Typing) : Type 0 where
  pub place : (t : SourceType) → x.place ≡ Some t → Whole t
  pub type : (t : SourceType) → x.type ≡ Some t → Bare t
  pub start : (t : SourceType) → x.start t ≡ true → is_scalar t ≡ true

of-some : {A : Type 0} (a b : A) → Some a ≡ Some b → a ≡ b
of-some a b e = cc

none-is : {A : Type 0} (a : A) → None ≡ Some a → ⊥
none-is a e = absurd (cc)

no-test : false ≡ true → ⊥
no-test e = true≢false (sym e)

good-nothing : Good no_typing
good-nothing = record { place = λ t e. absurd (none-is t e); type = λ t e. absurd (none-is t e); start = λ t e. absurd (no-test e) }

good-allowed : (b : Bool) (x : Typing) → Good x → Good (allowed b x)
good-allowed true x g = g
good-allowed false x g = good-nothing

good-value : (t : SourceType) → Bare t → Good (of_value t)
good-value t b = record {
  place = λ u e. absurd (none-is u e);
  type = λ u e. subst Bare (of-some t u e) b;
  start = λ u e. (both (is_scalar u) (same_but_const t u) e).0;
}

bare-pointer : (t : SourceType) → Whole t → Bare (pointer t)
bare-pointer t h = record { whole = pointer-whole t h; bare = refl }

good-place : (t : SourceType) → Whole t → Good (of_place t)
good-place t h = by_test (is_function t)
  where
    by_test : (b : Bool) → Good (elim b as (λ c. Typing) [ true ↦ record (of_value (pointer t)) { place = Some t } | false ↦ record no_typing { place = Some t } ])
    by_test true =
        let v = good-value (pointer t) (bare-pointer t h) in
        record { place = λ u e. subst Whole (of-some t u e) h; type = v.type; start = v.start }
    by_test false = record { place = λ u e. subst Whole (of-some t u e) h; type = λ u e. absurd (none-is u e); start = λ u e. absurd (no-test e) }

bare_under : (t : SourceType) → takes_const t ≡ true → is_bare t ≡ true
bare_under (const t) h = absurd (true≢false (sym h))
bare_under void h = refl
bare_under (integer k) h = refl
bare_under (enumeration e) h = refl
bare_under (class c) h = refl
bare_under (pointer t) h = refl
bare_under (reference t) h = refl
bare_under (array t n) h = refl
bare_under (takes p t) h = refl
bare_under (gives t c) h = refl
bare_under (data_member c t) h = refl
bare_under (function_member c t) h = refl

plain-bare : (t : SourceType) → is_proper t ≡ true → is_bare (plain t) ≡ true
plain-bare (const t) h = bare_under t (both (takes_const t) (is_proper t) h).0
plain-bare void h = refl
plain-bare (integer k) h = refl
plain-bare (enumeration e) h = refl
plain-bare (class c) h = refl
plain-bare (pointer t) h = refl
plain-bare (reference t) h = refl
plain-bare (array t n) h = refl
plain-bare (takes p t) h = refl
plain-bare (gives t c) h = refl
plain-bare (data_member c t) h = refl
plain-bare (function_member c t) h = refl

pub bare-plain : (t : SourceType) → Whole t → Bare (plain t)
bare-plain t h = record { whole = plain-whole t h; bare = plain-bare t h.proper }

bare-integer : (k : Kind) → Bare (integer k)
bare-integer k = record { whole = record { proper = refl; no_reference = refl }; bare = refl }

-- a name stands for what a reference is bound to
good-name : (x : Option SourceType) → ((t : SourceType) → x ≡ Some t → is_proper t ≡ true) → Good (of_name x)
good-name None h = good-nothing
good-name (Some (reference t)) h = good-place t (referred-whole t (h (reference t) refl))
good-name (Some void) h = good-place void (record { proper = refl; no_reference = refl })
good-name (Some (integer k)) h = good-place (integer k) (record { proper = refl; no_reference = refl })
good-name (Some (enumeration e)) h = good-place (enumeration e) (record { proper = refl; no_reference = refl })
good-name (Some (class c)) h = good-place (class c) (record { proper = refl; no_reference = refl })
good-name (Some (pointer t)) h = good-place (pointer t) (record { proper = h (pointer t) refl; no_reference = refl })
good-name (Some (array t n)) h = good-place (array t n) (record { proper = h (array t n) refl; no_reference = refl })
good-name (Some (takes p t)) h = good-place (takes p t) (record { proper = h (takes p t) refl; no_reference = refl })
good-name (Some (gives t c)) h = good-place (gives t c) (record { proper = h (gives t c) refl; no_reference = refl })
good-name (Some (data_member c t)) h = good-place (data_member c t) (record { proper = h (data_member c t) refl; no_reference = refl })
good-name (Some (function_member c t)) h = good-place (function_member c t) (record { proper = h (function_member c t) refl; no_reference = refl })
good-name (Some (const t)) h = good-place (const t) (record { proper = h (const t) refl; no_reference = under t (both (takes_const t) (is_proper t) (h (const t) refl)).0 })
  where
    under : (t : SourceType) → takes_const t ≡ true → is_reference t ≡ false
    under void h = refl
    under (integer k) h = refl
    under (enumeration e) h = refl
    under (class c) h = refl
    under (pointer t) h = refl
    under (reference t) h = absurd (true≢false (sym h))
    under (array t n) h = refl
    under (takes p t) h = refl
    under (gives t c) h = refl
    under (data_member c t) h = refl
    under (function_member c t) h = refl
    under (const t) h = absurd (true≢false (sym h))

-- what a call gives
good-result : (t : SourceType) → is_proper t ≡ true → is_class t ≡ false → Good (of_result t)
good-result (reference t) h n = good-place t (referred-whole t h)
good-result (class c) h n = absurd (true≢false n)
good-result (const t) h n = good-result t (both (takes_const t) (is_proper t) h).1 n
good-result void h n = good-value void (record { whole = record { proper = refl; no_reference = refl }; bare = refl })
good-result (integer k) h n = good-value (integer k) (bare-integer k)
good-result (enumeration e) h n = good-value (enumeration e) (record { whole = record { proper = refl; no_reference = refl }; bare = refl })
good-result (pointer t) h n = good-value (pointer t) (record { whole = record { proper = h; no_reference = refl }; bare = refl })
good-result (array t m) h n = good-value (array t m) (record { whole = record { proper = h; no_reference = refl }; bare = refl })
good-result (takes p t) h n = good-value (takes p t) (record { whole = record { proper = h; no_reference = refl }; bare = refl })
good-result (gives t c) h n = good-value (gives t c) (record { whole = record { proper = h; no_reference = refl }; bare = refl })
good-result (data_member c t) h n = good-value (data_member c t) (record { whole = record { proper = h; no_reference = refl }; bare = refl })
good-result (function_member c t) h n = good-value (function_member c t) (record { whole = record { proper = h; no_reference = refl }; bare = refl })

result-proper : (t : SourceType) → is_proper t ≡ true → is_proper (result t) ≡ true
result-proper (takes p t) h = result-proper t (both (is_proper p) (is_proper t) h).1
result-proper (gives t c) h = h
result-proper void h = refl
result-proper (integer k) h = refl
result-proper (enumeration e) h = refl
result-proper (class c) h = refl
result-proper (pointer t) h = refl
result-proper (reference t) h = refl
result-proper (array t n) h = refl
result-proper (data_member c t) h = refl
result-proper (function_member c t) h = refl
result-proper (const t) h = refl

-- ---- of parts

module _ (scope : Scope) where
  Types : Option SourceType → Type 0
  Types x = (t : SourceType) → x ≡ Some t → Bare t

  Places : Option SourceType → Type 0
  Places x = (t : SourceType) → x ≡ Some t → Whole t

  good-pointed : (x : Option SourceType) → ((t : SourceType) → x ≡ Some t → Bare t) → Good (pointed_place scope (pointed x))
  good-pointed None h = good-nothing
  good-pointed (Some (pointer t)) h = good-place t (pointed-whole t (h (pointer t) refl).whole.proper)
  good-pointed (Some void) h = good-nothing
  good-pointed (Some (integer k)) h = good-nothing
  good-pointed (Some (enumeration e)) h = good-nothing
  good-pointed (Some (class c)) h = good-nothing
  good-pointed (Some (reference t)) h = good-nothing
  good-pointed (Some (array t n)) h = good-nothing
  good-pointed (Some (takes p t)) h = good-nothing
  good-pointed (Some (gives t c)) h = good-nothing
  good-pointed (Some (data_member c t)) h = good-nothing
  good-pointed (Some (function_member c t)) h = good-nothing
  good-pointed (Some (const t)) h = good-nothing

  good-read : (x : Option SourceType) → ((t : SourceType) → x ≡ Some t → Whole t) → Good (read_type scope x)
  good-read None h = good-nothing
  good-read (Some t) h = good-allowed (is_scalar t) (of_value (plain t)) (good-value (plain t) (bare-plain t (h t refl)))

  good-address : (x : Option SourceType) → ((t : SourceType) → x ≡ Some t → Whole t) → Good (address_type scope x)
  good-address None h = good-nothing
  good-address (Some t) h = good-value (pointer t) (bare-pointer t (h t refl))

  good-decayed : (x : Option SourceType) → ((t : SourceType) → x ≡ Some t → Whole t) → Good (decayed_type scope x)
  good-decayed None h = good-nothing
  good-decayed (Some (array t n)) h = good-value (pointer t) (bare-pointer t (element-whole t n (h (array t n) refl).proper))
  good-decayed (Some (const (array t n))) h = absurd (true≢false (sym (h (const (array t n)) refl).proper))
  good-decayed (Some (const void)) h = good-nothing
  good-decayed (Some (const (integer k))) h = good-nothing
  good-decayed (Some (const (enumeration e))) h = good-nothing
  good-decayed (Some (const (class c))) h = good-nothing
  good-decayed (Some (const (pointer t))) h = good-nothing
  good-decayed (Some (const (reference t))) h = good-nothing
  good-decayed (Some (const (takes p t))) h = good-nothing
  good-decayed (Some (const (gives t c))) h = good-nothing
  good-decayed (Some (const (data_member c t))) h = good-nothing
  good-decayed (Some (const (function_member c t))) h = good-nothing
  good-decayed (Some (const (const t))) h = good-nothing
  good-decayed (Some void) h = good-nothing
  good-decayed (Some (integer k)) h = good-nothing
  good-decayed (Some (enumeration e)) h = good-nothing
  good-decayed (Some (class c)) h = good-nothing
  good-decayed (Some (pointer t)) h = good-nothing
  good-decayed (Some (reference t)) h = good-nothing
  good-decayed (Some (takes p t)) h = good-value (pointer (takes p t)) (bare-pointer (takes p t) (h (takes p t) refl))
  good-decayed (Some (gives t c)) h = good-value (pointer (gives t c)) (bare-pointer (gives t c) (h (gives t c) refl))
  good-decayed (Some (data_member c t)) h = good-nothing
  good-decayed (Some (function_member c t)) h = good-nothing

  good-stored : (x : Option SourceType) (y : Typing) → ((t : SourceType) → x ≡ Some t → Whole t) → Good (stored scope x y)
  good-stored None y h = good-nothing
  good-stored (Some t) y h = good-allowed (is_scalar t && y.value t) (of_place t) (good-place t (h t refl))

  good-changed : (x : Option SourceType) (ok : Bool) → ((t : SourceType) → x ≡ Some t → Whole t) → Good (changed_in_place scope x ok)
  good-changed None ok h = good-nothing
  good-changed (Some t) ok h = good-allowed ok (of_place t) (good-place t (h t refl))

  good-if : (b : Bool) (x y : Typing) → Good x → Good y → Good (if b then x else y)
  good-if true x y g k = g
  good-if false x y g k = k

  good-indexed : (x y : Typing) → Good x → Good y → Good (indexed_type scope x y)
  good-indexed x y g k = good-if _ _ _ (good-pointed x.type g.type) (good-if _ _ _ (good-pointed y.type k.type) good-nothing)

  good-stepped : (is_postfix : Bool) (c : Change) (x : Option SourceType) → ((t : SourceType) → x ≡ Some t → Whole t) → Good (stepped scope is_postfix c x)
  good-stepped b c None h = good-nothing
  good-stepped b c (Some t) h = good-allowed _ _ (good-if b _ _ (good-value (plain t) (bare-plain t (h t refl))) (good-place t (h t refl)))

  good-option : (x : Option SourceType) → ((t : SourceType) → x ≡ Some t → Bare t) → Good (elim x as (λ y. Typing) [ None ↦ no_typing | Some t ↦ of_value t ])
  good-option None h = good-nothing
  good-option (Some t) h = good-value t (h t refl)

  good-operated : (o : PointerOperator) (x y : Typing) → Good x → Good y → Good (pointer_operated o x y)
  good-operated ptr.Add x y g k = good-if _ _ _ (good-option x.type g.type) (good-if _ _ _ (good-option y.type k.type) good-nothing)
  good-operated ptr.Subtract x y g k = good-allowed _ _ (good-option x.type g.type)
  good-operated ptr.Equal x y g k = good-allowed _ _ (good-value (integer Int) (bare-integer Int))
  good-operated ptr.NotEqual x y g k = good-allowed _ _ (good-value (integer Int) (bare-integer Int))
  good-operated ptr.Difference x y g k = good-allowed _ _ (good-value (integer Int) (bare-integer Int))
  good-operated ptr.Less x y g k = good-allowed _ _ (good-value (integer Int) (bare-integer Int))
  good-operated ptr.Greater x y g k = good-allowed _ _ (good-value (integer Int) (bare-integer Int))
  good-operated ptr.LessEqual x y g k = good-allowed _ _ (good-value (integer Int) (bare-integer Int))
  good-operated ptr.GreaterEqual x y g k = good-allowed _ _ (good-value (integer Int) (bare-integer Int))

  good-both : (x y : Option SourceType) (Q : SourceType → Type 0) → ((t : SourceType) → x ≡ Some t → Q t) → (t : SourceType) → both_types x y ≡ Some t → Q t
  good-both None y Q h t e = absurd (none-is t e)
  good-both (Some u) None Q h t e = absurd (none-is t e)
  good-both (Some u) (Some v) Q h t e = by_test (same_but_const u v) e
    where
      by_test : (b : Bool) → (if b then Some u else None) ≡ Some t → Q t
      by_test true e = h t e
      by_test false e = absurd (none-is t e)

  agreed : Option SourceType → Typing → Option SourceType
  agreed None z = None
  agreed (Some t) z = if z.value t then Some t else None

  good-agreed : (x : Option SourceType) (z : Typing) (Q : SourceType → Type 0) → ((t : SourceType) → x ≡ Some t → Q t) → (t : SourceType) → agreed x z ≡ Some t → Q t
  unfolding agreed
  good-agreed None z Q h t e = absurd (none-is t e)
  good-agreed (Some u) z Q h t e = by_test (z.value u) e
    where
      by_test : (b : Bool) → (if b then Some u else None) ≡ Some t → Q t
      by_test true e = h t e
      by_test false e = absurd (none-is t e)

  good-or : (x y : Option SourceType) (Q : SourceType → Type 0) → ((t : SourceType) → x ≡ Some t → Q t) → ((t : SourceType) → y ≡ Some t → Q t)
      → (t : SourceType) → or_else x y ≡ Some t → Q t
  good-or None y Q h k t e = k t e
  good-or (Some u) y Q h k t e = h t e

  good-either : (x y : Typing) → Good x → Good y → Good (either x y)
  unfolding agreed
  good-either x y g k = record {
    place = good-both x.place y.place Whole g.place;
    type = good-or (both_types x.type y.type) (or_else (agreed x.type y) (agreed y.type x)) Bare (good-both x.type y.type Bare g.type)
        (good-or (agreed x.type y) (agreed y.type x) Bare (good-agreed x.type y Bare g.type) (good-agreed y.type x Bare k.type));
    start = λ t e. first (is_scalar t) (x.value t) (y.value t) e;
  }
    where
      first : (a b c : Bool) → (a && b && c) ≡ true → a ≡ true
      first true b c e = refl
      first false b c e = absurd (no-test e)

holds-scalar : (z : ℤ) (t : SourceType) → holds_number z t ≡ true → is_scalar t ≡ true
holds-scalar z (integer k) e = refl
holds-scalar z (enumeration n) e = refl
holds-scalar z (const t) e = holds-scalar z t e
holds-scalar z void e = absurd (no-test e)
holds-scalar z (class c) e = absurd (no-test e)
holds-scalar z (pointer t) e = absurd (no-test e)
holds-scalar z (reference t) e = absurd (no-test e)
holds-scalar z (array t n) e = absurd (no-test e)
holds-scalar z (takes p t) e = absurd (no-test e)
holds-scalar z (gives t c) e = absurd (no-test e)
holds-scalar z (data_member c t) e = absurd (no-test e)
holds-scalar z (function_member c t) e = absurd (no-test e)

good-if-allowed : (b : Bool) (x : Typing) → (b ≡ true → Good x) → Good (allowed b x)
good-if-allowed true x g = g refl
good-if-allowed false x g = good-nothing

function-whole : (t : SourceType) → is_function t ≡ true → is_proper t ≡ true → Whole t
function-whole (takes p t) e h = record { proper = h; no_reference = refl }
function-whole (gives t c) e h = record { proper = h; no_reference = refl }
function-whole void e h = absurd (no-test e)
function-whole (integer k) e h = absurd (no-test e)
function-whole (enumeration n) e h = absurd (no-test e)
function-whole (class c) e h = absurd (no-test e)
function-whole (pointer t) e h = absurd (no-test e)
function-whole (reference t) e h = absurd (no-test e)
function-whole (array t n) e h = absurd (no-test e)
function-whole (data_member c t) e h = absurd (no-test e)
function-whole (function_member c t) e h = absurd (no-test e)
function-whole (const t) e h = absurd (no-test e)

binds-scalar : (scope : Scope) (x : Typing) (t : SourceType) → binds scope no_temporary x t ≡ true → is_scalar t ≡ true
binds-scalar scope x (reference t) e = refl
binds-scalar scope x (const t) e = binds-scalar scope x t e
binds-scalar scope x void e = absurd (no-test e)
binds-scalar scope x (integer k) e = absurd (no-test e)
binds-scalar scope x (enumeration n) e = absurd (no-test e)
binds-scalar scope x (class c) e = absurd (no-test e)
binds-scalar scope x (pointer t) e = absurd (no-test e)
binds-scalar scope x (array t n) e = absurd (no-test e)
binds-scalar scope x (takes p t) e = absurd (no-test e)
binds-scalar scope x (gives t c) e = absurd (no-test e)
binds-scalar scope x (data_member c t) e = absurd (no-test e)
binds-scalar scope x (function_member c t) e = absurd (no-test e)

call-good : (t : SourceType) → is_called_type t ≡ true → Good (of_result (result t))
call-good t e =
    let parts = both (not (is_class (result t))) _ e in
    let inner = both _ (is_proper t) parts.1 in
    good-result (result t) (result-proper t inner.1) (not-true (is_class (result t)) parts.0)
  where
    not-true : (b : Bool) → not b ≡ true → b ≡ false
    not-true true h = absurd (true≢false (sym h))
    not-true false h = refl

operated-bare : (o : Arith) (k : Kind) → Bare (operated_type o k)
operated-bare o k = by_test (is_comparison o)
  where
    by_test : (b : Bool) → Bare (if b then integer Int else integer k)
    by_test true = bare-integer Int
    by_test false = bare-integer k

module _ (P : Program) (scope : Scope) (proper : (i : ℕ) (t : SourceType) → slice_get scope.locals i ≡ Some t → is_proper t ≡ true) where
  int : Bare (integer Int)
  int = bare-integer Int

  mutual
    pub good : (e : Core) → is_simple P scope e ≡ true → Good (typing scope e)
    good (core.number z) ok = record { place = λ t e. absurd (none-is t e); type = λ t e. absurd (none-is t e); start = holds-scalar z }
    good (core.text j bytes) ok = good-place (array (integer Char) (length bytes)) (record { proper = ok; no_reference = refl })
    good (core.local i) ok = good-name (slice_get scope.locals i) (proper i)
    good (core.static_object n t) ok = good-name (Some t) (λ u e. subst (λ a. is_proper a ≡ true) (of-some t u e) (both (is_proper t) _ ok).0)
    good (core.function n t) ok = good-if-allowed (is_function t) (of_place t) (λ f. good-place t (function-whole t f (both (is_proper t) _ ok).0))
    good (core.read e) ok = good-read scope (typing scope e).place (good e ok).place
    good (core.address e) ok = good-address scope (typing scope e).place (good e ok).place
    good (core.dereference e) ok = good-pointed scope (typing scope e).type (good e ok).type
    good (core.decay e) ok = good-decayed scope (typing scope e).place (good e ok).place
    good (core.from_void t e) ok =
        good-allowed _ (of_value (pointer t)) (good-value (pointer t) (bare-pointer t (whole-tested t (both (is_whole t) _ ok).0)))
    good (core.index a b) ok =
        let parts = both (is_simple P scope a) (is_simple P scope b) ok in
        good-indexed scope (typing scope a) (typing scope b) (good a parts.0) (good b parts.1)
    good (core.pointer_operate o a b) ok =
        let parts = both (is_simple P scope a) (is_simple P scope b) ok in
        good-operated scope o (typing scope a) (typing scope b) (good a parts.0) (good b parts.1)
    good (core.convert t e) ok =
        let whole = whole-tested t (both (is_whole t) _ ok).0 in
        let v = good-value (plain t) (bare-plain t whole) in
        good-allowed _ (null_if _ (of_value (plain t))) (record { place = v.place; type = v.type; start = v.start })
    good (core.operate o k a b) ok = good-allowed _ (of_value (operated_type o k)) (good-value (operated_type o k) (operated-bare o k))
    good (core.unary o k e) ok = good-allowed _ (of_value (integer k)) (good-value (integer k) (bare-integer k))
    good (core.logical_not e) ok = good-allowed _ (of_value (integer Int)) (good-value (integer Int) int)
    good (core.logical_and a b) ok = good-allowed _ (of_value (integer Int)) (good-value (integer Int) int)
    good (core.logical_or a b) ok = good-allowed _ (of_value (integer Int)) (good-value (integer Int) int)
    good (core.conditional c a b) ok =
        let parts = both (is_simple P scope c) (is_simple P scope a && is_simple P scope b) ok in
        let inner = both (is_simple P scope a) (is_simple P scope b) parts.1 in
        good-allowed _ (either (typing scope a) (typing scope b)) (good-either scope (typing scope a) (typing scope b) (good a inner.0) (good b inner.1))
    good (core.comma es) ok = good-last es ok
    good (core.store a b) ok =
        let parts = both (is_simple P scope a) (is_simple P scope b) ok in
        good-stored scope (typing scope a).place (typing scope b) (good a parts.0).place
    good (core.update a c b) ok =
        let parts = both (is_simple P scope a) (is_simple P scope b) ok in
        good-changed scope (typing scope a).place _ (good a parts.0).place
    good (core.step p c e) ok = good-stepped scope p c (typing scope e).place (good e ok).place
    good (core.temporary t e) ok = good-allowed _ (of_place t) (good-place t (whole-tested t (both (is_whole t) _ ok).0))
    good (core.bind no_temporary e) ok = record { place = λ t e. absurd (none-is t e); type = λ t e. absurd (none-is t e); start = binds-scalar scope (typing scope e) }
    good (core.call n t absent es) ok = good-allowed _ (of_result (result t)) (call-good t (both (is_called_type t) _ ok).0)
    good (core.pointer_call absent e t es) ok = good-allowed _ (of_result (result t)) (call-good t (both (is_called_type t) _ ok).0)
    good e ok = absurd (no-test ok)

    good-last : (es : Cores) → are_simple P scope es ≡ true → Good (last_typing scope es)
    good-last core.none ok = absurd (no-test ok)
    good-last (core.more e core.none) ok = good e ok
    good-last (core.more e (core.more f es)) ok =
        let parts = both (is_simple P scope e) (are_simple P scope (core.more f es)) ok in
        good-allowed _ (last_typing scope (core.more f es)) (good-last (core.more f es) parts.1)
