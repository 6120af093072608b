-- What is known of a value that a condition chooses.
use Rattle.std.proofs.Common.{◌≡◌, ℕ, ◌==◌, Bool, true, false, ◌&&◌, if◌then◌else◌, ℤ, Option, None, Some, refl, sym, ap, subst, ◌∙◌, true≢false, arith}
use Rattle.std.proofs.lemmas.Bool.Decides.{nat_tests}
use Rattle.cf_base.specs.declared.kind.Kind.{Kind}
use Rattle.cf_types.specs.Table.{Table}
use Rattle.cf_elab.specs.Arithmetic.{is_nonzero}
use Rattle.cf_elab.specs.Choice as choice
use Rattle.cf_elab.specs.Operand.{Value, Sort, sort_of, is_void, integral, enumeral, object_pointer, void_pointer, function_pointer, data_pointer, method_pointer, class_sort, array_sort, function_sort, void_sort, reference_sort}
use Rattle.cf_elab_arith.proofs.ArithLaws.Known.{integer_known}
use Rattle.cf_elab_arith.specs.Choice.Asked.{are_void, void_at, is_one_place}
use Rattle.cf_elab_env.specs.Holds.{Known, IsType, FitsIn, fits_sort}
use Rattle.cf_elab_numbers.specs.Numbers.{NumberOf}

if_zero : (types : Table) (t : ℕ) (b : Bool) (x y : ℤ) → FitsIn types t (Some x) → FitsIn types t (Some y) → FitsIn types t (if b then Some x else Some y)
if_zero types t true x y f g = f
if_zero types t false x y f g = g

chosen_fits : (types : Table) (t : ℕ) (c x y : Option ℤ) → FitsIn types t x → FitsIn types t y → FitsIn types t (choice.chosen c x y)
chosen_fits types t None x y f g = tt
chosen_fits types t (Some c) None y f g = tt
chosen_fits types t (Some c) (Some x) None f g = tt
chosen_fits types t (Some c) (Some x) (Some y) f g = if_zero types t (is_nonzero c) x y f g

pub one_known : (types : Table) (at : ℕ) (c x y v : Value) (t : ℕ) → v ≡ choice.one_of at c x y t → Known types (record x { type = t }) → Known types (record y { type = t }) → Known types v
one_known types at c x y v t e f g =
    let known : Known types (choice.one_of at c x y t) = record { typed = f.typed; number = chosen_fits types t c.number x.number y.number f.number g.number } in
    subst (Known types) (sym e) known

pub place_known : (types : Table) (at : ℕ) (c x y v : Value) → v ≡ choice.one_place at c x y → Known types x → Known types (record y { type = x.type }) → Known types v
place_known types at c x y v e f g =
    let known : Known types (choice.one_place at c x y) = record { typed = f.typed; number = chosen_fits types x.type c.number x.number y.number f.number g.number } in
    subst (Known types) (sym e) known

-- ---- a value as one of a type

pub known_as : (types : Table) (v : Value) (t : ℕ) → v.type ≡ t → Known types v → Known types (record v { type = t })
known_as types v t e k = subst (λ t. Known types (record v { type = t })) e k

-- the second of two places of one type
last-true : (a b : Bool) → a && b ≡ true → b ≡ true
last-true true b h = h
last-true false b h = absurd (true≢false (sym h))

pub second_place : (types : Table) (x y : Value) → is_one_place x y ≡ true → Known types y → Known types (record y { type = x.type })
unfolding is_one_place
second_place types x y is k =
    let test : (x.type == y.type) ≡ true = last-true (x.is_lvalue && y.is_lvalue) (x.type == y.type) is in
    let same : y.type ≡ x.type = grind (arith, nat_tests) in known_as types y x.type same k

pub integer_as : (types : Table) (v : Value) (t : ℕ) (k : Kind) → IsType types t → sort_of types t ≡ integral k → NumberOf k v.number → Known types (record v { type = t })
integer_as types v t k typed e f = integer_known types (record v { type = t }) k typed e f

void_fits : (z : Option ℤ) (types : Table) (t : ℕ) → sort_of types t ≡ void_sort → FitsIn types t z
void_fits None types t e = tt
void_fits (Some z) types t e = rw e refl

is-void : (s : Sort) → is_void s ≡ true → s ≡ void_sort
is-void void_sort h = refl
is-void (integral k) h = absurd (true≢false (sym h))
is-void (enumeral e) h = absurd (true≢false (sym h))
is-void (object_pointer t) h = absurd (true≢false (sym h))
is-void void_pointer h = absurd (true≢false (sym h))
is-void (function_pointer t) h = absurd (true≢false (sym h))
is-void (data_pointer c t) h = absurd (true≢false (sym h))
is-void (method_pointer c f) h = absurd (true≢false (sym h))
is-void (class_sort c) h = absurd (true≢false (sym h))
is-void (array_sort t n) h = absurd (true≢false (sym h))
is-void (function_sort f) h = absurd (true≢false (sym h))
is-void (reference_sort t) h = absurd (true≢false (sym h))

first-true : (a b : Bool) → a && b ≡ true → a ≡ true
first-true true b h = refl
first-true false b h = h

pub void_as : (types : Table) (v : Value) (t u : ℕ) → IsType types t → are_void types t u ≡ true → Known types (record v { type = t })
unfolding are_void void_at
void_as types v t u typed e =
    record { typed = typed; number = void_fits v.number types t (is-void (sort_of types t) (first-true (is_void (sort_of types t)) (is_void (sort_of types u)) e)) }
