-- Two plain values by their types: integers, pointers to objects, pointers to void.
use Rattle.std.proofs.Common.{◌≡◌, ℕ, true, false, Option, None, Some, refl, ap, ◌∙◌}
use Rattle.cf_base.specs.declared.arith.Arith.{Arith}
use Rattle.cf_base.specs.declared.kind.Kind.{Kind}
use Rattle.cf_syntax.specs.declared.operator.BinaryOp.{BinaryOp}
use Rattle.cf_elab.specs.Answer.{Answer, Refused}
use Rattle.cf_elab.specs.Binary as binary
use Rattle.cf_elab.specs.Env.{Env}
use Rattle.cf_elab.specs.Operand.{Value, Sort, sort_of, arithmetic, object_pointer, void_pointer, data_pointer, method_pointer, void_sort, is_void}
use Rattle.cf_elab_arith.specs.Arith.Shut as arith
use Rattle.cf_elab_arith.specs.Arith.Sorts.{kind_at, object_at, object_of, void_at, is_void_pointer, member_at, is_member}
use Rattle.cf_elab_operators.specs.Binary.Asked.{pointed, void_type_at}
use Rattle.cf_elab_operators.specs.Binary.Shut as shut

module _ (at : ℕ) (op : BinaryOp) (x y : Value) (env : Env) where
  -- by the sorts, with what each of them is as an integer
  abbrev by_types : Sort → Sort → Option Kind → Option Kind → Answer Value
  by_types s r a b = binary.by_sorts at op x y s r a b env

  abbrev first : Sort
  first = sort_of env.types x.type

  abbrev second : Sort
  second = sort_of env.types y.type

  -- ---- with an integer

  pub both_integers : (k l : Kind) → kind_at env.types x.type ≡ Some k → kind_at env.types y.type ≡ Some l → shut.by_sorts at op x y env ≡ shut.by_kinds at op k l x y env
  unfolding shut.by_sorts shut.by_kinds kind_at
  both_integers k l e f = ap (λ a. by_types first second a (arithmetic second)) e ∙ ap (by_types first second (Some k)) f

  pub pointer_first : (t : ℕ) (l : Kind) → object_at env.types x.type ≡ Some t → kind_at env.types y.type ≡ Some l
      → shut.by_sorts at op x y env ≡ shut.pointer_and_integer at op x t l y env
  unfolding shut.by_sorts shut.pointer_and_integer object_at kind_at
  pointer_first t l e f = by first e
    where
      by : (s : Sort) → object_of s ≡ Some t → by_types s second (arithmetic s) (arithmetic second) ≡ shut.pointer_and_integer at op x t l y env
      by (object_pointer u) e =
          let same : u ≡ t = cc in ap (by_types (object_pointer u) second None) f ∙ ap (λ t. shut.pointer_and_integer at op x t l y env) same
      by other e = cc

  pub other_first : (l : Kind) → kind_at env.types x.type ≡ None → object_at env.types x.type ≡ None → void_type_at env.types x.type ≡ false → kind_at env.types y.type ≡ Some l
      → shut.by_sorts at op x y env ≡ shut.with_null at op x y env
  unfolding shut.by_sorts shut.with_null object_at kind_at void_type_at
  other_first l n e v f = ap (λ a. by_types first second a (arithmetic second)) n ∙ ap (by_types first second None) f ∙ by first second e v
    where
      by : (s r : Sort) → object_of s ≡ None → is_void s ≡ false → by_types s r None (Some l) ≡ binary.with_null at op x y env
      by (object_pointer u) r e v = cc
      by void_sort r e v = cc
      by other r e v = refl

  pub void_first : (l : Kind) → kind_at env.types x.type ≡ None → void_type_at env.types x.type ≡ true → kind_at env.types y.type ≡ Some l
      → shut.by_sorts at op x y env ≡ Refused 18 at
  unfolding shut.by_sorts kind_at void_type_at
  void_first l n v f = ap (λ a. by_types first second a (arithmetic second)) n ∙ ap (by_types first second None) f ∙ by first second v
    where
      by : (s r : Sort) → is_void s ≡ true → by_types s r None (Some l) ≡ Refused 18 at
      by void_sort r v = refl
      by other r v = cc

  pub pointer_second : (k : Kind) (t : ℕ) → kind_at env.types x.type ≡ Some k → object_at env.types y.type ≡ Some t
      → shut.by_sorts at op x y env ≡ shut.integer_and_pointer at op x k y t env
  unfolding shut.by_sorts shut.integer_and_pointer object_at kind_at
  pointer_second k t e f = ap (λ a. by_types first second a (arithmetic second)) e ∙ by first second f
    where
      by : (s r : Sort) → object_of r ≡ Some t → by_types s r (Some k) (arithmetic r) ≡ shut.integer_and_pointer at op x k y t env
      by s (object_pointer u) f = let same : u ≡ t = cc in ap (λ t. shut.integer_and_pointer at op x k y t env) same
      by s other f = cc

  pub other_second : (k : Kind) → kind_at env.types x.type ≡ Some k → kind_at env.types y.type ≡ None → object_at env.types y.type ≡ None → void_type_at env.types y.type ≡ false
      → shut.by_sorts at op x y env ≡ shut.with_null at op x y env
  unfolding shut.by_sorts shut.with_null object_at kind_at void_type_at
  other_second k e n f v = ap (λ a. by_types first second a (arithmetic second)) e ∙ ap (by_types first second (Some k)) n ∙ by first second f v
    where
      by : (s r : Sort) → object_of r ≡ None → is_void r ≡ false → by_types s r (Some k) None ≡ binary.with_null at op x y env
      by s (object_pointer u) f v = cc
      by s void_sort f v = cc
      by s other f v = refl

  pub void_second : (k : Kind) → kind_at env.types x.type ≡ Some k → kind_at env.types y.type ≡ None → void_type_at env.types y.type ≡ true
      → shut.by_sorts at op x y env ≡ Refused 18 at
  unfolding shut.by_sorts kind_at void_type_at
  void_second k e n v = ap (λ a. by_types first second a (arithmetic second)) e ∙ ap (by_types first second (Some k)) n ∙ by first second v
    where
      by : (s r : Sort) → is_void r ≡ true → by_types s r (Some k) None ≡ Refused 18 at
      by s void_sort v = refl
      by s other v = cc

  -- ---- with no integer

  pub no_integer : kind_at env.types x.type ≡ None → kind_at env.types y.type ≡ None → shut.by_sorts at op x y env ≡ shut.of_two at op x y env
  unfolding shut.by_sorts shut.of_two kind_at
  no_integer e f = ap (λ a. by_types first second a (arithmetic second)) e ∙ ap (by_types first second None) f

  abbrev by_two : Sort → Sort → Answer Value
  by_two s r = by_types s r None None

  is-object : (s : Sort) (t : ℕ) → object_of s ≡ Some t → s ≡ object_pointer t
  is-object (object_pointer u) t e = let same : u ≡ t = cc in ap object_pointer same
  is-object other t e = cc

  is-void : (s : Sort) → is_void_pointer s ≡ true → s ≡ void_pointer
  is-void void_pointer e = refl
  is-void other e = cc

  pub two_objects : (t u : ℕ) → object_at env.types x.type ≡ Some t → object_at env.types y.type ≡ Some u → shut.of_two at op x y env ≡ shut.same_objects at op x y t u env
  unfolding shut.of_two shut.same_objects object_at
  two_objects t u e f = ap (λ s. by_two s second) (is-object first t e) ∙ ap (by_two (object_pointer t)) (is-object second u f)

  pub object_and_void : (t : ℕ) → object_at env.types x.type ≡ Some t → void_at env.types y.type ≡ true
      → shut.of_two at op x y env ≡ shut.void_equality at op x y (pointed env.types y.type) t env
  unfolding shut.of_two shut.void_equality object_at void_at pointed
  object_and_void t e f = ap (λ s. by_two s second) (is-object first t e) ∙ ap (by_two (object_pointer t)) (is-void second f)

  pub object_alone : (t : ℕ) → object_at env.types x.type ≡ Some t → object_at env.types y.type ≡ None → void_at env.types y.type ≡ false
      → shut.of_two at op x y env ≡ Refused 18 at
  unfolding shut.of_two object_at void_at
  object_alone t e f g = ap (λ s. by_two s second) (is-object first t e) ∙ by second f g
    where
      by : (r : Sort) → object_of r ≡ None → is_void_pointer r ≡ false → by_two (object_pointer t) r ≡ Refused 18 at
      by (object_pointer u) f g = cc
      by void_pointer f g = cc
      by other f g = refl

  pub void_and_object : (u : ℕ) → void_at env.types x.type ≡ true → object_at env.types y.type ≡ Some u
      → shut.of_two at op x y env ≡ shut.void_equality at op x y (pointed env.types x.type) u env
  unfolding shut.of_two shut.void_equality object_at void_at pointed
  void_and_object u e f = ap (λ s. by_two s second) (is-void first e) ∙ ap (by_two void_pointer) (is-object second u f)

  pub two_voids : void_at env.types x.type ≡ true → void_at env.types y.type ≡ true
      → shut.of_two at op x y env ≡ shut.void_equality at op x y (pointed env.types x.type) (pointed env.types y.type) env
  unfolding shut.of_two shut.void_equality void_at pointed
  two_voids e f = ap (λ s. by_two s second) (is-void first e) ∙ ap (by_two void_pointer) (is-void second f)

  pub void_alone : void_at env.types x.type ≡ true → object_at env.types y.type ≡ None → void_at env.types y.type ≡ false → shut.of_two at op x y env ≡ Refused 18 at
  unfolding shut.of_two object_at void_at
  void_alone e f g = ap (λ s. by_two s second) (is-void first e) ∙ by second f g
    where
      by : (r : Sort) → object_of r ≡ None → is_void_pointer r ≡ false → by_two void_pointer r ≡ Refused 18 at
      by (object_pointer u) f g = cc
      by void_pointer f g = cc
      by other f g = refl

  pub no_pointer : object_at env.types x.type ≡ None → void_at env.types x.type ≡ false → member_at env.types x.type ≡ false → shut.of_two at op x y env ≡ Refused 18 at
  unfolding shut.of_two object_at void_at member_at
  no_pointer e f g = by first second e f g
    where
      by : (s r : Sort) → object_of s ≡ None → is_void_pointer s ≡ false → is_member s ≡ false → by_two s r ≡ Refused 18 at
      by (object_pointer u) r e f g = cc
      by void_pointer r e f g = cc
      by (data_pointer c u) r e f g = cc
      by (method_pointer c h) r e f g = cc
      by other r e f g = refl

module _ (at : ℕ) (op : BinaryOp) (k l : Kind) (x y : Value) (env : Env) where
  pub on_integers : (a : Arith) → binary.integer_operator op ≡ Some a → shut.by_kinds at op k l x y env ≡ arith.on_kinds at a k l x y env
  unfolding shut.by_kinds arith.on_kinds
  on_integers a e = ap (λ o. binary.by_kinds at op o k l x y env) e

  pub no_operator : binary.integer_operator op ≡ None → shut.by_kinds at op k l x y env ≡ Refused 18 at
  unfolding shut.by_kinds
  no_operator e = ap (λ o. binary.by_kinds at op o k l x y env) e

-- ---- what each function is told

pub ruleset by_kinds_laws = (on_integers, no_operator)

pub ruleset by_sorts_laws = (both_integers)

pub ruleset integer_left_laws = (both_integers, pointer_second, void_second, other_second)

pub ruleset no_integer_left_laws = (no_integer)

pub ruleset integer_right_laws = (pointer_first, void_first, other_first)

pub ruleset no_integers_laws = (no_pointer)

pub ruleset object_left_laws = (two_objects, object_and_void, object_alone)

pub ruleset void_left_laws = (void_and_object, two_voids, void_alone)
