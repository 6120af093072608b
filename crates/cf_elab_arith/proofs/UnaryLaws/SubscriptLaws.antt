-- Subscripts, by which of the two values is the pointer.
use Rattle.std.proofs.Common.{◌≡◌, ℕ, Bool, Option, None, Some, refl, ap, ◌∙◌}
use Rattle.cf_base.specs.declared.kind.Kind.{Kind}
use Rattle.cf_core.specs.declared.node.Core.TheVariants as node
use Rattle.cf_elab.specs.Answer.{Answer, Made, Refused, onward}
use Rattle.cf_elab.specs.Env.{Env}
use Rattle.cf_elab.specs.Operand.{Value, Sort, object_pointer, sort_of, arithmetic, place_of}
use Rattle.cf_elab.specs.Unary as unary
use Rattle.cf_elab_env.proofs.Growth.{grown_laws}
use Rattle.cf_elab_arith.specs.Arith.FitShut as fit
use Rattle.cf_elab_arith.specs.Arith.Sorts.{object_at, object_of, kind_at}
use Rattle.cf_elab_arith.specs.Unary.Fixed.{stays_fixed}
use Rattle.cf_elab_arith.specs.Unary.Shut as shut
use Rattle.cf_elab_arith.proofs.UnaryLaws.PointerLaws.{unnumbered}

pub element_is : (at t : ℕ) (fixed : Bool) (x y : Value) (env : Env)
    → shut.element_of at t fixed x y env ≡ onward (shut.need_complete at t env) (λ _ env. Made (place_of at (node.Index at x.node y.node) t fixed) env)
unfolding shut.element_of shut.need_complete
element_is at t fixed x y env = refl

pub pointer_first_is : (at t : ℕ) (x : Value) (k : Kind) (y : Value) (env : Env)
    → shut.pointer_first at t x k y env ≡ onward (fit.to_kind k y env) (λ i env. shut.element_of at t (stays_fixed x i) x i env)
unfolding shut.pointer_first shut.element_of fit.to_kind
pointer_first_is at t x k y env = refl

pub integer_first_is : (at t : ℕ) (k : Kind) (x y : Value) (env : Env)
    → shut.integer_first at t k x y env ≡ onward (fit.to_kind k x env) (λ i env. shut.element_of at t (stays_fixed y i) i y env)
unfolding shut.integer_first shut.element_of fit.to_kind
integer_first_is at t k x y env = refl

module _ (at : ℕ) (x y : Value) (env : Env) where
  -- by the types, with what each of them is as an integer
  abbrev by_types : Sort → Sort → Option Kind → Option Kind → Answer Value
  by_types s r a b = unary.indexed at x y s r a b env

  pub left : (t : ℕ) (k : Kind) → object_at env.types x.type ≡ Some t → kind_at env.types y.type ≡ Some k → shut.indexed at x y env ≡ shut.pointer_first at t x k y env
  unfolding shut.indexed shut.pointer_first object_at kind_at
  left t k e f = by (sort_of env.types x.type) (sort_of env.types y.type) e f
    where
      by : (s r : Sort) → object_of s ≡ Some t → arithmetic r ≡ Some k → by_types s r (arithmetic s) (arithmetic r) ≡ shut.pointer_first at t x k y env
      by (object_pointer u) r e f = let same : u ≡ t = cc in ap (by_types (object_pointer u) r None) f ∙ ap (λ t. shut.pointer_first at t x k y env) same
      by other r e f = cc

  pub left_alone : (t : ℕ) → object_at env.types x.type ≡ Some t → kind_at env.types y.type ≡ None → shut.indexed at x y env ≡ Refused 18 at
  unfolding shut.indexed object_at kind_at
  left_alone t e f = by (sort_of env.types x.type) (sort_of env.types y.type) e f
    where
      alone : (u : ℕ) (r : Sort) → by_types (object_pointer u) r None None ≡ Refused 18 at
      alone u (object_pointer w) = refl
      alone u other = refl

      by : (s r : Sort) → object_of s ≡ Some t → arithmetic r ≡ None → by_types s r (arithmetic s) (arithmetic r) ≡ Refused 18 at
      by (object_pointer u) r e f = ap (by_types (object_pointer u) r None) f ∙ alone u r
      by other r e f = cc

  pub right : (t : ℕ) (k : Kind) → object_at env.types x.type ≡ None → object_at env.types y.type ≡ Some t → kind_at env.types x.type ≡ Some k → shut.indexed at x y env ≡ shut.integer_first at t k x y env
  unfolding shut.indexed shut.integer_first object_at kind_at
  right t k n e f = by (sort_of env.types x.type) (sort_of env.types y.type) n e f
    where
      by : (s r : Sort) → object_of s ≡ None → object_of r ≡ Some t → arithmetic s ≡ Some k → by_types s r (arithmetic s) (arithmetic r) ≡ shut.integer_first at t k x y env
      by (object_pointer w) r n e f = cc
      by s (object_pointer u) n e f = let same : u ≡ t = cc in ap (λ a. by_types s (object_pointer u) a None) f ∙ ap (λ t. shut.integer_first at t k x y env) same
      by s r n e f = cc

  pub right_alone : (t : ℕ) → object_at env.types x.type ≡ None → object_at env.types y.type ≡ Some t → kind_at env.types x.type ≡ None → shut.indexed at x y env ≡ Refused 18 at
  unfolding shut.indexed object_at kind_at
  right_alone t n e f = by (sort_of env.types x.type) (sort_of env.types y.type) n e f
    where
      by : (s r : Sort) → object_of s ≡ None → object_of r ≡ Some t → arithmetic s ≡ None → by_types s r (arithmetic s) (arithmetic r) ≡ Refused 18 at
      by (object_pointer w) r n e f = cc
      by s (object_pointer u) n e f = ap (λ a. by_types s (object_pointer u) a None) f
      by s r n e f = cc

  pub no_pointer : object_at env.types x.type ≡ None → object_at env.types y.type ≡ None → shut.indexed at x y env ≡ Refused 18 at
  unfolding shut.indexed object_at
  no_pointer e f = by (sort_of env.types x.type) (sort_of env.types y.type) e f
    where
      by : (s r : Sort) → object_of s ≡ None → object_of r ≡ None → by_types s r (arithmetic s) (arithmetic r) ≡ Refused 18 at
      by (object_pointer u) r e f = cc
      by s (object_pointer u) e f = cc
      by s r e f = refl

pub subscript_is : (at : ℕ) (x y : Value) (env : Env)
    → shut.subscript at x y env ≡ onward (fit.plain x env) (λ a env. onward (fit.plain y env) (λ b env. shut.indexed at a b env))
unfolding shut.subscript shut.indexed fit.plain
subscript_is at x y env = refl

pub ruleset element_laws = (element_is, unnumbered)

pub ruleset pointer_first_laws = (pointer_first_is, grown_laws)

pub ruleset integer_first_laws = (integer_first_is, grown_laws)

pub ruleset left_laws = (left, left_alone, grown_laws)

pub ruleset integer_laws = (right, right_alone, grown_laws)

pub ruleset right_laws = (no_pointer, grown_laws)

pub ruleset subscript_laws = (subscript_is, grown_laws)
