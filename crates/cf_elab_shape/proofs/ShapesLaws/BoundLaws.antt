-- Bounds that are constants, declarator by declarator.
use Rattle.std.proofs.Common.{◌≡◌, ℕ, Bool, true, false, List, Option, None, Some, is_some, refl, ap, ◌∙◌}
use Rattle.cf_elab.specs.Answer.{Answer, Made, Refused, Passed, onward, need}
use Rattle.cf_elab.specs.Env.{Env}
use Rattle.cf_elab.specs.Operand.{Value}
use Rattle.cf_elab.specs.Shape as shape
use Rattle.cf_elab.specs.Shape.{Parameter, holding}
use Rattle.cf_elab_shape.specs.declared.shapes.shape.Shape.{Shape}
use Rattle.cf_elab_shape.specs.declared.shapes.shape.Shape.TheVariants as form
use Rattle.cf_elab_shape.specs.Shapes.Seen.{shape_seen}
use Rattle.cf_elab_shape.specs.Shapes.Shut as shut
use Rattle.cf_elab_shape.proofs.ShapesLaws.SeenLaws.{seen_inner, seen_pointing, seen_referring, seen_taking, seen_holding}

module _ (x s : Shape) (env : Env) where
  abbrev at_shape : Shape → Answer (Unit {0})
  at_shape y = shut.bounds_constant (shape_seen y) env

  abbrev seen_at : shape.Shape → Answer (Unit {0})
  seen_at y = shut.bounds_constant y env

  pub bounds_inner : x ≡ form.Inner → shut.bounds_constant (shape_seen x) env ≡ Made tt env
  unfolding shut.bounds_constant
  bounds_inner is = ap at_shape is ∙ ap seen_at seen_inner

  pub bounds_pointing : (at : ℕ) (c : Bool) → x ≡ form.Pointing at c s → shut.bounds_constant (shape_seen x) env ≡ shut.bounds_constant (shape_seen s) env
  unfolding shut.bounds_constant
  bounds_pointing at c is = ap at_shape is ∙ ap seen_at (seen_pointing at c s)

  pub bounds_referring : (at : ℕ) → x ≡ form.Referring at s → shut.bounds_constant (shape_seen x) env ≡ shut.bounds_constant (shape_seen s) env
  unfolding shut.bounds_constant
  bounds_referring at is = ap at_shape is ∙ ap seen_at (seen_referring at s)

  pub bounds_taking : (at : ℕ) (ps : List Parameter) (c : Bool) → x ≡ form.Taking at ps c s → shut.bounds_constant (shape_seen x) env ≡ shut.bounds_constant (shape_seen s) env
  unfolding shut.bounds_constant
  bounds_taking at ps c is = ap at_shape is ∙ ap seen_at (seen_taking at ps c s)

  pub bounds_holding : (at : ℕ) (b : Option Value) → x ≡ form.Holding at b s
      → shut.bounds_constant (shape_seen x) env ≡ onward (shut.bounds_constant (shape_seen s) env) (λ _ e. shut.known_bound at b e)
  unfolding shut.bounds_constant shut.known_bound
  bounds_holding at b is = ap at_shape is ∙ ap seen_at (seen_holding at b s) ∙ by b
    where
      then_nothing : (a : Answer (Unit {0})) → a ≡ onward a (λ _ e. Made tt e)
      then_nothing (Made u e) = refl
      then_nothing (Refused rule at) = refl
      then_nothing (Passed bound most) = refl

      by : (b : Option Value) → seen_at (holding at b (shape_seen s)) ≡ onward (shut.bounds_constant (shape_seen s) env) (λ _ e. shut.known_bound at b e)
      by None = then_nothing (seen_at (shape_seen s))
      by (Some v) = refl

pub no_bound : (at : ℕ) (b : Option Value) (env : Env) → b ≡ None → shut.known_bound at b env ≡ Made tt env
unfolding shut.known_bound
no_bound at b env is = ap (λ b. shut.known_bound at b env) is

pub bound_known : (at : ℕ) (b : Option Value) (v : Value) (env : Env) → b ≡ Some v → is_some v.number ≡ true → shut.known_bound at b env ≡ Made tt env
unfolding shut.known_bound
bound_known at b v env is some = ap (λ b. shut.known_bound at b env) is ∙ ap (λ b. need b 19 at env) some

pub bound_unknown : (at : ℕ) (b : Option Value) (v : Value) (env : Env) → b ≡ Some v → is_some v.number ≡ false → shut.known_bound at b env ≡ Refused 19 at
unfolding shut.known_bound
bound_unknown at b v env is none = ap (λ b. shut.known_bound at b env) is ∙ ap (λ b. need b 19 at env) none

pub ruleset bound_laws = (bounds_inner, bounds_pointing, bounds_referring, bounds_taking, bounds_holding)

pub ruleset one_bound_laws = (no_bound, bound_known, bound_unknown)
