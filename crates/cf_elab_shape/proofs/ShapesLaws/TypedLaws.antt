-- The type of what is declared, operator by operator from the outside in.
use Rattle.std.proofs.Common.{◌≡◌, ℕ, Bool, true, false, not, ◌&&◌, ◌||◌, List, Option, None, Some, refl, sym, ap, subst, ◌∙◌}
use Rattle.cf_types.specs.Table.{Table}
use Rattle.cf_elab.specs.Answer.{Answer, Made, Refused, Passed, onward, need, each}
use Rattle.cf_elab.specs.Env.{Env}
use Rattle.cf_elab.specs.Made.{pointer_to, reference_to, array_of, const_if, function_type}
use Rattle.cf_elab.specs.Operand.{Value, sort_of, is_array, is_function, is_void, is_reference}
use Rattle.cf_elab.specs.Shape as shape
use Rattle.cf_elab.specs.Shape.{Parameter, Position, inner, pointing, referring, taking, holding, is_inner, whole, unbounded}
use Rattle.cf_elab_env.specs.Holds.{Grows}
use Rattle.cf_elab_env.proofs.Growth.{grown_laws}
use Rattle.cf_elab_shape.specs.Shapes.Holds.{IsShape, AreObjects}
use Rattle.cf_elab_shape.specs.declared.shapes.shape.Shape.{Shape}
use Rattle.cf_elab_shape.specs.declared.shapes.shape.Shape.TheVariants as form
use Rattle.cf_elab_shape.specs.Shapes.Seen.{shape_seen}
use Rattle.cf_elab_shape.specs.Shapes.Shut as shut
use Rattle.cf_elab_shape.proofs.ShapesLaws.SeenLaws.{seen_inner, seen_pointing, seen_referring, seen_taking, seen_holding}
use Rattle.cf_elab_shape.proofs.ShapesLaws.ParameterLaws.{objects_grown}

pub shape_grown : (a b : Table) (s : shape.Shape) → Grows a b → IsShape a s → IsShape b s
shape_grown a b inner g k = tt
shape_grown a b (pointing at c s) g k = shape_grown a b s g k
shape_grown a b (referring at s) g k = shape_grown a b s g k
shape_grown a b (shape.to_member at n c s) g k = shape_grown a b s g k
shape_grown a b (taking at ps c s) g k = (objects_grown a b ps g k.0, shape_grown a b s g k.1)
shape_grown a b (holding at o s) g k = shape_grown a b s g k

-- one answer behind another, in two ways
through : {A B C : Type 0} (a : Answer A) (f : A → Env → Answer B) (g : B → Env → Answer C) → onward (onward a f) g ≡ onward a (λ x e. onward (f x e) g)
through (Made x e) f g = refl
through (Refused r at) f g = refl
through (Passed b m) f g = refl

module _ (position : Position) (x s : Shape) (t : ℕ) (env : Env) where
  abbrev rest : ℕ → Env → Answer shape.Shaped
  rest u e = shut.typed position (shape_seen s) u e

  abbrev seen_at : shape.Shape → Answer shape.Shaped
  seen_at y = shut.typed position y t env

  abbrev at_shape : Shape → Answer shape.Shaped
  at_shape y = shut.typed position (shape_seen y) t env

  pub typed_inner : x ≡ form.Inner → shut.typed position (shape_seen x) t env ≡ Made (whole t) env
  unfolding shut.typed
  typed_inner is = ap at_shape is ∙ ap seen_at seen_inner

  pub typed_pointing : (at : ℕ) (c : Bool) → x ≡ form.Pointing at c s
      → shut.typed position (shape_seen x) t env ≡ onward (shut.pointing at c t env) (λ u e. shut.typed position (shape_seen s) u e)
  unfolding shut.typed shut.pointing
  typed_pointing at c is = ap at_shape is ∙ ap seen_at (seen_pointing at c s) ∙ by (not (is_reference (sort_of env.types t)))
    where
      by : (b : Bool) → onward (need b 26 at env) (λ _ e. onward (pointer_to t e) (λ p f. onward (const_if c p f) rest))
          ≡ onward (onward (need b 26 at env) (λ _ e. onward (pointer_to t e) (λ p f. const_if c p f))) rest
      by true = refl
      by false = refl

  pub typed_referring : (at : ℕ) → x ≡ form.Referring at s
      → shut.typed position (shape_seen x) t env ≡ onward (shut.referring at t env) (λ u e. shut.typed position (shape_seen s) u e)
  unfolding shut.typed shut.referring
  typed_referring at is = ap at_shape is ∙ ap seen_at (seen_referring at s) ∙ by (not (is_reference (sort_of env.types t) || is_void (sort_of env.types t)))
    where
      by : (b : Bool) → onward (need b 26 at env) (λ _ e. onward (reference_to t e) rest) ≡ onward (onward (need b 26 at env) (λ _ e. reference_to t e)) rest
      by true = refl
      by false = refl

  pub typed_taking : (at : ℕ) (ps : List Parameter) (c may : Bool) → x ≡ form.Taking at ps c s → may ≡ (is_inner (shape_seen s) && position.const_function)
      → shut.typed position (shape_seen x) t env ≡ onward (shut.taking at ps c may t env) (λ u e. shut.typed position (shape_seen s) u e)
  unfolding shut.typed shut.taking
  typed_taking at ps c may is can =
      ap at_shape is ∙ ap seen_at (seen_taking at ps c s)
      ∙ by (not (is_array (sort_of env.types t) || is_function (sort_of env.types t))) (not c || (is_inner (shape_seen s) && position.const_function))
      ∙ ap (λ m. onward (shut.taking at ps c m t env) rest) (sym can)
    where
      types : Env → Answer (List ℕ)
      types = each (λ (p : Parameter). shape.parameter_type p.type) ps

      by : (a b : Bool) → onward (need a 26 at env) (λ _ e. onward (need b 26 at e) (λ _ f. onward (types f) (λ qs g. onward (function_type t qs c g) rest)))
          ≡ onward (onward (need a 26 at env) (λ _ e. onward (need b 26 at e) (λ _ f. onward (types f) (λ qs g. function_type t qs c g)))) rest
      by true true = sym (through (types env) (λ qs g. function_type t qs c g) rest)
      by true false = refl
      by false b = refl

  pub typed_holding : (at : ℕ) (b : Option Value) (v : Value) → x ≡ form.Holding at b s → b ≡ Some v
      → shut.typed position (shape_seen x) t env ≡ onward (shut.holding at v t env) (λ u e. shut.typed position (shape_seen s) u e)
  unfolding shut.typed shut.holding
  typed_holding at b v is some =
      ap at_shape is ∙ ap seen_at (seen_holding at b s) ∙ ap (λ b. seen_at (holding at b (shape_seen s))) some
      ∙ by (not (is_reference (sort_of env.types t) || is_void (sort_of env.types t) || is_function (sort_of env.types t))) (shape.fine_bound v.number)
    where
      by : (a b : Bool) → onward (need a 26 at env) (λ _ e. onward (need b 26 at e) (λ _ f. onward (array_of t (shape.count_of v.number) f) rest))
          ≡ onward (onward (need a 26 at env) (λ _ e. onward (need b 26 at e) (λ _ f. array_of t (shape.count_of v.number) f))) rest
      by true true = refl
      by true false = refl
      by false b = refl

  pub typed_unbounded : (at : ℕ) (b : Option Value) (may : Bool) → x ≡ form.Holding at b s → b ≡ None → may ≡ (is_inner (shape_seen s) && position.unbounded)
      → shut.typed position (shape_seen x) t env ≡ shut.unbounded at may t env
  unfolding shut.typed shut.unbounded
  typed_unbounded at b may is none can =
      ap at_shape is ∙ ap seen_at (seen_holding at b s) ∙ ap (λ b. seen_at (holding at b (shape_seen s))) none ∙ ap (λ m. shut.unbounded at m t env) (sym can)

-- ---- what stands inside

module _ (types : Table) (x s : Shape) (k : IsShape types (shape_seen x)) where
  abbrev its : shape.Shape → Type 0
  its y = IsShape types y

  inside : (y : Shape) (z : shape.Shape) → x ≡ y → shape_seen y ≡ z → IsShape types z
  inside y z is seen = subst its (ap shape_seen is ∙ seen) k

  pub in_pointing : (at : ℕ) (c : Bool) → x ≡ form.Pointing at c s → IsShape types (shape_seen s)
  in_pointing at c is = inside (form.Pointing at c s) (pointing at c (shape_seen s)) is (seen_pointing at c s)

  pub in_referring : (at : ℕ) → x ≡ form.Referring at s → IsShape types (shape_seen s)
  in_referring at is = inside (form.Referring at s) (referring at (shape_seen s)) is (seen_referring at s)

  pub in_taking : (at : ℕ) (ps : List Parameter) (c : Bool) → x ≡ form.Taking at ps c s → IsShape types (shape_seen s)
  in_taking at ps c is = let both : AreObjects types ps × IsShape types (shape_seen s) = inside (form.Taking at ps c s) (taking at ps c (shape_seen s)) is (seen_taking at ps c s) in both.1

  pub taken_objects : (at : ℕ) (ps : List Parameter) (c : Bool) → x ≡ form.Taking at ps c s → AreObjects types ps
  taken_objects at ps c is = let both : AreObjects types ps × IsShape types (shape_seen s) = inside (form.Taking at ps c s) (taking at ps c (shape_seen s)) is (seen_taking at ps c s) in both.0

  pub in_holding : (at : ℕ) (b : Option Value) → x ≡ form.Holding at b s → IsShape types (shape_seen s)
  in_holding at b is = inside (form.Holding at b s) (holding at b (shape_seen s)) is (seen_holding at b s)

-- the same as the table grows, of what stands inside by another name
module _ (old new : Table) (x s r : Shape) (k : IsShape old (shape_seen x)) (g : Grows old new) where
  by_name : r ≡ s → IsShape old (shape_seen s) → IsShape new (shape_seen r)
  by_name same known = shape_grown old new (shape_seen r) g (subst (λ y. IsShape old (shape_seen y)) (sym same) known)

  pub pointing_inside : (at : ℕ) (c : Bool) → x ≡ form.Pointing at c s → r ≡ s → IsShape new (shape_seen r)
  pointing_inside at c is same = by_name same (in_pointing old x s k at c is)

  pub referring_inside : (at : ℕ) → x ≡ form.Referring at s → r ≡ s → IsShape new (shape_seen r)
  referring_inside at is same = by_name same (in_referring old x s k at is)

  pub taking_inside : (at : ℕ) (ps : List Parameter) (c : Bool) → x ≡ form.Taking at ps c s → r ≡ s → IsShape new (shape_seen r)
  taking_inside at ps c is same = by_name same (in_taking old x s k at ps c is)

  pub holding_inside : (at : ℕ) (b : Option Value) → x ≡ form.Holding at b s → r ≡ s → IsShape new (shape_seen r)
  holding_inside at b is same = by_name same (in_holding old x s k at b is)

pub ruleset typed_laws = (typed_inner, typed_pointing, typed_referring, typed_taking, typed_holding, typed_unbounded, pointing_inside, referring_inside, taking_inside, taken_objects, holding_inside, grown_laws)
