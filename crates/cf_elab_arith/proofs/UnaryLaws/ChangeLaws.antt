-- ++ and --, step by step, and places that may be changed.
use Rattle.std.proofs.Common.{◌≡◌, ℕ, Bool, true, false, Option, None, Some, refl, sym, ap, ◌∙◌}
use Rattle.cf_convert.specs.Constness.{bare}
use Rattle.cf_core.specs.declared.node.Change.{Change}
use Rattle.cf_core.specs.declared.node.Core.TheVariants as node
use Rattle.cf_syntax.specs.declared.operator.StepOp.{StepOp}
use Rattle.cf_elab.specs.Answer.{Answer, Made, Refused, onward, need}
use Rattle.cf_elab.specs.Complete.{complete}
use Rattle.cf_elab.specs.Env.{Env}
use Rattle.cf_elab.specs.Operand.{Value, Sort, object_pointer, sort_of, computed, place_of}
use Rattle.cf_elab.specs.Unary as unary
use Rattle.cf_elab_arith.specs.Arith.Sorts.{object_at, object_of}
use Rattle.cf_elab_arith.specs.Unary.Shut as shut
use Rattle.cf_elab_arith.proofs.UnaryLaws.PointerLaws.{unnumbered}

pub is_modifiable : (at : ℕ) (v : Value) (env : Env) → unary.modifiable env v ≡ true → shut.need_modifiable at v env ≡ Made tt env
unfolding shut.need_modifiable
is_modifiable at v env h = ap (λ b. need b 12 at env) h

pub is_unmodifiable : (at : ℕ) (v : Value) (env : Env) → unary.modifiable env v ≡ false → shut.need_modifiable at v env ≡ Refused 12 at
unfolding shut.need_modifiable
is_unmodifiable at v env h = ap (λ b. need b 12 at env) h

pub changed : (at : ℕ) (p : Bool) (o : Option Change) (c : Change) (v x : Value) (env : Env) → o ≡ Some c → x ≡ unary.stepped_value at p c v (bare env.types v.type)
    → shut.changed_by at p v o env ≡ Made x env
unfolding shut.changed_by
changed at p o c v x env is e = ap (λ o. unary.changed_by at p v o env) is ∙ ap (λ x. Made x env) (sym e)

pub unchanged : (at : ℕ) (p : Bool) (o : Option Change) (v : Value) (env : Env) → o ≡ None → shut.changed_by at p v o env ≡ Refused 18 at
unfolding shut.changed_by
unchanged at p o v env is = ap (λ o. unary.changed_by at p v o env) is

module _ (at t : ℕ) (env : Env) where
  pub pointer_element : (u : ℕ) → object_at env.types t ≡ Some u → shut.element_complete at (sort_of env.types t) env ≡ shut.need_complete at u env
  unfolding shut.element_complete shut.need_complete object_at
  pointer_element u e = by (sort_of env.types t) e
    where
      by : (s : Sort) → object_of s ≡ Some u → unary.element_complete at s env ≡ need (complete env u) 30 at env
      by (object_pointer v) e = let same : v ≡ u = cc in ap (λ w. need (complete env w) 30 at env) same
      by other e = cc

  pub no_element : object_at env.types t ≡ None → shut.element_complete at (sort_of env.types t) env ≡ Made tt env
  unfolding shut.element_complete object_at
  no_element e = by (sort_of env.types t) e
    where
      by : (s : Sort) → object_of s ≡ None → unary.element_complete at s env ≡ Made tt env
      by (object_pointer v) e = cc
      by other e = refl

-- behind the operand, and before it
pub behind : (at : ℕ) (p : Bool) (c : Change) (v : Value) (t : ℕ) → p ≡ true → unary.stepped_value at p c v t ≡ computed at (node.Increment at p c v.node) t
behind at true c v t h = refl
behind at false c v t h = cc

pub before : (at : ℕ) (p : Bool) (c : Change) (v : Value) (t : ℕ) → p ≡ false → unary.stepped_value at p c v t ≡ place_of at (node.Increment at p c v.node) v.type false
before at true c v t h = cc
before at false c v t h = refl

pub increment_is : (at : ℕ) (s : StepOp) (p : Bool) (v : Value) (env : Env)
    → shut.increment at s p v env ≡ onward (shut.need_modifiable at v env) (λ _ e. onward (shut.changed_by at p v (unary.step_change s (sort_of e.types v.type)) e) (λ x f.
    onward (shut.element_complete at (sort_of e.types v.type) f) (λ _ g. Made x g)))
unfolding shut.increment shut.need_modifiable shut.changed_by shut.element_complete
increment_is at s p v env = refl

pub ruleset modifiable_laws = (is_modifiable, is_unmodifiable)

pub ruleset stepped_laws = (behind, before, unnumbered)

pub ruleset changed_laws = (changed, unchanged)

pub ruleset element_laws = (pointer_element, no_element)

pub ruleset increment_laws = (increment_is)
