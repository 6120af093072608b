-- ++ and -- (5.2.5, 5.3).
use Rattle.std.proofs.Common.{◌≡◌, ℕ, Bool, true, false, not, ◌&&◌, Option, Some, None, pos, refl, sym, subst, ◌∙◌}
use Rattle.cf_convert.specs.Constness.{bare, is_const}
use Rattle.cf_syntax.specs.declared.operator.StepOp.{StepOp}
use Rattle.cf_core.specs.declared.node.Change.{Change}
use Rattle.cf_core.specs.declared.node.Core.TheVariants as node
use Rattle.cf_core.specs.FromClasses.{signature_of}
use Rattle.cf_core.specs.Typed.{typing}
use Rattle.cf_core.specs.Types.{SourceType, integer, pointer}
use Rattle.cf_core.specs.Typing.{changes, of_number}
use Rattle.cf_core.specs.View.{change_of}
use Rattle.cf_core_typed.specs.Same.{is_operand}
use Rattle.cf_core_typed.specs.Meets.{IsPlace, IsValue}
use Rattle.cf_core_typed.proofs.Operators.{step-value-is, step-place-is}
use Rattle.cf_core_typed.proofs.Same.{and-left, same-operand}
use Rattle.cf_elab.specs.Answer.{onward, need, gives}
use Rattle.cf_elab.specs.Complete.{complete}
use Rattle.cf_elab.specs.Env.{Env}
use Rattle.cf_elab.specs.Operand.{Value, Sort, integral, object_pointer, sort_of, is_array, is_function}
use Rattle.cf_elab.specs.Unary as row
use Rattle.cf_elab.specs.Unary.{step_change, modifiable, element_complete, stepped_value, changed_by}
use Rattle.cf_elab_valid.specs.Answers.{Fine}
use Rattle.cf_elab_valid.specs.Scene.{Scene, IsScene, tree, typed, scope_of, Within, Classless, Holds, Fits, Meets}
use Rattle.cf_elab_valid.specs.Sorts.{SortIs}
use Rattle.cf_elab_valid.proofs.Arithmetic.{IsOperand, plain-operand}
use Rattle.cf_elab_valid.proofs.Early.{early-bare, early-inside, early-sort-is}
use Rattle.cf_elab_valid.proofs.FitRows.{Still, needed, still-fine}
use Rattle.cf_elab_valid.proofs.Nodes.{core-Increment, known-Increment}
use Rattle.cf_elab_valid.proofs.Unary.{changed_place}
use Rattle.cf_elab_valid.proofs.Values.{value-plain, place-fits, place-no-void, place-no-reference}
use Rattle.cf_elab_valid.proofs.Ways.{made-fine, When}

pub modifiable-place : (e : Env) (v : Value) → modifiable e v ≡ true → v.is_lvalue ≡ true
modifiable-place e v h =
    and-left v.is_lvalue (not (is_const e.types v.type))
    (and-left (v.is_lvalue && not (is_const e.types v.type)) (not (is_array (sort_of e.types v.type)))
    (and-left (v.is_lvalue && not (is_const e.types v.type) && not (is_array (sort_of e.types v.type))) (not (is_function (sort_of e.types v.type))) h))

element_still : (e : Env) (at : ℕ) (k : Sort) → Still e (element_complete at k e)
element_still e at (object_pointer t) = needed e (complete e t) 30 at
element_still e at k = refl

stepped_operand : (s : Scene) (o : StepOp) (k : Sort) (u : SourceType) (ch : Change) → step_change o k ≡ Some ch → SortIs s.tables k u → is_operand u ≡ true
stepped_operand s o (integral k) u ch h is = same-operand u (integer k) is
stepped_operand s o (object_pointer t) u ch h is = same-operand u (pointer (tree s t)) is.same
stepped_operand s o k u ch h is = absurd cc

module _ (s : Scene) (scene : IsScene s) where
  module _ (at : ℕ) (o : StepOp) (v : Value) (e : Env) (w : Within e s) (f : Fits s e v) (ch : Change) (found : step_change o (sort_of e.types v.type) ≡ Some ch) (l : v.is_lvalue ≡ true) where
    place : IsPlace (typed s v.node) (tree s v.type)
    place = subst (λ b. Meets b (typed s v.node) (tree s v.type)) l f.meets

    fine : changes (change_of ch) (typed s v.node).place (of_number (pos 1)) ≡ true
    fine = changed_place s scene (sort_of e.types v.type) o v e w refl f ch found (subst (λ b. Meets b (typed s v.node) (tree s v.type)) l f.meets)

    operand : is_operand (tree s v.type) ≡ true
    operand = stepped_operand s o (sort_of e.types v.type) (tree s v.type) ch found (early-sort-is s.tables scene.table e.types w.types scene.no_class scene.none_to_reference v.type f.inside)

    stepped-fits : (b : Bool) → Fits s e (stepped_value at b ch v (bare e.types v.type))
    stepped-fits true =
        plain-operand s (tree s v.type) (stepped_value at true ch v (bare e.types v.type)) e
        (value-plain s e (tree s v.type) at (bare e.types v.type) (node.Increment at true ch v.node) None false (early-inside s.tables scene.table e.types w.types v.type f.inside)
        (sym (early-bare s.tables scene.table e.types w.types v.type f.inside)) (known-Increment s.tables at true ch v.node ∙ f.numbers) operand
        (subst (λ c. IsValue (typing (scope_of s) c) (tree s v.type)) (sym (core-Increment s.tables (signature_of s.tables) at true ch v.node))
        (step-value-is (scope_of s) (typed s v.node) (tree s v.type) (change_of ch) fine place)) tt)
    stepped-fits false =
        place-fits s e at v.type (node.Increment at false ch v.node) None false f.inside (known-Increment s.tables at false ch v.node ∙ f.numbers) (place-no-void v.is_lvalue (tree s v.type) l f.allowed) (place-no-reference v.is_lvalue (tree s v.type) l f.allowed)
        (subst (λ c. IsPlace (typing (scope_of s) c) (tree s v.type)) (sym (core-Increment s.tables (signature_of s.tables) at false ch v.node))
        (step-place-is (scope_of s) (typed s v.node) (tree s v.type) (change_of ch) fine place)) tt

  pub increment-fine : (at : ℕ) (o : StepOp) (postfix : Bool) (v : Value) (e : Env) → Classless e → When s e (Holds s e) → When s e (Fits s e v) → Fine s (IsOperand s) e (row.increment at o postfix v e)
  increment-fine at o postfix v e c h f = by (modifiable e v) refl
    where
      changed : (ch : Option Change) → step_change o (sort_of e.types v.type) ≡ ch → v.is_lvalue ≡ true
          → Fine s (IsOperand s) e (onward (changed_by at postfix v ch e) (λ r x. onward (element_complete at (sort_of e.types v.type) x) (λ _. gives r)))
      changed None found l = tt
      changed (Some ch) found l =
          still-fine s (IsOperand s) e (element_complete at (sort_of e.types v.type) e) (gives (stepped_value at postfix ch v (bare e.types v.type))) (element_still e at (sort_of e.types v.type))
          (made-fine s (IsOperand s) e (stepped_value at postfix ch v (bare e.types v.type)) c h (λ w. stepped-fits at o v e w (f w) ch found l postfix))

      by : (m : Bool) → modifiable e v ≡ m
          → Fine s (IsOperand s) e (onward (need m 12 at e) (λ _ g. onward (changed_by at postfix v (step_change o (sort_of g.types v.type)) g) (λ r x. onward (element_complete at (sort_of g.types v.type) x) (λ _. gives r))))
      by false is = tt
      by true is = changed (step_change o (sort_of e.types v.type)) refl (modifiable-place e v is)
