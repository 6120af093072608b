-- The parts of an initialiser that is built are built.
use Rattle.std.proofs.Common.{◌≡◌, ℕ, zero, suc, ◌<◌, List, [], ◌∷◌, map, length, get_or, Some, sym, ap, ◌∙◌, arith}
use Rattle.cf_syntax.specs.declared.expression.Expr.{Expr}
use Rattle.cf_unit.specs.declared.initialiser.Init.{Init, fold-roll-Init}
use Rattle.cf_unit.specs.declared.initialiser.Init.TheOpen.{Init-F}
use Rattle.cf_unit.specs.declared.initialiser.Init.TheVariants as form
use Rattle.cf_unit.specs.declared.initialiser.Init.TheVariants.{rolls-Value, rolls-List}
use Rattle.cf_unit.specs.declared.initialiser.Initialiser.{Initialiser}
use Rattle.cf_unit.specs.declared.initialiser.Initialiser.TheVariants as initialiser
use Rattle.cf_elab.specs.Built.{Place, first_of}
use Rattle.cf_elab_expr.specs.Shut as expression
use Rattle.cf_elab_expr.proofs.BuiltForms.{left, right}
use Rattle.cf_elab_declaration.specs.WrittenTrees.Shut.{init_step, init_place, IsBuilt, AreBuilt, InitialiserIsBuilt, PartsAreBuilt}

module _ (at : ℕ) where
  pub value_inside : (e : Expr) → IsBuilt (form.Value at e) → expression.IsBuilt e
  unfolding IsBuilt expression.IsBuilt
  value_inside e h = sym (ap init_place (sym (rolls-Value at e)) ∙ fold-roll-Init Place init_step (Init-F.Value at e)) ∙ h

  pub list_inside : (is : List Init) → IsBuilt (form.List at is) → AreBuilt is
  unfolding IsBuilt AreBuilt
  list_inside is h = sym (ap init_place (sym (rolls-List at is)) ∙ fold-roll-Init Place init_step (Init-F.List at is)) ∙ h

  pub equals_inside : (i : Init) → InitialiserIsBuilt (initialiser.Equals at i) → IsBuilt i
  unfolding InitialiserIsBuilt IsBuilt
  equals_inside i h = h

  pub arguments_inside : (es : List Expr) → InitialiserIsBuilt (initialiser.Arguments at es) → expression.AreBuilt es
  unfolding InitialiserIsBuilt expression.AreBuilt
  arguments_inside es h = h

pub some_inside : (i : Initialiser) → PartsAreBuilt (Some i) → InitialiserIsBuilt i
unfolding InitialiserIsBuilt PartsAreBuilt
some_inside i h = h

-- each of several
pub one_built : (is : List Init) (n : ℕ) (i : Init) → AreBuilt is → n < length is → i ≡ get_or is n i → IsBuilt i
unfolding AreBuilt IsBuilt
one_built [] n i h lt is = absurd (omega arith)
one_built (x ∷ xs) zero i h lt is = ap init_place is ∙ left (init_place x) (first_of (map init_place xs)) h
one_built (x ∷ xs) (suc n) i h lt is = one_built xs n i (right (init_place x) (first_of (map init_place xs)) h) (omega arith) is
