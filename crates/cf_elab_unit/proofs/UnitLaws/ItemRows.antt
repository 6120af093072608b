-- What items are, and several of them.
use Rattle.std.proofs.Common.{◌≡◌, ◌∙◌, ℕ, zero, suc, ◌+◌, ◌<◌, ◌≤◌, List, [], ◌∷◌, length, get_or, drop, map, None, Some, refl, sym, ap, arith, drop-cons, drop_of_length-le, add-one}
use Rattle.cf_unit.specs.declared.class.FunctionDef.{FunctionDef}
use Rattle.cf_unit.specs.declared.declaration.Declaration.{Declaration}
use Rattle.cf_unit.specs.declared.file.Item.{Item}
use Rattle.cf_unit.specs.declared.file.Item.TheVariants as form
use Rattle.cf_unit.specs.declared.file.Linkage.{Linkage}
use Rattle.cf_elab.specs.Answer.{Answer, Made, onward}
use Rattle.cf_elab.specs.Built as built
use Rattle.cf_elab.specs.Built.{first_of}
use Rattle.cf_elab.specs.Env.{Env}
use Rattle.cf_elab_unit.specs.Body.DeclarationShut as declaration
use Rattle.cf_elab_unit.specs.Definitions.Shut as definition
use Rattle.cf_elab_env.specs.Answered.{Stops}
use Rattle.cf_elab_env.specs.declared.stop.Stop.{Stop}
use Rattle.cf_elab_env.specs.declared.stop.Stop.TheVariants as stop
use Rattle.cf_elab_unit.proofs.BodyLaws.ExprBuiltForms.{left, right}
use Rattle.cf_elab_file.specs.Shut as row
use Rattle.cf_elab_unit.specs.Unit.Shut as shut

-- ---- one

pub function_is : (f : FunctionDef) (env : Env) → shut.item (form.Function f) env ≡ definition.function f env
unfolding shut.item definition.function
function_is f env = refl

pub declaration_is : (d : Declaration) (env : Env) → shut.item (form.Declaration d) env ≡ onward (declaration.declaration d env) (λ _ env. Made tt env)
unfolding shut.item declaration.declaration
declaration_is d env = refl

pub function_built : (f : FunctionDef) → shut.IsBuilt (form.Function f) → definition.IsBuilt f
unfolding shut.IsBuilt definition.IsBuilt
function_built f h = h

pub declaration_built : (d : Declaration) → shut.IsBuilt (form.Declaration d) → declaration.IsBuilt d
unfolding shut.IsBuilt declaration.IsBuilt
declaration_built d h = h

pub no_linkage : (l : Linkage) → shut.IsBuilt (form.Linkage l) → ⊥
unfolding shut.IsBuilt
no_linkage l h = let e : Some l.at ≡ None = h in absurd cc

pub ruleset item_laws = (function_is, declaration_is, function_built, declaration_built, no_linkage)

-- ---- several

pub whole_is : (is : List Item) (env : Env) → shut.whole is env ≡ onward (shut.items is env) (λ _ env. row.all_defined env)
unfolding shut.whole row.all_defined
whole_is is env = refl

pub one_built : (is : List Item) (k : ℕ) (i : Item) → shut.AreBuilt is → k < length is → i ≡ get_or is k i → shut.IsBuilt i
unfolding shut.AreBuilt shut.IsBuilt
one_built [] k i h lt is = absurd (omega arith)
one_built (x ∷ xs) zero i h lt is = ap built.of_item is ∙ left (built.of_item x) (first_of (map built.of_item xs)) h
one_built (x ∷ xs) (suc k) i h lt is = one_built xs k i (right (built.of_item x) (first_of (map built.of_item xs)) h) (omega arith) is

pub at_end : (is : List Item) (k : ℕ) (env : Env) → length is ≤ k → shut.items (drop k is) env ≡ Made tt env
unfolding shut.items
at_end is k env le = ap (λ (l : List Item). shut.items l env) (drop_of_length-le is le)

module _ (start : Answer (Unit {0})) (is : List Item) (k : ℕ) (i : Item) (env : Env) (so_far : start ≡ shut.items (drop k is) env) (within : k < length is) (there : i ≡ get_or is k i) where
  abbrev rest : Answer (Unit {0}) → Answer (Unit {0})
  rest a = onward a (λ _ env. shut.items (drop (k + 1) is) env)

  here : drop k is ≡ i ∷ drop (k + 1) is
  here = drop-cons is k i within ∙ ap (λ x. x ∷ drop (suc k) is) (sym there) ∙ ap (λ n. i ∷ drop n is) (sym (add-one k))

  at_one : start ≡ rest (shut.item i env)
  unfolding shut.items shut.item
  at_one = so_far ∙ ap (λ (l : List Item). shut.items l env) here

  pub stopped : (s : Stop) → Stops (shut.item i env) s → Stops start s
  stopped (stop.Broken b) h = at_one ∙ ap rest h
  stopped (stop.Passed l) h = at_one ∙ ap rest h
  stopped stop.Memory h = tt

  pub going : (next : Env) → shut.item i env ≡ Made tt next → start ≡ shut.items (drop (k + 1) is) next
  going next h = at_one ∙ ap rest h
