-- Nodes that name functions and static objects.
use Rattle.std.proofs.Common.{◌≡◌, ◌∙◌, ℕ, Result, Err, ap, sym, subst}
use Rattle.cf_types.specs.Table.{Table}
use Rattle.cf_core.specs.Types.{Name}
use Rattle.cf_core.specs.declared.node.Core.{Core}
use Rattle.cf_core.specs.declared.node.Core.TheOpen.{Core-F}
use Rattle.cf_core.specs.declared.node.Core.TheFolds.{fold-roll-Core}
use Rattle.cf_core.specs.declared.node.Core.TheVariants as core
use Rattle.cf_run_tree.specs.declared.node.Node.{Node}
use Rattle.cf_run_tree.specs.declared.node.Node.TheVariants as node
use Rattle.cf_core_node.specs.declared.defined.Defined.{Defined}
use Rattle.cf_core_node.specs.declared.fault.NotLoaded.{NotLoaded}
use Rattle.cf_core_node.specs.declared.fault.NotLoaded.TheVariants as fault
use Rattle.cf_core_node.specs.Formed.{Formed, made}
use Rattle.cf_core_node.specs.Gives.{Gives}
use Rattle.cf_core_node.specs.Nodes.{link, named_function, named_object, node_of, step, no_part}

-- a type without a form
pub made-stops : {A B : Type 0} (f : A → B) (x : Formed A) (e : NotLoaded) → Gives x (Err e) → Gives (made f x) (Err e)
made-stops f x (fault.NotBuilt at) g = ap (made f) g
made-stops f x fault.Memory g = tt

module _ (types : Table) (defined : Defined) (e : Core) (at : ℕ) (n : Name) (t : ℕ) (result : Result Node NotLoaded) where
  pub gives-static : e ≡ core.Static at n t → Gives (made (λ s. node.Static (link types defined n) s) (named_object types defined at (link types defined n) t)) result
      → Gives (node_of types defined e) result
  gives-static is g =
      subst (λ (f : Formed Node). Gives f result)
      (sym (ap (node_of types defined) (is ∙ sym (core.rolls-Static at n t)) ∙ fold-roll-Core (Formed Node) (Unit {0}) (step types defined) no_part (Core-F.Static at n t))) g

  pub gives-function : e ≡ core.Function at n t → Gives (made (λ s. node.Function (link types defined n) s) (named_function types defined at (link types defined n) t)) result
      → Gives (node_of types defined e) result
  gives-function is g =
      subst (λ (f : Formed Node). Gives f result)
      (sym (ap (node_of types defined) (is ∙ sym (core.rolls-Function at n t)) ∙ fold-roll-Core (Formed Node) (Unit {0}) (step types defined) no_part (Core-F.Function at n t))) g
