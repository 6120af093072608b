-- Parameters as objects of the outermost block (8.3).
use Rattle.std.proofs.Common.{◌≡◌, ℕ, ◌+◌, Bool, true, false, not, is_some, List, [], ◌∷◌, Option, Some, None, slice_get, refl, sym, ap, subst}
use Rattle.cf_syntax.specs.declared.name.Last.{Last}
use Rattle.cf_syntax.specs.declared.name.Last.TheVariants as last
use Rattle.cf_syntax.specs.declared.name.Name.{Name as WrittenName}
use Rattle.cf_core.specs.Types.{is_void}
use Rattle.cf_elab.specs.Answer.{Elab, onward, need, done, breaks}
use Rattle.cf_elab.specs.Definition as row
use Rattle.cf_elab.specs.Env.{Env, Name, object, class_name, local_home}
use Rattle.cf_elab.specs.Names.{declared_here, declare}
use Rattle.cf_elab.specs.Objects.{block_object, declare_in_block}
use Rattle.cf_elab.specs.Shape.{Parameter}
use Rattle.cf_elab_valid.specs.Answers.{Fine}
use Rattle.cf_elab_valid.specs.Scene.{Scene, tree, Steps, Within, Inside, Classless, Holds}
use Rattle.cf_elab_valid.proofs.Shapes.{ParametersThere, parameters-later}
use Rattle.cf_elab_valid.proofs.Ways.{made-fine, onward-fine, within-before, When}
use Rattle.cf_elab_valid_objects.specs.Declared.{AreComplete}
use Rattle.cf_elab_valid_objects.proofs.Locals.{complete-no-void}
use Rattle.cf_elab_valid_files.proofs.StaticsLaws.Names.{Any}
use Rattle.cf_elab_valid_files.proofs.DeclarationsLaws.Entering.{named-fine}

-- the frame has their types from this number on
abbrev pub AreHomes : Scene → ℕ → List Parameter → Type 0
AreHomes s i [] = Unit {0}
AreHomes s i (p ∷ ps) = (slice_get s.locals i ≡ Some p.type) × AreHomes s (i + 1) ps

module _ (s : Scene) (frame : AreComplete s) where
  object-fine : (i t : ℕ) (name : Name) (at : ℕ) (e : Env) → When s e (slice_get s.locals i ≡ Some t) → Classless e → When s e (Holds s e) → When s e (Inside e t) → Fine s Any e (declare_in_block name at (block_object t (local_home i) at) e)
  object-fine i t name at e home c h inside = by (is_some (declared_here e name))
    where
      by : (b : Bool) → Fine s Any e (onward (need (not b) 8 at e) (λ _. declare name (object (block_object t (local_home i) at))))
      by true = tt
      by false = named-fine s Any tt name (object (block_object t (local_home i) at)) e (λ k is. absurd cc) c h (λ w. (inside w, home w, complete-no-void (tree s t) (frame i t (home w)), tt)) (λ w. tt) (λ w. tt)

  pub parameters-fine : (i : ℕ) (ps : List Parameter) (e : Env) → When s e (AreHomes s i ps) → Classless e → When s e (Holds s e) → When s e (ParametersThere ps e) → Fine s Any e (row.declare_parameters i ps e)
  parameters-fine i [] e k c h f = made-fine s Any e tt c h (λ w. tt)
  parameters-fine i (p ∷ ps) e k c h f =
      onward-fine s Any Any e (declare_parameter p.name e) (λ _. row.declare_parameters (i + 1) ps) (by p.name)
      (λ u e1 g c1 h1 any. parameters-fine (i + 1) ps e1 (λ w. (k (within-before e e1 s g w)).1) c1 h1 (λ w. parameters-later e e1 ps g (f (within-before e e1 s g w)).1))
    where
      named : ℕ → Last → Elab (Unit {0})
      named at (last.Ident name) = declare_in_block name at (block_object p.type (local_home i) at)
      named at other = breaks 26 at

      declare_parameter : Option WrittenName → Elab (Unit {0})
      declare_parameter None = done
      declare_parameter (Some n) = named n.last_at n.last

      by : (o : Option WrittenName) → Fine s Any e (declare_parameter o e)
      by None = made-fine s Any e tt c h (λ w. tt)
      by (Some n) = by_last n.last
        where
          by_last : (l : Last) → Fine s Any e (named n.last_at l e)
          by_last (last.Ident name) = object-fine i p.type name n.last_at e (λ w. (k w).0) c h (λ w. (f w).0)
          by_last (last.Destructor name) = tt
          by_last (last.Operator o) = tt
          by_last (last.Conversion specifiers pointers) = tt
