-- The body of a function in a scene: its parameters, and then its statements (8.3).
use Rattle.std.proofs.Common.{◌≡◌, ℕ, ◌≤◌, Bool, true, false, List, [], ◌∷◌, ◌++◌, map, length, Option, Some, None, refl, sym, ap, subst, ◌∙◌, true≢false}
use Rattle.cf_core.specs.declared.node.Core.{Core as Node}
use Rattle.cf_core.specs.declared.node.Core.TheVariants as node
use Rattle.cf_core.specs.FromClasses.{signature_of}
use Rattle.cf_core.specs.Numbers.{are_known}
use Rattle.cf_core.specs.Valid.{fits}
use Rattle.cf_elab.specs.Answer.{Elab, onward, all, gives}
use Rattle.cf_elab.specs.Definition as row
use Rattle.cf_elab.specs.Env.{Env}
use Rattle.cf_elab.specs.Shape.{Parameter}
use Rattle.cf_elab.specs.Statement.{Made, nodes_of}
use Rattle.cf_elab_valid.specs.Answers.{Fine}
use Rattle.cf_elab_valid.specs.Scene.{Scene, IsScene, core, Steps, Within, Classless, Holds}
use Rattle.cf_elab_valid.specs.Statements.{body_of, Inner, AreStatements}
use Rattle.cf_elab_valid.proofs.Blocks.{Statements, all-statements, block-fits}
use Rattle.cf_elab_valid.proofs.Nodes.{core-Block, known-Block}
use Rattle.cf_elab_valid.proofs.Shapes.{ParametersThere}
use Rattle.cf_elab_valid.proofs.Statements.{inner-later}
use Rattle.cf_elab_valid.proofs.Ways.{made-fine, onward-fine, When}
use Rattle.cf_elab_valid_files.specs.Bodies.Laws.{IsEnd}
use Rattle.cf_elab_valid_files.proofs.StaticsLaws.Names.{Any}
use Rattle.cf_elab_valid_files.proofs.FunctionsLaws.Parameters.{AreHomes, parameters-fine}

-- a body that fits, where `break` and `continue` stand as told
pub record BodyFits (s : Scene) (n : ℕ) (m breaks continues : Bool) (x : Node) : Type 0 where
  pub numbers : are_known s.tables x ≡ true
  pub fine : fits (body_of s n m) breaks continues (core s x) ≡ true

module _ (s : Scene) (end : IsEnd s) (n : ℕ) (m : Bool) (at : ℕ) (ss : List (Elab Made)) (k : AreStatements s n m ss) (ps : List Parameter) where
  statements-fine : (e : Env) → Inner s n m e → Classless e → When s e (Holds s e) → Fine s (λ x f. BodyFits s n m e.hand.breaks e.hand.continues x) e (row.body_of at ss e)
  statements-fine e i c h =
      onward-fine s (Statements s end.scene n m e.hand.breaks e.hand.continues) (λ x f. BodyFits s n m e.hand.breaks e.hand.continues x) e (all ss e) (λ ms. gives (node.Block at (nodes_of ms))) (all-statements s end.scene n m ss k e i c h)
      (λ ms e1 g c1 h1 f. made-fine s (λ x f. BodyFits s n m e.hand.breaks e.hand.continues x) e1 (node.Block at (nodes_of ms)) c1 h1
      (λ w. let p = block-fits s end.scene n m e.hand.breaks e.hand.continues ms e1 (f w) in record {
        numbers = known-Block s.tables at (nodes_of ms) ∙ p.0;
        fine = ap (fits (body_of s n m) e.hand.breaks e.hand.continues) (core-Block s.tables (signature_of s.tables) at (nodes_of ms)) ∙ p.1;
      }))

  pub body-fine : (e : Env) → e.hand.breaks ≡ false → e.hand.continues ≡ false → When s e (AreHomes s 0 ps) → Inner s n m e → Classless e → When s e (Holds s e) → When s e (ParametersThere ps e)
      → Fine s (λ x f. BodyFits s n m false false x) e (onward (row.declare_parameters 0 ps e) (λ _. row.body_of at ss))
  body-fine e b q homes i c h f =
      onward-fine s Any (λ x f. BodyFits s n m false false x) e (row.declare_parameters 0 ps e) (λ _. row.body_of at ss) (parameters-fine s end.frame 0 ps e homes c h f)
      (λ u e1 g c1 h1 any. subst (λ x. Fine s (λ y f. BodyFits s n m x false y) e1 (row.body_of at ss e1)) (g.hand.breaks ∙ b)
      (subst (λ x. Fine s (λ y f. BodyFits s n m e1.hand.breaks x y) e1 (row.body_of at ss e1)) (g.hand.continues ∙ q) (statements-fine e1 (inner-later s n m e e1 g i) c1 h1)))
