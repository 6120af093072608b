-- What declares an object, in a function and outside of functions (3.3, 6.7).
use Rattle.std.proofs.Common.{◌≡◌, ℕ, Bool, true, false, not, ◌&&◌, if◌then◌else◌, is_some, List, [], ◌∷◌, ◌++◌, Option, Some, None, refl, sym, ap, subst, ◌∙◌}
use Rattle.std.specs.Option.{option_map_or}
use Rattle.cf_core.specs.Types.{is_void}
use Rattle.cf_elab.specs.Answer.{Answer, Made, Elab, onward, gives}
use Rattle.cf_elab.specs.Declaration as row
use Rattle.cf_elab.specs.Declaration.{Initial, initial_place, object_says, Declares}
use Rattle.cf_elab.specs.Env.{Env, Name}
use Rattle.cf_elab.specs.Names.{is_file_scope}
use Rattle.cf_elab.specs.Objects.{Reached, Says, Written, declare_linked, define_in_file, define_in_function, define_local}
use Rattle.cf_elab.specs.Specifiers.{Gathered, is_extern, is_static}
use Rattle.cf_elab_valid.specs.Answers.{Fine}
use Rattle.cf_elab_valid.specs.Scene.{Scene, IsScene, tree, Steps, Within, Inside, Classless, Holds}
use Rattle.cf_elab_valid.specs.Statements.{is_outermost, Inner}
use Rattle.cf_elab_valid.proofs.Named.{NamedFits}
use Rattle.cf_elab_valid.proofs.Shapes.{none_still}
use Rattle.cf_elab_valid.proofs.Statements.{inner-later}
use Rattle.cf_elab_valid.proofs.Ways.{fine-as, made-fine, onward-fine, When}
use Rattle.cf_elab_valid_objects.specs.Declared.{AllReached, AreComplete}
use Rattle.cf_elab_valid_objects.specs.Starts.{NoVoidElements, MaybeFits}
use Rattle.cf_elab_valid_objects.proofs.Locals.{local-fine}
use Rattle.cf_elab_valid_files.specs.Statics.Fixed.{AreParts}
use Rattle.cf_elab_valid_files.specs.Statics.Linked.{StandsFor}
use Rattle.cf_elab_valid_files.proofs.StaticsLaws.Files.{file-fine}
use Rattle.cf_elab_valid_files.proofs.StaticsLaws.Frames.{function-fine}
use Rattle.cf_elab_valid_files.proofs.StaticsLaws.Linked.{linked-fine}
use Rattle.cf_elab_valid_files.proofs.StaticsLaws.Names.{Any}
use Rattle.cf_elab_valid_files.proofs.DeclarationsLaws.Entering.{still-alone}
use Rattle.cf_elab_valid_files.proofs.DeclarationsLaws.Rows.{AreDeclarators, objects_of, declared-rows}

file-told : (e : Env) → is_file_scope e.scopes ≡ is_outermost e.scopes.outer
file-told e = by e.scopes.outer
  where
    by : (l : List (List (Name × ℕ))) → (elim l as (λ _. Bool) [ [] ↦ true | s ∷ rest ↦ false ]) ≡ is_outermost l
    by [] = refl
    by (x ∷ xs) = refl

-- outside of functions
pub record Outside (e : Env) : Type 0 where
  pub outermost : is_outermost e.scopes.outer ≡ true

pub outside-later : (a b : Env) → Steps a b → Outside a → Outside b
outside-later a b g o = record { outermost = ap is_outermost g.outer ∙ o.outermost }

module _ (s : Scene) (scene : IsScene s) (arrays : NoVoidElements s.tables) where
  -- ---- declared only

  only-fine : (d : Says) (e : Env) → Classless e → When s e (Holds s e) → When s e (Inside e d.type) → When s e (is_void (tree s d.type) ≡ false) → Fine s Any e (row.only_declared d e)
  only-fine d e c h i n =
      onward-fine s (λ x f. StandsFor d.name d.type f) Any e (declare_linked d e) (λ _. gives []) (linked-fine s scene d e c h i n) (λ x e1 g c1 h1 p. made-fine s Any e1 [] c1 h1 (λ w. tt))

  -- ---- outside of functions

  abbrev Nothing : List Reached → Type 0
  Nothing rs = Unit {0}

  file-objects : s.locals ≡ [] → (g : Gathered) (name : Name) (at t : ℕ) (parts : Elab (Option Written)) (w : Option Initial) (e : Env) → Outside e → AreParts s e parts → Classless e → When s e (Holds s e)
      → When s e (Inside e t) → When s e (is_void (tree s t) ≡ false) → Fine s (λ rs f. Nothing rs) e (objects_of true g name at t parts w e)
  file-objects none g name at t parts w e o given c h i n = by (is_extern g && not (is_some w))
    where
      by : (b : Bool) → Fine s (λ rs f. Nothing rs) e (let run : Elab (List Reached) = if b then row.only_declared (object_says g name at t false (is_some w)) else (λ f. onward (define_in_file (object_says g name at t true (is_some w)) parts f) (λ _. gives [])) in run e)
      by true = only-fine (object_says g name at t false (is_some w)) e c h i n
      by false =
          onward-fine s Any (λ rs f. Nothing rs) e (define_in_file (object_says g name at t true (is_some w)) parts e) (λ _. gives [])
          (file-fine s scene arrays none (object_says g name at t true (is_some w)) parts e given.initial c h i n) (λ u e1 g1 c1 h1 any. made-fine s (λ rs f. Nothing rs) e1 [] c1 h1 (λ w. tt))

  pub file-rows : s.locals ≡ [] → (at : ℕ) (g : Gathered) (ds : List Declares) (e : Env) → AreDeclarators s scene ds → Outside e → Classless e → When s e (Holds s e) → When s e (NamedFits g e) → Fine s (λ rs f. Nothing rs) e (row.declaration_row at g ds e)
  file-rows none at g ds e k o c h m =
      declared-rows s scene arrays true Outside Nothing outside-later (λ f p. file-told f ∙ p.outermost) tt (λ xs ys p q. tt) (file-objects none) at g ds e k o c h m

  -- ---- in a function

  module _ (frame : AreComplete s) (n : ℕ) (m : Bool) where
    abbrev Reaches : List Reached → Type 0
    Reaches rs = AllReached s n m rs

    both-reached : (xs ys : List Reached) → Reaches xs → Reaches ys → Reaches (xs ++ ys)
    both-reached [] ys p q = q
    both-reached (x ∷ xs) ys p q = (p.0, both-reached xs ys p.1 q)

    module _ (g : Gathered) (name : Name) (at t : ℕ) (parts : Elab (Option Written)) (w : Option Initial) (e : Env) (inner : Inner s n m e) (given : AreParts s e parts) (c : Classless e) (h : When s e (Holds s e)) (i : When s e (Inside e t)) (v : When s e (is_void (tree s t) ≡ false)) where
      abbrev external : Env → Answer (List Reached)
      external f = onward (onward (onward (row.only_declared (object_says g name at t false (is_some w)) f) (λ _. parts)) (λ _. row.no_initialiser w)) (λ _. gives [])

      external-fine : Fine s (λ rs f. Reaches rs) e (external e)
      external-fine =
          onward-fine s Any (λ rs f. Reaches rs) e (onward (onward (row.only_declared (object_says g name at t false (is_some w)) e) (λ _. parts)) (λ _. row.no_initialiser w)) (λ _. gives [])
          (onward-fine s Any Any e (onward (row.only_declared (object_says g name at t false (is_some w)) e) (λ _. parts)) (λ _. row.no_initialiser w)
          (onward-fine s Any Any e (row.only_declared (object_says g name at t false (is_some w)) e) (λ _. parts) (only-fine (object_says g name at t false (is_some w)) e c h i v)
          (λ x e1 g1 c1 h1 any. fine-as s (λ y f. MaybeFits s f y) Any e1 (parts e1) (λ y f p. tt) (given.initial.fine e1 g1 c1 h1)))
          (λ y e2 g2 c2 h2 any. still-alone s e2 (row.no_initialiser w e2) (none_still (option_map_or (λ i. Some (initial_place i)) w None) 28 e2) c2 h2))
          (λ u e3 g3 c3 h3 any. made-fine s (λ rs f. Reaches rs) e3 [] c3 h3 (λ w. tt))

      block-objects : Fine s (λ rs f. Reaches rs) e (objects_of false g name at t parts w e)
      block-objects = by (is_extern g) (is_static g)
        where
          by : (a b : Bool) → Fine s (λ rs f. Reaches rs) e (let run : Elab (List Reached) = if a then external else (if b then define_in_function at name t parts else define_local at name t parts) in run e)
          by true b = external-fine
          by false true = function-fine s scene arrays n m at name t parts e given inner.owner c h i v
          by false false = local-fine s scene arrays frame n m at name t parts e given.initial inner.behind c h i

    pub block-rows : (at : ℕ) (g : Gathered) (ds : List Declares) (e : Env) → AreDeclarators s scene ds → Inner s n m e → Classless e → When s e (Holds s e) → When s e (NamedFits g e) → Fine s (λ rs f. Reaches rs) e (row.declaration_row at g ds e)
    block-rows at g ds e k inner c h f =
        declared-rows s scene arrays false (Inner s n m) Reaches (inner-later s n m) (λ e p. file-told e ∙ p.deep) tt both-reached
        (λ g name at t parts w e inner given c h i v. block-objects g name at t parts w e inner given c h i v) at g ds e k inner c h f
