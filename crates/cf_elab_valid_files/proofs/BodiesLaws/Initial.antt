-- The parts of initialisers by their trees (8.4).
use Rattle.std.proofs.Common.{◌≡◌, ℕ, Bool, true, false, ◌&&◌, List, [], ◌∷◌, map, Option, Some, None, refl, sym, ap, subst, ◌∙◌}
use Rattle.std.specs.Option.{option_map}
use Rattle.cf_syntax.specs.declared.expression.Expr.{Expr}
use Rattle.cf_unit.specs.declared.initialiser.Init.{Init, fold-Init, roll-Init, ind-Init, fold-roll-Init, map-Init}
use Rattle.cf_unit.specs.declared.initialiser.Init.TheOpen.{Init-F}
use Rattle.cf_unit.specs.declared.initialiser.Initialiser.{Initialiser}
use Rattle.cf_unit.specs.declared.initialiser.Initialiser.TheVariants as initialiser
use Rattle.cf_core_typed.proofs.Same.{and-left, and-right}
use Rattle.cf_elab.specs.Answer.{Answer, Made, Refused, Passed, Elab, onward, gives, all, each, maybe}
use Rattle.cf_elab.specs.Built as built
use Rattle.cf_elab.specs.Built.{Place}
use Rattle.cf_elab.specs.Declaration.{Initial, initial_of, parts_of, written}
use Rattle.cf_elab.specs.Env.{Env}
use Rattle.cf_elab.specs.Expression.{elaborated}
use Rattle.cf_elab.specs.Lists.{Tree, Trees, leaf, text, branch, no_trees, trees, listed, expression_tree, leaf_or_text, tree_of, tree_step}
use Rattle.cf_elab.specs.Objects.{Written, equals, bracketed}
use Rattle.cf_elab.specs.Operand.{Part, evaluated}
use Rattle.cf_elab_valid.specs.Answers.{Fine}
use Rattle.cf_elab_valid.specs.Constants.{all_of, constants_fit}
use Rattle.cf_elab_valid.specs.Scene.{Scene, IsScene, Steps, Classless, Holds}
use Rattle.cf_elab_valid.proofs.Arithmetic.{IsOperand}
use Rattle.cf_elab_valid.proofs.Expressions.{expression-whole}
use Rattle.cf_elab_valid.proofs.Named.{first-none}
use Rattle.cf_elab_valid.proofs.Parts.{evaluated-fine}
use Rattle.cf_elab_valid.proofs.Ways.{made-fine, onward-fine, within-before, When}
use Rattle.cf_elab_valid_objects.specs.Declared.{AreInitial}
use Rattle.cf_elab_valid_objects.specs.Quiet.{LeavesIn}
use Rattle.cf_elab_valid_objects.specs.Starts.{NoVoidElements, TreeFits, TreesFit, ListFits, WrittenFits, MaybeFits}
use Rattle.cf_elab_valid_objects.proofs.Conversions.{evaluated-quiet}
use Rattle.cf_elab_valid_objects.proofs.Expressions as quiet
use Rattle.cf_elab_valid_objects.proofs.Initialisers.{leaves-quiet, leaves-none, leaves-onward}
use Rattle.cf_elab_valid_objects.proofs.Plans.{tree-later, list-later}
use Rattle.cf_elab_valid_files.specs.Statics.Fixed.{AreParts}
use Rattle.cf_elab_valid_files.specs.Bodies.Laws.{ConstantsAreApart}
use Rattle.cf_elab_valid_files.specs.Bodies.Trees as well
use Rattle.cf_elab_valid_files.specs.Bodies.Trees.{init_fits, initialiser_fits}

-- a run that is fine and leaves the names, wherever it is elaborated
pub record IsRun {A : Type 0} (s : Scene) (P : A → Env → Type 0) (run : Elab A) : Type 0 where
  pub fine : (e : Env) → Classless e → When s e (Holds s e) → Fine s P e (run e)
  pub leaves : (e : Env) → Classless e → LeavesIn e (run e)

module _ (s : Scene) (scene : IsScene s) where
  abbrev Fits_tree : Tree → Env → Type 0
  Fits_tree x e = TreeFits s e x

  abbrev Fits_trees : List Tree → Env → Type 0
  Fits_trees xs e = ListFits s e xs

  -- ---- an expression, or a string literal that waits

  expression-run : (at : ℕ) (x : Expr) → built.expression x ≡ None → constants_fit x ≡ true → IsRun s Fits_tree (expression_tree at (elaborated x))
  expression-run at x b f = by (elaborated x).text
    where
      by : (o : Option (ℕ × List ℕ)) → IsRun s Fits_tree (leaf_or_text at (elaborated x) o)
      by (Some t) = record { fine = λ e c h. made-fine s Fits_tree e (text at t.0 t.1) c h (λ w. tt); leaves = λ e c. leaves-none e c }
      by None = record {
        fine = λ e c h. onward-fine s (IsOperand s) Fits_tree e (evaluated (elaborated x) e) (λ v. gives (leaf at v)) (evaluated-fine s scene (elaborated x) e (expression-whole s scene x b f).part c h)
            (λ v e1 g c1 h1 p. made-fine s Fits_tree e1 (leaf at v) c1 h1 p);
        leaves = λ e c. leaves-onward e (evaluated (elaborated x) e) (λ v. gives (leaf at v)) c (leaves-quiet e (evaluated (elaborated x) e) (evaluated-quiet (elaborated x) e (quiet.expression-whole x b).part c)) (λ v f cf. leaves-none f cf);
      }

  -- ---- several

  abbrev AreRuns : List (Elab Tree) → Type 0
  AreRuns [] = Unit {0}
  AreRuns (x ∷ xs) = IsRun s Fits_tree x × AreRuns xs

  all-run : (xs : List (Elab Tree)) → AreRuns xs → IsRun s Fits_trees (all xs)
  all-run [] k = record { fine = λ e c h. made-fine s Fits_trees e [] c h (λ w. tt); leaves = λ e c. leaves-none e c }
  all-run (x ∷ xs) k = record {
    fine = λ e c h. onward-fine s Fits_tree Fits_trees e (x e) _ (k.0.fine e c h)
        (λ y e1 g c1 h1 p. onward-fine s Fits_trees Fits_trees e1 (all xs e1) (λ ys. gives (y ∷ ys)) ((all-run xs k.1).fine e1 c1 h1)
        (λ ys e2 g2 c2 h2 q. made-fine s Fits_trees e2 (y ∷ ys) c2 h2 (λ w. (tree-later s y e1 e2 g2 (p (within-before e1 e2 s g2 w)), q w))));
    leaves = λ e c. leaves-onward e (x e) _ c (k.0.leaves e c) (λ y f cf. leaves-onward f (all xs f) (λ ys. gives (y ∷ ys)) cf ((all-run xs k.1).leaves f cf) (λ ys g cg. leaves-none g cg));
  }

  listed-fit : (xs : List Tree) (e : Env) → ListFits s e xs → TreesFit s e (listed xs)
  listed-fit [] e f = tt
  listed-fit (x ∷ xs) e f = (f.0, listed-fit xs e f.1)

  -- ---- behind `=`

  abbrev P-init : Init → Type 0
  P-init i = built.init i ≡ None → init_fits i ≡ true → IsRun s Fits_tree (tree_of i)

  abbrev Inits : Type 0
  Inits = (i : Init) × P-init i

  abbrev init_of : Init-F Inits → Init-F Init
  init_of y = map-Init Inits Init (λ (i : Inits). i.0) y

  runs-of : (xs : List Inits) → built.first_of (map built.init (map (λ (i : Inits). i.0) xs)) ≡ None → all_of (map init_fits (map (λ (i : Inits). i.0) xs)) ≡ true → AreRuns (map tree_of (map (λ (i : Inits). i.0) xs))
  runs-of [] b f = tt
  runs-of (x ∷ xs) b f =
      let split = first-none (built.init x.0) (built.first_of (map built.init (map (λ (i : Inits). i.0) xs))) b in (
        x.1 split.0 (and-left (init_fits x.0) (all_of (map init_fits (map (λ (i : Inits). i.0) xs))) f),
        runs-of xs split.1 (and-right (init_fits x.0) (all_of (map init_fits (map (λ (i : Inits). i.0) xs))) f),
      )

  init-layer : (y : Init-F Inits) → built.init_step (map-Init Init Place built.init (init_of y)) ≡ None → well.init_step (map-Init Init Bool init_fits (init_of y)) ≡ true
      → IsRun s Fits_tree (tree_step (map-Init Init (Elab Tree) tree_of (init_of y)))
  init-layer (Init-F.Value at x) b f = expression-run at x b f
  init-layer (Init-F.List at xs) b f =
      let k = all-run (map tree_of (map (λ (i : Inits). i.0) xs)) (runs-of xs b f) in record {
        fine = λ e c h. onward-fine s Fits_trees Fits_tree e (all (map tree_of (map (λ (i : Inits). i.0) xs)) e) (λ us. gives (branch at (listed us))) (k.fine e c h)
            (λ us e1 g c1 h1 p. made-fine s Fits_tree e1 (branch at (listed us)) c1 h1 (λ w. listed-fit us e1 (p w)));
        leaves = λ e c. leaves-onward e (all (map tree_of (map (λ (i : Inits). i.0) xs)) e) (λ us. gives (branch at (listed us))) c (k.leaves e c) (λ us g cg. leaves-none g cg);
      }

  init-step : (x : Init-F Init) (y : Init-F Inits) → init_of y ≡ x → P-init (roll-Init x)
  init-step x y is = subst (λ z. P-init (roll-Init z)) is (λ b f.
      subst (IsRun s Fits_tree) (sym (fold-roll-Init (Elab Tree) tree_step (init_of y)))
      (init-layer y (sym (fold-roll-Init Place built.init_step (init_of y)) ∙ b) (sym (fold-roll-Init Bool well.init_step (init_of y)) ∙ f)))

  init-run : (i : Init) → P-init i
  init-run = ind-Init P-init init-step

  -- ---- in brackets

  each-run : (at : ℕ) (xs : List Expr) → built.first_of (map built.expression xs) ≡ None → all_of (map constants_fit xs) ≡ true → IsRun s Fits_trees (each (expression_tree at) (map elaborated xs))
  each-run at [] b f = record { fine = λ e c h. made-fine s Fits_trees e [] c h (λ w. tt); leaves = λ e c. leaves-none e c }
  each-run at (x ∷ xs) b f =
      let split = first-none (built.expression x) (built.first_of (map built.expression xs)) b in
      let one = expression-run at x split.0 (and-left (constants_fit x) (all_of (map constants_fit xs)) f) in
      let rest = each-run at xs split.1 (and-right (constants_fit x) (all_of (map constants_fit xs)) f) in record {
        fine = λ e c h. onward-fine s Fits_tree Fits_trees e (expression_tree at (elaborated x) e) _ (one.fine e c h)
            (λ y e1 g c1 h1 p. onward-fine s Fits_trees Fits_trees e1 (each (expression_tree at) (map elaborated xs) e1) (λ ys. gives (y ∷ ys)) (rest.fine e1 c1 h1)
            (λ ys e2 g2 c2 h2 q. made-fine s Fits_trees e2 (y ∷ ys) c2 h2 (λ w. (tree-later s y e1 e2 g2 (p (within-before e1 e2 s g2 w)), q w))));
        leaves = λ e c. leaves-onward e (expression_tree at (elaborated x) e) _ c (one.leaves e c)
            (λ y f cf. leaves-onward f (each (expression_tree at) (map elaborated xs) f) (λ ys. gives (y ∷ ys)) cf (rest.leaves f cf) (λ ys g cg. leaves-none g cg));
      }

  -- ---- an initialiser, or none

  abbrev Fits_maybe : Option Written → Env → Type 0
  Fits_maybe w e = MaybeFits s e w

  abbrev Fits_written : Written → Env → Type 0
  Fits_written w e = WrittenFits s e w

  some-run : (run : Elab Written) → IsRun s Fits_written run → IsRun s Fits_maybe (λ e. onward (run e) (λ w. gives (Some w)))
  some-run run k = record {
    fine = λ e c h. onward-fine s Fits_written Fits_maybe e (run e) (λ w. gives (Some w)) (k.fine e c h) (λ w e1 g c1 h1 p. made-fine s Fits_maybe e1 (Some w) c1 h1 p);
    leaves = λ e c. leaves-onward e (run e) (λ w. gives (Some w)) c (k.leaves e c) (λ w f cf. leaves-none f cf);
  }

  parts-run : (w : Option Initialiser) → built.of_initialiser w ≡ None → initialiser_fits w ≡ true → IsRun s Fits_maybe (parts_of (option_map initial_of w))
  parts-run None b f = record { fine = λ e c h. made-fine s Fits_maybe e None c h (λ w. tt); leaves = λ e c. leaves-none e c }
  parts-run (Some (initialiser.Equals at i)) b f =
      let k = init-run i b f in some-run (λ e. onward (tree_of i e) (λ x. gives (equals at x))) (record {
        fine = λ e c h. onward-fine s Fits_tree Fits_written e (tree_of i e) (λ x. gives (equals at x)) (k.fine e c h) (λ x e1 g c1 h1 p. made-fine s Fits_written e1 (equals at x) c1 h1 p);
        leaves = λ e c. leaves-onward e (tree_of i e) (λ x. gives (equals at x)) c (k.leaves e c) (λ x f cf. leaves-none f cf);
      })
  parts-run (Some (initialiser.Arguments at xs)) b f =
      let k = each-run at xs b f in some-run (λ e. onward (each (expression_tree at) (map elaborated xs) e) (λ ts. gives (bracketed at ts))) (record {
        fine = λ e c h. onward-fine s Fits_trees Fits_written e (each (expression_tree at) (map elaborated xs) e) (λ ts. gives (bracketed at ts)) (k.fine e c h) (λ ts e1 g c1 h1 p. made-fine s Fits_written e1 (bracketed at ts) c1 h1 p);
        leaves = λ e c. leaves-onward e (each (expression_tree at) (map elaborated xs) e) (λ ts. gives (bracketed at ts)) c (k.leaves e c) (λ ts f cf. leaves-none f cf);
      })

  pub parts-fit : ConstantsAreApart → NoVoidElements s.tables → (w : Option Initialiser) → built.of_initialiser w ≡ None → initialiser_fits w ≡ true → (b : Env) → AreParts s b (parts_of (option_map initial_of w))
  parts-fit apart arrays w built_so fits b =
      let k = parts-run w built_so fits in record {
        initial = record { fine = λ e g c h. k.fine e c h; leaves = λ e g c. k.leaves e c };
        fixed = λ e g c h. apart s scene arrays w built_so fits e c h;
      }
