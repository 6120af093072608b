-- The parts of an initialiser are apart, and so is what they start (8.4).
use Rattle.std.proofs.Common.{◌≡◌, ℕ, Bool, true, ◌&&◌, List, [], ◌∷◌, map, Option, Some, None, sym, ap, subst, ◌∙◌}
use Rattle.std.specs.Option.{option_map}
use Rattle.cf_syntax.specs.declared.expression.Expr.{Expr}
use Rattle.cf_unit.specs.declared.initialiser.Init.{Init, roll-Init, ind-Init, fold-roll-Init, map-Init}
use Rattle.cf_unit.specs.declared.initialiser.Init.TheOpen.{Init-F}
use Rattle.cf_unit.specs.declared.initialiser.Initialiser.{Initialiser}
use Rattle.cf_unit.specs.declared.initialiser.Initialiser.TheVariants as initialiser
use Rattle.cf_core.specs.Typing.{Typing}
use Rattle.cf_core_typed.proofs.Same.{and-left, and-right}
use Rattle.cf_elab.specs.Answer.{Answer, Made, Refused, Passed, Elab, onward, gives, all, each}
use Rattle.cf_elab.specs.Built as built
use Rattle.cf_elab.specs.Built.{Place}
use Rattle.cf_elab.specs.Declaration.{initial_of, parts_of}
use Rattle.cf_elab.specs.Env.{Env}
use Rattle.cf_elab.specs.Expression.{elaborated}
use Rattle.cf_elab.specs.Initial.{Start}
use Rattle.cf_elab.specs.Lists.{Tree, leaf, text, branch, listed, expression_tree, leaf_or_text, tree_of, tree_step}
use Rattle.cf_elab.specs.Objects.{Written, equals, bracketed, static_keeper, start_or_none}
use Rattle.cf_elab.specs.Operand.{evaluated}
use Rattle.cf_elab_valid.specs.Answers.{Fine}
use Rattle.cf_elab_valid.specs.Constants.{all_of, constants_fit}
use Rattle.cf_elab_valid.specs.Scene.{Scene, IsScene, Classless, Holds}
use Rattle.cf_elab_valid.proofs.Named.{first-none}
use Rattle.cf_elab_valid.proofs.Ways.{made-fine, onward-fine, within-before, When}
use Rattle.cf_elab_valid_objects.specs.Starts.{NoVoidElements}
use Rattle.cf_elab_valid_files.specs.Statics.Fixed.{ApartIn, FixedIn}
use Rattle.cf_elab_valid_files.specs.Bodies.Laws.{ConstantsAreApart}
use Rattle.cf_elab_valid_files.specs.Bodies.Trees as well
use Rattle.cf_elab_valid_files.specs.Bodies.Trees.{init_fits, initialiser_fits}
use Rattle.cf_elab_apart.specs.Apart.{TreeApart, TreesApart, ListApart, WrittenApart, MaybeApart, StartApart}
use Rattle.cf_elab_apart.proofs.Expressions.{expression-apart}
use Rattle.cf_elab_apart.proofs.Fit.{Both}
use Rattle.cf_elab_apart.proofs.Parts.{evaluated-both}
use Rattle.cf_elab_apart.proofs.Starts.{static-starts}

-- a run that is fine wherever it is elaborated, and of which this is told
pub record Runs {A : Type 0} (s : Scene) (K : A → Type 0) (run : Elab A) : Type 0 where
  pub fine : (e : Env) → Classless e → When s e (Holds s e) → Fine s (λ x f. K x) e (run e)

module _ (s : Scene) (scene : IsScene s) where
  abbrev Apart_tree : Tree → Type 0
  Apart_tree x = TreeApart s x

  abbrev Apart_trees : List Tree → Type 0
  Apart_trees xs = ListApart s xs

  -- ---- an expression, or a string literal that waits

  expression-run : (at : ℕ) (x : Expr) → built.expression x ≡ None → constants_fit x ≡ true → Runs s Apart_tree (expression_tree at (elaborated x))
  expression-run at x b f = by (elaborated x).text
    where
      by : (o : Option (ℕ × List ℕ)) → Runs s Apart_tree (leaf_or_text at (elaborated x) o)
      by (Some t) = record { fine = λ e c h. made-fine s (λ x f. TreeApart s x) e (text at t.0 t.1) c h (λ w. tt) }
      by None = record {
        fine = λ e c h. onward-fine s (Both s) (λ x f. TreeApart s x) e (evaluated (elaborated x) e) (λ v. gives (leaf at v)) (evaluated-both s scene (elaborated x) e (expression-apart s scene x b f) c h)
            (λ v e1 g c1 h1 p. made-fine s (λ x f. TreeApart s x) e1 (leaf at v) c1 h1 (λ w. (p w).1));
      }

  -- ---- several

  abbrev AllRun : List (Elab Tree) → Type 0
  AllRun [] = Unit {0}
  AllRun (x ∷ xs) = Runs s Apart_tree x × AllRun xs

  all-run : (xs : List (Elab Tree)) → AllRun xs → Runs s Apart_trees (all xs)
  all-run [] k = record { fine = λ e c h. made-fine s (λ x f. ListApart s x) e [] c h (λ w. tt) }
  all-run (x ∷ xs) k = record {
    fine = λ e c h. onward-fine s (λ x f. TreeApart s x) (λ x f. ListApart s x) e (x e) _ (k.0.fine e c h)
        (λ y e1 g c1 h1 p. onward-fine s (λ x f. ListApart s x) (λ x f. ListApart s x) e1 (all xs e1) (λ ys. gives (y ∷ ys)) ((all-run xs k.1).fine e1 c1 h1)
        (λ ys e2 g2 c2 h2 q. made-fine s (λ x f. ListApart s x) e2 (y ∷ ys) c2 h2 (λ w. (p (within-before e1 e2 s g2 w), q w))));
  }

  listed-apart : (xs : List Tree) → ListApart s xs → TreesApart s (listed xs)
  listed-apart [] f = tt
  listed-apart (x ∷ xs) f = (f.0, listed-apart xs f.1)

  -- ---- behind `=`

  abbrev P-init : Init → Type 0
  P-init i = built.init i ≡ None → init_fits i ≡ true → Runs s Apart_tree (tree_of i)

  abbrev Inits : Type 0
  Inits = (i : Init) × P-init i

  abbrev init_of : Init-F Inits → Init-F Init
  init_of y = map-Init Inits Init (λ (i : Inits). i.0) y

  runs-of : (xs : List Inits) → built.first_of (map built.init (map (λ (i : Inits). i.0) xs)) ≡ None → all_of (map init_fits (map (λ (i : Inits). i.0) xs)) ≡ true → AllRun (map tree_of (map (λ (i : Inits). i.0) xs))
  runs-of [] b f = tt
  runs-of (x ∷ xs) b f =
      let split = first-none (built.init x.0) (built.first_of (map built.init (map (λ (i : Inits). i.0) xs))) b in (
        x.1 split.0 (and-left (init_fits x.0) (all_of (map init_fits (map (λ (i : Inits). i.0) xs))) f),
        runs-of xs split.1 (and-right (init_fits x.0) (all_of (map init_fits (map (λ (i : Inits). i.0) xs))) f),
      )

  init-layer : (y : Init-F Inits) → built.init_step (map-Init Init Place built.init (init_of y)) ≡ None → well.init_step (map-Init Init Bool init_fits (init_of y)) ≡ true
      → Runs s Apart_tree (tree_step (map-Init Init (Elab Tree) tree_of (init_of y)))
  init-layer (Init-F.Value at x) b f = expression-run at x b f
  init-layer (Init-F.List at xs) b f = record {
    fine = λ e c h. onward-fine s (λ x f. ListApart s x) (λ x f. TreeApart s x) e (all (map tree_of (map (λ (i : Inits). i.0) xs)) e) (λ us. gives (branch at (listed us)))
        ((all-run (map tree_of (map (λ (i : Inits). i.0) xs)) (runs-of xs b f)).fine e c h) (λ us e1 g c1 h1 p. made-fine s (λ x f. TreeApart s x) e1 (branch at (listed us)) c1 h1 (λ w. listed-apart us (p w)));
  }

  init-step : (x : Init-F Init) (y : Init-F Inits) → init_of y ≡ x → P-init (roll-Init x)
  init-step x y is = subst (λ z. P-init (roll-Init z)) is (λ b f.
      subst (Runs s Apart_tree) (sym (fold-roll-Init (Elab Tree) tree_step (init_of y)))
      (init-layer y (sym (fold-roll-Init Place built.init_step (init_of y)) ∙ b) (sym (fold-roll-Init Bool well.init_step (init_of y)) ∙ f)))

  init-run : (i : Init) → P-init i
  init-run = ind-Init P-init init-step

  -- ---- in brackets

  each-run : (at : ℕ) (xs : List Expr) → built.first_of (map built.expression xs) ≡ None → all_of (map constants_fit xs) ≡ true → Runs s Apart_trees (each (expression_tree at) (map elaborated xs))
  each-run at [] b f = record { fine = λ e c h. made-fine s (λ x f. ListApart s x) e [] c h (λ w. tt) }
  each-run at (x ∷ xs) b f =
      let split = first-none (built.expression x) (built.first_of (map built.expression xs)) b in
      let one = expression-run at x split.0 (and-left (constants_fit x) (all_of (map constants_fit xs)) f) in
      let rest = each-run at xs split.1 (and-right (constants_fit x) (all_of (map constants_fit xs)) f) in record {
        fine = λ e c h. onward-fine s (λ x f. TreeApart s x) (λ x f. ListApart s x) e (expression_tree at (elaborated x) e) _ (one.fine e c h)
            (λ y e1 g c1 h1 p. onward-fine s (λ x f. ListApart s x) (λ x f. ListApart s x) e1 (each (expression_tree at) (map elaborated xs) e1) (λ ys. gives (y ∷ ys)) (rest.fine e1 c1 h1)
            (λ ys e2 g2 c2 h2 q. made-fine s (λ x f. ListApart s x) e2 (y ∷ ys) c2 h2 (λ w. (p (within-before e1 e2 s g2 w), q w))));
      }

  -- ---- an initialiser, or none

  abbrev Apart_maybe : Option Written → Env → Type 0
  Apart_maybe w f = MaybeApart s w

  parts-apart : (w : Option Initialiser) → built.of_initialiser w ≡ None → initialiser_fits w ≡ true → (e : Env) → Classless e → When s e (Holds s e) → Fine s Apart_maybe e (parts_of (option_map initial_of w) e)
  parts-apart None b f e c h = made-fine s Apart_maybe e None c h (λ w. tt)
  parts-apart (Some (initialiser.Equals at i)) b f e c h =
      onward-fine s (λ w f. WrittenApart s w) Apart_maybe e (onward (tree_of i e) (λ x. gives (equals at x))) (λ w. gives (Some w))
      (onward-fine s (λ x f. TreeApart s x) (λ w f. WrittenApart s w) e (tree_of i e) (λ x. gives (equals at x)) ((init-run i b f).fine e c h) (λ x e1 g c1 h1 p. made-fine s (λ w f. WrittenApart s w) e1 (equals at x) c1 h1 p))
      (λ w e1 g c1 h1 p. made-fine s Apart_maybe e1 (Some w) c1 h1 p)
  parts-apart (Some (initialiser.Arguments at xs)) b f e c h =
      onward-fine s (λ w f. WrittenApart s w) Apart_maybe e (onward (each (expression_tree at) (map elaborated xs) e) (λ ts. gives (bracketed at ts))) (λ w. gives (Some w))
      (onward-fine s (λ x f. ListApart s x) (λ w f. WrittenApart s w) e (each (expression_tree at) (map elaborated xs) e) (λ ts. gives (bracketed at ts)) ((each-run at xs b f).fine e c h)
      (λ x e1 g c1 h1 p. made-fine s (λ w f. WrittenApart s w) e1 (bracketed at x) c1 h1 p))
      (λ w e1 g c1 h1 p. made-fine s Apart_maybe e1 (Some w) c1 h1 p)

  -- ---- what they start

  started-apart : (r : Answer Start) (e : Env) → Fine s (λ x f. StartApart s x) e r → ApartIn s r
  started-apart (Made x f) e k = λ w. record { apart = λ is t starts. ap (λ (y : Typing). y.start t) ((k.made w).alike is) ∙ starts }
  started-apart (Refused rule at) e k = tt
  started-apart (Passed bound most) e k = tt

  parts-fixed : NoVoidElements s.tables → (e : Env) (r : Answer (Option Written)) → Fine s Apart_maybe e r → FixedIn s r
  parts-fixed arrays e (Made w f) k = λ v. record {
    starts = λ e1 c h fits reference owner own place at t i n.
        started-apart (start_or_none (static_keeper reference (Some owner) place) at t w e1) e1 (static-starts s scene arrays reference owner own place at t w e1 c h fits (λ _. k.made v) i n);
  }
  parts-fixed arrays e (Refused rule at) k = tt
  parts-fixed arrays e (Passed bound most) k = tt

pub constants-apart : ConstantsAreApart
constants-apart s scene arrays w built_so fits e c h = parts-fixed s scene arrays e (parts_of (option_map initial_of w) e) (parts-apart s scene w built_so fits e c h)
