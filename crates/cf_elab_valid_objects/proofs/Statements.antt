-- The statement that a declaration is (6.7).
use Rattle.std.proofs.Common.{◌≡◌, ℕ, Bool, true, false, ◌&&◌, ◌||◌, List, [], ◌∷◌, map, refl, sym, ap, ◌∙◌, true≢false}
use Rattle.std.specs.List.{list_any}
use Rattle.cf_core.specs.declared.node.Core.{Core as Node}
use Rattle.cf_core.specs.declared.node.Core.TheVariants as node
use Rattle.cf_core.specs.FromClasses.{signature_of}
use Rattle.cf_core.specs.Numbers.{are_known, all_of}
use Rattle.cf_core.specs.Valid.{fits, all_fit, initialises_local, any_initialises}
use Rattle.cf_core.specs.View.{listed}
use Rattle.cf_core_typed.proofs.Same.{and-both}
use Rattle.cf_elab.specs.Env.{Env}
use Rattle.cf_elab.specs.Objects.{Reached}
use Rattle.cf_elab.specs.Statement.{declaration_made, no_label}
use Rattle.cf_elab_valid.specs.Scene.{Scene, core}
use Rattle.cf_elab_valid.specs.Statements.{body_of, StatementFits}
use Rattle.cf_elab_valid.proofs.Nodes.{core-Sequence, known-Sequence}
use Rattle.cf_elab_valid_objects.specs.Declared.{AllReached}

or_true : (a : Bool) → (a || true) ≡ true
or_true true = refl
or_true false = refl

module _ (s : Scene) (n : ℕ) (m : Bool) where
  abbrev nodes : List Reached → List Node
  nodes rs = map (λ (r : Reached). r.node) rs

  all-known : (rs : List Reached) → AllReached s n m rs → all_of s.tables (map (are_known s.tables) (nodes rs)) ≡ true
  all-known [] f = refl
  all-known (r ∷ rs) f = and-both (are_known s.tables r.node) (all_of s.tables (map (are_known s.tables) (nodes rs))) f.0.numbers (all-known rs f.1)

  all-fine : (b k : Bool) (rs : List Reached) → AllReached s n m rs → all_fit (body_of s n m) b k (listed (map (core s) (nodes rs))) ≡ true
  all-fine b k [] f = refl
  all-fine b k (r ∷ rs) f = and-both (fits (body_of s n m) b k (core s r.node)) (all_fit (body_of s n m) b k (listed (map (core s) (nodes rs)))) (f.0.fine b k) (all-fine b k rs f.1)

  any-told : (rs : List Reached) → AllReached s n m rs → any_initialises (listed (map (core s) (nodes rs))) ≡ true → list_any (λ (r : Reached). r.initialises) rs ≡ true
  any-told [] f h = absurd (true≢false (sym h))
  any-told (r ∷ rs) f h = by (λ g. any-told rs f.1 g) (initialises_local (core s r.node)) refl h
    where
      by : (any_initialises (listed (map (core s) (nodes rs))) ≡ true → list_any (λ (r : Reached). r.initialises) rs ≡ true) → (a : Bool) → initialises_local (core s r.node) ≡ a → (a || any_initialises (listed (map (core s) (nodes rs)))) ≡ true → (r.initialises || list_any (λ (r : Reached). r.initialises) rs) ≡ true
      by rest true is h = ap (λ b. b || list_any (λ (r : Reached). r.initialises) rs) (f.0.reached is)
      by rest false is h = ap (λ b. r.initialises || b) (rest h) ∙ or_true r.initialises

  several : (at : ℕ) (rs : List Reached) (i : Bool) (b k : Bool) (e : Env) → AllReached s n m rs → (list_any (λ (r : Reached). r.initialises) rs ≡ true → i ≡ true)
      → StatementFits s n m b k (record { at = at; node = node.Sequence at (nodes rs); label = no_label; initialises = i }) e
  several at rs i b k e f told =
      let whole = core-Sequence s.tables (signature_of s.tables) at (nodes rs) in record {
        numbers = known-Sequence s.tables at (nodes rs) ∙ all-known rs f;
        unlabelled = refl;
        fine = ap (fits (body_of s n m) b k) whole ∙ all-fine b k rs f;
        reached = λ r. told (any-told rs f (sym (ap initialises_local whole) ∙ r));
      }

  pub declaration-statement : (at : ℕ) (rs : List Reached) (b k : Bool) (e : Env) → AllReached s n m rs → StatementFits s n m b k (declaration_made at rs) e
  declaration-statement at [] b k e f = several at [] false b k e f (λ h. h)
  declaration-statement at (r ∷ q ∷ rs) b k e f = several at (r ∷ q ∷ rs) (list_any (λ (x : Reached). x.initialises) (r ∷ q ∷ rs)) b k e f (λ h. h)
  declaration-statement at (r ∷ []) b k e f = record {
    numbers = f.0.numbers;
    unlabelled = refl;
    fine = f.0.fine b k;
    reached = λ h. ap (λ x. x || false) (f.0.reached h);
  }
