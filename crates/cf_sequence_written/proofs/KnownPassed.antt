-- The numbers of types in what labels of a switch pass are there in the tables.
use Rattle.std.proofs.Common.{◌≡◌, ℕ, Bool, true, ◌&&◌, List, [], ◌∷◌, ◌++◌, map, Option, Some, None, refl, ap, sym, subst, ◌∙◌}
use Rattle.std.proofs.lemmas.List.Folds.{list_all-append}
use Rattle.cf_base.proofs.Tests.{both}
use Rattle.cf_core.specs.declared.node.Core.{Core as Node, roll-Core, ind-Core}
use Rattle.cf_core.specs.declared.node.Core.TheOpen.{Core-F}
use Rattle.cf_core.specs.declared.node.Core.TheFolds.{fold-roll-Core, map-Core}
use Rattle.cf_core.specs.declared.node.PartStart.{PartStart, fold-PartStart}
use Rattle.cf_core.specs.FromTypes.{Tables}
use Rattle.cf_core.specs.Numbers.{has_type, all_of, known_step, known_part, are_known}
use Rattle.cf_plain.specs.declared.statement.Plain.{Plain}
use Rattle.cf_plain.specs.declared.statement.Plain.TheOpen.{Plain-F}
use Rattle.cf_plain.specs.declared.statement.Plain.TheFolds.{fold-roll-Plain}
use Rattle.cf_plain.specs.declared.statement.Plain.TheVariants as code
use Rattle.cf_plain.specs.declared.statement.Plain.TheVariants.{rolls-Case, rolls-Default}
use Rattle.cf_plain.specs.Numbers as plain
use Rattle.cf_sequence_stmt.specs.declared.body.Open.{Open}
use Rattle.cf_sequence_stmt.specs.Steps.{Step, step, step_step, all_open}
use Rattle.cf_sequence_stmt.specs.Steps as steps
use Rattle.cf_sequence_stmt.specs.Bodies.{with_held}
use Rattle.cf_sequence_written.proofs.Held.{KnownHeld, held-known}
use Rattle.cf_sequence_written.proofs.Known.{is_known, and-true}
use Rattle.cf_sequence_written.proofs.KnownSteps.{have_types, KnownPass, KnownPasses}

module _ (tables : Tables) where
  abbrev IsKnown : Node → Type 0
  IsKnown n = are_known tables n ≡ true → KnownPass tables (step tables.types n)

  abbrev Child : Type 0
  Child = (n : Node) × IsKnown n

  abbrev PartChild : Type 0
  PartChild = (p : PartStart) × Unit {0}

  abbrev node_of : Child → Node
  node_of c = c.0

  abbrev part_of : PartChild → PartStart
  part_of c = c.0

  abbrev shape : Core-F Child PartChild → Core-F Node PartStart
  shape y = map-Core _ _ _ _ node_of part_of y

  abbrev part_known : PartStart → Bool
  part_known = fold-PartStart Bool Bool (known_step tables) (known_part tables)

  abbrev part_step_of : PartStart → Step
  part_step_of = fold-PartStart Step Step (step_step tables.types) (steps.part_step tables.types)

  abbrev all_known : List Child → Bool
  all_known es = all_of tables (map (are_known tables) (map node_of es))

  abbrev steps_of : List Child → List Step
  steps_of es = map (step tables.types) (map node_of es)

  one-label : (m l : Plain) → Some m ≡ Some l → is_known tables m ≡ true → is_known tables l ≡ true
  one-label m l e known = let same : m ≡ l = cc in subst (λ s. is_known tables s ≡ true) same known

  no-label : (l : Plain) → None ≡ Some l → is_known tables l ≡ true
  no-label l e = absurd (cc)

  all-open : (es : List Child) → all_known es ≡ true → (xs : List Open) → have_types tables xs ≡ true → have_types tables (all_open (steps_of es) xs) ≡ true
  all-open [] ok xs types = types
  all-open (e ∷ es) ok xs types =
      let parts = both (are_known tables e.0) (all_known es) ok in all-open es parts.1 (Step.opens (step tables.types e.0) xs) (KnownPass.opens (e.1 parts.0) xs types)

  one-open : (i t : ℕ) → has_type tables t ≡ true → (xs : List Open) → have_types tables xs ≡ true → have_types tables (xs ++ record { number = i; ty = t } ∷ []) ≡ true
  one-open i t there xs types =
      list_all-append (λ (x : Open). has_type tables x.ty) xs (record { number = i; ty = t } ∷ [])
      ∙ and-true (have_types tables xs) _ types (and-true (has_type tables t) true there refl)

  with-open : (o : Option Open) → KnownHeld tables o → (xs : List Open) → have_types tables xs ≡ true → have_types tables (with_held o xs) ≡ true
  with-open None there xs types = types
  with-open (Some x) there xs types = one-open x.number x.ty there xs types

  abbrev IsLayer : Core-F Node PartStart → Type 0
  IsLayer x = known_step tables (map-Core _ _ _ _ (are_known tables) part_known x) ≡ true
      → KnownPass tables (step_step tables.types (map-Core _ _ _ _ (step tables.types) part_step_of x))

  layer : (y : Core-F Child PartChild) → IsLayer (shape y)
  layer (Core-F.Declare at i t e) ok =
      let parts = both (has_type tables t) (are_known tables e.0) ok in
      let held = Step.held (step tables.types e.0) in
      record { label = no-label; opens = λ xs types. one-open i t parts.0 (with_held held xs) (with-open held (held-known tables e.0 parts.1) xs types) }
  layer (Core-F.Sequence at es) ok = record { label = no-label; opens = all-open es ok }
  layer (Core-F.If at c a None) ok =
      let parts = both (are_known tables c.0 && are_known tables a.0) true ok in
      let two = both (are_known tables c.0) (are_known tables a.0) parts.0 in
      record { label = no-label; opens = KnownPass.opens (a.1 two.1) }
  layer (Core-F.If at c a (Some o)) ok =
      let parts = both (are_known tables c.0 && are_known tables a.0) (are_known tables o.0) ok in
      let two = both (are_known tables c.0) (are_known tables a.0) parts.0 in
      record {
        label = no-label;
        opens = λ xs types. KnownPass.opens (o.1 parts.1) (Step.opens (step tables.types a.0) xs) (KnownPass.opens (a.1 two.1) xs types);
      }
  layer (Core-F.Case at z) ok = record {
    label = λ l e.
        one-label (code.Case z) l e (ap (is_known tables) (sym (rolls-Case z)) ∙ fold-roll-Plain Bool Bool (plain.known_step tables) (plain.known_part tables) (Plain-F.Case z));
    opens = λ xs types. types;
  }
  layer (Core-F.Default at) ok = record {
    label = λ l e.
        one-label code.Default l e (ap (is_known tables) (sym rolls-Default) ∙ fold-roll-Plain Bool Bool (plain.known_step tables) (plain.known_part tables) Plain-F.Default);
    opens = λ xs types. types;
  }
  layer y ok = record { label = no-label; opens = λ xs types. types }

  rolled : (x : Core-F Node PartStart) → IsLayer x → IsKnown (roll-Core x)
  rolled x p ok =
      subst (KnownPass tables) (sym (fold-roll-Core Step Step (step_step tables.types) (steps.part_step tables.types) x))
      (p (sym (fold-roll-Core Bool Bool (known_step tables) (known_part tables) x) ∙ ok))

  known-pass : (n : Node) → are_known tables n ≡ true → KnownPass tables (step tables.types n)
  known-pass = ind-Core IsKnown (λ p. Unit {0}) (λ x y is. subst (λ z. IsKnown (roll-Core z)) is (rolled (shape y) (layer y))) (λ x y is. tt)

  pub known-passes : (ns : List Node) → all_of tables (map (are_known tables) ns) ≡ true → KnownPasses tables (map (step tables.types) ns)
  known-passes [] ok = tt
  known-passes (n ∷ ns) ok =
      let parts = both (are_known tables n) (all_of tables (map (are_known tables) ns)) ok in (known-pass n parts.0, known-passes ns parts.1)
