-- The numbers of types in what is written for initialisers are there in the tables, lists among them.
use Rattle.std.proofs.Common.{◌≡◌, ℕ, zero, suc, ◌-◌, ◌<◌, Bool, true, List, [], ◌∷◌, map, length, Option, Some, None, slice_get, refl, sym, subst, ◌∙◌, arith}
use Rattle.std.specs.Prelude.{pos}
use Rattle.std.proofs.lemmas.Bool.{ltb-true, lt-ltb}
use Rattle.cf_base.proofs.Tests.{both}
use Rattle.cf_types.specs.declared.ty.Ty.{Ty}
use Rattle.cf_types.specs.Table.{Names}
use Rattle.cf_core.specs.declared.node.Core.{Core as Node, roll-Core, ind-Core}
use Rattle.cf_core.specs.declared.node.Core.TheOpen.{Core-F}
use Rattle.cf_core.specs.declared.node.Core.TheFolds.{fold-roll-Core, map-Core}
use Rattle.cf_core.specs.declared.node.PartStart.{PartStart, fold-PartStart}
use Rattle.cf_core.specs.FromTypes.{Tables}
use Rattle.cf_core.specs.Numbers.{has_type, all_of, known_step, known_part, are_known}
use Rattle.cf_plain.specs.declared.action.Action.TheVariants as action
use Rattle.cf_sequence_stmt.specs.declared.rows.Row.{Row}
use Rattle.cf_sequence_stmt.specs.Rows.{row_at}
use Rattle.cf_sequence_stmt.specs.Bodies.{started, element_placed}
use Rattle.cf_sequence_stmt.specs.Steps.{Step, step, step_step, elements, left_out, elements_in, left_out_in, listed}
use Rattle.cf_sequence_stmt.specs.Steps as steps
use Rattle.cf_sequence_stmt.proofs.Pieces.{same_piece}
use Rattle.cf_sequence_written.proofs.Known.{KnownPiece, Keeps, keeps-none, keeps-then, keeps-set}
use Rattle.cf_sequence_written.proofs.KnownPieces.{known-piece}
use Rattle.cf_sequence_written.proofs.KnownSteps.{KnownInitial, keeps-started}
use Rattle.cf_sequence_written.proofs.Parameters.{element-below}

module _ (tables : Tables) where
  -- an initialiser whose numbers of types are there
  record KnownStart (s : Step) : Type 0 where
    initial : KnownInitial tables s.initial
    piece : KnownPiece tables s.piece

  abbrev KnownStarts : List Step → Type 0
  KnownStarts [] = Unit {0}
  KnownStarts (s ∷ ss) = KnownStart s × KnownStarts ss

  keeps-placed : (n m i : ℕ) → Keeps tables (element_placed n m i)
  unfolding element_placed
  keeps-placed n m i = record {
    keeps = Keeps.keeps (keeps-then tables (keeps-then tables (keeps-set tables m (action.Decay n) refl) (keeps-set tables (suc m) (action.Number (pos i)) refl))
        (keeps-set tables m (action.Index m (suc m)) refl));
  }

  keeps-element : (s : Step) → KnownStart s → (t n m i : ℕ) → has_type tables t ≡ true → Keeps tables (λ w. started s.initial s.piece t m (element_placed n m i w))
  keeps-element s known t n m i there = keeps-then tables (keeps-placed n m i) (keeps-started tables s.initial s.piece t m there known.initial known.piece)

  keeps-elements : (ss : List Step) → KnownStarts ss → (t n m i : ℕ) → has_type tables t ≡ true → Keeps tables (elements t n m i ss)
  keeps-elements [] known t n m i there = keeps-none tables
  keeps-elements (s ∷ ss) known t n m i there = keeps-then tables (keeps-element s known.0 t n m i there) (keeps-elements ss known.1 t n m (suc i) there)

  keeps-left : (count : ℕ) (s : Step) → KnownStart s → (t n m i : ℕ) → has_type tables t ≡ true → Keeps tables (left_out t n m i count s)
  keeps-left zero s known t n m i there = keeps-none tables
  keeps-left (suc count) s known t n m i there = keeps-then tables (keeps-element s known t n m i there) (keeps-left count s known t n m (suc i) there)

  keeps-listed : (o : Option Row) (ss : List Step) (s : Step) → KnownStarts ss → KnownStart s → (n m : ℕ) → ((r : Row) → o ≡ Some r → has_type tables r.element ≡ true)
      → Keeps tables (listed o ss s n m)
  unfolding listed elements_in left_out_in
  keeps-listed None ss s all one n m there = record { keeps = λ w ok. ok }
  keeps-listed (Some r) ss s all one n m there = record {
    keeps = Keeps.keeps (keeps-then tables (keeps-elements ss all r.element n m 0 (there r refl)) (keeps-left (r.bound - length ss) s one r.element n m (length ss) (there r refl)));
  }

module _ (tables : Tables) (names : (i : ℕ) (v : Ty) → slice_get tables.types.types i ≡ Some v → Names tables.types.funs i (length tables.types.funs) v) where
  element-there : (t : ℕ) → has_type tables t ≡ true → (r : Row) → row_at tables.types t ≡ Some r → has_type tables r.element ≡ true
  element-there t there r is =
      let less = element-below tables names t r is in
      let last : t < length tables.types.types = ltb-true t (length tables.types.types) there in
      lt-ltb r.element (length tables.types.types) (omega (arith, less, last))

  abbrev IsKnown : Node → Type 0
  IsKnown n = are_known tables n ≡ true → KnownInitial tables (step tables.types n).initial

  abbrev Child : Type 0
  Child = (n : Node) × IsKnown n

  abbrev PartChild : Type 0
  PartChild = (p : PartStart) × Unit {0}

  abbrev node_of : Child → Node
  node_of c = c.0

  abbrev part_of : PartChild → PartStart
  part_of c = c.0

  abbrev shape : Core-F Child PartChild → Core-F Node PartStart
  shape y = map-Core _ _ _ _ node_of part_of y

  abbrev part_known : PartStart → Bool
  part_known = fold-PartStart Bool Bool (known_step tables) (known_part tables)

  abbrev part_step_of : PartStart → Step
  part_step_of = fold-PartStart Step Step (step_step tables.types) (steps.part_step tables.types)

  start-of : (c : Child) → are_known tables c.0 ≡ true → KnownStart tables (step tables.types c.0)
  start-of c ok = record { initial = c.1 ok; piece = subst (KnownPiece tables) (sym (same_piece tables.types c.0)) (known-piece tables names c.0 ok) }

  starts-of : (es : List Child) → all_of tables (map (are_known tables) (map node_of es)) ≡ true → KnownStarts tables (map (step tables.types) (map node_of es))
  starts-of [] ok = tt
  starts-of (e ∷ es) ok =
      let parts = both (are_known tables e.0) (all_of tables (map (are_known tables) (map node_of es))) ok in (start-of e parts.0, starts-of es parts.1)

  abbrev IsLayer : Core-F Node PartStart → Type 0
  IsLayer x = known_step tables (map-Core _ _ _ _ (are_known tables) part_known x) ≡ true
      → KnownInitial tables (steps.initial_step tables.types (map-Core _ _ _ _ (step tables.types) part_step_of x))

  layer : (y : Core-F Child PartChild) → IsLayer (shape y)
  layer (Core-F.Zeros at) ok = λ n. refl
  layer (Core-F.Characters at bytes) ok = λ n. refl
  layer (Core-F.List at es last) ok =
      let parts = both (all_of tables (map (are_known tables) (map node_of es))) (are_known tables last.0) ok in
      λ t n m there. keeps-listed tables (row_at tables.types t) _ _ (starts-of es parts.0) (start-of last parts.1) n m (element-there t there)
  layer y ok = tt

  rolled : (x : Core-F Node PartStart) → IsLayer x → IsKnown (roll-Core x)
  rolled x p ok =
      subst (λ (s : Step). KnownInitial tables s.initial) (sym (fold-roll-Core Step Step (step_step tables.types) (steps.part_step tables.types) x))
      (p (sym (fold-roll-Core Bool Bool (known_step tables) (known_part tables) x) ∙ ok))

  pub initial-known : (n : Node) → are_known tables n ≡ true → KnownInitial tables (step tables.types n).initial
  initial-known = ind-Core IsKnown (λ p. Unit {0}) (λ x y is. subst (λ z. IsKnown (roll-Core z)) is (rolled (shape y) (layer y))) (λ x y is. tt)
