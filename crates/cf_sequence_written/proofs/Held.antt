-- The temporaries that local references bind: what is written for one, the local that it is, and its type.
use Rattle.std.proofs.Common.{◌≡◌, ℕ, suc, Bool, true, false, not, ◌&&◌, nat_lt, List, [], ◌∷◌, ◌++◌, map, Option, Some, None, if◌then◌else◌, refl, sym, ap, subst, ◌∙◌, append-nil}
use Rattle.cf_base.proofs.Tests.{both}
use Rattle.cf_classes.specs.declared.class.MemberRef.{MemberRef}
use Rattle.cf_core.specs.declared.node.Core.{Core as Node, roll-Core, ind-Core}
use Rattle.cf_core.specs.declared.node.Core.TheOpen.{Core-F}
use Rattle.cf_core.specs.declared.node.Core.TheFolds.{fold-roll-Core, map-Core}
use Rattle.cf_core.specs.declared.node.PartStart.{PartStart, fold-PartStart}
use Rattle.cf_core.specs.declared.node.Holder.TheVariants as holder
use Rattle.cf_core.specs.Types.{Name, parameters}
use Rattle.cf_core.specs.Classes.{Class}
use Rattle.cf_core.specs.Core.{Core}
use Rattle.cf_core.specs.Places.{is_reference}
use Rattle.cf_core.specs.FromTypes.{Tables, type_of}
use Rattle.cf_core.specs.Numbers.{has_type, known_step, known_part, are_known}
use Rattle.cf_core.specs.View.{Started, core_step, started_step, core_of}
use Rattle.cf_plain.specs.declared.action.Action.TheVariants as action
use Rattle.cf_plain.specs.Plain.{more, set as sets, act as acts}
use Rattle.cf_plain.specs.Plain as plain
use Rattle.cf_sequence.specs.Built.{is_value, is_held}
use Rattle.cf_sequence.specs.Made.{width, held_by}
use Rattle.cf_sequence.specs.Expressions.{Full, destination, value, settled, builds}
use Rattle.cf_sequence.proofs.Calling.{never}
use Rattle.cf_sequence_expr.specs.Parameters.{parameters_at}
use Rattle.cf_sequence_expr.specs.Pieces as pieces
use Rattle.cf_sequence_expr.specs.Pieces.{Piece, piece, part_piece, piece_step, held}
use Rattle.cf_sequence_stmt.specs.declared.body.Open.{Open}
use Rattle.cf_sequence_stmt.specs.Bodies.{with_held}
use Rattle.cf_sequence_stmt.specs.Steps.{Step, step, step_step, held_step}
use Rattle.cf_sequence_stmt.specs.Steps as steps
use Rattle.cf_sequence_written.proofs.Opens.{ends}
use Rattle.cf_sequence_written.proofs.Puts.{Puts, still-set, still-act, puts-as, puts-still, still-puts}
use Rattle.cf_sequence_written.proofs.Values.{Writes, full_of}
use Rattle.cf_sequence_written.proofs.Evaluated.{written-start, value-start, gives-value}

abbrev pub held_list : Option Open → List Open
held_list None = []
held_list (Some x) = x ∷ []

pub held-behind : (o : Option Open) (xs : List Open) → with_held o xs ≡ xs ++ held_list o
held-behind None xs = sym (append-nil xs)
held-behind (Some x) xs = refl

module _ (tables : Tables) (signature : MemberRef → Name) where
  abbrev of_node : Node → Core
  of_node = core_of tables signature

  abbrev started_of : PartStart → Started
  started_of = fold-PartStart Core Started (core_step tables signature) (started_step tables signature)

  abbrev step_part : PartStart → Step
  step_part = fold-PartStart Step Step (step_step tables.types) (steps.part_step tables.types)

  -- ---- the local

  abbrev IsSame : Step → Core → Type 0
  IsSame s c = ends tables (held_list s.held) ≡ held_by c

  abbrev IsLayer : Core-F Node PartStart → Type 0
  IsLayer x = IsSame (step_step tables.types (map-Core _ _ _ _ (step tables.types) step_part x)) (core_step tables signature (map-Core _ _ _ _ of_node started_of x))

  layer : (x : Core-F Node PartStart) → IsLayer x
  layer (Core-F.Bind at holder.NoTemporary e) = refl
  layer (Core-F.Bind at (holder.LocalTemporary i t) e) = refl
  layer (Core-F.Bind at (holder.StaticTemporary name) e) = refl
  layer x = refl

  rolled : (x : Core-F Node PartStart) → IsLayer x → IsSame (step tables.types (roll-Core x)) (of_node (roll-Core x))
  rolled x p =
      subst (λ s. IsSame s (of_node (roll-Core x))) (sym (fold-roll-Core Step Step (step_step tables.types) (steps.part_step tables.types) x))
      (subst (λ c. IsSame (step_step tables.types (map-Core _ _ _ _ (step tables.types) step_part x)) c)
      (sym (fold-roll-Core Core Started (core_step tables signature) (started_step tables signature) x)) p)

  abbrev Child : Type 0
  Child = (n : Node) × IsSame (step tables.types n) (of_node n)

  abbrev PartChild : Type 0
  PartChild = (p : PartStart) × Unit {0}

  abbrev shape : Core-F Child PartChild → Core-F Node PartStart
  shape y = map-Core _ _ _ _ (λ (c : Child). c.0) (λ (c : PartChild). c.0) y

  pub held-is : (n : Node) → IsSame (step tables.types n) (of_node n)
  held-is =
      ind-Core (λ n. IsSame (step tables.types n) (of_node n)) (λ p. Unit {0})
      (λ x y is. subst (λ z. IsSame (step tables.types (roll-Core z)) (of_node (roll-Core z))) is (rolled (shape y) (layer (shape y)))) (λ x y is. tt)

-- ---- its type is known

module _ (tables : Tables) where
  abbrev pub KnownHeld : Option Open → Type 0
  KnownHeld None = Unit {0}
  KnownHeld (Some x) = has_type tables x.ty ≡ true

  abbrev step_in : PartStart → Step
  step_in = fold-PartStart Step Step (step_step tables.types) (steps.part_step tables.types)

  abbrev known_in : PartStart → Bool
  known_in = fold-PartStart Bool Bool (known_step tables) (known_part tables)

  abbrev IsKnown : Node → Type 0
  IsKnown n = are_known tables n ≡ true → KnownHeld (Step.held (step tables.types n))

  abbrev IsKnownLayer : Core-F Node PartStart → Type 0
  IsKnownLayer x = known_step tables (map-Core _ _ _ _ (are_known tables) known_in x) ≡ true → KnownHeld (held_step (map-Core _ _ _ _ (step tables.types) step_in x))

  known-layer : (x : Core-F Node PartStart) → IsKnownLayer x
  known-layer (Core-F.Bind at holder.NoTemporary e) ok = tt
  known-layer (Core-F.Bind at (holder.LocalTemporary i t) e) ok = (both (has_type tables t) (are_known tables e) ok).0
  known-layer (Core-F.Bind at (holder.StaticTemporary name) e) ok = tt
  known-layer x ok = tt

  known-rolled : (x : Core-F Node PartStart) → IsKnownLayer x → IsKnown (roll-Core x)
  known-rolled x p ok =
      subst (λ (s : Step). KnownHeld s.held) (sym (fold-roll-Core Step Step (step_step tables.types) (steps.part_step tables.types) x))
      (p (sym (fold-roll-Core Bool Bool (known_step tables) (known_part tables) x) ∙ ok))

  abbrev KnownChild : Type 0
  KnownChild = (n : Node) × IsKnown n

  abbrev KnownPart : Type 0
  KnownPart = (p : PartStart) × Unit {0}

  abbrev known_shape : Core-F KnownChild KnownPart → Core-F Node PartStart
  known_shape y = map-Core _ _ _ _ (λ (c : KnownChild). c.0) (λ (c : KnownPart). c.0) y

  pub held-known : (n : Node) → are_known tables n ≡ true → KnownHeld (Step.held (step tables.types n))
  held-known = ind-Core IsKnown (λ p. Unit {0}) (λ x y is. subst (λ z. IsKnown (roll-Core z)) is (known-rolled (known_shape y) (known-layer (known_shape y)))) (λ x y is. tt)

-- ---- what is written for it

module _ (tables : Tables) (signature : MemberRef → Name) (classes : List Class)
    (params : (t : ℕ) → map (type_of tables) (parameters_at tables.types t) ≡ parameters (type_of tables t)) where
  puts-held : {p : Piece} {e : Core} (x : Full) (i t n : ℕ) → Writes tables signature classes p e → builds e ≡ false
      → Puts tables signature (held i t p (full_of x) n)
      (λ k rest. more (sets (suc n) (plain.declare i (type_of tables t))) (more (sets n (plain.local i))
      (value classes x e (destination (suc n) (type_of tables t)) (suc (suc n)) k (settled e (suc n) (suc (suc n)) rest)))) (width e)
  unfolding held
  puts-held {p} {e} x i t n w gives =
      let T = type_of tables t in
      puts-as tables signature
      (still-puts tables signature (still-set tables signature (suc n) (action.Declare i t))
      (still-puts tables signature (still-set tables signature n (action.Local i))
      (puts-still tables signature (w.puts x (destination (suc n) T) (suc (suc n))) (still-act tables signature (action.First (suc n) (suc (suc n)))))))
      (λ k rest. ap (λ b. more (sets (suc n) (plain.declare i T)) (more (sets n (plain.local i))
      (value classes x e (destination (suc n) T) (suc (suc n)) k (if b then rest else more (acts (plain.first (suc n) (suc (suc n)))) rest)))) (sym gives)) refl

  abbrev IsWritten : Node → Type 0
  IsWritten n = (i : ℕ) → is_held i (core_of tables signature n) ≡ true → Writes tables signature classes (piece tables.types n) (core_of tables signature n)

  abbrev start_in : PartStart → Started
  start_in = fold-PartStart Core Started (core_step tables signature) (started_step tables signature)

  abbrev IsWrittenLayer : Core-F Node PartStart → Type 0
  IsWrittenLayer x =
      (i : ℕ) → is_held i (core_step tables signature (map-Core _ _ _ _ (core_of tables signature) start_in x)) ≡ true
      → Writes tables signature classes (piece_step tables.types (map-Core _ _ _ _ (piece tables.types) (part_piece tables.types) x)) (core_step tables signature (map-Core _ _ _ _ (core_of tables signature) start_in x))

  written-layer : (x : Core-F Node PartStart) → IsWrittenLayer x
  written-layer (Core-F.Bind at (holder.LocalTemporary j t) e) i ok =
      let c = core_of tables signature e in
      let is = (both (not (is_reference (type_of tables t))) (is_value c) (both (nat_lt i j) (not (is_reference (type_of tables t)) && is_value c) ok).1).1 in
      let w = written-start tables signature classes params e (value-start c is) in
      record { puts = λ x into n. puts-held x j t n w (gives-value c is); finds = λ b. Writes.finds w b }
  written-layer (Core-F.Bind at holder.NoTemporary e) i ok = never ok
  written-layer (Core-F.Bind at (holder.StaticTemporary name) e) i ok = never ok
  written-layer x i ok = never ok

  written-rolled : (x : Core-F Node PartStart) → IsWrittenLayer x → IsWritten (roll-Core x)
  written-rolled x p =
      subst (λ q. (i : ℕ) → is_held i (core_of tables signature (roll-Core x)) ≡ true → Writes tables signature classes q (core_of tables signature (roll-Core x)))
      (sym (fold-roll-Core Piece Piece (piece_step tables.types) (pieces.part_step tables.types) x))
      (subst (λ e. (i : ℕ) → is_held i e ≡ true → Writes tables signature classes (piece_step tables.types (map-Core _ _ _ _ (piece tables.types) (part_piece tables.types) x)) e)
      (sym (fold-roll-Core Core Started (core_step tables signature) (started_step tables signature) x)) p)

  abbrev WrittenChild : Type 0
  WrittenChild = (n : Node) × IsWritten n

  abbrev WrittenPart : Type 0
  WrittenPart = (p : PartStart) × Unit {0}

  abbrev written_shape : Core-F WrittenChild WrittenPart → Core-F Node PartStart
  written_shape y = map-Core _ _ _ _ (λ (c : WrittenChild). c.0) (λ (c : WrittenPart). c.0) y

  pub written-held : (n : Node) (i : ℕ) → is_held i (core_of tables signature n) ≡ true → Writes tables signature classes (piece tables.types n) (core_of tables signature n)
  written-held =
      ind-Core IsWritten (λ p. Unit {0}) (λ x y is. subst (λ z. IsWritten (roll-Core z)) is (written-rolled (written_shape y) (written-layer (written_shape y)))) (λ x y is. tt)
