-- What binds a static reference: what is written for it, and whether it is one that does.
use Rattle.std.proofs.Common.{◌≡◌, ℕ, suc, Bool, true, false, List, map, if◌then◌else◌, refl, sym, ap, subst, ◌∙◌}
use Rattle.std.specs.Prelude.{None}
use Rattle.cf_classes.specs.declared.class.MemberRef.{MemberRef}
use Rattle.cf_core.specs.declared.node.Core.{Core as Node, roll-Core, ind-Core}
use Rattle.cf_core.specs.declared.node.Core.TheOpen.{Core-F}
use Rattle.cf_core.specs.declared.node.Core.TheFolds.{fold-roll-Core, map-Core}
use Rattle.cf_core.specs.declared.node.Holder.TheVariants as holder
use Rattle.cf_core.specs.declared.node.PartStart.{PartStart, fold-PartStart}
use Rattle.cf_core.specs.Types.{Name, parameters}
use Rattle.cf_core.specs.Classes.{Class}
use Rattle.cf_core.specs.Core.{Core}
use Rattle.cf_core.specs.FromTypes.{Tables, type_of}
use Rattle.cf_core.specs.View.{Started, core_step, started_step, core_of}
use Rattle.cf_plain.specs.declared.action.Action.TheVariants as action
use Rattle.cf_plain.specs.Plain.{more, set as sets, act as acts}
use Rattle.cf_plain.specs.Plain as plain
use Rattle.cf_sequence.specs.Built.{is_bound}
use Rattle.cf_sequence.specs.Made.{width}
use Rattle.cf_sequence.specs.Expressions.{Full, value, settled, builds}
use Rattle.cf_sequence.specs.Statements as definition
use Rattle.cf_sequence.proofs.Calling.{never}
use Rattle.cf_sequence.proofs.Constants.{constant-value}
use Rattle.cf_sequence_expr.specs.Parameters.{parameters_at}
use Rattle.cf_sequence_expr.specs.Pieces as pieces
use Rattle.cf_sequence_expr.specs.Pieces.{Piece, piece, part_piece, piece_step, static_held}
use Rattle.cf_sequence_stmt.specs.Steps.{binds_step, binds_part, binds}
use Rattle.cf_sequence_written.proofs.Puts.{Puts, still-set, still-act, still-then, puts-as, puts-still}
use Rattle.cf_sequence_written.proofs.Values.{Writes, full_of}
use Rattle.cf_sequence_written.proofs.Evaluated.{written-start, value-start, gives-value}

module _ (tables : Tables) (signature : MemberRef → Name) where
  abbrev start_in : PartStart → Started
  start_in = fold-PartStart Core Started (core_step tables signature) (started_step tables signature)

  -- ---- whether an initialiser is a reference's

  abbrev IsSame : Node → Type 0
  IsSame n = binds n ≡ definition.binds (core_of tables signature n)

  abbrev parts_bind : PartStart → Bool
  parts_bind = fold-PartStart Bool Bool binds_step binds_part

  abbrev IsSameLayer : Core-F Node PartStart → Type 0
  IsSameLayer x = binds_step (map-Core _ _ _ _ binds parts_bind x) ≡ definition.binds (core_step tables signature (map-Core _ _ _ _ (core_of tables signature) start_in x))

  same-layer : (x : Core-F Node PartStart) → IsSameLayer x
  same-layer (Core-F.Loop at f c e s) = refl
  same-layer x = refl

  same-rolled : (x : Core-F Node PartStart) → IsSame (roll-Core x)
  same-rolled x =
      fold-roll-Core Bool Bool binds_step binds_part x ∙ same-layer x ∙ ap definition.binds (sym (fold-roll-Core Core Started (core_step tables signature) (started_step tables signature) x))

  abbrev SameChild : Type 0
  SameChild = (n : Node) × IsSame n

  abbrev SamePart : Type 0
  SamePart = (p : PartStart) × Unit {0}

  abbrev same_shape : Core-F SameChild SamePart → Core-F Node PartStart
  same_shape y = map-Core _ _ _ _ (λ (c : SameChild). c.0) (λ (c : SamePart). c.0) y

  pub binds-is : (n : Node) → binds n ≡ definition.binds (core_of tables signature n)
  binds-is = ind-Core IsSame (λ p. Unit {0}) (λ x y is. subst (λ z. IsSame (roll-Core z)) is (same-rolled (same_shape y))) (λ x y is. tt)

-- ---- what is written

module _ (tables : Tables) (signature : MemberRef → Name) (classes : List Class)
    (params : (t : ℕ) → map (type_of tables) (parameters_at tables.types t) ≡ parameters (type_of tables t)) where
  puts-held : {p : Piece} {e : Core} (x : Full) (name : Name) (n : ℕ) → Writes tables signature classes p e → builds e ≡ false
      → Puts tables signature (static_held name p (full_of x) n)
      (λ k rest. value classes x e None (suc n) k (more (sets n (plain.finish_static name)) (settled e n (suc n) rest))) (width e)
  unfolding static_held
  puts-held {p} {e} x name n w gives =
      puts-as tables signature
      (puts-still tables signature (w.puts x None (suc n))
      (still-then tables signature (still-set tables signature n (action.FinishStatic name)) (still-act tables signature (action.First n (suc n)))))
      (λ k rest. ap (λ b. value classes x e None (suc n) k (more (sets n (plain.finish_static name)) (if b then rest else more (acts (plain.first n (suc n))) rest))) (sym gives)) refl

  abbrev IsWritten : Node → Type 0
  IsWritten n = is_bound (core_of tables signature n) ≡ true → Writes tables signature classes (piece tables.types n) (core_of tables signature n)

  abbrev IsWrittenLayer : Core-F Node PartStart → Type 0
  IsWrittenLayer x =
      is_bound (core_step tables signature (map-Core _ _ _ _ (core_of tables signature) (start_in tables signature) x)) ≡ true
      → Writes tables signature classes (piece_step tables.types (map-Core _ _ _ _ (piece tables.types) (part_piece tables.types) x))
      (core_step tables signature (map-Core _ _ _ _ (core_of tables signature) (start_in tables signature) x))

  written-layer : (x : Core-F Node PartStart) → IsWrittenLayer x
  written-layer (Core-F.Bind at holder.NoTemporary e) ok =
      let c = core_of tables signature e in
      let w = written-start tables signature classes params e (value-start c (constant-value c ok)) in
      record { puts = λ x into n. Writes.puts w x None n; finds = λ b. Writes.finds w b }
  written-layer (Core-F.Bind at (holder.StaticTemporary name) e) ok =
      let c = core_of tables signature e in
      let is = constant-value c ok in
      let w = written-start tables signature classes params e (value-start c is) in
      record { puts = λ x into n. puts-held x name n w (gives-value c is); finds = λ b. Writes.finds w b }
  written-layer (Core-F.Bind at (holder.LocalTemporary j t) e) ok = never ok
  written-layer x ok = never ok

  written-rolled : (x : Core-F Node PartStart) → IsWrittenLayer x → IsWritten (roll-Core x)
  written-rolled x p =
      subst (λ q. is_bound (core_of tables signature (roll-Core x)) ≡ true → Writes tables signature classes q (core_of tables signature (roll-Core x)))
      (sym (fold-roll-Core Piece Piece (piece_step tables.types) (pieces.part_step tables.types) x))
      (subst (λ e. is_bound e ≡ true → Writes tables signature classes (piece_step tables.types (map-Core _ _ _ _ (piece tables.types) (part_piece tables.types) x)) e)
      (sym (fold-roll-Core Core Started (core_step tables signature) (started_step tables signature) x)) p)

  abbrev WrittenChild : Type 0
  WrittenChild = (n : Node) × IsWritten n

  abbrev WrittenPart : Type 0
  WrittenPart = (p : PartStart) × Unit {0}

  abbrev written_shape : Core-F WrittenChild WrittenPart → Core-F Node PartStart
  written_shape y = map-Core _ _ _ _ (λ (c : WrittenChild). c.0) (λ (c : WrittenPart). c.0) y

  pub written-bound : (n : Node) → is_bound (core_of tables signature n) ≡ true → Writes tables signature classes (piece tables.types n) (core_of tables signature n)
  written-bound =
      ind-Core IsWritten (λ p. Unit {0}) (λ x y is. subst (λ z. IsWritten (roll-Core z)) is (written-rolled (written_shape y) (written-layer (written_shape y)))) (λ x y is. tt)
