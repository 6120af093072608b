-- What is written for a built expression is the definition's.
use Rattle.std.proofs.Common.{◌≡◌, ℕ, Bool, true, false, not, ◌&&◌, List, [], ◌∷◌, map, None, refl, sym, subst}
use Rattle.cf_base.proofs.Tests.{both}
use Rattle.cf_classes.specs.declared.class.MemberRef.{MemberRef}
use Rattle.cf_core.specs.declared.node.Core.{Core as Node, roll-Core, ind-Core}
use Rattle.cf_core.specs.declared.node.Core.TheOpen.{Core-F}
use Rattle.cf_core.specs.declared.node.Core.TheFolds.{fold-roll-Core, map-Core}
use Rattle.cf_core.specs.declared.node.PartStart.{PartStart, fold-PartStart}
use Rattle.cf_core.specs.declared.node.Holder.TheVariants as holder
use Rattle.cf_core.specs.Types.{Name, parameters, result, is_class}
use Rattle.cf_core.specs.Classes.{Class}
use Rattle.cf_core.specs.Core as core
use Rattle.cf_core.specs.Core.{Core, Cores, absent, given}
use Rattle.cf_core.specs.Places.{is_reference}
use Rattle.cf_core.specs.FromTypes.{Tables, type_of}
use Rattle.cf_core.specs.View.{Started, core_step, started_step, core_of, listed}
use Rattle.cf_sequence.specs.Built.{is_value, is_start, are_values, are_arguments, is_chain}
use Rattle.cf_sequence.specs.Expressions.{builds}
use Rattle.cf_sequence.proofs.Calling.{never}
use Rattle.cf_sequence_expr.specs.Parameters.{parameters_at}
use Rattle.cf_sequence_expr.specs.Pieces as pieces
use Rattle.cf_sequence_expr.specs.Pieces.{Piece, piece, part_piece, piece_step}
use Rattle.cf_sequence_written.proofs.Adding.{added-count}
use Rattle.cf_sequence_written.proofs.Values.{Writes, WritesAll, writes-Number, writes-Text, writes-Local, writes-Static, writes-Function, writes-Read, writes-Address, writes-Dereference, writes-Decay, writes-Convert, writes-FromVoid, writes-Unary, writes-Not, writes-Index, writes-Operate, writes-PointerOperate, writes-Store, writes-And, writes-Or, writes-Conditional, writes-none, writes-more, writes-Comma, writes-Update, writes-Increment, writes-Blank}
use Rattle.cf_sequence_written.proofs.Made.{writes-Temporary}
use Rattle.cf_sequence_written.proofs.Calls.{WritesArguments, arguments-none, arguments-more, writes-Call, writes-PointerCall}

pub is-false : (b : Bool) → not b ≡ true → b ≡ false
is-false true same = sym same
is-false false same = refl

-- a value is no initialiser that builds its object
pub gives-value : (e : Core) → is_value e ≡ true → builds e ≡ false
gives-value core.blank ok = never ok
gives-value core.zeros ok = never ok
gives-value (core.string bytes) ok = never ok
gives-value (core.build name t es) ok = never ok
gives-value (core.copy t e es) ok = never ok
gives-value (core.each e) ok = never ok
gives-value (core.list es e) ok = never ok
gives-value (core.virtual_call signature t e es) ok = never ok
gives-value (core.pointer_call (given o) e t es) ok = never ok
gives-value (core.pointer_call absent e t es) ok = is-false (is_class (result t)) (both (not (is_class (result t))) (is_chain t && (is_value e && are_arguments es)) ok).0
gives-value (core.call name t (given o) es) ok = never ok
gives-value (core.call name t absent es) ok = is-false (is_class (result t)) (both (not (is_class (result t))) (is_chain t && are_arguments es) ok).0
gives-value e ok = refl

pub value-start : (e : Core) → is_value e ≡ true → is_start e ≡ true
value-start core.blank ok = refl
value-start e ok = ok

module _ (tables : Tables) (signature : MemberRef → Name) (classes : List Class)
    (params : (t : ℕ) → map (type_of tables) (parameters_at tables.types t) ≡ parameters (type_of tables t)) where
  abbrev IsWritten : Node → Type 0
  IsWritten n = is_start (core_of tables signature n) ≡ true → Writes tables signature classes (piece tables.types n) (core_of tables signature n)

  abbrev Child : Type 0
  Child = (n : Node) × IsWritten n

  abbrev PartChild : Type 0
  PartChild = (p : PartStart) × Unit {0}

  abbrev node_of : Child → Node
  node_of c = c.0

  abbrev part_of : PartChild → PartStart
  part_of c = c.0

  abbrev started_of : PartStart → Started
  started_of = fold-PartStart Core Started (core_step tables signature) (started_step tables signature)

  abbrev of : Child → Core
  of c = core_of tables signature c.0

  of_value : (e : Child) → is_value (of e) ≡ true → Writes tables signature classes (piece tables.types e.0) (of e)
  of_value e ok = e.1 (value-start (of e) ok)

  abbrev shape : Core-F Child PartChild → Core-F Node PartStart
  shape y = map-Core _ _ _ _ node_of part_of y

  abbrev pieces_of : List Child → List Piece
  pieces_of es = map (piece tables.types) (map node_of es)

  abbrev cores_of : List Child → Cores
  cores_of es = listed (map (core_of tables signature) (map node_of es))

  in_order : (es : List Child) → are_values (cores_of es) ≡ true → WritesAll tables signature classes (pieces_of es) (cores_of es)
  in_order [] ok = never ok
  in_order (e ∷ []) ok = writes-more tables signature classes (of_value e ok) (writes-none tables signature classes)
  in_order (e ∷ f ∷ es) ok =
      let parts = both (is_value (of e)) (are_values (cores_of (f ∷ es))) ok in
      writes-more tables signature classes (of_value e parts.0) (in_order (f ∷ es) parts.1)

  given_arguments : (es : List Child) → are_arguments (cores_of es) ≡ true → WritesArguments tables signature classes (pieces_of es) (cores_of es)
  given_arguments [] ok = arguments-none tables signature classes
  given_arguments (e ∷ es) ok =
      let parts = both (is_value (of e)) (are_arguments (cores_of es)) ok in
      arguments-more tables signature classes (of_value e parts.0) (gives-value (of e) parts.0) (added-count tables signature params e.0) (given_arguments es parts.1)

  abbrev IsLayer : Core-F Node PartStart → Type 0
  IsLayer x =
      is_start (core_step tables signature (map-Core _ _ _ _ (core_of tables signature) started_of x)) ≡ true
      → Writes tables signature classes (piece_step tables.types (map-Core _ _ _ _ (piece tables.types) (part_piece tables.types) x)) (core_step tables signature (map-Core _ _ _ _ (core_of tables signature) started_of x))

  layer : (y : Core-F Child PartChild) → IsLayer (shape y)
  layer (Core-F.Number at z) ok = writes-Number tables signature classes at z
  layer (Core-F.Text at j bytes) ok = writes-Text tables signature classes at j bytes
  layer (Core-F.Local at i) ok = writes-Local tables signature classes at i
  layer (Core-F.Static at n t) ok = writes-Static tables signature classes at n t
  layer (Core-F.Function at n t) ok = writes-Function tables signature classes at n t
  layer (Core-F.Read at e) ok = writes-Read tables signature classes at (of_value e ok)
  layer (Core-F.Address at e) ok = writes-Address tables signature classes at (of_value e ok)
  layer (Core-F.Dereference at e) ok = writes-Dereference tables signature classes at (of_value e ok)
  layer (Core-F.Decay at e) ok = writes-Decay tables signature classes at (of_value e ok)
  layer (Core-F.Convert at t e) ok = writes-Convert tables signature classes at t (of_value e ok)
  layer (Core-F.FromVoid at t e) ok = writes-FromVoid tables signature classes at t (of_value e ok)
  layer (Core-F.Unary at op k e) ok = writes-Unary tables signature classes at op k (of_value e ok)
  layer (Core-F.Not at e) ok = writes-Not tables signature classes at (of_value e ok)
  layer (Core-F.Index at a b) ok = let parts = both (is_value (of a)) (is_value (of b)) ok in writes-Index tables signature classes at (of_value a parts.0) (of_value b parts.1)
  layer (Core-F.Operate at op k a b) ok =
      let parts = both (is_value (of a)) (is_value (of b)) ok in writes-Operate tables signature classes at op k (of_value a parts.0) (of_value b parts.1)
  layer (Core-F.PointerOperate at op a b) ok =
      let parts = both (is_value (of a)) (is_value (of b)) ok in writes-PointerOperate tables signature classes at op (of_value a parts.0) (of_value b parts.1)
  layer (Core-F.And at a b) ok = let parts = both (is_value (of a)) (is_value (of b)) ok in writes-And tables signature classes at (of_value a parts.0) (of_value b parts.1)
  layer (Core-F.Or at a b) ok = let parts = both (is_value (of a)) (is_value (of b)) ok in writes-Or tables signature classes at (of_value a parts.0) (of_value b parts.1)
  layer (Core-F.Conditional at q a b) ok =
      let parts = both (is_value (of q)) (is_value (of a) && is_value (of b)) ok in
      let sides = both (is_value (of a)) (is_value (of b)) parts.1 in
      writes-Conditional tables signature classes at (of_value q parts.0) (of_value a sides.0) (of_value b sides.1)
  layer (Core-F.Comma at es) ok = writes-Comma tables signature classes at (in_order es ok)
  layer (Core-F.Store at a b) ok = let parts = both (is_value (of a)) (is_value (of b)) ok in writes-Store tables signature classes at (of_value a parts.0) (of_value b parts.1)
  layer (Core-F.Update at a c b) ok = let parts = both (is_value (of a)) (is_value (of b)) ok in writes-Update tables signature classes at c (of_value a parts.0) (of_value b parts.1)
  layer (Core-F.Increment at is_postfix c e) ok = writes-Increment tables signature classes at is_postfix c (of_value e ok)
  layer (Core-F.Bind at holder.NoTemporary e) ok = record { puts = λ x into n. Writes.puts (of_value e ok) x None n; finds = λ b. Writes.finds (of_value e ok) b }
  layer (Core-F.Temporary at t e) ok =
      let is = (both (not (is_reference (type_of tables t))) (is_value (of e)) ok).1 in writes-Temporary tables signature classes at t (of_value e is) (gives-value (of e) is)
  layer (Core-F.Call at name t None es) ok =
      let parts = both (not (is_class (result (type_of tables t)))) (is_chain (type_of tables t) && are_arguments (cores_of es)) ok in
      writes-Call tables signature classes at name t (params t) (is-false (is_class (result (type_of tables t))) parts.0)
      (given_arguments es (both (is_chain (type_of tables t)) (are_arguments (cores_of es)) parts.1).1)
  layer (Core-F.PointerCall at None e t es) ok =
      let parts = both (not (is_class (result (type_of tables t)))) (is_chain (type_of tables t) && (is_value (of e) && are_arguments (cores_of es))) ok in
      let two = both (is_value (of e)) (are_arguments (cores_of es)) (both (is_chain (type_of tables t)) (is_value (of e) && are_arguments (cores_of es)) parts.1).1 in
      writes-PointerCall tables signature classes at t (params t) (is-false (is_class (result (type_of tables t))) parts.0) (of_value e two.0) (given_arguments es two.1)
  layer (Core-F.Blank at) ok = writes-Blank tables signature classes at
  layer y ok = never ok

  rolled : (x : Core-F Node PartStart) → IsLayer x → IsWritten (roll-Core x)
  rolled x p =
      subst (λ q. is_start (core_of tables signature (roll-Core x)) ≡ true → Writes tables signature classes q (core_of tables signature (roll-Core x)))
      (sym (fold-roll-Core Piece Piece (piece_step tables.types) (pieces.part_step tables.types) x))
      (subst (λ e. is_start e ≡ true → Writes tables signature classes (piece_step tables.types (map-Core _ _ _ _ (piece tables.types) (part_piece tables.types) x)) e)
      (sym (fold-roll-Core Core Started (core_step tables signature) (started_step tables signature) x)) p)

  pub written-start : (n : Node) → is_start (core_of tables signature n) ≡ true → Writes tables signature classes (piece tables.types n) (core_of tables signature n)
  written-start = ind-Core IsWritten (λ p. Unit {0}) (λ x y is. subst (λ z. IsWritten (roll-Core z)) is (rolled (shape y) (layer y))) (λ x y is. tt)
