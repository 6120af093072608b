-- What is written for a temporary of a full expression is the definition's.
use Rattle.std.proofs.Common.{◌≡◌, ℕ, suc, ◌+◌, Bool, false, List, refl, ap, sym, ◌∙◌, arith}
use Rattle.std.specs.Prelude.{pos, Option, if◌then◌else◌}
use Rattle.cf_classes.specs.declared.class.MemberRef.{MemberRef}
use Rattle.cf_core.specs.declared.node.Core.TheOpen.{Core-F}
use Rattle.cf_core.specs.Types.{Name}
use Rattle.cf_core.specs.Classes.{Class}
use Rattle.cf_core.specs.Core as core
use Rattle.cf_core.specs.Core.{Core}
use Rattle.cf_core.specs.FromTypes.{Tables, type_of}
use Rattle.cf_plain.specs.declared.action.Action.TheVariants as action
use Rattle.cf_plain.specs.Plain.{Plains, more, set as sets, act as acts}
use Rattle.cf_plain.specs.Plain as plain
use Rattle.cf_sequence.specs.Made.{width}
use Rattle.cf_sequence.specs.Expressions.{Full, Destination, destination, value, builds}
use Rattle.cf_sequence.specs.Expressions as definition
use Rattle.cf_sequence_expr.specs.Writes.{flag, set, act, passed}
use Rattle.cf_sequence_expr.specs.Pieces.{Piece, piece_step, temporary}
use Rattle.cf_sequence_written.proofs.Finding.{finds-temporary}
use Rattle.cf_sequence_written.proofs.Puts.{Puts, still-set, still-act, puts-as, puts-passed, puts-still, still-puts, puts-then}
use Rattle.cf_sequence_written.proofs.Values.{Writes, full_of}

pub flag-is : (x : Full) (i : ℕ) → flag (full_of x) i ≡ definition.flag x i
unfolding flag
flag-is x i = refl

module _ (tables : Tables) (signature : MemberRef → Name) (classes : List Class) where
  -- one that is local i
  making : {p : Piece} {e : Core} (x : Full) (t n i : ℕ) → Writes tables signature classes p e → builds e ≡ false
      → Puts tables signature
      (λ w. set (flag (full_of x) i) (action.Number (pos 1))
      (act (action.First (suc n) (suc (suc n))) (p.value (full_of x) (suc (suc n)) (set n (action.Local i) (set (suc n) (action.Declare i t) (passed 1 w))))))
      (λ k rest. more (sets (suc n) (plain.declare i (type_of tables t))) (more (sets n (plain.local i))
      (value classes x e (destination (suc n) (type_of tables t)) (suc (suc n)) (suc k)
      (definition.settled e (suc n) (suc (suc n)) (more (sets (definition.flag x i) (plain.number (pos 1))) rest))))) (suc (width e))
  making {p} {e} x t n i w gives =
      let T = type_of tables t in
      puts-as tables signature
      (puts-still tables signature
      (puts-then tables signature (puts-passed tables signature 1)
      (still-puts tables signature (still-set tables signature (suc n) (action.Declare i t))
      (still-puts tables signature (still-set tables signature n (action.Local i))
      (puts-still tables signature (w.puts x (destination (suc n) T) (suc (suc n))) (still-act tables signature (action.First (suc n) (suc (suc n))))))))
      (still-set tables signature (flag (full_of x) i) (action.Number (pos 1))))
      (λ k rest.
      let code : ℕ → ℕ → Bool → Plains = λ m f b. more (sets (suc n) (plain.declare i T)) (more (sets n (plain.local i))
      (value classes x e (destination (suc n) T) (suc (suc n)) m
      (if b then more (sets f (plain.number (pos 1))) rest else more (acts (plain.first (suc n) (suc (suc n)))) (more (sets f (plain.number (pos 1))) rest)))) in
      let next : k + 1 ≡ suc k = omega arith in
      ap (λ m. code m (flag (full_of x) i) false) next ∙ ap (λ f. code (suc k) f false) (flag-is x i) ∙ ap (λ b. code (suc k) (definition.flag x i) b) (sym gives))
      (omega arith)

  puts-temporary : {p : Piece} {e : Core} (x : Full) (t : ℕ) (into : Option Destination) (n : ℕ) → Writes tables signature classes p e → builds e ≡ false
      → Puts tables signature (temporary t p (full_of x) n) (λ k rest. value classes x (core.temporary (type_of tables t) e) into n k rest) (suc (width e))
  unfolding temporary
  puts-temporary x t into n w gives = record {
    code = λ v rest. Puts.code (making x t n v.next w gives) v rest;
    next = λ v. Puts.next (making x t n v.next w gives) v;
  }

  pub writes-Temporary : {p : Piece} {e : Core} (at t : ℕ) → Writes tables signature classes p e → builds e ≡ false
      → Writes tables signature classes (piece_step tables.types (Core-F.Temporary at t p)) (core.temporary (type_of tables t) e)
  writes-Temporary {p} at t w gives = record { puts = λ x into n. puts-temporary x t into n w gives; finds = λ b. finds-temporary tables p t b (w.finds b) }
