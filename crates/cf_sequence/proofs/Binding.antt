-- A value that a reference binds: a temporary of the full expression holds it (8.4.3, 12.2).
use Rattle.std.proofs.Common.{◌≡◌, inr, ℕ, suc, ◌+◌, Bool, true, false, List, sym, ◌∙◌, ap, subst, arith, if◌then◌else◌}
use Rattle.std.specs.Prelude.{pos, Some}
use Rattle.cf_base.specs.World.{and_then}
use Rattle.cf_core.specs.Types.{SourceType, Name}
use Rattle.cf_core.specs.Core as core
use Rattle.cf_core.specs.Core.{Core, Function}
use Rattle.cf_core.specs.Places.{is_reference}
use Rattle.cf_core.specs.Store.{Value, Number, At, new_object, automatic}
use Rattle.cf_core.specs.Run.{State, Frame, Act, ◌>>=◌, ◌>>◌, gives, upd, frame_changed, with_frame, lists_local, lists_temporary}
use Rattle.cf_core.specs.Objects.{settle}
use Rattle.cf_core.specs.Calls as calling
use Rattle.cf_core.specs.Calls.{Program, root, function_named}
use Rattle.cf_core.specs.Expressions as meaning
use Rattle.cf_plain.specs.Plain.{Register, Plains, act, set, more}
use Rattle.cf_plain.specs.Plain as plain
use Rattle.cf_plain.specs.Acts.{Registers}
use Rattle.cf_plain.specs.Running as running
use Rattle.cf_plain.specs.Running.{Flow, keep}
use Rattle.cf_sequence.specs.Follows.{Follows}
use Rattle.cf_sequence.specs.Built.{is_value, is_chain}
use Rattle.cf_sequence.specs.Made.{Temporary, temporaries, width}
use Rattle.cf_sequence.specs.Expressions.{flag, destination, value, settled}
use Rattle.cf_sequence.proofs.Following.{on, pull, pull-two}
use Rattle.cf_sequence.proofs.Calling.{Bodies}
use Rattle.cf_sequence.proofs.Kept.{kept-then, keep-same, keep-other, listed-kept, listed-there}
use Rattle.cf_sequence.proofs.Temporaries.{placed-wider, begins-same, begins-temporary, grown-temporary, grown-wider}
use Rattle.cf_sequence.proofs.Placing.{placing}
use Rattle.cf_sequence.proofs.PlainSteps.{runs_on, set-steps, declare-steps, here-steps, new-type}
use Rattle.cf_sequence.proofs.Operands.{H, Follow}
use Rattle.cf_sequence.proofs.Parts.{first-steps, value-gives}

module _ (again : calling.Again) (again' : running.Again) (P : Program) (bodies : Bodies again again' P)
    (chains : (name : Name) (f : Function) → function_named P name ≡ Some f → is_chain f.type ≡ true)
    (A B : Type 0) (S : A → State → B → State → Type 0) where
  pub follow-temporary : (b : Bool) (T : SourceType) (e : Core) → is_reference T ≡ false → is_value e ≡ true → (Follow again again' P bodies chains A B S) b e → (Follow again again' P bodies chains A B S) b (core.temporary T e)
  follow-temporary b T e no_reference ok follow into into' x n k rest g s f w c K begins next =
      let q : ℕ = s.next in
      let object : Register = suc n in
      let first : Register = suc object in
      let p : ℕ = suc k + width e in
      let m : ℕ = k + suc (width e) in
      let place : Value = At (root q) in
      let ts : List Temporary = temporaries b e (suc k) in
      let s1 : State = record s { next = suc q; object = upd q (new_object T automatic) s.object } in
      let f1 : Frame = lists_local k q f in
      let g1 : Registers = keep g object place in
      let g2 : Registers = keep g1 n place in
      let marked : Plains = more (set (flag x k) (plain.number (pos 1))) rest in
      let last : Plains = more (act (plain.first object first)) marked in
      let code : Plains = value P.classes x e (destination object T) first (suc k) (settled e object first marked) in
      let ends : Act Value = frame_changed (lists_temporary q) >> gives place in
      let room = begins.room in
      let top = begins.high in
      let low = begins.low in
      let placed = placed-wider b (suc k) (suc k) p m ts (omega arith) (omega arith) (placing e ok b (suc k)) in
      declare-steps again' (H again again' P) k T object (more (set n (plain.local k)) code) g K _ s f w (omega arith)
      (here-steps again' (H again again' P) k q n code g1 K _ s1 f1 w (omega arith) (listed-there k q f) (new-type T q s no_reference)
      (pull-two (meaning.value again P e (Some (root q)) s1 w) (settle P.classes (root q)) (λ u. ends) c _
      (subst (λ ss. Follows S (and_then (meaning.value again P e (Some (root q)) s1 w) (on (λ v. (settle P.classes (root q) v >> ends) >>= c)))
      (runs_on again' (H again again' P) (value P.classes x e (destination object T) first (suc k) (if ss then marked else last)) g2 K (with_frame f1 s1) w))
      (sym ((value-gives again again' P bodies chains A B S) e ok))
      (follow (Some (root q)) (destination object T) x first (suc k) last g2 s1 f1 w (λ v. (settle P.classes (root q) v >> ends) >>= c) K
      (begins-same b x ts first (suc k) m g2 s.frame f1 (begins-temporary b x ts T n k m q place place g s.frame f begins (omega arith) placed) b first (suc k) p (omega arith) (omega arith) (omega arith) (omega arith)
      (placing e ok b (suc k)))
      (λ v s2 h f2 w2 done.
      pull (settle P.classes (root q) v s2 w2) (λ u. ends) c _
      ((first-steps again again' P bodies chains A B S) object first (root q) v h marked (λ u. ends >>= c) K s2 f2 w2
      (done.grown.below object (omega arith) (inr (omega arith)) ∙ keep-other n object g1 place (λ same. omega arith) ∙ keep-same object g place) done.value (λ s3 same.
      set-steps again' (H again again' P) (flag x k) (plain.number (pos 1)) rest h K _ (with_frame f2 s3) w2
      (next place (with_frame (lists_temporary q s3.frame) s3) (keep h (flag x k) (Number (pos 1))) f2 w2 (record {
        value = keep-other (flag x k) n h (Number (pos 1)) (λ same. omega arith) ∙ done.grown.below n (omega arith) (inr (omega arith)) ∙ keep-same n g1 place;
        grown = grown-temporary b x ts T n k m q place place g s.frame f s2 (with_frame (lists_temporary q s3.frame) s3) h f2 begins (omega arith) placed
            (grown-wider x ts first (suc k) (suc k) p m g2 s.frame s2 h f2.locals (omega arith) (omega arith) done.grown)
            (done.kept.below k (omega arith) ∙ listed-there k q f) (ap (λ (y : Frame). lists_temporary q y) same);
        kept = kept-then k (suc k) f f1 f2 (omega arith) (listed-kept k q f) done.kept;
      })))))))))
