-- Assignments, `++` and `--`: the plain statements of what they change.
use Rattle.std.proofs.Common.{◌≡◌, ℕ, suc, ◌+◌, ◌≤◌, Bool, true, false, List, ◌++◌, length, refl, ◌∙◌, ap, subst, arith}
use Rattle.std.specs.Prelude.{pos, Option, Some, None}
use Rattle.cf_base.specs.World.{and_then}
use Rattle.cf_core.specs.Types.{Name}
use Rattle.cf_core.specs.Core as core
use Rattle.cf_core.specs.Core.{Core, Function, Change}
use Rattle.cf_core.specs.Nodes.{nodes}
use Rattle.cf_core.specs.Places.{Place}
use Rattle.cf_core.specs.Store.{Value, Number, At}
use Rattle.cf_core.specs.Run.{State, Frame, Act, ◌>>=◌, ◌>>◌, gives, with_frame}
use Rattle.cf_core.specs.Access.{used, place_of, read_place, write_place}
use Rattle.cf_core.specs.Scalars.{changed_value}
use Rattle.cf_core.specs.Calls as calling
use Rattle.cf_core.specs.Calls.{Program, function_named}
use Rattle.cf_core.specs.Expressions as meaning
use Rattle.cf_plain.specs.Plain.{Plains, act, set, more}
use Rattle.cf_plain.specs.Plain as plain
use Rattle.cf_plain.specs.Acts.{Registers}
use Rattle.cf_plain.specs.Running as running
use Rattle.cf_plain.specs.Running.{Flow, keep}
use Rattle.cf_sequence.specs.Follows.{Follows}
use Rattle.cf_sequence.specs.Built.{is_value, is_chain}
use Rattle.cf_sequence.specs.Made.{Temporary, temporaries, added, width}
use Rattle.cf_sequence.specs.Expressions.{Full}
use Rattle.cf_sequence.proofs.Following.{on, pull, looks-steps}
use Rattle.cf_sequence.proofs.Steps.{looks-read_place}
use Rattle.cf_sequence.proofs.Calling.{Bodies}
use Rattle.cf_sequence.proofs.Actions.{store-steps, change-steps}
use Rattle.cf_sequence.proofs.Kept.{keep-same, keep-other}
use Rattle.cf_sequence.proofs.Temporaries.{Begins, begins-same, Grown, grown-set, grown-state, grown-behind}
use Rattle.cf_sequence.proofs.Placing.{placing}
use Rattle.cf_sequence.proofs.PlainSteps.{use-steps, place-cases}
use Rattle.cf_sequence.proofs.Operands.{H, Follow, two-operands}
use Rattle.cf_sequence.proofs.Parts.{number-and-change, read-first, read-at}

module _ (again : calling.Again) (again' : running.Again) (P : Program) (bodies : Bodies again again' P)
    (chains : (name : Name) (f : Function) → function_named P name ≡ Some f → is_chain f.type ≡ true)
    (A B : Type 0) (S : A → State → B → State → Type 0) where
  pub follow-store : (b : Bool) (a e : Core) → is_value a ≡ true → is_value e ≡ true → (Follow again again' P bodies chains A B S) b a → (Follow again again' P bodies chains A B S) b e → (Follow again again' P bodies chains A B S) b (core.store a e)
  follow-store b a e ok-a ok-e follow-a follow-e into into' x n k rest g s f w c K begins next =
      let m : ℕ = k + length (added (nodes a ++ nodes e)) in
      let ts : List Temporary = temporaries b a k ++ temporaries b e (k + width a) in
      let writes : Place → Value → Act Value = λ p v. write_place P.classes p v >> gives (At p) in
      let right : Place → Act Value = λ p. (meaning.value again P e None >>= used) >>= writes p in
      pull _ right c _ (pull _ place_of (λ p. right p >>= c) _ (pull (meaning.value again P a None s w) used (λ u. place_of u >>= (λ p. right p >>= c)) _
      ((two-operands again again' P bodies chains A B S) b a e ok-a ok-e follow-a follow-e (λ u. place_of u >>= (λ p. right p >>= c)) (λ u v. place_of u >>= (λ p. used v >>= (λ v. writes p v >>= c)))
      (λ u s w y h. place-cases again' (H again again' P) u (λ p. right p >>= c) s w y (λ p is.
      pull _ (writes p) c y (pull (meaning.value again P e None s w) used (λ v. writes p v >>= c) y
      (subst (λ u. Follows S (and_then (meaning.value again P e None s w) (on (λ v. place_of u >>= (λ p. used v >>= (λ v. writes p v >>= c))))) y) is h))))
      x n k _ g s f w K begins (λ u v s2 h f2 w2 usable at-n at-m grown kept.
      place-cases again' (H again again' P) u (λ p. used v >>= (λ v. writes p v >>= c)) s2 w2 _ (λ p is.
      store-steps again' (H again again' P) n (suc n) p v (At p) h rest c K s2 f2 w2 (at-n ∙ ap Some is) at-m (λ s3 same.
      next (At p) s3 h f2 w2 (record { value = at-n ∙ ap Some is; grown = grown-state x ts n k m g s.frame s2 s3 h f2.locals same grown; kept = kept })))))))

  pub follow-update : (b : Bool) (a : Core) (ch : Change) (e : Core) → is_value a ≡ true → is_value e ≡ true → (Follow again again' P bodies chains A B S) b a → (Follow again again' P bodies chains A B S) b e → (Follow again again' P bodies chains A B S) b (core.update a ch e)
  follow-update b a ch e ok-a ok-e follow-a follow-e into into' x n k rest g s f w c K begins next =
      let m : ℕ = k + length (added (nodes a ++ nodes e)) in
      let ts : List Temporary = temporaries b a k ++ temporaries b e (k + width a) in
      let writes : Place → Value → Value → Act Value = λ p y v. changed_value P.classes ch v y >>= (λ z. write_place P.classes p z >> gives (At p)) in
      let ends : Place → Value → Act Value = λ p y. read_place P.classes p >>= writes p y in
      let changing : Plains = more (set (suc n) (plain.changed ch (suc (suc n)) (suc n))) (more (act (plain.store n (suc n))) rest) in
      let right : Place → Act Value = λ p. (meaning.value again P e None >>= used) >>= ends p in
      pull _ right c _ (pull _ place_of (λ p. right p >>= c) _ (pull (meaning.value again P a None s w) used (λ u. place_of u >>= (λ p. right p >>= c)) _
      ((two-operands again again' P bodies chains A B S) b a e ok-a ok-e follow-a follow-e (λ u. place_of u >>= (λ p. right p >>= c)) (λ u v. place_of u >>= (λ p. used v >>= (λ v. ends p v >>= c)))
      (λ u s w y h. place-cases again' (H again again' P) u (λ p. right p >>= c) s w y (λ p is.
      pull _ (ends p) c y (pull (meaning.value again P e None s w) used (λ v. ends p v >>= c) y
      (subst (λ u. Follows S (and_then (meaning.value again P e None s w) (on (λ v. place_of u >>= (λ p. used v >>= (λ v. ends p v >>= c))))) y) is h))))
      x n k _ g s f w K begins (λ u v s2 h f2 w2 usable at-n at-m grown kept.
      place-cases again' (H again again' P) u (λ p. used v >>= (λ v. ends p v >>= c)) s2 w2 _ (λ p is.
      use-steps again' (H again again' P) (suc n) v h at-m (λ v. ends p v >>= c) (more (set (suc (suc n)) (plain.read n)) changing) K s2 (with_frame f2 s2) w2 (λ usable-v.
      pull (read_place P.classes p s2 w2) (writes p v) c _
      ((read-at again again' P bodies chains A B S) n (suc (suc n)) p h changing (λ y. writes p v y >>= c) K s2 f2 w2 (at-n ∙ ap Some is) (λ y.
      change-steps again' (H again again' P) ch n (suc (suc n)) (suc n) (suc n) p y v (At p) (keep h (suc (suc n)) y) rest c K s2 f2 w2
      (keep-other (suc (suc n)) n h y (λ same. omega arith) ∙ at-n ∙ ap Some is) (keep-same (suc (suc n)) h y)
      (keep-other (suc (suc n)) (suc n) h y (λ same. omega arith) ∙ at-m) usable-v (λ same. omega arith) (λ z s3 same.
      next (At p) s3 (keep (keep h (suc (suc n)) y) (suc n) z) f2 w2 (record {
        value = keep-other (suc n) n (keep h (suc (suc n)) y) z (λ same. omega arith) ∙ keep-other (suc (suc n)) n h y (λ same. omega arith) ∙ at-n ∙ ap Some is;
        grown = grown-set b x ts n k m (suc n) g s.frame f s3 (keep h (suc (suc n)) y) f2.locals z begins (omega arith)
            (grown-set b x ts n k m (suc (suc n)) g s.frame f s3 h f2.locals y begins (omega arith) (grown-state x ts n k m g s.frame s2 s3 h f2.locals same grown));
        kept = kept;
      }))))))))))

  -- three registers are set, and an object is changed
  stepped : (b : Bool) (x : Full) (ts : List Temporary) (n k m p q r : ℕ) (g : Registers) (e f : Frame) (s t : State) (h : Registers) (locals : ℕ → Option ℕ) (u v z : Value)
      → Begins b x ts n k m g e f → n ≤ p → n ≤ q → n ≤ r → t.frame ≡ s.frame → Grown x ts n k m g e s h locals
      → Grown x ts n k m g e t (keep (keep (keep h p u) q v) r z) locals
  stepped b x ts n k m p q r g e f s t h locals u v z begins le-p le-q le-r same grown =
      grown-set b x ts n k m r g e f t (keep (keep h p u) q v) locals z begins le-r
      (grown-set b x ts n k m q g e f t (keep h p u) locals v begins le-q
      (grown-set b x ts n k m p g e f t h locals u begins le-p (grown-state x ts n k m g e s t h locals same grown)))

  pub follow-before : (b : Bool) (ch : Change) (e : Core) → (Follow again again' P bodies chains A B S) b e → (Follow again again' P bodies chains A B S) b (core.step false ch e)
  follow-before b ch e follow into into' x n k rest g s f w c K begins next =
      let m : ℕ = k + width e in
      let ts : List Temporary = temporaries b e k in
      let writes : Place → Value → Act Value = λ p v. changed_value P.classes ch v (Number (pos 1)) >>= (λ z. write_place P.classes p z >> gives (At p)) in
      let ends : Place → Act Value = λ p. read_place P.classes p >>= writes p in
      pull (and_then (and_then (meaning.value again P e None s w) (on used)) (on place_of)) ends c _ (pull (and_then (meaning.value again P e None s w) (on used)) place_of (λ p. ends p >>= c) _ (pull (meaning.value again P e None s w) used (λ u. place_of u >>= (λ p. ends p >>= c)) _
      (follow None None x n k _ g s f w (λ u. used u >>= (λ u. place_of u >>= (λ p. ends p >>= c))) K begins (λ u s1 h f1 w1 done.
      (read-first again again' P bodies chains A B S) n (suc n) u h (more (set (suc (suc n)) (plain.number (pos 1))) (more (set (suc n) (plain.changed ch (suc n) (suc (suc n)))) (more (act (plain.store n (suc n))) rest))) (λ p. ends p >>= c) K s1 f1 w1 done.value (λ p is.
      pull (read_place P.classes p s1 w1) (writes p) c _
      (looks-steps (read_place P.classes p) (looks-read_place P.classes p) (λ y. writes p y >>= c) _ s1 f1 w1 (λ y.
      (number-and-change again again' P bodies chains A B S) ch n (suc n) (suc (suc n)) (suc n) p y (At p) (keep h (suc n) y) rest c K s1 f1 w1
      (keep-other (suc n) n h y (λ same. omega arith) ∙ done.value ∙ ap Some is) (keep-same (suc n) h y)
      (λ same. omega arith) (λ same. omega arith) (λ same. omega arith) (λ z s3 same.
      next (At p) s3 (keep (keep (keep h (suc n) y) (suc (suc n)) (Number (pos 1))) (suc n) z) f1 w1 (record {
        value = keep-other (suc n) n (keep (keep h (suc n) y) (suc (suc n)) (Number (pos 1))) z (λ same. omega arith)
            ∙ keep-other (suc (suc n)) n (keep h (suc n) y) (Number (pos 1)) (λ same. omega arith) ∙ keep-other (suc n) n h y (λ same. omega arith) ∙ done.value ∙ ap Some is;
        grown = stepped b x ts n k m (suc n) (suc (suc n)) (suc n) g s.frame f s1 s3 h f1.locals y (Number (pos 1)) z begins (omega arith) (omega arith) (omega arith) same done.grown;
        kept = done.kept;
      })))))))))

  pub follow-behind : (b : Bool) (ch : Change) (e : Core) → is_value e ≡ true → (Follow again again' P bodies chains A B S) b e → (Follow again again' P bodies chains A B S) b (core.step true ch e)
  follow-behind b ch e ok follow into into' x n k rest g s f w c K begins next =
      let m : ℕ = k + width e in
      let ts : List Temporary = temporaries b e k in
      let writes : Place → Value → Act Value = λ p v. changed_value P.classes ch v (Number (pos 1)) >>= (λ z. write_place P.classes p z >> gives v) in
      let ends : Place → Act Value = λ p. read_place P.classes p >>= writes p in
      pull (and_then (and_then (meaning.value again P e None s w) (on used)) (on place_of)) ends c _ (pull (and_then (meaning.value again P e None s w) (on used)) place_of (λ p. ends p >>= c) _ (pull (meaning.value again P e None s w) used (λ u. place_of u >>= (λ p. ends p >>= c)) _
      (follow None None x (suc n) k _ g s f w (λ u. used u >>= (λ u. place_of u >>= (λ p. ends p >>= c))) K
      (begins-same b x ts n k m g s.frame f begins b (suc n) k m (omega arith) (omega arith) (omega arith) (omega arith) (placing e ok b k)) (λ u s1 h f1 w1 done.
      (read-first again again' P bodies chains A B S) (suc n) n u h (more (set (suc (suc n)) (plain.number (pos 1))) (more (set (suc (suc n)) (plain.changed ch n (suc (suc n)))) (more (act (plain.store (suc n) (suc (suc n)))) rest))) (λ p. ends p >>= c) K s1 f1 w1 done.value (λ p is.
      pull (read_place P.classes p s1 w1) (writes p) c _
      (looks-steps (read_place P.classes p) (looks-read_place P.classes p) (λ y. writes p y >>= c) _ s1 f1 w1 (λ y.
      (number-and-change again again' P bodies chains A B S) ch (suc n) n (suc (suc n)) (suc (suc n)) p y y (keep h n y) rest c K s1 f1 w1
      (keep-other n (suc n) h y (λ same. omega arith) ∙ done.value ∙ ap Some is) (keep-same n h y)
      (λ same. omega arith) (λ same. omega arith) (λ same. omega arith) (λ z s3 same.
      next y s3 (keep (keep (keep h n y) (suc (suc n)) (Number (pos 1))) (suc (suc n)) z) f1 w1 (record {
        value = keep-other (suc (suc n)) n (keep (keep h n y) (suc (suc n)) (Number (pos 1))) z (λ same. omega arith)
            ∙ keep-other (suc (suc n)) n (keep h n y) (Number (pos 1)) (λ same. omega arith) ∙ keep-same n h y;
        grown = stepped b x ts n k m n (suc (suc n)) (suc (suc n)) g s.frame f s1 s3 h f1.locals y (Number (pos 1)) z begins (omega arith) (omega arith) (omega arith) same
            (grown-behind x ts n (suc n) k m g g s.frame s1 h f1.locals (omega arith) (λ r lt. refl) done.grown);
        kept = done.kept;
      })))))))))
