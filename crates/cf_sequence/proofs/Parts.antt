-- `&&`, `||` and `?:` by branches, changes in place, first values, and calls behind their arguments.
use Rattle.std.proofs.Common.{◌≡◌, ℕ, ◌+◌, ◌≤◌, Bool, true, false, not, ◌&&◌, List, ◌++◌, refl, sym, ◌∙◌, ap, subst, arith, if◌then◌else◌}
use Rattle.std.specs.Prelude.{pos, Option, Some, None}
use Rattle.cf_base.proofs.Tests.{both}
use Rattle.cf_base.specs.World.{World, and_then}
use Rattle.cf_core.specs.Types.{SourceType, Name, parameters, result, is_class}
use Rattle.cf_core.specs.Core as core
use Rattle.cf_core.specs.Core.{Core, Cores, Function, none, absent, arithmetic, moved, Change}
use Rattle.cf_core.specs.Places.{Place}
use Rattle.cf_core.specs.Store.{Value, Nothing, Number, At}
use Rattle.cf_core.specs.Run.{State, Frame, Act, ◌>>=◌, ◌>>◌, gives, malformed, some_or, when, with_frame}
use Rattle.cf_core.specs.Access.{used, place_of, read_place, write_place}
use Rattle.cf_core.specs.Pointers.{truth_value}
use Rattle.cf_core.specs.Scalars.{truth_of, changed_value}
use Rattle.cf_core.specs.Objects.{settle, result_place, run_pointer}
use Rattle.cf_core.specs.Calls as calling
use Rattle.cf_core.specs.Calls.{Program, root, function_named, is_library, name_function, has_type, run_named, run_library, enter_found}
use Rattle.cf_core.specs.Expressions as meaning
use Rattle.cf_plain.specs.Plain.{Register, Plain, Plains, act, set, branch, nothing, more}
use Rattle.cf_plain.specs.Plain as plain
use Rattle.cf_plain.specs.Acts.{Registers, objects_of}
use Rattle.cf_plain.specs.Running as running
use Rattle.cf_plain.specs.Running.{Flow, Falls, calls, keep, falling, all}
use Rattle.cf_sequence.specs.Follows.{Follows}
use Rattle.cf_sequence.specs.Built.{is_value, are_arguments, is_chain}
use Rattle.cf_sequence.specs.Made.{Temporary, temporaries, width, numbers}
use Rattle.cf_sequence.specs.Expressions.{Full, Destination, value, builds, result_register}
use Rattle.cf_sequence.proofs.Following.{on, pull, push, looks-steps}
use Rattle.cf_sequence.proofs.Steps.{looks-read_place, settle-steps}
use Rattle.cf_sequence.proofs.Calling.{Alike, Bodies, never}
use Rattle.cf_sequence.proofs.Actions.{placed-by, change-steps, objects-there, Callee, named-again, run-steps, pointer-steps}
use Rattle.cf_sequence.proofs.Kept.{Kept, kept-then, Objects, keep-same, keep-other}
use Rattle.cf_sequence.proofs.Temporaries.{Placed, placed-append, placed-wider, placed-branch, Begins, begins-first, begins-second, Grown, grown-then, grown-left, grown-set, after-set}
use Rattle.cf_sequence.proofs.Placing.{placing}
use Rattle.cf_sequence.proofs.PlainSteps.{Usable, pick, runs_on, set-steps, act-steps, at-one, at-two, truth-steps}
use Rattle.cf_sequence.proofs.Operands.{H, Next, Follow}

module _ (again : calling.Again) (again' : running.Again) (P : Program) (bodies : Bodies again again' P)
    (chains : (name : Name) (f : Function) → function_named P name ≡ Some f → is_chain f.type ≡ true)
    (A B : Type 0) (S : A → State → B → State → Type 0) where
  -- ---- branches

  -- the plain statements behind a branch
  abbrev pub behind : Plains → (Flow → Act B) → Flow → Act B
  behind rest K = λ flow. falling (λ h. all again' (H again again' P) rest h) flow >>= K

  abbrev pub test_of : Core → Act Value
  test_of e = (meaning.value again P e None >>= truth_of) >>= (λ y. gives (truth_value y))

  -- the right operand of `&&` or `||`
  tested : (b : Bool) (a : Core) → is_value a ≡ true → (Follow again again' P bodies chains A B S) true a → (x : Full) (ts : List Temporary) (n k l m : ℕ) (rest : Plains) (g h : Registers) (s : State) (e f f1 : Frame) (w : World)
      (c : Value → Act A) (K : Flow → Act B)
      → Begins b x (ts ++ temporaries true a l) n k m g e f → Grown x ts n k l g e s h f1.locals → Kept k f f1 → Placed b k l ts → k ≤ l → l + width a ≤ m
      → (Next again again' P bodies chains A B S) c K x (ts ++ temporaries true a l) n k m rest g e f
      → Follows S (and_then (test_of a s w) (on c))
      (runs_on again' (H again again' P) (value P.classes x a None n l (more (set n (plain.truth n)) nothing)) h (behind rest K) (with_frame f1 s) w)
  tested b a ok follow x ts n k l m rest g h s e f f1 w c K begins grown kept placed le room next =
      let us : List Temporary = temporaries true a l in
      pull _ (λ y. gives (truth_value y)) c _ (pull (meaning.value again P a None s w) truth_of (λ y. gives (truth_value y) >>= c) _
      (follow None None x n l (more (set n (plain.truth n)) nothing) h s f1 w (λ u. truth_of u >>= (λ y. gives (truth_value y) >>= c)) (behind rest K)
      (begins-second b x ts us n k m g e f begins true n l l (l + width a) s h f1 grown kept (omega arith) le (omega arith) (omega arith) room (placing a ok true l))
      (λ u s2 h2 f2 w2 done.
      truth-steps again' (H again again' P) n u h2 done.value (λ y. gives (truth_value y) >>= c) nothing (behind rest K) s2 (with_frame f2 s2) w2 (λ y.
      next (truth_value y) s2 (keep h2 n (truth_value y)) f2 w2
      (after-set b x (ts ++ us) n k m g e f s2 s2 h2 f2 (truth_value y) begins
      (grown-then b x ts us n k m g e f begins b n l l (l + width a) s s2 h h2 f1.locals f2.locals grown done.grown (omega arith) le (omega arith) (omega arith) room placed (λ j from less. done.kept.below j less))
      (kept-then k l f f1 f2 le kept done.kept) refl)))))

  -- the truth of what was evaluated first comes into the register
  first-set : (b : Bool) (x : Full) (ts us : List Temporary) (n k l m : ℕ) (g : Registers) (e f : Frame) (s : State) (h : Registers) (locals : ℕ → Option ℕ) (v : Value)
      → Begins b x (ts ++ us) n k m g e f → Placed b k l ts → k ≤ l → l ≤ m → Grown x ts n k l g e s h locals → Grown x ts n k l g e s (keep h n v) locals
  first-set b x ts us n k l m g e f s h locals v begins placed le room grown =
      grown-set b x ts n k l n g e f s h locals v (begins-first b x ts us n k m g e f begins b n k l (omega arith) (omega arith) le room placed) (omega arith) grown

  pub and-right : (t b : Bool) (a : Core) → is_value a ≡ true → (Follow again again' P bodies chains A B S) true a → (x : Full) (ts : List Temporary) (n k l m : ℕ) (rest : Plains) (g h : Registers) (s : State) (e f f1 : Frame) (w : World)
      (c : Value → Act A) (K : Flow → Act B)
      → Begins b x (ts ++ temporaries true a l) n k m g e f → Grown x ts n k l g e s h f1.locals → Kept k f f1 → Placed b k l ts → k ≤ l → l + width a ≤ m
      → (Next again again' P bodies chains A B S) c K x (ts ++ temporaries true a l) n k m rest g e f
      → Follows S (and_then (when t (test_of a) (gives (truth_value false)) s w) (on c))
      (runs_on again' (H again again' P) (pick t (value P.classes x a None n l (more (set n (plain.truth n)) nothing)) nothing) (keep h n (truth_value t)) (behind rest K) (with_frame f1 s) w)
  and-right true b a ok follow x ts n k l m rest g h s e f f1 w c K begins grown kept placed le room next =
      tested b a ok follow x ts n k l m rest g (keep h n (truth_value true)) s e f f1 w c K begins
      (first-set b x ts (temporaries true a l) n k l m g e f s h f1.locals (truth_value true) begins placed le (omega arith) grown) kept placed le room next
  and-right false b a ok follow x ts n k l m rest g h s e f f1 w c K begins grown kept placed le room next =
      next (truth_value false) s (keep h n (truth_value false)) f1 w
      (after-set b x (ts ++ temporaries true a l) n k m g e f s s h f1 (truth_value false) begins
      (grown-left b x ts (temporaries true a l) n k m g e f begins l l (l + width a) s h f1.locals grown le (omega arith) (omega arith) room (placing a ok true l)) kept refl)

  pub or-right : (t b : Bool) (a : Core) → is_value a ≡ true → (Follow again again' P bodies chains A B S) true a → (x : Full) (ts : List Temporary) (n k l m : ℕ) (rest : Plains) (g h : Registers) (s : State) (e f f1 : Frame) (w : World)
      (c : Value → Act A) (K : Flow → Act B)
      → Begins b x (ts ++ temporaries true a l) n k m g e f → Grown x ts n k l g e s h f1.locals → Kept k f f1 → Placed b k l ts → k ≤ l → l + width a ≤ m
      → (Next again again' P bodies chains A B S) c K x (ts ++ temporaries true a l) n k m rest g e f
      → Follows S (and_then (when t (gives (truth_value true)) (test_of a) s w) (on c))
      (runs_on again' (H again again' P) (pick t nothing (value P.classes x a None n l (more (set n (plain.truth n)) nothing))) (keep h n (truth_value t)) (behind rest K) (with_frame f1 s) w)
  or-right false b a ok follow x ts n k l m rest g h s e f f1 w c K begins grown kept placed le room next =
      tested b a ok follow x ts n k l m rest g (keep h n (truth_value false)) s e f f1 w c K begins
      (first-set b x ts (temporaries true a l) n k l m g e f s h f1.locals (truth_value false) begins placed le (omega arith) grown) kept placed le room next
  or-right true b a ok follow x ts n k l m rest g h s e f f1 w c K begins grown kept placed le room next =
      next (truth_value true) s (keep h n (truth_value true)) f1 w
      (after-set b x (ts ++ temporaries true a l) n k m g e f s s h f1 (truth_value true) begins
      (grown-left b x ts (temporaries true a l) n k m g e f begins l l (l + width a) s h f1.locals grown le (omega arith) (omega arith) room (placing a ok true l)) kept refl)

  -- one of two arms
  pub one-of : (t b : Bool) (a e' : Core) → is_value a ≡ true → is_value e' ≡ true → (Follow again again' P bodies chains A B S) true a → (Follow again again' P bodies chains A B S) true e'
      → (x : Full) (ts : List Temporary) (n k l m : ℕ) (rest : Plains) (g h : Registers) (s : State) (e f f1 : Frame) (w : World) (c : Value → Act A) (K : Flow → Act B)
      → Begins b x ((ts ++ temporaries true a l) ++ temporaries true e' (l + width a)) n k m g e f → Grown x ts n k l g e s h f1.locals → Kept k f f1 → Placed b k l ts → k ≤ l
      → (l + width a) + width e' ≤ m
      → (Next again again' P bodies chains A B S) c K x ((ts ++ temporaries true a l) ++ temporaries true e' (l + width a)) n k m rest g e f
      → Follows S (and_then (when t (meaning.value again P a None) (meaning.value again P e' None) s w) (on c))
      (runs_on again' (H again again' P) (pick t (value P.classes x a None n l nothing) (value P.classes x e' None n (l + width a) nothing)) (keep h n (truth_value t)) (behind rest K) (with_frame f1 s) w)
  one-of true b a e' ok-a ok-e follow-a follow-e x ts n k l m rest g h s e f f1 w c K begins grown kept placed le room next =
      let p : ℕ = l + width a in
      let us : List Temporary = temporaries true a l in
      let vs : List Temporary = temporaries true e' p in
      let both_placed : Placed b k p (ts ++ us) =
      placed-append b k p ts us (placed-wider b k k l p ts (omega arith) (omega arith) placed) (placed-wider b k l p p us le (omega arith) (placed-branch b l p us (placing a ok-a true l))) in
      let first : Begins b x (ts ++ us) n k p g e f = begins-first b x (ts ++ us) vs n k m g e f begins b n k p (omega arith) (omega arith) (omega arith) (omega arith) both_placed in
      let here : Grown x ts n k l g e s (keep h n (truth_value true)) f1.locals = first-set b x ts us n k l p g e f s h f1.locals (truth_value true) first placed le (omega arith) grown in
      follow-a None None x n l nothing (keep h n (truth_value true)) s f1 w c (behind rest K)
      (begins-second b x ts us n k p g e f first true n l l p s (keep h n (truth_value true)) f1 here kept (omega arith) le (omega arith) (omega arith) (omega arith) (placing a ok-a true l))
      (λ v s2 h2 f2 w2 done.
      next v s2 h2 f2 w2 (record {
        value = done.value;
        grown = grown-left b x (ts ++ us) vs n k m g e f begins p p (p + width e') s2 h2 f2.locals
            (grown-then b x ts us n k p g e f first b n l l p s s2 (keep h n (truth_value true)) h2 f1.locals f2.locals here done.grown (omega arith) le (omega arith) (omega arith) (omega arith) placed
            (λ j from less. done.kept.below j less))
            (omega arith) (omega arith) (omega arith) room (placing e' ok-e true p);
        kept = kept-then k l f f1 f2 le kept done.kept;
      }))
  one-of false b a e' ok-a ok-e follow-a follow-e x ts n k l m rest g h s e f f1 w c K begins grown kept placed le room next =
      let p : ℕ = l + width a in
      let us : List Temporary = temporaries true a l in
      let vs : List Temporary = temporaries true e' p in
      let both_placed : Placed b k p (ts ++ us) =
      placed-append b k p ts us (placed-wider b k k l p ts (omega arith) (omega arith) placed) (placed-wider b k l p p us le (omega arith) (placed-branch b l p us (placing a ok-a true l))) in
      let first : Begins b x (ts ++ us) n k p g e f = begins-first b x (ts ++ us) vs n k m g e f begins b n k p (omega arith) (omega arith) (omega arith) (omega arith) both_placed in
      let here : Grown x (ts ++ us) n k p g e s (keep h n (truth_value false)) f1.locals =
      grown-left b x ts us n k p g e f first l l p s (keep h n (truth_value false)) f1.locals
      (first-set b x ts us n k l p g e f s h f1.locals (truth_value false) first placed le (omega arith) grown) le (omega arith) (omega arith) (omega arith) (placing a ok-a true l) in
      follow-e None None x n p nothing (keep h n (truth_value false)) s f1 w c (behind rest K)
      (begins-second b x (ts ++ us) vs n k m g e f begins true n p p (p + width e') s (keep h n (truth_value false)) f1 here kept (omega arith) (omega arith) (omega arith) (omega arith) room
      (placing e' ok-e true p))
      (λ v s2 h2 f2 w2 done.
      next v s2 h2 f2 w2 (record {
        value = done.value;
        grown = grown-then b x (ts ++ us) vs n k m g e f begins b n p p (p + width e') s s2 (keep h n (truth_value false)) h2 f1.locals f2.locals here done.grown (omega arith) (omega arith) (omega arith) (omega arith) room
            both_placed (λ j from less. done.kept.below j less);
        kept = kept-then k p f f1 f2 (omega arith) kept done.kept;
      }))

  -- ---- changes in place

  -- a number is set, and a scalar changed by it
  pub number-and-change : (ch : Change) (place from by to : Register) (p : Place) (x r : Value) (h : Registers) (rest : Plains) (c : Value → Act A) (K : Flow → Act B)
      (s : State) (f : Frame) (w : World)
      → h place ≡ Some (At p) → h from ≡ Some x → (place ≡ by → ⊥) → (from ≡ by → ⊥) → (place ≡ to → ⊥)
      → ((z : Value) (u : State) → u.frame ≡ s.frame → Follows S (c r u w) (runs_on again' (H again again' P) rest (keep (keep h by (Number (pos 1))) to z) K (with_frame f u) w))
      → Follows S (and_then ((changed_value P.classes ch x (Number (pos 1)) >>= (λ z. write_place P.classes p z >> gives r)) s w) (on c))
      (runs_on again' (H again again' P) (more (set by (plain.number (pos 1))) (more (set to (plain.changed ch from by)) (more (act (plain.store place to)) rest))) h K (with_frame f s) w)
  number-and-change ch place from by to p x r h rest c K s f w at-place at-from no-place no-from no-to next =
      set-steps again' (H again again' P) by (plain.number (pos 1)) (more (set to (plain.changed ch from by)) (more (act (plain.store place to)) rest)) h K _ (with_frame f s) w
      (change-steps again' (H again again' P) ch place from by to p x (Number (pos 1)) r (keep h by (Number (pos 1))) rest c K s f w
      (keep-other by place h (Number (pos 1)) no-place ∙ at-place) (keep-other by from h (Number (pos 1)) no-from ∙ at-from) (keep-same by h (Number (pos 1))) refl no-to next)

  -- the old value is read
  pub read-first : (n m : Register) (u : Value) (h : Registers) (rest : Plains) (C : Place → Act A) (K : Flow → Act B) (s : State) (f : Frame) (w : World)
      → h n ≡ Some u
      → ((p : Place) → u ≡ At p → Follows S (C p s w) (and_then (read_place P.classes p (with_frame f s) w) (on (λ x. λ t w. runs_on again' (H again again' P) rest (keep h m x) K t w))))
      → Follows S (and_then (used u s w) (on (λ u. place_of u >>= C))) (runs_on again' (H again again' P) (more (set m (plain.read n)) rest) h K (with_frame f s) w)
  read-first n m u h rest C K s f w at-n next =
      let G : Value → Act B = λ x. λ t w. runs_on again' (H again again' P) rest (keep h m x) K t w in
      set-steps again' (H again again' P) m (plain.read n) rest h K _ (with_frame f s) w
      (at-one again' (H again again' P) (λ o. ((some_or o malformed >>= used) >>= place_of) >>= read_place P.classes) (h n) u at-n G _ (with_frame f s) w
      (push (and_then (used u (with_frame f s) w) (on place_of)) (read_place P.classes) G _ (push (used u (with_frame f s) w) place_of (λ p. read_place P.classes p >>= G) _
      (placed-by again' (H again again' P) u C (λ p. read_place P.classes p >>= G) s (with_frame f s) w next))))

  -- at a place that has been used
  pub read-at : (n m : Register) (p : Place) (h : Registers) (rest : Plains) (E : Value → Act A) (K : Flow → Act B) (s : State) (f : Frame) (w : World)
      → h n ≡ Some (At p)
      → ((x : Value) → Follows S (E x s w) (runs_on again' (H again again' P) rest (keep h m x) K (with_frame f s) w))
      → Follows S (and_then (read_place P.classes p s w) (on E)) (runs_on again' (H again again' P) (more (set m (plain.read n)) rest) h K (with_frame f s) w)
  read-at n m p h rest E K s f w at-n next =
      let G : Value → Act B = λ x. λ t w. runs_on again' (H again again' P) rest (keep h m x) K t w in
      set-steps again' (H again again' P) m (plain.read n) rest h K _ (with_frame f s) w
      (at-one again' (H again again' P) (λ o. ((some_or o malformed >>= used) >>= place_of) >>= read_place P.classes) (h n) (At p) at-n G _ (with_frame f s) w
      (looks-steps (read_place P.classes p) (looks-read_place P.classes p) E G s f w next))

  -- the first value of an object
  pub first-steps : (n m : Register) (p : Place) (v : Value) (h : Registers) (rest : Plains) (C : Unit {0} → Act A) (K : Flow → Act B) (s : State) (f : Frame) (w : World)
      → h n ≡ Some (At p) → h m ≡ Some v
      → ((t : State) → t.frame ≡ s.frame → Follows S (C tt t w) (runs_on again' (H again again' P) rest h K (with_frame f t) w))
      → Follows S (and_then (settle P.classes p v s w) (on C)) (runs_on again' (H again again' P) (more (act (plain.first n m)) rest) h K (with_frame f s) w)
  first-steps n m p v h rest C K s f w at-n at-m next =
      let G : Value → Act B = λ u. λ t w. runs_on again' (H again again' P) rest h K t w in
      act-steps again' (H again again' P) (plain.first n m) rest h K _ (with_frame f s) w
      (at-two again' (H again again' P) (λ o q. ((some_or o malformed >>= used) >>= place_of) >>= (λ p. some_or q malformed >>= (λ x. settle P.classes p x >>= (λ u. gives Nothing))))
      (h n) (h m) (At p) v at-n at-m G _ (with_frame f s) w
      (push (settle P.classes p v (with_frame f s) w) (λ u. gives Nothing) G _
      (settle-steps s f w P.classes p v C (λ u. G Nothing) next)))

  pub no-class : (b : Bool) → not b ≡ true → b ≡ false
  no-class true e = sym e
  no-class false e = refl

  pub value-gives : (e : Core) → is_value e ≡ true → builds e ≡ false
  value-gives core.blank ok = never ok
  value-gives core.zeros ok = never ok
  value-gives (core.string bytes) ok = never ok
  value-gives (core.build name t args) ok = never ok
  value-gives (core.copy t e args) ok = never ok
  value-gives (core.each e) ok = never ok
  value-gives (core.list es e) ok = never ok
  value-gives (core.virtual_call name t e args) ok = never ok
  value-gives (core.pointer_call absent e t args) ok = no-class (is_class (result t)) (both (not (is_class (result t))) (is_chain t && (is_value e && are_arguments args)) ok).0
  value-gives (core.pointer_call (core.given o) e t args) ok = never ok
  value-gives (core.call name t absent args) ok = no-class (is_class (result t)) (both (not (is_class (result t))) (is_chain t && are_arguments args) ok).0
  value-gives (core.call name t (core.given e) args) ok = never ok
  value-gives e ok = refl

  pub result-nowhere : (t : SourceType) → is_class (result t) ≡ false → (into : Option Place) → result_place t into ≡ None
  result-nowhere t e into = ap (λ b. if b then into else None) e

  pub register-nowhere : (t : SourceType) → is_class (result t) ≡ false → (into : Option Destination) → result_register t into ≡ None
  register-nowhere t e None = refl
  register-nowhere t e (Some d) = ap (λ b. if b then Some d.register else None) e

  -- a call, behind its arguments
  pub called : (name : Name) (t : SourceType) → Callee P name t → not (is_class (result t)) ≡ true
      → (into : Option Place) (into' : Option Destination) (n k : ℕ) (os : List ℕ) (rest : Plains) (h : Registers) (s : State) (f : Frame) (w : World) (c : Value → Act A) (K : Flow → Act B)
      → Objects f.locals (numbers k (parameters t)) os → Alike s.frame f
      → ((v : Value) (u : State) (w : World) → u.frame ≡ s.frame → Follows S (c v u w) (runs_on again' (H again again' P) rest (keep h n v) K (with_frame f u) w))
      → Follows S (and_then (run_named again P name os None (result_place t into) s w) (on c))
      (runs_on again' (H again again' P) (more (set n (plain.call name t None (numbers k (parameters t)) (result_register t into'))) rest) h K (with_frame f s) w)
  called name t callee plain-result into into' n k os rest h s f w c K there alike next =
      let G : Value → Act B = λ v. λ t w. runs_on again' (H again again' P) rest (keep h n v) K t w in
      let no = no-class (is_class (result t)) plain-result in
      let runs : Option Place → Act Value = λ at. run_named (calls again') (H again again' P) name os None at in
      subst (λ r. Follows S (and_then (run_named again P name os None r s w) (on c))
      (runs_on again' (H again again' P) (more (set n (plain.call name t None (numbers k (parameters t)) (result_register t into'))) rest) h K (with_frame f s) w)) (sym (result-nowhere t no into))
      (subst (λ r. Follows S (and_then (run_named again P name os None None s w) (on c))
      (runs_on again' (H again again' P) (more (set n (plain.call name t None (numbers k (parameters t)) r)) rest) h K (with_frame f s) w)) (sym (register-nowhere t no into'))
      (set-steps again' (H again again' P) n (plain.call name t None (numbers k (parameters t)) None) rest h K _ (with_frame f s) w
      (subst (λ (a : Act (Unit {0})). Follows S (and_then (run_named again P name os None None s w) (on c))
      (and_then ((a >> (objects_of (numbers k (parameters t)) >>= (λ os. run_named (calls again') (H again again' P) name os None None))) (with_frame f s) w) (on G)))
      (sym (named-again again again' P name t callee))
      (subst (λ r. Follows S (and_then (run_named again P name os None None s w) (on c)) (and_then (and_then r (on (λ os. run_named (calls again') (H again again' P) name os None None))) (on G)))
      (sym (objects-there f.locals (numbers k (parameters t)) os there (with_frame f s) w refl))
      (run-steps again again' P bodies name os s f w c G alike next)))))

  -- and one through a pointer
  pub pointed : (v : Value) (t : SourceType) → not (is_class (result t)) ≡ true
      → (into : Option Place) (into' : Option Destination) (n k : ℕ) (os : List ℕ) (rest : Plains) (h : Registers) (s : State) (f : Frame) (w : World) (c : Value → Act A) (K : Flow → Act B)
      → h n ≡ Some v → Usable v → Objects f.locals (numbers k (parameters t)) os → Alike s.frame f
      → ((v : Value) (u : State) (w : World) → u.frame ≡ s.frame → Follows S (c v u w) (runs_on again' (H again again' P) rest (keep h n v) K (with_frame f u) w))
      → Follows S (and_then (run_pointer again P None v os (result_place t into) s w) (on c))
      (runs_on again' (H again again' P) (more (set n (plain.pointer_call None n t (numbers k (parameters t)) (result_register t into'))) rest) h K (with_frame f s) w)
  pointed v t plain-result into into' n k os rest h s f w c K at usable there alike next =
      let G : Value → Act B = λ v. λ t w. runs_on again' (H again again' P) rest (keep h n v) K t w in
      let no = no-class (is_class (result t)) plain-result in
      let runs : Value → List ℕ → Act Value = λ v os. run_pointer (calls again') (H again again' P) None v os None in
      subst (λ r. Follows S (and_then (run_pointer again P None v os r s w) (on c))
      (runs_on again' (H again again' P) (more (set n (plain.pointer_call None n t (numbers k (parameters t)) (result_register t into'))) rest) h K (with_frame f s) w)) (sym (result-nowhere t no into))
      (subst (λ r. Follows S (and_then (run_pointer again P None v os None s w) (on c))
      (runs_on again' (H again again' P) (more (set n (plain.pointer_call None n t (numbers k (parameters t)) r)) rest) h K (with_frame f s) w)) (sym (register-nowhere t no into'))
      (set-steps again' (H again again' P) n (plain.pointer_call None n t (numbers k (parameters t)) None) rest h K _ (with_frame f s) w
      (subst (λ o. Follows S (and_then (run_pointer again P None v os None s w) (on c))
      (and_then (((some_or o malformed >>= used) >>= (λ v. objects_of (numbers k (parameters t)) >>= (λ os. runs v os))) (with_frame f s) w) (on G))) (sym at)
      (subst (λ (a : Act Value). Follows S (and_then (run_pointer again P None v os None s w) (on c))
      (and_then ((a >>= (λ v. objects_of (numbers k (parameters t)) >>= (λ os. runs v os))) (with_frame f s) w) (on G))) (sym usable)
      (subst (λ r. Follows S (and_then (run_pointer again P None v os None s w) (on c)) (and_then (and_then r (on (λ os. runs v os))) (on G)))
      (sym (objects-there f.locals (numbers k (parameters t)) os there (with_frame f s) w refl))
      (pointer-steps again again' P bodies v os s f w c G alike next))))))
