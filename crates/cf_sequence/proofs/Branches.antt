-- `&&`, `||` and `?:`: the plain statements of their operands in branches.
use Rattle.std.proofs.Common.{◌≡◌, ℕ, ◌+◌, Bool, true, false, List, ◌++◌, length, arith}
use Rattle.std.specs.Prelude.{Some, None}
use Rattle.cf_core.specs.Types.{Name}
use Rattle.cf_core.specs.Core as core
use Rattle.cf_core.specs.Core.{Core, Function}
use Rattle.cf_core.specs.Nodes.{nodes}
use Rattle.cf_core.specs.Store.{Value}
use Rattle.cf_core.specs.Run.{State, Frame, Act, ◌>>=◌, gives, when, with_frame}
use Rattle.cf_core.specs.Pointers.{truth_value}
use Rattle.cf_core.specs.Scalars.{truth_of}
use Rattle.cf_core.specs.Calls as calling
use Rattle.cf_core.specs.Calls.{Program, function_named}
use Rattle.cf_core.specs.Expressions as meaning
use Rattle.cf_plain.specs.Plain.{Plains, set, branch, nothing, more}
use Rattle.cf_plain.specs.Plain as plain
use Rattle.cf_plain.specs.Acts.{Registers}
use Rattle.cf_plain.specs.Running as running
use Rattle.cf_plain.specs.Running.{Flow, keep}
use Rattle.cf_sequence.specs.Built.{is_value, is_chain}
use Rattle.cf_sequence.specs.Made.{Temporary, temporaries, added, width}
use Rattle.cf_sequence.specs.Expressions.{Full, value}
use Rattle.cf_sequence.proofs.Following.{pull}
use Rattle.cf_sequence.proofs.Calling.{Bodies}
use Rattle.cf_sequence.proofs.Kept.{added-two, keep-same}
use Rattle.cf_sequence.proofs.Temporaries.{placed-branch, Begins, begins-first}
use Rattle.cf_sequence.proofs.Placing.{placing, placed-two}
use Rattle.cf_sequence.proofs.PlainSteps.{truth-steps, branch-steps}
use Rattle.cf_sequence.proofs.Operands.{H, Follow}
use Rattle.cf_sequence.proofs.Parts.{test_of, and-right, or-right, one-of}

-- the condition begins with all three
begins-condition : (b : Bool) (q a e : Core) → is_value q ≡ true → is_value a ≡ true → (x : Full) (n k : ℕ) (g : Registers) (y f : Frame)
    → Begins b x ((temporaries b q k ++ temporaries true a (k + width q)) ++ temporaries true e (k + width q + width a)) n k (k + length (added ((nodes q ++ nodes a) ++ nodes e))) g y f
    → Begins b x (temporaries b q k) n k (k + width q) g y f
begins-condition b q a e ok-q ok-a x n k g y f begins =
    let l : ℕ = k + width q in
    let few = added-two (nodes q) (nodes a) in
    let many = added-two (nodes q ++ nodes a) (nodes e) in
    let m : ℕ = k + length (added ((nodes q ++ nodes a) ++ nodes e)) in
    let p : ℕ = k + length (added (nodes q ++ nodes a)) in
    let ts : List Temporary = temporaries b q k in
    let us : List Temporary = temporaries true a l in
    let vs : List Temporary = temporaries true e (l + width a) in
    begins-first b x ts us n k p g y f
    (begins-first b x (ts ++ us) vs n k m g y f begins b n k p (omega arith) (omega arith) (omega arith) (omega arith)
    (placed-two b (nodes q) (nodes a) k ts us (placing q ok-q b k) (placed-branch b l (l + width a) us (placing a ok-a true l))))
    b n k l (omega arith) (omega arith) (omega arith) (omega arith) (placing q ok-q b k)

module _ (again : calling.Again) (again' : running.Again) (P : Program) (bodies : Bodies again again' P)
    (chains : (name : Name) (f : Function) → function_named P name ≡ Some f → is_chain f.type ≡ true)
    (A B : Type 0) (S : A → State → B → State → Type 0) where
  pub follow-and : (b : Bool) (a e : Core) → is_value a ≡ true → is_value e ≡ true → (Follow again again' P bodies chains A B S) b a → (Follow again again' P bodies chains A B S) true e
      → (Follow again again' P bodies chains A B S) b (core.logical_and a e)
  follow-and b a e ok-a ok-e follow-a follow-e into into' x n k rest g s f w c K begins next =
      let l : ℕ = k + width a in
      let m : ℕ = k + length (added (nodes a ++ nodes e)) in
      let many = added-two (nodes a) (nodes e) in
      let ts : List Temporary = temporaries b a k in
      let us : List Temporary = temporaries true e l in
      let right : Plains = value P.classes x e None n l (more (set n (plain.truth n)) nothing) in
      let then_on : Bool → Act Value = λ t. when t ((test_of again again' P bodies chains A B S) e) (gives (truth_value false)) in
      pull _ then_on c _ (pull (meaning.value again P a None s w) truth_of (λ t. then_on t >>= c) _
      (follow-a None None x n k (more (set n (plain.truth n)) (more (branch n right nothing) rest)) g s f w (λ v. truth_of v >>= (λ t. then_on t >>= c)) K
      (begins-first b x ts us n k m g s.frame f begins b n k l (omega arith) (omega arith) (omega arith) (omega arith) (placing a ok-a b k)) (λ v s1 h1 f1 w1 done.
      truth-steps again' (H again again' P) n v h1 done.value (λ t. then_on t >>= c) (more (branch n right nothing) rest) K s1 (with_frame f1 s1) w1 (λ t.
      branch-steps again' (H again again' P) t n right nothing rest (keep h1 n (truth_value t)) K _ (with_frame f1 s1) w1 (keep-same n h1 (truth_value t))
      ((and-right again again' P bodies chains A B S) t b e ok-e follow-e x ts n k l m rest g h1 s1 s.frame f f1 w1 c K begins done.grown done.kept (placing a ok-a b k) (omega arith) (omega arith) next)))))

  pub follow-or : (b : Bool) (a e : Core) → is_value a ≡ true → is_value e ≡ true → (Follow again again' P bodies chains A B S) b a → (Follow again again' P bodies chains A B S) true e
      → (Follow again again' P bodies chains A B S) b (core.logical_or a e)
  follow-or b a e ok-a ok-e follow-a follow-e into into' x n k rest g s f w c K begins next =
      let l : ℕ = k + width a in
      let m : ℕ = k + length (added (nodes a ++ nodes e)) in
      let many = added-two (nodes a) (nodes e) in
      let ts : List Temporary = temporaries b a k in
      let us : List Temporary = temporaries true e l in
      let right : Plains = value P.classes x e None n l (more (set n (plain.truth n)) nothing) in
      let then_on : Bool → Act Value = λ t. when t (gives (truth_value true)) ((test_of again again' P bodies chains A B S) e) in
      pull _ then_on c _ (pull (meaning.value again P a None s w) truth_of (λ t. then_on t >>= c) _
      (follow-a None None x n k (more (set n (plain.truth n)) (more (branch n nothing right) rest)) g s f w (λ v. truth_of v >>= (λ t. then_on t >>= c)) K
      (begins-first b x ts us n k m g s.frame f begins b n k l (omega arith) (omega arith) (omega arith) (omega arith) (placing a ok-a b k)) (λ v s1 h1 f1 w1 done.
      truth-steps again' (H again again' P) n v h1 done.value (λ t. then_on t >>= c) (more (branch n nothing right) rest) K s1 (with_frame f1 s1) w1 (λ t.
      branch-steps again' (H again again' P) t n nothing right rest (keep h1 n (truth_value t)) K _ (with_frame f1 s1) w1 (keep-same n h1 (truth_value t))
      ((or-right again again' P bodies chains A B S) t b e ok-e follow-e x ts n k l m rest g h1 s1 s.frame f f1 w1 c K begins done.grown done.kept (placing a ok-a b k) (omega arith) (omega arith) next)))))

  pub follow-conditional : (b : Bool) (q a e : Core) → is_value q ≡ true → is_value a ≡ true → is_value e ≡ true → (Follow again again' P bodies chains A B S) b q
      → (Follow again again' P bodies chains A B S) true a → (Follow again again' P bodies chains A B S) true e → (Follow again again' P bodies chains A B S) b (core.conditional q a e)
  follow-conditional b q a e ok-q ok-a ok-e follow-q follow-a follow-e into into' x n k rest g s f w c K begins next =
      let l : ℕ = k + width q in
      let p : ℕ = l + width a in
      let m : ℕ = k + length (added ((nodes q ++ nodes a) ++ nodes e)) in
      let few = added-two (nodes q) (nodes a) in
      let many = added-two (nodes q ++ nodes a) (nodes e) in
      let ts : List Temporary = temporaries b q k in
      let us : List Temporary = temporaries true a l in
      let vs : List Temporary = temporaries true e p in
      let yes : Plains = value P.classes x a None n l nothing in
      let other : Plains = value P.classes x e None n p nothing in
      let then_on : Bool → Act Value = λ t. when t (meaning.value again P a None) (meaning.value again P e None) in
      pull _ then_on c _ (pull (meaning.value again P q None s w) truth_of (λ t. then_on t >>= c) _
      (follow-q None None x n k (more (set n (plain.truth n)) (more (branch n yes other) rest)) g s f w (λ v. truth_of v >>= (λ t. then_on t >>= c)) K
      (begins-condition b q a e ok-q ok-a x n k g s.frame f begins)
      (λ v s1 h1 f1 w1 done.
      truth-steps again' (H again again' P) n v h1 done.value (λ t. then_on t >>= c) (more (branch n yes other) rest) K s1 (with_frame f1 s1) w1 (λ t.
      branch-steps again' (H again again' P) t n yes other rest (keep h1 n (truth_value t)) K _ (with_frame f1 s1) w1 (keep-same n h1 (truth_value t))
      ((one-of again again' P bodies chains A B S) t b a e ok-a ok-e follow-a follow-e x ts n k l m rest g h1 s1 s.frame f f1 w1 c K begins done.grown done.kept (placing q ok-q b k) (omega arith) (omega arith) next)))))
