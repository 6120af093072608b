-- Operands: an expression's parts in registers, the left one used first, and the room for their locals.
use Rattle.std.proofs.Common.{◌≡◌, inr, ℕ, suc, ◌+◌, ◌≤◌, Bool, true, List, ◌++◌, length, refl, sym, ◌∙◌, subst, arith}
use Rattle.std.specs.Prelude.{Option, Some, None}
use Rattle.cf_base.specs.World.{World, Ran, and_then}
use Rattle.cf_core.specs.Types.{Name}
use Rattle.cf_core.specs.Core.{Core, Function}
use Rattle.cf_core.specs.Nodes.{nodes}
use Rattle.cf_core.specs.Places.{Place}
use Rattle.cf_core.specs.Store.{Value}
use Rattle.cf_core.specs.Run.{State, Frame, Did, Act, ◌>>=◌, malformed, some_or, with_frame}
use Rattle.cf_core.specs.Access.{used}
use Rattle.cf_core.specs.Calls as calling
use Rattle.cf_core.specs.Calls.{Program, root, function_named, is_library, name_function, has_type, run_named, run_library, enter_found}
use Rattle.cf_core.specs.Expressions as meaning
use Rattle.cf_plain.specs.Plain.{Register, Plain, Plains, act, set, branch, nothing, more}
use Rattle.cf_plain.specs.Plain as plain
use Rattle.cf_plain.specs.Acts.{Registers}
use Rattle.cf_plain.specs.Running as running
use Rattle.cf_plain.specs.Running.{Flow, Falls, calls, keep, falling, all}
use Rattle.cf_sequence.specs.Follows.{Follows}
use Rattle.cf_sequence.specs.Built.{is_value, is_chain}
use Rattle.cf_sequence.specs.Made.{Temporary, temporaries, added, width}
use Rattle.cf_sequence.specs.Expressions.{Full, Destination, value, used as use_of}
use Rattle.cf_sequence.proofs.Following.{on, pull, push, pure-steps, Looks, looks-steps}
use Rattle.cf_sequence.proofs.Steps.{pure-used}
use Rattle.cf_sequence.proofs.Calling.{Bodies, plain_program}
use Rattle.cf_sequence.proofs.Kept.{Kept, kept-then, added-two}
use Rattle.cf_sequence.proofs.Temporaries.{Begins, begins-first, begins-second, Grown, grown-then, After, after-set}
use Rattle.cf_sequence.proofs.Placing.{placing}
use Rattle.cf_sequence.proofs.PlainSteps.{Usable, runs_on, plain_acts, set-steps, use-steps}

pub first-room : (k c : ℕ) (xs ys : List Core) → k + length (added (xs ++ ys)) ≤ c → k + length (added xs) ≤ c
first-room k c xs ys room = let e = added-two xs ys in omega arith

pub second-room : (k c : ℕ) (xs ys : List Core) → k + length (added (xs ++ ys)) ≤ c → (k + length (added xs)) + length (added ys) ≤ c
second-room k c xs ys room = let e = added-two xs ys in omega arith

module _ (again : calling.Again) (again' : running.Again) (P : Program) where
  abbrev pub H : Program
  H = plain_program again again' P

module _ (again : calling.Again) (again' : running.Again) (P : Program) (bodies : Bodies again again' P)
    (chains : (name : Name) (f : Function) → function_named P name ≡ Some f → is_chain f.type ≡ true)
    (A B : Type 0) (S : A → State → B → State → Type 0) where
  -- what comes behind an expression whose value is in register n
  abbrev pub Next : (c : Value → Act A) (K : Flow → Act B) (x : Full) (ts : List Temporary) (n k m : ℕ) (rest : Plains) (g : Registers) (e f : Frame) → Type 0
  Next c K x ts n k m rest g e f =
      (v : Value) (s : State) (h : Registers) (f' : Frame) (w : World) → After x ts n k m g e f v s h f'
      → Follows S (c v s w) (runs_on again' (H again again' P) rest h K (with_frame f' s) w)

  -- the plain statements of an expression follow it, in a branch or not
  abbrev pub Follow : Bool → Core → Type 0
  Follow b e =
      (into : Option Place) (into' : Option Destination) (x : Full) (n k : ℕ) (rest : Plains) (g : Registers) (s : State) (f : Frame) (w : World)
      (c : Value → Act A) (K : Flow → Act B)
      → Begins b x (temporaries b e k) n k (k + width e) g s.frame f → Next c K x (temporaries b e k) n k (k + width e) rest g s.frame f
      → Follows S (and_then (meaning.value again P e into s w) (on c)) (runs_on again' (H again again' P) (value P.classes x e into' n k rest) g K (with_frame f s) w)

  -- an operand and then one act on its value
  pub one-operand : (b : Bool) (e : Core) → Follow b e → (q : Value → Act Value) → ((v : Value) → Looks (q v)) → (a : Register → plain.Action)
      → ((h : Registers) (n : Register) (v : Value) → h n ≡ Some v → (G : Value → Act B) (y : Ran (Did A)) (t : State) (w : World)
      → Follows S y (and_then (q v t w) (on G)) → Follows S y (and_then (plain_acts again' (H again again' P) h (a n) t w) (on G)))
      → (x : Full) (n k : ℕ) (rest : Plains) (g : Registers) (s : State) (f : Frame) (w : World) (c : Value → Act A) (K : Flow → Act B)
      → Begins b x (temporaries b e k) n k (k + width e) g s.frame f → Next c K x (temporaries b e k) n k (k + width e) rest g s.frame f
      → Follows S (and_then (meaning.value again P e None s w) (on (λ v. q v >>= c)))
      (runs_on again' (H again again' P) (value P.classes x e None n k (more (set n (a n)) rest)) g K (with_frame f s) w)
  one-operand b e follow q looks a acts x n k rest g s f w c K begins next =
      follow None None x n k (more (set n (a n)) rest) g s f w (λ v. q v >>= c) K begins (λ v s1 h f1 w1 done.
      set-steps again' (H again again' P) n (a n) rest h K _ (with_frame f1 s1) w1
      (acts h n v done.value _ _ (with_frame f1 s1) w1
      (looks-steps (q v) (looks v) c (λ u. λ t w. runs_on again' (H again again' P) rest (keep h n u) K t w) s1 f1 w1
      (λ u. next u s1 (keep h n u) f1 w1 (after-set b x (temporaries b e k) n k (k + width e) g s.frame f s1 s1 h f1 u begins done.grown done.kept refl)))))

  -- two operands, the left one used first, and then what is done with both
  pub two-operands : (b : Bool) (a c : Core) → is_value a ≡ true → is_value c ≡ true → Follow b a → Follow b c → (D : Value → Act A) (C : Value → Value → Act A)
      → ((u : Value) (s : State) (w : World) (y : Ran (Did B)) → Follows S (and_then (meaning.value again P c None s w) (on (C u))) y → Follows S (D u s w) y)
      → (x : Full) (n k : ℕ) (rest : Plains) (g : Registers) (s : State) (f : Frame) (w : World) (K : Flow → Act B)
      → Begins b x (temporaries b a k ++ temporaries b c (k + width a)) n k (k + length (added (nodes a ++ nodes c))) g s.frame f
      → ((u v : Value) (s2 : State) (h : Registers) (f2 : Frame) (w2 : World) → Usable u → h n ≡ Some u → h (suc n) ≡ Some v
      → Grown x (temporaries b a k ++ temporaries b c (k + width a)) n k (k + length (added (nodes a ++ nodes c))) g s.frame s2 h f2.locals → Kept k f f2
      → Follows S (C u v s2 w2) (runs_on again' (H again again' P) rest h K (with_frame f2 s2) w2))
      → Follows S (and_then (meaning.value again P a None s w) (on (λ u. used u >>= D)))
      (runs_on again' (H again again' P) (value P.classes x a None n k (use_of n (value P.classes x c None (suc n) (k + width a) rest))) g K (with_frame f s) w)
  two-operands b a c ok-a ok-c follow-a follow-c D C split x n k rest g s f w K begins next =
      let l : ℕ = k + width a in
      let m : ℕ = k + length (added (nodes a ++ nodes c)) in
      let ts : List Temporary = temporaries b a k in
      let us : List Temporary = temporaries b c l in
      let many = added-two (nodes a) (nodes c) in
      let high = begins.high in
      follow-a None None x n k _ g s f w (λ u. used u >>= D) K
      (begins-first b x ts us n k m g s.frame f begins b n k l (omega arith) (omega arith) (omega arith) (omega arith) (placing a ok-a b k))
      (λ u s1 h1 f1 w1 done.
      use-steps again' (H again again' P) n u h1 done.value D (value P.classes x c None (suc n) l rest) K s1 (with_frame f1 s1) w1 (λ usable.
      split u s1 w1 _ (follow-c None None x (suc n) l rest h1 s1 f1 w1 (C u) K
      (begins-second b x ts us n k m g s.frame f begins b (suc n) l l (l + width c) s1 h1 f1 done.grown done.kept (omega arith) (omega arith) (omega arith) (omega arith) (omega arith) (placing c ok-c b l))
      (λ v s2 h2 f2 w2 done2.
      next u v s2 h2 f2 w2 usable (done2.grown.below n (omega arith) (inr (omega arith)) ∙ done.value) done2.value
      (grown-then b x ts us n k m g s.frame f begins b (suc n) l l (l + width c) s1 s2 h1 h2 f1.locals f2.locals done.grown done2.grown (omega arith) (omega arith) (omega arith) (omega arith) (omega arith)
      (placing a ok-a b k) (λ j from less. done2.kept.below j less))
      (kept-then k l f f1 f2 (omega arith) done.kept done2.kept)))))

  -- ---- what is done with the value of one operand

  pub held-one : (q : Value → Act Value) (o : Option Value) (v : Value) → o ≡ Some v → (G : Value → Act B) (y : Ran (Did A)) (t : State) (w : World)
      → Follows S y (and_then (q v t w) (on G)) → Follows S y (and_then ((some_or o malformed >>= q) t w) (on G))
  held-one q o v e G y t w h = subst (λ o. Follows S y (and_then ((some_or o malformed >>= q) t w) (on G))) (sym e) h

  pub used-one : (q : Value → Act Value) (o : Option Value) (v : Value) → o ≡ Some v → (G : Value → Act B) (y : Ran (Did A)) (t : State) (w : World)
      → Follows S y (and_then ((used v >>= q) t w) (on G)) → Follows S y (and_then (((some_or o malformed >>= used) >>= q) t w) (on G))
  used-one q o v e G y t w h = subst (λ o. Follows S y (and_then (((some_or o malformed >>= used) >>= q) t w) (on G))) (sym e) h

  -- a usable operand and another
  pub used-two : (F : Value → Value → Act Value) (o p : Option Value) (u v : Value) → o ≡ Some u → p ≡ Some v → Usable u → (G : Value → Act B) (y : Ran (Did A)) (t : State) (w : World)
      → Follows S y (and_then (used v t w) (on (λ v. F u v >>= G)))
      → Follows S y (and_then (((some_or o malformed >>= used) >>= (λ a. (some_or p malformed >>= used) >>= F a)) t w) (on G))
  used-two F o p u v eo ep usable G y t w h =
      subst (λ o. Follows S y (and_then (((some_or o malformed >>= used) >>= (λ a. (some_or p malformed >>= used) >>= F a)) t w) (on G))) (sym eo)
      (subst (λ p. Follows S y (and_then ((used u >>= (λ a. (some_or p malformed >>= used) >>= F a)) t w) (on G))) (sym ep)
      (subst (λ (act : Act Value). Follows S y (and_then ((act >>= (λ a. used v >>= F a)) t w) (on G))) (sym usable)
      (push (used v t w) (F u) G y h)))

  -- an act on two used operands
  pub two-used : (b : Bool) (a e : Core) → is_value a ≡ true → is_value e ≡ true → Follow b a → Follow b e → (F : Value → Value → Act Value) → ((u v : Value) → Looks (F u v))
      → (action : Register → Register → plain.Action)
      → ((h : Registers) (n m : Register) → plain_acts again' (H again again' P) h (action n m) ≡ ((some_or (h n) malformed >>= used) >>= (λ a. (some_or (h m) malformed >>= used) >>= F a)))
      → (x : Full) (n k : ℕ) (rest : Plains) (g : Registers) (s : State) (f : Frame) (w : World) (c : Value → Act A) (K : Flow → Act B)
      → Begins b x (temporaries b a k ++ temporaries b e (k + width a)) n k (k + length (added (nodes a ++ nodes e))) g s.frame f
      → Next c K x (temporaries b a k ++ temporaries b e (k + width a)) n k (k + length (added (nodes a ++ nodes e))) rest g s.frame f
      → Follows S (and_then ((((meaning.value again P a None >>= used) >>= (λ u. (meaning.value again P e None >>= used) >>= F u))) s w) (on c))
      (runs_on again' (H again again' P) (value P.classes x a None n k (use_of n (value P.classes x e None (suc n) (k + width a) (more (set n (action n (suc n))) rest)))) g K (with_frame f s) w)
  two-used b a e ok-a ok-e follow-a follow-e F looks action is x n k rest g s f w c K begins next =
      let ts : List Temporary = temporaries b a k ++ temporaries b e (k + width a) in
      let m : ℕ = k + length (added (nodes a ++ nodes e)) in
      pull _ (λ u. (meaning.value again P e None >>= used) >>= F u) c _
      (pull (meaning.value again P a None s w) used (λ u. ((meaning.value again P e None >>= used) >>= F u) >>= c) _
      (two-operands b a e ok-a ok-e follow-a follow-e (λ u. ((meaning.value again P e None >>= used) >>= F u) >>= c) (λ u v. used v >>= (λ v. F u v >>= c))
      (λ u s w y h. pull _ (F u) c y (pull (meaning.value again P e None s w) used (λ v. F u v >>= c) y h))
      x n k _ g s f w K begins
      (λ u v s2 h f2 w2 usable at-n at-m grown kept.
      set-steps again' (H again again' P) n (action n (suc n)) rest h K _ (with_frame f2 s2) w2
      (subst (λ (a : Act Value). Follows S (and_then (used v s2 w2) (on (λ v. F u v >>= c))) (and_then (a (with_frame f2 s2) w2) (on (λ v. λ t w. runs_on again' (H again again' P) rest (keep h n v) K t w))))
      (sym (is h n (suc n)))
      (used-two F (h n) (h (suc n)) u v at-n at-m usable _ _ (with_frame f2 s2) w2
      (pure-steps (used v) (pure-used v) (λ v. F u v >>= c) (λ v. F u v >>= (λ v. λ t w. runs_on again' (H again again' P) rest (keep h n v) K t w)) s2 (with_frame f2 s2) w2 (λ v.
      looks-steps (F u v) (looks u v) c (λ v. λ t w. runs_on again' (H again again' P) rest (keep h n v) K t w) s2 f2 w2 (λ z.
      next z s2 (keep h n z) f2 w2 (after-set b x ts n k m g s.frame f s2 s2 h f2 z begins grown kept refl)))))))))
