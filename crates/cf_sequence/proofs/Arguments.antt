-- Arguments and calls: the object of each parameter is there, and its argument's value comes into it; the temporaries of arguments stay behind.
use Rattle.std.proofs.Common.{◌≡◌, inr, ℕ, suc, ◌+◌, ◌≤◌, ◌<◌, Bool, true, not, List, [], ◌∷◌, ◌++◌, length, length-append, refl, sym, ◌∙◌, ap, subst, arith, if◌then◌else◌}
use Rattle.std.specs.Prelude.{Some, None}
use Rattle.cf_base.specs.World.{World, and_then}
use Rattle.cf_core.specs.Types.{SourceType, Name, parameters, result, is_class}
use Rattle.cf_core.specs.Core as core
use Rattle.cf_core.specs.Core.{Core, Cores, Function, absent}
use Rattle.cf_core.specs.Nodes.{nodes, nodes_all}
use Rattle.cf_core.specs.Store.{Value, At, Code, new_object, automatic}
use Rattle.cf_core.specs.Run.{State, Frame, Act, ◌>>=◌, gives, upd, with_frame, lists_local}
use Rattle.cf_core.specs.Access.{used}
use Rattle.cf_core.specs.Objects.{settle, result_place, run_pointer}
use Rattle.cf_core.specs.Calls as calling
use Rattle.cf_core.specs.Calls.{Program, root, function_named, name_function, run_named}
use Rattle.cf_core.specs.Expressions as meaning
use Rattle.cf_plain.specs.Plain.{Plains, act, set, more}
use Rattle.cf_plain.specs.Plain as plain
use Rattle.cf_plain.specs.Acts.{Registers}
use Rattle.cf_plain.specs.Running as running
use Rattle.cf_plain.specs.Running.{Flow, keep}
use Rattle.cf_sequence.specs.Follows.{Follows}
use Rattle.cf_sequence.specs.Built.{is_value, are_arguments, is_chain}
use Rattle.cf_sequence.specs.Made.{Temporary, temporaries, temporaries_all, added, width, numbers}
use Rattle.cf_sequence.specs.Expressions.{Full, destination, value, arguments, settled, used as use_of, result_register}
use Rattle.cf_sequence.proofs.Following.{on, pull, push}
use Rattle.cf_sequence.proofs.Calling.{Bodies}
use Rattle.cf_sequence.proofs.Actions.{name-steps}
use Rattle.cf_sequence.proofs.Kept.{Kept, kept-then, kept-less, kept-all, kept-alike, Objects, added-two, keep-same, keep-other, listed-kept, listed-there, listed-aside}
use Rattle.cf_sequence.proofs.Temporaries.{Begins, begins-first, begins-second, begins-same, begins-declared, Grown, grown-none, grown-then, grown-after, grown-state, grown-behind, grown-wider, alike-grown, after-set}
use Rattle.cf_sequence.proofs.Placing.{placing, placing-arguments}
use Rattle.cf_sequence.proofs.PlainSteps.{runs_on, act-steps, use-steps, declare-steps}
use Rattle.cf_sequence.proofs.Operands.{H, Follow}
use Rattle.cf_sequence.proofs.Parts.{first-steps, value-gives, called, pointed}

module _ (again : calling.Again) (again' : running.Again) (P : Program) (bodies : Bodies again again' P)
    (chains : (name : Name) (f : Function) → function_named P name ≡ Some f → is_chain f.type ≡ true)
    (A B : Type 0) (S : A → State → B → State → Type 0) where
  -- The plain statements of arguments follow them: the parameters' objects are the locals from i on, and the locals from there up to k are no others.
  abbrev pub FollowArguments : Bool → Cores → Type 0
  FollowArguments b es =
      (ts : List SourceType) (x : Full) (n i k : ℕ) (rest : Plains) (g : Registers) (s : State) (f : Frame) (w : World) (c : List ℕ → Act A) (K : Flow → Act B)
      → Begins b x (temporaries_all b es k) n k (k + length (added (nodes_all es))) g s.frame f → s.frame.count ≤ i → i + length ts ≤ k
      → ((os : List ℕ) (t : State) (h : Registers) (f1 : Frame) (w : World) → Objects f1.locals (numbers i ts) os → length os ≡ length ts
      → Grown x (temporaries_all b es k) n k (k + length (added (nodes_all es))) g s.frame t h f1.locals → Kept i f f1
      → ((j : ℕ) → i + length ts ≤ j → j < k → f1.locals j ≡ f.locals j) → Follows S (c os t w) (runs_on again' (H again again' P) rest h K (with_frame f1 t) w))
      → Follows S (and_then (meaning.arguments again P ts es s w) (on c)) (runs_on again' (H again again' P) (arguments P.classes x ts es n i k rest) g K (with_frame f s) w)

  pub no-arguments : (b : Bool) → FollowArguments b core.none
  no-arguments b [] x n i k rest g s f w c K begins low high next =
      next [] s g f w tt refl (grown-none x n k (k + 0) g g s.frame s f.locals (λ r lt. refl) refl) (kept-all i f) (λ j from less. refl)
  no-arguments b (t ∷ ts) x n i k rest g s f w c K begins low high next = record { by = tt }

  pub more-arguments : (b : Bool) (e : Core) (es : Cores) → is_value e ≡ true → are_arguments es ≡ true → (Follow again again' P bodies chains A B S) b e → FollowArguments b es → FollowArguments b (core.more e es)
  more-arguments b e es ok oks follow-e follow-es [] x n i k rest g s f w c K begins low high next = record { by = tt }
  more-arguments b e es ok oks follow-e follow-es (t ∷ ts) x n i k rest g s f w c K begins low high next =
      let o : ℕ = s.next in
      let s1 : State = record s { next = suc o; object = upd o (new_object t automatic) s.object } in
      let f1 : Frame = lists_local i o f in
      let l : ℕ = k + width e in
      let p : ℕ = l + length (added (nodes_all es)) in
      let m : ℕ = k + length (added (nodes e ++ nodes_all es)) in
      let many = added-two (nodes e) (nodes_all es) in
      let within : p ≤ m = omega arith in
      let vs : List Temporary = temporaries b e k in
      let us : List Temporary = temporaries_all b es l in
      let g1 : Registers = keep g n (At (root o)) in
      let others : Act (List ℕ) = meaning.arguments again P ts es >>= (λ os. gives (o ∷ os)) in
      let more-args : Plains = arguments P.classes x ts es n (suc i) l rest in
      let wide = begins.ready.wide in
      let top = begins.high in
      let begins1 : Begins b x (vs ++ us) n k m g1 s.frame f1 = begins-declared b x (vs ++ us) n n k m i o (At (root o)) g s.frame f begins low (omega arith) in
      declare-steps again' (H again again' P) i t n (value P.classes x e (destination n t) (suc n) k (settled e n (suc n) more-args)) g K _ s f w (omega arith)
      (subst (λ b. Follows S (and_then (and_then (and_then (meaning.value again P e (Some (root o)) s1 w) (on (settle P.classes (root o)))) (on (λ u. others))) (on c))
      (runs_on again' (H again again' P) (value P.classes x e (destination n t) (suc n) k (if b then more-args else more (act (plain.first n (suc n))) more-args)) g1 K (with_frame f1 s1) w))
      (sym ((value-gives again again' P bodies chains A B S) e ok))
      (pull _ (λ u. others) c _ (pull (meaning.value again P e (Some (root o)) s1 w) (settle P.classes (root o)) (λ u. others >>= c) _
      (follow-e (Some (root o)) (destination n t) x (suc n) k (more (act (plain.first n (suc n))) more-args) g1 s1 f1 w
      (λ v. settle P.classes (root o) v >>= (λ u. others >>= c)) K
      (begins-first b x vs us n k m g1 s.frame f1 begins1 b (suc n) k l (omega arith) (omega arith) (omega arith) (omega arith) (placing e ok b k)) (λ v s2 h f2 w2 done.
      let kept : Kept i f f2 = kept-then i k f f1 f2 (omega arith) (listed-kept i o f) done.kept in
      (first-steps again again' P bodies chains A B S) n (suc n) (root o) v h more-args (λ u. others >>= c) K s2 f2 w2
      (done.grown.below n (omega arith) (inr (omega arith)) ∙ keep-same n g (At (root o))) done.value (λ s3 same.
      let first : Grown x vs n k l g1 s.frame s3 h f2.locals =
      grown-behind x vs n (suc n) k l g1 g1 s.frame s3 h f2.locals (omega arith) (λ r lt. refl) (grown-state x vs (suc n) k l g1 s.frame s2 s3 h f2.locals same done.grown) in
      pull (meaning.arguments again P ts es s3 w2) (λ os. gives (o ∷ os)) c _
      (follow-es ts x n (suc i) l rest h s3 f2 w2 (λ os. c (o ∷ os)) K
      (begins-second b x vs us n k m g1 s.frame f1 begins1 b n l l p s3 h f2 first done.kept (omega arith) (omega arith) (omega arith) (omega arith) (omega arith) (placing-arguments es oks b l))
      (subst (λ (e' : Frame). e'.count ≤ suc i) (sym first.frame) (omega arith)) (omega arith)
      (λ os s4 h4 f4 w4 there many grown4 kept4 aside.
      next (o ∷ os) s4 h4 f4 w4 (kept4.below i (omega arith) ∙ done.kept.below i (omega arith) ∙ listed-there i o f, there) (ap suc many)
      (grown-behind x (vs ++ us) n n k m g g1 s.frame s4 h4 f4.locals (omega arith) (λ r lt. keep-other n r g (At (root o)) (λ same. omega arith))
      (grown-then b x vs us n k m g1 s.frame f1 begins1 b n l l p s3 s4 h h4 f2.locals f4.locals first grown4 (omega arith) (omega arith) (omega arith) (omega arith) within (placing e ok b k)
      (λ j from less. aside j (omega arith) less)))
      (kept-then i (suc i) f f2 f4 (omega arith) kept kept4)
      (λ j from less. aside j (omega arith) (omega arith) ∙ done.kept.below j less ∙ listed-aside i o j f (omega arith))))))))))

  -- ---- calls

  pub follow-call : (b : Bool) (name : Name) (t : SourceType) (args : Cores) → not (is_class (result t)) ≡ true → are_arguments args ≡ true → FollowArguments b args
      → (Follow again again' P bodies chains A B S) b (core.call name t absent args)
  follow-call b name t args plain-result ok follow into into' x n k rest g s f w c K begins next =
      let l : ℕ = k + length (parameters t) + 0 in
      let p : ℕ = l + length (added (nodes_all args)) in
      let m : ℕ = k + width (core.call name t absent args) in
      let ts : List Temporary = temporaries_all b args l in
      let many = length-append (parameters t) (added (nodes_all args)) in
      let within : p ≤ m = omega arith in
      let runs : List ℕ → Act Value = λ os. run_named again P name os None (result_place t into) in
      let calling-it : Plains = more (set n (plain.call name t None (numbers k (parameters t)) (result_register t into'))) rest in
      let behind-name : Plains = arguments P.classes x (parameters t) args n k l calling-it in
      let low = begins.ready.count in
      pull (name_function P name t s w) (λ u. meaning.arguments again P (parameters t) args >>= runs) c _
      (act-steps again' (H again again' P) (plain.function name t) behind-name g K _ (with_frame f s) w
      (push (name_function (H again again' P) name t (with_frame f s) w) (λ u. gives (Code name)) (λ v. λ t' w. runs_on again' (H again again' P) behind-name g K t' w) _
      (name-steps again again' P name t (λ u. (meaning.arguments again P (parameters t) args >>= runs) >>= c) (λ u. λ t' w. runs_on again' (H again again' P) behind-name g K t' w) s (with_frame f s) w (λ callee.
      pull (meaning.arguments again P (parameters t) args s w) runs c _
      (follow (parameters t) x n k l calling-it g s f w (λ os. runs os >>= c) K
      (begins-same b x ts n k m g s.frame f begins b n l p (omega arith) (omega arith) (omega arith) (omega arith) (placing-arguments args ok b l)) low (omega arith)
      (λ os s1 h f1 w1 there many grown kept aside.
      (called again again' P bodies chains A B S) name t callee plain-result into into' n k os rest h s1 f1 w1 c K there
      (alike-grown x ts n l p g s.frame f1 s1 h f1.locals grown (kept-alike k s.frame f f1 kept begins.ready.alike)) (λ v s2 w2 same.
      next v s2 (keep h n v) f1 w2
      (after-set b x ts n k m g s.frame f s1 s2 h f1 v begins (grown-wider x ts n k l p m g s.frame s1 h f1.locals (omega arith) within grown) kept same))))))))

  pub follow-pointer : (b : Bool) (e : Core) (t : SourceType) (args : Cores) → not (is_class (result t)) ≡ true → is_value e ≡ true → are_arguments args ≡ true → (Follow again again' P bodies chains A B S) b e → FollowArguments b args
      → (Follow again again' P bodies chains A B S) b (core.pointer_call absent e t args)
  follow-pointer b e t args plain-result ok oks follow-e follow into into' x n k rest g s f w c K begins next =
      let l : ℕ = k + length (parameters t) + 0 in
      let p : ℕ = l + width e in
      let q : ℕ = p + length (added (nodes_all args)) in
      let m : ℕ = k + width (core.pointer_call absent e t args) in
      let ts : List Temporary = temporaries b e l in
      let us : List Temporary = temporaries_all b args p in
      let two = added-two (nodes e) (nodes_all args) in
      let many = length-append (parameters t) (added (nodes e ++ nodes_all args)) in
      let within : q ≤ m = omega arith in
      let runs : Value → List ℕ → Act Value = λ v os. run_pointer again P None v os (result_place t into) in
      let passes : Value → Act Value = λ v. meaning.arguments again P (parameters t) args >>= runs v in
      let calling-it : Plains = more (set n (plain.pointer_call None n t (numbers k (parameters t)) (result_register t into'))) rest in
      let behind-it : Plains = arguments P.classes x (parameters t) args (suc n) k p calling-it in
      let low = begins.ready.count in
      let top = begins.high in
      pull (and_then (meaning.value again P e None s w) (on used)) passes c _ (pull (meaning.value again P e None s w) used (λ v. passes v >>= c) _
      (follow-e None None x n l (use_of n behind-it) g s f w (λ v. used v >>= (λ v. passes v >>= c)) K
      (begins-first b x ts us n k m g s.frame f begins b n l p (omega arith) (omega arith) (omega arith) (omega arith) (placing e ok b l)) (λ v s1 h1 f1 w1 done.
      let first : Grown x ts n k p g s.frame s1 h1 f1.locals = grown-wider x ts n k l p p g s.frame s1 h1 f1.locals (omega arith) (omega arith) done.grown in
      let kept1 : Kept k f f1 = kept-less k l f f1 (omega arith) done.kept in
      use-steps again' (H again again' P) n v h1 done.value (λ v. passes v >>= c) behind-it K s1 (with_frame f1 s1) w1 (λ usable.
      pull (meaning.arguments again P (parameters t) args s1 w1) (runs v) c _
      (follow (parameters t) x (suc n) k p calling-it h1 s1 f1 w1 (λ os. runs v os >>= c) K
      (begins-second b x ts us n k m g s.frame f begins b (suc n) p p q s1 h1 f1 first kept1 (omega arith) (omega arith) (omega arith) (omega arith) (omega arith) (placing-arguments args oks b p))
      (subst (λ (y : Frame). y.count ≤ k) (sym first.frame) low) (omega arith)
      (λ os s2 h2 f2 w2 there many grown kept aside.
      let kept-all-on : Kept k f f2 = kept-then k k f f1 f2 (omega arith) kept1 kept in
      let whole : Grown x (ts ++ us) n k m g s.frame s2 h2 f2.locals =
      grown-after b x ts us n k m g s.frame f begins b (suc n) l p p q s1 s2 h1 h2 f1.locals f2.locals done.grown grown (omega arith) (omega arith) (omega arith) (omega arith) (omega arith) within
      (placing e ok b l) (λ j from less. aside j (omega arith) less) in
      (pointed again again' P bodies chains A B S) v t plain-result into into' n k os rest h2 s2 f2 w2 c K (grown.below n (omega arith) (inr (omega arith)) ∙ done.value) usable there
      (alike-grown x (ts ++ us) n k m g s.frame f2 s2 h2 f2.locals whole (kept-alike k s.frame f f2 kept-all-on begins.ready.alike)) (λ u s3 w3 same.
      next u s3 (keep h2 n u) f2 w3 (after-set b x (ts ++ us) n k m g s.frame f s2 s3 h2 f2 u begins whole kept-all-on same))))))))
