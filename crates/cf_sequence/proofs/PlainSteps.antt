-- The steps of plain statements beside those of the core: acts, registers, uses and branches.
use Rattle.std.proofs.Common.{◌≡◌, ℕ, zero, suc, ◌<◌, Bool, true, false, ◌==◌, nat_lt, refl, sym, ◌∙◌, ap, subst, arith, if◌then◌else◌}
use Rattle.std.specs.Prelude.{pos, Option, Some}
use Rattle.std.proofs.lemmas.Bool.Decides.{nat_tests}
use Rattle.cf_base.specs.World.{World, Ran, and_then}
use Rattle.cf_core.specs.Types.{SourceType}
use Rattle.cf_core.specs.Places.{Place, is_reference}
use Rattle.cf_core.specs.Store.{Value, Nothing, Missing, Built, Number, At, new_object, automatic}
use Rattle.cf_core.specs.Run.{State, Frame, Did, Act, ◌>>=◌, ◌>>◌, gives, malformed, undefined, valid, some_or, upd, when as core_when, declared_object, frame_changed, with_frame, lists_local, not_alive}
use Rattle.cf_core.specs.Access.{used, place_of, read_place, bound_to, followed}
use Rattle.cf_core.specs.Pointers.{truth_value}
use Rattle.cf_core.specs.Scalars.{truth_of}
use Rattle.cf_core.specs.Objects.{local_place}
use Rattle.cf_core.specs.Calls.{Program, root}
use Rattle.cf_plain.specs.Plain.{Register, Action, Plains, act, set, branch, nothing, more}
use Rattle.cf_plain.specs.Plain as plain
use Rattle.cf_plain.specs.Acts.{Registers, acts}
use Rattle.cf_plain.specs.Running as running
use Rattle.cf_plain.specs.Running.{Flow, Falls, calls, keep, falling, all}
use Rattle.cf_sequence.specs.Follows.{Follows}
use Rattle.cf_sequence.specs.Expressions.{used as use_of}
use Rattle.cf_sequence.proofs.Following.{on, push, pure-steps, pure-step, pure-some_or, pure-undefined}
use Rattle.cf_sequence.proofs.Steps.{pure-truth_of}
use Rattle.cf_sequence.proofs.Kept.{Ready}

-- a value that may be used
abbrev pub Usable : Value → Type 0
Usable v = used v ≡ gives v

abbrev pub pick : {A : Type 0} → Bool → A → A → A
pick true a b = a
pick false a b = b

wider : (i m n : ℕ) → m < suc n → nat_lt i m ≡ true → nat_lt i n ≡ true
wider i m n le lt = grind (arith, nat_tests)

below : (i m : ℕ) → nat_lt i m ≡ true → i < m
below i m lt = grind (arith, nat_tests)

pub room-for : (i n : ℕ) → i < n → nat_lt i n ≡ true
room-for i n lt = grind (arith, nat_tests)

module _ (again : running.Again) (H : Program) where
  -- what the plain statements do, and what comes behind them
  abbrev pub runs_on : {B : Type 0} → Plains → Registers → (Flow → Act B) → State → World → Ran (Did B)
  runs_on ss g K t w = and_then (all again H ss g t w) (on K)

  abbrev pub plain_acts : Registers → Action → Act Value
  plain_acts g a = acts (calls again) H g a

module _ (again : running.Again) (H : Program) {A B : Type 0} {S : A → State → B → State → Type 0} where
  pub set-steps : (r : Register) (a : Action) (rest : Plains) (g : Registers) (K : Flow → Act B) (x : Ran (Did A)) (t : State) (w : World)
      → Follows S x (and_then (plain_acts again H g a t w) (on (λ v. λ t w. runs_on again H rest (keep g r v) K t w)))
      → Follows S x (runs_on again H (more (set r a) rest) g K t w)
  set-steps r a rest g K x t w h =
      push (and_then (plain_acts again H g a t w) (on (λ v. gives (Falls (keep g r v))))) (falling (λ h. all again H rest h)) K x
      (push (plain_acts again H g a t w) (λ v. gives (Falls (keep g r v))) (λ flow. falling (λ h. all again H rest h) flow >>= K) x h)

  pub act-steps : (a : Action) (rest : Plains) (g : Registers) (K : Flow → Act B) (x : Ran (Did A)) (t : State) (w : World)
      → Follows S x (and_then (plain_acts again H g a t w) (on (λ v. λ t w. runs_on again H rest g K t w)))
      → Follows S x (runs_on again H (more (act a) rest) g K t w)
  act-steps a rest g K x t w h =
      push (and_then (plain_acts again H g a t w) (on (λ v. gives (Falls g)))) (falling (λ h. all again H rest h)) K x
      (push (plain_acts again H g a t w) (λ v. gives (Falls g)) (λ flow. falling (λ h. all again H rest h) flow >>= K) x h)

  -- an act that looks at one register, or at two
  pub at-one : (q : Option Value → Act Value) (o : Option Value) (v : Value) → o ≡ Some v → (G : Value → Act B) (x : Ran (Did A)) (t : State) (w : World)
      → Follows S x (and_then (q (Some v) t w) (on G)) → Follows S x (and_then (q o t w) (on G))
  at-one q o v e G x t w h = subst (λ o. Follows S x (and_then (q o t w) (on G))) (sym e) h

  pub at-two : (q : Option Value → Option Value → Act Value) (o p : Option Value) (u v : Value) → o ≡ Some u → p ≡ Some v
      → (G : Value → Act B) (x : Ran (Did A)) (t : State) (w : World)
      → Follows S x (and_then (q (Some u) (Some v) t w) (on G)) → Follows S x (and_then (q o p t w) (on G))
  at-two q o p u v e f G x t w h =
      subst (λ o. Follows S x (and_then (q o p t w) (on G))) (sym e) (subst (λ p. Follows S x (and_then (q (Some u) p t w) (on G))) (sym f) h)

  -- a value that is used in the core is used in its register
  use-value : (v : Value) (C : Value → Act A) (rest : Plains) (g : Registers) (K : Flow → Act B) (s t : State) (w : World)
      → (Usable v → Follows S (C v s w) (runs_on again H rest g K t w))
      → Follows S (and_then (used v s w) (on C)) (and_then ((truth_of v >>= (λ b. gives (truth_value b))) t w) (on (λ v. λ t w. runs_on again H rest g K t w)))
  use-value Nothing C rest g K s t w next = record { by = tt }
  use-value Missing C rest g K s t w next = record { by = refl }
  use-value Built C rest g K s t w next = record { by = tt }
  use-value (Number (pos zero)) C rest g K s t w next = next refl
  use-value (Number z) C rest g K s t w next = next refl
  use-value v C rest g K s t w next = next refl

  pub use-steps : (n : Register) (v : Value) (g : Registers) → g n ≡ Some v → (C : Value → Act A) (rest : Plains) (K : Flow → Act B) (s t : State) (w : World)
      → (Usable v → Follows S (C v s w) (runs_on again H rest g K t w))
      → Follows S (and_then (used v s w) (on C)) (runs_on again H (use_of n rest) g K t w)
  use-steps n v g e C rest K s t w next =
      act-steps (plain.truth n) rest g K _ t w
      (at-one (λ o. (some_or o malformed >>= truth_of) >>= (λ b. gives (truth_value b))) (g n) v e _ _ t w (use-value v C rest g K s t w next))

  -- of a place
  pub place-cases : (v : Value) (C : Place → Act A) (s : State) (w : World) (y : Ran (Did B))
      → ((p : Place) → v ≡ At p → Follows S (C p s w) y) → Follows S (and_then (place_of v s w) (on C)) y
  place-cases (At p) C s w y next = next p refl
  place-cases v C s w y next = record { by = tt }

  -- a branch by a truth value
  branch-by : (b : Bool) (taken other : Plains) (h : Registers) (K : Flow → Act B) (x : Ran (Did A)) (t : State) (w : World)
      → Follows S x (runs_on again H (pick b taken other) h K t w)
      → Follows S x (and_then ((used (truth_value b) >>= running.is_true >>= (λ t. core_when t (all again H taken h) (all again H other h))) t w) (on K))
  branch-by true taken other h K x t w next = next
  branch-by false taken other h K x t w next = next

  pub branch-steps : (b : Bool) (n : Register) (taken other rest : Plains) (h : Registers) (K : Flow → Act B) (x : Ran (Did A)) (t : State) (w : World)
      → h n ≡ Some (truth_value b)
      → Follows S x (runs_on again H (pick b taken other) h (λ flow. falling (λ h. all again H rest h) flow >>= K) t w)
      → Follows S x (runs_on again H (more (branch n taken other) rest) h K t w)
  branch-steps b n taken other rest h K x t w e next =
      push _ (falling (λ h. all again H rest h)) K x
      (subst (λ o. Follows S x (and_then ((some_or o malformed >>= used >>= running.is_true >>= (λ t. core_when t (all again H taken h) (all again H other h))) t w)
      (on (λ flow. falling (λ h. all again H rest h) flow >>= K))))
      (sym e) (branch-by b taken other h (λ flow. falling (λ h. all again H rest h) flow >>= K) x t w next))

  -- a local of the core, which the plain program has too
  local-by : (b c : Bool) → (b ≡ true → c ≡ true) → (o p : Option ℕ) → (b ≡ true → p ≡ o) → (C : Place → Act A) (G : Place → Act B) (s t : State) (w : World)
      → ((p : Place) → Follows S (C p s w) (G p t w))
      → Follows S (and_then ((valid b >> (some_or o (undefined not_alive) >>= (λ o. gives (root o)))) s w) (on C))
      (and_then ((valid c >> (some_or p (undefined not_alive) >>= (λ o. gives (root o)))) t w) (on G))
  local-by false c wide o p same C G s t w next = record { by = tt }
  local-by true c wide o p same C G s t w next =
      subst (λ c. Follows S (and_then ((some_or o (undefined not_alive) >>= (λ o. gives (root o))) s w) (on C))
      (and_then ((valid c >> (some_or p (undefined not_alive) >>= (λ o. gives (root o)))) t w) (on G))) (sym (wide refl))
      (subst (λ p. Follows S (and_then ((some_or o (undefined not_alive) >>= (λ o. gives (root o))) s w) (on C))
      (and_then ((some_or p (undefined not_alive) >>= (λ o. gives (root o))) t w) (on G))) (sym (same refl))
      (pure-step (some_or o (undefined not_alive)) (pure-some_or o (undefined not_alive) (pure-undefined not_alive)) (λ o. gives (root o)) C G s t w (λ o. next (root o))))

  pub local-steps : (i k : ℕ) (s : State) (f : Frame) → Ready k s.frame f → (C : Place → Act A) (G : Place → Act B) (w : World)
      → ((p : Place) → Follows S (C p s w) (G p (with_frame f s) w))
      → Follows S (and_then (local_place i s w) (on C)) (and_then (local_place i (with_frame f s) w) (on G))
  local-steps i k s f r C G w next =
      local-by (nat_lt i s.frame.count) (nat_lt i f.count) (wider i s.frame.count f.count (let a = r.count in let b = r.wide in omega arith))
      (s.frame.locals i) (f.locals i) (λ e. r.locals i (below i s.frame.count e)) C G s (with_frame f s) w next

  -- a local that sequencing adds: it is there with the object that the core has just made
  pub declare-steps : (i : ℕ) (T : SourceType) (n : Register) (rest : Plains) (g : Registers) (K : Flow → Act B) (x : Ran (Did A)) (s : State) (f : Frame) (w : World)
      → i < f.count
      → Follows S x (runs_on again H rest (keep g n (At (root s.next))) K
      (with_frame (lists_local i s.next f) (record s { next = suc s.next; object = upd s.next (new_object T automatic) s.object })) w)
      → Follows S x (runs_on again H (more (set n (plain.declare i T)) rest) g K (with_frame f s) w)
  declare-steps i T n rest g K x s f w lt next =
      set-steps n (plain.declare i T) rest g K x (with_frame f s) w
      (subst (λ b. Follows S x (and_then ((valid b >> (declared_object T >>= (λ o. frame_changed (lists_local i o) >> gives o)) >>= (λ o. gives (At (root o)))) (with_frame f s) w)
      (on (λ v. λ t w. runs_on again H rest (keep g n v) K t w)))) (sym (room-for i f.count lt)) next)

  -- a value is tested, and the register holds 1 or 0
  pub truth-steps : (n : Register) (v : Value) (h : Registers) → h n ≡ Some v → (C : Bool → Act A) (rest : Plains) (K : Flow → Act B) (s t : State) (w : World)
      → ((b : Bool) → Follows S (C b s w) (runs_on again H rest (keep h n (truth_value b)) K t w))
      → Follows S (and_then (truth_of v s w) (on C)) (runs_on again H (more (set n (plain.truth n)) rest) h K t w)
  truth-steps n v h e C rest K s t w next =
      set-steps n (plain.truth n) rest h K _ t w
      (at-one (λ o. (some_or o malformed >>= truth_of) >>= (λ b. gives (truth_value b))) (h n) v e _ _ t w
      (push (truth_of v t w) (λ b. gives (truth_value b)) (λ v. λ t w. runs_on again H rest (keep h n v) K t w) _
      (pure-steps (truth_of v) (pure-truth_of v) C (λ b. λ t w. runs_on again H rest (keep h n (truth_value b)) K t w) s t w next)))

  -- a local whose object is there, which is no reference
  pub here-steps : (j o : ℕ) (n : Register) (rest : Plains) (g : Registers) (K : Flow → Act B) (x : Ran (Did A)) (t : State) (f : Frame) (w : World)
      → j < f.count → f.locals j ≡ Some o → is_reference (t.object o).type ≡ false
      → Follows S x (runs_on again H rest (keep g n (At (root o))) K (with_frame f t) w)
      → Follows S x (runs_on again H (more (set n (plain.local j)) rest) g K (with_frame f t) w)
  here-steps j o n rest g K x t f w lt there no_reference next =
      let G : Value → Act _ = λ v. λ t w. runs_on again H rest (keep g n v) K t w in
      set-steps n (plain.local j) rest g K x (with_frame f t) w
      (subst (λ b. Follows S x (and_then (((valid b >> (some_or (f.locals j) (undefined not_alive) >>= (λ o. gives (root o)))) >>= followed H.classes) (with_frame f t) w) (on G))) (sym (room-for j f.count lt))
      (subst (λ o. Follows S x (and_then (((some_or o (undefined not_alive) >>= (λ o. gives (root o))) >>= followed H.classes) (with_frame f t) w) (on G))) (sym there)
      (subst (λ b. Follows S x (and_then (core_when b (read_place H.classes (root o) >>= bound_to) (gives (At (root o))) (with_frame f t) w) (on G))) (sym no_reference) next)))

-- the type of an object that has just been made
pub new-type : (u : SourceType) (o : ℕ) (s : State) → is_reference u ≡ false → is_reference (upd o (new_object u automatic) s.object o).type ≡ false
new-type u o s no_reference =
    let same : (o == o) ≡ true = grind (arith, nat_tests) in
    ap (λ b. is_reference (if b then new_object u automatic else s.object o).type) same ∙ no_reference
