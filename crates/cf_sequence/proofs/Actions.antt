-- What the plain statements do to objects, and calls, beside the core's.
use Rattle.std.proofs.Common.{◌≡◌, ℕ, Bool, true, false, List, [], ◌∷◌, refl, sym, ◌∙◌, ap, subst}
use Rattle.std.specs.Prelude.{ℤ, Option, Some, None}
use Rattle.cf_base.specs.Integers.{convert as converted}
use Rattle.cf_base.specs.World.{World, Went, and_then}
use Rattle.cf_core.specs.Types.{SourceType, Name, same_but_const}
use Rattle.cf_core.specs.Classes.{Class}
use Rattle.cf_core.specs.Core.{Function, Change, arithmetic, moved}
use Rattle.cf_core.specs.Places.{Place}
use Rattle.cf_core.specs.Objects.{run_pointer}
use Rattle.cf_core.specs.Store.{Value, Nothing, Missing, Number, Null, At, Code}
use Rattle.cf_core.specs.Run.{State, Frame, Gives, Act, ◌>>=◌, ◌>>◌, gives, malformed, done, some_or, need, when, with_frame, cast_from_void}
use Rattle.cf_core.specs.Access.{used, place_of, number_of, write_place}
use Rattle.cf_core.specs.Scalars.{operated, minus, moved_by, changed_value}
use Rattle.cf_core.specs.Pointers.{moved_place}
use Rattle.cf_core.specs.Calls as calling
use Rattle.cf_core.specs.Calls.{Program, root, function_named, is_library, name_function, has_type, run_named, call_library, enter_found}
use Rattle.cf_plain.specs.Plain.{Register, Plain, Plains, act, set, nothing, more}
use Rattle.cf_plain.specs.Plain as plain
use Rattle.cf_plain.specs.Program.{headers}
use Rattle.cf_plain.specs.Acts.{Registers, objects_of}
use Rattle.cf_plain.specs.Running as running
use Rattle.cf_plain.specs.Running.{Flow, calls, keep}
use Rattle.cf_sequence.specs.Follows.{Follows}
use Rattle.cf_sequence.specs.Sequenced.{sequenced}
use Rattle.cf_sequence.proofs.Following.{on, pull, pull-two, push, pure-steps, pure-then, looks-steps}
use Rattle.cf_sequence.proofs.Steps.{pure-used, pure-number_of, pure-operated, write-steps}
use Rattle.cf_sequence.proofs.Calling.{Alike, Bodies, plain_function, named-header, call-steps, found-steps}
use Rattle.cf_sequence.proofs.Pointers.{up_in, looks-up_in, element_at, moved-is}
use Rattle.cf_sequence.proofs.Kept.{Objects, keep-same, keep-other}
use Rattle.cf_sequence.proofs.PlainSteps.{Usable, runs_on, set-steps, act-steps, at-two}

abbrev store_act : List Class → Option Value → Option Value → Act Value
store_act cs o q = ((some_or o malformed >>= used) >>= place_of) >>= (λ p. (some_or q malformed >>= used) >>= (λ x. write_place cs p x >>= (λ u. gives Nothing)))

abbrev either_act : Bool → Act Value → Act Value → Act Value
either_act b x y = elim b [ true ↦ x | false ↦ y ]

module _ (again : running.Again) (H : Program) where
  -- what comes behind a new value: it is stored, and the place or another value is given
  abbrev storing : {B : Type 0} → Register → Register → Registers → Plains → (Flow → Act B) → Value → Act B
  storing place to h rest K z = λ t w. runs_on again H (more (act (plain.store place to)) rest) (keep h to z) K t w

module _ (again : running.Again) (H : Program) {A B : Type 0} {S : A → State → B → State → Type 0} where
  -- a place that is used on both sides
  pub placed-by : (u : Value) (C : Place → Act A) (G : Place → Act B) (s t : State) (w : World)
      → ((p : Place) → u ≡ At p → Follows S (C p s w) (G p t w))
      → Follows S (and_then (used u s w) (on (λ u. place_of u >>= C))) (and_then (used u t w) (on (λ u. place_of u >>= G)))
  placed-by Missing C G s t w next = record { by = refl }
  placed-by (At p) C G s t w next = next p refl
  placed-by u C G s t w next = record { by = tt }

  -- a value is stored at a place, and then the place or another value is given
  pub store-steps : (n m : Register) (p : Place) (v r : Value) (h : Registers) (rest : Plains) (c : Value → Act A) (K : Flow → Act B) (s : State) (f : Frame) (w : World)
      → h n ≡ Some (At p) → h m ≡ Some v
      → ((t : State) → t.frame ≡ s.frame → Follows S (c r t w) (runs_on again H rest h K (with_frame f t) w))
      → Follows S (and_then (used v s w) (on (λ x. (write_place H.classes p x >> gives r) >>= c))) (runs_on again H (more (act (plain.store n m)) rest) h K (with_frame f s) w)
  store-steps n m p v r h rest c K s f w at-n at-m next =
      act-steps again H (plain.store n m) rest h K _ (with_frame f s) w
      (at-two again H (store_act H.classes) (h n) (h m) (At p) v at-n at-m (λ u. λ t w. runs_on again H rest h K t w) _ (with_frame f s) w
      (push (used v (with_frame f s) w) (λ x. write_place H.classes p x >>= (λ u. gives Nothing)) (λ u. λ t w. runs_on again H rest h K t w) _
      (pure-steps (used v) (pure-used v) (λ x. (write_place H.classes p x >> gives r) >>= c) (λ x. (write_place H.classes p x >>= (λ u. gives Nothing)) >>= (λ u. λ t w. runs_on again H rest h K t w))
      s (with_frame f s) w (λ x.
      pull (write_place H.classes p x s w) (λ u. gives r) c _
      (push (write_place H.classes p x (with_frame f s) w) (λ u. gives Nothing) (λ u. λ t w. runs_on again H rest h K t w) _
      (write-steps s f w H.classes p x (λ u. c r) (λ u. λ t w. runs_on again H rest h K t w) next))))))

  new-value : (place to : Register) (p : Place) (v r : Value) (h : Registers) (rest : Plains) (c : Value → Act A) (K : Flow → Act B) (s : State) (f : Frame) (w : World)
      → Usable v → h place ≡ Some (At p) → (place ≡ to → ⊥)
      → ((z : Value) (u : State) → u.frame ≡ s.frame → Follows S (c r u w) (runs_on again H rest (keep h to z) K (with_frame f u) w))
      → Follows S (and_then ((write_place H.classes p v >> gives r) s w) (on c)) (storing again H place to h rest K v (with_frame f s) w)
  new-value place to p v r h rest c K s f w usable at-place differs next =
      subst (λ (a : Act Value). Follows S (and_then (a s w) (on (λ x. (write_place H.classes p x >> gives r) >>= c))) (storing again H place to h rest K v (with_frame f s) w)) usable
      (store-steps place to p v r (keep h to v) rest c K s f w (keep-other to place h v differs ∙ at-place) (keep-same to h v) (λ u same. next v u same))

  -- a pointer is moved
  moved-steps : (place to : Register) (p : Place) (x y r : Value) (h : Registers) (rest : Plains) (c : Value → Act A) (K : Flow → Act B) (s : State) (f : Frame) (w : World)
      → h place ≡ Some (At p) → (place ≡ to → ⊥)
      → ((z : Value) (u : State) → u.frame ≡ s.frame → Follows S (c r u w) (runs_on again H rest (keep h to z) K (with_frame f u) w))
      → Follows S (and_then ((moved_by H.classes x y >>= (λ z. write_place H.classes p z >> gives r)) s w) (on c))
      (and_then ((used x >>= (λ a. moved_by H.classes a y)) (with_frame f s) w) (on (storing again H place to h rest K)))
  moved-steps place to p (At q) (Number z) r h rest c K s f w at-place differs next =
      let stored : Value → Act Value = λ z. write_place H.classes p z >> gives r in
      let store : Value → Act B = storing again H place to h rest K in
      subst (λ x. Follows S (and_then (and_then x (on stored)) (on c)) (and_then (moved_place H.classes q z (with_frame f s) w) (on store))) (sym (moved-is H.classes q z s w))
      (subst (λ y. Follows S (and_then (and_then ((up_in H.classes q z >>= (λ i. gives (element_at q i))) s w) (on stored)) (on c)) (and_then y (on store))) (sym (moved-is H.classes q z (with_frame f s) w))
      (pull-two (up_in H.classes q z s w) (λ i. gives (element_at q i)) stored c _
      (push (up_in H.classes q z (with_frame f s) w) (λ i. gives (element_at q i)) store _
      (looks-steps (up_in H.classes q z) (looks-up_in H.classes q z) (λ i. stored (element_at q i) >>= c) (λ i. store (element_at q i)) s f w (λ i.
      new-value place to p (element_at q i) r h rest c K s f w refl at-place differs next)))))
  moved-steps place to p Null (Number z) r h rest c K s f w at-place differs next = record { by = refl }
  moved-steps place to p x (Number z) r h rest c K s f w at-place differs next = record { by = tt }
  moved-steps place to p x y r h rest c K s f w at-place differs next = record { by = tt }

  -- the new value of a scalar
  changed-steps : (ch : Change) (place to : Register) (p : Place) (x y r : Value) (h : Registers) (rest : Plains) (c : Value → Act A) (K : Flow → Act B) (s : State) (f : Frame) (w : World)
      → h place ≡ Some (At p) → (place ≡ to → ⊥)
      → ((z : Value) (u : State) → u.frame ≡ s.frame → Follows S (c r u w) (runs_on again H rest (keep h to z) K (with_frame f u) w))
      → Follows S (and_then ((changed_value H.classes ch x y >>= (λ z. write_place H.classes p z >> gives r)) s w) (on c))
      (and_then ((used x >>= (λ a. changed_value H.classes ch a y)) (with_frame f s) w) (on (storing again H place to h rest K)))
  changed-steps (arithmetic op k t) place to p (Number i) y r h rest c K s f w at-place differs next =
      let step : Act ℤ = operated op k (Number (converted k i)) y >>= number_of in
      pull-two (step s w) (λ z. gives (Number (converted t z))) (λ z. write_place H.classes p z >> gives r) c _
      (push (step (with_frame f s) w) (λ z. gives (Number (converted t z))) (storing again H place to h rest K) _
      (pure-steps step (pure-then (operated op k (Number (converted k i)) y) number_of (pure-operated op k (Number (converted k i)) y) pure-number_of)
      (λ z. (write_place H.classes p (Number (converted t z)) >> gives r) >>= c) (λ z. storing again H place to h rest K (Number (converted t z))) s (with_frame f s) w (λ z.
      new-value place to p (Number (converted t z)) r h rest c K s f w refl at-place differs next)))
  changed-steps (arithmetic op k t) place to p x y r h rest c K s f w at-place differs next = record { by = tt }
  changed-steps (moved false) place to p x y r h rest c K s f w at-place differs next = moved-steps place to p x y r h rest c K s f w at-place differs next
  changed-steps (moved true) place to p x y r h rest c K s f w at-place differs next = moved-steps place to p x (minus y) r h rest c K s f w at-place differs next

  -- a scalar is changed in place: its old value stands in one register and the right operand in another
  pub change-steps : (ch : Change) (place from by to : Register) (p : Place) (x y r : Value) (h : Registers) (rest : Plains) (c : Value → Act A) (K : Flow → Act B)
      (s : State) (f : Frame) (w : World)
      → h place ≡ Some (At p) → h from ≡ Some x → h by ≡ Some y → Usable y → (place ≡ to → ⊥)
      → ((z : Value) (u : State) → u.frame ≡ s.frame → Follows S (c r u w) (runs_on again H rest (keep h to z) K (with_frame f u) w))
      → Follows S (and_then ((changed_value H.classes ch x y >>= (λ z. write_place H.classes p z >> gives r)) s w) (on c))
      (runs_on again H (more (set to (plain.changed ch from by)) (more (act (plain.store place to)) rest)) h K (with_frame f s) w)
  change-steps ch place from by to p x y r h rest c K s f w at-place at-from at-by usable differs next =
      let G : Value → Act B = storing again H place to h rest K in
      set-steps again H to (plain.changed ch from by) (more (act (plain.store place to)) rest) h K _ (with_frame f s) w
      (at-two again H (λ o q. (some_or o malformed >>= used) >>= (λ a. (some_or q malformed >>= used) >>= (λ b. changed_value H.classes ch a b))) (h from) (h by) x y at-from at-by G _ (with_frame f s) w
      (subst (λ (a : Act Value). Follows S (and_then ((changed_value H.classes ch x y >>= (λ z. write_place H.classes p z >> gives r)) s w) (on c))
      (and_then ((used x >>= (λ v. a >>= (λ b. changed_value H.classes ch v b))) (with_frame f s) w) (on G))) (sym usable)
      (changed-steps ch place to p x y r h rest c K s f w at-place differs next)))

-- ---- calls

-- the objects of locals are there
pub objects-there : (locals : ℕ → Option ℕ) (is os : List ℕ) → Objects locals is os → (t : State) (w : World) → t.frame.locals ≡ locals
    → objects_of is t w ≡ Went (Gives os t) w
objects-there locals [] [] there t w same = refl
objects-there locals [] (o ∷ os) there t w same = absurd there
objects-there locals (i ∷ is) [] there t w same = absurd there
objects-there locals (i ∷ is) (o ∷ os) there t w same =
    ap (λ x. and_then (some_or x malformed t w) (on (λ o. objects_of is >>= (λ os. gives (o ∷ os))))) (ap (λ (l : ℕ → Option ℕ). l i) same ∙ there.0)
    ∙ ap (λ r. and_then r (on (λ os. gives (o ∷ os)))) (objects-there locals is os there.1 t w same)

-- what a name that is called stands for
pub data Callee (P : Program) (name : Name) (t : SourceType) : Type 0 where
  of_library : is_library name ≡ true → Callee P name t
  of_program : (f : Function) → is_library name ≡ false → function_named P name ≡ Some f → same_but_const f.type t ≡ true → Callee P name t

module _ (again : calling.Again) (again' : running.Again) (P : Program) where
  plain-named : (name : Name) (f : Function) → function_named P name ≡ Some f → function_named (headers (sequenced P)) name ≡ Some (plain_function again again' P f)
  plain-named name f e = named-header P.classes P.statics name P.functions (sequenced P).initialisers f e

  pub named-again : (name : Name) (t : SourceType) → Callee P name t → name_function (headers (sequenced P)) name t ≡ done
  named-again name t (of_library e) = ap (λ b. when b done (has_type (function_named (headers (sequenced P)) name) t)) e
  named-again name t (of_program f e found same) =
      ap (λ b. when b done (has_type (function_named (headers (sequenced P)) name) t)) e
      ∙ ap (λ x. has_type x t) (plain-named name f found) ∙ ap (λ b. need b cast_from_void) same

  module _ {A B : Type 0} {S : A → State → B → State → Type 0} where
    -- what the name is declared as is looked at on both sides
    by-type : (name : Name) (t : SourceType) (f : Function) → is_library name ≡ false → function_named P name ≡ Some f → (b : Bool) → same_but_const f.type t ≡ b
        → (C : Unit {0} → Act A) (G : Unit {0} → Act B) (s u : State) (w : World)
        → (Callee P name t → Follows S (C tt s w) (G tt u w))
        → Follows S (and_then (need b cast_from_void s w) (on C)) (and_then (need b cast_from_void u w) (on G))
    by-type name t f e found true same C G s u w next = next (of_program f e found same)
    by-type name t f e found false same C G s u w next = record { by = refl }

    by-found : (name : Name) (t : SourceType) → is_library name ≡ false → (x : Option Function) → function_named P name ≡ x
        → (C : Unit {0} → Act A) (G : Unit {0} → Act B) (s u : State) (w : World)
        → (Callee P name t → Follows S (C tt s w) (G tt u w))
        → Follows S (and_then (has_type x t s w) (on C)) (and_then (has_type (function_named (headers (sequenced P)) name) t u w) (on G))
    by-found name t e None found C G s u w next = record { by = tt }
    by-found name t e (Some f) found C G s u w next =
        subst (λ x. Follows S (and_then (has_type (Some f) t s w) (on C)) (and_then (has_type x t u w) (on G))) (sym (plain-named name f found))
        (by-type name t f e found (same_but_const f.type t) refl C G s u w next)

    by-library : (name : Name) (t : SourceType) (b : Bool) → is_library name ≡ b
        → (C : Unit {0} → Act A) (G : Unit {0} → Act B) (s u : State) (w : World)
        → (Callee P name t → Follows S (C tt s w) (G tt u w))
        → Follows S (and_then (when b done (has_type (function_named P name) t) s w) (on C))
        (and_then (when b done (has_type (function_named (headers (sequenced P)) name) t) u w) (on G))
    by-library name t true e C G s u w next = next (of_library e)
    by-library name t false e C G s u w next = by-found name t e (function_named P name) refl C G s u w next

    pub name-steps : (name : Name) (t : SourceType) (C : Unit {0} → Act A) (G : Unit {0} → Act B) (s u : State) (w : World)
        → (Callee P name t → Follows S (C tt s w) (G tt u w))
        → Follows S (and_then (name_function P name t s w) (on C)) (and_then (name_function (headers (sequenced P)) name t u w) (on G))
    name-steps name t C G s u w next = by-library name t (is_library name) refl C G s u w next

    -- a function is run on these objects on both sides
    by-name : (bodies : Bodies again again' P) (name : Name) (os : List ℕ) (s : State) (f : Frame) (w : World) (C : Value → Act A) (G : Value → Act B) → Alike s.frame f
        → ((v : Value) (u : State) (w : World) → u.frame ≡ s.frame → Follows S (C v u w) (G v (with_frame f u) w))
        → (x : Option Function) → function_named P name ≡ x
        → Follows S (and_then (enter_found again x os None None s w) (on C)) (and_then (enter_found (calls again') (function_named (headers (sequenced P)) name) os None None (with_frame f s) w) (on G))
    by-name bodies name os s f w C G alike next None found = record { by = tt }
    by-name bodies name os s f w C G alike next (Some h) found =
        subst (λ x. Follows S (and_then (enter_found again (Some h) os None None s w) (on C)) (and_then (enter_found (calls again') x os None None (with_frame f s) w) (on G)))
        (sym (plain-named name h found)) (found-steps again again' P bodies s f C G next name h found os alike w)

    pub run-steps : (bodies : Bodies again again' P) (name : Name) (os : List ℕ) (s : State) (f : Frame) (w : World) (C : Value → Act A) (G : Value → Act B) → Alike s.frame f
        → ((v : Value) (u : State) (w : World) → u.frame ≡ s.frame → Follows S (C v u w) (G v (with_frame f u) w))
        → Follows S (and_then (run_named again P name os None None s w) (on C)) (and_then (run_named (calls again') (headers (sequenced P)) name os None None (with_frame f s) w) (on G))
    run-steps bodies name os s f w C G alike next = by (is_library name)
      where
        by : (b : Bool) → Follows S (and_then (either_act b (call_library name os) (enter_found again (function_named P name) os None None) s w) (on C))
            (and_then (either_act b (call_library name os) (enter_found (calls again') (function_named (headers (sequenced P)) name) os None None) (with_frame f s) w) (on G))
        by true = call-steps s f C G next name os w
        by false = by-name bodies name os s f w C G alike next (function_named P name) refl

    -- and what a pointer holds
    pub pointer-steps : (bodies : Bodies again again' P) (v : Value) (os : List ℕ) (s : State) (f : Frame) (w : World) (C : Value → Act A) (G : Value → Act B) → Alike s.frame f
        → ((v : Value) (u : State) (w : World) → u.frame ≡ s.frame → Follows S (C v u w) (G v (with_frame f u) w))
        → Follows S (and_then (run_pointer again P None v os None s w) (on C)) (and_then (run_pointer (calls again') (headers (sequenced P)) None v os None (with_frame f s) w) (on G))
    pointer-steps bodies (Code name) os s f w C G alike next = run-steps bodies name os s f w C G alike next
    pointer-steps bodies Null os s f w C G alike next = record { by = refl }
    pointer-steps bodies v os s f w C G alike next = record { by = tt }
