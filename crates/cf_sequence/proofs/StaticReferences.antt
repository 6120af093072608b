-- A static reference: it is bound to a place, or to a static object of its own, which a constant begins (8.4.3).
use Rattle.std.proofs.Common.{◌≡◌, inl, ℕ, suc, ◌+◌, ◌≤◌, true, false, List, [], ◌∷◌, reverse, refl, sym, ◌∙◌, ap, subst, arith, if◌then◌else◌}
use Rattle.std.specs.Prelude.{Option, Some, None}
use Rattle.cf_base.specs.World.{World, and_then}
use Rattle.cf_core.specs.Types.{SourceType, Name}
use Rattle.cf_core.specs.Core as core
use Rattle.cf_core.specs.Core.{Core, Function, no_temporary, static_temporary}
use Rattle.cf_core.specs.Places.{Place}
use Rattle.cf_core.specs.Store.{Value, At}
use Rattle.cf_core.specs.Run.{State, Frame, Act, ◌>>=◌, ◌>>◌, gives, done, changed, when, with_frame}
use Rattle.cf_core.specs.Objects.{static_number, static_type, settle, settled as core_settled}
use Rattle.cf_core.specs.Calls as calling
use Rattle.cf_core.specs.Calls.{Program, root, function_named, finish_static, has_destructor}
use Rattle.cf_core.specs.Expressions as meaning
use Rattle.cf_plain.specs.Plain.{Register, Plains, act, set, more}
use Rattle.cf_plain.specs.Plain as plain
use Rattle.cf_plain.specs.Acts.{Registers}
use Rattle.cf_plain.specs.Running as running
use Rattle.cf_plain.specs.Running.{Flow, keep}
use Rattle.cf_sequence.specs.Follows.{Follows}
use Rattle.cf_sequence.specs.Built.{is_value, is_chain, is_bound}
use Rattle.cf_sequence.specs.Made.{Temporary, temporaries, width}
use Rattle.cf_sequence.specs.Expressions.{Full, flag, ended, settled, value}
use Rattle.cf_sequence.specs.Statements.{started}
use Rattle.cf_sequence.proofs.Following.{on, pull, pull-two}
use Rattle.cf_sequence.proofs.Calling.{Bodies, never}
use Rattle.cf_sequence.proofs.Kept.{Kept, Ready, keep-same, keep-other}
use Rattle.cf_sequence.proofs.PlainSteps.{runs_on, set-steps}
use Rattle.cf_sequence.proofs.Operands.{H}
use Rattle.cf_sequence.proofs.Parts.{first-steps, value-gives}
use Rattle.cf_sequence.proofs.Evaluating.{follow-value}
use Rattle.cf_sequence.proofs.Fulls.{Cleared, flags-steps, closing, closing-steps}
use Rattle.cf_sequence.proofs.Placing.{placing}
use Rattle.cf_sequence.proofs.Temporaries.{Begins, Listed, listed-same, listing}
use Rattle.cf_sequence.proofs.Moving.{no-destructor}
use Rattle.cf_sequence.proofs.Standing.{settled_full}
use Rattle.cf_sequence.proofs.StaticObjects.{place_of_number, same-place}
use Rattle.cf_sequence.proofs.Lists.{initial-steps}
use Rattle.cf_sequence.proofs.Constants.{constant-value}

-- behind the flags, and the register with the place of the object, the constant begins
begins-bound : (e : Core) → is_value e ≡ true → (g h : Registers) (y f : Frame) → Ready 0 y f → 0 + width e ≤ f.count
    → Cleared (record { first = 0; base = 1 }) (temporaries false e 0) g h
    → Begins false (record { first = 0; base = 1 }) (temporaries false e 0) (suc (1 + width e)) 0 (0 + width e) h (record y { temporaries = [] }) f
begins-bound e ok g h y f ready room cleared = record {
  ready = record { alike = record { function = ready.alike.function; this = ready.alike.this; result = ready.alike.result; depth = ready.alike.depth }; count = ready.count; wide = ready.wide; locals = ready.locals };
  room = room;
  low = omega arith;
  wide = omega arith;
  high = omega arith;
  placed = placing e ok false 0;
  unset = cleared.unset;
}

pub not-destroyed : (P : Program) → P.classes ≡ [] → (t : SourceType) → has_destructor P.classes t ≡ false
not-destroyed P none t = ap (λ cs. has_destructor cs t) none ∙ no-destructor t

module _ (again : calling.Again) (again' : running.Again) (P : Program) (bodies : Bodies again again' P)
    (chains : (name : Name) (f : Function) → function_named P name ≡ Some f → is_chain f.type ≡ true) (classless : P.classes ≡ [])
    (A B : Type 0) (S : A → State → B → State → Type 0) where
  abbrev G : Program
  G = H again again' P

  -- what comes behind the initialiser
  abbrev pub Behind : Registers → Frame → Frame → Plains → (Unit {0} → Act A) → (Flow → Act B) → Type 0
  Behind h e f rest c K =
      (t : State) (h1 : Registers) (g : Frame) (w : World) → t.frame ≡ e → Kept 0 f g → Follows S (c tt t w) (runs_on again' G rest h1 K (with_frame g t) w)

  module _ (name : Name) (e : Core) (ok : is_value e ≡ true) (T : SourceType) (p : Place) (rest : Plains) (h : Registers) (s : State) (f : Frame) (w : World) (c : Unit {0} → Act A) (K : Flow → Act B)
      (at : h 0 ≡ Some (At p)) (ready : Ready 0 s.frame f) (room : 0 + width e ≤ f.count) (next : Behind h s.frame f rest c K) where
    abbrev bound : Core
    bound = core.bind (static_temporary name) e

    abbrev s0 : State
    s0 = with_frame (record s.frame { temporaries = [] }) s

    abbrev x : Full
    x = record { first = 0; base = 1 }

    abbrev m : Register
    m = 1 + width e

    abbrev ts : List Temporary
    ts = temporaries false e 0

    abbrev after : Plains
    after = ended x (reverse ts) rest

    -- the reference is bound to the object
    abbrev last : Plains
    last = more (act (plain.first 0 m)) after

    abbrev code : Plains
    code = more (set m (plain.finish_static name)) (settled e m (suc m) last)

    abbrev ends : ℕ → Act Value
    ends q = finish_static P (static_type P name) q >> gives (At (root q))

    abbrev shuts : Unit {0} → Act A
    shuts u = closing again P s.frame.temporaries u >>= c

    abbrev closes : Value → Act A
    closes v = settle P.classes p v >>= shuts

    abbrev keeps : Place → Act Value
    keeps q = core_settled P.classes q (meaning.value again P e (Some q)) >> (finish_static P (static_type P name) q.object >> gives (At q))

    -- the object has its value, and the flags of temporaries are as they were
    behind-value : (q : ℕ) (h1 : Registers) (made : List (Option ℕ)) (t : State) (f1 : Frame) (w1 : World) → Kept 0 f f1 → h1 0 ≡ Some (At p) → h1 m ≡ Some (At (root q))
        → t.frame ≡ listing made (record s.frame { temporaries = [] }) → Listed x h1 f1.locals ts made
        → Follows S (and_then (ends q t w1) (on closes)) (runs_on again' G last h1 K (with_frame f1 t) w1)
    behind-value q h1 made t f1 w1 kept first place same listed =
        subst (λ b. Follows S (and_then ((when b (changed (λ s. record s { finished = q ∷ s.finished })) done >> gives (At (root q))) t w1) (on closes)) (runs_on again' G last h1 K (with_frame f1 t) w1))
        (sym (not-destroyed P classless (static_type P name)))
        (first-steps again again' P bodies chains A B S 0 m p (At (root q)) h1 after shuts K t f1 w1 first place (λ t1 same1.
        closing-steps again again' P bodies chains classless A B S x ts made s.frame t1 h1 f1 w1 tt c rest K (same1 ∙ same) listed (λ t2 same2 later.
        next t2 h1 f1 w1 same2 kept)))

    by-number : (n : Option ℕ) → static_number P name ≡ n → (h0 : Registers) → Cleared x ts h h0
        → Follows S (and_then (and_then (place_of_number n s0 w) (on keeps)) (on closes)) (runs_on again' G (value P.classes x e None (suc m) 0 code) h0 K (with_frame f s0) w)
    by-number None is h0 cleared = record { by = tt }
    by-number (Some q) is h0 cleared =
        let G1 : Registers → Value → Act B = λ h1. λ v. λ t w. runs_on again' G (settled e m (suc m) last) (keep h1 m v) K t w in
        pull-two (meaning.value again P e (Some (root q)) s0 w) (settle P.classes (root q)) (λ u. ends q) closes _
        (follow-value again again' P bodies chains A B S e ok false (Some (root q)) None x (suc m) 0 code h0 s0 f w (λ v. (settle P.classes (root q) v >> ends q) >>= closes) K
        (begins-bound e ok h h0 s.frame f ready room cleared) (λ v t h1 f1 w1 valued.
        let h2 : Registers = keep h1 m (At (root q)) in
        pull (settle P.classes (root q) v t w1) (λ u. ends q) closes _
        (set-steps again' G m (plain.finish_static name) (settled e m (suc m) last) h1 K _ (with_frame f1 t) w1
        (subst (λ (a : Act Place). Follows S (and_then (settle P.classes (root q) v t w1) (on (λ u. ends q >>= closes)))
        (and_then ((a >>= (λ p. finish_static G (static_type G name) p.object >> gives (At p))) (with_frame f1 t) w1) (on (G1 h1)))) (sym (same-place P name ∙ ap place_of_number is))
        (subst (λ b. Follows S (and_then (settle P.classes (root q) v t w1) (on (λ u. ends q >>= closes)))
        (and_then ((when b (changed (λ s. record s { finished = q ∷ s.finished })) done >> gives (At (root q))) (with_frame f1 t) w1) (on (G1 h1)))) (sym (not-destroyed G classless (static_type G name)))
        (subst (λ b. Follows S (and_then (settle P.classes (root q) v t w1) (on (λ u. ends q >>= closes)))
        (runs_on again' G (if b then last else more (act (plain.first m (suc m))) last) h2 K (with_frame f1 t) w1)) (sym (value-gives again again' P bodies chains A B S e ok))
        (first-steps again again' P bodies chains A B S m (suc m) (root q) v h2 last (λ u. ends q >>= closes) K t f1 w1 (keep-same m h1 (At (root q)))
        (keep-other m (suc m) h1 (At (root q)) (λ z. omega arith) ∙ valued.value) (λ t3 same.
        behind-value q h2 valued.grown.made t3 f1 w1 valued.kept
        (keep-other m 0 h1 (At (root q)) (λ z. omega arith) ∙ valued.grown.below 0 (omega arith) (inl (omega arith)) ∙ cleared.below 0 (omega arith) ∙ at)
        (keep-same m h1 (At (root q))) (same ∙ valued.grown.frame)
        (listed-same x false 0 (0 + width e) h1 h2 f1.locals f1.locals ts valued.grown.made (placing e ok false 0) (λ j low high. keep-other m (flag x j) h1 (At (root q)) (λ z. omega arith)) (λ j low high. refl)
        valued.grown.listed)))))))))

    held-steps : Follows S (and_then (settled_full again P p bound s w) (on c)) (runs_on again' G (started P.classes T bound 0 0 rest) h K (with_frame f s) w)
    held-steps =
        pull (and_then (meaning.value again P bound (Some p) s0 w) (on (settle P.classes p))) (closing again P s.frame.temporaries) c _
        (pull (meaning.value again P bound (Some p) s0 w) (settle P.classes p) shuts _
        (flags-steps again' G A B S x (value P.classes x e None (suc m) 0 code) K _ (with_frame f s0) w ts h (λ h0 cleared.
        by-number (static_number P name) refl h0 cleared)))

  pub bound-steps : (T : SourceType) (e : Core) → is_bound e ≡ true → (p : Place) (rest : Plains) (h : Registers) (s : State) (f : Frame) (w : World) (c : Unit {0} → Act A) (K : Flow → Act B)
      → h 0 ≡ Some (At p) → Ready 0 s.frame f → 0 + width e ≤ f.count → Behind h s.frame f rest c K
      → Follows S (and_then (settled_full again P p e s w) (on c)) (runs_on again' G (started P.classes T e 0 0 rest) h K (with_frame f s) w)
  bound-steps T (core.bind no_temporary e) ok p rest h s f w c K at ready room next =
      initial-steps again again' P bodies chains classless A B S T (core.bind no_temporary e) (constant-value e ok) 0 0 p rest h s f w c K at ready room
      (λ t h1 g w1 same kept below. next t h1 g w1 same kept)
  bound-steps T (core.bind (static_temporary name) e) ok p rest h s f w c K at ready room next = held-steps name e (constant-value e ok) T p rest h s f w c K at ready room next
  bound-steps T e ok p rest h s f w c K at ready room next = never ok
