-- Static objects with constant initialisers: the plain program sets them as the program does.
use Rattle.std.proofs.Common.{◌≡◌, ℕ, ◌+◌, ◌≤◌, ◌<◌, Bool, true, false, nat_lt, cond, List, [], ◌∷◌, map, length, refl, sym, ◌∙◌, ap, subst, arith, slice_get}
use Rattle.std.specs.Prelude.{Option, Some, None}
use Rattle.std.specs.List.{list_all}
use Rattle.std.proofs.lemmas.Bool.Decides.{nat_tests}
use Rattle.cf_base.proofs.Tests.{both}
use Rattle.cf_base.specs.World.{World, Ran, and_then}
use Rattle.cf_core.specs.Types.{SourceType, Name, same_but_const}
use Rattle.cf_core.specs.Classes.{Class}
use Rattle.cf_core.specs.Core.{Core, Function, Static}
use Rattle.cf_core.specs.Places.{Place, is_reference}
use Rattle.cf_core.specs.Store.{Value, At}
use Rattle.cf_core.specs.Run.{State, Frame, Did, Act, ◌>>=◌, ◌>>◌, gives, done, changed, need, when, for_all, with_frame, frame_changed, cast_from_void}
use Rattle.cf_core.specs.Access.{followed, read_place, bound_to}
use Rattle.cf_core.specs.Objects.{static_number, static_type}
use Rattle.cf_core.specs.Calls as calling
use Rattle.cf_core.specs.Calls.{Program, Setting, root, function_named, finish_static}
use Rattle.cf_core.specs.Program.{set_constant, first_state, static_object_of}
use Rattle.cf_core.specs.Statements.{initialises}
use Rattle.cf_plain.specs.Plain.{Plains, act, set, nothing, more}
use Rattle.cf_plain.specs.Plain as plain
use Rattle.cf_plain.specs.Acts.{Registers, no_registers}
use Rattle.cf_plain.specs.Program as plain_program
use Rattle.cf_plain.specs.Program.{PlainSetting}
use Rattle.cf_plain.specs.Running as running
use Rattle.cf_plain.specs.Running.{Flow, keep, all}
use Rattle.cf_sequence.specs.Follows.{Follows}
use Rattle.cf_sequence.specs.Built.{is_chain, is_initial, is_list, is_built_setting}
use Rattle.cf_sequence.specs.Made.{width}
use Rattle.cf_sequence.specs.Statements.{type_of_static, reached, started, initialised}
use Rattle.cf_sequence.proofs.Following.{on, pull, push, follows-then}
use Rattle.cf_sequence.proofs.SameTypes.{same-itself}
use Rattle.cf_sequence.proofs.StaticObjects.{object_at, same-named, place_of_number, same-place, static-type-is, before, found-type-first, length-is}
use Rattle.cf_sequence.proofs.Calling.{Bodies, or-else}
use Rattle.cf_sequence.proofs.Kept.{Kept, Ready, ready-kept, keep-same}
use Rattle.cf_sequence.proofs.PlainSteps.{runs_on, set-steps, act-steps}
use Rattle.cf_sequence.proofs.Operands.{H}
use Rattle.cf_sequence.proofs.Standing.{settled_full}
use Rattle.cf_sequence.proofs.Lasting.{Keeps, keeps-next, Lasting}
use Rattle.cf_sequence.proofs.LastingCode.{Rests, settled-keeps}
use Rattle.cf_sequence.proofs.LastingStatics.{set-lasts, finish-lasts}
use Rattle.cf_sequence.proofs.Lists.{Intact, still-intact, known, alone, initial-steps}
use Rattle.cf_sequence.proofs.Elements.{nested-steps}
use Rattle.cf_sequence.proofs.StaticReferences.{not-destroyed, bound-steps}
use Rattle.cf_sequence.proofs.Constants.{constant-element, set-width, by-set, bound-binds, element-binds}

-- ---- the objects of static storage

-- the object of a name, by its number: it stands, with the type of the name
abbrev pub Stood : State → SourceType → Option ℕ → Type 0
Stood s t None = Unit {0}
Stood s t (Some o) = Intact t o s

no-life : (cs : List Class) (x : Option Static) → (static_object_of cs x).life ≡ (λ π. None)
no-life cs None = refl
no-life cs (Some x) = refl

not-gone : (cs : List Class) (x : Option Static) → (static_object_of cs x).is_gone ≡ false
not-gone cs None = refl
not-gone cs (Some x) = refl

less : (m n : ℕ) → nat_lt m n ≡ true → m < n
less m n lt = grind (arith, nat_tests)

pub first-stood : (P : Program) (depth : ℕ) (name : Name) → Stood (first_state P depth) (type_of_static P.statics name) (static_number P name)
first-stood P depth name = by-bound (nat_lt n (length P.statics)) refl
  where
    n : ℕ
    n = before P.classes name P.statics

    by-bound : (b : Bool) → nat_lt n (length P.statics) ≡ b → Stood (first_state P depth) (type_of_static P.statics name) (cond b (Some n) None)
    by-bound false lt = tt
    by-bound true lt = record {
      below = subst (λ k. n < k) (sym (length-is P.statics)) (less n (length P.statics) lt);
      type = found-type-first P.classes name P.statics lt;
      life = no-life P.classes (slice_get P.statics n);
      stands = not-gone P.classes (slice_get P.statics n);
    }

-- ---- what lasts of them while one of them is set

module _ (again : calling.Again) (P : Program) (classless : P.classes ≡ []) (rests : Rests again P) (s0 : State)
    (stood : (name : Name) → Stood s0 (type_of_static P.statics name) (static_number P name)) where
  abbrev L : State → Type 0
  L = Lasting s0.next s0.object []

  still-stood : (t : SourceType) (n : Option ℕ) → Stood s0 t n → (s : State) → L s → Stood s t n
  still-stood t None st s q = tt
  still-stood t (Some o) st s q = still-intact t o s0 s [] st q

  changes : (f : State → State) → ((s : State) → L s → L (f s)) → Keeps L (changed f)
  changes f k = record { by = λ s w q. k s q }

  setting-lasts : (x : Setting) → is_built_setting P.statics x ≡ true → Keeps L (set_constant again P x)
  setting-lasts x ok =
      keeps-next L (frame_changed (λ g. record g { function = x.function })) (initialises again P x.object x.start)
      (changes _ (λ s q. record { next = q.next; objects = q.objects; temporaries = q.temporaries; scope = q.scope })) (by (static_number P x.object) (stood x.object))
    where
      t : SourceType
      t = type_of_static P.statics x.object

      reaches : State → State
      reaches s = record s { reached = x.object ∷ s.reached }

      sets : Place → Act (Unit {0})
      sets p = changed reaches >> (settled_full again P p x.start >> finish_static P (static_type P x.object) p.object)

      by : (n : Option ℕ) → Stood s0 t n → Keeps L (place_of_number n >>= sets)
      by None st = record { by = λ s w q. tt }
      by (Some o) st =
          keeps-next L (changed reaches) _ (changes reaches (λ s q. record { next = q.next; objects = q.objects; temporaries = q.temporaries; scope = q.scope }))
          (keeps-next L (settled_full again P (root o) x.start) _
          (settled-keeps again P classless rests s0.next s0.object [] x.start (root o)
          (set-lasts again P classless rests s0.next s0.object [] t x.start ok (root o) (record { old = st.below; type = st.type })))
          (finish-lasts again P classless rests s0.next s0.object [] (static_type P x.object) o))

-- ---- both runs

module _ (P : Program) where
  abbrev pub setting_of : Setting → PlainSetting
  setting_of x = record { function = x.function; start = initialised P.classes (type_of_static P.statics x.object) x.object x.start 0 nothing }

module _ (again : calling.Again) (again' : running.Again) (P : Program) (bodies : Bodies again again' P)
    (chains : (name : Name) (f : Function) → function_named P name ≡ Some f → is_chain f.type ≡ true) (classless : P.classes ≡ []) (rests : Rests again P) where
  abbrev Hp : Program
  Hp = H again again' P

  module _ (A B : Type 0) (S : A → State → B → State → Type 0) (x : Setting) (ok : is_built_setting P.statics x ≡ true) (c : Unit {0} → Act A) (K : Unit {0} → Act B) where
    abbrev Next : Type 0
    Next = (t : State) (g : Frame) (w : World) → Ready 0 t.frame g → t.frame.temporaries ≡ [] → Follows S (c tt t w) (K tt (with_frame g t) w)

    abbrev name : Name
    name = x.object

    abbrev e : Core
    e = x.start

    abbrev T : SourceType
    T = type_of_static P.statics name

    -- what comes behind the initialiser
    abbrev finishing : ℕ → Act (Unit {0})
    finishing o = finish_static P (static_type P name) o

    abbrev behind : Plains
    behind = more (act (plain.finish_static name)) nothing

    abbrev K1 : Flow → Act B
    K1 = λ flow. K tt

    module _ (next : Next) where
      ends : (o : ℕ) → static_number P name ≡ Some o → (h : Registers) (t : State) (g : Frame) (w : World) → Ready 0 t.frame g → t.frame.temporaries ≡ []
          → Follows S ((finishing o >>= c) t w) (runs_on again' Hp behind h K1 (with_frame g t) w)
      ends o is h t g w ready empty =
          let G : Value → Act B = λ v. λ t w. runs_on again' Hp nothing h K1 t w in
          let records : State → State = λ s. record s { finished = o ∷ s.finished } in
          subst (λ b. Follows S (and_then (when b (changed records) done t w) (on c)) (runs_on again' Hp behind h K1 (with_frame g t) w)) (sym (not-destroyed P classless (static_type P name)))
          (act-steps again' Hp (plain.finish_static name) nothing h K1 _ (with_frame g t) w
          (subst (λ (a : Act Place). Follows S (c tt t w) (and_then ((a >>= (λ p. finish_static Hp (static_type Hp name) p.object >> gives (At p))) (with_frame g t) w) (on G)))
          (sym (same-place P name ∙ ap place_of_number is))
          (subst (λ b. Follows S (c tt t w) (and_then ((when b (changed records) done >> gives (At (root o))) (with_frame g t) w) (on G))) (sym (not-destroyed Hp classless (static_type Hp name)))
          (next t g w ready empty))))

      -- the initialiser itself, in a state where control has reached it
      starts : (o : ℕ) → static_number P name ≡ Some o → (s : State) (f : Frame) (w : World) → Ready 0 s.frame f → s.frame.temporaries ≡ [] → Intact T o s
          → Follows S (and_then (settled_full again P (root o) e s w) (on (λ u. finishing o >>= c)))
          (runs_on again' Hp (started P.classes T e 0 0 behind) (keep no_registers 0 (At (root o))) K1 (with_frame f s) w)
      starts o is s f w ready empty stands =
          let h1 : Registers = keep no_registers 0 (At (root o)) in
          let C : Unit {0} → Act A = λ u. finishing o >>= c in
          let room : 0 + width e ≤ f.count = (let z = set-width T e ok in omega arith) in
          let then_on : (t : State) (h : Registers) (g : Frame) (w1 : World) → t.frame ≡ s.frame → Kept 0 f g → Follows S (C tt t w1) (runs_on again' Hp behind h K1 (with_frame g t) w1) =
          λ t h g w1 same kept.
          ends o is h t g w1 (subst (λ fr. Ready 0 fr g) (sym same) (ready-kept 0 s.frame f g ready kept)) (ap (λ (fr : Frame). fr.temporaries) same ∙ empty) in
          by-set T e ok
          (λ bound. bound-steps again again' P bodies chains classless A B S T e bound (root o) behind h1 s f w C K1 (keep-same 0 no_registers (At (root o))) ready room then_on)
          (λ other constant.
          or-else (is_initial e) (is_list T e) (constant-element T e constant)
          (λ initial.
          initial-steps again again' P bodies chains classless A B S T e initial 0 0 (root o) behind h1 s f w C K1 (keep-same 0 no_registers (At (root o))) ready room
          (λ t h g w1 same kept below. then_on t h g w1 same kept))
          (λ listed.
          nested-steps again again' P bodies chains classless rests A B S T e listed T 0 0 (root o) behind h1 s f w C K1 (keep-same 0 no_registers (At (root o))) ready room stands
          (record { type = refl; inside = refl }) (λ t h g w1 same kept below left. then_on t h g w1 same kept)))

      -- control reaches the object
      abbrev reaches : State → State
      reaches s = record s { reached = name ∷ s.reached }

      abbrev core_from : Option ℕ → Act (Unit {0})
      core_from n = place_of_number n >>= (λ p. changed reaches >> (settled_full again P p e >> finishing p.object))

      abbrev rest : Plains
      rest = started P.classes T e 0 0 behind

      fits : same_but_const (static_type P name) T ≡ true
      fits = ap (same_but_const (static_type P name)) (sym (static-type-is P name)) ∙ same-itself (static_type P name)

      -- its place is in register 0
      placed : (o : ℕ) → static_number P name ≡ Some o → (s : State) (f : Frame) (w : World) → Ready 0 s.frame f → s.frame.temporaries ≡ [] → Intact T o s
          → Follows S (and_then (core_from (Some o) s w) (on c)) (runs_on again' Hp rest (keep no_registers 0 (At (root o))) K1 (with_frame f (reaches s)) w)
      placed o is s f w ready empty stood =
          pull (settled_full again P (root o) e (reaches s) w) (λ u. finishing o) c _
          (starts o is (reaches s) f w ready empty (record { below = stood.below; type = stood.type; life = stood.life; stands = stood.stands }))

      -- a reference's own place
      of-reference : (o : ℕ) → static_number P name ≡ Some o → (s : State) (f : Frame) (w : World) → Ready 0 s.frame f → s.frame.temporaries ≡ [] → Intact T o s
          → Follows S (and_then (core_from (Some o) s w) (on c)) (runs_on again' Hp (reached true T name rest) no_registers K1 (with_frame f s) w)
      of-reference o is s f w ready empty stood =
          let X : Ran (Did A) = and_then (core_from (Some o) s w) (on c) in
          let G1 : Value → Act B = λ v. λ t w. runs_on again' Hp rest (keep no_registers 0 v) K1 t w in
          set-steps again' Hp 0 (plain.reach name) rest no_registers K1 X (with_frame f s) w
          (subst (λ (a : Act Place). Follows S X (and_then ((a >>= (λ p. changed reaches >> gives (At p))) (with_frame f s) w) (on G1))) (sym (same-place P name ∙ ap place_of_number is))
          (placed o is s f w ready empty stood))

      of-object : (o : ℕ) → static_number P name ≡ Some o → (s : State) (f : Frame) (w : World) → Ready 0 s.frame f → s.frame.temporaries ≡ [] → Intact T o s → is_reference T ≡ false
          → Follows S (and_then (core_from (Some o) s w) (on c)) (runs_on again' Hp (reached false T name rest) no_registers K1 (with_frame f s) w)
      of-object o is s f w ready empty stood other =
          let X : Ran (Did A) = and_then (core_from (Some o) s w) (on c) in
          let s2 : State = reaches s in
          let G1 : Value → Act B = λ v. λ t w. runs_on again' Hp (more (set 0 (plain.static_object name T)) rest) no_registers K1 t w in
          let G2 : Value → Act B = λ v. λ t w. runs_on again' Hp rest (keep no_registers 0 v) K1 t w in
          let no : is_reference (s.object o).type ≡ false = ap is_reference stood.type ∙ other in
          act-steps again' Hp (plain.reach name) (more (set 0 (plain.static_object name T)) rest) no_registers K1 X (with_frame f s) w
          (subst (λ (a : Act Place). Follows S X (and_then ((a >>= (λ p. changed reaches >> gives (At p))) (with_frame f s) w) (on G1))) (sym (same-place P name ∙ ap place_of_number is))
          (set-steps again' Hp 0 (plain.static_object name T) rest no_registers K1 X (with_frame f s2) w
          (subst (λ (a : Act Place). Follows S X (and_then ((a >>= followed P.classes) (with_frame f s2) w) (on G2))) (sym (same-named P name T ∙ ap (λ n. object_at n (static_type P name) T) is))
          (subst (λ b. Follows S X (and_then ((((place_of_number (Some o) >> need b cast_from_void) >> place_of_number (Some o)) >>= followed P.classes) (with_frame f s2) w) (on G2))) (sym fits)
          (subst (λ b. Follows S X (and_then (when b (read_place P.classes (root o) >>= bound_to) (gives (At (root o))) (with_frame f s2) w) (on G2))) (sym no)
          (placed o is s f w ready empty stood))))))

      by-number : (n : Option ℕ) → static_number P name ≡ n → (s : State) (f : Frame) (w : World) → Ready 0 s.frame f → s.frame.temporaries ≡ [] → Stood s T n
          → Follows S (and_then (core_from n s w) (on c)) (runs_on again' Hp (initialised P.classes T name e 0 nothing) no_registers K1 (with_frame f s) w)
      by-number None is s f w ready empty stood = record { by = tt }
      by-number (Some o) is s f w ready empty stood =
          let y : Bool → Type 0 = λ b. Follows S (and_then (core_from (Some o) s w) (on c)) (runs_on again' Hp (reached b T name rest) no_registers K1 (with_frame f s) w) in
          by-set T e ok (λ bound. subst y (sym (bound-binds e bound)) (of-reference o is s f w ready empty stood))
          (λ other constant. subst y (sym (element-binds T e constant)) (of-object o is s f w ready empty stood other))

      setting-steps : (s : State) (f : Frame) (w : World) → Ready 0 s.frame f → s.frame.temporaries ≡ [] → Stood s T (static_number P name)
          → Follows S (and_then (set_constant again P x s w) (on c)) (and_then (plain_program.set_constant again' Hp (setting_of P x) (with_frame f s) w) (on K))
      setting-steps s f w ready empty stood =
          let e1 : Frame = record s.frame { function = x.function } in
          let f1 : Frame = record f { function = x.function } in
          push (all again' Hp (initialised P.classes T name e 0 nothing) no_registers (with_frame f1 s) w) (λ flow. done) K _
          (by-number (static_number P name) refl (with_frame e1 s) f1 w
          (record {
            alike = record { function = refl; this = ready.alike.this; result = ready.alike.result; depth = ready.alike.depth };
            count = ready.count;
            wide = ready.wide;
            locals = ready.locals;
          }) empty (framed (static_number P name) stood))
        where
          framed : (n : Option ℕ) → Stood s T n → Stood (with_frame (record s.frame { function = x.function }) s) T n
          framed None st = tt
          framed (Some o) st = record { below = st.below; type = st.type; life = st.life; stands = st.stands }

  -- an object is set on both sides
  record Set_on (u : Unit {0}) (s : State) (v : Unit {0}) (t : State) : Type 0 where
    frame : Frame
    after : t ≡ with_frame frame s
    ready : Ready 0 s.frame frame
    empty : s.frame.temporaries ≡ []

  one-setting : (x : Setting) → is_built_setting P.statics x ≡ true → (s : State) (f : Frame) (w : World) → Ready 0 s.frame f → s.frame.temporaries ≡ []
      → Stood s (type_of_static P.statics x.object) (static_number P x.object)
      → Follows Set_on (set_constant again P x s w) (plain_program.set_constant again' Hp (setting_of P x) (with_frame f s) w)
  one-setting x ok s f w ready empty stood =
      let first : Ran (Did (Unit {0})) = set_constant again P x s w in
      let second : Ran (Did (Unit {0})) = plain_program.set_constant again' Hp (setting_of P x) (with_frame f s) w in
      subst (λ y. Follows Set_on first y) (alone second)
      (subst (λ y. Follows Set_on y (and_then second (on gives))) (alone first)
      (setting-steps (Unit {0}) (Unit {0}) Set_on x ok gives gives
      (λ t g w ready empty. record { by = record { value = tt; after = with_frame g t; run = refl; related = record { frame = g; after = refl; ready = ready; empty = empty } } })
      s f w ready empty stood))

  module _ (s0 : State) (stood : (name : Name) → Stood s0 (type_of_static P.statics name) (static_number P name)) where
    -- all of them in order
    pub settings-steps : {A B : Type 0} {S : A → State → B → State → Type 0} (xs : List Setting) → list_all (is_built_setting P.statics) xs ≡ true → (s : State) (f : Frame) (w : World)
        → Ready 0 s.frame f → s.frame.temporaries ≡ [] → Lasting s0.next s0.object [] s
        → (c : Unit {0} → Act A) (K : Unit {0} → Act B) → ((t : State) (g : Frame) (w : World) → Ready 0 t.frame g → Follows S (c tt t w) (K tt (with_frame g t) w))
        → Follows S (and_then (for_all xs (set_constant again P) s w) (on c))
        (and_then (for_all (map (setting_of P) xs) (plain_program.set_constant again' Hp) (with_frame f s) w) (on K))
    settings-steps [] ok s f w ready empty q c K next = next s f w ready
    settings-steps {S = S} (x ∷ xs) ok s f w ready empty q c K next =
        let parts = both (is_built_setting P.statics x) (list_all (is_built_setting P.statics) xs) ok in
        let t : SourceType = type_of_static P.statics x.object in
        let first : Ran (Did (Unit {0})) = set_constant again P x s w in
        let second : Ran (Did (Unit {0})) = plain_program.set_constant again' Hp (setting_of P x) (with_frame f s) w in
        pull first (λ u. for_all xs (set_constant again P)) c _
        (push second (λ u. for_all (map (setting_of P) xs) (plain_program.set_constant again' Hp)) K _
        (follows-then first second (λ u. for_all xs (set_constant again P) >>= c) (λ u. for_all (map (setting_of P) xs) (plain_program.set_constant again' Hp) >>= K)
        (known (λ (u : Unit {0}) (t : State). Lasting s0.next s0.object [] t) first second (Keeps.by (setting-lasts again P classless rests s0 stood x parts.0) s w q)
        (one-setting x parts.0 s f w ready empty (still-stood again P classless rests s0 stood t (static_number P x.object) (stood x.object) s q)))
        (λ u t v z w1 r.
        subst (λ (z : State). Follows S ((for_all xs (set_constant again P) >>= c) t w1) ((for_all (map (setting_of P) xs) (plain_program.set_constant again' Hp) >>= K) z w1)) (sym (Set_on.after r.0))
        (settings-steps xs parts.1 t (Set_on.frame r.0) w1 (Set_on.ready r.0) (Set_on.empty r.0) r.1 c K next))))
