-- What a label of a switch passes (6.7): the core declares it as it goes by, and the switch before the switch at once.
use Rattle.std.proofs.Common.{◌≡◌, ℕ, suc, ◌≤◌, ◌<◌, Bool, true, false, not, ◌||◌, nat_lt, nat_le, ◌==◌, List, [], ◌∷◌, ◌++◌, reverse, refl, sym, ◌∙◌, ap, subst, arith, append_assoc, if◌then◌else◌}
use Rattle.std.specs.Prelude.{ℤ, Option, Some, None}
use Rattle.std.proofs.lemmas.Bool.Decides.{nat_tests}
use Rattle.std.proofs.lemmas.List.{reverse-append}
use Rattle.cf_base.proofs.Tests.{both}
use Rattle.cf_base.specs.World.{World, Ran, and_then}
use Rattle.cf_core.specs.Types.{SourceType}
use Rattle.cf_core.specs.Core as core
use Rattle.cf_core.specs.Core.{Core, Cores, none}
use Rattle.cf_core.specs.Store.{At, new_object, automatic}
use Rattle.cf_core.specs.Run.{State, Frame, Did, Act, ◌>>=◌, ◌>>◌, gives, valid, when, upd, declared_object, frame_changed, lists_local, lists_in_scope, with_frame}
use Rattle.cf_core.specs.Objects.{new_local}
use Rattle.cf_core.specs.Calls as calling
use Rattle.cf_core.specs.Calls.{Program, root}
use Rattle.cf_core.specs.Statements as does
use Rattle.cf_plain.specs.Plain.{Plains, act, leave, nothing, more}
use Rattle.cf_plain.specs.Plain as plain
use Rattle.cf_plain.specs.Acts.{Registers}
use Rattle.cf_plain.specs.Running as running
use Rattle.cf_plain.specs.Running.{Flow, Falls, falling, all}
use Rattle.cf_sequence.specs.Follows.{Follows}
use Rattle.cf_sequence.specs.Built.{is_element, is_held, next_local, next_locals, is_none, arms_declare, any_arms_declare, is_statement, are_statements, are_cases}
use Rattle.cf_sequence.specs.Made.{Local, declared, declared_all}
use Rattle.cf_sequence.specs.Statements.{made, passing}
use Rattle.cf_sequence.proofs.Following.{on, pull}
use Rattle.cf_sequence.proofs.Calling.{never}
use Rattle.cf_sequence.proofs.Kept.{Kept, kept-all, Ready, listed-kept, listed-there}
use Rattle.cf_sequence.proofs.PlainSteps.{runs_on, room-for}
use Rattle.cf_sequence.proofs.Operands.{H}
use Rattle.cf_sequence.proofs.Moving.{Later, Held, held-more, held-kept, AllAbove, above-append, above-less, Moved, moved-then, Beyond, Owned, owned-more}
use Rattle.cf_sequence.proofs.Standing.{Open, Stands, stands-later, moved-all, low-bound, next-more, none-next}
use Rattle.cf_sequence.proofs.Silent.{Silent, silent-none, silent-act, silent-then, silent-leave}
use Rattle.cf_sequence.proofs.Labels.{Aim, to_case, to_default, core_from, plain_from, core_has, fits_case, by-case, hits, label-has, label-passing, mark-has, mark-goes, no-label, passing-past}

-- ---- code that declares

pub made-more : (xs ys : List Local) (rest : Plains) → made (xs ++ ys) rest ≡ made xs (made ys rest)
made-more [] ys rest = refl
made-more (x ∷ xs) ys rest = ap (more (act (plain.declare x.number x.type))) (made-more xs ys rest)

module _ (again : running.Again) (H : Program) where
  silent-made : (xs : List Local) → Silent again H (made xs)
  silent-made [] = silent-none again H
  silent-made (x ∷ xs) = silent-then again H (λ rest. more (act (plain.declare x.number x.type)) rest) (made xs) (silent-act again H _) (silent-made xs)

  -- what a label of the switch before does has no label
  pub silent-passed_by : (xs : List Local) → Silent again H (λ rest. made xs (more leave rest))
  silent-passed_by xs = silent-then again H (made xs) (λ rest. more leave rest) (silent-made xs) (silent-leave again H)

  -- it has the labels of the switch
  pub passing-has : (z : ℤ) (es : Cores) (m : ℕ) → are_cases m es ≡ true → (before : List Local) → running.has_case z (passing before es) ≡ does.has_case z es
  passing-has z none m ok before = refl
  passing-has z (core.more s es) m ok before =
      let parts = both (fits_case m s) (are_cases (next_local m s) es) ok in
      by-case m s parts.0
      (λ l.
      ap (running.has_case z) (label-passing s l before es) ∙ mark-has z s l (made (reverse before) (more leave (passing before es)))
      ∙ ap (λ b. hits (to_case z) l || b) ((silent-passed_by (reverse before)).labels z (passing before es) ∙ passing-has z es (next_local m s) parts.1 before)
      ∙ sym (label-has (to_case z) s l es))
      (λ is.
      ap (running.has_case z) (passing-past m s is before es) ∙ passing-has z es (next_local m s) parts.1 (declared s ++ before)
      ∙ sym (no-label (to_case z) m s es is))

  -- neither the label nor any behind it
  pub neither : (a b : Bool) → (a || b) ≡ false → (a ≡ false) × (b ≡ false)
  neither true b e = never (sym e)
  neither false b e = (refl, e)

  -- without the default there is nothing to do
  pub passing-without : (es : Cores) (m : ℕ) → are_cases m es ≡ true → does.has_default es ≡ false → (before : List Local) (g : Registers)
      → running.from_default again H (passing before es) g ≡ gives (Falls g)
  passing-without none m ok has before g = refl
  passing-without (core.more s es) m ok has before g =
      let parts = both (fits_case m s) (are_cases (next_local m s) es) ok in
      by-case m s parts.0
      (λ l.
      let two = neither (hits to_default l) (does.has_default es) (sym (label-has to_default s l es) ∙ has) in
      let tail : Plains = made (reverse before) (more leave (passing before es)) in
      ap (λ ss. running.from_default again H ss g) (label-passing s l before es) ∙ mark-goes again H to_default s l tail g
      ∙ ap (λ b. when b (all again H tail g) (running.from_default again H tail g)) two.0
      ∙ (silent-passed_by (reverse before)).at_default (passing before es) g ∙ passing-without es (next_local m s) parts.1 two.1 before g)
      (λ is.
      ap (λ ss. running.from_default again H ss g) (passing-past m s is before es)
      ∙ passing-without es (next_local m s) parts.1 (sym (no-label to_default m s es is) ∙ has) (declared s ++ before) g)

  -- a local is declared with the next object
  pub declared-runs : {B : Type 0} (i : ℕ) (T : SourceType) (rest : Plains) (g : Registers) (K : Flow → Act B) (s : State) (f : Frame) (w : World) → nat_lt i f.count ≡ true
      → runs_on again H (more (act (plain.declare i T)) rest) g K (with_frame f s) w
      ≡ runs_on again H rest g K (with_frame (lists_local i s.next f) (record s { next = suc s.next; object = upd s.next (new_object T automatic) s.object })) w
  declared-runs i T rest g K s f w lt =
      ap (λ b. and_then (and_then (and_then ((valid b >> (declared_object T >>= (λ o. frame_changed (lists_local i o) >> gives o)) >>= (λ o. gives (At (root o)))) (with_frame f s) w)
      (on (λ v. gives (Falls g)))) (on (falling (λ h. all again H rest h)))) (on K)) lt

-- ---- which label a switch comes to

abbrev pub core_by : calling.Again → Program → Option Aim → Cores → Act calling.Flow
core_by again P None es = gives calling.Falls
core_by again P (Some aim) es = core_from again P aim es

abbrev pub plain_by : running.Again → Program → Option Aim → Plains → Registers → Act Flow
plain_by again H None ss g = gives (Falls g)
plain_by again H (Some aim) ss g = plain_from again H aim ss g

-- a case, the default, or neither
abbrev pub chosen_case : calling.Again → Program → ℤ → Cores → Act calling.Flow
chosen_case again P z es = when (does.has_case z es) (does.from_case again P z es) (when (does.has_default es) (does.from_default again P es) (gives calling.Falls))

abbrev pub looked : running.Again → Program → Plains → Registers → ℤ → Act Flow
looked again H ss g z = when (running.has_case z ss) (running.from_case again H z ss g) (running.from_default again H ss g)

pub record Picks (again : calling.Again) (again' : running.Again) (P H : Program) (z : ℤ) (es : Cores) : Type 0 where
  pub aim : Option Aim
  pub has : (a : Aim) → aim ≡ Some a → core_has a es ≡ true
  pub core : chosen_case again P z es ≡ core_by again P aim es
  pub plain : (ss : Plains) → running.has_case z ss ≡ does.has_case z es → ((g : Registers) → does.has_default es ≡ false → running.from_default again' H ss g ≡ gives (Falls g))
      → (g : Registers) → looked again' H ss g z ≡ plain_by again' H aim ss g

pub picks : (again : calling.Again) (again' : running.Again) (P H : Program) (z : ℤ) (es : Cores) → Picks again again' P H z es
picks again again' P H z es = by (does.has_case z es) (does.has_default es) refl refl
  where
    same : (a b : Aim) → Some a ≡ Some b → a ≡ b
    same a b e = cc

    by : (b d : Bool) → does.has_case z es ≡ b → does.has_default es ≡ d → Picks again again' P H z es
    by true d e f = record {
      aim = Some (to_case z);
      has = λ a is. subst (λ a. core_has a es ≡ true) (same (to_case z) a is) e;
      core = ap (λ b. when b (does.from_case again P z es) (when (does.has_default es) (does.from_default again P es) (gives calling.Falls))) e;
      plain = λ ss cases default g. ap (λ b. when b (running.from_case again' H z ss g) (running.from_default again' H ss g)) (cases ∙ e);
    }
    by false true e f = record {
      aim = Some to_default;
      has = λ a is. subst (λ a. core_has a es ≡ true) (same to_default a is) f;
      core = ap (λ b. when b (does.from_case again P z es) (when (does.has_default es) (does.from_default again P es) (gives calling.Falls))) e
          ∙ ap (λ d. when d (does.from_default again P es) (gives calling.Falls)) f;
      plain = λ ss cases default g. ap (λ b. when b (running.from_case again' H z ss g) (running.from_default again' H ss g)) (cases ∙ e);
    }
    by false false e f = record {
      aim = None;
      has = λ a is. absurd (cc);
      core = ap (λ b. when b (does.from_case again P z es) (when (does.has_default es) (does.from_default again P es) (gives calling.Falls))) e
          ∙ ap (λ d. when d (does.from_default again P es) (gives calling.Falls)) f;
      plain = λ ss cases default g. ap (λ b. when b (running.from_case again' H z ss g) (running.from_default again' H ss g)) (cases ∙ e) ∙ default g f;
    }

-- ---- a local is there, with its object

abbrev pub declared-state : ℕ → SourceType → State → State
declared-state i T s = record s { next = suc s.next; object = upd s.next (new_object T automatic) s.object; frame = lists_local i s.next s.frame }

-- behind its initialiser it is listed in the scope at hand
pub declared-moved : (m i k o : ℕ) (s : State) (f : Frame) (t : State) (g : Frame) → m ≤ i → m ≤ k → Ready k s.frame f → t.frame ≡ lists_local i o s.frame → Kept k (lists_local i o f) g → Later s t
    → Moved m s f (with_frame (lists_in_scope o t.frame) t) g
declared-moved m i k o s f t g le less ready same kept later = record {
  core = ap (λ (x : Frame). record x { scope = o ∷ t.frame.scope }) same ∙ ap (λ (x : Frame). record s.frame { locals = x.locals; scope = o ∷ t.frame.scope }) (sym same);
  plain = kept.frame;
  below = λ j lt. kept.below j (omega arith) ∙ (listed-kept i o f).below j (omega arith);
  locals = λ j lt. kept.below j (let c1 = ready.count in omega arith) ∙ ap (λ z. if j == i then Some o else z) (ready.locals j lt) ∙ ap (λ (x : Frame). x.locals j) (sym same);
  later = record { next = later.next; gone = later.gone };
}

pub declared-later : (i : ℕ) (T : SourceType) (s : State) → Later s (declared-state i T s)
declared-later i T s = record { next = omega arith; gone = λ o lt e. ap (λ b. (if b then new_object T automatic else s.object o).is_gone) (other o lt) ∙ e }
  where
    other : (o : ℕ) → o < s.next → o == s.next ≡ false
    other o lt = grind (arith, nat_tests, lt)

pub low-number : (i n : ℕ) → nat_lt i n ≡ true → suc i ≤ n
low-number i n lt = grind (arith, nat_tests)

-- ---- what stands before a label is passed

module _ (again : calling.Again) (again' : running.Again) (P : Program) (A B : Type 0) (S : A → State → B → State → Type 0) where
  -- These locals have been declared, the newest first, and are listed; plain code would have declared them too.
  pub record Passed (m n : ℕ) (xs here : List Local) (s : State) (f : Frame) (w : World) (t : State) (g : Frame) : Type 0 where
    pub moved : Moved m s f t g
    pub held : Held t g.locals n (xs ++ here) t.frame.scope
    pub owned : (p : ℕ) (own : List ℕ) → p ≤ m → Owned p own s → Owned p own t
    pub above : AllAbove m xs
    pub low : n ≤ t.frame.count
    pub runs : (zs : Plains) (h : Registers) (K : Flow → Act B) → runs_on again' (H again again' P) (made (reverse xs) zs) h K (with_frame f s) w ≡ runs_on again' (H again again' P) zs h K (with_frame g t) w

  passed-none : (m k : ℕ) (o : Open) (D : Beyond) (s : State) (f : Frame) (w : World) → Stands o D m k s f → Passed m m [] o.here s f w s f
  passed-none m k o D s f w st = record { moved = moved-all m k s f st.ready; held = st.here; owned = λ p own le h. h; above = tt; low = st.low; runs = λ zs h K. refl }

  passed-then : (m n l : ℕ) (xs ys here : List Local) (s : State) (f : Frame) (w : World) (t : State) (g : Frame) (u : State) (h : Frame) → m ≤ n
      → Passed m n xs here s f w t g → Passed n l ys (xs ++ here) t g w u h → Passed m l (ys ++ xs) here s f w u h
  passed-then m n l xs ys here s f w t g u h le p q = record {
    moved = moved-then m n s f t g u h le p.moved q.moved;
    held = subst (λ zs. Held u h.locals l zs u.frame.scope) (sym (append_assoc ys xs here)) q.held;
    owned = λ r own lr before. q.owned r own (omega arith) (p.owned r own lr before);
    above = above-append m ys xs (above-less n m ys le q.above) p.above;
    low = q.low;
    runs = λ zs r K.
        ap (λ ws. runs_on again' (H again again' P) (made ws zs) r K (with_frame f s) w) (reverse-append ys xs)
        ∙ ap (λ ss. runs_on again' (H again again' P) ss r K (with_frame f s) w) (made-more (reverse xs) (reverse ys) zs)
        ∙ p.runs (made (reverse ys) zs) r K ∙ q.runs zs r K;
  }

  pass-local : (i : ℕ) (T : SourceType) (m : ℕ) → m ≤ i → (o : Open) (D : Beyond) (k : ℕ) (s : State) (f : Frame) (w : World) (G : Act A) (Y : Ran (Did B)) → Stands o D m k s f
      → ((t : State) (g : Frame) → Passed m (suc i) (record { number = i; type = T } ∷ []) o.here s f w t g → Follows S (G t w) Y)
      → (b : Bool) → nat_lt i s.frame.count ≡ b
      → Follows S (and_then ((valid b >> (declared_object T >>= (λ o. frame_changed (lists_local i o) >> gives o))) s w) (on (λ o. frame_changed (lists_in_scope o) >>= (λ u. G)))) Y
  pass-local i T m le o D k s f w G Y st next false lt = record { by = tt }
  pass-local i T m le o D k s f w G Y st next true lt =
      let at : ℕ = s.next in
      let s1 : State = declared-state i T s in
      let f1 : Frame = lists_local i at f in
      let t : State = with_frame (lists_in_scope at s1.frame) s1 in
      let low : suc i ≤ s.frame.count = low-number i s.frame.count lt in
      let c1 = st.ready.count in
      let c2 = st.ready.wide in
      let v : Moved m s f t f1 = declared-moved m i k at s f s1 f1 le (let l = st.low in omega arith) st.ready refl (kept-all k f1) (declared-later i T s) in
      next t f1 (record {
        moved = v;
        held = held-more t f1.locals (suc i) (record { number = i; type = T }) o.here at s.frame.scope (listed-there i at f) (omega arith)
            (held-kept s t f.locals f1.locals m (suc i) o.here s.frame.scope v.later st.here (omega arith) v.below);
        owned = λ p own lp before. owned-more p own s t i at before (omega arith) (omega arith) (omega arith) v.later refl;
        above = (le, tt);
        low = low;
        runs = λ zs h K. declared-runs again' (H again again' P) i T zs h K s f w (room-for i f.count (omega arith));
      })

  -- of an `if` whose arms declare nothing
  empty-of : (xs : List Local) → not (is_none xs) ≡ false → xs ≡ []
  empty-of [] e = refl
  empty-of (x ∷ xs) e = never (sym e)

  mutual
    pub pass-one : (e : Core) (m : ℕ) → is_statement m e ≡ true → arms_declare e ≡ false → (o : Open) (D : Beyond) (k : ℕ) (s : State) (f : Frame) (w : World) (G : Act A) (Y : Ran (Did B)) → Stands o D m k s f
        → ((t : State) (g : Frame) → Passed m (next_local m e) (declared e) o.here s f w t g → Follows S (G t w) Y)
        → Follows S (and_then (does.passes e s w) (on (λ u. G))) Y
    pass-one (core.declare i T core.blank) m ok free o D k s f w G Y st next =
        pull (new_local i T s w) (λ o. frame_changed (lists_in_scope o)) (λ u. G) Y
        (pass-local i T m (low-bound m i (both (nat_le m i) (is_element T core.blank || is_held i core.blank) ok).0) o D k s f w G Y st next (nat_lt i s.frame.count) refl)
    pass-one (core.declare i T e) m ok free o D k s f w G Y st next = record { by = tt }
    pass-one (core.sequence es) m ok free o D k s f w G Y st next = pass-all es m ok free o D k s f w G Y st next
    pass-one (core.branch c a b) m ok free o D k s f w G Y st next =
        let e : Core = core.branch c a b in
        let empty : declared e ≡ [] = empty-of (declared e) free in
        next s f (subst (λ xs. Passed m (next_local m e) xs o.here s f w s f) (sym empty) (subst (λ n. Passed m n [] o.here s f w s f) (sym (none-next m e empty)) (passed-none m k o D s f w st)))
    pass-one e m ok free o D k s f w G Y st next = next s f (passed-none m k o D s f w st)

    pass-all : (es : Cores) (m : ℕ) → are_statements m es ≡ true → any_arms_declare es ≡ false → (o : Open) (D : Beyond) (k : ℕ) (s : State) (f : Frame) (w : World) (G : Act A) (Y : Ran (Did B)) → Stands o D m k s f
        → ((t : State) (g : Frame) → Passed m (next_locals m es) (declared_all es) o.here s f w t g → Follows S (G t w) Y)
        → Follows S (and_then (does.passes_all es s w) (on (λ u. G))) Y
    pass-all none m ok free o D k s f w G Y st next = next s f (passed-none m k o D s f w st)
    pass-all (core.more e es) m ok free o D k s f w G Y st next =
        let parts = both (is_statement m e) (are_statements (next_local m e) es) ok in
        let frees = neither again' (H again again' P) (arms_declare e) (any_arms_declare es) free in
        let le : m ≤ next_local m e = next-more m e parts.0 in
        pull (does.passes e s w) (λ u. does.passes_all es) (λ u. G) Y
        (pass-one e m parts.0 frees.0 o D k s f w (does.passes_all es >>= (λ u. G)) Y st (λ t g p.
        let count : g.count ≡ f.count = ap (λ (x : Frame). x.count) p.moved.plain in
        let wide = st.ready.wide in
        pass-all es (next_local m e) parts.1 frees.1 (record o { here = declared e ++ o.here }) D k t g w G Y
        (stands-later o D m (next_local m e) k k (declared e ++ o.here) s f t g st p.moved le p.low (omega arith) (omega arith) p.held (p.owned D.params D.own st.params st.owned)
        (above-append D.params (declared e) o.here (above-less m D.params (declared e) st.params p.above) st.above_here))
        (λ u h q. next u h (passed-then m (next_local m e) (next_locals (next_local m e) es) (declared e) (declared_all es) o.here s f w t g u h le p q))))
