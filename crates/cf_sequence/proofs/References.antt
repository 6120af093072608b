-- A local reference and the temporary that it binds (8.4.3, 12.2): both are locals of the scope at hand, and the temporary's object is there behind the
-- reference's.
use Rattle.std.proofs.Common.{◌≡◌, inl, inr, ℕ, suc, ◌+◌, ◌-◌, ◌≤◌, ◌<◌, Bool, true, false, not, ◌&&◌, ◌||◌, nat_lt, nat_le, ◌==◌, List, [], ◌∷◌, ◌++◌, reverse, refl, sym, ◌∙◌, ap, subst, arith, if◌then◌else◌}
use Rattle.std.specs.Prelude.{Some}
use Rattle.std.proofs.lemmas.Bool.Decides.{nat_tests}
use Rattle.cf_base.proofs.Tests.{both}
use Rattle.cf_base.specs.World.{World, and_then}
use Rattle.cf_core.specs.Types.{SourceType, Name, is_class}
use Rattle.cf_core.specs.Core as core
use Rattle.cf_core.specs.Core.{Core, Function, local_temporary}
use Rattle.cf_core.specs.Places.{is_reference}
use Rattle.cf_core.specs.Store.{Value, At, new_object, automatic}
use Rattle.cf_core.specs.Run.{State, Frame, Act, ◌>>=◌, ◌>>◌, gives, valid, declared_object, frame_changed, lists_local, lists_in_scope, upd, with_frame}
use Rattle.cf_core.specs.Objects.{settle, settled as core_settled}
use Rattle.cf_core.specs.Calls as calling
use Rattle.cf_core.specs.Calls.{Program, root, function_named}
use Rattle.cf_core.specs.Expressions as meaning
use Rattle.cf_plain.specs.Plain.{Register, Plains, act, set, more}
use Rattle.cf_plain.specs.Plain as plain
use Rattle.cf_plain.specs.Acts.{Registers}
use Rattle.cf_plain.specs.Running as running
use Rattle.cf_plain.specs.Running.{Flow, keep}
use Rattle.cf_sequence.specs.Follows.{Follows}
use Rattle.cf_sequence.specs.Built.{is_value, is_held, is_chain, behind_declared}
use Rattle.cf_sequence.specs.Made.{Temporary, temporaries, width, held_by}
use Rattle.cf_sequence.specs.Expressions.{Full, destination, ended, settled, value}
use Rattle.cf_sequence.specs.Statements.{started}
use Rattle.cf_sequence.proofs.Following.{on, pull, pull-two}
use Rattle.cf_sequence.proofs.Calling.{Bodies, never}
use Rattle.cf_sequence.proofs.Kept.{Kept, Ready, keep-same, keep-other, listed-kept, listed-there}
use Rattle.cf_sequence.proofs.PlainSteps.{runs_on, declare-steps, here-steps, new-type}
use Rattle.cf_sequence.proofs.Operands.{H}
use Rattle.cf_sequence.proofs.Parts.{first-steps, value-gives}
use Rattle.cf_sequence.proofs.Evaluating.{follow-value}
use Rattle.cf_sequence.proofs.Fulls.{Cleared, flags-steps, closing, closing-steps, held_at}
use Rattle.cf_sequence.proofs.Placing.{placing}
use Rattle.cf_sequence.proofs.Temporaries.{unset-kept, Begins}
use Rattle.cf_sequence.proofs.Moving.{Later, is_in, Held, held-more, held-kept, Moved, Beyond, Owned, owned-more, owned-scope}
use Rattle.cf_sequence.proofs.LastingCode.{value-keeps}
use Rattle.cf_sequence.proofs.Tested.{tested, lasting-on, told-on, settle-on}
use Rattle.cf_sequence.proofs.Standing.{Open, Stands, low-bound, settled_full, Turns}
use Rattle.cf_sequence.proofs.Scopes.{Fallen}
use Rattle.cf_sequence.proofs.Passing.{declared-state, declared-later, low-number}

-- a local is there, with its object
pub declared-ready : (i k : ℕ) (o : ℕ) (e f : Frame) → Ready k e f → Ready k (lists_local i o e) (lists_local i o f)
declared-ready i k o e f r = record {
  alike = record { function = r.alike.function; this = r.alike.this; result = r.alike.result; depth = r.alike.depth };
  count = r.count;
  wide = r.wide;
  locals = λ j lt. ap (λ z. if j == i then Some o else z) (r.locals j lt);
}

lower : (i j : ℕ) → nat_lt i j ≡ true → i < j
lower i j lt = grind (arith, nat_tests)

not-so : (b : Bool) → not b ≡ true → b ≡ false
not-so true e = sym e
not-so false e = refl

-- the frame behind the temporary's initialiser
abbrev both_listed : ℕ → ℕ → ℕ → ℕ → Frame → Frame
both_listed i o j q e = lists_in_scope q (lists_local j q (lists_local i o e))

-- behind the flags, and its own object, its initialiser begins
begins-held : (e : Core) → is_value e ≡ true → (k j q : ℕ) (v : Value) (g h : Registers) (e0 e1 f : Frame) → Ready k e1 (lists_local j q f) → k + width e ≤ f.count
    → Cleared (record { first = k; base = 1 }) (temporaries false e k) g h
    → Begins false (record { first = k; base = 1 }) (temporaries false e k) (suc (suc (held_at e 0))) k (k + width e) (keep (keep h (suc (held_at e 0)) v) (held_at e 0) v) e1 (lists_local j q f)
begins-held e ok k j q v g h e0 e1 f ready room cleared =
    let n : Register = held_at e 0 in
    let placed = placing e ok false k in
    record {
      ready = ready;
      room = room;
      low = omega arith;
      wide = omega arith;
      high = omega arith;
      placed = placed;
      unset = unset-kept (record { first = k; base = 1 }) false k (k + width e) h (keep (keep h (suc n) v) n v) (temporaries false e k) placed
          (λ i from less. keep-other n (1 + (i - k)) (keep h (suc n) v) v (λ same. omega arith) ∙ keep-other (suc n) (1 + (i - k)) h v (λ same. omega arith)) cleared.unset;
    }

-- the reference and its temporary name objects of their own
owned-both : (i j o q : ℕ) (T : SourceType) (p : ℕ) (own : List ℕ) (s t : State) → Owned p own s → p ≤ i → p ≤ j → o ≡ s.next → q ≡ suc o → t.frame ≡ both_listed i o j q s.frame → Later s t → q < t.next
    → Owned p own (with_frame (lists_in_scope o t.frame) t)
owned-both i j o q T p own s t before le le2 o_is q_is same later new =
    let s1 : State = with_frame (lists_in_scope o (lists_local i o s.frame)) (record s { next = suc o; object = upd o (new_object T automatic) s.object }) in
    let s2 : State = with_frame (lists_in_scope q (lists_local j q s1.frame)) t in
    let first : Owned p own s1 = owned-more p own s s1 i o before le (omega arith) (omega arith) (record { next = omega arith; gone = λ x lt e. fresh x lt e (x == o) refl }) refl in
    let second : Owned p own s2 = owned-more p own s1 s2 j q first le2 (omega arith) new (record { next = omega arith; gone = λ x lt e. stayed x lt e (x == o) refl }) refl in
    let third = owned-scope p own (o ∷ q ∷ s.frame.scope) s2 second (λ x e. turned (q == x) (o == x) (is_in x s.frame.scope) e) in
    subst (λ (e : Frame). Owned p own (with_frame (lists_in_scope o e) t)) (sym same) third
  where
    turned : (a b c : Bool) → a || (b || c) ≡ true → b || (a || c) ≡ true
    turned true true c e = refl
    turned true false c e = refl
    turned false true c e = refl
    turned false false c e = e

    fresh : (x : ℕ) → x < s.next → (s.object x).is_gone ≡ true → (b : Bool) → x == o ≡ b → (if x == o then new_object T automatic else s.object x).is_gone ≡ true
    fresh x lt e true k = let same : x ≡ o = grind (arith, nat_tests, k) in absurd (omega (arith, same, o_is, lt))
    fresh x lt e false k = ap (λ b. (if b then new_object T automatic else s.object x).is_gone) k ∙ e

    stayed : (x : ℕ) → x < suc o → (if x == o then new_object T automatic else s.object x).is_gone ≡ true → (b : Bool) → x == o ≡ b → (t.object x).is_gone ≡ true
    stayed x lt e true k =
        let no : false ≡ true = sym (ap (λ b. (if b then new_object T automatic else s.object x).is_gone) k) ∙ e in absurd (let z = no in cc)
    stayed x lt e false k =
        let other : x < s.next = grind (arith, nat_tests, k, lt, o_is) in
        later.gone x other (sym (ap (λ b. (if b then new_object T automatic else s.object x).is_gone) k) ∙ e)

module _ (again : calling.Again) (again' : running.Again) (P : Program) (bodies : Bodies again again' P)
    (chains : (name : Name) (f : Function) → function_named P name ≡ Some f → is_chain f.type ≡ true)
    (classless : P.classes ≡ []) (turns : Turns again again' P) (R C : SourceType) (plain-result : is_class R ≡ false)
    (A B : Type 0) (S : A → State → B → State → Type 0) where
  -- both are there, and fall through
  held-falls : (i j k o q : ℕ) (T u : SourceType) (m : ℕ) (op : Open) (D : Beyond) (rest : Plains) (s : State) (f : Frame) (c : calling.Flow → Act A) (K : Flow → Act B)
      → Stands op D m k s f → m ≤ i → i < j → j < s.frame.count
      → (Fallen again again' P bodies chains classless turns R C plain-result A B S) D (suc j) (record { number = i; type = T } ∷ record { number = j; type = u } ∷ op.here) m c K rest s f
      → o ≡ s.next → q ≡ suc o
      → (t : State) (g : Frame) (h : Registers) (w : World) → t.frame ≡ both_listed i o j q s.frame → Kept k (lists_local j q (lists_local i o f)) g → Later s t → q < t.next
      → Follows S (c calling.Falls (with_frame (lists_in_scope o t.frame) t) w) (runs_on again' (H again again' P) rest h K (with_frame g t) w)
  held-falls i j k o q T u m op D rest s f c K st le lt there falls o_is q_is t g h w same kept later new =
      let f1 : Frame = lists_local i o f in
      let c1 = st.ready.count in
      let e : Frame = both_listed i o j q s.frame in
      let below : (x : ℕ) → x < m → g.locals x ≡ f.locals x =
      λ x less. kept.below x (omega arith) ∙ (listed-kept j q f1).below x (omega arith) ∙ (listed-kept i o f).below x (omega arith) in
      let v : Moved m s f (with_frame (lists_in_scope o t.frame) t) g = record {
        core = ap (λ (x : Frame). lists_in_scope o x) same ∙ ap (λ (x : Frame). record s.frame { locals = x.locals; scope = o ∷ x.scope }) (sym same);
        plain = kept.frame;
        below = below;
        locals = λ x less.
            kept.below x (omega arith) ∙ ap (λ z. if x == j then Some q else (if x == i then Some o else z)) (st.ready.locals x less)
            ∙ ap (λ (y : Frame). y.locals x) (sym same);
        later = record { next = later.next; gone = later.gone };
      } in
      let z : State = with_frame (lists_in_scope o t.frame) t in
      falls z g h w v
      (subst (λ (y : Frame). Held z g.locals (suc j) (record { number = i; type = T } ∷ record { number = j; type = u } ∷ op.here) (o ∷ y.scope)) (sym same)
      (held-more z g.locals (suc j) (record { number = i; type = T }) (record { number = j; type = u } ∷ op.here) o (q ∷ s.frame.scope)
      (kept.below i (omega arith) ∙ (listed-kept j q f1).below i lt ∙ listed-there i o f) (omega arith)
      (held-more z g.locals (suc j) (record { number = j; type = u }) op.here q s.frame.scope (kept.below j (omega arith) ∙ listed-there j q f1) (omega arith)
      (held-kept s z f.locals g.locals m (suc j) op.here s.frame.scope v.later st.here (omega arith) below))))
      (subst (λ (y : Frame). suc j ≤ y.count) (sym same) there)
      (owned-both i j o q T D.params D.own s t st.owned (let a = st.params in omega arith) (let a = st.params in omega arith) o_is q_is same later new)

  -- the temporary's object is there
  held-started : (i j : ℕ) (T u : SourceType) (e : Core) → is_value e ≡ true → is_reference u ≡ false → (m : ℕ) → m ≤ i → i < j → (op : Open) (D : Beyond) (k : ℕ) (rest : Plains) (h : Registers) (s : State) (f : Frame) (w : World)
      (c : calling.Flow → Act A) (K : Flow → Act B) → h 0 ≡ Some (At (root s.next))
      → Stands op D m k s f → k + width e ≤ f.count
      → (Fallen again again' P bodies chains classless turns R C plain-result A B S) D (suc j) (record { number = i; type = T } ∷ record { number = j; type = u } ∷ op.here) m c K rest s f
      → (b : Bool) → nat_lt j s.frame.count ≡ b
      → Follows S
      (and_then ((valid b >> (declared_object u >>= (λ q. frame_changed (lists_local j q) >> gives q))) (with_frame (record (lists_local i s.next s.frame) { temporaries = [] }) (declared-state i T s)) w)
      (on (λ q. (core_settled P.classes (root q) (meaning.value again P e (Some (root q))) >> (frame_changed (lists_in_scope q) >> gives (At (root q)))) >>=
      (λ v. settle P.classes (root s.next) v >>= (λ x. closing again P s.frame.temporaries x >>= (λ x. frame_changed (lists_in_scope s.next) >>= (λ x. c calling.Falls)))))))
      (runs_on again' (H again again' P) (started P.classes T (core.bind (local_temporary j u) e) 0 k rest) h K (with_frame (lists_local i s.next f) (declared-state i T s)) w)
  held-started i j T u e ok no_reference m le lt op D k rest h s f w c K at st room falls false there = record { by = tt }
  held-started i j T u e ok no_reference m le lt op D k rest h s f w c K at st room falls true there =
      let o : ℕ = s.next in
      let s1 : State = declared-state i T s in
      let e0 : Frame = record s1.frame { temporaries = [] } in
      let s0 : State = with_frame e0 s1 in
      let q : ℕ = s1.next in
      let s2 : State = declared-state j u s0 in
      let f1 : Frame = lists_local i o f in
      let f2 : Frame = lists_local j q f1 in
      let n : Register = held_at e 0 in
      let object : Register = suc n in
      let first : Register = suc object in
      let x : Full = record { first = k; base = 1 } in
      let ts : List Temporary = temporaries false e k in
      let place : Value = At (root q) in
      let listed : Frame = both_listed i o j q s.frame in
      let after : Plains = ended x (reverse ts) rest in
      let last : Plains = more (act (plain.first 0 n)) after in
      let scopes : Unit {0} → Act A = λ x. frame_changed (lists_in_scope o) >>= (λ x. c calling.Falls) in
      let shuts : Unit {0} → Act A = λ x. closing again P s.frame.temporaries x >>= scopes in
      let closes : Value → Act A = λ v. settle P.classes (root o) v >>= shuts in
      let ends : Act Value = frame_changed (lists_in_scope q) >> gives place in
      let behind_it : Value → Act A = λ v. (settle P.classes (root q) v >> ends) >>= closes in
      let code : Plains = value P.classes x e (destination object u) first k (settled e object first last) in
      let named : Plains = more (set n (plain.local j)) code in
      let ready : Ready k e0 f1 = record {
        alike = record { function = st.ready.alike.function; this = st.ready.alike.this; result = st.ready.alike.result; depth = st.ready.alike.depth };
        count = st.ready.count;
        wide = st.ready.wide;
        locals = λ x less. ap (λ z. if x == i then Some o else z) (st.ready.locals x less);
      } in
      let c1 = st.ready.count in
      let c2 = st.ready.wide in
      let number : suc j ≤ s.frame.count = low-number j s.frame.count there in
      flags-steps again' (H again again' P) A B S x (more (set object (plain.declare j u)) named) K _ (with_frame f1 s1) w ts h (λ h0 cleared.
      let h1 : Registers = keep h0 object place in
      let h2 : Registers = keep h1 n place in
      declare-steps again' (H again again' P) j u object named h0 K _ s1 f1 w (omega arith)
      (here-steps again' (H again again' P) j q n code h1 K _ s2 f2 w (omega arith) (listed-there j q f1) (new-type u q s1 no_reference)
      (pull-two (meaning.value again P e (Some (root q)) s2 w) (settle P.classes (root q)) (λ x. ends) closes _
      (lasting-on s2.next s2.object s2.frame.scope s2 w (meaning.value again P e (Some (root q))) (value-keeps again P classless turns.rests s2.next s2.object s2.frame.scope e ok (Some (root q)))
      (record { next = omega arith; objects = λ o lt. record { type = refl; life = refl; gone = refl }; temporaries = tt; scope = record { newer = []; parts = refl; new = tt } }) behind_it _
      (follow-value again again' P bodies chains A B S e ok false (Some (root q)) (destination object u) x first k (settled e object first last) h2 s2 f2 w
      (tested s2.next s2.object behind_it) K
      (begins-held e ok k j q place h h0 e0 s2.frame f1 (declared-ready j k q e0 f1 ready) room cleared) (λ v t h3 f3 w3 done.
      told-on s2 s2.next s2.object refl refl behind_it v t w3 _ (λ lasts.
      pull (settle P.classes (root q) v t w3) (λ x. ends) closes _
      (settle-on P.classes (root q) v t w3 (λ x. ends >>= closes) _
      (subst (λ b. Follows S (and_then (settle P.classes (root q) v t w3) (on (tested t.next t.object (λ (x : Unit {0}). ends >>= closes)))) (runs_on again' (H again again' P) (if b then last else more (act (plain.first object first)) last) h3 K (with_frame f3 t) w3))
      (sym (value-gives again again' P bodies chains A B S e ok))
      (first-steps again again' P bodies chains A B S object first (root q) v h3 last (tested t.next t.object (λ (x : Unit {0}). ends >>= closes)) K t f3 w3
      (done.grown.below object (omega arith) (inr (omega arith)) ∙ keep-other n object h1 place (λ z. omega arith) ∙ keep-same object h0 place) done.value (λ t3 same.
      told-on t t.next t.object refl refl (λ (x : Unit {0}). ends >>= closes) tt t3 w3 _ (λ lasts3.
      let z3 : State = with_frame (lists_in_scope q t3.frame) t3 in
      settle-on P.classes (root o) place z3 w3 shuts _
      (first-steps again again' P bodies chains A B S 0 n (root o) place h3 after (tested z3.next z3.object shuts) K z3 f3 w3
      (done.grown.below 0 (omega arith) (inl (omega arith)) ∙ keep-other n 0 h1 place (λ z. omega arith) ∙ keep-other object 0 h0 place (λ z. omega arith) ∙ cleared.below 0 (omega arith) ∙ at)
      (done.grown.below n (omega arith) (inr (omega arith)) ∙ keep-same n h1 place) (λ t4 same4.
      told-on z3 z3.next z3.object refl refl shuts tt t4 w3 _ (λ lasts4.
      closing-steps again again' P bodies chains classless A B S x ts done.grown.made listed t4 h3 f3 w3 tt scopes rest K
      (same4 ∙ ap (λ (x : Frame). lists_in_scope q x) (same ∙ done.grown.frame)) done.grown.listed (λ t5 same5 lasts5.
      let a = lasts.next in let b = lasts3.next in let d = lasts4.next in let r = lasts5.next in
      held-falls i j k o q T u m op D rest s f c K st le lt number falls refl refl t5 f3 h3 w3 same5 done.kept
      (record {
        next = omega arith;
        gone = λ y less e.
            lasts5.gone y (omega arith) (lasts4.gone y (omega arith) (lasts3.gone y (omega arith)
            (lasts.gone y (omega arith) ((declared-later j u s0).gone y (omega arith) ((declared-later i T s).gone y less e)))));
      }) (omega arith)))))))))))))))))

  pub held-declaration : (i : ℕ) (T : SourceType) (e : Core) (m : ℕ) → nat_le m i ≡ true → is_held i e ≡ true → (op : Open) (D : Beyond) (k : ℕ) (rest : Plains) (g : Registers) (s : State) (f : Frame) (w : World)
      (c : calling.Flow → Act A) (K : Flow → Act B)
      → Stands op D m k s f → k + width e ≤ f.count
      → (Fallen again again' P bodies chains classless turns R C plain-result A B S) D (behind_declared i e) ((record { number = i; type = T } ∷ held_by e) ++ op.here) m c K rest s f
      → (b : Bool) → nat_lt i s.frame.count ≡ b
      → Follows S (and_then ((valid b >> (declared_object T >>= (λ o. frame_changed (lists_local i o) >> gives o))) s w)
      (on (λ o. (settled_full again P (root o) e >> frame_changed (lists_in_scope o)) >>= (λ u. c calling.Falls))))
      (runs_on again' (H again again' P) (more (set 0 (plain.declare i T)) (started P.classes T e 0 k rest)) g K (with_frame f s) w)
  held-declaration i T (core.bind (local_temporary j u) e) m le ok op D k rest g s f w c K st room falls false there = record { by = tt }
  held-declaration i T (core.bind (local_temporary j u) e) m le ok op D k rest g s f w c K st room falls true there =
      let parts = both (nat_lt i j) (not (is_reference u) && is_value e) ok in
      let value_parts = both (not (is_reference u)) (is_value e) parts.1 in
      let held : Core = core.bind (local_temporary j u) e in
      let o : ℕ = s.next in
      let s1 : State = declared-state i T s in
      let s0 : State = with_frame (record s1.frame { temporaries = [] }) s1 in
      let number : suc i ≤ s.frame.count = low-number i s.frame.count there in
      let c1 = st.ready.count in
      let c2 = st.ready.wide in
      let falling_on : Unit {0} → Act A = λ x. c calling.Falls in
      let listing : Unit {0} → Act (Unit {0}) = λ x. frame_changed (lists_in_scope o) in
      let scopes : Unit {0} → Act A = λ x. frame_changed (lists_in_scope o) >>= falling_on in
      let shuts : Unit {0} → Act A = λ x. closing again P s.frame.temporaries x >>= scopes in
      let keeps : ℕ → Act Value = λ q. core_settled P.classes (root q) (meaning.value again P e (Some (root q))) >> (frame_changed (lists_in_scope q) >> gives (At (root q))) in
      let made = (valid (nat_lt j s.frame.count) >> (declared_object u >>= (λ q. frame_changed (lists_local j q) >> gives q))) s0 w in
      declare-steps again' (H again again' P) i T 0 (started P.classes T held 0 k rest) g K _ s f w (omega arith)
      (pull (settled_full again P (root o) held s1 w) listing falling_on _
      (pull (and_then (and_then made (on keeps)) (on (settle P.classes (root o)))) (closing again P s.frame.temporaries) scopes _
      (pull (and_then made (on keeps)) (settle P.classes (root o)) shuts _
      (pull made keeps (λ v. settle P.classes (root o) v >>= shuts) _
      (held-started i j T u e value_parts.1 (not-so (is_reference u) value_parts.0) m (low-bound m i le) (lower i j parts.0) op D k rest (keep g 0 (At (root o))) s f w c K (keep-same 0 g (At (root o))) st room falls (nat_lt j s.frame.count) refl)))))
  held-declaration i T e m le ok op D k rest g s f w c K st room falls b there = never ok
