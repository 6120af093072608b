-- Loops: each turn spends a tick, its condition stands inside, and further turns come with one tick less.
use Rattle.std.proofs.Common.{◌≡◌, ℕ, zero, suc, ◌+◌, ◌≤◌, Bool, true, false, ◌&&◌, List, [], ◌++◌, length, refl, sym, ◌∙◌, ap, subst, arith, append-nil}
use Rattle.std.specs.Prelude.{Some, None}
use Rattle.cf_base.proofs.Tests.{both}
use Rattle.cf_base.specs.World.{World, Ran, Went, and_then, spend_of}
use Rattle.cf_core.specs.declared.operators.LoopForm.{LoopForm}
use Rattle.cf_core.specs.declared.operators.LoopForm.TheVariants as form
use Rattle.cf_core.specs.Types.{SourceType, Name, is_class}
use Rattle.cf_core.specs.Core as core
use Rattle.cf_core.specs.Core.{Core, Cores, MaybeCore, Function, none, absent, given}
use Rattle.cf_core.specs.Nodes.{nodes, nodes_maybe}
use Rattle.cf_core.specs.Store.{Value}
use Rattle.cf_core.specs.Run.{State, Frame, Did, Gives, Act, ◌>>=◌, ◌>>◌, gives, tick, when, with_frame}
use Rattle.cf_core.specs.Calls as calling
use Rattle.cf_core.specs.Calls.{Program, root, turn, function_named, end_object, in_scope, full_expression}
use Rattle.cf_core.specs.Expressions as meaning
use Rattle.cf_core.specs.Statements as does
use Rattle.cf_plain.specs.Plain.{Plains, branch, loop, leave, nothing, more}
use Rattle.cf_plain.specs.Acts.{Registers}
use Rattle.cf_plain.specs.Running as running
use Rattle.cf_plain.specs.Running.{Flow, Falls, Breaks, Continues, Returns, keep, falling, turning, all}
use Rattle.cf_sequence.specs.Follows.{Follows}
use Rattle.cf_sequence.specs.Built.{is_condition, is_chain, next_local, is_statement, arms_fit}
use Rattle.cf_sequence.specs.Made.{Local, added, width, width_maybe, declared}
use Rattle.cf_sequence.specs.Expressions.{finished}
use Rattle.cf_sequence.specs.Statements.{statement, held, stepped}
use Rattle.cf_sequence.proofs.Following.{on, pull, pull-two, push, follows-then}
use Rattle.cf_sequence.proofs.Calling.{Bodies}
use Rattle.cf_sequence.proofs.Kept.{Kept, kept-all, Ready, ready-more, added-two}
use Rattle.cf_sequence.proofs.PlainSteps.{pick, runs_on, branch-steps}
use Rattle.cf_sequence.proofs.Operands.{H}
use Rattle.cf_sequence.proofs.Moving.{Later, later-same, all_gone, Held, held-kept, held-append, above-append, finished-steps, Moved, moved-count, moved-then, moved-kept, moved-ready, with_scope, Beyond, Owned, owned-kept, owned-opened, owned-closed}
use Rattle.cf_sequence.proofs.Lasting.{keeps-full}
use Rattle.cf_sequence.proofs.LastingCode.{value-keeps, holds-keeps}
use Rattle.cf_sequence.proofs.Tested.{tested, lasting-on, lasting-start, told-on}
use Rattle.cf_sequence.proofs.Fulls.{full-steps, condition-steps}
use Rattle.cf_sequence.proofs.Standing.{Open, inside_of, looped, turn_code, step_code, Stands, stands-later, EndsAs, Turns}
use Rattle.cf_sequence.proofs.Scopes.{Ways, Fallen, closing_scope, scope-closed, scope-gone, moved-out, Does, behind, stands-on}

module _ (again : calling.Again) (again' : running.Again) (P : Program) (bodies : Bodies again again' P)
    (chains : (name : Name) (f : Function) → function_named P name ≡ Some f → is_chain f.type ≡ true)
    (classless : P.classes ≡ []) (turns : Turns again again' P) (R C : SourceType) (plain-result : is_class R ≡ false)
    (A B : Type 0) (S : A → State → B → State → Type 0) where
  -- ---- loops

  module _ (how : LoopForm) (q e : MaybeCore) (body : Core) (m : ℕ) (ok : is_statement m (core.loop how q e body) ≡ true) (o : Open) (D : Beyond) (k : ℕ) (rest : Plains)
      (s : State) (f : Frame) (c : calling.Flow → Act A) (K : Flow → Act B) (st : Stands o D m k s f) (placed : arms_fit s.frame.count body ≡ true) (room : k + width (core.loop how q e body) ≤ f.count)
      (ways : (Ways again again' P bodies chains classless turns R C plain-result A B S) D m s f c K) (falls : (Fallen again again' P bodies chains classless turns R C plain-result A B S) D m o.here m c K rest s f) where
    abbrev the_loop : Core
    the_loop = core.loop how q e body

    abbrev SS : Plains
    SS = turn_code (inside_of P R C o) how q e body k

    abbrev EE : Plains
    EE = step_code (inside_of P R C o) how q e body k

    loop-ends : (t : State) (g : Frame) (h : Registers) (w : World) → Moved m s f t g → Held t g.locals m o.here t.frame.scope → Owned D.params D.own t
        → Follows S (c calling.Falls t w) (runs_on again' (H again again' P) rest h K (with_frame g t) w)
    loop-ends t g h w v held owned = falls t g h w v held (let a = moved-count m s f t g v in let low = st.low in omega arith) owned

    -- the loop is left with the scope that it began with
    loop-left : (t : State) (g : Frame) (h : Registers) (w : World) → Moved m s f t g → t.frame.scope ≡ s.frame.scope → Owned D.params D.own t
        → Follows S (c calling.Falls t w) (runs_on again' (H again again' P) rest h K (with_frame g t) w)
    loop-left t g h w v same owned =
        loop-ends t g h w v (subst (λ os. Held t g.locals m o.here os) (sym same) (held-kept s t f.locals g.locals m m o.here s.frame.scope v.later st.here (omega arith) v.below))
        owned

    turned-end : (t : State) (g : Frame) → Moved m s f t g → t.frame.scope ≡ s.frame.scope → (x : calling.Flow) (t2 : State) (y : Flow) (u : State) (w : World)
        (p : Frame) → Moved m t g t2 p → Owned D.params D.own t2 → EndsAs o.here m D p x t2 y u → Follows S (c x t2 w) ((behind again again' P bodies chains classless turns R C plain-result A B S) rest K y u w)
    turned-end t g v same calling.Falls t2 (Falls h) u w p v2 owned ends =
        subst (λ u. Follows S (c calling.Falls t2 w) (runs_on again' (H again again' P) rest h K u w)) (sym ends.1)
        (loop-ends t2 p h w (moved-then m m s f t g t2 p (omega arith) v v2) ends.0 owned)
    turned-end t g v same calling.Falls t2 (Breaks h) u w p v2 owned ends = absurd ends
    turned-end t g v same calling.Falls t2 (Continues h) u w p v2 owned ends = absurd ends
    turned-end t g v same calling.Falls t2 (Returns x) u w p v2 owned ends = absurd ends
    turned-end t g v same calling.Breaks t2 (Breaks h) u w p v2 owned ends =
        subst (λ u. Follows S (c calling.Breaks t2 w) (K (Breaks h) u w)) (sym ends) (ways.breaks t2 p h w (moved-then m m s f t g t2 p (omega arith) v v2) owned)
    turned-end t g v same calling.Breaks t2 (Falls h) u w p v2 owned ends = absurd ends
    turned-end t g v same calling.Breaks t2 (Continues h) u w p v2 owned ends = absurd ends
    turned-end t g v same calling.Breaks t2 (Returns x) u w p v2 owned ends = absurd ends
    turned-end t g v same calling.Continues t2 (Continues h) u w p v2 owned ends =
        subst (λ u. Follows S (c calling.Continues t2 w) (K (Continues h) u w)) (sym ends) (ways.continues t2 p h w (moved-then m m s f t g t2 p (omega arith) v v2) owned)
    turned-end t g v same calling.Continues t2 (Falls h) u w p v2 owned ends = absurd ends
    turned-end t g v same calling.Continues t2 (Breaks h) u w p v2 owned ends = absurd ends
    turned-end t g v same calling.Continues t2 (Returns x) u w p v2 owned ends = absurd ends
    turned-end t g v same (calling.Returns x) t2 (Falls h) u w p v2 owned ends = absurd ends
    turned-end t g v same (calling.Returns x) t2 (Breaks h) u w p v2 owned ends = absurd ends
    turned-end t g v same (calling.Returns x) t2 (Continues h) u w p v2 owned ends = absurd ends
    turned-end t g v same (calling.Returns x) t2 (Returns y) u w p v2 owned ends =
        subst (λ u. Follows S (c (calling.Returns x) t2 w) (K (Returns y) u w)) (sym ends.1)
        (subst (λ y. Follows S (c (calling.Returns x) t2 w) (K (Returns y) (with_frame p (all_gone (t2.frame.scope ++ D.returns) t2)) w)) ends.0
        (ways.returns x t2 p w (moved-then m m s f t g t2 p (omega arith) v v2) owned))

    -- the further turns
    further : (t : State) (g : Frame) (h : Registers) (w : World) → Moved m s f t g → t.frame.scope ≡ s.frame.scope → Owned D.params D.own t
        → Follows S (and_then (again (turn the_loop) t w) (on c)) (and_then (again' (running.turn SS EE h) (with_frame g t) w) (on ((behind again again' P bodies chains classless turns R C plain-result A B S) rest K)))
    further t g h w v same owned =
        let count : g.count ≡ f.count = ap (λ (x : Frame). x.count) v.plain in
        let st1 : Stands o D m k t g =
        stands-later o D m m k k o.here s f t g st v (omega arith) (let a = moved-count m s f t g v in let low = st.low in omega arith) (omega arith) (let wide = st.ready.wide in omega arith)
        (subst (λ os. Held t g.locals m o.here os) (sym same) (held-kept s t f.locals g.locals m m o.here s.frame.scope v.later st.here (omega arith) v.below)) owned st.above_here in
        follows-then (again (turn the_loop) t w) (again' (running.turn SS EE h) (with_frame g t) w) c ((behind again again' P bodies chains classless turns R C plain-result A B S) rest K)
        (turns.follow R C plain-result how q e body m ok o D k h t g w (subst (λ n. arms_fit n body ≡ true) (sym (moved-count m s f t g v)) placed) st1 (omega arith))
        (λ x t2 y u w2 r. turned-end t g v same x t2 y u w2 r.plain r.moved r.owned r.ends)

  abbrev still : State → World → Ran (Did (Unit {0}))
  still s w = Went (Gives tt s) w

  tick-steps : {V U : Type 0} (X : Act V) (Y : Act U) (c : V → Act A) (G : U → Act B) (s t : State) (n : ℕ) (w : World)
      → ((w : World) → Follows S (and_then (X s w) (on c)) (and_then (Y t w) (on G)))
      → Follows S (and_then (and_then (spend_of n w (still s)) (on (λ u. X))) (on c)) (and_then (and_then (spend_of n w (still t)) (on (λ u. Y))) (on G))
  tick-steps X Y c G s t zero w next = record { by = refl }
  tick-steps X Y c G s t (suc n) w next = next _

  -- ---- conditions and bodies of loops

  held-arm : (b : Bool) (rest : Plains) (h : Registers) (t : State) (g : Frame) (w : World) (c : Bool → Act A) (K : Flow → Act B)
      → Follows S (c true t w) (runs_on again' (H again again' P) rest h K (with_frame g t) w)
      → Follows S (c false t w) (K (Breaks h) (with_frame g t) w)
      → Follows S (c b t w) (runs_on again' (H again again' P) (pick b nothing (more leave nothing)) h ((behind again again' P bodies chains classless turns R C plain-result A B S) rest K) (with_frame g t) w)
  held-arm true rest h t g w c K holds fails = holds
  held-arm false rest h t g w c K holds fails = fails

  hold-steps : (q : MaybeCore) → is_condition q ≡ true → (k : ℕ) (rest : Plains) (g : Registers) (s : State) (f : Frame) (w : World) (c : Bool → Act A) (K : Flow → Act B)
      → Ready k s.frame f → s.frame.temporaries ≡ [] → k + width_maybe q ≤ f.count
      → ((t : State) (h : Registers) (f1 : Frame) (w : World) → t.frame ≡ s.frame → Kept k f f1 → Later s t → Follows S (c true t w) (runs_on again' (H again again' P) rest h K (with_frame f1 t) w))
      → ((t : State) (h : Registers) (f1 : Frame) (w : World) → t.frame ≡ s.frame → Kept k f f1 → Later s t → Follows S (c false t w) (K (Breaks h) (with_frame f1 t) w))
      → Follows S (and_then (does.holds again P q s w) (on c)) (runs_on again' (H again again' P) (held P.classes q k rest) g K (with_frame f s) w)
  hold-steps absent ok k rest g s f w c K ready empty room holds fails = holds s g f w refl (kept-all k f) (later-same s)
  hold-steps (given e) ok k rest g s f w c K ready empty room holds fails =
      lasting-on s.next s.object s.frame.scope s w (does.holds again P (given e)) (holds-keeps again P classless turns.rests s.next s.object s.frame.scope (given e) ok) (lasting-start s empty) c _
      (condition-steps again again' P bodies chains classless A B S e ok k (λ n. more (branch n nothing (more leave nothing)) rest) g s f w (tested s.next s.object c) K ready room
      (λ b t h f1 w1 at same kept.
      told-on s s.next s.object refl refl c b t w1 _ (λ later.
      branch-steps again' (H again again' P) b (0 + width e) nothing (more leave nothing) rest h K _ (with_frame f1 t) w1 at
      (held-arm b rest h t f1 w1 c K (holds t h f1 w1 same kept later) (fails t h f1 w1 same kept later)))))

  scope-turn : (os : List ℕ) (N : Act calling.Flow) (flow : calling.Flow) (t : State) (w : World) (c : calling.Flow → Act A) (y : Ran (Did B))
      → Follows S (and_then (does.turning N flow (with_scope os (all_gone t.frame.scope t)) w) (on c)) y
      → Follows S (and_then (((closing_scope again again' P bodies chains classless turns R C plain-result A B S) os flow >>= does.turning N) t w) (on c)) y
  scope-turn os N flow t w c y h =
      subst (λ r. Follows S (and_then (and_then r (on (does.turning N))) (on c)) y) (sym ((scope-closed again again' P bodies chains classless turns R C plain-result A B S) os flow t w)) h

  -- a loop's body in a scope of its own, and what comes behind it
  body-steps : (body : Core) → (Does again again' P bodies chains classless turns R C plain-result A B S) body → (m : ℕ) → is_statement m body ≡ true → (o : Open) (D : Beyond) (k : ℕ) (h : Registers) (s : State) (f : Frame) (t : State) (g : Frame) (w : World)
      (N : Act calling.Flow) (M : Registers → Act Flow) (c : calling.Flow → Act A) (K : Flow → Act B)
      → arms_fit t.frame.count body ≡ true → Stands o D m k t g → k + width body ≤ g.count
      → ((u : State) (g2 : Frame) (h2 : Registers) (w2 : World) → Moved m t g u g2 → u.frame.scope ≡ t.frame.scope → Owned D.params D.own u → Follows S (and_then (N u w2) (on c)) (and_then (M h2 (with_frame g2 u) w2) (on K)))
      → ((u : State) (g2 : Frame) (h2 : Registers) (w2 : World) → Moved m t g u g2 → u.frame.scope ≡ t.frame.scope → Owned D.params D.own u → Follows S (c calling.Falls u w2) (K (Falls h2) (with_frame g2 u) w2))
      → ((x : Value) (u : State) (g2 : Frame) (w2 : World) → Moved m t g u g2 → Owned D.params D.own u → Follows S (c (calling.Returns x) u w2) (K (Returns x) (with_frame g2 (all_gone (u.frame.scope ++ D.returns) u)) w2))
      → Follows S (and_then ((in_scope again P (does.does again P body) >>= does.turning N) t w) (on c))
      (runs_on again' (H again again' P) (statement (inside_of P R C (looped o)) body k (finished (declared body) nothing)) h (λ flow. turning M flow >>= K) (with_frame g t) w)
  body-steps body does-body m ok o D k h s f t g w N M c K fit st room after left gives-back =
      let os : List ℕ = t.frame.scope in
      let K1 : Flow → Act B = λ flow. turning M flow >>= K in
      let D1 : Beyond = record { breaks = []; continues = []; returns = os ++ D.returns; own = os ++ D.own; params = D.params } in
      let t0 : State = with_scope [] t in
      let opened-held : (ys : List Local) (ps : List ℕ) → Held t g.locals m ys ps → Held t0 g.locals m ys ps =
      λ ys ps held. held-kept t t0 g.locals g.locals m m ys ps (record { next = omega arith; gone = λ o lt e. e }) held (omega arith) (λ i lt. refl) in
      pull-two (does.does again P body (with_scope [] t) w) ((closing_scope again again' P bodies chains classless turns R C plain-result A B S) os) (does.turning N) c _
      (does-body m ok (looped o) D1 k (finished (declared body) nothing) h (with_scope [] t) g w (λ flow. ((closing_scope again again' P bodies chains classless turns R C plain-result A B S) os flow >>= does.turning N) >>= c) K1 fit
      (record {
        ready = record { alike = record { function = st.ready.alike.function; this = st.ready.alike.this; result = st.ready.alike.result; depth = st.ready.alike.depth }; count = st.ready.count; wide = st.ready.wide; locals = st.ready.locals };
        low = st.low;
        result = st.result;
        empty = st.empty;
        here = refl;
        breaks = refl;
        continues = refl;
        returns = held-append t0 g.locals m o.here o.returns os D.returns (opened-held o.here os st.here) (opened-held o.returns D.returns st.returns);
        own = held-append t0 g.locals m o.here o.own os D.own (opened-held o.here os st.here) (opened-held o.own D.own st.own);
        owned = owned-opened D.params D.own t st.owned;
        params = st.params;
        above_here = tt;
        above_own = above-append D.params o.here o.own st.above_here st.above_own;
      })
      room
      (record {
        breaks = λ u g2 h2 w2 v owned.
            scope-turn os N calling.Breaks u w2 c _
            (subst (λ xs. Follows S (c calling.Falls (with_scope os (all_gone u.frame.scope u)) w2) (K (Falls h2) (with_frame g2 (all_gone xs u)) w2)) (sym (append-nil u.frame.scope))
            (left (with_scope os (all_gone u.frame.scope u)) g2 h2 w2 ((moved-out again again' P bodies chains classless turns R C plain-result A B S) m t g u g2 v) refl (owned-closed D.params D.own os u owned)));
        continues = λ u g2 h2 w2 v owned.
            scope-turn os N calling.Continues u w2 c _
            (subst (λ xs. Follows S (and_then (N (with_scope os (all_gone u.frame.scope u)) w2) (on c)) (and_then (M h2 (with_frame g2 (all_gone xs u)) w2) (on K))) (sym (append-nil u.frame.scope))
            (after (with_scope os (all_gone u.frame.scope u)) g2 h2 w2 ((moved-out again again' P bodies chains classless turns R C plain-result A B S) m t g u g2 v) refl (owned-closed D.params D.own os u owned)));
        returns = λ x u g2 w2 v owned.
            scope-turn os N (calling.Returns x) u w2 c _
            (subst (λ z. Follows S (c (calling.Returns x) (with_scope os (all_gone u.frame.scope u)) w2) (K (Returns x) z w2))
            ((scope-gone again again' P bodies chains classless turns R C plain-result A B S) (os ++ D.returns) u.frame.scope u g2 (record (all_gone u.frame.scope u).frame { scope = os }))
            (gives-back x (with_scope os (all_gone u.frame.scope u)) g2 w2 ((moved-out again again' P bodies chains classless turns R C plain-result A B S) m t g u g2 v) (owned-closed D.params D.own os u owned)));
      })
      (λ u g2 h2 w2 v held-now low owned.
      finished-steps again' (H again again' P) classless A B S (declared body) u.frame.scope (next_local m body) nothing h2 K1 _ u g2 w2
      (subst (λ ys. Held u g2.locals (next_local m body) ys u.frame.scope) (append-nil (declared body)) held-now)
      (scope-turn os N calling.Falls u w2 c _
      (after (with_scope os (all_gone u.frame.scope u)) g2 h2 w2 ((moved-out again again' P bodies chains classless turns R C plain-result A B S) m t g u g2 v) refl (owned-closed D.params D.own os u owned)))))

  pub maybe-width : (q : MaybeCore) → length (added (nodes_maybe q)) ≡ width_maybe q
  maybe-width absent = refl
  maybe-width (given e) = refl

  loop-room : (k c : ℕ) (q e : MaybeCore) (body : Core) → k + length (added (nodes_maybe q ++ nodes_maybe e ++ nodes body)) ≤ c
      → (k + width_maybe q + width_maybe e) + width body ≤ c
  loop-room k c q e body room =
      let a = added-two (nodes_maybe q ++ nodes_maybe e) (nodes body) in let b = added-two (nodes_maybe q) (nodes_maybe e) in
      let x = maybe-width q in let y = maybe-width e in omega arith

  -- the step of a loop, and its further turns
  step-steps : (how : LoopForm) (q e : MaybeCore) (body : Core) (m : ℕ) (ok : is_statement m (core.loop how q e body) ≡ true) (o : Open) (D : Beyond) (k : ℕ) (rest : Plains)
      (s : State) (f : Frame) (c : calling.Flow → Act A) (K : Flow → Act B) (st : Stands o D m k s f) (placed : arms_fit s.frame.count body ≡ true) (room : k + width (core.loop how q e body) ≤ f.count)
      (ways : (Ways again again' P bodies chains classless turns R C plain-result A B S) D m s f c K) (falls : (Fallen again again' P bodies chains classless turns R C plain-result A B S) D m o.here m c K rest s f)
      → is_condition e ≡ true → step_code (inside_of P R C o) how q e body k ≡ stepped P.classes e (k + width_maybe q)
      → (u : State) (g2 : Frame) (h2 : Registers) (w2 : World) → Moved m s f u g2 → u.frame.scope ≡ s.frame.scope → Owned D.params D.own u
      → Follows S (and_then (does.step_and again P e (again (turn (core.loop how q e body))) u w2) (on c))
      (and_then ((all again' (H again again' P) (step_code (inside_of P R C o) how q e body k) h2
      >>= turning (λ h. again' (running.turn (turn_code (inside_of P R C o) how q e body k) (step_code (inside_of P R C o) how q e body k) h))) (with_frame g2 u) w2) (on ((behind again again' P bodies chains classless turns R C plain-result A B S) rest K)))
  step-steps how q absent body m ok o D k rest s f c K st placed room ways falls good is-step u g2 h2 w2 v scope owned =
      let AG : Registers → Act Flow = λ h. again' (running.turn (turn_code (inside_of P R C o) how q absent body k) (step_code (inside_of P R C o) how q absent body k) h) in
      subst (λ code. Follows S (and_then (again (turn (core.loop how q absent body)) u w2) (on c)) (and_then ((all again' (H again again' P) code h2 >>= turning AG) (with_frame g2 u) w2) (on ((behind again again' P bodies chains classless turns R C plain-result A B S) rest K))))
      (sym is-step) (further how q absent body m ok o D k rest s f c K st placed room ways falls u g2 h2 w2 v scope owned)
  step-steps how q (given e) body m ok o D k rest s f c K st placed room ways falls good is-step u g2 h2 w2 v scope owned =
      let body-room : (k + width_maybe q + width e) + width body ≤ f.count = loop-room k f.count q (given e) body room in
      let count : g2.count ≡ f.count = ap (λ (x : Frame). x.count) v.plain in
      let AG : Registers → Act Flow = λ h. again' (running.turn (turn_code (inside_of P R C o) how q (given e) body k) (step_code (inside_of P R C o) how q (given e) body k) h) in
      let ready : Ready (k + width_maybe q) u.frame g2 = ready-more k (k + width_maybe q) u.frame g2 (omega arith) (omega arith) (moved-ready m k s f u g2 st.ready v) in
      subst (λ code. Follows S (and_then ((full_expression again P (meaning.value again P e None) >> again (turn (core.loop how q (given e) body))) u w2) (on c))
      (and_then ((all again' (H again again' P) code h2 >>= turning AG) (with_frame g2 u) w2) (on ((behind again again' P bodies chains classless turns R C plain-result A B S) rest K)))) (sym is-step)
      (pull (full_expression again P (meaning.value again P e None) u w2) (λ x. again (turn (core.loop how q (given e) body))) c _
      (lasting-on u.next u.object u.frame.scope u w2 (full_expression again P (meaning.value again P e None))
      (keeps-full u.next u.object u.frame.scope again P classless (meaning.value again P e None) (value-keeps again P classless turns.rests u.next u.object u.frame.scope e good None))
      (lasting-start u (ap (λ (x : Frame). x.temporaries) v.core ∙ st.empty)) (λ x. again (turn (core.loop how q (given e) body)) >>= c) _
      (push (all again' (H again again' P) (stepped P.classes (given e) (k + width_maybe q)) h2 (with_frame g2 u) w2) (turning AG) ((behind again again' P bodies chains classless turns R C plain-result A B S) rest K) _
      (full-steps again again' P bodies chains classless A B S e good None None 0 (k + width_maybe q) (λ n. nothing) h2 u g2 w2 (tested u.next u.object (λ x. again (turn (core.loop how q (given e) body)) >>= c))
      (λ flow. turning AG flow >>= (behind again again' P bodies chains classless turns R C plain-result A B S) rest K) ready (omega arith) (λ x t h f1 w1 done.
      told-on u u.next u.object refl refl (λ x. again (turn (core.loop how q (given e) body)) >>= c) x t w1 _ (λ later.
      further how q (given e) body m ok o D k rest s f c K st placed room ways falls t f1 h w1
      (moved-then m m s f u g2 t f1 (omega arith) v (moved-kept m (k + width_maybe q) u g2 t f1 (let l = st.low in let c1 = st.ready.count in omega arith) ready done.frame done.kept later))
      (ap (λ (x : Frame). x.scope) done.frame ∙ scope) (owned-kept D.params D.own u t owned done.frame later)))))))

  -- where each turn begins with the condition
  pub loop-first : (q e : MaybeCore) (body : Core) → (Does again again' P bodies chains classless turns R C plain-result A B S) body → (how : LoopForm) (m : ℕ) (ok : is_statement m (core.loop how q e body) ≡ true) (o : Open) (D : Beyond) (k : ℕ) (rest : Plains)
      (g : Registers) (s : State) (f : Frame) (w : World) (c : calling.Flow → Act A) (K : Flow → Act B) (st : Stands o D m k s f) (placed : arms_fit s.frame.count body ≡ true) (room : k + width (core.loop how q e body) ≤ f.count)
      (ways : (Ways again again' P bodies chains classless turns R C plain-result A B S) D m s f c K) (falls : (Fallen again again' P bodies chains classless turns R C plain-result A B S) D m o.here m c K rest s f)
      → turn_code (inside_of P R C o) how q e body k ≡ held P.classes q k (statement (inside_of P R C (looped o)) body (k + width_maybe q + width_maybe e) (finished (declared body) nothing))
      → step_code (inside_of P R C o) how q e body k ≡ stepped P.classes e (k + width_maybe q)
      → Follows S
      (and_then ((does.holds again P q >>= (λ t. when t (in_scope again P (does.does again P body) >>= does.turning (does.step_and again P e (again (turn (core.loop how q e body))))) (gives calling.Falls))) s w) (on c))
      (runs_on again' (H again again' P) (turn_code (inside_of P R C o) how q e body k) g
      (λ flow. turning (λ h. all again' (H again again' P) (step_code (inside_of P R C o) how q e body k) h >>= turning (λ h. again' (running.turn (turn_code (inside_of P R C o) how q e body k) (step_code (inside_of P R C o) how q e body k) h))) flow >>= (behind again again' P bodies chains classless turns R C plain-result A B S) rest K)
      (with_frame f s) w)
  loop-first q e body does-body how m ok o D k rest g s f w c K st placed room ways falls is-turn is-step =
      let conditions = both (is_condition q) (is_condition e && is_statement m body) ok in
      let parts = both (is_condition e) (is_statement m body) conditions.1 in
      let body-room : (k + width_maybe q + width_maybe e) + width body ≤ f.count = loop-room k f.count q e body room in
      let SS : Plains = turn_code (inside_of P R C o) how q e body k in
      let EE : Plains = step_code (inside_of P R C o) how q e body k in
      let AG : Registers → Act Flow = λ h. again' (running.turn SS EE h) in
      let M : Registers → Act Flow = λ h. all again' (H again again' P) EE h >>= turning AG in
      let K1 : Flow → Act B = λ flow. turning M flow >>= (behind again again' P bodies chains classless turns R C plain-result A B S) rest K in
      let N : Act calling.Flow = does.step_and again P e (again (turn (core.loop how q e body))) in
      subst (λ code. Follows S (and_then ((does.holds again P q >>= (λ t. when t (in_scope again P (does.does again P body) >>= does.turning N) (gives calling.Falls))) s w) (on c))
      (runs_on again' (H again again' P) code g K1 (with_frame f s) w)) (sym is-turn)
      (pull (does.holds again P q s w) (λ t. when t (in_scope again P (does.does again P body) >>= does.turning N) (gives calling.Falls)) c _
      (hold-steps q conditions.0 k (statement (inside_of P R C (looped o)) body (k + width_maybe q + width_maybe e) (finished (declared body) nothing)) g s f w
      (λ t. when t (in_scope again P (does.does again P body) >>= does.turning N) (gives calling.Falls) >>= c) K1 st.ready st.empty (omega arith)
      (λ t h g1 w1 same kept later.
      let on-turn = (stands-on again again' P bodies chains classless turns R C plain-result A B S) o D m k (k + width_maybe q + width_maybe e) s f t g1 st same kept later (omega arith) (omega arith) in
      let count : g1.count ≡ f.count = ap (λ (x : Frame). x.count) kept.frame in
      let scope-same : t.frame.scope ≡ s.frame.scope = ap (λ (x : Frame). x.scope) same in
      body-steps body does-body m parts.1 o D (k + width_maybe q + width_maybe e) h s f t g1 w1 N M c ((behind again again' P bodies chains classless turns R C plain-result A B S) rest K) (subst (λ n. arms_fit n body ≡ true) (sym (moved-count m s f t g1 on-turn.0)) placed) on-turn.1 (omega arith)
      (λ u g2 h2 w2 v scope owned.
      step-steps how q e body m ok o D k rest s f c K st placed room ways falls parts.0 is-step u g2 h2 w2 (moved-then m m s f t g1 u g2 (omega arith) on-turn.0 v) (scope ∙ scope-same) owned)
      (λ u g2 h2 w2 v scope owned. loop-left how q e body m ok o D k rest s f c K st placed room ways falls u g2 h2 w2 (moved-then m m s f t g1 u g2 (omega arith) on-turn.0 v) (scope ∙ scope-same) owned)
      (λ x u g2 w2 v owned. ways.returns x u g2 w2 (moved-then m m s f t g1 u g2 (omega arith) on-turn.0 v) owned))
      (λ t h g1 w1 same kept later.
      let on-turn = (stands-on again again' P bodies chains classless turns R C plain-result A B S) o D m k k s f t g1 st same kept later (omega arith) (let wide = st.ready.wide in omega arith) in
      loop-left how q e body m ok o D k rest s f c K st placed room ways falls t g1 h w1 on-turn.0 (ap (λ (x : Frame). x.scope) same) on-turn.1.owned)))

  -- where each turn ends with the condition
  pub loop-last : (q e : MaybeCore) (body : Core) → (Does again again' P bodies chains classless turns R C plain-result A B S) body → (m : ℕ) (ok : is_statement m (core.loop form.Do q e body) ≡ true) (o : Open) (D : Beyond) (k : ℕ) (rest : Plains)
      (g : Registers) (s : State) (f : Frame) (w : World) (c : calling.Flow → Act A) (K : Flow → Act B) (st : Stands o D m k s f) (placed : arms_fit s.frame.count body ≡ true) (room : k + width (core.loop form.Do q e body) ≤ f.count)
      (ways : (Ways again again' P bodies chains classless turns R C plain-result A B S) D m s f c K) (falls : (Fallen again again' P bodies chains classless turns R C plain-result A B S) D m o.here m c K rest s f)
      → Follows S
      (and_then ((in_scope again P (does.does again P body) >>= does.turning (does.holds again P q >>= (λ t. when t (again (turn (core.loop form.Do q e body))) (gives calling.Falls)))) s w) (on c))
      (runs_on again' (H again again' P) (turn_code (inside_of P R C o) form.Do q e body k) g
      (λ flow. turning (λ h. all again' (H again again' P) (step_code (inside_of P R C o) form.Do q e body k) h >>= turning (λ h. again' (running.turn (turn_code (inside_of P R C o) form.Do q e body k) (step_code (inside_of P R C o) form.Do q e body k) h))) flow >>= (behind again again' P bodies chains classless turns R C plain-result A B S) rest K)
      (with_frame f s) w)
  loop-last q e body does-body m ok o D k rest g s f w c K st placed room ways falls =
      let conditions = both (is_condition q) (is_condition e && is_statement m body) ok in
      let parts = both (is_condition e) (is_statement m body) conditions.1 in
      let body-room : (k + width_maybe q + width_maybe e) + width body ≤ f.count = loop-room k f.count q e body room in
      let SS : Plains = turn_code (inside_of P R C o) form.Do q e body k in
      let EE : Plains = step_code (inside_of P R C o) form.Do q e body k in
      let AG : Registers → Act Flow = λ h. again' (running.turn SS EE h) in
      let M : Registers → Act Flow = λ h. all again' (H again again' P) EE h >>= turning AG in
      let N : Act calling.Flow = does.holds again P q >>= (λ t. when t (again (turn (core.loop form.Do q e body))) (gives calling.Falls)) in
      let l : ℕ = k + width_maybe q + width_maybe e in
      let st1 : Stands o D m l s f = record {
        ready = ready-more k l s.frame f (omega arith) (omega arith) st.ready;
        low = st.low;
        result = st.result;
        empty = st.empty;
        here = st.here;
        breaks = st.breaks;
        continues = st.continues;
        returns = st.returns;
        own = st.own;
        owned = st.owned;
        params = st.params;
        above_here = st.above_here;
        above_own = st.above_own;
      } in
      body-steps body does-body m parts.1 o D l g s f s f w N M c ((behind again again' P bodies chains classless turns R C plain-result A B S) rest K) placed st1 body-room
      (λ u g2 h2 w2 v scope owned.
      let count : g2.count ≡ f.count = ap (λ (x : Frame). x.count) v.plain in
      pull (does.holds again P q u w2) (λ t. when t (again (turn (core.loop form.Do q e body))) (gives calling.Falls)) c _
      (push (all again' (H again again' P) EE h2 (with_frame g2 u) w2) (turning AG) ((behind again again' P bodies chains classless turns R C plain-result A B S) rest K) _
      (hold-steps q conditions.0 k nothing h2 u g2 w2 (λ t. when t (again (turn (core.loop form.Do q e body))) (gives calling.Falls) >>= c) (λ flow. turning AG flow >>= (behind again again' P bodies chains classless turns R C plain-result A B S) rest K)
      (moved-ready m k s f u g2 st.ready v) (ap (λ (x : Frame). x.temporaries) v.core ∙ st.empty) (omega arith)
      (λ t h f1 w1 same kept lasts.
      let later = moved-kept m k u g2 t f1 (let low = st.low in let c1 = st.ready.count in omega arith) (moved-ready m k s f u g2 st.ready v) same kept lasts in
      further form.Do q e body m ok o D k rest s f c K st placed room ways falls t f1 h w1 (moved-then m m s f u g2 t f1 (omega arith) v later) (ap (λ (x : Frame). x.scope) same ∙ scope) (owned-kept D.params D.own u t owned same lasts))
      (λ t h f1 w1 same kept lasts.
      let later = moved-kept m k u g2 t f1 (let low = st.low in let c1 = st.ready.count in omega arith) (moved-ready m k s f u g2 st.ready v) same kept lasts in
      loop-left form.Do q e body m ok o D k rest s f c K st placed room ways falls t f1 h w1 (moved-then m m s f u g2 t f1 (omega arith) v later) (ap (λ (x : Frame). x.scope) same ∙ scope) (owned-kept D.params D.own u t owned same lasts)))))
      (λ u g2 h2 w2 v scope owned. loop-left form.Do q e body m ok o D k rest s f c K st placed room ways falls u g2 h2 w2 v scope owned)
      (λ x u g2 w2 v owned. ways.returns x u g2 w2 v owned)

  -- a loop spends a tick, and is followed by what stands behind it
  pub loop-whole : (how : LoopForm) (q e : MaybeCore) (body : Core) (m : ℕ) (rest : Plains) (g : Registers) (u : State) (w : World) (c : calling.Flow → Act A) (K : Flow → Act B) (o : Open) (k : ℕ)
      (X : Act calling.Flow) (s : State)
      → ((w : World) → Follows S (and_then (X s w) (on c)) (runs_on again' (H again again' P) (turn_code (inside_of P R C o) how q e body k) g
      (λ flow. turning (λ h. all again' (H again again' P) (step_code (inside_of P R C o) how q e body k) h >>= turning (λ h. again' (running.turn (turn_code (inside_of P R C o) how q e body k) (step_code (inside_of P R C o) how q e body k) h))) flow >>= (behind again again' P bodies chains classless turns R C plain-result A B S) rest K) u w))
      → Follows S (and_then ((tick >> X) s w) (on c))
      (runs_on again' (H again again' P) (more (loop (turn_code (inside_of P R C o) how q e body k) (step_code (inside_of P R C o) how q e body k)) rest) g K u w)
  loop-whole how q e body m rest g u w c K o k X s next =
      let SS : Plains = turn_code (inside_of P R C o) how q e body k in
      let EE : Plains = step_code (inside_of P R C o) how q e body k in
      let T : Flow → Act Flow = λ flow. turning (λ h. all again' (H again again' P) EE h >>= turning (λ h. again' (running.turn SS EE h))) flow in
      push (running.does again' (H again again' P) (loop SS EE) g u w) (falling (λ h. all again' (H again again' P) rest h)) K _
      (tick-steps X (all again' (H again again' P) SS g >>= T) c ((behind again again' P bodies chains classless turns R C plain-result A B S) rest K) s u w.ticks w (λ w.
      push (all again' (H again again' P) SS g u w) T ((behind again again' P bodies chains classless turns R C plain-result A B S) rest K) _ (next w)))
