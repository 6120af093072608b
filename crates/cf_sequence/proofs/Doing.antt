-- The plain statements of a statement do what the statement does.
use Rattle.std.proofs.Common.{◌≡◌, ℕ, suc, ◌+◌, ◌≤◌, ◌<◌, Bool, true, false, not, ◌&&◌, ◌||◌, nat_lt, nat_le, ◌==◌, List, [], ◌∷◌, ◌++◌, length, refl, sym, ◌∙◌, ap, subst, arith, append_assoc, if◌then◌else◌}
use Rattle.std.specs.Prelude.{Some, None}
use Rattle.cf_base.proofs.Tests.{both}
use Rattle.cf_base.specs.World.{World, Ran, and_then}
use Rattle.cf_core.specs.declared.operators.LoopForm.TheVariants as form
use Rattle.cf_core.specs.Types.{SourceType, Name, is_class}
use Rattle.cf_core.specs.Core as core
use Rattle.cf_core.specs.Core.{Core, Cores, MaybeCore, Function, local_temporary, none, absent, given}
use Rattle.cf_core.specs.Nodes.{nodes, nodes_all, nodes_maybe}
use Rattle.cf_core.specs.Store.{Value, Nothing, At, new_object, automatic}
use Rattle.std.proofs.lemmas.Bool.Decides.{nat_tests}
use Rattle.cf_core.specs.Run.{State, Frame, Did, Act, ◌>>=◌, ◌>>◌, gives, malformed, some_or, valid, when, declared_object, frame_changed, lists_local, lists_in_scope, with_frame}
use Rattle.cf_core.specs.Joined.{is_nothing}
use Rattle.cf_core.specs.Access.{used}
use Rattle.cf_core.specs.Scalars.{truth_of}
use Rattle.cf_core.specs.Objects.{new_local}
use Rattle.cf_core.specs.Calls as calling
use Rattle.cf_core.specs.Calls.{Program, root, turn, function_named, end_object, in_scope, full_expression}
use Rattle.cf_core.specs.Expressions as meaning
use Rattle.cf_core.specs.Statements as does
use Rattle.cf_plain.specs.Plain.{Register, Plain, Plains, act, set, branch, loop, leave, continue, give, nothing, more}
use Rattle.cf_plain.specs.Plain as plain
use Rattle.cf_plain.specs.Acts.{Registers}
use Rattle.cf_plain.specs.Running as running
use Rattle.cf_plain.specs.Running.{Flow, Falls, Breaks, Continues, Returns, keep, falling, turning, all}
use Rattle.cf_sequence.specs.Follows.{Follows}
use Rattle.cf_sequence.specs.Built.{is_value, is_initial, is_list, is_element, is_held, is_chain, next_local, next_local_or, next_locals, is_statement, is_statement_or, are_cases, are_statements, arms_fit, or_arms_fit, all_arms_fit, none_passed}
use Rattle.cf_sequence.specs.Made.{Local, added, width, width_maybe, declared, declared_maybe, declared_all, held_by}
use Rattle.cf_sequence.specs.Expressions.{finished, whole, value, used as use_of}
use Rattle.cf_sequence.specs.Statements.{statement, statement_or, statements, started, returned}
use Rattle.cf_sequence.proofs.Following.{on, pull}
use Rattle.cf_sequence.proofs.Calling.{Bodies, never}
use Rattle.cf_sequence.proofs.Kept.{Kept, Ready, kept-all, added-two, keep-same, listed-there}
use Rattle.cf_sequence.proofs.PlainSteps.{Usable, pick, runs_on, branch-steps, declare-steps}
use Rattle.cf_sequence.proofs.Operands.{H, first-room, second-room}
use Rattle.cf_sequence.proofs.Filling.{element-holds}
use Rattle.cf_sequence.proofs.Lists.{Intact, initial-steps}
use Rattle.cf_sequence.proofs.Elements.{nested-steps}
use Rattle.cf_sequence.proofs.Moving.{Later, later-same, later-then, all_gone, Held, held-more, held-kept, held-append, held-parts, held-over, all-over-later, AllAbove, above-append, above-less, finished-steps, Moved, moved-count, moved-then, with_scope, Beyond, owned-opened, owned-closed, owned-more}
use Rattle.cf_sequence.proofs.Lasting.{keeps-full, Newer}
use Rattle.cf_sequence.proofs.LastingCode.{value-keeps, holds-keeps, used-full, settled-keeps, initial-keeps, element-keeps}
use Rattle.cf_sequence.proofs.Tested.{tested, lasting-on, lasting-start, told-on}
use Rattle.cf_sequence.proofs.Fulls.{nothing-is, full-steps, condition-steps, used-steps}
use Rattle.cf_sequence.proofs.Standing.{Open, inside_of, opened, Stands, stands-later, moved-all, settled_full, result_act, behind-element, next-more, next-more-or, next-within, declared-above, maybe-above, declared-below, maybe-below, all-over, low-bound, Turns}
use Rattle.cf_sequence.proofs.Scopes.{Ways, ways-later, Fallen, fall-on, lasts-on, told, closing_scope, moved-out, within, block-ways, close-steps, Does, by-or, behind, ways-behind, stands-on}
use Rattle.cf_sequence.proofs.Passing.{declared-state, declared-later, declared-moved, low-number}
use Rattle.cf_sequence.proofs.References.{declared-ready, held-declaration}
use Rattle.cf_sequence.proofs.Switching.{DoAll, switch-steps}
use Rattle.cf_sequence.proofs.Loops.{loop-first, loop-last, loop-whole, maybe-width}

module _ (again : calling.Again) (again' : running.Again) (P : Program) (bodies : Bodies again again' P)
    (chains : (name : Name) (f : Function) → function_named P name ≡ Some f → is_chain f.type ≡ true)
    (classless : P.classes ≡ []) (turns : Turns again again' P) (R C : SourceType) (plain-result : is_class R ≡ false)
    (A B : Type 0) (S : A → State → B → State → Type 0) where
  -- ---- declarations

  -- the local is declared and falls through
  declared-falls : (i k o : ℕ) (T : SourceType) (m : ℕ) (op : Open) (D : Beyond) (rest : Plains) (s : State) (f : Frame) (c : calling.Flow → Act A) (K : Flow → Act B)
      → o ≡ s.next → Stands op D m k s f → nat_le m i ≡ true → nat_lt i s.frame.count ≡ true → (xs : List Local) → xs ≡ [] → (Fallen again again' P bodies chains classless turns R C plain-result A B S) D (suc i) ((record { number = i; type = T } ∷ xs) ++ op.here) m c K rest s f
      → (t : State) (g : Frame) (h : Registers) (w : World) → t.frame ≡ lists_local i o s.frame → Kept k (lists_local i o f) g → Later s t → o < t.next
      → Follows S (c calling.Falls (with_frame (lists_in_scope o t.frame) t) w) (runs_on again' (H again again' P) rest h K (with_frame g t) w)
  declared-falls i k o T m op D rest s f c K o_is st le lt xs empty falls t g h w same kept later new =
      let le2 : m ≤ i = low-bound m i le in
      let lt2 : suc i ≤ s.frame.count = low-number i s.frame.count lt in
      let c1 = st.ready.count in
      let p1 = st.params in
      let v = declared-moved m i k o s f t g le2 (omega arith) st.ready same kept later in
      let z : State = with_frame (lists_in_scope o t.frame) t in
      falls z g h w v
      (subst (λ ys. Held z g.locals (suc i) ((record { number = i; type = T } ∷ ys) ++ op.here) (o ∷ t.frame.scope)) (sym empty)
      (held-more z g.locals (suc i) (record { number = i; type = T }) op.here o t.frame.scope (kept.below i (omega arith) ∙ listed-there i o f) (omega arith)
      (subst (λ (e : Frame). Held z g.locals (suc i) op.here e.scope) (sym same) (held-kept s z f.locals g.locals m (suc i) op.here s.frame.scope v.later st.here (omega arith) v.below))))
      (let a = moved-count m s f z g v in omega arith)
      (owned-more D.params D.own s z i o st.owned (omega arith) (omega arith) new v.later (ap (λ (e : Frame). lists_in_scope o e) same))

  -- an object that is there now
  intact-now : (i : ℕ) (T : SourceType) (s : State) → Intact T s.next (declared-state i T s)
  intact-now i T s =
      let same : (s.next == s.next) ≡ true = grind (arith, nat_tests) in
      record {
        below = omega arith;
        type = ap (λ b. (if b then new_object T automatic else s.object s.next).type) same;
        life = ap (λ b. (if b then new_object T automatic else s.object s.next).life) same;
        stands = ap (λ b. (if b then new_object T automatic else s.object s.next).is_gone) same;
      }

  -- an initialiser of the local's object
  local-steps : (i : ℕ) (T : SourceType) (e : Core) → is_element T e ≡ true → (k : ℕ) (rest : Plains) (h : Registers) (r : State) (f : Frame) (w : World) (c : Unit {0} → Act A) (K : Flow → Act B)
      → h 0 ≡ Some (At (root r.next)) → Ready k (declared-state i T r).frame f → r.frame.temporaries ≡ [] → k + width e ≤ f.count
      → ((t : State) (h1 : Registers) (g : Frame) (w : World) → t.frame ≡ (declared-state i T r).frame → Kept k f g → Later r t → r.next < t.next → Follows S (c tt t w) (runs_on again' (H again again' P) rest h1 K (with_frame g t) w))
      → Follows S (and_then (settled_full again P (root r.next) e (declared-state i T r) w) (on c)) (runs_on again' (H again again' P) (started P.classes T e 0 k rest) h K (with_frame f (declared-state i T r)) w)
  local-steps i T e ok k rest h r f w c K at ready empty room next =
      let o : ℕ = r.next in
      let s : State = declared-state i T r in
      let other : (p : ℕ) → p < o → p == o ≡ false = λ p lt. grind (arith, nat_tests, lt) in
      (by-or again again' P bodies chains classless turns R C plain-result A B S) (is_initial e) (is_list T e) ok
      (λ initial.
      lasting-on s.next s.object s.frame.scope s w (settled_full again P (root o) e)
      (settled-keeps again P classless turns.rests s.next s.object s.frame.scope e (root o) (initial-keeps again P classless turns.rests s.next s.object s.frame.scope e initial (root o)))
      (lasting-start s empty) c _
      (initial-steps again again' P bodies chains classless A B S T e initial 0 k (root o) rest h s f w (tested s.next s.object c) K at ready room (λ t h1 g w1 same kept below.
      told-on s s.next s.object refl refl c tt t w1 _ (λ later.
      next t h1 g w1 same kept (later-then r s t (declared-later i T r) later) (let a = later.next in omega arith)))))
      (λ is.
      lasting-on o r.object s.frame.scope s w (settled_full again P (root o) e)
      (settled-keeps again P classless turns.rests o r.object s.frame.scope e (root o) (element-keeps again P classless turns.rests o r.object s.frame.scope T e ok (root o) (omega arith)))
      (record {
        next = omega arith;
        objects = λ p lt. record {
          type = ap (λ b. (if b then new_object T automatic else r.object p).type) (other p lt);
          life = ap (λ b. (if b then new_object T automatic else r.object p).life) (other p lt);
          gone = ap (λ b. (if b then new_object T automatic else r.object p).is_gone) (other p lt);
        };
        temporaries = subst (Newer o) (sym empty) tt;
        scope = record { newer = []; parts = refl; new = tt };
      }) c _
      (nested-steps again again' P bodies chains classless turns.rests A B S T e is T 0 k (root o) rest h s f w (tested o r.object c) K at ready room (intact-now i T r) (record { type = refl; inside = refl })
      (λ t h1 g w1 same kept below stands1.
      told-on r o r.object refl refl c tt t w1 _ (λ later. next t h1 g w1 same kept later stands1.below))))

  declaration : (i : ℕ) (T : SourceType) (e : Core) (m : ℕ) → nat_le m i ≡ true → is_element T e ≡ true → (op : Open) (D : Beyond) (k : ℕ) (rest : Plains) (g : Registers) (s : State) (f : Frame) (w : World)
      (c : calling.Flow → Act A) (K : Flow → Act B)
      → Stands op D m k s f → k + width e ≤ f.count → (Fallen again again' P bodies chains classless turns R C plain-result A B S) D (suc i) ((record { number = i; type = T } ∷ held_by e) ++ op.here) m c K rest s f
      → (b : Bool) → nat_lt i s.frame.count ≡ b
      → Follows S (and_then ((valid b >> (declared_object T >>= (λ o. frame_changed (lists_local i o) >> gives o))) s w)
      (on (λ o. (settled_full again P (root o) e >> frame_changed (lists_in_scope o)) >>= (λ u. c calling.Falls))))
      (runs_on again' (H again again' P) (more (set 0 (plain.declare i T)) (started P.classes T e 0 k rest)) g K (with_frame f s) w)
  declaration i T e m le ok op D k rest g s f w c K st room falls false lt = record { by = tt }
  declaration i T e m le ok op D k rest g s f w c K st room falls true lt =
      let o : ℕ = s.next in
      let s1 : State = declared-state i T s in
      let f1 : Frame = lists_local i o f in
      let h1 : Registers = keep g 0 (At (root o)) in
      declare-steps again' (H again again' P) i T 0 (started P.classes T e 0 k rest) g K _ s f w (let a = low-number i s.frame.count lt in let c1 = st.ready.count in let c2 = st.ready.wide in omega arith)
      (pull (settled_full again P (root o) e s1 w) (λ u. frame_changed (lists_in_scope o)) (λ u. c calling.Falls) _
      (local-steps i T e ok k rest h1 s f1 w (λ u. frame_changed (lists_in_scope o) >>= (λ u. c calling.Falls)) K (keep-same 0 g (At (root o))) (declared-ready i k o s.frame f st.ready) st.empty room
      (λ t h f2 w2 same kept later new. declared-falls i k o T m op D rest s f c K refl st le lt (held_by e) (element-holds T e ok) falls t f2 h w2 same kept later new)))

  abbrev DoesMaybe : MaybeCore → Type 0
  DoesMaybe absent = Unit {0}
  DoesMaybe (given s) = (Does again again' P bodies chains classless turns R C plain-result A B S) s

  -- One arm or the other: behind it the locals of both count as declared, and those of the other one are over.
  one-arm : (t : Bool) (a : Core) (b : MaybeCore) → (Does again again' P bodies chains classless turns R C plain-result A B S) a → DoesMaybe b → (m : ℕ) → is_statement m a ≡ true → is_statement_or (next_local m a) b ≡ true
      → (o : Open) (D : Beyond) (l n : ℕ) (rest : Plains) (h : Registers) (s : State) (f : Frame) (u : State) (g : Frame) (w : World) (c : calling.Flow → Act A) (K : Flow → Act B)
      → arms_fit u.frame.count a ≡ true → or_arms_fit u.frame.count b ≡ true → next_local_or (next_local m a) b ≤ u.frame.count
      → Moved m s f u g → Stands o D m l u g → Stands o D m n u g → l + width a ≤ g.count → n + width_maybe b ≤ g.count → (Ways again again' P bodies chains classless turns R C plain-result A B S) D m s f c K
      → (Fallen again again' P bodies chains classless turns R C plain-result A B S) D (next_local_or (next_local m a) b) ((declared_maybe b ++ declared a) ++ o.here) m c K rest s f
      → Follows S (and_then (when t (does.does again P a) (does.does_maybe again P b) u w) (on c))
      (runs_on again' (H again again' P) (pick t (statement (inside_of P R C o) a l nothing) (statement_or (inside_of P R C o) b n nothing)) h ((behind again again' P bodies chains classless turns R C plain-result A B S) rest K) (with_frame g u) w)
  one-arm true a b does-a does-b m ok ok-b o D l n rest h s f u g w c K fit-a fit-b within_count v st1 st2 room-a room-b ways falls =
      let na : ℕ = next_local m a in
      let N : ℕ = next_local_or na b in
      let na_more : m ≤ na = next-more m a ok in
      let n_more : na ≤ N = next-more-or na b ok-b in
      does-a m ok o D l nothing h u g w c ((behind again again' P bodies chains classless turns R C plain-result A B S) rest K) fit-a st1 room-a ((ways-behind again again' P bodies chains classless turns R C plain-result A B S) rest D m u g c K ((ways-later again again' P bodies chains classless turns R C plain-result A B S) D m m s f u g c K (omega arith) v ways))
      (λ u2 g2 h2 w2 v2 held low owned.
      let count : u2.frame.count ≡ u.frame.count = moved-count m u g u2 g2 v2 in
      let plain : g2.count ≡ g.count = ap (λ (x : Frame). x.count) v2.plain in
      let wide = st1.ready.wide in
      let above : AllAbove D.params (declared a ++ o.here) = above-append D.params (declared a) o.here (above-less m D.params (declared a) st1.params (declared-above m a ok)) st1.above_here in
      let st3 : Stands (record o { here = declared a ++ o.here }) D na l u2 g2 = stands-later o D m na l l (declared a ++ o.here) u g u2 g2 st1 v2 na_more low (omega arith) (omega arith) held owned above in
      falls u2 g2 h2 w2 (moved-then m m s f u g u2 g2 (omega arith) v v2)
      (subst (λ xs. Held u2 g2.locals N xs u2.frame.scope) (sym (append_assoc (declared_maybe b) (declared a) o.here))
      (held-over u2 g2.locals N (declared_maybe b) (declared a ++ o.here) u2.frame.scope
      (all-over (record o { here = declared a ++ o.here }) D na l u2 g2 st3 N (omega arith) (declared_maybe b) (maybe-above na b ok-b) (maybe-below na b ok-b))
      (held-kept u2 u2 g2.locals g2.locals na N (declared a ++ o.here) u2.frame.scope (later-same u2) held n_more (λ i lt. refl))))
      (omega arith) owned)
  one-arm false a absent does-a does-b m ok ok-b o D l n rest h s f u g w c K fit-a fit-b within_count v st1 st2 room-a room-b ways falls =
      let na : ℕ = next_local m a in
      falls u g h w v
      (held-over u g.locals na (declared a) o.here u.frame.scope (all-over o D m n u g st2 na within_count (declared a) (declared-above m a ok) (declared-below m a ok))
      (held-kept u u g.locals g.locals m na o.here u.frame.scope (later-same u) st2.here (next-more m a ok) (λ i lt. refl)))
      within_count st2.owned
  one-arm false a (given s1) does-a does-b m ok ok-b o D l n rest h s f u g w c K fit-a fit-b within_count v st1 st2 room-a room-b ways falls =
      let na : ℕ = next_local m a in
      let N : ℕ = next_local na s1 in
      let na_more : m ≤ na = next-more m a ok in
      let n_more : na ≤ N = next-more na s1 ok-b in
      let wide = st2.ready.wide in
      let st3 : Stands o D na n u g =
      stands-later o D m na n n o.here u g u g st2 (moved-all m n u g st2.ready) na_more (omega arith) (omega arith) (omega arith)
      (held-kept u u g.locals g.locals m na o.here u.frame.scope (later-same u) st2.here na_more (λ i lt. refl)) st2.owned st2.above_here in
      does-b na ok-b o D n nothing h u g w c ((behind again again' P bodies chains classless turns R C plain-result A B S) rest K) fit-b st3 room-b ((ways-behind again again' P bodies chains classless turns R C plain-result A B S) rest D na u g c K ((ways-later again again' P bodies chains classless turns R C plain-result A B S) D m na s f u g c K na_more v ways))
      (λ u2 g2 h2 w2 v2 held low owned.
      let count : u2.frame.count ≡ u.frame.count = moved-count na u g u2 g2 v2 in
      let parts = held-parts u2 g2.locals N (declared s1) o.here u2.frame.scope held in
      falls u2 g2 h2 w2 (moved-then m na s f u g u2 g2 na_more v v2)
      (subst (λ xs. Held u2 g2.locals N xs u2.frame.scope) (sym (append_assoc (declared s1) (declared a) o.here))
      (subst (λ os. Held u2 g2.locals N (declared s1 ++ (declared a ++ o.here)) os) (sym parts.parts)
      (held-append u2 g2.locals N (declared s1) (declared a ++ o.here) parts.first parts.second parts.first_held
      (held-over u2 g2.locals N (declared a) o.here parts.second
      (all-over-later u u2 g.locals g2.locals na N (declared a) v2.later n_more v2.below (all-over o D m n u g st2 na (omega arith) (declared a) (declared-above m a ok) (declared-below m a ok)))
      parts.second_held))))
      low owned)

  -- ---- returns

  give-steps : (n : Register) (v : Value) (rest : Plains) (h : Registers) (K : Flow → Act B) (x : Ran (Did A)) (t : State) (w : World) → h n ≡ Some v → Usable v
      → Follows S x (K (Returns v) t w) → Follows S x (runs_on again' (H again again' P) (more (give (Some n)) rest) h K t w)
  give-steps n v rest h K x t w at usable next =
      subst (λ r. Follows S x (and_then (and_then (((some_or r malformed >>= used) >>= (λ v. gives (Returns v))) t w) (on (falling (λ h. all again' (H again again' P) rest h)))) (on K))) (sym at)
      (subst (λ (a : Act Value). Follows S x (and_then (and_then ((a >>= (λ v. gives (Returns v))) t w) (on (falling (λ h. all again' (H again again' P) rest h)))) (on K))) (sym usable) next)

  return-steps : (e : Core) → is_value e ≡ true → (m : ℕ) (o : Open) (D : Beyond) (k : ℕ) (rest : Plains) (g : Registers) (s : State) (f : Frame) (w : World) (c : calling.Flow → Act A) (K : Flow → Act B)
      → Stands o D m k s f → k + width e ≤ f.count → (Ways again again' P bodies chains classless turns R C plain-result A B S) D m s f c K
      → Follows S (and_then ((result_act again P e s.frame.result >>= (λ v. gives (calling.Returns v))) s w) (on c))
      (runs_on again' (H again again' P) (returned (inside_of P R C o) e k rest) g K (with_frame f s) w)
  return-steps e ok m o D k rest g s f w c K st room ways =
      let in_place : Plains = more (set 0 plain.result) (started P.classes R e 0 k (finished (o.here ++ o.returns) (more (give None) rest))) in
      let by_value : Plains = whole e 0 k (λ x n rest. value P.classes x e None n k (use_of n rest)) (λ n. finished (o.here ++ o.returns) (more (give (Some n)) rest)) in
      subst (λ b. Follows S (and_then ((result_act again P e s.frame.result >>= (λ v. gives (calling.Returns v))) s w) (on c))
      (runs_on again' (H again again' P) (if b then in_place else by_value) g K (with_frame f s) w)) (sym plain-result)
      (subst (λ r. Follows S (and_then ((result_act again P e r >>= (λ v. gives (calling.Returns v))) s w) (on c)) (runs_on again' (H again again' P) by_value g K (with_frame f s) w)) (sym st.result)
      (pull (full_expression again P (meaning.value again P e None >>= used) s w) (λ v. gives (calling.Returns v)) c _
      ((lasts-on again again' P bodies chains classless turns R C plain-result A B S) o D m k s f w st (full_expression again P (meaning.value again P e None >>= used)) (used-full again P classless turns.rests s.next s.object s.frame.scope e ok) (λ v. c (calling.Returns v)) _
      (used-steps again again' P bodies chains classless A B S e ok k (λ n. finished (o.here ++ o.returns) (more (give (Some n)) rest)) g s f w (tested s.next s.object (λ v. c (calling.Returns v))) K st.ready room
      (λ v t h f1 w1 usable at same kept.
      (told again again' P bodies chains classless turns R C plain-result A B S) s (λ v. c (calling.Returns v)) v t w1 _ (λ lasts.
      let later = (stands-on again again' P bodies chains classless turns R C plain-result A B S) o D m k k s f t f1 st same kept lasts (omega arith) (let wide = st.ready.wide in omega arith) in
      finished-steps again' (H again again' P) classless A B S (o.here ++ o.returns) (t.frame.scope ++ D.returns) m (more (give (Some (0 + width e))) rest) h K _ t f1 w1
      (held-append t f1.locals m o.here o.returns t.frame.scope D.returns later.1.here later.1.returns)
      (give-steps (0 + width e) v rest h K _ (with_frame f1 (all_gone (t.frame.scope ++ D.returns) t)) w1 at usable (ways.returns v t f1 w1 later.0 later.1.owned))))))))

  -- ---- statements

  mutual
    pub follow-statement : (st : Core) → (Does again again' P bodies chains classless turns R C plain-result A B S) st
    follow-statement (core.full e) m ok o D k rest g s f w c K fit st room ways falls =
        (by-or again again' P bodies chains classless turns R C plain-result A B S) (is_nothing e) (is_value e) ok
        (λ blank.
        subst (λ e. Follows S (and_then ((full_expression again P (meaning.value again P e None) >> gives calling.Falls) s w) (on c))
        (runs_on again' (H again again' P) (whole e 0 k (λ x n rest. value P.classes x e None n k rest) (λ n. rest)) g K (with_frame f s) w)) (sym (nothing-is e blank))
        ((fall-on again again' P bodies chains classless turns R C plain-result A B S) o D m k c K rest s f st falls s f g w refl (kept-all k f) (later-same s)))
        (λ is.
        pull (full_expression again P (meaning.value again P e None) s w) (λ u. gives calling.Falls) c _
        ((lasts-on again again' P bodies chains classless turns R C plain-result A B S) o D m k s f w st (full_expression again P (meaning.value again P e None))
        (keeps-full s.next s.object s.frame.scope again P classless (meaning.value again P e None) (value-keeps again P classless turns.rests s.next s.object s.frame.scope e is None)) (λ v. c calling.Falls) _
        (full-steps again again' P bodies chains classless A B S e is None None 0 k (λ n. rest) g s f w (tested s.next s.object (λ (v : Value). c calling.Falls)) K st.ready room (λ v t h f1 w1 done.
        (told again again' P bodies chains classless turns R C plain-result A B S) s (λ (v : Value). c calling.Falls) v t w1 _ (λ lasts.
        (fall-on again again' P bodies chains classless turns R C plain-result A B S) o D m k c K rest s f st falls t f1 h w1 done.frame done.kept lasts)))))
    follow-statement (core.block es) m ok o D k rest g s f w c K fit st room ways falls =
        let s0 : State = with_scope [] s in
        let D1 : Beyond = (within again again' P bodies chains classless turns R C plain-result A B S) s D in
        let opened-held : (ys : List Local) (ps : List ℕ) → Held s f.locals m ys ps → Held s0 f.locals m ys ps =
        λ ys ps held. held-kept s s0 f.locals f.locals m m ys ps (record { next = omega arith; gone = λ o lt e. e }) held (omega arith) (λ i lt. refl) in
        let here = opened-held o.here s.frame.scope st.here in
        pull (does.does_all again P es (with_scope [] s) w) ((closing_scope again again' P bodies chains classless turns R C plain-result A B S) s.frame.scope) c _
        (follow-statements es m ok (opened o) D1 k (finished (declared_all es) rest) g (with_scope [] s) f w (λ flow. (closing_scope again again' P bodies chains classless turns R C plain-result A B S) s.frame.scope flow >>= c) K fit
        (record {
          ready = record { alike = record { function = st.ready.alike.function; this = st.ready.alike.this; result = st.ready.alike.result; depth = st.ready.alike.depth }; count = st.ready.count; wide = st.ready.wide; locals = st.ready.locals };
          low = st.low;
          result = st.result;
          empty = st.empty;
          here = refl;
          breaks = held-append s0 f.locals m o.here o.breaks s.frame.scope D.breaks here (opened-held o.breaks D.breaks st.breaks);
          continues = held-append s0 f.locals m o.here o.continues s.frame.scope D.continues here (opened-held o.continues D.continues st.continues);
          returns = held-append s0 f.locals m o.here o.returns s.frame.scope D.returns here (opened-held o.returns D.returns st.returns);
          own = held-append s0 f.locals m o.here o.own s.frame.scope D.own here (opened-held o.own D.own st.own);
          owned = owned-opened D.params D.own s st.owned;
          params = st.params;
          above_here = tt;
          above_own = above-append D.params o.here o.own st.above_here st.above_own;
        })
        room ((block-ways again again' P bodies chains classless turns R C plain-result A B S) D m s f c K ways) (λ t g1 h w1 v held-now low owned.
        let closed : State = with_scope s.frame.scope (all_gone t.frame.scope t) in
        let out : Moved m s f closed g1 = (moved-out again again' P bodies chains classless turns R C plain-result A B S) m s f t g1 v in
        (close-steps again again' P bodies chains classless turns R C plain-result A B S) (next_locals m es) (declared_all es) s.frame.scope rest c K calling.Falls t g1 h w1 held-now
        (falls closed g1 h w1 out (held-kept s closed f.locals g1.locals m m o.here s.frame.scope out.later st.here (omega arith) v.below)
        (let a = moved-count m s f closed g1 out in let b = st.low in omega arith) (owned-closed D.params D.own s.frame.scope t owned))))
    follow-statement (core.sequence es) m ok o D k rest g s f w c K fit st room ways falls = follow-statements es m ok o D k rest g s f w c K fit st room ways falls
    follow-statement (core.declare i T e) m ok o D k rest g s f w c K fit st room ways falls =
        let parts = both (nat_le m i) (is_element T e || is_held i e) ok in
        pull (does.declares again P i T e s w) (λ u. gives calling.Falls) c _
        (pull (new_local i T s w) (λ x. settled_full again P (root x) e >> frame_changed (lists_in_scope x)) (λ u. c calling.Falls) _
        ((by-or again again' P bodies chains classless turns R C plain-result A B S) (is_element T e) (is_held i e) parts.1
        (λ initial.
        declaration i T e m parts.0 initial o D k rest g s f w c K st room
        (subst (λ n. (Fallen again again' P bodies chains classless turns R C plain-result A B S) D n ((record { number = i; type = T } ∷ held_by e) ++ o.here) m c K rest s f) (behind-element T i e initial) falls)
        (nat_lt i s.frame.count) refl)
        (λ held. held-declaration again again' P bodies chains classless turns R C plain-result A B S i T e m parts.0 held o D k rest g s f w c K st room falls (nat_lt i s.frame.count) refl)))
    follow-statement (core.branch q a b) m ok o D k rest g s f w c K fit st room ways falls =
        let parts = both (is_value q) (is_statement m a && is_statement_or (next_local m a) b) ok in
        let arms = both (is_statement m a) (is_statement_or (next_local m a) b) parts.1 in
        let count_fits = both (nat_le (next_local 0 (core.branch q a b)) s.frame.count) (arms_fit s.frame.count a && or_arms_fit s.frame.count b) fit in
        let fits = both (arms_fit s.frame.count a) (or_arms_fit s.frame.count b) count_fits.1 in
        let within_count : next_local m (core.branch q a b) ≤ s.frame.count = next-within m s.frame.count (core.branch q a b) st.low (let e = count_fits.0 in grind (arith, nat_tests, e)) in
        let two-room : k + length (added (nodes q ++ nodes a)) ≤ f.count = first-room k f.count (nodes q ++ nodes a) (nodes_maybe b) room in
        let last-room : (k + width q + width a) + width_maybe b ≤ f.count =
        (let x = added-two (nodes q) (nodes a) in let y = (maybe-width again again' P bodies chains classless turns R C plain-result A B S) b in let r = second-room k f.count (nodes q ++ nodes a) (nodes_maybe b) room in omega arith) in
        let yes-code : Plains = statement (inside_of P R C o) a (k + width q) nothing in
        let no-code : Plains = statement_or (inside_of P R C o) b (k + width q + width a) nothing in
        let arms_on : Bool → Act A = λ t. when t (does.does again P a) (does.does_maybe again P b) >>= c in
        pull (full_expression again P (meaning.value again P q None >>= truth_of) s w) (λ t. when t (does.does again P a) (does.does_maybe again P b)) c _
        ((lasts-on again again' P bodies chains classless turns R C plain-result A B S) o D m k s f w st (does.holds again P (given q)) (holds-keeps again P classless turns.rests s.next s.object s.frame.scope (given q) parts.0) arms_on _
        (condition-steps again again' P bodies chains classless A B S q parts.0 k (λ n. more (branch n yes-code no-code) rest) g s f w
        (tested s.next s.object arms_on) K st.ready (first-room k f.count (nodes q) (nodes a) two-room) (λ t u h f1 w1 at same kept.
        (told again again' P bodies chains classless turns R C plain-result A B S) s arms_on t u w1 _ (λ lasts.
        let later = (stands-on again again' P bodies chains classless turns R C plain-result A B S) o D m k (k + width q) s f u f1 st same kept lasts (omega arith) (first-room k f.count (nodes q) (nodes a) two-room) in
        let other = (stands-on again again' P bodies chains classless turns R C plain-result A B S) o D m k (k + width q + width a) s f u f1 st same kept lasts (omega arith) (second-room k f.count (nodes q) (nodes a) two-room) in
        let count : f1.count ≡ f.count = ap (λ (x : Frame). x.count) kept.frame in
        let core_count : s.frame.count ≡ u.frame.count = ap (λ (x : Frame). x.count) (sym same) in
        branch-steps again' (H again again' P) t (0 + width q) yes-code no-code rest h K _ (with_frame f1 u) w1 at
        (one-arm t a b (follow-statement a) (follow-maybe b) m arms.0 arms.1 o D (k + width q) (k + width q + width a) rest h s f u f1 w1 c K
        (subst (λ n. arms_fit n a ≡ true) core_count fits.0) (subst (λ n. or_arms_fit n b ≡ true) core_count fits.1) (omega arith) later.0 later.1 other.1
        (let r = second-room k f.count (nodes q) (nodes a) two-room in omega arith) (omega arith) ways falls)))))
    follow-statement (core.loop form.While q e body) m ok o D k rest g s f w c K fit st room ways falls =
        (loop-whole again again' P bodies chains classless turns R C plain-result A B S) form.While q e body m rest g (with_frame f s) w c K o k
        (does.holds again P q >>= (λ t. when t (in_scope again P (does.does again P body) >>= does.turning (does.step_and again P e (again (turn (core.loop form.While q e body))))) (gives calling.Falls))) s
        (λ w. (loop-first again again' P bodies chains classless turns R C plain-result A B S) q e body (follow-statement body) form.While m ok o D k rest g s f w c K st fit room ways falls refl refl)
    follow-statement (core.loop form.For q e body) m ok o D k rest g s f w c K fit st room ways falls =
        (loop-whole again again' P bodies chains classless turns R C plain-result A B S) form.For q e body m rest g (with_frame f s) w c K o k
        (does.holds again P q >>= (λ t. when t (in_scope again P (does.does again P body) >>= does.turning (does.step_and again P e (again (turn (core.loop form.For q e body))))) (gives calling.Falls))) s
        (λ w. (loop-first again again' P bodies chains classless turns R C plain-result A B S) q e body (follow-statement body) form.For m ok o D k rest g s f w c K st fit room ways falls refl refl)
    follow-statement (core.loop form.Do q e body) m ok o D k rest g s f w c K fit st room ways falls =
        (loop-whole again again' P bodies chains classless turns R C plain-result A B S) form.Do q e body m rest g (with_frame f s) w c K o k
        (in_scope again P (does.does again P body) >>= does.turning (does.holds again P q >>= (λ t. when t (again (turn (core.loop form.Do q e body))) (gives calling.Falls)))) s
        (λ w. (loop-last again again' P bodies chains classless turns R C plain-result A B S) q e body (follow-statement body) m ok o D k rest g s f w c K st fit room ways falls)
    follow-statement (core.switch e es) m ok o D k rest g s f w c K fit st room ways falls =
        let parts = both (is_value e) (are_cases m es) ok in
        let fits = both (none_passed es) (all_arms_fit s.frame.count es) fit in
        switch-steps again again' P bodies chains classless turns R C plain-result A B S e es (follow-cases es) m parts.0 parts.1 o D k rest g s f w c K fits.1 fits.0 st room ways falls
    follow-statement core.leave m ok o D k rest g s f w c K fit st room ways falls =
        finished-steps again' (H again again' P) classless A B S (o.here ++ o.breaks) (s.frame.scope ++ D.breaks) m (more leave rest) g K _ s f w
        (held-append s f.locals m o.here o.breaks s.frame.scope D.breaks st.here st.breaks) (ways.breaks s f g w (moved-all m k s f st.ready) st.owned)
    follow-statement core.continue m ok o D k rest g s f w c K fit st room ways falls =
        finished-steps again' (H again again' P) classless A B S (o.here ++ o.continues) (s.frame.scope ++ D.continues) m (more continue rest) g K _ s f w
        (held-append s f.locals m o.here o.continues s.frame.scope D.continues st.here st.continues) (ways.continues s f g w (moved-all m k s f st.ready) st.owned)
    follow-statement (core.give absent) m ok o D k rest g s f w c K fit st room ways falls =
        finished-steps again' (H again again' P) classless A B S (o.here ++ o.returns) (s.frame.scope ++ D.returns) m (more (give None) rest) g K _ s f w
        (held-append s f.locals m o.here o.returns s.frame.scope D.returns st.here st.returns) (ways.returns Nothing s f w (moved-all m k s f st.ready) st.owned)
    follow-statement (core.give (given e)) m ok o D k rest g s f w c K fit st room ways falls = return-steps e ok m o D k rest g s f w c K st room ways
    follow-statement e m ok o D k rest g s f w c K fit st room ways falls = never ok

    follow-cases : (es : Cores) → DoAll again again' P bodies chains classless turns R C plain-result A B S es
    follow-cases none = tt
    follow-cases (core.more s1 es) = (follow-statement s1, follow-cases es)

    pub follow-maybe : (b : MaybeCore) → DoesMaybe b
    follow-maybe absent = tt
    follow-maybe (given s1) = follow-statement s1

    pub follow-statements : (es : Cores) (m : ℕ) → are_statements m es ≡ true
        → (o : Open) (D : Beyond) (k : ℕ) (rest : Plains) (g : Registers) (s : State) (f : Frame) (w : World)
        (c : calling.Flow → Act A) (K : Flow → Act B) → all_arms_fit s.frame.count es ≡ true
        → Stands o D m k s f → k + length (added (nodes_all es)) ≤ f.count → (Ways again again' P bodies chains classless turns R C plain-result A B S) D m s f c K → (Fallen again again' P bodies chains classless turns R C plain-result A B S) D (next_locals m es) (declared_all es ++ o.here) m c K rest s f
        → Follows S (and_then (does.does_all again P es s w) (on c)) (runs_on again' (H again again' P) (statements (inside_of P R C o) es k rest) g K (with_frame f s) w)
    follow-statements none m ok o D k rest g s f w c K fit st room ways falls = falls s f g w (moved-all m k s f st.ready) st.here st.low st.owned
    follow-statements (core.more s1 others) m ok o D k rest g s f w c K fit st room ways falls =
        let parts = both (is_statement m s1) (are_statements (next_local m s1) others) ok in
        let fits = both (arms_fit s.frame.count s1) (all_arms_fit s.frame.count others) fit in
        let further-on : m ≤ next_local m s1 = next-more m s1 parts.0 in
        let first : k + width s1 ≤ f.count = first-room k f.count (nodes s1) (nodes_all others) room in
        let second : (k + width s1) + length (added (nodes_all others)) ≤ f.count = second-room k f.count (nodes s1) (nodes_all others) room in
        pull (does.does again P s1 s w) (does.falling (does.does_all again P others)) c _
        (follow-statement s1 m parts.0 o D k (statements (inside_of P R C (record o { here = declared s1 ++ o.here })) others (k + width s1) rest) g s f w
        (λ flow. does.falling (does.does_all again P others) flow >>= c) K fits.0 st first
        (record { breaks = ways.breaks; continues = ways.continues; returns = ways.returns }) (λ t g1 h w1 v held-now low owned.
        let count : g1.count ≡ f.count = ap (λ (x : Frame). x.count) v.plain in
        follow-statements others (next_local m s1) parts.1 (record o { here = declared s1 ++ o.here }) D (k + width s1) rest h t g1 w1 c K
        (subst (λ n. all_arms_fit n others ≡ true) (sym (moved-count m s f t g1 v)) fits.1)
        (stands-later o D m (next_local m s1) k (k + width s1) (declared s1 ++ o.here) s f t g1 st v further-on low (omega arith) (omega arith) held-now owned
        (above-append D.params (declared s1) o.here (above-less m D.params (declared s1) st.params (declared-above m s1 parts.0)) st.above_here))
        (omega arith) ((ways-later again again' P bodies chains classless turns R C plain-result A B S) D m (next_local m s1) s f t g1 c K further-on v ways) (λ u g2 h2 w2 v2 held-then low2 owned2.
        falls u g2 h2 w2 (moved-then m (next_local m s1) s f t g1 u g2 further-on v v2)
        (subst (λ xs. Held u g2.locals (next_locals (next_local m s1) others) xs u.frame.scope) (sym (append_assoc (declared_all others) (declared s1) o.here)) held-then) low2 owned2)))
