-- Switches (6.4.2): the statements behind a label, in a scope of their own, with the locals that the label passes.
use Rattle.std.proofs.Common.{◌≡◌, ℕ, ◌+◌, ◌≤◌, Bool, true, false, not, ◌&&◌, ◌||◌, List, [], ◌++◌, reverse, length, refl, sym, ◌∙◌, ap, subst, arith, append-nil, append_assoc}
use Rattle.std.specs.Prelude.{ℤ, Option, Some, None}
use Rattle.std.proofs.lemmas.List.{reverse-append}
use Rattle.cf_base.proofs.Tests.{both}
use Rattle.cf_base.specs.World.{World, Ran, and_then}
use Rattle.cf_core.specs.Types.{SourceType, Name, is_class}
use Rattle.cf_core.specs.Core as core
use Rattle.cf_core.specs.Core.{Core, Cores, Function, none}
use Rattle.cf_core.specs.Nodes.{nodes, nodes_all}
use Rattle.cf_core.specs.Store.{Value}
use Rattle.cf_core.specs.Run.{State, Frame, Did, Act, ◌>>=◌, gives, malformed, some_or, when, with_frame}
use Rattle.cf_core.specs.Access.{used, number_of}
use Rattle.cf_core.specs.Valid.{has_label}
use Rattle.cf_core.specs.Calls as calling
use Rattle.cf_core.specs.Calls.{Program, function_named, in_scope, full_expression}
use Rattle.cf_core.specs.Expressions as meaning
use Rattle.cf_core.specs.Statements as does
use Rattle.cf_plain.specs.Plain.{Register, Plains, leave, nothing, more}
use Rattle.cf_plain.specs.Plain as plain
use Rattle.cf_plain.specs.Acts.{Registers}
use Rattle.cf_plain.specs.Running as running
use Rattle.cf_plain.specs.Running.{Flow, Falls, Continues, Returns, falling, all}
use Rattle.cf_sequence.specs.Follows.{Follows}
use Rattle.cf_sequence.specs.Built.{is_value, is_chain, arms_declare, is_statement, are_cases, next_local, next_locals, arms_fit, all_arms_fit, none_passed}
use Rattle.cf_sequence.specs.Made.{Local, width, added, declared, declared_all}
use Rattle.cf_sequence.specs.Expressions.{Full, finished, whole, value, used as use_of}
use Rattle.cf_sequence.specs.Statements.{statement, statements, made, passing, passes_local}
use Rattle.cf_sequence.proofs.Following.{on, pull, pull-two, push, pure-known}
use Rattle.cf_sequence.proofs.Steps.{pure-number_of}
use Rattle.cf_sequence.proofs.Calling.{Bodies, never}
use Rattle.cf_sequence.proofs.Kept.{Kept, ready-more}
use Rattle.cf_sequence.proofs.PlainSteps.{Usable, runs_on}
use Rattle.cf_sequence.proofs.Operands.{H, first-room, second-room}
use Rattle.cf_sequence.proofs.Moving.{Later, all_gone, Held, held-append, held-kept, AllAbove, above-append, above-less, finished-steps, Moved, moved-count, moved-then, with_scope, Beyond, Owned, owned-opened, owned-closed}
use Rattle.cf_sequence.proofs.LastingCode.{used-full}
use Rattle.cf_sequence.proofs.Tested.{tested}
use Rattle.cf_sequence.proofs.Fulls.{used-steps}
use Rattle.cf_sequence.proofs.Standing.{Open, inside_of, Stands, stands-later, Turns, moved-all, next-more, declared-above}
use Rattle.cf_sequence.proofs.Scopes.{Ways, ways-later, Fallen, closing_scope, scope-closed, scope-gone, moved-out, Does, behind, stands-on, lasts-on, told}
use Rattle.cf_sequence.proofs.Silent.{Silent, silent-finished}
use Rattle.cf_sequence.proofs.Labels.{Aim, core_from, plain_from, core_has, Label, fits_case, by-case, hits, label-next, label-declares, label-has, label-goes, label-passing, label-written, mark-has, mark-goes, there-is-label, no-label, none-has, core-past, passing-past, passes-behind, none-before, not-passed, does-pass, silent-statement, to_case, to_default, a_case, the_default}
use Rattle.cf_sequence.proofs.Passing.{made-more, silent-passed_by, passing-has, passing-without, neither, core_by, plain_by, chosen_case, looked, Picks, picks, Passed, pass-one}

-- the locals of the scopes around a switch's own
abbrev pub switched : Open → Open
switched o = record { here = []; breaks = []; continues = o.here ++ o.continues; returns = o.here ++ o.returns; own = o.here ++ o.own }

module _ (again : calling.Again) (again' : running.Again) (P : Program) (bodies : Bodies again again' P)
    (chains : (name : Name) (f : Function) → function_named P name ≡ Some f → is_chain f.type ≡ true)
    (classless : P.classes ≡ []) (turns : Turns again again' P) (R C : SourceType) (plain-result : is_class R ≡ false)
    (A B : Type 0) (S : A → State → B → State → Type 0) where
  -- each statement of a list follows
  abbrev pub DoAll : Cores → Type 0
  DoAll none = Unit {0}
  DoAll (core.more s rest) = Does again again' P bodies chains classless turns R C plain-result A B S s × DoAll rest

  abbrev Out : Beyond → (m : ℕ) → State → Frame → (calling.Flow → Act A) → (Flow → Act B) → Type 0
  Out = Ways again again' P bodies chains classless turns R C plain-result A B S

  abbrev End : (D : Beyond) (n : ℕ) (xs : List Local) (m : ℕ) (c : calling.Flow → Act A) (K : Flow → Act B) (rest : Plains) (s : State) (f : Frame) → Type 0
  End = Fallen again again' P bodies chains classless turns R C plain-result A B S

  abbrev closes : List ℕ → calling.Flow → Act calling.Flow
  closes = closing_scope again again' P bodies chains classless turns R C plain-result A B S

  abbrev follows_by : Plains → (Flow → Act B) → Flow → Act B
  follows_by = behind again again' P bodies chains classless turns R C plain-result A B S

  abbrev sts : Open → Cores → ℕ → Plains → Plains
  sts o es k rest = statements (inside_of P R C o) es k rest

  -- where the code of the next statement begins
  further-on : (o : Open) (D : Beyond) (m k l : ℕ) (s : State) (f : Frame) → Stands o D m k s f → k ≤ l → l ≤ f.count → Stands o D m l s f
  further-on o D m k l s f st le room = record {
    ready = ready-more k l s.frame f le room st.ready;
    low = st.low;
    result = st.result;
    empty = st.empty;
    here = st.here;
    breaks = st.breaks;
    continues = st.continues;
    returns = st.returns;
    own = st.own;
    owned = st.owned;
    params = st.params;
    above_here = st.above_here;
    above_own = st.above_own;
  }

  -- what a label or a statement of a switch does, as `Does` has it of statements
  abbrev OneDoes : ℕ → Core → Type 0
  OneDoes m s1 =
      (o : Open) (D : Beyond) (k : ℕ) (rest : Plains) (g : Registers) (s : State) (f : Frame) (w : World) (c : calling.Flow → Act A) (K : Flow → Act B) → arms_fit s.frame.count s1 ≡ true
      → Stands o D m k s f → k + width s1 ≤ f.count → Out D m s f c K → End D (next_local m s1) (declared s1 ++ o.here) m c K rest s f
      → Follows S (and_then (does.does again P s1 s w) (on c)) (runs_on again' (H again again' P) (statement (inside_of P R C o) s1 k rest) g K (with_frame f s) w)

  -- a label does nothing
  label-does : (m : ℕ) (s1 : Core) → Label s1 → OneDoes m s1
  label-does m s1 (a_case y e) = subst (OneDoes m) (sym e) (λ o D k rest g s f w c K fit st room ways falls. falls s f g w (moved-all m k s f st.ready) st.here st.low st.owned)
  label-does m s1 (the_default e) = subst (OneDoes m) (sym e) (λ o D k rest g s f w c K fit st room ways falls. falls s f g w (moved-all m k s f st.ready) st.here st.low st.owned)

  case-does : (m : ℕ) (s1 : Core) → fits_case m s1 ≡ true → Does again again' P bodies chains classless turns R C plain-result A B S s1 → OneDoes m s1
  case-does m s1 ok does-it = by-case m s1 ok (label-does m s1) (λ is. does-it m is)

  case-more : (m : ℕ) (s1 : Core) → fits_case m s1 ≡ true → m ≤ next_local m s1
  case-more m s1 ok = by-case m s1 ok (λ l. let e = label-next m s1 l in omega arith) (λ is. next-more m s1 is)

  case-above : (m : ℕ) (s1 : Core) → fits_case m s1 ≡ true → AllAbove m (declared s1)
  case-above m s1 ok = by-case m s1 ok (λ l. subst (AllAbove m) (sym (label-declares s1 l)) tt) (λ is. declared-above m s1 is)

  -- the labels and statements of a switch from one on, in order
  in-order : (es : Cores) (m : ℕ) → are_cases m es ≡ true → DoAll es → (o : Open) (D : Beyond) (k : ℕ) (rest : Plains) (g : Registers) (s : State) (f : Frame) (w : World)
      (c : calling.Flow → Act A) (K : Flow → Act B) → all_arms_fit s.frame.count es ≡ true
      → Stands o D m k s f → k + length (added (nodes_all es)) ≤ f.count → Out D m s f c K → End D (next_locals m es) (declared_all es ++ o.here) m c K rest s f
      → Follows S (and_then (does.does_all again P es s w) (on c)) (runs_on again' (H again again' P) (sts o es k rest) g K (with_frame f s) w)
  in-order none m ok all-do o D k rest g s f w c K fit st room ways falls = falls s f g w (moved-all m k s f st.ready) st.here st.low st.owned
  in-order (core.more s1 es) m ok all-do o D k rest g s f w c K fit st room ways falls =
      let fits = both (arms_fit s.frame.count s1) (all_arms_fit s.frame.count es) fit in
      let parts = both (fits_case m s1) (are_cases (next_local m s1) es) ok in
      let more-locals : m ≤ next_local m s1 = case-more m s1 parts.0 in
      let first : k + width s1 ≤ f.count = first-room k f.count (nodes s1) (nodes_all es) room in
      let second : (k + width s1) + length (added (nodes_all es)) ≤ f.count = second-room k f.count (nodes s1) (nodes_all es) room in
      pull (does.does again P s1 s w) (does.falling (does.does_all again P es)) c _
      (case-does m s1 parts.0 all-do.0 o D k (sts (record o { here = declared s1 ++ o.here }) es (k + width s1) rest) g s f w
      (λ flow. does.falling (does.does_all again P es) flow >>= c) K fits.0 st first
      (record { breaks = ways.breaks; continues = ways.continues; returns = ways.returns }) (λ t g1 h w1 v held-now low owned.
      let count : g1.count ≡ f.count = ap (λ (x : Frame). x.count) v.plain in
      in-order es (next_local m s1) parts.1 all-do.1 (record o { here = declared s1 ++ o.here }) D (k + width s1) rest h t g1 w1 c K
      (subst (λ n. all_arms_fit n es ≡ true) (sym (moved-count m s f t g1 v)) fits.1)
      (stands-later o D m (next_local m s1) k (k + width s1) (declared s1 ++ o.here) s f t g1 st v more-locals low (omega arith) (omega arith) held-now owned
      (above-append D.params (declared s1) o.here (above-less m D.params (declared s1) st.params (case-above m s1 parts.0)) st.above_here))
      (omega arith) (ways-later again again' P bodies chains classless turns R C plain-result A B S D m (next_local m s1) s f t g1 c K more-locals v ways) (λ u g2 h2 w2 v2 held-then low2 owned2.
      falls u g2 h2 w2 (moved-then m (next_local m s1) s f t g1 u g2 more-locals v v2)
      (subst (λ xs. Held u g2.locals (next_locals (next_local m s1) es) xs u.frame.scope) (sym (append_assoc (declared_all es) (declared s1) o.here)) held-then) low2 owned2)))

  -- a label is as if it did not stand there
  end-past : (D : Beyond) (s1 : Core) (es : Cores) (m : ℕ) (o : Open) (rest : Plains) (s : State) (f : Frame) (c : calling.Flow → Act A) (K : Flow → Act B)
      → next_local m s1 ≡ m → declared s1 ≡ []
      → End D (next_locals m (core.more s1 es)) (declared_all (core.more s1 es) ++ o.here) m c K rest s f → End D (next_locals m es) (declared_all es ++ o.here) m c K rest s f
  end-past D s1 es m o rest s f c K same empty falls =
      subst (λ xs. End D (next_locals m es) (xs ++ o.here) m c K rest s f) (ap (λ xs. declared_all es ++ xs) empty ∙ append-nil (declared_all es))
      (subst (λ n. End D (next_locals n es) ((declared_all es ++ declared s1) ++ o.here) m c K rest s f) same falls)

  -- ---- from a label on

  passes-over : (aim : Aim) (F : Plains → Plains) → Silent again' (H again again' P) F → (ss : Plains) (g : Registers)
      → plain_from again' (H again again' P) aim (F ss) g ≡ plain_from again' (H again again' P) aim ss g
  passes-over (to_case z) F p ss g = p.at_case z ss g
  passes-over to_default F p ss g = p.at_default ss g

  -- What plain code does up to the label that is looked for: the switch before declares what the label passes, and the switch goes on behind the label.
  pub record Path (aim : Aim) (es : Cores) (o : Open) (k : ℕ) (rest : Plains) (s : State) (f : Frame) (w : World) (later : Cores) (p : Open) (l : ℕ) (t : State) (g : Frame) : Type 0 where
    pub new : List Local
    pub here : p.here ≡ new ++ o.here
    pub tail : Plains
    pub first : (h : Registers) → plain_from again' (H again again' P) aim (passing o.here es) h ≡ all again' (H again again' P) (made (reverse p.here) (more leave tail)) h
    pub second : (h : Registers) → plain_from again' (H again again' P) aim (sts o es k rest) h ≡ all again' (H again again' P) (sts p later l rest) h
    pub runs : (zs : Plains) (h : Registers) (K : Flow → Act B) → runs_on again' (H again again' P) (made (reverse new) zs) h K (with_frame f s) w ≡ runs_on again' (H again again' P) zs h K (with_frame g t) w
    pub alone : passes_local es ≡ false → new ≡ []

  -- at the label
  path-here : (aim : Aim) (s1 : Core) (l : Label s1) → hits aim l ≡ true → (es : Cores) (o : Open) (k : ℕ) (rest : Plains) (s : State) (f : Frame) (w : World)
      → Path aim (core.more s1 es) o k rest s f w es o (k + width s1) s f
  path-here aim s1 l hit es o k rest s f w =
      let tail : Plains = passing o.here es in
      let before : Plains = made (reverse o.here) (more leave tail) in
      let behind_it : Plains = sts o es (k + width s1) rest in
      record {
        new = [];
        here = refl;
        tail = tail;
        first = λ h. ap (λ ss. plain_from again' (H again again' P) aim ss h) (label-passing s1 l o.here es) ∙ mark-goes again' (H again again' P) aim s1 l before h
            ∙ ap (λ b. when b (all again' (H again again' P) before h) (plain_from again' (H again again' P) aim before h)) hit;
        second = λ h. ap (λ ss. plain_from again' (H again again' P) aim ss h) (label-written s1 l (inside_of P R C o) es k rest) ∙ mark-goes again' (H again again' P) aim s1 l behind_it h
            ∙ ap (λ b. when b (all again' (H again again' P) behind_it h) (plain_from again' (H again again' P) aim behind_it h)) hit;
        runs = λ zs h K. refl;
        alone = λ e. refl;
      }

  -- past another label
  path-label : (aim : Aim) (s1 : Core) (l : Label s1) → hits aim l ≡ false → (es : Cores) (o : Open) (k : ℕ) (rest : Plains) (s : State) (f : Frame) (w : World) (later : Cores) (p : Open) (n : ℕ) (t : State) (g : Frame)
      → Path aim es o (k + width s1) rest s f w later p n t g → Path aim (core.more s1 es) o k rest s f w later p n t g
  path-label aim s1 l miss es o k rest s f w later p n t g path =
      let before : Plains = made (reverse o.here) (more leave (passing o.here es)) in
      let behind_it : Plains = sts o es (k + width s1) rest in
      record {
        new = path.new;
        here = path.here;
        tail = path.tail;
        first = λ h. ap (λ ss. plain_from again' (H again again' P) aim ss h) (label-passing s1 l o.here es) ∙ mark-goes again' (H again again' P) aim s1 l before h
            ∙ ap (λ b. when b (all again' (H again again' P) before h) (plain_from again' (H again again' P) aim before h)) miss
            ∙ passes-over aim (λ rest. made (reverse o.here) (more leave rest)) (silent-passed_by again' (H again again' P) (reverse o.here)) (passing o.here es) h ∙ path.first h;
        second = λ h. ap (λ ss. plain_from again' (H again again' P) aim ss h) (label-written s1 l (inside_of P R C o) es k rest) ∙ mark-goes again' (H again again' P) aim s1 l behind_it h
            ∙ ap (λ b. when b (all again' (H again again' P) behind_it h) (plain_from again' (H again again' P) aim behind_it h)) miss ∙ path.second h;
        runs = path.runs;
        alone = λ e. path.alone (sym (passes-behind (declared s1) (has_label es) (passes_local es) (label-declares s1 l)) ∙ e);
      }

  -- past a statement
  path-past : (aim : Aim) (m : ℕ) (s1 : Core) → is_statement m s1 ≡ true → (es : Cores) → core_has aim es ≡ true → (o : Open) (k : ℕ) (rest : Plains) (s : State) (f : Frame) (w : World) (t : State) (g : Frame)
      → Passed again again' P A B S m (next_local m s1) (declared s1) o.here s f w t g
      → (later : Cores) (p : Open) (n : ℕ) (u : State) (h : Frame) → Path aim es (record o { here = declared s1 ++ o.here }) (k + width s1) rest t g w later p n u h
      → Path aim (core.more s1 es) o k rest s f w later p n u h
  path-past aim m s1 is es there o k rest s f w t g q later p n u h path = record {
    new = path.new ++ declared s1;
    here = path.here ∙ sym (append_assoc path.new (declared s1) o.here);
    tail = path.tail;
    first = λ r. ap (λ ss. plain_from again' (H again again' P) aim ss r) (passing-past m s1 is o.here es) ∙ path.first r;
    second = λ r.
        passes-over aim (statement (inside_of P R C o) s1 k) (silent-statement again' (H again again' P) P R C plain-result s1 m is o k) (sts (record o { here = declared s1 ++ o.here }) es (k + width s1) rest) r
        ∙ path.second r;
    runs = λ zs r K.
        ap (λ ys. runs_on again' (H again again' P) (made ys zs) r K (with_frame f s) w) (reverse-append path.new (declared s1))
        ∙ ap (λ ss. runs_on again' (H again again' P) ss r K (with_frame f s) w) (made-more (reverse (declared s1)) (reverse path.new) zs)
        ∙ q.runs (made (reverse path.new) zs) r K ∙ path.runs zs r K;
    alone = λ e.
        let two = none-before (declared s1) (has_label es) (passes_local es) (there-is-label aim es there) e in
        ap (λ xs. xs ++ declared s1) (path.alone two.1) ∙ two.0;
  }

  hit-or-miss : {X : Type 0} (b : Bool) → (b ≡ true → X) → (b ≡ false → X) → X
  hit-or-miss true f g = f refl
  hit-or-miss false f g = g refl

  none-declared : (a b : Bool) → b ≡ true → not (a && b) ≡ true → a ≡ false
  none-declared true b there e = never (sym (ap not there) ∙ e)
  none-declared false b there e = refl

  -- From the label that is looked for on: what follows on the path follows.
  from-label : (aim : Aim) (es : Cores) (m : ℕ) → are_cases m es ≡ true → DoAll es → core_has aim es ≡ true
      → (o : Open) (D : Beyond) (k : ℕ) (rest : Plains) (g : Registers) (s : State) (f : Frame) (w : World) (c : calling.Flow → Act A) (K : Flow → Act B) → all_arms_fit s.frame.count es ≡ true → none_passed es ≡ true
      → Stands o D m k s f → k + length (added (nodes_all es)) ≤ f.count → Out D m s f c K → End D (next_locals m es) (declared_all es ++ o.here) m c K rest s f
      → (Y : Ran (Did B))
      → ((later : Cores) (p : Open) (l : ℕ) (t : State) (f1 : Frame) (x : Ran (Did A)) → Path aim es o k rest s f w later p l t f1
      → Follows S x (runs_on again' (H again again' P) (sts p later l rest) g K (with_frame f1 t) w) → Follows S x Y)
      → Follows S (and_then (core_from again P aim es s w) (on c)) Y
  from-label aim none m ok all-do has o D k rest g s f w c K fit passed_none st room ways falls Y meets = never (sym (none-has aim) ∙ has)
  from-label aim (core.more s1 es) m ok all-do has o D k rest g s f w c K fit passed_none st room ways falls Y meets =
      let fits = both (arms_fit s.frame.count s1) (all_arms_fit s.frame.count es) fit in
      let free = both (not (arms_declare s1 && has_label es)) (none_passed es) passed_none in
      let parts = both (fits_case m s1) (are_cases (next_local m s1) es) ok in
      let first : k + width s1 ≤ f.count = first-room k f.count (nodes s1) (nodes_all es) room in
      let second : (k + width s1) + length (added (nodes_all es)) ≤ f.count = second-room k f.count (nodes s1) (nodes_all es) room in
      by-case m s1 parts.0
      (λ l.
      let st1 : Stands o D m (k + width s1) s f = further-on o D m k (k + width s1) s f st (omega arith) first in
      let later : are_cases m es ≡ true = subst (λ n. are_cases n es ≡ true) (label-next m s1 l) parts.1 in
      let falls1 = end-past D s1 es m o rest s f c K (label-next m s1 l) (label-declares s1 l) falls in
      subst (λ (a : Act calling.Flow). Follows S (and_then (a s w) (on c)) Y) (sym (label-goes again P aim s1 l es))
      (hit-or-miss (hits aim l)
      (λ hit. subst (λ b. Follows S (and_then (when b (does.does_all again P es) (core_from again P aim es) s w) (on c)) Y) (sym hit)
      (meets es o (k + width s1) s f _ (path-here aim s1 l hit es o k rest s f w)
      (in-order es m later all-do.1 o D (k + width s1) rest g s f w c K fits.1 st1 second ways falls1)))
      (λ miss. subst (λ b. Follows S (and_then (when b (does.does_all again P es) (core_from again P aim es) s w) (on c)) Y) (sym miss)
      (from-label aim es m later all-do.1 (sym (ap (λ b. b || core_has aim es) miss) ∙ sym (label-has aim s1 l es) ∙ has) o D (k + width s1) rest g s f w c K fits.1 free.1 st1 second ways falls1 Y
      (λ further p n t f1 x path follows. meets further p n t f1 x (path-label aim s1 l miss es o k rest s f w further p n t f1 path) follows)))))
      (λ is.
      let there : core_has aim es ≡ true = sym (no-label aim m s1 es is) ∙ has in
      let more-locals : m ≤ next_local m s1 = next-more m s1 is in
      let o1 : Open = record o { here = declared s1 ++ o.here } in
      subst (λ (a : Act calling.Flow). Follows S (and_then (a s w) (on c)) Y) (sym (core-past again P aim m s1 es is))
      (pull (does.passes s1 s w) (λ u. core_from again P aim es) c Y
      (pass-one again again' P A B S s1 m is (none-declared (arms_declare s1) (has_label es) (there-is-label aim es there) free.0) o D k s f w (core_from again P aim es >>= c) Y st (λ t f1 q.
      let v = q.moved in
      let count : f1.count ≡ f.count = ap (λ (x : Frame). x.count) v.plain in
      from-label aim es (next_local m s1) parts.1 all-do.1 there o1 D (k + width s1) rest g t f1 w c K (subst (λ n. all_arms_fit n es ≡ true) (sym (moved-count m s f t f1 v)) fits.1) free.1
      (stands-later o D m (next_local m s1) k (k + width s1) (declared s1 ++ o.here) s f t f1 st v more-locals q.low (omega arith) (omega arith) q.held (q.owned D.params D.own st.params st.owned)
      (above-append D.params (declared s1) o.here (above-less m D.params (declared s1) st.params q.above) st.above_here))
      (omega arith) (ways-later again again' P bodies chains classless turns R C plain-result A B S D m (next_local m s1) s f t f1 c K more-locals v ways) (λ u g2 h2 w2 v2 held-then low2 owned2.
      falls u g2 h2 w2 (moved-then m (next_local m s1) s f t f1 u g2 more-locals v v2)
      (subst (λ xs. Held u g2.locals (next_locals (next_local m s1) es) xs u.frame.scope) (sym (append_assoc (declared_all es) (declared s1) o.here)) held-then) low2 owned2) Y
      (λ further p n u f2 x path follows. meets further p n u f2 x (path-past aim m s1 is es there o k rest s f w t f1 q further p n u f2 path) follows)))))

  -- the plain statements have the labels of the core's, where what follows has none
  same-cases : (z : ℤ) (es : Cores) (m : ℕ) → are_cases m es ≡ true → (o : Open) (k : ℕ) (rest : Plains) → running.has_case z rest ≡ false → running.has_case z (sts o es k rest) ≡ does.has_case z es
  same-cases z none m ok o k rest free = free
  same-cases z (core.more s1 es) m ok o k rest free =
      let parts = both (fits_case m s1) (are_cases (next_local m s1) es) ok in
      by-case m s1 parts.0
      (λ l.
      ap (running.has_case z) (label-written s1 l (inside_of P R C o) es k rest) ∙ mark-has z s1 l (sts o es (k + width s1) rest)
      ∙ ap (λ b. hits (to_case z) l || b) (same-cases z es (next_local m s1) parts.1 o (k + width s1) rest free) ∙ sym (label-has (to_case z) s1 l es))
      (λ is.
      (silent-statement again' (H again again' P) P R C plain-result s1 m is o k).labels z (sts (record o { here = declared s1 ++ o.here }) es (k + width s1) rest)
      ∙ same-cases z es (next_local m s1) parts.1 (record o { here = declared s1 ++ o.here }) (k + width s1) rest free ∙ sym (no-label (to_case z) m s1 es is))

  -- without the default there is nothing to do
  no-default : (es : Cores) (m : ℕ) → are_cases m es ≡ true → does.has_default es ≡ false → (o : Open) (k : ℕ) (rest : Plains) (g : Registers)
      → running.from_default again' (H again again' P) rest g ≡ gives (Falls g) → running.from_default again' (H again again' P) (sts o es k rest) g ≡ gives (Falls g)
  no-default none m ok has o k rest g free = free
  no-default (core.more s1 es) m ok has o k rest g free =
      let parts = both (fits_case m s1) (are_cases (next_local m s1) es) ok in
      by-case m s1 parts.0
      (λ l.
      let two = neither again' (H again again' P) (hits to_default l) (does.has_default es) (sym (label-has to_default s1 l es) ∙ has) in
      let behind_it : Plains = sts o es (k + width s1) rest in
      ap (λ ss. running.from_default again' (H again again' P) ss g) (label-written s1 l (inside_of P R C o) es k rest) ∙ mark-goes again' (H again again' P) to_default s1 l behind_it g
      ∙ ap (λ b. when b (all again' (H again again' P) behind_it g) (running.from_default again' (H again again' P) behind_it g)) two.0
      ∙ no-default es (next_local m s1) parts.1 two.1 o (k + width s1) rest g free)
      (λ is.
      (silent-statement again' (H again again' P) P R C plain-result s1 m is o k).at_default (sts (record o { here = declared s1 ++ o.here }) es (k + width s1) rest) g
      ∙ no-default es (next_local m s1) parts.1 (sym (no-label to_default m s1 es is) ∙ has) (record o { here = declared s1 ++ o.here }) (k + width s1) rest g free)

  -- ---- the switch

  scope-leave : (os : List ℕ) (flow : calling.Flow) (t : State) (w : World) (c : calling.Flow → Act A) (y : Ran (Did B))
      → Follows S (and_then (does.leaving flow (with_scope os (all_gone t.frame.scope t)) w) (on c)) y
      → Follows S (and_then ((closes os flow >>= does.leaving) t w) (on c)) y
  scope-leave os flow t w c y h =
      subst (λ r. Follows S (and_then (and_then r (on does.leaving)) (on c)) y) (sym (scope-closed again again' P bodies chains classless turns R C plain-result A B S os flow t w)) h

  -- the locals of the switch's own block end behind its statements
  abbrev ending : Cores → Plains
  ending es = finished (declared_all es) nothing

  abbrev cases_of : Open → Cores → ℕ → Plains
  cases_of o es k = sts o es k (ending es)

  abbrev pick : (z : ℤ) (es : Cores) → Picks again again' P (H again again' P) z es
  pick z es = picks again again' P (H again again' P) z es

  abbrev look : Plains → Registers → ℤ → Act Flow
  look ss h z = looked again' (H again again' P) ss h z

  -- what follows the switch
  abbrev left_by : Plains → (Flow → Act B) → Flow → Act B
  left_by rest K = λ flow. running.leaving flow >>= follows_by rest K

  -- the label is looked for: what follows on the path, or where there is none, follows
  dispatched : (z : ℤ) (es : Cores) (m : ℕ) → are_cases m es ≡ true → DoAll es → (o : Open) (D : Beyond) (k l : ℕ) (rest : Plains) (h : Registers) (s : State) (f : Frame) (t : State) (g : Frame) (w : World)
      (c : calling.Flow → Act A) (K : Flow → Act B) → all_arms_fit t.frame.count es ≡ true → none_passed es ≡ true
      → Stands o D m k s f → Moved m s f t g → t.frame.scope ≡ s.frame.scope → Stands o D m l t g → l + length (added (nodes_all es)) ≤ g.count → Out D m s f c K → End D m o.here m c K rest s f
      → (Y : Ran (Did B))
      → ((pick z es).aim ≡ None → (x : Ran (Did A)) → Follows S x (left_by rest K (Falls h) (with_frame g t) w) → Follows S x Y)
      → ((a : Aim) → (pick z es).aim ≡ Some a → (later : Cores) (p : Open) (n : ℕ) (u : State) (f1 : Frame) (x : Ran (Did A)) → Path a es (switched o) l (ending es) (with_scope [] t) g w later p n u f1
      → Follows S x (runs_on again' (H again again' P) (sts p later n (ending es)) h (left_by rest K) (with_frame f1 u) w) → Follows S x Y)
      → Follows S (and_then ((in_scope again P (chosen_case again P z es) >>= does.leaving) t w) (on c)) Y
  dispatched z es m ok all-do o D k l rest h s f t g w c K fit passed_none st v same st1 room ways falls Y falls-off meets =
      let os : List ℕ = t.frame.scope in
      let D1 : Beyond = record { breaks = []; continues = os ++ D.continues; returns = os ++ D.returns; own = os ++ D.own; params = D.params } in
      let c1 : calling.Flow → Act A = λ flow. (closes os flow >>= does.leaving) >>= c in
      let K1 : Flow → Act B = left_by rest K in
      let t0 : State = with_scope [] t in
      let opened-held : (ys : List Local) (ps : List ℕ) → Held t g.locals m ys ps → Held t0 g.locals m ys ps =
      λ ys ps held. held-kept t t0 g.locals g.locals m m ys ps (record { next = omega arith; gone = λ o lt e. e }) held (omega arith) (λ i lt. refl) in
      let st0 : Stands (switched o) D1 m l t0 g = record {
        ready = record { alike = record { function = st1.ready.alike.function; this = st1.ready.alike.this; result = st1.ready.alike.result; depth = st1.ready.alike.depth }; count = st1.ready.count; wide = st1.ready.wide; locals = st1.ready.locals };
        low = st1.low;
        result = st1.result;
        empty = st1.empty;
        here = refl;
        breaks = refl;
        continues = held-append t0 g.locals m o.here o.continues os D.continues (opened-held o.here os st1.here) (opened-held o.continues D.continues st1.continues);
        returns = held-append t0 g.locals m o.here o.returns os D.returns (opened-held o.here os st1.here) (opened-held o.returns D.returns st1.returns);
        own = held-append t0 g.locals m o.here o.own os D.own (opened-held o.here os st1.here) (opened-held o.own D.own st1.own);
        owned = owned-opened D.params D.own t st1.owned;
        params = st1.params;
        above_here = tt;
        above_own = above-append D.params o.here o.own st1.above_here st1.above_own;
      } in
      let out : (u : State) (g2 : Frame) (h2 : Registers) (w2 : World) → Moved m (with_scope [] t) g u g2 → Owned D.params (os ++ D.own) u
      → Follows S (c calling.Falls (with_scope os (all_gone u.frame.scope u)) w2) (runs_on again' (H again again' P) rest h2 K (with_frame g2 (all_gone u.frame.scope u)) w2) =
      λ u g2 h2 w2 v2 owned.
      let later = moved-then m m s f t g (with_scope os (all_gone u.frame.scope u)) g2 (omega arith) v (moved-out again again' P bodies chains classless turns R C plain-result A B S m t g u g2 v2) in
      falls (with_scope os (all_gone u.frame.scope u)) g2 h2 w2 later
      (subst (λ xs. Held (with_scope os (all_gone u.frame.scope u)) g2.locals m o.here xs) (sym same)
      (held-kept s (with_scope os (all_gone u.frame.scope u)) f.locals g2.locals m m o.here s.frame.scope later.later st.here (omega arith) later.below))
      (let a = moved-count m s f (with_scope os (all_gone u.frame.scope u)) g2 later in let low = st.low in omega arith) (owned-closed D.params D.own os u owned) in
      let leaves : Out D1 m t0 g c1 K1 = record {
        breaks = λ u g2 h2 w2 v2 owned.
            scope-leave os calling.Breaks u w2 c _
            (subst (λ xs. Follows S (c calling.Falls (with_scope os (all_gone u.frame.scope u)) w2) (runs_on again' (H again again' P) rest h2 K (with_frame g2 (all_gone xs u)) w2)) (sym (append-nil u.frame.scope))
            (out u g2 h2 w2 v2 owned));
        continues = λ u g2 h2 w2 v2 owned.
            scope-leave os calling.Continues u w2 c _
            (subst (λ x. Follows S (c calling.Continues (with_scope os (all_gone u.frame.scope u)) w2) (K (Continues h2) x w2))
            (scope-gone again again' P bodies chains classless turns R C plain-result A B S (os ++ D.continues) u.frame.scope u g2 (record (all_gone u.frame.scope u).frame { scope = os }))
            (ways.continues (with_scope os (all_gone u.frame.scope u)) g2 h2 w2
            (moved-then m m s f t g (with_scope os (all_gone u.frame.scope u)) g2 (omega arith) v (moved-out again again' P bodies chains classless turns R C plain-result A B S m t g u g2 v2))
            (owned-closed D.params D.own os u owned)));
        returns = λ x u g2 w2 v2 owned.
            scope-leave os (calling.Returns x) u w2 c _
            (subst (λ y. Follows S (c (calling.Returns x) (with_scope os (all_gone u.frame.scope u)) w2) (K (Returns x) y w2))
            (scope-gone again again' P bodies chains classless turns R C plain-result A B S (os ++ D.returns) u.frame.scope u g2 (record (all_gone u.frame.scope u).frame { scope = os }))
            (ways.returns x (with_scope os (all_gone u.frame.scope u)) g2 w2
            (moved-then m m s f t g (with_scope os (all_gone u.frame.scope u)) g2 (omega arith) v (moved-out again again' P bodies chains classless turns R C plain-result A B S m t g u g2 v2))
            (owned-closed D.params D.own os u owned)));
      } in
      let by-aim : (a : Option Aim) → (pick z es).aim ≡ a → Follows S (and_then (core_by again P a es t0 w) (on c1)) Y = λ a.
      elim a as (λ a. (pick z es).aim ≡ a → Follows S (and_then (core_by again P a es t0 w) (on c1)) Y) [
        | None ↦ (λ is. falls-off is _ (scope-leave os calling.Falls t0 w c _ (out t0 g h w (moved-all m l t0 g st0.ready) st0.owned)))
        | Some a ↦ (λ is.
            from-label a es m ok all-do ((pick z es).has a is) (switched o) D1 l (ending es) h t0 g w c1 K1 fit passed_none st0 room leaves
            (λ u g2 h2 w2 v2 held-now low owned.
            finished-steps again' (H again again' P) classless A B S (declared_all es) u.frame.scope (next_locals m es) nothing h2 K1 _ u g2 w2
            (subst (λ xs. Held u g2.locals (next_locals m es) xs u.frame.scope) (append-nil (declared_all es)) held-now)
            (scope-leave os calling.Falls u w2 c _ (out u g2 h2 w2 v2 owned))) Y (meets a is))
      ] in
      pull-two (chosen_case again P z es t0 w) (closes os) does.leaving c _
      (subst (λ (a : Act calling.Flow). Follows S (and_then (a t0 w) (on c1)) Y) (sym (pick z es).core) (by-aim (pick z es).aim refl))

  -- a switch by a number in a register
  look-steps : (n : Register) (v : Value) (z : ℤ) (ss rest : Plains) (h : Registers) (K : Flow → Act B) (x : Ran (Did A)) (u : State) (w : World)
      → h n ≡ Some v → Usable v → number_of v ≡ gives z → Follows S x (and_then (look ss h z u w) (on (left_by rest K))) → Follows S x (runs_on again' (H again again' P) (more (plain.switch n ss) rest) h K u w)
  look-steps n v z ss rest h K x u w at usable number next =
      let left : ℤ → Act Flow = λ z. look ss h z >>= running.leaving in
      push (running.does again' (H again again' P) (plain.switch n ss) h u w) (falling (λ h. all again' (H again again' P) rest h)) K x
      (subst (λ r. Follows S x (and_then ((((some_or r malformed >>= used) >>= number_of) >>= left) u w) (on (follows_by rest K)))) (sym at)
      (subst (λ (a : Act Value). Follows S x (and_then (((a >>= number_of) >>= left) u w) (on (follows_by rest K)))) (sym usable)
      (subst (λ (a : Act ℤ). Follows S x (and_then ((a >>= left) u w) (on (follows_by rest K)))) (sym number)
      (push (look ss h z u w) running.leaving (follows_by rest K) x next))))

  module _ (e : Core) (es : Cores) (all-do : DoAll es) (m : ℕ) (is : is_value e ≡ true) (ok : are_cases m es ≡ true) (o : Open) (D : Beyond) (k : ℕ) (rest : Plains) (s : State) (f : Frame)
      (c : calling.Flow → Act A) (K : Flow → Act B) (fit : all_arms_fit s.frame.count es ≡ true) (passed_none : none_passed es ≡ true) (st : Stands o D m k s f) (room : k + length (added (nodes e ++ nodes_all es)) ≤ f.count) (ways : Out D m s f c K) (falls : End D m o.here m c K rest s f) where
    abbrev l : ℕ
    l = k + width e

    abbrev body : Plains
    body = cases_of (switched o) es l

    abbrev chosen : ℤ → Act calling.Flow
    chosen z = in_scope again P (chosen_case again P z es) >>= does.leaving

    first : l ≤ f.count
    first = first-room k f.count (nodes e) (nodes_all es) room

    second : l + length (added (nodes_all es)) ≤ f.count
    second = second-room k f.count (nodes e) (nodes_all es) room

    -- the switch comes to what is chosen
    body-looks : (z : ℤ) (h : Registers) → look body h z ≡ plain_by again' (H again again' P) (pick z es).aim body h
    body-looks z h =
        (pick z es).plain body (same-cases z es m ok (switched o) l (ending es) ((silent-finished again' (H again again' P) (declared_all es)).labels z nothing))
        (λ g has. no-default es m ok has (switched o) l (ending es) g ((silent-finished again' (H again again' P) (declared_all es)).at_default nothing g)) h

    -- and so does the switch before
    before-looks : (z : ℤ) (h : Registers) → look (passing [] es) h z ≡ plain_by again' (H again again' P) (pick z es).aim (passing [] es) h
    before-looks z h =
        (pick z es).plain (passing [] es) (passing-has again' (H again again' P) z es m ok [])
        (λ g has. passing-without again' (H again again' P) es m ok has [] g) h

    -- behind the value: it is looked up among the labels
    abbrev Looks : Plains → Plains → Type 0
    Looks ss behind_it =
        (v : Value) (z : ℤ) (t : State) (h : Registers) (f1 : Frame) (w : World) → h (0 + width e) ≡ Some v → Usable v → number_of v ≡ gives z → t.frame ≡ s.frame → Kept k f f1 → Later s t
        → Follows S (and_then (chosen z t w) (on c)) (and_then (look ss h z (with_frame f1 t) w) (on (left_by behind_it K)))

    by-body : passes_local es ≡ false → Looks body rest
    by-body alone v z t h f1 w at usable number same kept lasts =
        let later = stands-on again again' P bodies chains classless turns R C plain-result A B S o D m k l s f t f1 st same kept lasts (omega arith) first in
        let count : f1.count ≡ f.count = ap (λ (x : Frame). x.count) kept.frame in
        dispatched z es m ok all-do o D k l rest h s f t f1 w c K (subst (λ n. all_arms_fit n es ≡ true) (sym (moved-count m s f t f1 later.0)) fit) passed_none st later.0 (ap (λ (x : Frame). x.scope) same) later.1 (let sum : l + length (added (nodes_all es)) ≤ f.count = second in omega arith) ways falls _
        (λ none_there x follows.
        subst (λ (a : Act Flow). Follows S x (and_then (a (with_frame f1 t) w) (on (left_by rest K)))) (sym (body-looks z h ∙ ap (λ a. plain_by again' (H again again' P) a body h) none_there)) follows)
        (λ a there further p n u f2 x path follows.
        subst (λ (a : Act Flow). Follows S x (and_then (a (with_frame f1 t) w) (on (left_by rest K))))
        (sym (body-looks z h ∙ ap (λ a. plain_by again' (H again again' P) a body h) there ∙ path.second h))
        (subst (Follows S x)
        (sym (path.runs (sts p further n (ending es)) h (left_by rest K))
        ∙ ap (λ ys. runs_on again' (H again again' P) (made (reverse ys) (sts p further n (ending es))) h (left_by rest K) (with_frame f1 t) w) (path.alone alone)) follows))

    by-both : Looks (passing [] es) (more (plain.switch (0 + width e) body) rest)
    by-both v z t h f1 w at usable number same kept lasts =
        let later = stands-on again again' P bodies chains classless turns R C plain-result A B S o D m k l s f t f1 st same kept lasts (omega arith) first in
        let count : f1.count ≡ f.count = ap (λ (x : Frame). x.count) kept.frame in
        let behind_it : Plains = more (plain.switch (0 + width e) body) rest in
        dispatched z es m ok all-do o D k l rest h s f t f1 w c K (subst (λ n. all_arms_fit n es ≡ true) (sym (moved-count m s f t f1 later.0)) fit) passed_none st later.0 (ap (λ (x : Frame). x.scope) same) later.1 (let sum : l + length (added (nodes_all es)) ≤ f.count = second in omega arith) ways falls _
        (λ none_there x follows.
        subst (λ (a : Act Flow). Follows S x (and_then (a (with_frame f1 t) w) (on (left_by behind_it K)))) (sym (before-looks z h ∙ ap (λ a. plain_by again' (H again again' P) a (passing [] es) h) none_there))
        (look-steps (0 + width e) v z body rest h K x (with_frame f1 t) w at usable number
        (subst (λ (a : Act Flow). Follows S x (and_then (a (with_frame f1 t) w) (on (left_by rest K)))) (sym (body-looks z h ∙ ap (λ a. plain_by again' (H again again' P) a body h) none_there)) follows)))
        (λ a there further p n u f2 x path follows.
        subst (λ (a : Act Flow). Follows S x (and_then (a (with_frame f1 t) w) (on (left_by behind_it K))))
        (sym (before-looks z h ∙ ap (λ a. plain_by again' (H again again' P) a (passing [] es) h) there ∙ path.first h))
        (subst (λ ys. Follows S x (runs_on again' (H again again' P) (made (reverse ys) (more leave path.tail)) h (left_by behind_it K) (with_frame f1 t) w)) (sym (path.here ∙ append-nil path.new))
        (subst (Follows S x) (sym (path.runs (more leave path.tail) h (left_by behind_it K)))
        (look-steps (0 + width e) v z body rest h K x (with_frame f2 u) w at usable number
        (subst (λ (a : Act Flow). Follows S x (and_then (a (with_frame f2 u) w) (on (left_by rest K))))
        (sym (body-looks z h ∙ ap (λ a. plain_by again' (H again again' P) a body h) there ∙ path.second h)) follows)))))

    -- the value, and then a switch by it
    by-value : (ss behind_it : Plains) → Looks ss behind_it → (g : Registers) (w : World)
        → Follows S (and_then (does.does again P (core.switch e es) s w) (on c))
        (runs_on again' (H again again' P) (whole e 0 k (λ x n rest. value P.classes x e None n k (use_of n rest)) (λ n. more (plain.switch (0 + width e) ss) behind_it)) g K (with_frame f s) w)
    by-value ss behind_it looks g w =
        pull (and_then (full_expression again P (meaning.value again P e None >>= used) s w) (on number_of)) chosen c _
        (pull (full_expression again P (meaning.value again P e None >>= used) s w) number_of (λ z. chosen z >>= c) _
        (lasts-on again again' P bodies chains classless turns R C plain-result A B S o D m k s f w st (full_expression again P (meaning.value again P e None >>= used))
        (used-full again P classless turns.rests s.next s.object s.frame.scope e is) (λ v. number_of v >>= (λ z. chosen z >>= c)) _
        (used-steps again again' P bodies chains classless A B S e is k (λ x. more (plain.switch (0 + width e) ss) behind_it) g s f w (tested s.next s.object (λ v. number_of v >>= (λ z. chosen z >>= c))) K st.ready first
        (λ v t h f1 w1 usable at same kept.
        told again again' P bodies chains classless turns R C plain-result A B S s (λ v. number_of v >>= (λ z. chosen z >>= c)) v t w1 _ (λ lasts.
        let left : ℤ → Act Flow = λ z. look ss h z >>= running.leaving in
        push (running.does again' (H again again' P) (plain.switch (0 + width e) ss) h (with_frame f1 t) w1) (falling (λ h. all again' (H again again' P) behind_it h)) K _
        (subst (λ r. Follows S (and_then (number_of v t w1) (on (λ z. chosen z >>= c))) (and_then ((((some_or r malformed >>= used) >>= number_of) >>= left) (with_frame f1 t) w1) (on (follows_by behind_it K)))) (sym at)
        (subst (λ (a : Act Value). Follows S (and_then (number_of v t w1) (on (λ z. chosen z >>= c))) (and_then (((a >>= number_of) >>= left) (with_frame f1 t) w1) (on (follows_by behind_it K)))) (sym usable)
        (push (number_of v (with_frame f1 t) w1) left (follows_by behind_it K) _
        (pure-known (number_of v) (pure-number_of v) (λ z. chosen z >>= c) (λ z. left z >>= follows_by behind_it K) t (with_frame f1 t) w1 (λ z number.
        push (look ss h z (with_frame f1 t) w1) running.leaving (follows_by behind_it K) _ (looks v z t h f1 w1 at usable number same kept lasts)))))))))))

  pub switch-steps : (e : Core) (es : Cores) → DoAll es → (m : ℕ) → is_value e ≡ true → are_cases m es ≡ true → (o : Open) (D : Beyond) (k : ℕ) (rest : Plains) (g : Registers) (s : State) (f : Frame) (w : World)
      (c : calling.Flow → Act A) (K : Flow → Act B) → all_arms_fit s.frame.count es ≡ true → none_passed es ≡ true
      → Stands o D m k s f → k + length (added (nodes e ++ nodes_all es)) ≤ f.count → Out D m s f c K → End D m o.here m c K rest s f
      → Follows S (and_then (does.does again P (core.switch e es) s w) (on c)) (runs_on again' (H again again' P) (statement (inside_of P R C o) (core.switch e es) k rest) g K (with_frame f s) w)
  switch-steps e es all-do m is ok o D k rest g s f w c K fit passed_none st room ways falls =
      let n : ℕ = 0 + width e in
      let body : Plains = cases_of (switched o) es (k + width e) in
      let code : Full → Register → Plains → Plains = λ x n rest. value P.classes x e None n k (use_of n rest) in
      let written : Plains → Ran (Did B) = λ q. runs_on again' (H again again' P) (whole e 0 k code (λ n. q)) g K (with_frame f s) w in
      hit-or-miss (passes_local es)
      (λ there. subst (λ q. Follows S (and_then (does.does again P (core.switch e es) s w) (on c)) (written q)) (sym (does-pass n es (more (plain.switch n body) rest) there))
      (by-value e es all-do m is ok o D k rest s f c K fit passed_none st room ways falls (passing [] es) (more (plain.switch n body) rest)
      (by-both e es all-do m is ok o D k rest s f c K fit passed_none st room ways falls) g w))
      (λ alone. subst (λ q. Follows S (and_then (does.does again P (core.switch e es) s w) (on c)) (written q)) (sym (not-passed n es (more (plain.switch n body) rest) alone))
      (by-value e es all-do m is ok o D k rest s f c K fit passed_none st room ways falls body rest
      (by-body e es all-do m is ok o D k rest s f c K fit passed_none st room ways falls alone) g w))
