-- Scopes: the ways out of a statement, the end of a scope, and the arms of a branch.
use Rattle.std.proofs.Common.{◌≡◌, ℕ, ◌+◌, ◌≤◌, Bool, true, false, not, ◌||◌, List, [], ◌++◌, refl, sym, ◌∙◌, ap, subst, arith, append-nil, append_assoc}
use Rattle.std.specs.Prelude.{Some}
use Rattle.cf_base.specs.World.{World, Ran, Went, and_then}
use Rattle.cf_core.specs.Types.{SourceType, Name, is_class}
use Rattle.cf_core.specs.Core.{Core, Function}
use Rattle.cf_core.specs.Store.{Value}
use Rattle.cf_core.specs.Run.{State, Frame, Did, Gives, Act, ◌>>=◌, ◌>>◌, gives, state, for_all, frame_changed, with_frame}
use Rattle.cf_core.specs.Calls as calling
use Rattle.cf_core.specs.Calls.{Program, root, turn, function_named, end_object, in_scope, full_expression}
use Rattle.cf_core.specs.Statements as does
use Rattle.cf_plain.specs.Plain.{Plains, nothing}
use Rattle.cf_plain.specs.Acts.{Registers}
use Rattle.cf_plain.specs.Running as running
use Rattle.cf_plain.specs.Running.{Flow, Falls, Breaks, Continues, Returns, keep, falling, turning, all}
use Rattle.cf_sequence.specs.Follows.{Follows}
use Rattle.cf_sequence.specs.Built.{is_chain, next_local, is_statement, arms_fit}
use Rattle.cf_sequence.specs.Made.{Local, width, declared}
use Rattle.cf_sequence.specs.Expressions.{finished}
use Rattle.cf_sequence.specs.Statements.{statement, held}
use Rattle.cf_sequence.proofs.Following.{on}
use Rattle.cf_sequence.proofs.Calling.{Bodies}
use Rattle.cf_sequence.proofs.Kept.{Kept}
use Rattle.cf_sequence.proofs.PlainSteps.{runs_on}
use Rattle.cf_sequence.proofs.Operands.{H}
use Rattle.cf_sequence.proofs.Moving.{Later, all_gone, gone-frame, gone-append, ends-all, Held, held-kept, finished-steps, Moved, moved-count, moved-then, moved-kept, with_scope, moved-scope, moved-opened, moved-gone, Beyond, Owned, owned-kept, owned-closed}
use Rattle.cf_sequence.proofs.Lasting.{Keeps, Newer, Lasting}
use Rattle.cf_sequence.proofs.Tested.{tested, lasting-on, told-on}
use Rattle.cf_sequence.proofs.Standing.{Open, inside_of, Stands, stands-later, Turns}

module _ (again : calling.Again) (again' : running.Again) (P : Program) (bodies : Bodies again again' P)
    (chains : (name : Name) (f : Function) → function_named P name ≡ Some f → is_chain f.type ≡ true)
    (classless : P.classes ≡ []) (turns : Turns again again' P) (R C : SourceType) (plain-result : is_class R ≡ false)
    (A B : Type 0) (S : A → State → B → State → Type 0) where
  -- the ways out of a statement
  pub record Ways (D : Beyond) (m : ℕ) (s : State) (f : Frame) (c : calling.Flow → Act A) (K : Flow → Act B) : Type 0 where
    pub breaks : (t : State) (g : Frame) (h : Registers) (w : World) → Moved m s f t g → Owned D.params D.own t
        → Follows S (c calling.Breaks t w) (K (Breaks h) (with_frame g (all_gone (t.frame.scope ++ D.breaks) t)) w)
    pub continues : (t : State) (g : Frame) (h : Registers) (w : World) → Moved m s f t g → Owned D.params D.own t
        → Follows S (c calling.Continues t w) (K (Continues h) (with_frame g (all_gone (t.frame.scope ++ D.continues) t)) w)
    pub returns : (v : Value) (t : State) (g : Frame) (w : World) → Moved m s f t g → Owned D.params D.own t
        → Follows S (c (calling.Returns v) t w) (K (Returns v) (with_frame g (all_gone (t.frame.scope ++ D.returns) t)) w)

  pub ways-later : (D : Beyond) (m n : ℕ) (s : State) (f : Frame) (t : State) (g : Frame) (c : calling.Flow → Act A) (K : Flow → Act B)
      → m ≤ n → Moved m s f t g → Ways D m s f c K → Ways D n t g c K
  ways-later D m n s f t g c K le v ways = record {
    breaks = λ u h r w v2 owned. ways.breaks u h r w (moved-then m n s f t g u h le v v2) owned;
    continues = λ u h r w v2 owned. ways.continues u h r w (moved-then m n s f t g u h le v v2) owned;
    returns = λ x u h w v2 owned. ways.returns x u h w (moved-then m n s f t g u h le v v2) owned;
  }

  -- the end of a statement that falls through, with these locals in the scope at hand
  abbrev pub Fallen : (D : Beyond) (n : ℕ) (xs : List Local) (m : ℕ) (c : calling.Flow → Act A) (K : Flow → Act B) (rest : Plains) (s : State) (f : Frame) → Type 0
  Fallen D n xs m c K rest s f =
      (t : State) (g : Frame) (h : Registers) (w : World) → Moved m s f t g → Held t g.locals n xs t.frame.scope → n ≤ t.frame.count → Owned D.params D.own t
      → Follows S (c calling.Falls t w) (runs_on again' (H again again' P) rest h K (with_frame g t) w)

  -- behind an expression
  pub fall-on : (o : Open) (D : Beyond) (m k : ℕ) (c : calling.Flow → Act A) (K : Flow → Act B) (rest : Plains) (s : State) (f : Frame) → Stands o D m k s f → Fallen D m o.here m c K rest s f
      → (t : State) (g : Frame) (h : Registers) (w : World) → t.frame ≡ s.frame → Kept k f g → Later s t → Follows S (c calling.Falls t w) (runs_on again' (H again again' P) rest h K (with_frame g t) w)
  fall-on o D m k c K rest s f st falls t g h w same kept later =
      let c1 = st.ready.count in
      let le : m ≤ k = (let l = st.low in omega arith) in
      let v : Moved m s f t g = moved-kept m k s f t g le st.ready same kept later in
      falls t g h w v
      (subst (λ (e : Frame). Held t g.locals m o.here e.scope) (sym same) (held-kept s t f.locals g.locals m m o.here s.frame.scope later st.here (omega arith) v.below))
      (let e = moved-count m s f t g v in let l = st.low in omega arith) (owned-kept D.params D.own s t st.owned same later)

  -- what an act of the core leaves is known behind it
  pub lasts-on : {V : Type 0} (o : Open) (D : Beyond) (m k : ℕ) (s : State) (f : Frame) (w : World) → Stands o D m k s f → (act : Act V) → Keeps (Lasting s.next s.object s.frame.scope) act → (c : V → Act A) (y : Ran (Did B))
      → Follows S (and_then (act s w) (on (tested s.next s.object c))) y → Follows S (and_then (act s w) (on c)) y
  lasts-on o D m k s f w st act keeps c y h =
      lasting-on s.next s.object s.frame.scope s w act keeps
      (record {
        next = omega arith;
        objects = λ o lt. record { type = refl; life = refl; gone = refl };
        temporaries = subst (Newer s.next) (sym st.empty) tt;
        scope = record { newer = []; parts = refl; new = tt };
      }) c y h

  pub told : {V : Type 0} (s : State) (c : V → Act A) (v : V) (t : State) (w : World) (y : Ran (Did B)) → (Later s t → Follows S (c v t w) y) → Follows S (tested s.next s.object c v t w) y
  told s c v t w y next = told-on s s.next s.object refl refl c v t w y next

  -- ---- scopes

  abbrev pub closing_scope : List ℕ → calling.Flow → Act calling.Flow
  closing_scope os flow = state >>= (λ t. for_all t.frame.scope (end_object again P) >> (frame_changed (λ f. record f { scope = os }) >> gives flow))

  pub scope-closed : (os : List ℕ) (flow : calling.Flow) (t : State) (w : World) → closing_scope os flow t w ≡ Went (Gives flow (with_scope os (all_gone t.frame.scope t))) w
  scope-closed os flow t w =
      ap (λ r. and_then r (on (λ u. frame_changed (λ f. record f { scope = os }) >> gives flow))) (ends-all again P classless t.frame.scope t w)

  pub scope-steps : (os : List ℕ) (flow : calling.Flow) (t : State) (w : World) (c : calling.Flow → Act A) (y : Ran (Did B))
      → Follows S (c flow (with_scope os (all_gone t.frame.scope t)) w) y → Follows S (and_then (closing_scope os flow t w) (on c)) y
  scope-steps os flow t w c y h = subst (λ r. Follows S (and_then r (on c)) y) (sym (scope-closed os flow t w)) h

  -- what ends within a scope and beyond it
  pub scope-gone : (xs os : List ℕ) (t : State) (h fr : Frame) → with_frame h (all_gone xs (with_frame fr (all_gone os t))) ≡ with_frame h (all_gone (os ++ xs) t)
  scope-gone xs os t h fr = ap (with_frame h) (gone-frame xs (all_gone os t) fr) ∙ sym (ap (with_frame h) (gone-append os xs t))

  pub scope-ended : (ps qs : List ℕ) (t : State) → t.frame.scope ≡ ps ++ qs → all_gone t.frame.scope t ≡ all_gone qs (all_gone ps t)
  scope-ended ps qs t split = ap (λ os. all_gone os t) split ∙ gone-append ps qs t

  pub moved-out : (m : ℕ) (s : State) (f : Frame) (t : State) (g : Frame) → Moved m (with_scope [] s) f t g → Moved m s f (with_scope s.frame.scope (all_gone t.frame.scope t)) g
  moved-out m s f t g v =
      moved-scope m s f (all_gone t.frame.scope t) g s.frame.scope (moved-gone m s f t g t.frame.scope (moved-opened m s [] f t g v))

  -- what stands beyond a scope that opens
  abbrev pub within : State → Beyond → Beyond
  within s D = record {
    breaks = s.frame.scope ++ D.breaks;
    continues = s.frame.scope ++ D.continues;
    returns = s.frame.scope ++ D.returns;
    own = s.frame.scope ++ D.own;
    params = D.params;
  }

  -- the ways out of a block are those of what it stands in
  pub block-ways : (D : Beyond) (m : ℕ) (s : State) (f : Frame) (c : calling.Flow → Act A) (K : Flow → Act B) → Ways D m s f c K
      → Ways (within s D) m (with_scope [] s) f (λ flow. closing_scope s.frame.scope flow >>= c) K
  block-ways D m s f c K ways = record {
    breaks = λ t g h w v owned.
        scope-steps s.frame.scope calling.Breaks t w c _
        (subst (λ u. Follows S (c calling.Breaks (with_scope s.frame.scope (all_gone t.frame.scope t)) w) (K (Breaks h) u w))
        (scope-gone (s.frame.scope ++ D.breaks) t.frame.scope t g (record (all_gone t.frame.scope t).frame { scope = s.frame.scope }))
        (ways.breaks (with_scope s.frame.scope (all_gone t.frame.scope t)) g h w (moved-out m s f t g v) (owned-closed D.params D.own s.frame.scope t owned)));
    continues = λ t g h w v owned.
        scope-steps s.frame.scope calling.Continues t w c _
        (subst (λ u. Follows S (c calling.Continues (with_scope s.frame.scope (all_gone t.frame.scope t)) w) (K (Continues h) u w))
        (scope-gone (s.frame.scope ++ D.continues) t.frame.scope t g (record (all_gone t.frame.scope t).frame { scope = s.frame.scope }))
        (ways.continues (with_scope s.frame.scope (all_gone t.frame.scope t)) g h w (moved-out m s f t g v) (owned-closed D.params D.own s.frame.scope t owned)));
    returns = λ x t g w v owned.
        scope-steps s.frame.scope (calling.Returns x) t w c _
        (subst (λ u. Follows S (c (calling.Returns x) (with_scope s.frame.scope (all_gone t.frame.scope t)) w) (K (Returns x) u w))
        (scope-gone (s.frame.scope ++ D.returns) t.frame.scope t g (record (all_gone t.frame.scope t).frame { scope = s.frame.scope }))
        (ways.returns x (with_scope s.frame.scope (all_gone t.frame.scope t)) g w (moved-out m s f t g v) (owned-closed D.params D.own s.frame.scope t owned)));
  }

  -- the end of a scope
  pub close-steps : (n : ℕ) (xs : List Local) (os : List ℕ) (rest : Plains) (c : calling.Flow → Act A) (K : Flow → Act B) (flow : calling.Flow)
      (t : State) (g : Frame) (h : Registers) (w : World)
      → Held t g.locals n (xs ++ []) t.frame.scope
      → Follows S (c flow (with_scope os (all_gone t.frame.scope t)) w) (runs_on again' (H again again' P) rest h K (with_frame g (all_gone t.frame.scope t)) w)
      → Follows S (and_then (closing_scope os flow t w) (on c)) (runs_on again' (H again again' P) (finished xs rest) h K (with_frame g t) w)
  close-steps n xs os rest c K flow t g h w held next =
      finished-steps again' (H again again' P) classless A B S xs t.frame.scope n rest h K _ t g w (subst (λ ys. Held t g.locals n ys t.frame.scope) (append-nil xs) held)
      (scope-steps os flow t w c _ next)

  abbrev pub Does : Core → Type 0
  Does st =
      (m : ℕ) → is_statement m st ≡ true → (o : Open) (D : Beyond) (k : ℕ) (rest : Plains) (g : Registers) (s : State) (f : Frame) (w : World)
      (c : calling.Flow → Act A) (K : Flow → Act B) → arms_fit s.frame.count st ≡ true
      → Stands o D m k s f → k + width st ≤ f.count → Ways D m s f c K → Fallen D (next_local m st) (declared st ++ o.here) m c K rest s f
      → Follows S (and_then (does.does again P st s w) (on c)) (runs_on again' (H again again' P) (statement (inside_of P R C o) st k rest) g K (with_frame f s) w)

  pub by-or : {X : Type 0} (a b : Bool) → (a || b) ≡ true → (a ≡ true → X) → (b ≡ true → X) → X
  by-or true b ok f g = f refl
  by-or false b ok f g = g ok

  -- what follows a branch or a loop
  abbrev pub behind : Plains → (Flow → Act B) → Flow → Act B
  behind rest K = λ flow. falling (λ h. all again' (H again again' P) rest h) flow >>= K

  pub ways-behind : (rest : Plains) (D : Beyond) (m : ℕ) (s : State) (f : Frame) (c : calling.Flow → Act A) (K : Flow → Act B) → Ways D m s f c K → Ways D m s f c (behind rest K)
  ways-behind rest D m s f c K ways = record { breaks = ways.breaks; continues = ways.continues; returns = ways.returns }

  -- behind a condition
  pub stands-on : (o : Open) (D : Beyond) (m k l : ℕ) (s : State) (f : Frame) (t : State) (g : Frame) → Stands o D m k s f → t.frame ≡ s.frame → Kept k f g → Later s t → k ≤ l → l ≤ f.count
      → Moved m s f t g × Stands o D m l t g
  stands-on o D m k l s f t g st same kept later le room =
      let c1 = st.ready.count in
      let m-le : m ≤ k = (let low = st.low in omega arith) in
      let v : Moved m s f t g = moved-kept m k s f t g m-le st.ready same kept later in
      let count : g.count ≡ f.count = ap (λ (x : Frame). x.count) kept.frame in (
        v,
        stands-later o D m m k l o.here s f t g st v (omega arith) (let e = moved-count m s f t g v in let low = st.low in omega arith) le (omega arith)
            (subst (λ (e : Frame). Held t g.locals m o.here e.scope) (sym same) (held-kept s t f.locals g.locals m m o.here s.frame.scope later st.here (omega arith) v.below))
            (owned-kept D.params D.own s t st.owned same later) st.above_here,
      )
