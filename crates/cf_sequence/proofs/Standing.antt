-- How the plain statements stand to the core between statements, and what further turns of a loop are.
use Rattle.std.proofs.Common.{◌≡◌, ℕ, suc, ◌+◌, ◌≤◌, ◌<◌, Bool, true, false, not, ◌&&◌, ◌||◌, nat_le, nat_lt, List, [], ◌∷◌, ◌++◌, refl, sym, ◌∙◌, ap, arith}
use Rattle.std.specs.Prelude.{Option, Some, None}
use Rattle.std.proofs.lemmas.Bool.Decides.{nat_tests}
use Rattle.cf_base.proofs.Tests.{both}
use Rattle.cf_base.specs.World.{World}
use Rattle.cf_core.specs.declared.operators.LoopForm.{LoopForm}
use Rattle.cf_core.specs.declared.operators.LoopForm.TheVariants as form
use Rattle.cf_core.specs.Types.{SourceType, is_class}
use Rattle.cf_core.specs.Core as core
use Rattle.cf_core.specs.Core.{Core, Cores, MaybeCore, Function, local_temporary, none, absent, given}
use Rattle.cf_core.specs.Places.{Place, is_reference}
use Rattle.cf_core.specs.Store.{Value, Built}
use Rattle.cf_core.specs.Run.{State, Frame, Act, ◌>>=◌, ◌>>◌, gives, with_frame}
use Rattle.cf_core.specs.Access.{used}
use Rattle.cf_core.specs.Objects.{settle}
use Rattle.cf_core.specs.Calls as calling
use Rattle.cf_core.specs.Calls.{Program, root, turn, function_named, end_object, in_scope, full_expression}
use Rattle.cf_core.specs.Expressions as meaning
use Rattle.cf_plain.specs.Plain.{Plains, nothing}
use Rattle.cf_plain.specs.Acts.{Registers}
use Rattle.cf_plain.specs.Running as running
use Rattle.cf_plain.specs.Running.{Flow, Falls, Breaks, Continues, Returns, keep, falling, turning, all}
use Rattle.cf_sequence.specs.Follows.{Follows}
use Rattle.cf_sequence.specs.Built.{is_value, is_element, is_held, behind_declared, next_local, next_local_or, next_locals, is_statement, is_statement_or, are_statements, arms_fit}
use Rattle.cf_sequence.specs.Made.{Local, width, width_maybe, declared, declared_maybe, declared_all, held_by}
use Rattle.cf_sequence.specs.Expressions.{finished}
use Rattle.cf_sequence.specs.Statements.{Inside, in_loop, statement, held, stepped}
use Rattle.cf_sequence.proofs.Calling.{never}
use Rattle.cf_sequence.proofs.Kept.{Ready, ready-more}
use Rattle.cf_sequence.proofs.LastingCode.{Rests}
use Rattle.cf_sequence.proofs.Moving.{all_gone, Later, later-same, Over, Held, held-kept, AllOver, AllBelow, below-more, below-append, AllAbove, above-append, above-less, Names, held-names, Moved, moved-ready, Beyond, Stays, has_ended, is_here, is_beyond, Owned}

-- the locals of the open scopes
pub record Open : Type 0 where
  pub here : List Local
  pub breaks : List Local
  pub continues : List Local
  pub returns : List Local
  pub own : List Local  -- those of returns that are no parameters

abbrev pub inside_of : Program → SourceType → SourceType → Open → Inside
inside_of P R C o = record {
  classes = P.classes;
  statics = P.statics;
  result = R;
  class = C;
  here = o.here;
  breaks = o.breaks;
  continues = o.continues;
  returns = o.returns;
}

abbrev pub opened : Open → Open
opened o = record { here = []; breaks = o.here ++ o.breaks; continues = o.here ++ o.continues; returns = o.here ++ o.returns; own = o.here ++ o.own }

abbrev pub looped : Open → Open
looped o = record { here = []; breaks = []; continues = []; returns = o.here ++ o.returns; own = o.here ++ o.own }

-- the two parts of a loop as plain statements
abbrev pub turn_code : Inside → LoopForm → MaybeCore → MaybeCore → Core → ℕ → Plains
turn_code f form.While q e s k = held f.classes q k (statement (in_loop f) s (k + width_maybe q + width_maybe e) (finished (declared s) nothing))
turn_code f form.For q e s k = held f.classes q k (statement (in_loop f) s (k + width_maybe q + width_maybe e) (finished (declared s) nothing))
turn_code f form.Do q e s k = statement (in_loop f) s (k + width_maybe q + width_maybe e) (finished (declared s) nothing)

abbrev pub step_code : Inside → LoopForm → MaybeCore → MaybeCore → Core → ℕ → Plains
step_code f form.While q e s k = stepped f.classes e (k + width_maybe q)
step_code f form.For q e s k = stepped f.classes e (k + width_maybe q)
step_code f form.Do q e s k = held f.classes q k nothing

-- how the plain statements stand to the core's
pub record Stands (o : Open) (D : Beyond) (m k : ℕ) (s : State) (f : Frame) : Type 0 where
  pub ready : Ready k s.frame f
  pub low : m ≤ s.frame.count
  pub result : s.frame.result ≡ None
  pub empty : s.frame.temporaries ≡ []
  pub here : Held s f.locals m o.here s.frame.scope
  pub breaks : Held s f.locals m o.breaks D.breaks
  pub continues : Held s f.locals m o.continues D.continues
  pub returns : Held s f.locals m o.returns D.returns
  pub own : Held s f.locals m o.own D.own
  pub owned : Owned D.params D.own s
  pub params : D.params ≤ m
  pub above_here : AllAbove D.params o.here
  pub above_own : AllAbove D.params o.own

pub stands-later : (o : Open) (D : Beyond) (m n k l : ℕ) (xs : List Local) (s : State) (f : Frame) (t : State) (g : Frame)
    → Stands o D m k s f → Moved m s f t g → m ≤ n → n ≤ t.frame.count → k ≤ l → l ≤ g.count → Held t g.locals n xs t.frame.scope → Owned D.params D.own t → AllAbove D.params xs → Stands (record o { here = xs }) D n l t g
stands-later o D m n k l xs s f t g st v le low more-locals room held owned above = record {
  ready = ready-more k l t.frame g more-locals room (moved-ready m k s f t g st.ready v);
  low = low;
  result = ap (λ (x : Frame). x.result) v.core ∙ st.result;
  empty = ap (λ (x : Frame). x.temporaries) v.core ∙ st.empty;
  here = held;
  breaks = held-kept s t f.locals g.locals m n o.breaks D.breaks v.later st.breaks le v.below;
  continues = held-kept s t f.locals g.locals m n o.continues D.continues v.later st.continues le v.below;
  returns = held-kept s t f.locals g.locals m n o.returns D.returns v.later st.returns le v.below;
  own = held-kept s t f.locals g.locals m n o.own D.own v.later st.own le v.below;
  owned = owned;
  params = (let a = st.params in omega arith);
  above_here = above;
  above_own = st.above_own;
}

-- a local of the function that no open scope has is over
pub over-at : (o : Open) (D : Beyond) (m k : ℕ) (s : State) (f : Frame) → Stands o D m k s f → (x : ℕ) → m ≤ x → x < s.frame.count → Over s (f.locals x)
over-at o D m k s f st x le lt = by (f.locals x) refl
  where
    named : (q : ℕ) → s.frame.locals x ≡ Some q → Names f.locals D.params m q → Over s (Some q)
    named q at n =
        let low : n.number < s.frame.count = (let a = n.high in let b = st.low in omega arith) in
        let same : x ≡ n.number = st.owned.apart x n.number q (let a = st.params in omega arith) n.low at (sym (st.ready.locals n.number low) ∙ n.at) in
        let high = n.high in absurd (omega (arith, same, high, le))

    stays : (q : ℕ) → s.frame.locals x ≡ Some q → q < s.next → Stays D.own s q → Over s (Some q)
    stays q at known (has_ended e) = (known, e)
    stays q at known (is_here e) = named q at (held-names s f.locals D.params m o.here s.frame.scope st.here st.above_here q e)
    stays q at known (is_beyond e) = named q at (held-names s f.locals D.params m o.own D.own st.own st.above_own q e)

    by : (p : Option ℕ) → f.locals x ≡ p → Over s p
    by None e = tt
    by (Some q) e =
        let high : D.params ≤ x = (let a = st.params in omega arith) in
        let at : s.frame.locals x ≡ Some q = sym (st.ready.locals x lt) ∙ e in
        stays q at (st.owned.known x q high at) (st.owned.stays x q high at)

pub moved-all : (m k : ℕ) (s : State) (f : Frame) → Ready k s.frame f → Moved m s f s f
moved-all m k s f r = record { core = refl; plain = refl; below = λ i lt. refl; locals = r.locals; later = later-same s }

-- an initialiser of a place, as a full expression of its own, in which its value is stored
abbrev pub settled_full : calling.Again → Program → Place → Core → Act (Unit {0})
settled_full again P p e = full_expression again P (meaning.value again P e (Some p) >>= settle P.classes p)

abbrev pub result_act : calling.Again → Program → Core → Option Place → Act Value
result_act again P e r = elim r [
  | None ↦ full_expression again P (meaning.value again P e None >>= used)
  | Some p ↦ settled_full again P p e >> gives Built
]

pub low-bound : (m i : ℕ) → nat_le m i ≡ true → m ≤ i
low-bound m i le = grind (arith, nat_tests)

-- the locals of a declaration are numbered on
pub behind-more : (t : SourceType) (i : ℕ) (e : Core) → (is_element t e || is_held i e) ≡ true → suc i ≤ behind_declared i e
behind-more t i (core.bind (local_temporary j u) e) ok = let lt : nat_lt i j ≡ true = (both (nat_lt i j) (not (is_reference u) && is_value e) ok).0 in grind (arith, nat_tests)
behind-more t i e ok = omega arith

pub behind-element : (t : SourceType) (i : ℕ) (e : Core) → is_element t e ≡ true → behind_declared i e ≡ suc i
behind-element t i (core.bind (local_temporary j u) e) ok = never ok
behind-element t i e ok = refl

-- a statement's locals are numbered on
mutual
  pub next-more : (m : ℕ) (s : Core) → is_statement m s ≡ true → m ≤ next_local m s
  next-more m (core.declare i t e) ok =
      let parts = both (nat_le m i) (is_element t e || is_held i e) ok in
      let low : m ≤ i = low-bound m i parts.0 in
      let more-locals : suc i ≤ behind_declared i e = behind-more t i e parts.1 in omega arith
  next-more m (core.sequence es) ok = next-more-all m es ok
  next-more m (core.branch c a b) ok =
      let parts = both (is_value c) (is_statement m a && is_statement_or (next_local m a) b) ok in
      let arms = both (is_statement m a) (is_statement_or (next_local m a) b) parts.1 in
      let first = next-more m a arms.0 in let second = next-more-or (next_local m a) b arms.1 in omega arith
  next-more m s ok = omega arith

  pub next-more-or : (m : ℕ) (b : MaybeCore) → is_statement_or m b ≡ true → m ≤ next_local_or m b
  next-more-or m absent ok = omega arith
  next-more-or m (given s) ok = next-more m s ok

  next-more-all : (m : ℕ) (es : Cores) → are_statements m es ≡ true → m ≤ next_locals m es
  next-more-all m none ok = omega arith
  next-more-all m (core.more s rest) ok =
      let parts = both (is_statement m s) (are_statements (next_local m s) rest) ok in
      let first = next-more m s parts.0 in let second = next-more-all (next_local m s) rest parts.1 in omega arith

-- what declares nothing has no number of its own
both-empty : (xs ys : List Local) → xs ++ ys ≡ [] → (xs ≡ []) × (ys ≡ [])
both-empty [] ys e = (refl, e)
both-empty (x ∷ xs) ys e = absurd (cc)

mutual
  pub none-next : (m : ℕ) (s : Core) → declared s ≡ [] → next_local m s ≡ m
  none-next m (core.declare i t e) empty = absurd (cc)
  none-next m (core.sequence es) empty = none-nexts m es empty
  none-next m (core.branch c a b) empty =
      let two = both-empty (declared_maybe b) (declared a) empty in ap (λ n. next_local_or n b) (none-next m a two.1) ∙ none-next-or m b two.0
  none-next m s empty = refl

  none-next-or : (m : ℕ) (b : MaybeCore) → declared_maybe b ≡ [] → next_local_or m b ≡ m
  none-next-or m absent empty = refl
  none-next-or m (given s) empty = none-next m s empty

  none-nexts : (m : ℕ) (es : Cores) → declared_all es ≡ [] → next_locals m es ≡ m
  none-nexts m none empty = refl
  none-nexts m (core.more s rest) empty =
      let two = both-empty (declared_all rest) (declared s) empty in ap (λ n. next_locals n rest) (none-next m s two.1) ∙ none-nexts m rest two.0

-- what a statement declares has the numbers from its bound on
above-held : (m i : ℕ) (e : Core) (t : SourceType) → m ≤ i → (is_element t e || is_held i e) ≡ true → AllAbove m (held_by e)
above-held m i (core.bind (local_temporary j u) e) t le ok = let lt : nat_lt i j ≡ true = (both (nat_lt i j) (not (is_reference u) && is_value e) ok).0 in ((grind (arith, nat_tests)), tt)
above-held m i e t le ok = tt

mutual
  pub declared-above : (m : ℕ) (s : Core) → is_statement m s ≡ true → AllAbove m (declared s)
  declared-above m (core.declare i t e) ok =
      let parts = both (nat_le m i) (is_element t e || is_held i e) ok in
      (low-bound m i parts.0, above-held m i e t (low-bound m i parts.0) parts.1)
  declared-above m (core.sequence es) ok = all-above m es ok
  declared-above m (core.branch c a b) ok =
      let parts = both (is_value c) (is_statement m a && is_statement_or (next_local m a) b) ok in
      let arms = both (is_statement m a) (is_statement_or (next_local m a) b) parts.1 in
      above-append m (declared_maybe b) (declared a) (above-less (next_local m a) m (declared_maybe b) (next-more m a arms.0) (maybe-above (next_local m a) b arms.1)) (declared-above m a arms.0)
  declared-above m s ok = tt

  pub maybe-above : (m : ℕ) (b : MaybeCore) → is_statement_or m b ≡ true → AllAbove m (declared_maybe b)
  maybe-above m absent ok = tt
  maybe-above m (given s) ok = declared-above m s ok

  all-above : (m : ℕ) (es : Cores) → are_statements m es ≡ true → AllAbove m (declared_all es)
  all-above m none ok = tt
  all-above m (core.more s rest) ok =
      let parts = both (is_statement m s) (are_statements (next_local m s) rest) ok in
      above-append m (declared_all rest) (declared s) (above-less (next_local m s) m (declared_all rest) (next-more m s parts.0) (all-above (next_local m s) rest parts.1)) (declared-above m s parts.0)

-- and below the next bound
below-held : (i : ℕ) (e : Core) (t : SourceType) → (is_element t e || is_held i e) ≡ true → AllBelow (behind_declared i e) (held_by e)
below-held i (core.bind (local_temporary j u) e) t ok = (omega arith, tt)
below-held i e t ok = tt

mutual
  pub declared-below : (m : ℕ) (s : Core) → is_statement m s ≡ true → AllBelow (next_local m s) (declared s)
  declared-below m (core.declare i t e) ok =
      let parts = both (nat_le m i) (is_element t e || is_held i e) ok in
      ((let more-locals : suc i ≤ behind_declared i e = behind-more t i e parts.1 in omega arith), below-held i e t parts.1)
  declared-below m (core.sequence es) ok = all-below m es ok
  declared-below m (core.branch c a b) ok =
      let parts = both (is_value c) (is_statement m a && is_statement_or (next_local m a) b) ok in
      let arms = both (is_statement m a) (is_statement_or (next_local m a) b) parts.1 in
      below-append (next_local_or (next_local m a) b) (declared_maybe b) (declared a) (maybe-below (next_local m a) b arms.1)
      (below-more (next_local m a) (next_local_or (next_local m a) b) (declared a) (next-more-or (next_local m a) b arms.1) (declared-below m a arms.0))
  declared-below m s ok = tt

  pub maybe-below : (m : ℕ) (b : MaybeCore) → is_statement_or m b ≡ true → AllBelow (next_local_or m b) (declared_maybe b)
  maybe-below m absent ok = tt
  maybe-below m (given s) ok = declared-below m s ok

  all-below : (m : ℕ) (es : Cores) → are_statements m es ≡ true → AllBelow (next_locals m es) (declared_all es)
  all-below m none ok = tt
  all-below m (core.more s rest) ok =
      let parts = both (is_statement m s) (are_statements (next_local m s) rest) ok in
      below-append (next_locals (next_local m s) rest) (declared_all rest) (declared s) (all-below (next_local m s) rest parts.1)
      (below-more (next_local m s) (next_locals (next_local m s) rest) (declared s) (next-more-all (next_local m s) rest parts.1) (declared-below m s parts.0))

-- A statement's next number is the bound, or does not depend on it.
data Steady (f : ℕ → ℕ) : Type 0 where
  same_bound : ((m : ℕ) → f m ≡ m) → Steady f
  own_bound : ((m n : ℕ) → f m ≡ f n) → Steady f

steady-then : (f g : ℕ → ℕ) → Steady f → Steady g → Steady (λ m. g (f m))
steady-then f g (same_bound a) (same_bound b) = same_bound (λ m. b (f m) ∙ a m)
steady-then f g (own_bound a) (same_bound b) = own_bound (λ m n. b (f m) ∙ a m n ∙ sym (b (f n)))
steady-then f g x (own_bound b) = own_bound (λ m n. b (f m) (f n))

mutual
  steady : (s : Core) → Steady (λ m. next_local m s)
  steady (core.declare i t e) = own_bound (λ m n. refl)
  steady (core.sequence es) = steady-all es
  steady (core.branch c a b) = steady-then (λ m. next_local m a) (λ m. next_local_or m b) (steady a) (steady-or b)
  steady s = same_bound (λ m. refl)

  steady-or : (b : MaybeCore) → Steady (λ m. next_local_or m b)
  steady-or absent = same_bound (λ m. refl)
  steady-or (given s) = steady s

  steady-all : (es : Cores) → Steady (λ m. next_locals m es)
  steady-all none = same_bound (λ m. refl)
  steady-all (core.more s rest) = steady-then (λ m. next_local m s) (λ m. next_locals m rest) (steady s) (steady-all rest)

pub next-within : (m n : ℕ) (s : Core) → m ≤ n → next_local 0 s ≤ n → next_local m s ≤ n
next-within m n s le within = by (steady s)
  where
    by : Steady (λ m. next_local m s) → next_local m s ≤ n
    by (same_bound a) = let e = a m in omega arith
    by (own_bound a) = let e = a m 0 in omega arith

-- locals from the bound on are over
pub all-over : (o : Open) (D : Beyond) (m k : ℕ) (s : State) (f : Frame) → Stands o D m k s f → (n : ℕ) → n ≤ s.frame.count → (xs : List Local) → AllAbove m xs → AllBelow n xs → AllOver s f.locals n xs
all-over o D m k s f st n le [] above below = tt
all-over o D m k s f st n le (x ∷ xs) above below =
    (below.0, over-at o D m k s f st x.number above.0 (let a = below.0 in omega arith), all-over o D m k s f st n le xs above.1 below.1)

-- how further turns of a loop end
abbrev pub EndsAs : List Local → ℕ → Beyond → Frame → calling.Flow → State → Flow → State → Type 0
EndsAs xs m D g calling.Falls t (Falls h) u = Held t g.locals m xs t.frame.scope × (u ≡ with_frame g t)
EndsAs xs m D g calling.Falls t y u = ⊥
EndsAs xs m D g calling.Breaks t (Breaks h) u = u ≡ with_frame g (all_gone (t.frame.scope ++ D.breaks) t)
EndsAs xs m D g calling.Breaks t y u = ⊥
EndsAs xs m D g calling.Continues t (Continues h) u = u ≡ with_frame g (all_gone (t.frame.scope ++ D.continues) t)
EndsAs xs m D g calling.Continues t y u = ⊥
EndsAs xs m D g (calling.Returns v) t (Returns x) u = (v ≡ x) × (u ≡ with_frame g (all_gone (t.frame.scope ++ D.returns) t))
EndsAs xs m D g (calling.Returns v) t y u = ⊥

pub record Turned (here : List Local) (D : Beyond) (m : ℕ) (s : State) (f : Frame) (x : calling.Flow) (t : State) (y : Flow) (u : State) : Type 0 where
  pub plain : Frame
  pub moved : Moved m s f t plain
  pub owned : Owned D.params D.own t
  pub ends : EndsAs here m D plain x t y u

-- They follow each other, and functions and further turns leave what lasts of the objects of before.
pub record Turns (again : calling.Again) (again' : running.Again) (P : Program) : Type 0 where
  pub follow : (R C : SourceType) → is_class R ≡ false → (how : LoopForm) (q e : MaybeCore) (body : Core) (m : ℕ) → is_statement m (core.loop how q e body) ≡ true
      → (o : Open) (D : Beyond) (k : ℕ) (g : Registers) (s : State) (f : Frame) (w : World) → arms_fit s.frame.count body ≡ true
      → Stands o D m k s f → k + width (core.loop how q e body) ≤ f.count
      → Follows (Turned o.here D m s f) (again (turn (core.loop how q e body)) s w)
      (again' (running.turn (turn_code (inside_of P R C o) how q e body k) (step_code (inside_of P R C o) how q e body k) g) (with_frame f s) w)
  pub rests : Rests again P
