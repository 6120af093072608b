-- What follows the end of `main`: the registered functions, the newest first.
use Rattle.std.proofs.Common.{◌≡◌, ℕ, zero, suc, ◌<◌, ◌≤◌, Bool, true, false, List, [], ◌∷◌, length, ℤ, Result, Ok, Err, refl, ap, sym, ◌∙◌, arith, cond, ◌==◌}
use Rattle.std.proofs.lemmas.Bool.Decides.{nat_tests}
use Rattle.cf_base.specs.Event.{Enter, Ticks}
use Rattle.cf_base.specs.World.{World, Ran, Went, Stops, and_then, show}
use Rattle.cf_base.specs.Agree.{Adds}
use Rattle.cf_base.proofs.Agreement.{adds-then}
use Rattle.cc_whole.specs.Known.{is_helper, is_main}
use Rattle.cc_whole.specs.Plain.{Statement, block, Function}
use Rattle.cc_whole_memory.specs.declared.value.Value.{Value}
use Rattle.cc_whole_mean.specs.Scope.{Scope, bind_parameters}
use Rattle.cc_whole_mean.specs.Flow.{State, in_memory, Flow, ending, born_arguments, Called, called_back, tried}
use Rattle.cc_whole_mean.specs.Callee.{Callee, own, built_in}
use Rattle.cc_whole_mean.specs.Library.{wrong}
use Rattle.cc_whole_mean.specs.Mean.{Program, Again, run_function, enter_helper, enter_function, called_own, called, callee_of, helps_in, runs}
use Rattle.cc_whole_mean.specs.Mean as mean
use Rattle.cc_whole_mean.specs.Start.{Exiting, status_after, state_after, no_arguments, call_registered, exits_with, no_exit, exits}
use Rattle.cc_whole_mean.proofs.Enough.{Alike, AlikeBelow, alike-then, alike-tried, alike-spend, alike-deeper, library-left, helps-alike, runs-alike}
use Rattle.cc_whole_mean.proofs.Growth.{went, stopped, grows-tried, grows-called, grows-runs, grows-helps}
use Rattle.cc_whole_start.proofs.Quiet.{Holds, Quiet, registered_after, quiet-last}

-- ---- a function that is called where no tick was spent runs alike at a greater bound

alike-if : {A : Type 0} (n : ℕ) (b : Bool) (x y u v : Ran A) → Alike n x u → Alike n y v → Alike n (cond b x y) (cond b u v)
alike-if n true x y u v e f = e
alike-if n false x y u v e f = f

module _ (p : Program) (k : ℕ) (a b h i : Again) (again : AlikeBelow k a b) (helps : AlikeBelow (suc k) h i) where
  alike-function : (n : ℕ) (run other : Statement → Scope → ℕ → State → World → Ran Flow) (f : Function) (vs : List Value) (depth : ℕ) (s : State) (w : World)
      → ((st : Statement) (scope : Scope) (s : State) → Alike n (run st scope depth s w) (other st scope depth s w))
      → Alike n (run_function run p.names f vs depth s w) (run_function other p.names f vs depth s w)
  alike-function n run other f vs depth s w same =
      alike-then n (run (block f.body) (bind_parameters f.prototype.parameters s.memory.next p.names) depth (in_memory s (born_arguments vs s.memory)) w)
      (other (block f.body) (bind_parameters f.prototype.parameters s.memory.next p.names) depth (in_memory s (born_arguments vs s.memory)) w)
      (λ flow w. Went (called_back (ending (length vs) s.memory.next flow)) w) (λ flow w. Went (called_back (ending (length vs) s.memory.next flow)) w)
      (same (block f.body) (bind_parameters f.prototype.parameters s.memory.next p.names) (in_memory s (born_arguments vs s.memory)))
      (λ flow v le. record { same = refl; left = le })

  alike-helper : (inside : Bool) (f : Function) (vs : List Value) (depth : ℕ) (s : State) (w : World) → w.ticks ≤ k
      → Alike w.ticks (enter_helper inside h p.names f vs depth s w) (enter_helper inside i p.names f vs depth s w)
  alike-helper true f vs depth s w le = record { same = refl; left = tt }
  alike-helper false f vs depth s w le =
      alike-function w.ticks (h true) (i true) f vs depth s w (λ st scope s. helps true st scope depth s w (omega arith))

  alike-entered : (f : Function) (vs : List Value) (depth : ℕ) (s : State) (w : World) → w.ticks ≤ k
      → Alike w.ticks (enter_function a p.names f vs depth s w) (enter_function b p.names f vs depth s w)
  alike-entered f vs depth s w le = alike-spend w _ _ (λ v less. alike-deeper v.ticks depth v _ _ (λ d.
      alike-function v.ticks (a false) (b false) f vs d s (show (Enter f.prototype.name) v) (λ st scope s. again false st scope d s (show (Enter f.prototype.name) v) (omega arith))))

  alike-own : (inside : Bool) (f : Function) (vs : List Value) (depth : ℕ) (s : State) (w : World) → w.ticks ≤ k
      → Alike w.ticks (called_own a h p.names inside f vs depth s w) (called_own b i p.names inside f vs depth s w)
  alike-own inside f vs depth s w le =
      alike-if w.ticks (is_main f.prototype.name) _ _ _ _ (record { same = refl; left = tt })
      (alike-if w.ticks (length f.prototype.parameters == length vs) _ (wrong w) _ (wrong w)
      (alike-if w.ticks (is_helper f.prototype.name) _ _ _ _ (alike-helper inside f vs depth s w le) (alike-entered f vs depth s w le))
      (record { same = refl; left = tt }))

  pub alike-called : (inside : Bool) (c : Callee) (vs : List Value) (depth : ℕ) (s : State) (w : World) → w.ticks ≤ k
      → Alike w.ticks (called a h p inside c vs depth s w) (called b i p inside c vs depth s w)
  alike-called inside (own f) vs depth s w le = alike-own inside f vs depth s w le
  alike-called inside (built_in l) vs depth s w le = record { same = refl; left = library-left l inside vs s w }

alike-registered : (p : Program) (n depth f : ℕ) (s : State) (w : World) → w.ticks ≤ n
    → Alike w.ticks (call_registered (runs p n) p depth f s w) (call_registered (runs p (suc n)) p depth f s w)
alike-registered p n depth f s w le =
    alike-tried w.ticks (callee_of p.functions (mean.pointer no_arguments f)) w _ _ (λ c.
    alike-called p n (runs p n) (runs p (suc n)) (helps_in (runs p n) p false) (helps_in (runs p (suc n)) p false) (runs-alike p n)
    (helps-alike p n (runs p n) (runs p (suc n)) (runs-alike p n) false) false c [] depth s w le)

-- a registered function registers nothing, unless a tick was spent
quiet-registered : (p : Program) (n depth f : ℕ) (s : State) (w : World) → w.ticks ≤ n
    → Quiet registered_after s.registered w.ticks (call_registered (runs p n) p depth f s w)
quiet-registered p n depth f s w le = by (callee_of p.functions (mean.pointer no_arguments f))
  where
    by : (r : Result Callee ℕ)
        → Quiet registered_after s.registered w.ticks (tried r w (λ c. called (runs p n) (helps_in (runs p n) p false) p false c [] depth s w))
    by (Ok c) = quiet-last p n (runs p n) (runs p (suc n)) (runs-alike p n) (helps_in (runs p n) p false) (λ st scope depth s w. refl) c depth s w le
    by (Err act) = tt

-- ---- the steps of `exit`

-- how it goes on once a tick was spent
abbrev pub exits_before : Program → ℕ → ℕ → Exiting
exits_before p depth zero = no_exit
exits_before p depth (suc n) = exits p depth n

exits-are : (p : Program) (depth n : ℕ) (status : ℤ) (s : State) (w : World)
    → exits p depth n status s w ≡ exits_with (call_registered (runs p n) p depth) (exits_before p depth n) s.registered status s w
exits-are p depth zero status s w = refl
exits-are p depth (suc n) status s w = refl

-- where none is registered, the run ends with the status
pub exits-none : (p : Program) (depth n : ℕ) (status : ℤ) (s : State) (w : World) → s.registered ≡ [] → exits p depth n status s w ≡ Went status w
exits-none p depth n status s w none =
    exits-are p depth n status s w ∙ ap (λ l. exits_with (call_registered (runs p n) p depth) (exits_before p depth n) l status s w) none

same-then : {A B : Type 0} (n : ℕ) (x y : Ran A) (f g : A → World → Ran B) → Alike n x y → ((a : A) (w : World) → w.ticks ≤ n → f a w ≡ g a w)
    → and_then x f ≡ and_then y g
same-then n (Went a w) y f g e h = h a w e.left ∙ ap (λ r. and_then r g) e.same
same-then n (Stops end trace) y f g e h = ap (λ r. and_then r g) e.same

less-or_same : (n m : ℕ) → n ≤ m → (n == m) ≡ false → n < m
less-or_same n m le e = grind (arith, nat_tests, e, le)

module _ (p : Program) (depth n : ℕ) (before : (status : ℤ) (s : State) (w : World) → w.ticks < n → exits_before p depth n status s w ≡ exits p depth n status s w) where
  with_more : (reg : List ℕ) (status : ℤ) (s : State) (w : World) → w.ticks ≤ n
      → exits_with (call_registered (runs p n) p depth) (exits_before p depth n) reg status s w
      ≡ exits_with (call_registered (runs p (suc n)) p depth) (exits p depth n) reg status s w
  with_more [] status s w le = refl
  with_more (f ∷ rest) status s w le =
      same-then w.ticks (call_registered (runs p n) p depth f (record s { registered = rest }) w) (call_registered (runs p (suc n)) p depth f (record s { registered = rest }) w)
      _ _ (alike-registered p n depth f (record s { registered = rest }) w le)
      (λ r v less. by r v less (with_more rest (status_after status r) (state_after r) v (omega arith)) (v.ticks == w.ticks) refl)
    where
      by : (r : Called) (v : World) → v.ticks ≤ w.ticks
          → exits_with (call_registered (runs p n) p depth) (exits_before p depth n) rest (status_after status r) (state_after r) v
          ≡ exits_with (call_registered (runs p (suc n)) p depth) (exits p depth n) rest (status_after status r) (state_after r) v
          → (t : Bool) → (v.ticks == w.ticks) ≡ t
          → cond t (exits_with (call_registered (runs p n) p depth) (exits_before p depth n) rest (status_after status r) (state_after r) v)
          (exits_before p depth n (status_after status r) (state_after r) v)
          ≡ cond t (exits_with (call_registered (runs p (suc n)) p depth) (exits p depth n) rest (status_after status r) (state_after r) v)
          (exits p depth n (status_after status r) (state_after r) v)
      by r v less more true e = more
      by r v less more false e = before (status_after status r) (state_after r) v (let lt : v.ticks < w.ticks = less-or_same v.ticks w.ticks less e in omega arith)

-- at no more ticks than the bound, one more changes nothing
pub exits-again : (p : Program) (depth n : ℕ) (status : ℤ) (s : State) (w : World) → w.ticks ≤ n → exits p depth n status s w ≡ exits p depth (suc n) status s w
exits-again p depth zero status s w le =
    exits-are p depth zero status s w ∙ with_more p depth zero (λ status s w less. absurd (omega arith)) s.registered status s w le
exits-again p depth (suc n) status s w le =
    exits-are p depth (suc n) status s w
    ∙ with_more p depth (suc n) (λ status s w less. exits-again p depth n status s w (omega arith)) s.registered status s w le

exits-fewer : (p : Program) (depth n : ℕ) (status : ℤ) (s : State) (w : World) → w.ticks < n → exits_before p depth n status s w ≡ exits p depth n status s w
exits-fewer p depth zero status s w less = absurd (omega arith)
exits-fewer p depth (suc n) status s w less = exits-again p depth n status s w (omega arith)

quiet-same : {A B : Type 0} (found : A → List ℕ) (wanted : List ℕ) (t : ℕ) (x : Ran A) (f g : A → World → Ran B) → Quiet found wanted t x
    → ((a : A) (w : World) → Holds w.ticks t (found a) wanted → f a w ≡ g a w) → and_then x f ≡ and_then x g
quiet-same found wanted t (Went a w) f g q h = h a w q
quiet-same found wanted t (Stops end trace) f g q h = refl

-- the newest function is called, and then the rest follow, whatever it registers
pub exits-next : (p : Program) (depth n f : ℕ) (rest : List ℕ) (status : ℤ) (s : State) (w : World) → w.ticks ≤ n → s.registered ≡ f ∷ rest
    → exits p depth n status s w
    ≡ and_then (call_registered (runs p n) p depth f (record s { registered = rest }) w) (λ r v. exits p depth n (status_after status r) (state_after r) v)
exits-next p depth n f rest status s w le is =
    exits-are p depth n status s w
    ∙ ap (λ l. exits_with (call_registered (runs p n) p depth) (exits_before p depth n) l status s w) is
    ∙ quiet-same registered_after rest w.ticks (call_registered (runs p n) p depth f (record s { registered = rest }) w) _ _
    (quiet-registered p n depth f (record s { registered = rest }) w le) (λ r v h. by r v h (v.ticks == w.ticks) refl)
  where
    by : (r : Called) (v : World) → Holds v.ticks w.ticks (registered_after r) rest → (t : Bool) → (v.ticks == w.ticks) ≡ t
        → cond t (exits_with (call_registered (runs p n) p depth) (exits_before p depth n) rest (status_after status r) (state_after r) v) (exits_before p depth n (status_after status r) (state_after r) v)
        ≡ exits p depth n (status_after status r) (state_after r) v
    by r v h true e =
        let same : v.ticks ≡ w.ticks = grind (arith, nat_tests, e) in
        ap (λ l. exits_with (call_registered (runs p n) p depth) (exits_before p depth n) l (status_after status r) (state_after r) v) (sym (h.same same))
        ∙ sym (exits-are p depth n (status_after status r) (state_after r) v)
    by r v h false e = exits-fewer p depth n (status_after status r) (state_after r) v
        (let lt : v.ticks < w.ticks = less-or_same v.ticks w.ticks h.left e in omega arith)

-- ---- what `exit` does only adds to the trace

grows-registered : (p : Program) (n depth f : ℕ) (s : State) (w : World) → Adds w.trace (call_registered (runs p n) p depth f s w)
grows-registered p n depth f s w =
    grows-tried (callee_of p.functions (mean.pointer no_arguments f)) w _ (λ c.
    grows-called (runs p n) (helps_in (runs p n) p false) (grows-runs p n) (grows-helps p (runs p n) (grows-runs p n) false) p false c [] depth s w)

grows-choice : {A : Type 0} (t : Bool) (trace : _) (x y : Ran A) → Adds trace x → Adds trace y → Adds trace (cond t x y)
grows-choice true trace x y a b = a
grows-choice false trace x y a b = b

module _ (run : ℕ → State → World → Ran Called) (again : Exiting) (grows : (f : ℕ) (s : State) (w : World) → Adds w.trace (run f s w))
    (after : (status : ℤ) (s : State) (w : World) → Adds w.trace (again status s w)) where
  grows-with : (reg : List ℕ) (status : ℤ) (s : State) (w : World) → Adds w.trace (exits_with run again reg status s w)
  grows-with [] status s w = went status w
  grows-with (f ∷ rest) status s w =
      adds-then w.trace _ _ (grows f (record s { registered = rest }) w) (λ r v.
      grows-choice (v.ticks == w.ticks) v.trace _ _ (grows-with rest (status_after status r) (state_after r) v) (after (status_after status r) (state_after r) v))

pub grows-exits : (p : Program) (depth n : ℕ) (status : ℤ) (s : State) (w : World) → Adds w.trace (exits p depth n status s w)
grows-exits p depth zero status s w =
    grows-with (call_registered (runs p zero) p depth) no_exit (λ f s w. grows-registered p zero depth f s w) (λ status s w. stopped Ticks w) s.registered status s w
grows-exits p depth (suc n) status s w =
    grows-with (call_registered (runs p (suc n)) p depth) (exits p depth n) (λ f s w. grows-registered p (suc n) depth f s w)
    (λ status s w. grows-exits p depth n status s w) s.registered status s w
