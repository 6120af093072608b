-- A run of the small C only adds to its trace.
use Rattle.std.proofs.Common.{◌≡◌, ℕ, zero, suc, Bool, true, false, List, [], ◌∷◌, ◌++◌, length, nat_lt, ◌==◌, ℤ, pos, Option, Some, None, Result, Ok, Err, refl, sym, subst}
use Rattle.std.specs.Prelude.{if◌then◌else◌}
use Rattle.cf_base.specs.Integers.{bits_of}
use Rattle.cf_base.specs.Event.{Event, Enter, In, Out, End, Undefined, Ticks}
use Rattle.cf_base.specs.World.{World, Ran, Went, Stops, and_then, spend, deeper, show, next_of}
use Rattle.cf_base.specs.Agree.{Begins, Adds}
use Rattle.cf_base.proofs.Agreement.{begins-refl, adds-went, adds-stops, adds-from, adds-then, adds-spend_of, adds-deeper}
use Rattle.cc_whole.specs.Plain.{Place, Expression, Callee as Called_by, Statement, assign, call, block, leave, next, choose, loop, select, give, Statements, done, followed, SwitchItems, closed, labelled, otherwise, stated, Body, body, Function}
use Rattle.cc_whole_memory.specs.declared.value.Pointer.{Pointer}
use Rattle.cc_whole_memory.specs.declared.value.Value.{Value}
use Rattle.cc_whole_memory.specs.declared.value.Value.TheVariants as value
use Rattle.cc_whole_memory.specs.Blocks.{Memory, freed, on_ok}
use Rattle.cc_whole_mean.specs.declared.named.Target.{Target}
use Rattle.cc_whole_mean.specs.Scope.{Scope}
use Rattle.cc_whole_mean.specs.Values.{values_of, stored, assigned, integer_of, is_true}
use Rattle.cc_whole_mean.specs.Flow.{State, in_memory, Flow, Falls, Breaks, Continues, Returns, Exits, tried, falling, turning, Called, Back, Gone}
use Rattle.cc_whole.specs.Known.{is_helper, is_main}
use Rattle.cc_whole_mean.specs.Callee.{Callee, own, built_in}
use Rattle.cc_whole_mean.specs.Callee as callee
use Rattle.cc_whole_mean.specs.Library.{does_library, of_number, of_pointer, of_function, of_none, of_one, back_int, byte_or_end, most_registered, wrong}
use Rattle.cc_whole_mean.specs.Mean.{Program, Again, run_function, enter_helper, enter_function, enter, called_own, called, chosen, callee_of, targeted, used, go_back, call_to, given, wanted, is_wanted, does, does_body, does_all, does_from, does_items, refused, helps_in, runs}

pub went : {A : Type 0} (a : A) (w : World) → Adds w.trace (Went a w)
went a w = adds-went w.trace a w (begins-refl w.trace)

pub stopped : {A : Type 0} (end : End) (w : World) → Adds {A = A} w.trace (Stops end w.trace)
stopped end w = adds-stops w.trace end w.trace (begins-refl w.trace)

pub shown_more : {A : Type 0} (e : Event) (w : World) (y : Ran A) → Adds (show e w).trace y → Adds w.trace y
shown_more e w y h = adds-from w.trace (w.trace ++ e ∷ []) y (record { rest = e ∷ []; parts = refl }) h

pub grows-tried : {A B : Type 0} (r : Result A ℕ) (w : World) (go : A → Ran B) → ((a : A) → Adds w.trace (go a)) → Adds w.trace (tried r w go)
grows-tried (Ok a) w go h = h a
grows-tried (Err act) w go h = stopped (Undefined act) w

pub grows-if : {A : Type 0} (b : Bool) (w : World) (x y : Ran A) → Adds w.trace x → Adds w.trace y → Adds w.trace (if b then x else y)
grows-if true w x y p q = p
grows-if false w x y p q = q

pub grows-falling : (go : State → World → Ran Flow) → ((s : State) (w : World) → Adds w.trace (go s w)) → (flow : Flow) (w : World) → Adds w.trace (falling go flow w)
grows-falling go h (Falls s) w = h s w
grows-falling go h (Breaks s) w = went (Breaks s) w
grows-falling go h (Continues s) w = went (Continues s) w
grows-falling go h (Returns v s) w = went (Returns v s) w
grows-falling go h (Exits z s) w = went (Exits z s) w

pub grows-turning : (go : State → World → Ran Flow) → ((s : State) (w : World) → Adds w.trace (go s w)) → (flow : Flow) (w : World) → Adds w.trace (turning go flow w)
grows-turning go h (Falls s) w = h s w
grows-turning go h (Breaks s) w = went (Falls s) w
grows-turning go h (Continues s) w = h s w
grows-turning go h (Returns v s) w = went (Returns v s) w
grows-turning go h (Exits z s) w = went (Exits z s) w

-- the library

grows-number : (l : callee.Library) (z : ℤ) (s : State) (w : World) → Adds w.trace (of_number l z s w)
grows-number callee.putchar z s w = shown_more (Out (bits_of 8 z)) w (back_int (pos (bits_of 8 z)) s (show (Out (bits_of 8 z)) w)) (went _ (show (Out (bits_of 8 z)) w))
grows-number callee.getchar z s w = stopped _ w
grows-number callee.exit z s w = went _ w
grows-number callee.malloc z s w = adds-went w.trace _ _ (begins-refl w.trace)
grows-number callee.free z s w = stopped _ w
grows-number callee.atexit z s w = stopped _ w

grows-pointer : (l : callee.Library) (p : Pointer) (s : State) (w : World) → Adds w.trace (of_pointer l p s w)
grows-pointer callee.putchar p s w = stopped _ w
grows-pointer callee.getchar p s w = stopped _ w
grows-pointer callee.exit p s w = stopped _ w
grows-pointer callee.malloc p s w = stopped _ w
grows-pointer callee.free p s w = grows-tried (freed p w.heap s.memory) w _ (λ f. adds-went w.trace _ _ (begins-refl w.trace))
grows-pointer callee.atexit p s w = stopped _ w

grows-function : (l : callee.Library) (inside : Bool) (f : ℕ) (s : State) (w : World) → Adds w.trace (of_function l inside f s w)
grows-function callee.putchar inside f s w = stopped _ w
grows-function callee.getchar inside f s w = stopped _ w
grows-function callee.exit inside f s w = stopped _ w
grows-function callee.malloc inside f s w = stopped _ w
grows-function callee.free inside f s w = stopped _ w
grows-function callee.atexit true f s w = stopped _ w
grows-function callee.atexit false f s w =
    grows-if (nat_lt (length s.registered) most_registered) w (back_int (pos 0) (record s { registered = f ∷ s.registered }) w) (back_int (pos 1) s w) (went _ w) (went _ w)

grows-byte : (input : List ℕ) (s : State) (w : World) → Adds w.trace (next_of input w (λ byte w. back_int (byte_or_end byte) s w))
grows-byte [] s w = shown_more (In None) w _ (went _ (show (In None) w))
grows-byte (byte ∷ rest) s w = shown_more (In (Some byte)) (record w { input = rest }) _ (went _ (show (In (Some byte)) (record w { input = rest })))

grows-none : (l : callee.Library) (s : State) (w : World) → Adds w.trace (of_none l s w)
grows-none callee.putchar s w = stopped _ w
grows-none callee.getchar s w = grows-byte w.input s w
grows-none callee.exit s w = stopped _ w
grows-none callee.malloc s w = stopped _ w
grows-none callee.free s w = stopped _ w
grows-none callee.atexit s w = stopped _ w

grows-one : (l : callee.Library) (inside : Bool) (v : Value) (s : State) (w : World) → Adds w.trace (of_one l inside v s w)
grows-one l inside (value.Number k z) s w = grows-number l z s w
grows-one l inside (value.Address p) s w = grows-pointer l p s w
grows-one l inside (value.Function f) s w = grows-function l inside f s w

pub grows-library : (l : callee.Library) (inside : Bool) (vs : List Value) (s : State) (w : World) → Adds w.trace (does_library l inside vs s w)
grows-library l inside [] s w = grows-none l s w
grows-library l inside (v ∷ []) s w = grows-one l inside v s w
grows-library l inside (v ∷ (u ∷ vs)) s w = stopped _ w

abbrev pub GrowsAgain : Again → Type 0
GrowsAgain again = (inside : Bool) (st : Statement) (scope : Scope) (depth : ℕ) (s : State) (w : World) → Adds w.trace (again inside st scope depth s w)

abbrev Run : Type 0
Run = Statement → Scope → ℕ → State → World → Ran Flow

grows-run_function : (run : Run) → ((st : Statement) (scope : Scope) (depth : ℕ) (s : State) (w : World) → Adds w.trace (run st scope depth s w))
    → (names : Scope) (f : Function) (vs : List Value) (depth : ℕ) (s : State) (w : World) → Adds w.trace (run_function run names f vs depth s w)
grows-run_function run h names f vs depth s w = adds-then w.trace _ _ (h _ _ depth _ w) (λ flow w. went _ w)

grows-enter_function : (again : Again) → GrowsAgain again → (names : Scope) (f : Function) (vs : List Value) (depth : ℕ) (s : State) (w : World)
    → Adds w.trace (enter_function again names f vs depth s w)
grows-enter_function again h names f vs depth s w =
    adds-spend_of w.ticks w _ (λ v e. subst (λ t. Adds t (deeper depth v (λ d. run_function (again false) names f vs d s (show (Enter f.prototype.name) v)))) e
    (adds-deeper depth v _ (λ d. shown_more (Enter f.prototype.name) v _ (grows-run_function (again false) (h false) names f vs d s (show (Enter f.prototype.name) v)))))

grows-enter_helper : (inside : Bool) (helps : Again) → GrowsAgain helps → (names : Scope) (f : Function) (vs : List Value) (depth : ℕ) (s : State) (w : World)
    → Adds w.trace (enter_helper inside helps names f vs depth s w)
grows-enter_helper true helps h names f vs depth s w = stopped _ w
grows-enter_helper false helps h names f vs depth s w = grows-run_function (helps true) (h true) names f vs depth s w

grows-own : (again helps : Again) → GrowsAgain again → GrowsAgain helps → (names : Scope) (inside : Bool) (f : Function) (vs : List Value) (depth : ℕ) (s : State) (w : World)
    → Adds w.trace (called_own again helps names inside f vs depth s w)
grows-own again helps h k names inside f vs depth s w =
    grows-if (is_main f.prototype.name) w (wrong w) _ (stopped _ w)
    (grows-if (length f.prototype.parameters == length vs) w _ (wrong w)
    (grows-if (is_helper f.prototype.name) w _ _ (grows-enter_helper inside helps k names f vs depth s w) (grows-enter_function again h names f vs depth s w))
    (stopped _ w))

pub grows-back : (at : Option Target) (r : Called) (w : World) → Adds w.trace (go_back at r w)
grows-back None (Back v s) w = went _ w
grows-back (Some at) (Back v s) w = grows-tried (on_ok (used v) (λ v. stored at v s.memory)) w (λ m. Went (Falls (in_memory s m)) w) (λ m. went _ w)
grows-back at (Gone z s) w = went _ w

module _ (again helps : Again) (h : GrowsAgain again) (k : GrowsAgain helps) (p : Program) where
  pub grows-called : (inside : Bool) (c : Callee) (vs : List Value) (depth : ℕ) (s : State) (w : World) → Adds w.trace (called again helps p inside c vs depth s w)
  grows-called inside (own f) vs depth s w = grows-own again helps h k p.names inside f vs depth s w
  grows-called inside (built_in l) vs depth s w = grows-library l inside vs s w

  pub grows-call_to : (inside : Bool) (f : Called_by) (place : Option Place) (es : List Expression) (scope : Scope) (depth : ℕ) (s : State) (w : World)
      → Adds w.trace (call_to (λ c vs s w. called again helps p inside c vs depth s w) p.functions inside place f es scope s w)
  grows-call_to inside f place es scope depth s w =
      grows-tried (targeted place scope s.memory) w _ (λ at. grows-tried (chosen inside f scope s.memory) w _ (λ f.
      grows-tried (values_of es scope s.memory) w _ (λ vs. grows-tried (callee_of p.functions f) w _ (λ c.
      adds-then w.trace _ _ (grows-called inside c vs depth s w) (λ r w. grows-back at r w)))))

  mutual
    pub grows-does : (inside : Bool) (st : Statement) (scope : Scope) (depth : ℕ) (s : State) (w : World) → Adds w.trace (does again helps p inside st scope depth s w)
    grows-does inside (assign place e) scope depth s w = grows-tried (assigned place e scope s.memory) w _ (λ m. went _ w)
    grows-does inside (call place f es) scope depth s w = grows-call_to inside f place es scope depth s w
    grows-does inside (block b) scope depth s w = grows-does_body inside b scope depth s w
    grows-does inside leave scope depth s w = went _ w
    grows-does inside next scope depth s w = went _ w
    grows-does inside (choose e b other) scope depth s w =
        grows-tried (integer_of e scope s.memory) w _ (λ z. grows-if (is_true z) w _ _ (grows-does_body inside b scope depth s w) (grows-does_body inside other scope depth s w))
    grows-does inside (loop b) scope depth s w =
        adds-spend_of w.ticks w _ (λ v e. subst (λ t. Adds t (and_then (does_body again helps p inside b scope depth s v) (turning (λ s w. again inside (loop b) scope depth s w)))) e
        (adds-then v.trace _ _ (grows-does_body inside b scope depth s v) (grows-turning _ (λ s w. h inside (loop b) scope depth s w))))
    grows-does inside (select e items) scope depth s w = grows-tried (integer_of e scope s.memory) w _ (λ z.
        adds-then w.trace _ _ (grows-does_from inside (wanted (bits_of 32 z) items) items scope depth s w) (λ flow w. went _ w))
    grows-does inside (give e) scope depth s w = grows-tried (given e scope s.memory) w _ (λ v. went _ w)

    pub grows-does_body : (inside : Bool) (b : Body) (scope : Scope) (depth : ℕ) (s : State) (w : World) → Adds w.trace (does_body again helps p inside b scope depth s w)
    grows-does_body inside (body locals all) scope depth s w = adds-then w.trace _ _ (grows-does_all inside all _ depth _ w) (λ flow w. went _ w)

    pub grows-does_all : (inside : Bool) (all : Statements) (scope : Scope) (depth : ℕ) (s : State) (w : World) → Adds w.trace (does_all again helps p inside all scope depth s w)
    grows-does_all inside done scope depth s w = went _ w
    grows-does_all inside (followed st rest) scope depth s w =
        adds-then w.trace _ _ (grows-does inside st scope depth s w) (grows-falling _ (λ s w. grows-does_all inside rest scope depth s w))

    pub grows-does_from : (inside : Bool) (label : Option ℕ) (items : SwitchItems) (scope : Scope) (depth : ℕ) (s : State) (w : World)
        → Adds w.trace (does_from again helps p inside label items scope depth s w)
    grows-does_from inside label closed scope depth s w = went _ w
    grows-does_from inside label (labelled c rest) scope depth s w =
        grows-if (is_wanted label c) w _ _ (grows-does_items inside rest scope depth s w) (grows-does_from inside label rest scope depth s w)
    grows-does_from inside None (otherwise rest) scope depth s w = grows-does_items inside rest scope depth s w
    grows-does_from inside (Some bits) (otherwise rest) scope depth s w = grows-does_from inside (Some bits) rest scope depth s w
    grows-does_from inside label (stated st rest) scope depth s w = grows-does_from inside label rest scope depth s w

    pub grows-does_items : (inside : Bool) (items : SwitchItems) (scope : Scope) (depth : ℕ) (s : State) (w : World) → Adds w.trace (does_items again helps p inside items scope depth s w)
    grows-does_items inside closed scope depth s w = went _ w
    grows-does_items inside (labelled c rest) scope depth s w = grows-does_items inside rest scope depth s w
    grows-does_items inside (otherwise rest) scope depth s w = grows-does_items inside rest scope depth s w
    grows-does_items inside (stated st rest) scope depth s w =
        adds-then w.trace _ _ (grows-does inside st scope depth s w) (grows-falling _ (λ s w. grows-does_items inside rest scope depth s w))

pub grows-refused : GrowsAgain refused
grows-refused inside st scope depth s w = stopped _ w

pub grows-helps : (p : Program) (again : Again) → GrowsAgain again → (inside : Bool) → GrowsAgain (helps_in again p inside)
grows-helps p again h true inside st scope depth s w = stopped _ w
grows-helps p again h false inside st scope depth s w = grows-does again refused h grows-refused p true st scope depth s w

pub grows-runs : (p : Program) (n : ℕ) → GrowsAgain (runs p n)
grows-runs p zero inside st scope depth s w = stopped _ w
grows-runs p (suc n) inside st scope depth s w =
    grows-does (runs p n) (helps_in (runs p n) p inside) (grows-runs p n) (grows-helps p (runs p n) (grows-runs p n) inside) p inside st scope depth s w
