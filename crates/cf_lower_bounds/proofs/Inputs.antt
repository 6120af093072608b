-- A run of the small C leaves of an input of bytes one of bytes.
use Rattle.std.proofs.Common.{◌≡◌, ℕ, zero, suc, Bool, true, false, List, [], ◌∷◌, length, nat_lt, ◌==◌, ◌<◌, ℤ, pos, Option, Some, None, Result, Ok, Err, refl, sym, ◌∙◌, ap, subst, arith}
use Rattle.std.specs.Prelude.{if◌then◌else◌}
use Rattle.cf_base.specs.Integers.{bits_of}
use Rattle.cf_base.specs.Event.{Event, Enter, Out, End, Ended, Undefined, Ticks, Depth}
use Rattle.cf_base.specs.World.{World, Ran, Went, Stops, and_then, spend_of, deeper, show, next_of}
use Rattle.cf_base.specs.Agree.{Adds}
use Rattle.cf_base.proofs.Agreement.{adds-then}
use Rattle.cf_core.specs.Run as source
use Rattle.cf_core.specs.Run.{Did, Gives, Malformed, Act, onward}
use Rattle.cf_lower_steps.specs.Flows.{Simulates}
use Rattle.cf_lower_place.specs.Input.{IsInput}
use Rattle.cc_whole.specs.Plain.{Place, Expression, Callee as Called_by, Statement, assign, call, block, leave, next, choose, loop, select, give, Statements, done, followed, SwitchItems, closed, labelled, otherwise, stated, Body, body, Function}
use Rattle.cc_whole_memory.specs.declared.value.Pointer.{Pointer}
use Rattle.cc_whole_memory.specs.declared.value.Value.{Value}
use Rattle.cc_whole_memory.specs.declared.value.Value.TheVariants as value
use Rattle.cc_whole_memory.specs.Blocks.{freed, on_ok}
use Rattle.cc_whole_mean.specs.declared.named.Target.{Target}
use Rattle.cc_whole_mean.specs.Scope.{Scope}
use Rattle.cc_whole_mean.specs.Values.{values_of, stored, assigned, integer_of, is_true}
use Rattle.cc_whole_mean.specs.Flow.{State, in_memory, Flow, Falls, Breaks, Continues, Returns, Exits, tried, falling, turning, Called, Back, Gone}
use Rattle.cc_whole.specs.Known.{is_helper, is_main}
use Rattle.cc_whole_mean.specs.Callee.{Callee, own, built_in}
use Rattle.cc_whole_mean.specs.Callee as callee
use Rattle.cc_whole_mean.specs.Library.{does_library, of_number, of_pointer, of_function, of_none, of_one, back_int, byte_or_end, most_registered, wrong}
use Rattle.cc_whole_mean.specs.Mean.{Program, Again, run_function, enter_helper, enter_function, called_own, called, chosen, callee_of, targeted, used, go_back, call_to, given, wanted, is_wanted, does, does_body, does_all, does_from, does_items, refused, helps_in, runs}

-- ---- what a run leaves of an input

abbrev pub TakesIn : {A : Type 0} → List ℕ → Ran A → Type 0
TakesIn input (Went a v) = IsInput input → IsInput v.input
TakesIn input (Stops end trace) = Unit {0}

pub record Takes {A : Type 0} (input : List ℕ) (y : Ran A) : Type 0 where
  pub by : TakesIn input y

input-behind : (byte : ℕ) (rest : List ℕ) → IsInput (byte ∷ rest) → IsInput rest
input-behind byte rest i k d lt = i (suc k) d (let le : suc k < suc (length rest) = omega (arith, lt) in le)

takes-from : {A : Type 0} (i j : List ℕ) (y : Ran A) → (IsInput i → IsInput j) → Takes j y → Takes i y
takes-from i j (Went a v) f h = record { by = λ x. h.by (f x) }
takes-from i j (Stops end trace) f h = record { by = tt }

pub takes-then : {A B : Type 0} (i : List ℕ) (y : Ran A) (go : A → World → Ran B) → Takes i y → ((a : A) (w : World) → Takes w.input (go a w)) → Takes i (and_then y go)
takes-then i (Went a w) go h rest = takes-from i w.input (go a w) h.by (rest a w)
takes-then i (Stops end trace) go h rest = record { by = tt }

takes-spend_of : {A : Type 0} (n : ℕ) (w : World) (go : World → Ran A) → ((v : World) → v.input ≡ w.input → Takes w.input (go v)) → Takes w.input (spend_of n w go)
takes-spend_of zero w go h = record { by = tt }
takes-spend_of (suc n) w go h = h _ refl

takes-deeper : {A : Type 0} (d : ℕ) (w : World) (go : ℕ → Ran A) → ((n : ℕ) → Takes w.input (go n)) → Takes w.input (deeper d w go)
takes-deeper zero w go h = record { by = tt }
takes-deeper (suc d) w go h = h d

-- ---- by the statements of the small C

pub went : {A : Type 0} (a : A) (w : World) → Takes w.input (Went a w)
went a w = record { by = λ i. i }

pub stopped : {A : Type 0} (end : End) (w : World) → Takes {A = A} w.input (Stops end w.trace)
stopped end w = record { by = tt }

pub shown_more : {A : Type 0} (e : Event) (w : World) (y : Ran A) → Takes (show e w).input y → Takes w.input y
shown_more e w y h = h

pub takes-tried : {A B : Type 0} (r : Result A ℕ) (w : World) (go : A → Ran B) → ((a : A) → Takes w.input (go a)) → Takes w.input (tried r w go)
takes-tried (Ok a) w go h = h a
takes-tried (Err act) w go h = stopped (Undefined act) w

pub takes-if : {A : Type 0} (b : Bool) (w : World) (x y : Ran A) → Takes w.input x → Takes w.input y → Takes w.input (if b then x else y)
takes-if true w x y p q = p
takes-if false w x y p q = q

pub takes-falling : (go : State → World → Ran Flow) → ((s : State) (w : World) → Takes w.input (go s w)) → (flow : Flow) (w : World) → Takes w.input (falling go flow w)
takes-falling go h (Falls s) w = h s w
takes-falling go h (Breaks s) w = went (Breaks s) w
takes-falling go h (Continues s) w = went (Continues s) w
takes-falling go h (Returns v s) w = went (Returns v s) w
takes-falling go h (Exits z s) w = went (Exits z s) w

pub takes-turning : (go : State → World → Ran Flow) → ((s : State) (w : World) → Takes w.input (go s w)) → (flow : Flow) (w : World) → Takes w.input (turning go flow w)
takes-turning go h (Falls s) w = h s w
takes-turning go h (Breaks s) w = went (Falls s) w
takes-turning go h (Continues s) w = h s w
takes-turning go h (Returns v s) w = went (Returns v s) w
takes-turning go h (Exits z s) w = went (Exits z s) w

-- the library

takes-number : (l : callee.Library) (z : ℤ) (s : State) (w : World) → Takes w.input (of_number l z s w)
takes-number callee.putchar z s w = shown_more (Out (bits_of 8 z)) w (back_int (pos (bits_of 8 z)) s (show (Out (bits_of 8 z)) w)) (went _ (show (Out (bits_of 8 z)) w))
takes-number callee.getchar z s w = stopped _ w
takes-number callee.exit z s w = went _ w
takes-number callee.malloc z s w = record { by = λ i. i }
takes-number callee.free z s w = stopped _ w
takes-number callee.atexit z s w = stopped _ w

takes-pointer : (l : callee.Library) (p : Pointer) (s : State) (w : World) → Takes w.input (of_pointer l p s w)
takes-pointer callee.putchar p s w = stopped _ w
takes-pointer callee.getchar p s w = stopped _ w
takes-pointer callee.exit p s w = stopped _ w
takes-pointer callee.malloc p s w = stopped _ w
takes-pointer callee.free p s w = takes-tried (freed p w.heap s.memory) w _ (λ f. record { by = λ i. i })
takes-pointer callee.atexit p s w = stopped _ w

takes-function : (l : callee.Library) (inside : Bool) (f : ℕ) (s : State) (w : World) → Takes w.input (of_function l inside f s w)
takes-function callee.putchar inside f s w = stopped _ w
takes-function callee.getchar inside f s w = stopped _ w
takes-function callee.exit inside f s w = stopped _ w
takes-function callee.malloc inside f s w = stopped _ w
takes-function callee.free inside f s w = stopped _ w
takes-function callee.atexit true f s w = stopped _ w
takes-function callee.atexit false f s w =
    takes-if (nat_lt (length s.registered) most_registered) w (back_int (pos 0) (record s { registered = f ∷ s.registered }) w) (back_int (pos 1) s w) (went _ w) (went _ w)

takes-byte : (input : List ℕ) (s : State) (w : World) → w.input ≡ input → Takes w.input (next_of input w (λ byte w. back_int (byte_or_end byte) s w))
takes-byte [] s w e = record { by = λ i. i }
takes-byte (byte ∷ rest) s w e = record { by = λ i. input-behind byte rest (subst IsInput e i) }

takes-none : (l : callee.Library) (s : State) (w : World) → Takes w.input (of_none l s w)
takes-none callee.putchar s w = stopped _ w
takes-none callee.getchar s w = takes-byte w.input s w refl
takes-none callee.exit s w = stopped _ w
takes-none callee.malloc s w = stopped _ w
takes-none callee.free s w = stopped _ w
takes-none callee.atexit s w = stopped _ w

takes-one : (l : callee.Library) (inside : Bool) (v : Value) (s : State) (w : World) → Takes w.input (of_one l inside v s w)
takes-one l inside (value.Number k z) s w = takes-number l z s w
takes-one l inside (value.Address p) s w = takes-pointer l p s w
takes-one l inside (value.Function f) s w = takes-function l inside f s w

pub takes-library : (l : callee.Library) (inside : Bool) (vs : List Value) (s : State) (w : World) → Takes w.input (does_library l inside vs s w)
takes-library l inside [] s w = takes-none l s w
takes-library l inside (v ∷ []) s w = takes-one l inside v s w
takes-library l inside (v ∷ (u ∷ vs)) s w = stopped _ w

abbrev pub TakesAgain : Again → Type 0
TakesAgain again = (inside : Bool) (st : Statement) (scope : Scope) (depth : ℕ) (s : State) (w : World) → Takes w.input (again inside st scope depth s w)

abbrev Run : Type 0
Run = Statement → Scope → ℕ → State → World → Ran Flow

takes-run_function : (run : Run) → ((st : Statement) (scope : Scope) (depth : ℕ) (s : State) (w : World) → Takes w.input (run st scope depth s w))
    → (names : Scope) (f : Function) (vs : List Value) (depth : ℕ) (s : State) (w : World) → Takes w.input (run_function run names f vs depth s w)
takes-run_function run h names f vs depth s w = takes-then w.input _ _ (h _ _ depth _ w) (λ flow w. went _ w)

takes-enter_function : (again : Again) → TakesAgain again → (names : Scope) (f : Function) (vs : List Value) (depth : ℕ) (s : State) (w : World)
    → Takes w.input (enter_function again names f vs depth s w)
takes-enter_function again h names f vs depth s w =
    takes-spend_of w.ticks w _ (λ v e. subst (λ t. Takes t (deeper depth v (λ d. run_function (again false) names f vs d s (show (Enter f.prototype.name) v)))) e
    (takes-deeper depth v _ (λ d. shown_more (Enter f.prototype.name) v _ (takes-run_function (again false) (h false) names f vs d s (show (Enter f.prototype.name) v)))))

takes-enter_helper : (inside : Bool) (helps : Again) → TakesAgain helps → (names : Scope) (f : Function) (vs : List Value) (depth : ℕ) (s : State) (w : World)
    → Takes w.input (enter_helper inside helps names f vs depth s w)
takes-enter_helper true helps h names f vs depth s w = stopped _ w
takes-enter_helper false helps h names f vs depth s w = takes-run_function (helps true) (h true) names f vs depth s w

takes-own : (again helps : Again) → TakesAgain again → TakesAgain helps → (names : Scope) (inside : Bool) (f : Function) (vs : List Value) (depth : ℕ) (s : State) (w : World)
    → Takes w.input (called_own again helps names inside f vs depth s w)
takes-own again helps h k names inside f vs depth s w =
    takes-if (is_main f.prototype.name) w (wrong w) _ (stopped _ w)
    (takes-if (length f.prototype.parameters == length vs) w _ (wrong w)
    (takes-if (is_helper f.prototype.name) w _ _ (takes-enter_helper inside helps k names f vs depth s w) (takes-enter_function again h names f vs depth s w))
    (stopped _ w))

pub takes-back : (at : Option Target) (r : Called) (w : World) → Takes w.input (go_back at r w)
takes-back None (Back v s) w = went _ w
takes-back (Some at) (Back v s) w = takes-tried (on_ok (used v) (λ v. stored at v s.memory)) w (λ m. Went (Falls (in_memory s m)) w) (λ m. went _ w)
takes-back at (Gone z s) w = went _ w

module _ (again helps : Again) (h : TakesAgain again) (k : TakesAgain helps) (p : Program) where
  pub takes-called : (inside : Bool) (c : Callee) (vs : List Value) (depth : ℕ) (s : State) (w : World) → Takes w.input (called again helps p inside c vs depth s w)
  takes-called inside (own f) vs depth s w = takes-own again helps h k p.names inside f vs depth s w
  takes-called inside (built_in l) vs depth s w = takes-library l inside vs s w

  pub takes-call_to : (inside : Bool) (f : Called_by) (place : Option Place) (es : List Expression) (scope : Scope) (depth : ℕ) (s : State) (w : World)
      → Takes w.input (call_to (λ c vs s w. called again helps p inside c vs depth s w) p.functions inside place f es scope s w)
  takes-call_to inside f place es scope depth s w =
      takes-tried (targeted place scope s.memory) w _ (λ at. takes-tried (chosen inside f scope s.memory) w _ (λ f.
      takes-tried (values_of es scope s.memory) w _ (λ vs. takes-tried (callee_of p.functions f) w _ (λ c.
      takes-then w.input _ _ (takes-called inside c vs depth s w) (λ r w. takes-back at r w)))))

  mutual
    pub takes-does : (inside : Bool) (st : Statement) (scope : Scope) (depth : ℕ) (s : State) (w : World) → Takes w.input (does again helps p inside st scope depth s w)
    takes-does inside (assign place e) scope depth s w = takes-tried (assigned place e scope s.memory) w _ (λ m. went _ w)
    takes-does inside (call place f es) scope depth s w = takes-call_to inside f place es scope depth s w
    takes-does inside (block b) scope depth s w = takes-does_body inside b scope depth s w
    takes-does inside leave scope depth s w = went _ w
    takes-does inside next scope depth s w = went _ w
    takes-does inside (choose e b other) scope depth s w =
        takes-tried (integer_of e scope s.memory) w _ (λ z. takes-if (is_true z) w _ _ (takes-does_body inside b scope depth s w) (takes-does_body inside other scope depth s w))
    takes-does inside (loop b) scope depth s w =
        takes-spend_of w.ticks w _ (λ v e. subst (λ t. Takes t (and_then (does_body again helps p inside b scope depth s v) (turning (λ s w. again inside (loop b) scope depth s w)))) e
        (takes-then v.input _ _ (takes-does_body inside b scope depth s v) (takes-turning _ (λ s w. h inside (loop b) scope depth s w))))
    takes-does inside (select e items) scope depth s w = takes-tried (integer_of e scope s.memory) w _ (λ z.
        takes-then w.input _ _ (takes-does_from inside (wanted (bits_of 32 z) items) items scope depth s w) (λ flow w. went _ w))
    takes-does inside (give e) scope depth s w = takes-tried (given e scope s.memory) w _ (λ v. went _ w)

    pub takes-does_body : (inside : Bool) (b : Body) (scope : Scope) (depth : ℕ) (s : State) (w : World) → Takes w.input (does_body again helps p inside b scope depth s w)
    takes-does_body inside (body locals all) scope depth s w = takes-then w.input _ _ (takes-does_all inside all _ depth _ w) (λ flow w. went _ w)

    pub takes-does_all : (inside : Bool) (all : Statements) (scope : Scope) (depth : ℕ) (s : State) (w : World) → Takes w.input (does_all again helps p inside all scope depth s w)
    takes-does_all inside done scope depth s w = went _ w
    takes-does_all inside (followed st rest) scope depth s w =
        takes-then w.input _ _ (takes-does inside st scope depth s w) (takes-falling _ (λ s w. takes-does_all inside rest scope depth s w))

    pub takes-does_from : (inside : Bool) (label : Option ℕ) (items : SwitchItems) (scope : Scope) (depth : ℕ) (s : State) (w : World)
        → Takes w.input (does_from again helps p inside label items scope depth s w)
    takes-does_from inside label closed scope depth s w = went _ w
    takes-does_from inside label (labelled c rest) scope depth s w =
        takes-if (is_wanted label c) w _ _ (takes-does_items inside rest scope depth s w) (takes-does_from inside label rest scope depth s w)
    takes-does_from inside None (otherwise rest) scope depth s w = takes-does_items inside rest scope depth s w
    takes-does_from inside (Some bits) (otherwise rest) scope depth s w = takes-does_from inside (Some bits) rest scope depth s w
    takes-does_from inside label (stated st rest) scope depth s w = takes-does_from inside label rest scope depth s w

    pub takes-does_items : (inside : Bool) (items : SwitchItems) (scope : Scope) (depth : ℕ) (s : State) (w : World) → Takes w.input (does_items again helps p inside items scope depth s w)
    takes-does_items inside closed scope depth s w = went _ w
    takes-does_items inside (labelled c rest) scope depth s w = takes-does_items inside rest scope depth s w
    takes-does_items inside (otherwise rest) scope depth s w = takes-does_items inside rest scope depth s w
    takes-does_items inside (stated st rest) scope depth s w =
        takes-then w.input _ _ (takes-does inside st scope depth s w) (takes-falling _ (λ s w. takes-does_items inside rest scope depth s w))

pub takes-refused : TakesAgain refused
takes-refused inside st scope depth s w = stopped _ w

pub takes-helps : (p : Program) (again : Again) → TakesAgain again → (inside : Bool) → TakesAgain (helps_in again p inside)
takes-helps p again h true inside st scope depth s w = stopped _ w
takes-helps p again h false inside st scope depth s w = takes-does again refused h takes-refused p true st scope depth s w

pub takes-runs : (p : Program) (n : ℕ) → TakesAgain (runs p n)
takes-runs p zero inside st scope depth s w = stopped _ w
takes-runs p (suc n) inside st scope depth s w =
    takes-does (runs p n) (helps_in (runs p n) p inside) (takes-runs p n) (takes-helps p (runs p n) (takes-runs p n) inside) p inside st scope depth s w

-- ---- what follows a run

-- Where both have gone on they go on as before, with an input of bytes; where `exit` was called the C does nothing more.
pub sim-on : {A B : Type 0} (Q : A → source.State → Flow → Type 0) (S : B → source.State → Flow → Type 0) (input : List ℕ) (x : Ran (Did A)) (y : Ran Flow) (f : A → Act B)
    (go : Flow → World → Ran Flow) → Takes input y → IsInput input → Simulates Q x y
    → ((a : A) (s : source.State) (flow : Flow) (w : World) → IsInput w.input → Q a s flow → Simulates S (f a s w) (go flow w))
    → ((z : ℤ) (t : State) (w : World) → go (Exits z t) w ≡ Went (Exits z t) w)
    → ((flow : Flow) (w : World) → Adds w.trace (go flow w))
    → Simulates S (and_then x (λ did w. onward did f w)) (and_then y go)
sim-on Q S input (Went (Gives a s) w) y f go takes i h follow exits adds =
    subst (λ r. Simulates S (f a s w) r) (sym (ap (λ r. and_then r go) h.by.run))
    (follow a s h.by.value w ((subst (λ r. Takes input r) h.by.run takes).by i) h.by.related)
sim-on Q S input (Went (source.Exits z s) w) y f go takes i h follow exits adds =
    record { by = record { after = h.by.after; run = ap (λ r. and_then r go) h.by.run ∙ exits z h.by.after w } }
sim-on Q S input (Went Malformed w) y f go takes i h follow exits adds = record { by = tt }
sim-on Q S input (Stops (Undefined act) trace) y f go takes i h follow exits adds = record { by = (adds-then trace y go (record { by = h.by }) adds).by }
sim-on Q S input (Stops (Ended status) trace) y f go takes i h follow exits adds = record { by = ap (λ r. and_then r go) h.by }
sim-on Q S input (Stops Ticks trace) y f go takes i h follow exits adds = record { by = ap (λ r. and_then r go) h.by }
sim-on Q S input (Stops Depth trace) y f go takes i h follow exits adds = record { by = ap (λ r. and_then r go) h.by }
