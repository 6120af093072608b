-- What calls keep, as facts about moments.
use Rattle.std.proofs.Common.{◌≡◌, ℕ, zero, suc, ◌+◌, ◌-◌, ◌^◌, ◌<◌, ◌≤◌, ◌==◌, Bool, true, false, nat_lt, List, [], ◌∷◌, ◌++◌, length, map, ℤ, pos, Option, Some, None, Result, Ok, Err, Bor, refl, ap, sym, ◌∙◌, arith, cond}
use Rattle.std.proofs.lemmas.Bool.Decides.{nat_tests}
use Rattle.std.specs.Global.{Global}
use Rattle.std.specs.Prelude.{Vec}
use Rattle.cf_base.specs.declared.kind.Kind.TheVariants as kind
use Rattle.cf_base.specs.Integers.{bits_of}
use Rattle.cf_base.specs.Event.{Event, Enter, Out, Ticks, Depth, Undefined}
use Rattle.cf_base.specs.World.{World, Ran, Went, Stops, and_then, deeper, show, Outcome}
use Rattle.cc_whole.specs.declared.unit.CParameter.{CParameter}
use Rattle.cc_whole.specs.Known.{is_helper, is_main}
use Rattle.cc_whole.specs.Plain.{Place, Expression, Callee as Called_by, call, block, Function}
use Rattle.cc_whole_memory.specs.declared.act.Act.{Act}
use Rattle.cc_whole_memory.specs.declared.act.Act.TheVariants as act
use Rattle.cc_whole_memory.specs.declared.store.Store.{Store}
use Rattle.cc_whole_memory.specs.declared.value.Value.{Value}
use Rattle.cc_whole_memory.specs.declared.value.Value.TheVariants as value
use Rattle.cc_whole_memory.specs.declared.value.Pointer.{Pointer}
use Rattle.cc_whole_memory.specs.Blocks.{Memory, Allotted, allotted, Freed, freed, on_ok}
use Rattle.cc_whole_memory.specs.Store.{memory_of, act_number}
use Rattle.cc_whole_mean.specs.declared.named.Target.{Target}
use Rattle.cc_whole_mean.specs.Scope.{Scope, bind_parameters}
use Rattle.cc_whole_mean.specs.Values.{values_of, stored}
use Rattle.cc_whole_mean.specs.Flow.{State, in_memory, Flow, Falls, Returns, Exits, tried, ending, born_arguments, Called, Back, Gone, called_back}
use Rattle.cc_whole_mean.specs.Callee.{Callee, own, built_in}
use Rattle.cc_whole_mean.specs.Callee as callee
use Rattle.cc_whole_mean.specs.Library.{wrong, back_int, back_allotted, of_number, of_pointer, of_function, of_none, does_library, most_registered, register}
use Rattle.cc_whole_mean.specs.Mean.{Chosen, targeted, chosen, callee_of, used, store_result, go_back, run_function, enter, enter_helper, enter_function, called_own, called, runs, helps_in}
use Rattle.cc_whole_mean.proofs.Enough.{runs_again}
use Rattle.cc_whole_start.specs.First.{first_of}
use Rattle.cc_whole_start.proofs.FirstLaws.{parameters-first}
use Rattle.cc_whole_step.specs.declared.mark.Mark.{Mark}
use Rattle.cc_whole_step.specs.declared.mark.Mark.TheVariants as mark
use Rattle.cc_whole_step.specs.declared.mark.Level.{Level}
use Rattle.cc_whole_step.specs.declared.mark.Flow.TheVariants as left
use Rattle.cc_whole_step.specs.declared.mark.Doing.TheVariants as doing
use Rattle.cc_whole_step.specs.declared.moment.Moment.{Moment}
use Rattle.cc_whole_step.specs.Frames.{scope_of}
use Rattle.cc_whole_step.specs.Running.{Ground, functions_in, run_body, run_called, run_own, come_back, flow_back, after, whole, Outside, noted, newest_first, ground_of, state_of, world_of, going, total, beginning, opening, leaving, coming_back, calling, entering, helping, spending, storing, taken, taken_from}
use Rattle.cc_whole_callee.specs.declared.library.Library.{Library as Found}
use Rattle.cc_whole_callee.specs.declared.library.Library.TheVariants as found
use Rattle.cc_whole_callee.specs.View.{library_of}
use Rattle.cc_whole_eval.specs.Answer.{StopsAt}
use Rattle.cc_whole_eval.specs.declared.types.Stop.{Stop as Given}
use Rattle.cc_whole_eval.specs.declared.types.Stop.TheVariants as given_stop
use Rattle.cc_whole_step.specs.Stop.{stop_of}
use Rattle.cc_whole_step.specs.Comes.{Meaning, Comes, StepsOn, StepsTaking, EndsAs}
use Rattle.cc_whole_step.proofs.Resume.{scope_above, with_marks, pushed, whole-push, ends, acts, on-from}
use Rattle.cc_whole_step.proofs.StepLaws.{spent-none, spent-one}

pub eqb_true : (a b : ℕ) → a ≡ b → (a == b) ≡ true
eqb_true a b e = grind (arith, nat_tests)

pub eqb_false : (a b : ℕ) → (a ≡ b → ⊥) → (a == b) ≡ false
eqb_false a b e = grind (arith, nat_tests)

pub nil : {A : Type 0} (xs : List A) → length xs ≡ 0 → xs ≡ []
nil [] e = refl
nil (x ∷ xs) e = absurd (omega arith)

-- A call statement, by what its parts come to.

abbrev pub target_at : Moment → Option Place → Result (Option Target) ℕ
target_at s place = targeted place (scope_of s.frames) (memory_of s.store)

abbrev pub chosen_at : Moment → Called_by → Result Chosen ℕ
chosen_at s f = chosen s.level.in_helper f (scope_of s.frames) (memory_of s.store)

abbrev pub values_at : Moment → List Expression → Result (List Value) ℕ
values_at s es = values_of es (scope_of s.frames) (memory_of s.store)

abbrev pub callee_at : Moment → Chosen → Result Callee ℕ
callee_at s f = callee_of (functions_in s.program.now) f

called_to : (s : Moment) (n : ℕ) (o : Outside) (at : Option Target) (vs : List Value) → Result Callee ℕ → Ran Flow
called_to s n o at vs c = tried c (world_of s o) (λ c. and_then (run_called (ground_of n s) s.level c vs (state_of s) (world_of s o)) (λ r w. go_back at r w))

with_values : (s : Moment) (n : ℕ) (o : Outside) (at : Option Target) (f : Chosen) → Result (List Value) ℕ → Ran Flow
with_values s n o at f vs = tried vs (world_of s o) (λ vs. tried (callee_at s f) (world_of s o) (λ c.
    and_then (run_called (ground_of n s) s.level c vs (state_of s) (world_of s o)) (λ r w. go_back at r w)))

with_chosen : (s : Moment) (n : ℕ) (o : Outside) (es : List Expression) (at : Option Target) → Result Chosen ℕ → Ran Flow
with_chosen s n o es at f = tried f (world_of s o) (λ f. tried (values_at s es) (world_of s o) (λ vs. tried (callee_at s f) (world_of s o) (λ c.
    and_then (run_called (ground_of n s) s.level c vs (state_of s) (world_of s o)) (λ r w. go_back at r w))))

with_target : (s : Moment) (n : ℕ) (o : Outside) (f : Called_by) (es : List Expression) → Result (Option Target) ℕ → Ran Flow
with_target s n o f es at = tried at (world_of s o) (λ at. tried (chosen_at s f) (world_of s o) (λ f. tried (values_at s es) (world_of s o) (λ vs.
    tried (callee_at s f) (world_of s o) (λ c. and_then (run_called (ground_of n s) s.level c vs (state_of s) (world_of s o)) (λ r w. go_back at r w)))))

pub call-acts_target : (s : Moment) (place : Option Place) (f : Called_by) (es : List Expression) (a : Act) → target_at s place ≡ Err (act_number a)
    → EndsAs (beginning (call place f es)) (Undefined (act_number a)) s
unfolding with_target
call-acts_target s place f es a fails =
    acts s (beginning (call place f es)) (target_at s place) a (λ n o x. with_target s n o f es x) (λ n o. refl) (λ n o. refl) fails

to-chosen : (s : Moment) (place : Option Place) (f : Called_by) (es : List Expression) (at : Option Target) → target_at s place ≡ Ok at
    → (n : ℕ) (o : Outside) → beginning (call place f es) n s o ≡ whole (ground_of n s) s.frames.marks.items (with_chosen s n o es at (chosen_at s f))
unfolding with_target with_chosen
to-chosen s place f es at e n o = ap (λ x. whole (ground_of n s) s.frames.marks.items (with_target s n o f es x)) e

pub call-acts_chosen : (s : Moment) (place : Option Place) (f : Called_by) (es : List Expression) (at : Option Target) (a : Act) → target_at s place ≡ Ok at
    → chosen_at s f ≡ Err (act_number a) → EndsAs (beginning (call place f es)) (Undefined (act_number a)) s
unfolding to-chosen with_chosen
call-acts_chosen s place f es at a e fails =
    acts s (beginning (call place f es)) (chosen_at s f) a (λ n o x. with_chosen s n o es at x) (to-chosen s place f es at e) (λ n o. refl) fails

to-values : (s : Moment) (place : Option Place) (f : Called_by) (es : List Expression) (at : Option Target) (c : Chosen) → target_at s place ≡ Ok at
    → chosen_at s f ≡ Ok c → (n : ℕ) (o : Outside)
    → beginning (call place f es) n s o ≡ whole (ground_of n s) s.frames.marks.items (with_values s n o at c (values_at s es))
unfolding to-chosen with_chosen with_values
to-values s place f es at c e k n o =
    to-chosen s place f es at e n o ∙ ap (λ x. whole (ground_of n s) s.frames.marks.items (with_chosen s n o es at x)) k

pub call-acts_values : (s : Moment) (place : Option Place) (f : Called_by) (es : List Expression) (at : Option Target) (c : Chosen) (a : Act) → target_at s place ≡ Ok at
    → chosen_at s f ≡ Ok c → values_at s es ≡ Err (act_number a) → EndsAs (beginning (call place f es)) (Undefined (act_number a)) s
unfolding to-values with_values
call-acts_values s place f es at c a e k fails =
    acts s (beginning (call place f es)) (values_at s es) a (λ n o x. with_values s n o at c x) (to-values s place f es at c e k) (λ n o. refl) fails

pub call-stops : (s new : Moment) (place : Option Place) (f : Called_by) (es : List Expression) (at : Option Target) (c : Chosen) (given : Given) → target_at s place ≡ Ok at
    → chosen_at s f ≡ Ok c → StopsAt given (values_at s es) → Comes (beginning (call place f es)) (Err (stop_of given)) s new
unfolding call-acts_values
call-stops s new place f es at c (given_stop.Act a) e k fails = call-acts_values s place f es at c a e k fails
call-stops s new place f es at c given_stop.Memory e k fails = tt

to-callee : (s : Moment) (place : Option Place) (f : Called_by) (es : List Expression) (at : Option Target) (c : Chosen) (vs : List Value) → target_at s place ≡ Ok at
    → chosen_at s f ≡ Ok c → values_at s es ≡ Ok vs → (n : ℕ) (o : Outside)
    → beginning (call place f es) n s o ≡ whole (ground_of n s) s.frames.marks.items (called_to s n o at vs (callee_at s c))
unfolding to-values with_values called_to
to-callee s place f es at c vs e k v n o =
    to-values s place f es at c e k n o ∙ ap (λ x. whole (ground_of n s) s.frames.marks.items (with_values s n o at c x)) v

pub call-acts_callee : (s : Moment) (place : Option Place) (f : Called_by) (es : List Expression) (at : Option Target) (c : Chosen) (vs : List Value) (a : Act)
    → target_at s place ≡ Ok at → chosen_at s f ≡ Ok c → values_at s es ≡ Ok vs → callee_at s c ≡ Err (act_number a)
    → EndsAs (beginning (call place f es)) (Undefined (act_number a)) s
unfolding to-callee called_to
call-acts_callee s place f es at c vs a e k v fails =
    acts s (beginning (call place f es)) (callee_at s c) a (λ n o x. called_to s n o at vs x) (to-callee s place f es at c vs e k v) (λ n o. refl) fails

back-flow : (c : Called) → called_back (flow_back c) ≡ c
back-flow (Back v s) = refl
back-flow (Gone z s) = refl

-- what comes back is handed to what awaits it
pub handed : {B : Type 0} (r : Ran Called) (go : Called → World → Ran B) → and_then (come_back r) (λ flow w. go (called_back flow) w) ≡ and_then r go
handed (Went c w) go = ap (λ x. go x w) (back-flow c)
handed (Stops end trace) go = refl

pub call-goes : (s : Moment) (marks : Vec Mark Global) (place : Option Place) (f : Called_by) (es : List Expression) (at : Option Target) (c : Chosen) (vs : List Value) (g : Callee)
    → target_at s place ≡ Ok at → chosen_at s f ≡ Ok c → values_at s es ≡ Ok vs → callee_at s c ≡ Ok g
    → marks.items ≡ s.frames.marks.items ++ mark.Back at ∷ []
    → (n : ℕ) (o : Outside) → beginning (call place f es) n s o ≡ calling g vs n (with_marks marks s) o
unfolding to-callee called_to
call-goes s marks place f es at c vs g e k v is items n o =
    let R = run_called (ground_of n s) s.level g vs (state_of s) (world_of s o) in
    to-callee s place f es at c vs e k v n o
    ∙ ap (λ x. whole (ground_of n s) s.frames.marks.items (called_to s n o at vs x)) is
    ∙ ap (whole (ground_of n s) s.frames.marks.items) (sym (handed R (λ r w. go_back at r w)))
    ∙ sym (pushed (ground_of n s) s.frames.marks.items marks.items (mark.Back at) (λ (x : Scope). come_back R) items)

-- A function of the program is called.

by_tests : (s : Moment) (n : ℕ) (o : Outside) (f : Function) (vs : List Value) → Bool → Bool → Ran Called
by_tests s n o f vs main fits = cond main (wrong (world_of s o)) (cond fits
    (enter (runs (ground_of n s).program n) (helps_in (runs (ground_of n s).program n) (ground_of n s).program s.level.in_helper) (ground_of n s).program.names s.level.in_helper f vs
    s.level.depth (state_of s) (world_of s o)) (wrong (world_of s o)))

pub own-main : (s : Moment) (f : Function) (vs : List Value) → is_main f.prototype.name ≡ true → EndsAs (calling (own f) vs) (Undefined (act_number act.A9)) s
unfolding by_tests
own-main s f vs main = ends s (calling (own f) vs) (Undefined (act_number act.A9)) (λ n o. come_back (run_called (ground_of n s) s.level (own f) vs (state_of s) (world_of s o)))
    (λ n o. refl) (λ n o. ap (λ t. come_back (by_tests s n o f vs t (length f.prototype.parameters == length vs))) main)

pub own-arity : (s : Moment) (f : Function) (vs : List Value) → is_main f.prototype.name ≡ false → (length f.prototype.parameters ≡ length vs → ⊥)
    → EndsAs (calling (own f) vs) (Undefined (act_number act.A9)) s
unfolding by_tests
own-arity s f vs main other =
    ends s (calling (own f) vs) (Undefined (act_number act.A9)) (λ n o. come_back (run_called (ground_of n s) s.level (own f) vs (state_of s) (world_of s o)))
    (λ n o. refl) (λ n o. ap (λ t. come_back (by_tests s n o f vs t (length f.prototype.parameters == length vs))) main
    ∙ ap (λ t. come_back (by_tests s n o f vs false t)) (eqb_false (length f.prototype.parameters) (length vs) other))

by_helper : (s : Moment) (n : ℕ) (o : Outside) (f : Function) (vs : List Value) → Bool → Ran Called
by_helper s n o f vs helper = cond helper
    (enter_helper s.level.in_helper (helps_in (runs (ground_of n s).program n) (ground_of n s).program s.level.in_helper) (ground_of n s).program.names f vs s.level.depth (state_of s)
    (world_of s o))
    (enter_function (runs (ground_of n s).program n) (ground_of n s).program.names f vs s.level.depth (state_of s) (world_of s o))

enters : (s : Moment) (f : Function) (vs : List Value) (helper : Bool) → is_main f.prototype.name ≡ false → length f.prototype.parameters ≡ length vs
    → is_helper f.prototype.name ≡ helper → (n : ℕ) (o : Outside)
    → calling (own f) vs n s o ≡ whole (ground_of n s) s.frames.marks.items (come_back (by_helper s n o f vs helper))
unfolding by_tests by_helper
enters s f vs helper main fits is n o =
    ap (λ t. whole (ground_of n s) s.frames.marks.items (come_back (by_tests s n o f vs t (length f.prototype.parameters == length vs)))) main
    ∙ ap (λ t. whole (ground_of n s) s.frames.marks.items (come_back (by_tests s n o f vs false t))) (eqb_true (length f.prototype.parameters) (length vs) fits)
    ∙ ap (λ t. whole (ground_of n s) s.frames.marks.items (come_back (by_helper s n o f vs t))) is

pub own-helper : (s : Moment) (f : Function) (vs : List Value) → is_main f.prototype.name ≡ false → length f.prototype.parameters ≡ length vs
    → is_helper f.prototype.name ≡ true → (n : ℕ) (o : Outside) → calling (own f) vs n s o ≡ helping f vs n s o
unfolding enters by_helper
own-helper s f vs main fits is n o = enters s f vs true main fits is n o

pub own-function : (s : Moment) (f : Function) (vs : List Value) → is_main f.prototype.name ≡ false → length f.prototype.parameters ≡ length vs
    → is_helper f.prototype.name ≡ false → (n : ℕ) (o : Outside) → calling (own f) vs n s o ≡ spending f vs n s o
unfolding enters by_helper
own-function s f vs main fits is n o = enters s f vs false main fits is n o

-- a helper

helped : (s : Moment) (n : ℕ) (o : Outside) (f : Function) (vs : List Value) → Bool → Ran Called
helped s n o f vs inside =
    enter_helper inside (helps_in (runs (ground_of n s).program n) (ground_of n s).program inside) (ground_of n s).program.names f vs s.level.depth (state_of s) (world_of s o)

pub helper-inside : (s : Moment) (f : Function) (vs : List Value) → s.level.in_helper ≡ true → EndsAs (helping f vs) (Undefined (act_number act.A9)) s
unfolding helped
helper-inside s f vs inside = ends s (helping f vs) (Undefined (act_number act.A9)) (λ n o. come_back (helped s n o f vs s.level.in_helper))
    (λ n o. refl) (λ n o. ap (λ t. come_back (helped s n o f vs t)) inside)

pub helper-enters : (s : Moment) (f : Function) (vs : List Value) → s.level.in_helper ≡ false → (n : ℕ) (o : Outside)
    → helping f vs n s o ≡ entering f vs n (record s { level = record { depth = s.level.depth; in_helper = true } }) o
unfolding helped
helper-enters s f vs outer n o = ap (λ t. whole (ground_of n s) s.frames.marks.items (come_back (helped s n o f vs t))) outer

-- a function that spends a tick and a level of depth

spent : (s : Moment) (n : ℕ) (f : Function) (vs : List Value) (depth : ℕ) (w : World) → Ran Called
spent s n f vs depth w = deeper depth w (λ depth.
    run_function (runs (ground_of n s).program n false) (ground_of n s).program.names f vs depth (state_of s) (show (Enter f.prototype.name) w))

pub function-ticks : (s : Moment) (f : Function) (vs : List Value) → s.ticks ≡ 0 → EndsAs (spending f vs) Ticks s
unfolding spent
function-ticks s f vs none = ends s (spending f vs) Ticks
    (λ n o. come_back (enter_function (runs (ground_of n s).program n) (ground_of n s).program.names f vs s.level.depth (state_of s) (world_of s o))) (λ n o. refl)
    (λ n o. ap come_back (spent-none s.ticks (world_of s o) (spent s n f vs s.level.depth) none))

pub function-depth : (s : Moment) (f : Function) (vs : List Value) → (s.ticks ≡ 0 → ⊥) → s.level.depth ≡ 0 → EndsAs (spending f vs) Depth s
unfolding spent
function-depth s f vs some none = ends s (spending f vs) Depth
    (λ n o. come_back (enter_function (runs (ground_of n s).program n) (ground_of n s).program.names f vs s.level.depth (state_of s) (world_of s o))) (λ n o. refl)
    (λ n o. ap come_back (spent-one s.ticks (world_of s o) (spent s n f vs s.level.depth) some
    ∙ ap (λ d. spent s n f vs d (record (world_of s o) { ticks = s.ticks - 1 })) none))

deeper-one : {A : Type 0} (d : ℕ) (w : World) (go : ℕ → Ran A) → (d ≡ 0 → ⊥) → deeper d w go ≡ go (d - 1)
deeper-one zero w go some = absurd (some refl)
deeper-one (suc k) w go some = ap go (let h : k ≡ suc k - 1 = omega arith in h)

pub function-enters : (s new : Moment) (f : Function) (vs : List Value) → (s.ticks ≡ 0 → ⊥) → (s.level.depth ≡ 0 → ⊥)
    → StepsOn (entering f vs) None (record s { ticks = s.ticks - 1; level = record { depth = s.level.depth - 1; in_helper = false } }) new
    → StepsOn (spending f vs) (Some (Enter f.prototype.name)) s new
unfolding spent
function-enters s new f vs some deep h = record {
  same = λ n o lt.
      let g = ground_of n s in
      let w = record (world_of s o) { ticks = s.ticks - 1 } in
      let x = bind_parameters f.prototype.parameters (memory_of s.store).next g.program.names in
      ap (λ r. whole g s.frames.marks.items (come_back r)) (spent-one s.ticks (world_of s o) (spent s n f vs s.level.depth) some
      ∙ deeper-one s.level.depth w (λ depth. run_function (runs g.program n false) g.program.names f vs depth (state_of s) (show (Enter f.prototype.name) w)) deep
      ∙ ap (λ r. and_then r (λ flow w. Went (called_back (ending (length vs) (memory_of s.store).next flow)) w))
      (runs_again g.program n false (block f.body) x (s.level.depth - 1) (in_memory (state_of s) (born_arguments vs (memory_of s.store))) (show (Enter f.prototype.name) w) (omega arith)))
      ∙ h.same n (noted (Some (Enter f.prototype.name)) o) (omega arith);
  ticks = let k : new.ticks ≤ s.ticks - 1 = h.ticks in omega arith;
}

-- a function's parameters are born

gathers : (r : Ran Flow) (f : Flow → Flow) → come_back (and_then r (λ flow w. Went (called_back (f flow)) w)) ≡ and_then r (λ flow w. Went (flow_back (called_back (f flow))) w)
gathers (Went flow w) f = refl
gathers (Stops end trace) f = refl

-- what runs where a function's names and blocks are these
entered_at : (s : Moment) (store : Store) (f : Function) (n : ℕ) (o : Outside) → (Scope → Scope) → (Flow → Flow) → Outcome
entered_at s store f n o bound ends = whole (ground_of n s) s.frames.marks.items
    (and_then (run_body (ground_of n s) s.level f.body (bound (ground_of n s).program.names) (in_memory (state_of s) (memory_of store)) (world_of s o))
    (λ flow w. Went (flow_back (called_back (ends flow))) w))

enters_at : (s : Moment) (store : Store) (f : Function) (vs : List Value) → memory_of store ≡ born_arguments vs (memory_of s.store)
    → (n : ℕ) (o : Outside) → entering f vs n s o ≡ entered_at s store f n o (bind_parameters f.prototype.parameters (memory_of s.store).next) (ending (length vs) (memory_of s.store).next)
unfolding entered_at
enters_at s store f vs memory n o =
    let g = ground_of n s in
    let M = memory_of s.store in
    let w = world_of s o in
    ap (λ (m : Memory). whole g s.frames.marks.items (come_back (and_then (run_body g s.level f.body (bind_parameters f.prototype.parameters M.next g.program.names) (in_memory (state_of s) m) w)
    (λ flow w. Went (called_back (ending (length vs) M.next flow)) w)))) (sym memory)
    ∙ ap (whole g s.frames.marks.items) (gathers (run_body g s.level f.body (bind_parameters f.prototype.parameters M.next g.program.names) (in_memory (state_of s) (memory_of store)) w)
    (ending (length vs) M.next))

at-pushed : (s : Moment) (store : Store) (marks : Vec Mark Global) (f : Function) (k : ℕ) (ps : Bor (List CParameter)) (first : ℕ) → ps.now ≡ f.prototype.parameters
    → marks.items ≡ s.frames.marks.items ++ mark.Parameters ps first k ∷ []
    → (n : ℕ) (o : Outside) → entered_at s store f n o (bind_parameters f.prototype.parameters first) (ending k first) ≡ opening f.body n (record (with_marks marks s) { store = store }) o
unfolding entered_at
at-pushed s store marks f k ps first is items n o =
    ap (λ (l : List CParameter). entered_at s store f n o (bind_parameters l first) (ending k first)) (sym is)
    ∙ sym (pushed (ground_of n s) s.frames.marks.items marks.items (mark.Parameters ps first k)
    (λ (x : Scope). run_body (ground_of n s) s.level f.body x (in_memory (state_of s) (memory_of store)) (world_of s o)) items)

pub function-opens : (s : Moment) (store : Store) (marks : Vec Mark Global) (f : Function) (vs : List Value) (ps : Bor (List CParameter)) (first : ℕ)
    → ps.now ≡ f.prototype.parameters → length f.prototype.parameters ≡ length vs
    → memory_of store ≡ born_arguments vs (memory_of s.store) → first ≡ first_of (length vs) (memory_of s.store)
    → marks.items ≡ s.frames.marks.items ++ mark.Parameters ps first (length vs) ∷ []
    → (n : ℕ) (o : Outside) → entering f vs n s o ≡ opening f.body n (record (with_marks marks s) { store = store }) o
unfolding enters_at at-pushed
function-opens s store marks f vs ps first is fits memory number items n o =
    enters_at s store f vs memory n o
    ∙ sym (parameters-first f.prototype.parameters vs (memory_of s.store) (entered_at s store f n o) fits)
    ∙ ap (λ (k : ℕ). entered_at s store f n o (bind_parameters f.prototype.parameters k) (ending (length vs) k)) (sym number)
    ∙ at-pushed s store marks f (length vs) ps first is items n o

-- `main` begins without arguments, whatever parameters it has
pub main-opens : (s : Moment) (marks : Vec Mark Global) (f : Function) (ps : Bor (List CParameter)) (next : ℕ)
    → ps.now ≡ f.prototype.parameters → next ≡ (memory_of s.store).next
    → marks.items ≡ s.frames.marks.items ++ mark.Parameters ps next 0 ∷ []
    → (n : ℕ) (o : Outside) → entering f [] n s o ≡ opening f.body n (with_marks marks s) o
unfolding enters_at at-pushed
main-opens s marks f ps next is number items n o =
    enters_at s s.store f [] refl n o
    ∙ ap (λ (k : ℕ). entered_at s s.store f n o (bind_parameters f.prototype.parameters k) (ending 0 k)) (sym number)
    ∙ at-pushed s s.store marks f 0 ps next is items n o

-- A library function is called.

pub library-wrong : (s : Moment) (run : Ground → State → World → Ran Called) → ((n : ℕ) (o : Outside) → run (ground_of n s) (state_of s) (world_of s o) ≡ wrong (world_of s o))
    → EndsAs (coming_back run) (Undefined (act_number act.A9)) s
library-wrong s run is = ends s (coming_back run) (Undefined (act_number act.A9)) (λ n o. come_back (run (ground_of n s) (state_of s) (world_of s o)))
    (λ n o. refl) (λ n o. ap come_back (is n o))

none-wrong : (l : Found) (s : State) (w : World) → (l ≡ found.Getchar → ⊥) → of_none (library_of l) s w ≡ wrong w
none-wrong found.Putchar s w a = refl
none-wrong found.Getchar s w a = absurd (a refl)
none-wrong found.Exit s w a = refl
none-wrong found.Malloc s w a = refl
none-wrong found.Free s w a = refl
none-wrong found.Atexit s w a = refl

number-wrong : (l : Found) (z : ℤ) (s : State) (w : World) → (l ≡ found.Putchar → ⊥) → (l ≡ found.Exit → ⊥) → (l ≡ found.Malloc → ⊥) → of_number (library_of l) z s w ≡ wrong w
number-wrong found.Putchar z s w a b c = absurd (a refl)
number-wrong found.Getchar z s w a b c = refl
number-wrong found.Exit z s w a b c = absurd (b refl)
number-wrong found.Malloc z s w a b c = absurd (c refl)
number-wrong found.Free z s w a b c = refl
number-wrong found.Atexit z s w a b c = refl

pointer-wrong : (l : Found) (p : Pointer) (s : State) (w : World) → (l ≡ found.Free → ⊥) → of_pointer (library_of l) p s w ≡ wrong w
pointer-wrong found.Putchar p s w a = refl
pointer-wrong found.Getchar p s w a = refl
pointer-wrong found.Exit p s w a = refl
pointer-wrong found.Malloc p s w a = refl
pointer-wrong found.Free p s w a = absurd (a refl)
pointer-wrong found.Atexit p s w a = refl

function-wrong : (l : Found) (inside : Bool) (f : ℕ) (s : State) (w : World) → (l ≡ found.Atexit → ⊥) → of_function (library_of l) inside f s w ≡ wrong w
function-wrong found.Putchar inside f s w a = refl
function-wrong found.Getchar inside f s w a = refl
function-wrong found.Exit inside f s w a = refl
function-wrong found.Malloc inside f s w a = refl
function-wrong found.Free inside f s w a = refl
function-wrong found.Atexit inside f s w a = absurd (a refl)

pub none-ends : (s : Moment) (l : Found) → (l ≡ found.Getchar → ⊥) → EndsAs (coming_back (λ g s w. of_none (library_of l) s w)) (Undefined (act_number act.A9)) s
unfolding library-wrong none-wrong
none-ends s l a = library-wrong s (λ g s w. of_none (library_of l) s w) (λ n o. none-wrong l (state_of s) (world_of s o) a)

pub number-ends : (s : Moment) (l : Found) (z : ℤ) → (l ≡ found.Putchar → ⊥) → (l ≡ found.Exit → ⊥) → (l ≡ found.Malloc → ⊥)
    → EndsAs (coming_back (λ g s w. of_number (library_of l) z s w)) (Undefined (act_number act.A9)) s
unfolding library-wrong number-wrong
number-ends s l z a b c = library-wrong s (λ g s w. of_number (library_of l) z s w) (λ n o. number-wrong l z (state_of s) (world_of s o) a b c)

pub pointer-ends : (s : Moment) (l : Found) (p : Pointer) → (l ≡ found.Free → ⊥) → EndsAs (coming_back (λ g s w. of_pointer (library_of l) p s w)) (Undefined (act_number act.A9)) s
unfolding library-wrong pointer-wrong
pointer-ends s l p a = library-wrong s (λ g s w. of_pointer (library_of l) p s w) (λ n o. pointer-wrong l p (state_of s) (world_of s o) a)

pub function-ends : (s : Moment) (l : Found) (inside : Bool) (f : ℕ) → (l ≡ found.Atexit → ⊥)
    → EndsAs (coming_back (λ g s w. of_function (library_of l) inside f s w)) (Undefined (act_number act.A9)) s
unfolding library-wrong function-wrong
function-ends s l inside f a = library-wrong s (λ g s w. of_function (library_of l) inside f s w) (λ n o. function-wrong l inside f (state_of s) (world_of s o) a)

many-wrong : (l : callee.Library) (inside : Bool) (v : Value) (others : List Value) (s : State) (w : World) → (length others == 0) ≡ false → does_library l inside (v ∷ others) s w ≡ wrong w
many-wrong l inside v [] s w e = absurd (cc)
many-wrong l inside v (u ∷ us) s w e = refl

pub many-ends : (s : Moment) (l : callee.Library) (vs others : List Value) (v : Value) → vs ≡ v ∷ others → (length others == 0) ≡ false
    → EndsAs (calling (built_in l) vs) (Undefined (act_number act.A9)) s
unfolding many-wrong
many-ends s l vs others v is some = ends s (calling (built_in l) vs) (Undefined (act_number act.A9)) (λ n o. come_back (does_library l s.level.in_helper vs (state_of s) (world_of s o)))
    (λ n o. refl) (λ n o. ap (λ (xs : List Value). come_back (does_library l s.level.in_helper xs (state_of s) (world_of s o))) is
    ∙ ap come_back (many-wrong l s.level.in_helper v others (state_of s) (world_of s o) some))

takes : (s : Moment) (n : ℕ) (input : List ℕ) (trace : List Event)
    → coming_back (λ g s w. of_none callee.getchar s w) n s (record { input = input; trace = trace }) ≡ taken_from input n s (record { input = input; trace = trace })
takes s n [] trace = refl
takes s n (byte ∷ rest) trace = refl

pub getchar-takes : (s : Moment) → StepsTaking (coming_back (λ g s w. of_none callee.getchar s w)) s s
unfolding takes
getchar-takes s = record { same = λ n o lt. takes s n o.input o.trace; ticks = omega arith }

pub putchar-shows : (s : Moment) (z : ℤ) (byte : ℕ) → byte ≡ bits_of 8 z
    → StepsOn (coming_back (λ g s w. of_number callee.putchar z s w)) (Some (Out byte)) s (record s { doing = doing.Leave (left.Returns (Some (value.Number kind.Int (pos byte)))) })
putchar-shows s z byte is = record {
  same = λ n o lt. ap (λ (b : ℕ). whole (ground_of n s) s.frames.marks.items (Went (Returns (Some (value.Number kind.Int (pos b))) (state_of s)) (show (Out b) (world_of s o)))) (sym is);
  ticks = omega arith;
}

pub malloc-gives : (s : Moment) (store : Store) (size heap : ℕ) (p : Pointer)
    → allotted size s.heap (memory_of s.store) ≡ record { pointer = p; heap = heap; memory = memory_of store }
    → (n : ℕ) (o : Outside) → coming_back (λ g s w. back_allotted s w (allotted size w.heap s.memory)) n s o
    ≡ leaving (left.Returns (Some (value.Address p))) n (record s { store = store; heap = heap }) o
malloc-gives s store size heap p gives n o = ap (λ (a : Allotted). whole (ground_of n s) s.frames.marks.items (come_back (back_allotted (state_of s) (world_of s o) a))) gives

freeing : (s : Moment) (n : ℕ) (o : Outside) → Result Freed ℕ → Ran Called
freeing s n o r = tried r (world_of s o) (λ f. Went (Back None (in_memory (state_of s) f.memory)) (record (world_of s o) { heap = f.heap }))

pub free-acts : (s : Moment) (p : Pointer) (a : Act) → freed p s.heap (memory_of s.store) ≡ Err (act_number a)
    → EndsAs (coming_back (λ g s w. of_pointer callee.free p s w)) (Undefined (act_number a)) s
unfolding freeing
free-acts s p a fails = acts s (coming_back (λ g s w. of_pointer callee.free p s w)) (freed p s.heap (memory_of s.store)) a (λ n o x. come_back (freeing s n o x))
    (λ n o. refl) (λ n o. refl) fails

pub free-ends : (s : Moment) (store : Store) (p : Pointer) (heap : ℕ) → freed p s.heap (memory_of s.store) ≡ Ok (record { heap = heap; memory = memory_of store })
    → (n : ℕ) (o : Outside) → coming_back (λ g s w. of_pointer callee.free p s w) n s o ≡ leaving (left.Returns None) n (record s { store = store; heap = heap }) o
unfolding freeing
free-ends s store p heap gives n o = ap (λ x. whole (ground_of n s) s.frames.marks.items (come_back (freeing s n o x))) gives

-- registrations

pub newest-push : (later fs : List ℕ) (f : ℕ) → newest_first later (fs ++ f ∷ []) ≡ f ∷ newest_first later fs
newest-push later [] f = refl
newest-push later (x ∷ fs) f = newest-push (x ∷ later) fs f

newest-length : (later fs : List ℕ) → length (newest_first later fs) ≡ length later + length fs
newest-length later [] = let h : length later ≡ length later + 0 = omega arith in h
newest-length later (x ∷ fs) = newest-length (x ∷ later) fs ∙ let h : suc (length later) + length fs ≡ length later + suc (length fs) = omega arith in h

lt_true : (a b : ℕ) → a < b → nat_lt a b ≡ true
lt_true a b e = grind (arith, nat_tests)

lt_false : (a b : ℕ) → b ≤ a → nat_lt a b ≡ false
lt_false a b e = grind (arith, nat_tests)

registering : (s : Moment) (n : ℕ) (o : Outside) (f : ℕ) → Bool → Ran Called
registering s n o f t = cond t (back_int (pos 0) (record (state_of s) { registered = f ∷ (state_of s).registered }) (world_of s o)) (back_int (pos 1) (state_of s) (world_of s o))

by_inside : (s : Moment) (n : ℕ) (o : Outside) (f : ℕ) → Bool → Ran Called
by_inside s n o f t = of_function callee.atexit t f (state_of s) (world_of s o)

pub atexit-inside : (s : Moment) (f : ℕ) (inside : Bool) → inside ≡ true
    → EndsAs (coming_back (λ g s w. of_function callee.atexit inside f s w)) (Undefined (act_number act.A9)) s
unfolding by_inside library-wrong
atexit-inside s f inside is = library-wrong s (λ g s w. of_function callee.atexit inside f s w) (λ n o. ap (by_inside s n o f) is)

pub atexit-full : (s : Moment) (f : ℕ) (inside : Bool) → inside ≡ false → 2 ^ 16 ≤ length s.registered.items
    → (n : ℕ) (o : Outside) → coming_back (λ g s w. of_function callee.atexit inside f s w) n s o ≡ leaving (left.Returns (Some (value.Number kind.Int (pos 1)))) n s o
unfolding by_inside registering
atexit-full s f inside is full n o =
    ap (λ t. whole (ground_of n s) s.frames.marks.items (come_back (by_inside s n o f t))) is
    ∙ ap (λ t. whole (ground_of n s) s.frames.marks.items (come_back (registering s n o f t)))
    (lt_false (length (newest_first [] s.registered.items)) most_registered
    (let h : length (newest_first [] s.registered.items) ≡ 0 + length s.registered.items = newest-length [] s.registered.items in omega arith))

pub atexit-registers : (s : Moment) (registered : Vec ℕ Global) (f : ℕ) (inside : Bool) → inside ≡ false → length s.registered.items < 2 ^ 16
    → registered.items ≡ s.registered.items ++ f ∷ []
    → (n : ℕ) (o : Outside) → coming_back (λ g s w. of_function callee.atexit inside f s w) n s o
    ≡ leaving (left.Returns (Some (value.Number kind.Int (pos 0)))) n (record s { registered = registered }) o
unfolding by_inside registering
atexit-registers s registered f inside is room items n o =
    ap (λ t. whole (ground_of n s) s.frames.marks.items (come_back (by_inside s n o f t))) is
    ∙ ap (λ t. whole (ground_of n s) s.frames.marks.items (come_back (registering s n o f t)))
    (lt_true (length (newest_first [] s.registered.items)) most_registered
    (let h : length (newest_first [] s.registered.items) ≡ 0 + length s.registered.items = newest-length [] s.registered.items in omega arith))
    ∙ ap (λ (l : List ℕ). whole (ground_of n s) s.frames.marks.items (Went (Returns (Some (value.Number kind.Int (pos 0))) (record (state_of s) { registered = l })) (world_of s o)))
    (sym (newest-push [] s.registered.items f) ∙ sym (ap (newest_first []) items))

-- A call's result is stored.

store_to : (s : Moment) (o : Outside) → Result Memory ℕ → Ran Flow
store_to s o r = tried r (world_of s o) (λ m. Went (Falls (in_memory (state_of s) m)) (world_of s o))

pub store-acts : (s : Moment) (at : Target) (v : Value) (a : Act) → stored at v (memory_of s.store) ≡ Err (act_number a)
    → EndsAs (storing (Some at) (Some v)) (Undefined (act_number a)) s
unfolding store_to
store-acts s at v a fails = acts s (storing (Some at) (Some v)) (stored at v (memory_of s.store)) a (λ n o x. store_to s o x) (λ n o. refl) (λ n o. refl) fails

pub store-ends : (s : Moment) (store : Store) (at : Target) (v : Value) → stored at v (memory_of s.store) ≡ Ok (memory_of store)
    → (n : ℕ) (o : Outside) → storing (Some at) (Some v) n s o ≡ leaving left.Falls n (record s { store = store }) o
unfolding store_to
store-ends s store at v gives n o = ap (λ x. whole (ground_of n s) s.frames.marks.items (store_to s o x)) gives

pub store-missing : (s : Moment) (at : Target) → EndsAs (storing (Some at) None) (Undefined (act_number act.A11)) s
store-missing s at = ends s (storing (Some at) None) (Undefined (act_number act.A11)) (λ n o. store_result (Some at) None (state_of s) (world_of s o)) (λ n o. refl) (λ n o. refl)
