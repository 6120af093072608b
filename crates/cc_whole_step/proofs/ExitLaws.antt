-- What the end of `main` and of registered functions keeps, as facts about moments.
use Rattle.std.proofs.Common.{◌≡◌, ℕ, ◌<◌, ◌≤◌, false, List, [], ◌∷◌, ◌++◌, ℤ, Option, Some, None, Result, Ok, Err, refl, ap, sym, ◌∙◌, arith}
use Rattle.std.specs.Global.{Global}
use Rattle.std.specs.Prelude.{Vec}
use Rattle.cf_base.specs.Event.{Ended, Undefined}
use Rattle.cf_base.specs.World.{World, Ran, Went, Stops, and_then, outcome, Outcome}
use Rattle.cc_whole_memory.specs.declared.act.Act.{Act}
use Rattle.cc_whole_memory.specs.Store.{act_number}
use Rattle.cc_whole_memory.specs.declared.value.Value.{Value}
use Rattle.cc_whole_mean.specs.Flow.{State, tried, Called, Back, Gone}
use Rattle.cc_whole_mean.specs.Callee.{Callee}
use Rattle.cc_whole_mean.specs.Mean.{callee_of, called, runs, helps_in}
use Rattle.cc_whole_mean.specs.Mean as mean
use Rattle.cc_whole_mean.specs.Start.{no_arguments, status_of, status_after, state_after, call_registered, exits, ended_main}
use Rattle.cc_whole_start.proofs.Exits.{exits-none, exits-next}
use Rattle.cc_whole_step.specs.declared.mark.Flow.TheVariants as left
use Rattle.cc_whole_step.specs.declared.mark.Flow.{Flow as Left}
use Rattle.cc_whole_step.specs.declared.moment.Moment.{Moment}
use Rattle.cc_whole_step.specs.Running.{Ground, functions_in, followed_up, newest_first, whole, flow_of, Outside, program_of, ground_of, state_of, world_of, calling, leaving, exiting, ending_all, ending_as, ending_with, run_called, come_back}
use Rattle.cc_whole_step.specs.Comes.{Meaning, EndsAs}
use Rattle.cc_whole_step.proofs.CallLaws.{handed, newest-push}

-- no mark is left
pub leaves-all : (s : Moment) (flow : Left) → s.frames.marks.items ≡ [] → (n : ℕ) (o : Outside) → leaving flow n s o ≡ ending_all flow n s o
leaves-all s flow none n o = ap (λ ms. whole (ground_of n s) ms (Went (flow_of flow (state_of s)) (world_of s o))) none

abbrev by_status : (s : Moment) (n : ℕ) (o : Outside) (c : Called) → Option ℤ → Outcome
by_status s n o c status = outcome (followed_up status (exits (program_of s) s.depth n) c (world_of s o))

-- `exit` was called
pub exits-all : (s : Moment) (z : ℤ) (n : ℕ) (o : Outside) → ending_all (left.Exits z) n s o ≡ exiting z n s o
exits-all s z n o = by s.status
  where
    by : (status : Option ℤ) → by_status s n o (Gone z (state_of s)) status ≡ exiting z n s o
    by None = refl
    by (Some status) = refl

ended : (s : Moment) (n : ℕ) (o : Outside) → Result ℤ ℕ → Outcome
ended s n o x = outcome (tried x (world_of s o) (λ status. exits (program_of s) s.depth n status (state_of s) (world_of s o)))

pub main-acts : (s : Moment) (v : Option Value) (a : Act) → s.status ≡ None → status_of v ≡ Err (act_number a) → EndsAs (ending_with v) (Undefined (act_number a)) s
unfolding ended
main-acts s v a first fails = record { same = λ n o lt. ap (by_status s n o (Back v (state_of s))) first ∙ ap (ended s n o) fails }

pub main-ends : (s : Moment) (v : Option Value) (z : ℤ) → s.status ≡ None → status_of v ≡ Ok z → (n : ℕ) (o : Outside) → ending_with v n s o ≡ exiting z n s o
unfolding ended
main-ends s v z first gives n o = ap (by_status s n o (Back v (state_of s))) first ∙ ap (ended s n o) gives

pub registered-ends : (s : Moment) (v : Option Value) (z : ℤ) → s.status ≡ Some z → (n : ℕ) (o : Outside) → ending_with v n s o ≡ exiting z n s o
registered-ends s v z later n o = ap (by_status s n o (Back v (state_of s))) later

-- none is left
pub exit-ends : (s : Moment) (z : ℤ) → s.registered.items ≡ [] → EndsAs (exiting z) (Ended z) s
exit-ends s z none = record {
  same = λ n o lt. ap outcome (exits-none (program_of s) s.depth n z (state_of s) (world_of s o) (ap (newest_first []) none));
}

calls_next : (s : Moment) (n : ℕ) (o : Outside) (z : ℤ) (fs : List ℕ) → Result Callee ℕ → Outcome
calls_next s n o z fs x = outcome (and_then
    (tried x (world_of s o) (λ c. called (runs (program_of s) n) (helps_in (runs (program_of s) n) (program_of s) false) (program_of s) false c [] s.depth
    (record (state_of s) { registered = fs }) (world_of s o)))
    (λ r v. exits (program_of s) s.depth n (status_after z r) (state_after r) v))

next : (s : Moment) (z : ℤ) (fs : List ℕ) (f n : ℕ) (o : Outside) → s.ticks < n → s.registered.items ≡ fs ++ f ∷ []
    → exiting z n s o ≡ calls_next s n o z (newest_first [] fs) (callee_of (functions_in s.program.now) (mean.pointer no_arguments f))
unfolding calls_next
next s z fs f n o lt items =
    ap outcome (exits-next (program_of s) s.depth n f (newest_first [] fs) z (state_of s) (world_of s o) (omega arith)
    (ap (newest_first []) items ∙ newest-push [] fs f))

pub exit-acts : (s : Moment) (z : ℤ) (fs : List ℕ) (f : ℕ) (a : Act) → s.registered.items ≡ fs ++ f ∷ []
    → callee_of (functions_in s.program.now) (mean.pointer no_arguments f) ≡ Err (act_number a) → EndsAs (exiting z) (Undefined (act_number a)) s
unfolding next calls_next
exit-acts s z fs f a items fails = record { same = λ n o lt. next s z fs f n o lt items ∙ ap (calls_next s n o z (newest_first [] fs)) fails }

-- the newest is called
pub exit-calls : (s : Moment) (registered : Vec ℕ Global) (z : ℤ) (f : ℕ) (c : Callee) → s.frames.marks.items ≡ [] → s.registered.items ≡ registered.items ++ f ∷ []
    → callee_of (functions_in s.program.now) (mean.pointer no_arguments f) ≡ Ok c
    → (n : ℕ) (o : Outside) → s.ticks < n
    → exiting z n s o ≡ calling c [] n (record s { registered = registered; status = Some z; level = record { depth = s.depth; in_helper = false } }) o
unfolding next calls_next
exit-calls s registered z f c none items gives n o lt =
    let m : Moment = record s { registered = registered; status = Some z; level = record { depth = s.depth; in_helper = false } } in
    let R = run_called (ground_of n m) m.level c [] (state_of m) (world_of m o) in
    next s z registered.items f n o lt items
    ∙ ap (calls_next s n o z (newest_first [] registered.items)) gives
    ∙ ap outcome (sym (handed R (λ r v. exits (program_of s) s.depth n (status_after z r) (state_after r) v)))
    ∙ ap (λ ms. whole (ground_of n m) ms (come_back R)) (sym none)
