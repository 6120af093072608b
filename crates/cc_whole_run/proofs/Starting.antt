-- What `main` begins with, as facts about moments.
use Rattle.std.proofs.Common.{◌≡◌, ℕ, suc, ◌≤◌, false, List, [], ℤ, Option, Some, None, Result, Ok, Err, Bor, refl, ap, sym, ◌∙◌, arith, codes}
use Rattle.std.specs.Global.{Global}
use Rattle.std.specs.Prelude.{Vec}
use Rattle.cf_base.specs.Event.{Undefined}
use Rattle.cf_base.specs.World.{World, Ran, Went, Stops, and_then, outcome, world_at, Outcome}
use Rattle.cc_whole.specs.declared.unit.CProgram.{CProgram}
use Rattle.cc_whole.specs.declared.unit.CFunction.{CFunction}
use Rattle.cc_whole.specs.Plain.{Function, function_of, block, items_of}
use Rattle.cc_whole_memory.specs.declared.store.Store.{Store}
use Rattle.cc_whole_memory.specs.Store.{memory_of}
use Rattle.cc_whole_mean.specs.Scope.{Scope, bind_parameters}
use Rattle.cc_whole_mean.specs.Flow.{State, Flow, tried, ending, Called, Back, Gone, called_back}
use Rattle.cc_whole_mean.specs.Callee.{Library, own, built_in, found_function, callee_named, function_named}
use Rattle.cc_whole_mean.specs.Mean.{Program, runs}
use Rattle.cc_whole_mean.specs.Start.{file_names, program_of as whole_program, first_state, start, status_of, ended_main, exits}
use Rattle.cc_whole_mean.proofs.Enough.{Left, runs-alike, runs_again}
use Rattle.cc_whole_start.specs.declared.names.FileNames.{FileNames}
use Rattle.cc_whole_start.specs.Table.{scope_of as file_scope}
use Rattle.cc_whole_start.proofs.Exits.{exits-again}
use Rattle.cc_whole_step.specs.declared.mark.Mark.{Mark}
use Rattle.cc_whole_step.specs.declared.mark.Doing.{Doing}
use Rattle.cc_whole_step.specs.declared.moment.Moment.{Moment}
use Rattle.cc_whole_step.specs.Running.{functions_in, Ground, whole, newest_first, entering, run_own, come_back}
use Rattle.cc_whole_step.specs.Comes.{StepsOn}
use Rattle.cc_whole_step.proofs.CallLaws.{handed}
use Rattle.cc_whole_run.specs.declared.types.Limits.{Limits}
use Rattle.cc_whole_run.specs.Run.{meant}
use Rattle.cc_whole_run.specs.Going.{outside, Starts}

-- so many ticks are left where a run goes on, so what follows is asked at as many
left-then : {A B : Type 0} (n : ℕ) (r : Ran A) (f g : A → World → Ran B) → Left n r → ((a : A) (w : World) → w.ticks ≤ n → f a w ≡ g a w) → and_then r f ≡ and_then r g
left-then n (Went a w) f g left e = e a w left
left-then n (Stops end trace) f g left e = refl

left-called : (n : ℕ) (r : Ran Flow) (f : Flow → Called) → Left n r → Left n (and_then r (λ flow w. Went (f flow) w))
left-called n (Went flow w) f left = left
left-called n (Stops end trace) f left = tt

again-main : (p : Program) (depth n : ℕ) (c : Called) (w : World) → w.ticks ≤ n → ended_main (exits p depth n) c w ≡ ended_main (exits p depth (suc n)) c w
again-main p depth n (Back v s) w le = by (status_of v)
  where
    by : (x : Result ℤ ℕ) → tried x w (λ status. exits p depth n status s w) ≡ tried x w (λ status. exits p depth (suc n) status s w)
    by (Ok status) = exits-again p depth n status s w le
    by (Err act) = refl
again-main p depth n (Gone z s) w le = exits-again p depth n z s w le

-- the outcome of `main` from this state, at a bound one above the ticks
from : (program : CProgram) (main : Function) (limits : Limits) (input : List ℕ) → Scope → State → List Mark → ℕ → Outcome
from program main limits input names s ms heap =
    let g : Ground = record { program = record { functions = functions_in program; names = names }; bound = suc limits.ticks; depth = limits.depth; status = None } in
    whole g ms (come_back (run_own g (record { depth = limits.depth; in_helper = false }) main [] s (record { ticks = limits.ticks; input = input; heap = heap; trace = [] })))

means-from : (program : CProgram) (main : Function) (limits : Limits) (input : List ℕ) → function_named (functions_in program) (codes "main") ≡ Some main
    → meant program limits input ≡ from program main limits input (file_names (items_of program.items)) (first_state (items_of program.items)) [] limits.heap
unfolding from
means-from program main limits input named =
    let items = items_of program.items in
    let P = whole_program items in
    let n = limits.ticks in
    let S = first_state items in
    let w = world_at n input limits.heap in
    let x = bind_parameters main.prototype.parameters S.memory.next P.names in
    let R = runs P (suc n) false (block main.body) x limits.depth S w in
    let C = (λ (flow : Flow). called_back (ending 0 S.memory.next flow)) in
    ap (λ (f : Option Function). outcome (and_then (start P n f limits.depth S w) (λ r w. ended_main (exits P limits.depth n) r w))) named
    ∙ ap outcome (left-then n (and_then R (λ flow w. Went (C flow) w)) (λ r w. ended_main (exits P limits.depth n) r w) (λ r w. ended_main (exits P limits.depth (suc n)) r w)
    (left-called n R C (runs-alike P (suc n) false (block main.body) x limits.depth S w (omega arith)).left) (λ c w le. again-main P limits.depth n c w le))
    ∙ ap (λ r. outcome (and_then (and_then r (λ flow w. Went (C flow) w)) (λ r w. ended_main (exits P limits.depth (suc n)) r w)))
    (runs_again P (suc n) false (block main.body) x limits.depth S w (omega arith))
    ∙ ap outcome (sym (handed (run_own (record { program = P; bound = suc n; depth = limits.depth; status = None }) (record { depth = limits.depth; in_helper = false }) main [] S w)
    (λ r w. ended_main (exits P limits.depth (suc n)) r w)))

pub starts : (alloc : Global) (program : Bor CProgram) (main : CFunction) (limits : Limits) (file : FileNames) (marks : Vec Mark Global) (d : Doing) (store : Store) (registered : Vec ℕ Global)
    (heap : ℕ) (new : Moment)
    → file_scope file ≡ file_names (items_of program.now.items) → memory_of store ≡ (first_state (items_of program.now.items)).memory
    → marks.items ≡ [] → registered.items ≡ [] → heap ≡ limits.heap
    → StepsOn (entering (function_of main) []) None (record {
      alloc = alloc;
      program = program;
      frames = record { file = file; marks = marks };
      doing = d;
      store = store;
      registered = registered;
      level = record { depth = limits.depth; in_helper = false };
      ticks = limits.ticks;
      heap = heap;
      depth = limits.depth;
      status = None;
    }) new
    → Starts program.now main limits new
unfolding from
starts alloc program main limits file marks d store registered heap new names memory none nothing same_heap h = record {
  same = λ named input.
      let S = first_state (items_of program.now.items) in
      means-from program.now (function_of main) limits input named
      ∙ ap (λ (x : Scope). from program.now (function_of main) limits input x S [] limits.heap) (sym names)
      ∙ ap (λ m. from program.now (function_of main) limits input (file_scope file) (record { memory = m; registered = [] }) [] limits.heap) (sym memory)
      ∙ ap (λ (l : List ℕ). from program.now (function_of main) limits input (file_scope file) (record { memory = memory_of store; registered = newest_first [] l }) [] limits.heap) (sym nothing)
      ∙ ap (λ (ms : List Mark). from program.now (function_of main) limits input (file_scope file) (record { memory = memory_of store; registered = newest_first [] registered.items }) ms limits.heap) (sym none)
      ∙ ap (λ (k : ℕ). from program.now (function_of main) limits input (file_scope file) (record { memory = memory_of store; registered = newest_first [] registered.items }) marks.items k) (sym same_heap)
      ∙ h.same (suc limits.ticks) (outside input []) (omega arith);
  below = let k : new.ticks ≤ limits.ticks = h.ticks in omega arith;
}

-- a program without `main`
pub none-means : (program : CProgram) (limits : Limits) (input : List ℕ) → function_named (functions_in program) (codes "main") ≡ None
    → meant program limits input ≡ record { end = Undefined 9; trace = [] }
none-means program limits input none =
    ap (λ (f : Option Function). outcome (and_then (start (whole_program (items_of program.items)) limits.ticks f limits.depth (first_state (items_of program.items)) (world_at limits.ticks input limits.heap))
    (λ r w. ended_main (exits (whole_program (items_of program.items)) limits.depth limits.ticks) r w))) none

found-own : (x : Option Function) (f : Function) → found_function x ≡ Ok (own f) → x ≡ Some f
found-own None f e = absurd (cc)
found-own (Some g) f e = cc

found-none : (x : Option Function) (a : ℕ) → found_function x ≡ Err a → x ≡ None
found-none None a e = refl
found-none (Some g) a e = absurd (cc)

-- `main` is no library function

pub main-own : (fs : List Function) (f : Function) → callee_named fs (codes "main") ≡ Ok (own f) → function_named fs (codes "main") ≡ Some f
main-own fs f e = found-own (function_named fs (codes "main")) f e

pub main-none : (fs : List Function) (a : ℕ) → callee_named fs (codes "main") ≡ Err a → function_named fs (codes "main") ≡ None
main-none fs a e = found-none (function_named fs (codes "main")) a e

pub main-built_in : (fs : List Function) (l : Library) → (callee_named fs (codes "main") ≡ Ok (built_in l) → ⊥)
main-built_in fs l e = by (function_named fs (codes "main")) e
  where
    by : (x : Option Function) → found_function x ≡ Ok (built_in l) → ⊥
    by None e = cc
    by (Some g) e = cc
