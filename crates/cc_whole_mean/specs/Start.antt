-- The meaning of a program: its trace and end, from an input, a heap limit, a depth limit and a bound of ticks.
use Rattle.std.specs.Prelude.{ℕ, zero, suc, ◌+◌, ◌==◌, if◌then◌else◌, false, List, [], ◌∷◌, ◌++◌, ℤ, pos, Option, Some, None, Result, Ok, Err, codes}
use Rattle.cf_base.specs.declared.kind.Kind.TheVariants as kind
use Rattle.cf_base.specs.Integers.{convert}
use Rattle.cf_base.specs.Event.{Undefined, Ticks}
use Rattle.cf_base.specs.World.{World, Ran, Went, Stops, and_then, world_at, Outcome, outcome}
use Rattle.cc_whole.specs.declared.types.CSignature.{CSignature}
use Rattle.cc_whole.specs.declared.unit.CVariable.{CVariable}
use Rattle.cc_whole.specs.declared.unit.CInitialiser.{CInitialiser}
use Rattle.cc_whole.specs.declared.unit.CInitialiser.TheVariants as initialiser
use Rattle.cc_whole.specs.declared.unit.CPair.{CPair}
use Rattle.cc_whole.specs.declared.unit.CProgram.{CProgram}
use Rattle.cc_whole.specs.Known.{library}
use Rattle.cc_whole.specs.Plain.{Function, Item, items_of, functions_of, variables_of}
use Rattle.cc_whole_memory.specs.declared.value.Pointer.TheVariants as pointer
use Rattle.cc_whole_memory.specs.declared.value.Value.{Value}
use Rattle.cc_whole_memory.specs.declared.value.Value.TheVariants as value
use Rattle.cc_whole_memory.specs.declared.store.Storage.TheVariants as storage
use Rattle.cc_whole_memory.specs.Blocks.{Memory, no_memory, born, on_ok, write}
use Rattle.cc_whole_mean.specs.Types.{constant_value, variable_size}
use Rattle.cc_whole_mean.specs.declared.named.Named.{Named}
use Rattle.cc_whole_mean.specs.declared.named.Named.TheVariants.{Variable as variable, Function as function}
use Rattle.cc_whole_mean.specs.Scope.{Scope, no_names, bind_variables, bind_functions, function_names}
use Rattle.cc_whole_mean.specs.Values.{numbered}
use Rattle.cc_whole_mean.specs.Flow.{State, Called, Back, Gone, tried}
use Rattle.cc_whole_mean.specs.Callee.{wrong_type, function_named}
use Rattle.cc_whole_mean.specs.Mean.{Program, Again, run_function, called, callee_of, used, runs, helps_in}
use Rattle.cc_whole_mean.specs.Mean as mean

-- the names of a program's variables and functions; the blocks of its variables are numbered from 0, and the library functions have the numbers behind
-- those of the program
abbrev pub file_names : List Item → Scope
file_names items = bind_functions (function_names (functions_of items) ++ library) 1 (bind_variables (variables_of items) 0 no_names)

abbrev pub program_of : List Item → Program
program_of items = record { functions = functions_of items; names = file_names items }

-- Static blocks are laid out in order before `main`, and their initialisers stand at their fronts.

-- a value that does not fit its block is left out
abbrev pub kept : Memory → Result Memory ℕ → Memory
kept m (Err act) = m
kept m (Ok changed) = changed

abbrev pub put_static : ℕ → ℕ → Value → Memory → Memory
put_static b q v m = kept m (write (pointer.At b q) v m)

abbrev pub put_text : List ℕ → ℕ → ℕ → Memory → Memory
put_text [] b q m = m
put_text (byte ∷ rest) b q m = put_text rest b (suc q) (put_static b q (value.Number kind.Char (convert kind.Char (pos byte))) m)

abbrev pub function_in : Option Named → ℕ
function_in None = 0
function_in (Some (variable b shape)) = 0
function_in (Some (function f)) = f

abbrev pub pair_function : Scope → Option (List ℕ) → ℕ
pair_function names None = 0
pair_function names (Some name) = function_in (names name)

abbrev pub put_pairs : Scope → List CPair → ℕ → ℕ → Memory → Memory
put_pairs names [] b q m = m
put_pairs names (x ∷ rest) b q m =
    put_pairs names rest b (q + 8)
    (put_static b (q + 4) (value.Function (pair_function names x.function)) (put_static b q (constant_value x.number) m))

abbrev pub initialised : Scope → Option CInitialiser → ℕ → Memory → Memory
initialised names None b m = m
initialised names (Some (initialiser.Text bytes)) b m = put_text bytes b 0 m
initialised names (Some (initialiser.Pairs pairs)) b m = put_pairs names pairs b 0 m

abbrev pub laid_out : Scope → List CVariable → Memory → Memory
laid_out names [] m = m
laid_out names (x ∷ rest) m = laid_out names rest (initialised names x.initialiser m.next (born storage.Static (variable_size x.ty) m))

-- What follows when `main` has returned or `exit` was called.

-- how it goes on at one tick less
abbrev pub Exiting : Type 0
Exiting = ℤ → State → World → Ran ℤ

abbrev pub status_after : ℤ → Called → ℤ
status_after status (Back v s) = status
status_after status (Gone z s) = z

abbrev pub state_after : Called → State
state_after (Back v s) = s
state_after (Gone z s) = s

-- `void(void)`
abbrev pub no_arguments : CSignature
no_arguments = record { result = None; parameters = [] }

-- a registered function is called
abbrev pub call_registered : Again → Program → ℕ → ℕ → State → World → Ran Called
call_registered again p depth f s w =
    tried (callee_of p.functions (mean.pointer no_arguments f)) w (λ c. called again (helps_in again p false) p false c [] depth s w)

-- The newest registration is removed and its function called, until none is left. A call of `exit` sets the status and goes on with the rest.
-- A helper registers nothing, so where no tick was spent, what is left is the rest.
abbrev pub exits_with : (ℕ → State → World → Ran Called) → Exiting → List ℕ → ℤ → State → World → Ran ℤ
exits_with run again [] status s w = Went status w
exits_with run again (f ∷ rest) status s w =
    and_then (run f (record s { registered = rest }) w) (λ r v.
    if v.ticks == w.ticks then exits_with run again rest (status_after status r) (state_after r) v
    else again (status_after status r) (state_after r) v)

abbrev pub no_exit : Exiting
no_exit status s w = Stops Ticks w.trace

abbrev pub exits : Program → ℕ → ℕ → Exiting
exits p depth zero status s w = exits_with (call_registered (runs p zero) p depth) no_exit s.registered status s w
exits p depth (suc n) status s w = exits_with (call_registered (runs p (suc n)) p depth) (exits p depth n) s.registered status s w

-- a return from `main` is `exit` with the value that it returns
abbrev pub status_of : Option Value → Result ℤ ℕ
status_of v = on_ok (used v) (λ v. numbered v (λ k z. Ok z))

abbrev pub ended_main : Exiting → Called → World → Ran ℤ
ended_main exit (Back v s) w = tried (status_of v) w (λ status. exit status s w)
ended_main exit (Gone z s) w = exit z s w

abbrev pub start : Program → ℕ → Option Function → ℕ → State → World → Ran Called
start p n None depth s w = Stops (Undefined wrong_type) w.trace
start p n (Some f) depth s w = run_function (runs p (suc n) false) p.names f [] depth s w

abbrev pub first_state : List Item → State
first_state items = record { memory = laid_out (file_names items) (variables_of items) no_memory; registered = [] }

abbrev pub mean_of : List Item → List ℕ → ℕ → ℕ → ℕ → Outcome
mean_of items input heap depth n = outcome
    (and_then (start (program_of items) n (function_named (functions_of items) (codes "main")) depth (first_state items) (world_at n input heap))
    (λ r w. ended_main (exits (program_of items) depth n) r w))

abbrev pub c_mean : CProgram → List ℕ → ℕ → ℕ → ℕ → Outcome
c_mean program input heap depth n = mean_of (items_of program.items) input heap depth n
