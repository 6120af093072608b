-- The meaning of a program of plain units: its trace and end, from an input, a heap limit, a depth limit and a bound of ticks.
use Rattle.std.specs.Prelude.{ℕ, suc, List, [], ◌++◌, Option, None, codes, map}
use Rattle.cf_base.specs.World.{Outcome, and_then, world_at}
use Rattle.cf_core.specs.Types.{Name}
use Rattle.cf_core.specs.Classes.{Class}
use Rattle.cf_core.specs.Core.{Static, blank}
use Rattle.cf_core.specs.Run.{Act, ◌>>=◌, ◌>>◌, done, for_all, frame_changed}
use Rattle.cf_core.specs.Calls.{Program, enter, run_named}
use Rattle.cf_core.specs.Program.{first_state, status_of, run_outcome, ended_run}
use Rattle.std.specs.Prelude.{ℤ}
use Rattle.cf_plain.specs.Plain.{Plains, PlainFunction, PlainStatic}
use Rattle.cf_plain.specs.Acts.{no_registers}
use Rattle.cf_plain.specs.Running.{Again, calls, header, all, runs}

-- what sets a static object with a constant initialiser, and the function whose literals are meant in it
pub record PlainSetting : Type 0 where
  pub function : Name
  pub start : Plains

-- a program: the files joined by link names
pub record PlainProgram : Type 0 where
  pub classes : List Class
  pub functions : List PlainFunction
  pub statics : List PlainStatic
  pub constants : List PlainSetting
  pub initialisers : List PlainFunction

-- as the core's meaning sees it
abbrev pub static_header : PlainStatic → Static
static_header x = record {
  name = x.name;
  type = x.type;
  start = blank;
  owner = x.owner;
  is_constant = x.is_constant;
  is_shared = x.is_shared;
  is_local = x.is_local;
}

abbrev pub headers : PlainProgram → Program
headers Q = record {
  classes = Q.classes;
  functions = map header (Q.functions ++ Q.initialisers);
  statics = map static_header Q.statics;
  constants = [];
  initialisers = map header Q.initialisers;
}

-- constant initialisers take effect without a function being entered (8.4)
abbrev pub set_constant : Again → Program → PlainSetting → Act (Unit {0})
set_constant again P x = do
  frame_changed (λ g. record g { function = x.function })
  all again P x.start no_registers >> done

-- Then come the other static objects, file by file, and then `main`; its return is `exit`.
abbrev pub main_run : Again → Program → List PlainSetting → Act ℤ
main_run again P settings = do
  for_all settings (set_constant again P)
  for_all P.initialisers (λ f. enter (calls again) f [] None None >> done)
  v ← run_named (calls again) P (codes "__main") [] None None
  status_of v

-- The trace and the end; none where the program isn't one that valid units make.
abbrev pub PlainMean : PlainProgram → List ℕ → ℕ → ℕ → ℕ → Option Outcome
PlainMean Q input heap depth n =
    let P = headers Q in
    let again = runs P (Q.functions ++ Q.initialisers) n in
    run_outcome
    (and_then (main_run again P Q.constants (first_state P depth) (world_at n input heap))
    (ended_run (calls again) P depth (suc n)))
