-- What it is for a program to register no function for `exit`.
use Rattle.std.specs.Prelude.{◌≡◌, ℕ, Bool, List, [], bytes_eq, codes}
use Rattle.std.specs.List.{list_any}
use Rattle.cf_base.specs.World.{World, Ran, Went, Stops}
use Rattle.cc_whole.specs.Plain.{Item, name_of, functions_of}
use Rattle.cc_whole_mean.specs.Flow.{Called}
use Rattle.cc_whole_mean.specs.Callee.{function_named}
use Rattle.cc_whole_mean.specs.Start.{program_of, first_state, start, state_after}

-- whether `atexit` is declared
abbrev pub declares_atexit : List Item → Bool
declares_atexit items = list_any (λ i. bytes_eq (name_of i) (codes "atexit")) items

-- where the run goes on, nothing is registered
abbrev pub NothingRegistered : Ran Called → Type 0
NothingRegistered (Went r w) = (state_after r).registered ≡ []
NothingRegistered (Stops end trace) = Unit {0}

-- `main` comes back so, or calls `exit`
abbrev pub RegistersNothing : List Item → Type 0
RegistersNothing items = (n depth : ℕ) (w : World)
    → NothingRegistered (start (program_of items) n (function_named (functions_of items) (codes "main")) depth (first_state items) w)
