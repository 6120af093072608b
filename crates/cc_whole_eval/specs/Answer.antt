-- What an evaluation that gives nothing says of the meaning.
use Rattle.std.specs.Prelude.{◌≡◌, ℕ, Option, Some, None, Result, Err}
use Rattle.cc_whole_memory.specs.Store.{act_number, answer}
use Rattle.cc_whole_memory.specs.declared.act.Act.{Act}
use Rattle.cc_whole_memory.specs.declared.value.Pointer.{Pointer}
use Rattle.cc_whole_eval.specs.declared.types.Stop.{Stop}
use Rattle.cc_whole_eval.specs.declared.types.Stop.TheVariants as stop

-- an act stops where the meaning says so; want of memory may come anywhere
abbrev pub StopsAt : {A : Type 0} → Stop → Result A ℕ → Type 0
StopsAt (stop.Act a) r = r ≡ Err (act_number a)
StopsAt stop.Memory r = Unit {0}

-- where a right side loads from, if it does
abbrev pub source_answer : Option (Result Pointer Act) → Option (Result Pointer ℕ)
source_answer None = None
source_answer (Some r) = Some (answer r)
