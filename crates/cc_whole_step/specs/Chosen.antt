-- What a call calls, as the meaning has it.
use Rattle.std.specs.Prelude.{ℕ, Result, Ok, Err}
use Rattle.cc_whole_memory.specs.declared.act.Act.{Act}
use Rattle.cc_whole_memory.specs.Store.{act_number}
use Rattle.cc_whole_mean.specs.Mean as mean
use Rattle.cc_whole_step.specs.declared.calls.Chosen.{Chosen}
use Rattle.cc_whole_step.specs.declared.calls.Chosen.TheVariants as found

abbrev pub chosen_of : Chosen → mean.Chosen
chosen_of (found.Name name) = mean.name name.now
chosen_of (found.Pointer signature number) = mean.pointer signature.now number

abbrev pub chosen_answer : Result Chosen Act → Result mean.Chosen ℕ
chosen_answer (Ok c) = Ok (chosen_of c)
chosen_answer (Err a) = Err (act_number a)
