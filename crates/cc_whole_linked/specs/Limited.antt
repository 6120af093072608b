-- Linking within the limit on the bytes of variables, which comes behind all refusals.
use Rattle.std.specs.Prelude.{◌≡◌, Bool, nat_lt, if◌then◌else◌, List, Result, Ok, Err}
use Rattle.cc_whole.specs.declared.unit.CUnit.{CUnit}
use Rattle.cc_whole.specs.declared.unit.CProgram.{CProgram}
use Rattle.cc_whole.specs.Plain.{items_of, variables_of}
use Rattle.cc_whole_link.specs.Link.{Refusal, Links}
use Rattle.cc_whole_link.specs.Static.{static_bytes, most_static}

-- the variables of a program take more bytes than the limit
abbrev pub passes_static : CProgram → Bool
passes_static program = nat_lt most_static (static_bytes (variables_of (items_of program.items)))

-- a program, a refusal, or the limit Static
pub data LinkAnswer : Type 0 where
  linked : CProgram → LinkAnswer
  refused : Refusal → LinkAnswer
  past_the_limit : LinkAnswer

abbrev pub limited : Result CProgram Refusal → LinkAnswer
limited (Err r) = refused r
limited (Ok program) = if passes_static program then past_the_limit else linked program

-- what units are answered
pub record LinksWithin (units : List CUnit) (answer : LinkAnswer) : Type 0 where
  pub made : Result CProgram Refusal
  pub links : Links units made
  pub answers : answer ≡ limited made
