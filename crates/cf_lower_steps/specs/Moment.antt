-- A moment between two statements of a function, in both, and when the next statement is lowered rightly.
use Rattle.std.specs.Prelude.{◌≡◌, ℕ, Bool}
use Rattle.cf_base.specs.World.{World}
use Rattle.cf_core.specs.Types.{Name, SourceType}
use Rattle.cf_core.specs.Run as source
use Rattle.cf_core.specs.Calls.{Program}
use Rattle.cf_plain.specs.Plain.{Plain}
use Rattle.cf_plain.specs.Acts.{Registers}
use Rattle.cf_plain.specs.Running.{Again, does}
use Rattle.cc_whole_mean.specs.Scope.{Scope}
use Rattle.cc_whole_mean.specs.Flow as c
use Rattle.cc_whole_mean.specs.Mean as mean
use Rattle.cf_lower_relate.specs.Map.{Fixed, Map}
use Rattle.cf_lower.specs.Kept.{Keeping}
use Rattle.cf_lower.specs.Statements.{Inside, lowered}
use Rattle.cf_lower_steps.specs.Own.{Own}
use Rattle.cf_lower_steps.specs.Flows.{Between, Simulates, Ways, Ends}
use Rattle.cf_lower_steps.specs.Lowering.{fixed_of, runs, Below}

-- where a function of both programs stands, and how what spends a tick runs
pub record Moment : Type 0 where
  pub program : Program
  pub function : Name → ℕ
  pub signature : Name → SourceType
  pub own : Own
  pub scope : Scope
  pub map : Map
  pub kept : Keeping
  pub registers : Registers
  pub state : source.State
  pub memory : c.State
  pub world : World
  pub again : Again
  pub c_again : mean.Again
  pub helps : mean.Again
  pub c_program : mean.Program
  pub helper : Bool
  pub depth : ℕ
  pub inside : Inside

abbrev pub fixed : Moment → Fixed
fixed at = fixed_of at.program at.function at.signature

-- The objects stand in the memory, the registers in their C locals, and the C is that of the program's classes and the function's locals.
pub record Stands (at : Moment) : Type 0 where
  pub between : Between (fixed at) at.own at.scope at.map at.kept at.registers at.state at.memory.memory
  pub below : Below at.own at.kept
  pub classes : at.inside.classes ≡ at.program.classes
  pub locals : at.inside.locals ≡ at.own.locals

-- the statement and its C do the same, and the registers hold this behind it
abbrev pub Lowers : Moment → Plain → Keeping → Ways → Type 0
Lowers at s kept ways =
    Simulates (Ends (fixed at) at.own at.scope at.map kept ways) (does at.again at.program s at.registers at.state at.world)
    (runs at.c_again at.helps at.c_program at.helper at.scope at.depth (lowered s at.inside at.kept) at.memory at.world)
