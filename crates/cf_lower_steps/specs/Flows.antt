-- When the C's run of statements simulates the source's.
use Rattle.std.specs.Prelude.{◌≡◌, ℤ}
use Rattle.cf_base.specs.Event.{Undefined}
use Rattle.cf_base.specs.World.{World, Ran, Went, Stops, shown}
use Rattle.cf_base.specs.Agree.{Begins}
use Rattle.cf_core.specs.Run as source
use Rattle.cf_core.specs.Run.{Did, Gives, Exits, Malformed}
use Rattle.cf_plain.specs.Acts.{Registers}
use Rattle.cf_plain.specs.Running.{Flow, Falls, Breaks, Continues, Returns}
use Rattle.cc_whole_memory.specs.Blocks.{Memory}
use Rattle.cc_whole_mean.specs.Scope.{Scope}
use Rattle.cc_whole_mean.specs.Flow as c
use Rattle.cf_lower_relate.specs.Map.{Fixed, Map, Grows}
use Rattle.cf_lower_relate.specs.Relation.{Rel}
use Rattle.cf_lower.specs.Kept.{Keeping}
use Rattle.cf_lower_steps.specs.Steps.{InRegisters}
use Rattle.cf_lower_steps.specs.Own.{Own, OwnBlocks, InLocals}

-- The objects stand in the memory, those of parameters and locals in theirs, and the C locals of registers have what is kept.
pub record Between (K : Fixed) (own : Own) (scope : Scope) (F : Map) (kept : Keeping) (g : Registers) (s : source.State) (m : Memory) : Type 0 where
  pub rel : Rel K F s m
  pub registers : InRegisters K F kept g scope m
  pub blocks : OwnBlocks own F scope m
  pub locals : InLocals K own F scope s m

-- So it is again, for a later map.
pub record Stays (K : Fixed) (own : Own) (scope : Scope) (F : Map) (kept : Keeping) (g : Registers) (s : source.State) (t : c.State) : Type 0 where
  pub map : Map
  pub grows : Grows F map
  pub between : Between K own scope map kept g s t.memory

-- both have gone on with what R relates, in one world
pub record GoesOnAs {A B : Type 0} (R : A → source.State → B → Type 0) (a : A) (s : source.State) (w : World) (y : Ran B) : Type 0 where
  pub value : B
  pub run : y ≡ Went value w
  pub related : R a s value

-- `exit` was called with this status
pub record ExitsAs (status : ℤ) (w : World) (y : Ran c.Flow) : Type 0 where
  pub after : c.State
  pub run : y ≡ Went (c.Exits status after) w

-- Behind an undefined act of the source the C may do anything; of statements that sequencing doesn't make nothing is said.
abbrev pub SimulatesFrom : {A : Type 0} → (A → source.State → c.Flow → Type 0) → Ran (Did A) → Ran c.Flow → Type 0
SimulatesFrom R (Went (Gives a s) w) y = GoesOnAs R a s w y
SimulatesFrom R (Went (Exits status s) w) y = ExitsAs status w y
SimulatesFrom R (Went Malformed w) y = Unit {0}
SimulatesFrom R (Stops (Undefined act) trace) y = Begins trace (shown y)
SimulatesFrom R (Stops end trace) y = y ≡ Stops end trace

pub record Simulates {A : Type 0} (R : A → source.State → c.Flow → Type 0) (x : Ran (Did A)) (y : Ran c.Flow) : Type 0 where
  pub by : SimulatesFrom R x y

-- the C does not fall to the next statement
abbrev pub Leaves : c.Flow → Type 0
Leaves (c.Falls t) = ⊥
Leaves flow = Unit {0}

-- how statements end that fall through or not, given how the C ends on each other way
abbrev pub Ways : Type 1
Ways = Flow → source.State → c.Flow → Type 0

-- statements that fall do so in both, and registers keep this
pub record FallsAs (K : Fixed) (own : Own) (scope : Scope) (F : Map) (kept : Keeping) (g : Registers) (s : source.State) (flow : c.Flow) : Type 0 where
  pub after : c.State
  pub is : flow ≡ c.Falls after
  pub stays : Stays K own scope F kept g s after

-- the ways out of statements: these for falling through, and others for the rest
abbrev pub Ends : Fixed → Own → Scope → Map → Keeping → Ways → Flow → source.State → c.Flow → Type 0
Ends K own scope F kept ways (Falls g) s flow = FallsAs K own scope F kept g s flow
Ends K own scope F kept ways (Breaks g) s flow = ways (Breaks g) s flow
Ends K own scope F kept ways (Continues g) s flow = ways (Continues g) s flow
Ends K own scope F kept ways (Returns v) s flow = ways (Returns v) s flow
