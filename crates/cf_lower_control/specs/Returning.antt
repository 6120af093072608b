-- How a function returns a value.
use Rattle.std.specs.Prelude.{◌≡◌, Option, Some}
use Rattle.cf_core.specs.Store as source
use Rattle.cf_core.specs.Run.{State}
use Rattle.cf_plain.specs.Acts.{no_registers}
use Rattle.cf_plain.specs.Running.{Flow, Falls, Breaks, Continues, Returns}
use Rattle.cc_whole_memory.specs.declared.value.Value.{Value}
use Rattle.cc_whole_mean.specs.Scope.{Scope}
use Rattle.cc_whole_mean.specs.Flow as c
use Rattle.cf_lower_layout.specs.Sorts.{Sort}
use Rattle.cf_lower_relate.specs.Map.{Fixed, Map, Grows, Is}
use Rattle.cf_lower_relate.specs.Relation.{Rel}
use Rattle.cf_lower_steps.specs.Flows.{Ways}

-- a value of this sort is returned in both, and the objects stand in the memory
pub record ReturnsAs (K : Fixed) (F : Map) (u : Sort) (v : source.Value) (s : State) (flow : c.Flow) : Type 0 where
  pub after : c.State
  pub value : Value
  pub is : flow ≡ c.Returns (Some value) after
  pub map : Map
  pub grows : Grows F map
  pub rel : Rel K map s after.memory
  pub same : Is K map u v value

-- the ways out of a function that gives a value of this sort
abbrev pub Gives : Fixed → Map → Sort → Ways
Gives K F u (Falls g) s flow = ⊥
Gives K F u (Breaks g) s flow = ⊥
Gives K F u (Continues g) s flow = ⊥
Gives K F u (Returns v) s flow = ReturnsAs K F u v s flow
