-- A function of both programs, as it runs at a bound of ticks.
use Rattle.std.specs.Prelude.{◌≡◌, ℕ, Bool, List, Option, Some, None}
use Rattle.cf_base.specs.World.{World, Ran}
use Rattle.cf_core.specs.Types.{Name, SourceType}
use Rattle.cf_core.specs.Store as source
use Rattle.cf_core.specs.Run.{State, Act}
use Rattle.cf_core.specs.Calls.{Program}
use Rattle.cf_lower_layout.specs.Sorts.{Sort}
use Rattle.cf_plain.specs.Plain.{Plain, PlainFunction}
use Rattle.cf_plain.specs.Acts.{Registers}
use Rattle.cf_plain.specs.Running as plain
use Rattle.cf_plain.specs.Running.{Flow, does}
use Rattle.cc_whole.specs.Plain.{Statement}
use Rattle.cc_whole_memory.specs.declared.value.Value.{Value}
use Rattle.cc_whole_memory.specs.Values.{zero_of}
use Rattle.cc_whole_mean.specs.Flow as c
use Rattle.cc_whole_mean.specs.Mean as mean
use Rattle.cf_lower_relate.specs.Map.{Fixed, Map, Grows, Is}
use Rattle.cf_lower_relate.specs.Scalars.{c_scalar}
use Rattle.cf_lower_relate.specs.Relation.{Rel}
use Rattle.cf_lower_control.specs.LowerKept.{Keeping, after}
use Rattle.cf_lower_control.specs.LowerStatements.{Inside, lowered}
use Rattle.cf_lower_control.specs.StepsOwn.{InLocals}
use Rattle.cf_lower_control.specs.StepsFlows.{Simulates}
use Rattle.cf_lower_control.specs.StepsLowering.{fixed_of, runs}
use Rattle.cf_lower_turns.specs.Around.{Around, depth_of, inside_at}
use Rattle.cf_lower_turns.specs.Here.{Body, Outer, Homes, Here}
use Rattle.cf_lower_turns.specs.Texts.{InTexts}
use Rattle.cf_lower_turns.specs.Ways.{ends}

-- ---- what a function gives

-- A value of this sort in both. What a function ended without nothing can use: in C it is 0 or null.
abbrev pub SameBack : Fixed → Map → Sort → source.Value → Value → Type 0
SameBack K F u source.Nothing back = back ≡ zero_of (c_scalar u)
SameBack K F u source.Missing back = back ≡ zero_of (c_scalar u)
SameBack K F u v back = Is K F u v back

pub record HasBack (K : Fixed) (F : Map) (u : Sort) (v : source.Value) (value : Option Value) : Type 0 where
  pub back : Value
  pub is : value ≡ Some back
  pub same : SameBack K F u v back

-- nothing, or a value of this sort
abbrev pub GivenBack : Fixed → Map → Option Sort → source.Value → Option Value → Type 0
GivenBack K F None v value = value ≡ None
GivenBack K F (Some u) v value = HasBack K F u v value

-- both return, and the objects stand in the memory
pub record GivesBack (K : Fixed) (at : Body) (result : Option Sort) (v : source.Value) (s : State) (flow : c.Flow) : Type 0 where
  pub value : Option Value
  pub after : c.State
  pub is : flow ≡ c.Returns value after
  pub map : Map
  pub grows : Grows at.start map
  pub rel : Rel K map s after.memory
  pub outer : Outer at.texts at.start map at.first after.memory
  pub homes : Homes at map
  pub locals : InLocals K at.own map at.scope s after.memory
  pub texts : InTexts K at.texts map s after.memory
  pub given : GivenBack K map result v value

-- ---- a function

pub record Scene : Type 0 where
  pub program : Program
  pub functions : List PlainFunction
  pub function : Name → ℕ
  pub signature : Name → SourceType
  pub c_program : mean.Program
  pub body : Body
  pub inside : Inside
  pub result : Option Sort
  pub helper : Bool
  pub depth : ℕ

module _ (z : Scene) where
  abbrev pub fixed_in : Fixed
  fixed_in = fixed_of z.program z.function z.signature

  -- what spends a tick, where so many are the bound
  abbrev pub again_at : ℕ → plain.Again
  again_at n = plain.runs z.program z.functions n

  abbrev pub c_again_at : ℕ → mean.Again
  c_again_at n = mean.runs z.c_program n

  abbrev pub helps_at : ℕ → mean.Again
  helps_at n = mean.helps_in (mean.runs z.c_program n) z.c_program z.helper

  abbrev pub list_at : ℕ → List Statement → c.State → World → Ran c.Flow
  list_at n ss t w = runs (c_again_at n) (helps_at n) z.c_program z.helper z.body.scope z.depth ss t w

  -- from what registers hold at one point on, and what they hold at another, both do the same
  abbrev pub Same : Keeping → Around Keeping → Keeping → (Registers → Act Flow) → (c.State → World → Ran c.Flow) → Type 0
  Same p around q f go =
      (g : Registers) (s : State) (t : c.State) (w : World) → Here fixed_in z.body p (depth_of around) g s t
      → Simulates (ends Keeping z.body.scope (Here fixed_in z.body) (GivesBack fixed_in z.body z.result) around q) (f g s w) (go t w)

  -- a statement that is no control and its C do the same, at every bound of ticks
  abbrev pub LeafRuns : Around Keeping → Keeping → Plain → Type 0
  LeafRuns around p s =
      (n : ℕ) → Same p around (after z.inside.locals s p) (does (again_at n) z.program s) (λ t w. list_at n (lowered s (inside_at z.inside around) p) t w)
