-- What registers hold in both, and what an action gives beside what its C expression gives.
use Rattle.std.specs.Prelude.{◌≡◌, ℕ, Bool, true, ℤ, Some, Result, Ok}
use Rattle.cf_base.specs.declared.kind.Kind.{Kind}
use Rattle.cf_base.specs.declared.kind.Kind.TheVariants.{Int}
use Rattle.cf_base.specs.Integers.{fits, convert}
use Rattle.cf_base.specs.Event.{Ended, Ticks, Depth, Undefined}
use Rattle.cf_base.specs.World.{World, Ran, Went, Stops}
use Rattle.cf_core.specs.Store as source
use Rattle.cf_core.specs.Run.{State, Did, Gives, Exits, Malformed}
use Rattle.cf_lower_layout.specs.Sorts.{address, code}
use Rattle.cf_plain.specs.Plain.{Register}
use Rattle.cf_plain.specs.Acts.{Registers}
use Rattle.cc_whole_memory.specs.declared.value.Value.{Value}
use Rattle.cc_whole_memory.specs.declared.value.Value.TheVariants as value
use Rattle.cc_whole_memory.specs.Blocks.{Memory}
use Rattle.cc_whole_mean.specs.Scope.{Scope}
use Rattle.cc_whole_mean.specs.Values.{value_of}
use Rattle.cf_lower_relate.specs.Map.{Fixed, Map, Is, is_word}
use Rattle.cf_lower.specs.Kept.{Kept, unknown, integer_of, holds, argument, Keeping}
use Rattle.cf_lower.specs.Expressions.{value_in}

-- a number that these kinds have, as an int of the same bits
pub record IsInteger (kinds : Kind → Bool) (z : ℤ) (c : Value) : Type 0 where
  pub is : c ≡ value.Number Int (convert Int z)
  pub word : is_word z ≡ true
  pub fits : (k : Kind) → kinds k ≡ true → fits k z ≡ true

module _ (K : Fixed) (F : Map) where
  -- a value of the source in the C local of a register
  abbrev pub InLocal : Kept → source.Value → Value → Type 0
  InLocal (integer_of kinds) (source.Number z) c = IsInteger kinds z c
  InLocal (holds (address t)) v c = Is K F (address t) v c
  InLocal (holds (code t)) v c = Is K F (code t) v c
  InLocal x v c = ⊥

  pub record HasValue (x : Kept) (v : source.Value) (found : Result Value ℕ) : Type 0 where
    pub value : Value
    pub is : found ≡ Ok value
    pub same : InLocal x v value

  -- A value that can't be used, or of which nothing is kept, needs none.
  abbrev pub KeptAs : Kept → source.Value → Result Value ℕ → Type 0
  KeptAs unknown v found = Unit {0}
  KeptAs (argument i t) v found = Unit {0}
  KeptAs x source.Nothing found = Unit {0}
  KeptAs x source.Missing found = Unit {0}
  KeptAs x v found = HasValue x v found

  -- what an action has given, where something is kept of it
  abbrev pub GivenAs : Kept → source.Value → Result Value ℕ → Type 0
  GivenAs unknown v found = Unit {0}
  GivenAs (argument i t) v found = Unit {0}
  GivenAs x v found = HasValue x v found

  -- The C locals of registers have their values.
  abbrev pub InRegisters : Keeping → Registers → Scope → Memory → Type 0
  InRegisters kept g scope m = (r : Register) (v : source.Value) → g r ≡ Some v → KeptAs (kept r) v (value_of (value_in kept r) scope m)

  -- The action has given a value in the same state and world, which the expression has too; or the run ends there in an undefined act; or the
  -- statement is none that sequencing makes.
  abbrev pub StepFrom : Ran (Did source.Value) → State → World → Kept → Result Value ℕ → Type 0
  StepFrom (Went (Gives v t) u) s w x found = (t ≡ s) × (u ≡ w) × GivenAs x v found
  StepFrom (Went (Exits z t) u) s w x found = ⊥
  StepFrom (Went Malformed u) s w x found = Unit {0}
  StepFrom (Stops (Undefined act) trace) s w x found = trace ≡ w.trace
  StepFrom (Stops (Ended status) trace) s w x found = ⊥
  StepFrom (Stops Ticks trace) s w x found = ⊥
  StepFrom (Stops Depth trace) s w x found = ⊥

  pub record Step (ran : Ran (Did source.Value)) (s : State) (w : World) (x : Kept) (found : Result Value ℕ) : Type 0 where
    pub by : StepFrom ran s w x found
