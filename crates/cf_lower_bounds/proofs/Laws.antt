-- What the proofs on loops and switches ask of the relation of both programs between two statements.
use Rattle.std.specs.Prelude.{◌≡◌, ℕ, suc, ◌<◌, ◌≤◌, Bool, true, ℤ, pos, Some, Result, Ok}
use Rattle.cf_base.specs.declared.kind.Kind.{Kind}
use Rattle.cf_base.specs.declared.kind.Kind.TheVariants.{Int}
use Rattle.cf_base.specs.Integers.{fits, convert}
use Rattle.cf_core.specs.Store as source
use Rattle.cf_core.specs.Run.{State}
use Rattle.cf_plain.specs.Plain.{Register}
use Rattle.cf_plain.specs.Acts.{Registers}
use Rattle.cc_whole_memory.specs.declared.value.Value.{Value}
use Rattle.cc_whole_memory.specs.declared.value.Value.TheVariants as value
use Rattle.cc_whole_mean.specs.Scope.{Scope}
use Rattle.cc_whole_mean.specs.Values.{value_of}
use Rattle.cc_whole_mean.specs.Flow as c
use Rattle.cc_whole_mean.specs.Flow.{in_memory}
use Rattle.cf_lower_relate.specs.Map.{is_word}
use Rattle.cf_lower.specs.Kept.{integer_of, Keeping}
use Rattle.cf_lower.specs.Expressions.{integer_in}
use Rattle.cf_lower_turns.specs.Flags.{Shows, FlagSet}
use Rattle.cf_lower_turns.specs.Ways.{Relation}

-- an int of the bits of a number that these kinds have
pub record HasNumber (kinds : Kind → Bool) (z : ℤ) (found : Result Value ℕ) : Type 0 where
  pub is : found ≡ Ok (value.Number Int (convert Int z))
  pub word : is_word z ≡ true
  pub fits : (k : Kind) → kinds k ≡ true → fits k z ≡ true

pub record Laws (Point : Type 0) (kept : Point → Keeping) (flags : ℕ) (scope : Scope) (R : Relation Point) : Type 0 where
  -- flags that are 0: no more than there are; one may be forgotten, and one more may be counted
  pub bounded : (p : Point) (d : ℕ) (g : Registers) (s : State) (t : c.State) → R p d g s t → d ≤ flags
  pub fewer : (p : Point) (d : ℕ) (g : Registers) (s : State) (t : c.State) → R p (suc d) g s t → R p d g s t
  pub unset : (p : Point) (d : ℕ) (g : Registers) (s : State) (t : c.State) → R p (suc d) g s t → Shows scope d 0 t.memory
  pub more : (p : Point) (d : ℕ) (g : Registers) (s : State) (t : c.State) → d < flags → Shows scope d 0 t.memory → R p d g s t → R p (suc d) g s t
  -- the flag behind them may be set
  pub set : (p : Point) (d n : ℕ) (g : Registers) (s : State) (t : c.State) → d < flags → convert Int (pos n) ≡ pos n → R p d g s t → FlagSet scope d n (λ m. R p d g s (in_memory t m)) t.memory
  pub number : (p : Point) (d : ℕ) (g : Registers) (s : State) (t : c.State) → R p d g s t → (r : Register) (kinds : Kind → Bool) (z : ℤ)
      → kept p r ≡ integer_of kinds → g r ≡ Some (source.Number z) → HasNumber kinds z (value_of (integer_in r) scope t.memory)
