-- What is true or not, as both give it.
use Rattle.std.proofs.Common.{◌≡◌, ℕ, Bool, true, false, not, refl}
use Rattle.std.specs.Prelude.{pos, Result, Ok}
use Rattle.cf_base.specs.declared.kind.Kind.TheVariants.{Int}
use Rattle.cf_base.specs.declared.arith.Arith.{Arith}
use Rattle.cf_base.specs.declared.arith.Arith.TheVariants as op
use Rattle.cf_base.specs.Integers.{truth}
use Rattle.cf_core.specs.Pointers.{truth_value}
use Rattle.cc_whole_memory.specs.declared.value.Value.{Value}
use Rattle.cc_whole_memory.specs.declared.value.Value.TheVariants as value
use Rattle.cc_whole_mean.specs.Values as c
use Rattle.cc_whole_memory.specs.Blocks.{Memory}
use Rattle.cc_whole_mean.specs.Values.{number, by_equality, applied}
use Rattle.cf_lower_relate.specs.Map.{Fixed, Map}
use Rattle.cf_lower.specs.Kept.{a_truth}
use Rattle.cf_lower_steps.specs.Steps.{GivenAs}
use Rattle.cf_lower_steps.proofs.Narrower.{zero-any, one-any}

pub truth-number : (b : Bool) → number Int (truth b) ≡ Ok (c.truth_value b)
truth-number true = refl
truth-number false = refl

-- 1 or 0 in both
pub truth-kept : (K : Fixed) (F : Map) (b : Bool) (found : Result Value ℕ) → found ≡ Ok (c.truth_value b) → GivenAs K F a_truth (truth_value b) found
truth-kept K F true found e = record { value = value.Number Int (pos 1); is = e; same = record { is = refl; word = refl; fits = λ k t. one-any k } }
truth-kept K F false found e = record { value = value.Number Int (pos 0); is = e; same = record { is = refl; word = refl; fits = λ k t. zero-any k } }

-- `==` and `!=`, by whether their operands are the same
pub record Equality (o : Arith) (turn : Bool → Bool) : Type 0 where
  pub is : c.is_equality o ≡ true
  pub by : (b : Bool) → by_equality o b ≡ Ok (c.truth_value (turn b))

pub equal : Equality op.Equal (λ b. b)
equal = record { is = refl; by = λ b. refl }

unequal-by : (b : Bool) → by_equality op.NotEqual b ≡ Ok (c.truth_value (not b))
unequal-by true = refl
unequal-by false = refl

pub unequal : Equality op.NotEqual (λ b. not b)
unequal = record { is = refl; by = unequal-by }

-- `==` and `!=` between two truths, by whether they are the same
pub record Sameness (o : Arith) (turn : Bool → Bool) : Type 0 where
  pub both : (m : Memory) → applied o (c.truth_value true) (c.truth_value true) m ≡ Ok (c.truth_value (turn true))
  pub first : (m : Memory) → applied o (c.truth_value true) (c.truth_value false) m ≡ Ok (c.truth_value (turn false))
  pub second : (m : Memory) → applied o (c.truth_value false) (c.truth_value true) m ≡ Ok (c.truth_value (turn false))

pub both-equal : Sameness op.Equal (λ b. b)
both-equal = record { both = λ m. refl; first = λ m. refl; second = λ m. refl }

pub both-unequal : Sameness op.NotEqual (λ b. not b)
both-unequal = record { both = λ m. refl; first = λ m. refl; second = λ m. refl }
