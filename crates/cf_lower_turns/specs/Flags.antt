-- The flags of loops with a step and of switches: C locals of their own, in which no object stands. And the C locals that results of calls go through.
use Rattle.std.specs.Prelude.{◌≡◌, ℕ, ◌<◌, false, Option, Some, Ok, pos, length}
use Rattle.cf_base.specs.declared.kind.Kind.TheVariants.{Int}
use Rattle.cf_lower_layout.specs.Sorts.{Sort}
use Rattle.cf_plain.specs.Plain.{Register}
use Rattle.cc_whole.specs.declared.types.CType.{CType}
use Rattle.cc_whole.specs.Plain.{named, load, constant}
use Rattle.cc_whole_memory.specs.declared.value.Value.TheVariants as value
use Rattle.cc_whole_memory.specs.declared.value.Scalar.TheVariants as scalar
use Rattle.cc_whole_memory.specs.Blocks.{Memory}
use Rattle.cc_whole_mean.specs.declared.named.Named.TheVariants as meant
use Rattle.cc_whole_mean.specs.declared.named.Shape.TheVariants.{Single as single}
use Rattle.cc_whole_mean.specs.Scope.{Scope}
use Rattle.cc_whole_mean.specs.Values.{value_of, assigned}
use Rattle.cf_lower_control.specs.LowerWritten.{flag_name, int_constant}
use Rattle.cf_lower_relate.specs.Map.{Map, is_ended}
use Rattle.cf_lower_control.specs.StepsOwn.{Own, Lives}

-- so many, each in its block; and the block of the C local of each type that a result has
pub record Flags : Type 0 where
  pub bound : ℕ
  pub block : ℕ → ℕ
  pub result : CType → Option ℕ

-- They live, apart from one another, from the C locals of registers, parameters and locals, and from all objects.
pub record InFlags (own : Own) (flags : Flags) (F : Map) (scope : Scope) (m : Memory) : Type 0 where
  pub named : (d : ℕ) → d < flags.bound → scope (flag_name d) ≡ Some (meant.Variable (flags.block d) (single (scalar.Integer Int)))
  pub lives : (d : ℕ) → d < flags.bound → Lives m (flags.block d)
  pub apart : (d e : ℕ) → d < flags.bound → e < flags.bound → flags.block d ≡ flags.block e → d ≡ e
  pub registers : (d : ℕ) (t : Sort) (r : Register) → d < flags.bound → r < own.bound → own.block t r ≡ flags.block d → ⊥
  pub locals : (d i : ℕ) → d < flags.bound → i < length own.locals.types → own.local i ≡ flags.block d → ⊥
  pub free : (d o : ℕ) → d < flags.bound → o < F.count → is_ended (F.stage o) ≡ false → F.block o ≡ flags.block d → ⊥

-- a flag holds this number
abbrev pub Shows : Scope → ℕ → ℕ → Memory → Type 0
Shows scope d n m = value_of (load (named (flag_name d))) scope m ≡ Ok (value.Number Int (pos n))

-- a flag is set, and nothing else is changed
pub record FlagSet (scope : Scope) (d n : ℕ) (Q : Memory → Type 0) (m : Memory) : Type 0 where
  pub after : Memory
  pub is : assigned (named (flag_name d)) (constant (int_constant n)) scope m ≡ Ok after
  pub shows : Shows scope d n after
  pub related : Q after
