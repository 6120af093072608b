-- The C frame of a function as its body begins: the blocks of parameters were born with their arguments, and behind them those of all its other C locals.
use Rattle.std.specs.Prelude.{◌≡◌, ℕ, ◌+◌, ◌<◌, ◌≤◌, true, false, List, length, Option, Some, slice_get}
use Rattle.cf_core.specs.Types.{SourceType}
use Rattle.cf_core.specs.Run.{State}
use Rattle.cf_lower_layout.specs.Sorts.{Sort}
use Rattle.cf_plain.specs.Plain.{Register}
use Rattle.cf_plain_frames.specs.Since.{is_among}
use Rattle.cc_whole_memory.specs.declared.value.Scalar.TheVariants as scalar
use Rattle.cf_base.specs.declared.kind.Kind.TheVariants.{Int}
use Rattle.cc_whole.specs.declared.types.CType.{CType}
use Rattle.cc_whole_memory.specs.declared.value.Value.{Value}
use Rattle.cc_whole_memory.specs.Values.{bytes_of}
use Rattle.cc_whole_memory.specs.Blocks.{Memory}
use Rattle.cc_whole_mean.specs.declared.named.Named.TheVariants as named
use Rattle.cc_whole_mean.specs.declared.named.Shape.TheVariants.{Single as single}
use Rattle.cc_whole_mean.specs.Flow.{born_arguments}
use Rattle.cc_whole_mean.specs.Scope.{Scope}
use Rattle.cc_whole_mean.specs.Types.{scalar_of}
use Rattle.cf_lower.specs.Kept.{is_argument, type_of_local}
use Rattle.cf_lower.specs.Written.{register_name, register_type, flag_name, result_name}
use Rattle.cf_lower_relate.specs.Map.{Fixed, Map}
use Rattle.cf_lower_steps.specs.Own.{Own, class_of, Lives, LocalBlock}
use Rattle.cf_lower_turns.specs.Flags.{Flags}
use Rattle.cf_lower_turns.specs.Here.{Body, HasRoom}
use Rattle.cf_lower_turns.specs.Texts.{Texts}

-- what stands where, since the function was entered with this map and memory
abbrev pub body_of : Own → Flags → Scope → Texts → Map → Memory → Body
body_of own flags scope texts E first = record { own = own; flags = flags; scope = scope; texts = texts; start = E; first = first }

-- the C locals of registers, behind the parameters
pub record RegisterBlocks (own : Own) (scope : Scope) (b : ℕ) (m : Memory) : Type 0 where
  pub named : (t : Sort) (r : Register) → r < own.bound → scope (register_name t r) ≡ Some (named.Variable (own.block t r) (single (scalar_of (register_type t))))
  pub lives : (t : Sort) (r : Register) → r < own.bound → Lives m (own.block t r)
  pub apart : (t u : Sort) (r q : Register) → r < own.bound → q < own.bound → own.block t r ≡ own.block u q → (r ≡ q) × (class_of t ≡ class_of u)
  pub behind : (t : Sort) (r : Register) → r < own.bound → b ≤ own.block t r
  pub below : (t : Sort) (r : Register) → r < own.bound → own.block t r < m.next

-- those of flags
pub record FlagBlocks (own : Own) (flags : Flags) (scope : Scope) (b : ℕ) (m : Memory) : Type 0 where
  pub named : (d : ℕ) → d < flags.bound → scope (flag_name d) ≡ Some (named.Variable (flags.block d) (single (scalar.Integer Int)))
  pub lives : (d : ℕ) → d < flags.bound → Lives m (flags.block d)
  pub apart : (d e : ℕ) → d < flags.bound → e < flags.bound → flags.block d ≡ flags.block e → d ≡ e
  pub registers : (d : ℕ) (t : Sort) (r : Register) → d < flags.bound → r < own.bound → own.block t r ≡ flags.block d → ⊥
  pub locals : (d i : ℕ) → d < flags.bound → i < length own.locals.types → own.local i ≡ flags.block d → ⊥
  pub behind : (d : ℕ) → d < flags.bound → b ≤ flags.block d
  pub below : (d : ℕ) → d < flags.bound → flags.block d < m.next

-- those of parameters, so many from the first on, and of locals behind them; no parameter is an argument of a call
pub record LocalBlocks (K : Fixed) (own : Own) (scope : Scope) (first count : ℕ) (m : Memory) : Type 0 where
  pub few : count ≤ length own.locals.types
  pub blocks : (i : ℕ) → i < length own.locals.types → LocalBlock K own scope m i
  pub parameters : (i : ℕ) → i < count → own.local i ≡ first + i
  pub behind : (i : ℕ) → i < length own.locals.types → count ≤ i → first + count ≤ own.local i
  pub none_passed : (i : ℕ) → i < count → is_argument own.locals i ≡ false

-- those that results of calls go through
pub record ResultBlocks (own : Own) (flags : Flags) (scope : Scope) (b : ℕ) (m : Memory) : Type 0 where
  pub named : (t : CType) (c : ℕ) → flags.result t ≡ Some c → scope (result_name t) ≡ Some (named.Variable c (single (scalar_of t)))
  pub room : (t : CType) (c : ℕ) → flags.result t ≡ Some c → HasRoom m c (bytes_of (scalar_of t))
  pub behind : (t : CType) (c : ℕ) → flags.result t ≡ Some c → b ≤ c
  pub registers : (t : CType) (c : ℕ) → flags.result t ≡ Some c → (u : Sort) (r : Register) → r < own.bound → own.block u r ≡ c → ⊥
  pub locals : (t : CType) (c : ℕ) → flags.result t ≡ Some c → (i : ℕ) → i < length own.locals.types → own.local i ≡ c → ⊥
  pub flags_apart : (t : CType) (c : ℕ) → flags.result t ≡ Some c → (d : ℕ) → d < flags.bound → flags.block d ≡ c → ⊥

-- all of them, in a memory in which the parameters' blocks and those of before are as they were born
pub record Frame (K : Fixed) (own : Own) (flags : Flags) (scope : Scope) (first : Memory) (cs : List Value) (m : Memory) : Type 0 where
  pub registers : RegisterBlocks own scope (first.next + length cs) m
  pub flags_there : FlagBlocks own flags scope (first.next + length cs) m
  pub locals : LocalBlocks K own scope first.next (length cs) m
  pub results : ResultBlocks own flags scope (first.next + length cs) m
  pub next : first.next + length cs ≤ m.next
  pub kept : (b : ℕ) → b < first.next + length cs → m.block b ≡ (born_arguments cs first).block b

-- the parameters have these types
abbrev pub TypesFit : Own → List SourceType → Type 0
TypesFit own ts = (i : ℕ) (t : SourceType) → slice_get ts i ≡ Some t → type_of_local own.locals i ≡ t

-- the objects of a function's parameters and locals are gone
abbrev pub AllOver : Own → State → Type 0
AllOver own s = (i o : ℕ) → i < length own.locals.types → s.frame.locals i ≡ Some o → (s.object o).is_gone ≡ true

-- no other object of before has ended, or none that had not
abbrev pub OthersStay : List ℕ → State → State → Type 0
OthersStay os before s = (o : ℕ) → o < before.next → is_among o os ≡ false → (s.object o).is_gone ≡ (before.object o).is_gone
