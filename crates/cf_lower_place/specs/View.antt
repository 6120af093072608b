-- What the tests of a function's statements go by.
use Rattle.std.specs.Prelude.{ℕ, Bool, List, Option}
use Rattle.cf_core.specs.Types.{Name, SourceType}
use Rattle.cf_core.specs.Classes.{Class}
use Rattle.cf_lower_layout.specs.Sorts.{Sort}
use Rattle.cf_plain.specs.Plain.{Register}
use Rattle.cc_whole.specs.declared.types.CType.{CType}
use Rattle.cf_lower.specs.Kept.{Locals}

-- of a function: its parameters and locals, the number that its registers are below, and the sort of what it gives
pub record View : Type 0 where
  pub locals : Locals
  pub bound : Register
  pub result : Option Sort
  pub classes : List Class
  -- whether the literal of a number has these bytes, and whether a name stands for a function of this type
  pub texts : ℕ → List ℕ → Bool
  pub names : Name → SourceType → Bool

-- of what it calls: the types of the library's functions, and whether a result of a type has a C local
pub record Reach : Type 0 where
  pub library : Name → SourceType
  pub results : CType → Bool
  -- whether what a call of this type enters by a name takes these locals, and whether all do that it may enter through a pointer
  pub called : Name → SourceType → List ℕ → Bool
  pub reached : SourceType → List ℕ → Bool
