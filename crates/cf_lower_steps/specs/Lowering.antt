-- What the laws of lowered statements speak of.
use Rattle.std.specs.Prelude.{◌≡◌, ℕ, ◌<◌, Bool, true, ◌||◌, List, Some, is_some}
use Rattle.cf_base.specs.World.{World, Ran}
use Rattle.cf_core.specs.Types.{Name, SourceType}
use Rattle.cf_core.specs.Calls.{Program, is_library, function_named}
use Rattle.cf_lower_layout.specs.Sorts.{Sort, number, address, code}
use Rattle.cf_plain.specs.Plain.{Register}
use Rattle.cc_whole.specs.Plain.{Statement, in_order}
use Rattle.cc_whole_mean.specs.Scope.{Scope}
use Rattle.cc_whole_mean.specs.Flow as c
use Rattle.cc_whole_mean.specs.Mean as mean
use Rattle.cf_lower_relate.specs.Map.{Fixed}
use Rattle.cf_lower.specs.Kept.{Kept, integer_of, holds, Keeping, local_kept}
use Rattle.cf_lower_steps.specs.Own.{Own}
use Rattle.cf_lower_steps.specs.Flows.{Ways}

-- the functions of a program, and the library's
abbrev pub is_function : Program → Name → Bool
is_function P name = is_library name || is_some (function_named P name)

-- a program's classes, and the numbers and types of its functions
abbrev pub fixed_of : Program → (Name → ℕ) → (Name → SourceType) → Fixed
fixed_of P function signature = record { classes = P.classes; is_function = is_function P; function = function; signature = signature }

-- what a list of C statements does
abbrev pub runs : mean.Again → mean.Again → mean.Program → Bool → Scope → ℕ → List Statement → c.State → World → Ran c.Flow
runs again helps p helper scope depth ss t w = mean.does_all again helps p helper (in_order ss) scope depth t w

-- what a scalar of a sort takes of what a register keeps
abbrev pub Takes : Sort → Kept → Type 0
Takes (number k) (integer_of kinds) = kinds k ≡ true
Takes (address t) (holds (address u)) = t ≡ u
Takes (code t) (holds (code u)) = t ≡ u
Takes u x = ⊥

-- registers that have a C local are below the bound
abbrev pub Below : Own → Keeping → Type 0
Below own kept = (q : Register) (u : Sort) → local_kept (kept q) ≡ Some u → q < own.bound

-- statements that fall, and end in no other way
abbrev pub falls_only : Ways
falls_only flow s d = ⊥
