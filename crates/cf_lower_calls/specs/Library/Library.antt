-- Calls of the library's functions as statements of a function: what they need where they stand.
use Rattle.std.specs.Prelude.{◌≡◌, ℕ, ◌<◌, true, List, [], ◌∷◌, pos, Some, None}
use Rattle.cf_base.specs.declared.kind.Kind.TheVariants.{Int}
use Rattle.cf_base.specs.Integers.{fits}
use Rattle.cf_base.specs.World.{World}
use Rattle.cf_core.specs.Types.{SourceType, result as result_type}
use Rattle.cf_lower_layout.specs.Sorts.{number, sort_of}
use Rattle.cf_plain.specs.Plain.{Register}
use Rattle.cc_whole.specs.declared.types.CType.TheVariants as ty
use Rattle.cf_lower_kept.specs.Opened.{Opened, has_its_value}
use Rattle.cf_lower_turns.specs.Scene.{Scene}
use Rattle.cf_lower_calls.specs.Arguments.Passing.{are_passed, Shaped}
use Rattle.cf_lower_calls.specs.Invoked.Invoking.{HasLocal}

-- an int is kept in a register
pub record KeepsInt (z : Scene) (t : SourceType) (r : Register) : Type 0 where
  pub bound : r < z.body.own.bound
  pub sort : sort_of (result_type t) ≡ Some (number Int)
  pub local : HasLocal z ty.Int

-- an argument is the object of a local, which has its value where these are open
pub record Passes (z : Scene) (i : ℕ) (xs : List Opened) : Type 0 where
  pub passed : are_passed z.body.own.locals (i ∷ []) ≡ true
  pub shaped : Shaped z.body.own z.body.scope
  pub valued : has_its_value xs i ≡ true

-- the byte that comes next is one of int, as each byte is
abbrev pub NextFits : World → Type 0
NextFits w = (b : ℕ) (rest : List ℕ) → w.input ≡ b ∷ rest → fits Int (pos b) ≡ true
