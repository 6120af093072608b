-- What registers hold, in the code's types. Of an integer it is left out which kinds have it.
use Rattle.std.specs.Prelude.{ℕ, Bool, true, false, if◌then◌else◌, List, Option, Some, None, slice_get}
use Rattle.cf_base.specs.declared.kind.Kind.TheVariants.{Char}
use Rattle.cf_core.specs.Types.{SourceType, void, integer, array}
use Rattle.cf_core.specs.FromTypes.{Tables, type_of}
use Rattle.cf_plain.specs.Plain.{Register}
use Rattle.cf_lower_layout.specs.Sorts.{Sort, number, address, code}
use Rattle.cf_lower.specs.Kept.{Kept, unknown, integer_of, holds, argument, Keeping}
use Rattle.cf_lower_types.specs.Bare.{bare}
use Rattle.cf_lower_held.specs.declared.held.Held.{Held}
use Rattle.cf_lower_held.specs.declared.held.Held.TheVariants as held
use Rattle.cf_lower_held.specs.declared.registers.Registers.{Registers}

-- without the kinds that have an integer: nothing that is written depends on them
abbrev pub erased : Kept → Kept
erased unknown = unknown
erased (integer_of f) = integer_of (λ k. true)
erased (holds s) = holds s
erased (argument i t) = argument i t

abbrev pub erasing : Keeping → Keeping
erasing g r = erased (g r)

abbrev pub kept_in : Tables → Held → Kept
kept_in tables held.Nothing = unknown
kept_in tables held.Integer = integer_of (λ k. true)
kept_in tables (held.Place t) = holds (address (bare tables t))
kept_in tables held.Void = holds (address void)
kept_in tables held.Character = holds (address (integer Char))
kept_in tables (held.Characters n) = holds (address (array (integer Char) n))
kept_in tables (held.Code t) = holds (code (bare tables t))
kept_in tables (held.Argument i t) = argument i (type_of tables t)

-- what a register holds that such a scalar is put into
abbrev pub holding_one : Sort → Kept
holding_one (number k) = integer_of (λ k. true)
holding_one (address t) = holds (address t)
holding_one (code t) = holds (code t)

-- ---- what is asked of it

-- the type of the place whose address it is
abbrev pub place_type : Kept → Option SourceType
place_type (holds (address t)) = Some t
place_type x = None

abbrev pub is_function : Kept → Bool
is_function (holds (code t)) = true
is_function x = false

abbrev pub is_integer : Kept → Bool
is_integer (integer_of f) = true
is_integer x = false

abbrev pub argument_of : Kept → Option (ℕ × SourceType)
argument_of (argument i t) = Some (i, t)
argument_of x = None

-- ---- all registers

abbrev pub held_or : Option Held → Held
held_or None = held.Nothing
held_or (Some h) = h

abbrev pub held_at : List Held → ℕ → Held
held_at hs r = held_or (slice_get hs r)

-- what the registers hold
abbrev pub keeping : Tables → Registers → Keeping
keeping tables rs r = kept_in tables (held_at rs.held.items r)

-- where some registers hold nothing any more
abbrev pub without : (Register → Bool) → Keeping → Keeping
without test g r = if test r then unknown else g r
