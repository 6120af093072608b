-- What registers hold, with the kinds that have an integer, in the code's types.
use Rattle.std.specs.Prelude.{ℕ, Bool, true, false, List, Option, Some, None, slice_get}
use Rattle.cf_base.specs.declared.kind.Kind.{Kind}
use Rattle.cf_base.specs.declared.arith.Arith.{Arith}
use Rattle.cf_base.specs.declared.arith.Arith.TheVariants as op
use Rattle.cf_core.specs.FromTypes.{Tables, type_of}
use Rattle.cf_lower_layout.specs.Sorts.{address, code}
use Rattle.cf_lower.specs.Kept.{Kept, unknown, integer_of, holds, argument, Keeping}
use Rattle.cf_lower_held.specs.declared.scene.Scene.{Scene}
use Rattle.cf_lower_held.specs.Holds.{keeping}
use Rattle.cf_lower_types.specs.Bare.{bare, type_in}
use Rattle.cf_lowerable_types.specs.declared.kinds.Kinds.{Kinds}
use Rattle.cf_lowerable_types.specs.Kinds.{has_kind, no_kind}
use Rattle.cf_lowerable_places.specs.declared.content.Content.{Content}
use Rattle.cf_lowerable_places.specs.declared.content.Content.TheVariants as content
use Rattle.cf_lowerable_places.specs.declared.contents.Contents.{Contents}

-- ---- one register

-- an integer that these kinds have
abbrev pub restored : Kept → (Kind → Bool) → Kept
restored (integer_of f) h = integer_of h
restored x h = x

abbrev pub known : Tables → Content → Kept
known tables content.Nothing = unknown
known tables (content.Number ks) = integer_of (has_kind ks)
known tables (content.Place p) = holds (address (type_in tables p))
known tables (content.Code t) = holds (code (bare tables t))
known tables (content.Argument i t) = argument i (type_of tables t)

-- whether an operator compares
abbrev pub compares : Arith → Bool
compares op.Less = true
compares op.Greater = true
compares op.LessEqual = true
compares op.GreaterEqual = true
compares op.Equal = true
compares op.NotEqual = true
compares o = false

-- ---- all registers

abbrev pub kinds_of : Option Kinds → Kind → Bool
kinds_of None = no_kind
kinds_of (Some ks) = has_kind ks

-- none behind the last
abbrev pub kinds_at : List Kinds → ℕ → Kind → Bool
kinds_at xs r = kinds_of (slice_get xs r)

abbrev pub contents_in : Tables → Contents → Keeping
contents_in tables cs r = restored (keeping tables cs.registers r) (kinds_at cs.kinds.items r)

abbrev pub knowing : Scene → Contents → Keeping
knowing x cs = contents_in x.tables.now cs
