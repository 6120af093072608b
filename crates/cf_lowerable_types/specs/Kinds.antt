-- The kinds that have a number.
use Rattle.std.specs.Prelude.{Bool, false, ◌&&◌}
use Rattle.cf_base.specs.declared.kind.Kind.{Kind}
use Rattle.cf_base.specs.declared.kind.Kind.TheVariants.{Char, SChar, UChar, Short, UShort, Int, UInt, Long, ULong}
use Rattle.cf_lowerable_types.specs.declared.kinds.Kinds.{Kinds}

-- whether a kind is one of them
abbrev pub has_kind : Kinds → Kind → Bool
has_kind ks Char = ks.plain_char
has_kind ks SChar = ks.signed_char
has_kind ks UChar = ks.unsigned_char
has_kind ks Short = ks.short
has_kind ks UShort = ks.unsigned_short
has_kind ks Int = ks.int
has_kind ks UInt = ks.unsigned_int
has_kind ks Long = ks.long
has_kind ks ULong = ks.unsigned_long

-- the kinds that both have
abbrev pub both_kinds : (Kind → Bool) → (Kind → Bool) → Kind → Bool
both_kinds f h k = f k && h k

abbrev pub no_kind : Kind → Bool
no_kind k = false
