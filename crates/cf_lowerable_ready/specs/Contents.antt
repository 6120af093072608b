-- What registers hold, in the code's types.
use Rattle.std.specs.Prelude.{ℕ, Bool, true, false, ◌==◌, if◌then◌else◌, List, Option, Some, None, slice_get}
use Rattle.cf_base.specs.declared.kind.Kind.TheVariants.{Char}
use Rattle.cf_core.specs.Types.{SourceType, integer, array, same_but_const}
use Rattle.cf_core.specs.FromTypes.{Tables, type_of}
use Rattle.cf_plain.specs.Plain.{Register}
use Rattle.cf_plain_kept.specs.Kept.{Kept, no_value, an_integer, a_place, a_member, an_object, Keeping, common, suits}
use Rattle.cf_lowerable_types.specs.Kinds.{has_kind}
use Rattle.cf_lowerable_ready.specs.declared.content.Place.{Place}
use Rattle.cf_lowerable_ready.specs.declared.content.Place.TheVariants as place
use Rattle.cf_lowerable_ready.specs.declared.content.Content.{Content}
use Rattle.cf_lowerable_ready.specs.declared.content.Content.TheVariants as content
use Rattle.cf_lowerable_ready.specs.declared.contents.Contents.{Contents}

-- the type of a place, with its const
abbrev pub place_type : Tables → Place → SourceType
place_type tables (place.Of t) = type_of tables t
place_type tables place.Character = integer Char
place_type tables (place.Characters n) = array (integer Char) n

abbrev pub known : Tables → Content → Option Kept
known tables content.Unset = None
known tables content.NoValue = Some no_value
known tables (content.Number ks) = Some (an_integer (has_kind ks))
known tables (content.Place p) = Some (a_place (place_type tables p))
known tables (content.Member t) = Some (a_member (type_of tables t))
known tables (content.Object i t) = Some (an_object i (type_of tables t))

-- ---- what is asked of one register

abbrev pub suits_if : SourceType → Option Kept → Bool
suits_if t None = false
suits_if t (Some x) = suits t x

-- a pointer to a member of this type
abbrev pub is_member_of : SourceType → Option Kept → Bool
is_member_of t (Some (a_member u)) = same_but_const u t
is_member_of t x = false

abbrev pub has_no_value : Option Kept → Bool
has_no_value (Some no_value) = true
has_no_value x = false

-- what is left of a call whose result holds this
abbrev pub valued : Option Kept → Kept
valued None = no_value
valued (Some x) = x

-- what both ways hold
abbrev pub in_both : Option Kept → Option Kept → Option Kept
in_both x y = common (λ r. x) (λ r. y) 0

-- ---- all registers

abbrev pub content_or : Option Content → Content
content_or None = content.Unset
content_or (Some c) = c

-- nothing behind the last
abbrev pub content_at : List Content → ℕ → Content
content_at cs r = content_or (slice_get cs r)

abbrev pub keeping : Tables → Contents → Keeping
keeping tables cs r = known tables (content_at cs.held.items r)

-- where a register holds something else, or nothing
abbrev pub put : Keeping → Register → Option Kept → Keeping
put g r x q = if q == r then x else g q

-- where some registers hold nothing any more
abbrev pub without : (Register → Bool) → Keeping → Keeping
without test g r = if test r then None else g r
