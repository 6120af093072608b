-- Specifiers, and the type that they name (7.1).
use Rattle.std.specs.Prelude.{ℕ, Bool, true, false, not, ◌||◌, nat_le, if◌then◌else◌, List, [], ◌∷◌, Option, None, Some, is_some}
use Rattle.std.specs.Option.{option_or}
use Rattle.cf_base.specs.declared.kind.Kind.{Kind}
use Rattle.cf_base.specs.declared.kind.Kind.TheVariants as kind
use Rattle.cf_types.specs.declared.ty.Ty.TheVariants as ty
use Rattle.cf_syntax.specs.declared.specifier.BasicType.{BasicType}
use Rattle.cf_syntax.specs.declared.specifier.BasicType.TheVariants as basic
use Rattle.cf_syntax.specs.declared.specifier.Storage.{Storage}
use Rattle.cf_syntax.specs.declared.specifier.Storage.TheVariants as storage
use Rattle.cf_elab.specs.Answer.{Elab, ◌>>=◌, gives}
use Rattle.cf_elab.specs.Made.{intern, of_kind, const_if}

-- a specifier whose names are looked up, with its place
pub data Word : Type 0 where
  stored_as : ℕ → Storage → Word
  const_word : ℕ → Word
  basic_word : ℕ → BasicType → Word
  type_word : ℕ → ℕ → Word  -- a type that is named
  defined_word : ℕ → ℕ → Word  -- a class or enumeration that is defined here

-- ---- fundamental types (7.1.6)

pub record Basics : Type 0 where
  pub chars : Bool
  pub shorts : Bool
  pub ints : Bool
  pub longs : Bool
  pub signs : Bool
  pub unsigneds : Bool
  pub voids : Bool

abbrev pub no_basics : Basics
no_basics = record { chars = false; shorts = false; ints = false; longs = false; signs = false; unsigneds = false; voids = false }

-- whether the word fits those before it: no word twice, and no two that exclude one another
abbrev pub fits_basics : BasicType → Basics → Bool
fits_basics basic.Char b = not (b.chars || b.shorts || b.ints || b.longs || b.voids)
fits_basics basic.Short b = not (b.chars || b.shorts || b.longs || b.voids)
fits_basics basic.Int b = not (b.chars || b.ints || b.voids)
fits_basics basic.Long b = not (b.chars || b.shorts || b.longs || b.voids)
fits_basics basic.Signed b = not (b.signs || b.unsigneds || b.voids)
fits_basics basic.Unsigned b = not (b.signs || b.unsigneds || b.voids)
fits_basics basic.Void b = not (b.chars || b.shorts || b.ints || b.longs || b.signs || b.unsigneds || b.voids)

abbrev pub with_basic : BasicType → Basics → Basics
with_basic basic.Char b = record b { chars = true }
with_basic basic.Short b = record b { shorts = true }
with_basic basic.Int b = record b { ints = true }
with_basic basic.Long b = record b { longs = true }
with_basic basic.Signed b = record b { signs = true }
with_basic basic.Unsigned b = record b { unsigneds = true }
with_basic basic.Void b = record b { voids = true }

-- no word at all is int
abbrev pub basic_kind : Basics → Kind
basic_kind b =
    if b.chars then (if b.unsigneds then kind.UChar else (if b.signs then kind.SChar else kind.Char))
    else (if b.shorts then (if b.unsigneds then kind.UShort else kind.Short)
    else (if b.longs then (if b.unsigneds then kind.ULong else kind.Long) else (if b.unsigneds then kind.UInt else kind.Int)))

abbrev pub any_basic : Basics → Bool
any_basic b = b.chars || b.shorts || b.ints || b.longs || b.signs || b.unsigneds || b.voids

-- ---- all specifiers of a declaration

pub record Gathered : Type 0 where
  pub basics : Basics
  pub named : Option ℕ
  pub defined_at : Option ℕ  -- the place of a class or enumeration that is defined here
  pub is_const : Bool
  pub storage : Option (ℕ × Storage)  -- auto, register, static, extern or typedef, of which there is one
  pub inline_at : Option ℕ
  pub virtual_at : Option ℕ
  pub friend_at : Option ℕ
  pub conflict : Option ℕ  -- the place of the first that conflicts with one before it
  pub is_empty : Bool

abbrev pub nothing_gathered : Gathered
nothing_gathered = record {
  basics = no_basics;
  named = None;
  defined_at = None;
  is_const = false;
  storage = None;
  inline_at = None;
  virtual_at = None;
  friend_at = None;
  conflict = None;
  is_empty = true;
}

abbrev pub conflicts : Bool → ℕ → Gathered → Gathered
conflicts true at g = record g { conflict = option_or g.conflict (Some at) }
conflicts false at g = g

abbrev pub with_storage : ℕ → Storage → Gathered → Gathered
with_storage at storage.Inline g = record g { inline_at = option_or g.inline_at (Some at) }
with_storage at storage.Virtual g = record g { virtual_at = option_or g.virtual_at (Some at) }
with_storage at storage.Friend g = record g { friend_at = option_or g.friend_at (Some at) }
with_storage at s g = conflicts (is_some g.storage) at (record g { storage = option_or g.storage (Some (at, s)) })

abbrev pub with_type : ℕ → ℕ → Gathered → Gathered
with_type at t g = conflicts (is_some g.named || any_basic g.basics) at (record g { named = option_or g.named (Some t) })

abbrev pub gathers : Gathered → Word → Gathered
gathers g (stored_as at s) = with_storage at s (record g { is_empty = false })
gathers g (const_word at) = record g { is_const = true; is_empty = false }
gathers g (basic_word at b) =
    conflicts (is_some g.named || not (fits_basics b g.basics)) at (record g { basics = with_basic b g.basics; is_empty = false })
gathers g (type_word at t) = with_type at t (record g { is_empty = false })
gathers g (defined_word at t) = record (with_type at t (record g { is_empty = false })) { defined_at = Some at }

abbrev pub gathered_from : Gathered → List Word → Gathered
gathered_from g [] = g
gathered_from g (w ∷ ws) = gathered_from (gathers g w) ws

abbrev pub gathered : List Word → Gathered
gathered ws = gathered_from nothing_gathered ws

-- the type that the specifiers name
abbrev pub base_type : Gathered → Elab ℕ
base_type g = do
  t ← named_or_basic g.named
  const_if g.is_const t
  where
    named_or_basic : Option ℕ → Elab ℕ
    named_or_basic (Some t) = gives t
    named_or_basic None = if g.basics.voids then intern ty.Void else of_kind (basic_kind g.basics)

-- ---- which specifiers may stand where

abbrev pub is_typedef : Gathered → Bool
is_typedef g = elim g.storage [ None ↦ false | Some s ↦ typedef_word s.1 ]
  where
    typedef_word : Storage → Bool
    typedef_word storage.Typedef = true
    typedef_word other = false

abbrev pub is_static : Gathered → Bool
is_static g = elim g.storage [ None ↦ false | Some s ↦ static_word s.1 ]
  where
    static_word : Storage → Bool
    static_word storage.Static = true
    static_word other = false

abbrev pub is_extern : Gathered → Bool
is_extern g = elim g.storage [ None ↦ false | Some s ↦ extern_word s.1 ]
  where
    extern_word : Storage → Bool
    extern_word storage.Extern = true
    extern_word other = false

-- the place of `auto` or `register`
abbrev pub automatic_at : Gathered → Option ℕ
automatic_at g = elim g.storage [ None ↦ None | Some s ↦ automatic_word s.0 s.1 ]
  where
    automatic_word : ℕ → Storage → Option ℕ
    automatic_word at storage.Auto = Some at
    automatic_word at storage.Register = Some at
    automatic_word at other = None

abbrev pub storage_at : Gathered → Option ℕ
storage_at g = elim g.storage [ None ↦ None | Some s ↦ Some s.0 ]

-- whether `auto` or `register` is among them
abbrev pub is_stored : Gathered → Bool
is_stored g = is_some (automatic_at g)

-- the first place in the text, where there is one
abbrev pub earlier : Option ℕ → Option ℕ → Option ℕ
earlier None b = b
earlier (Some a) None = Some a
earlier (Some a) (Some b) = if nat_le a b then Some a else Some b

-- the first place of `inline`, `virtual` and `friend`
abbrev pub function_word_at : Gathered → Option ℕ
function_word_at g = earlier g.inline_at (earlier g.virtual_at g.friend_at)

-- a parameter takes auto and register alone, and a type in brackets no such word: the first place at fault in the text
abbrev pub parameter_conflict : Gathered → Option ℕ
parameter_conflict g = earlier g.conflict (earlier (if is_stored g then None else storage_at g) (function_word_at g))

abbrev pub type_conflict : Gathered → Option ℕ
type_conflict g = earlier g.conflict (earlier (storage_at g) (function_word_at g))
