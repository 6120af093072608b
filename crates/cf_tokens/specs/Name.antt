-- Identifiers and keywords (2.3, 2.4).
use Rattle.std.specs.Prelude.{ℕ, List, [], ◌∷◌, length, Bool, false, nat_eq, nat_lt, if◌then◌else◌, ◌||◌, Option, Some, None, codes}
use Rattle.std.specs.List.{starts_with}
use Rattle.cf_tokens.specs.Class.{leading}
use Rattle.cf_tokens.specs.Keywords.{keywords, left_out}
use Rattle.cf_tokens.specs.Table.{index_in, stands_in}
use Rattle.cf_tokens.specs.declared.class.Class.TheVariants.{NameByte}
use Rattle.cf_tokens.specs.declared.token.Word.TheVariants.{Ident, Keyword}
use Rattle.cf_tokens.specs.declared.piece.Piece.{Piece}
use Rattle.cf_tokens.specs.declared.piece.Piece.TheVariants.{Whole, Flaw}

-- whether `__` stands in a name
abbrev pub has_double : List ℕ → Bool
has_double [] = false
has_double (b ∷ bs) = starts_with nat_eq (b ∷ bs) (codes "__") || has_double bs

-- the number of the keyword that a name is, if it is one
abbrev pub keyword_of : List ℕ → Option ℕ
keyword_of name = index_in keywords name

abbrev pub spelled : List ℕ → Option ℕ → Piece
spelled name (Some keyword) = if stands_in left_out name then Flaw 4 else Whole (Keyword keyword) (length name)
spelled name None = Whole (Ident name) (length name)

-- what a name is: with `__` or over 255 bytes it is refused (K3), and so is a keyword outside the profile (K4)
unfoldable pub named : List ℕ → Piece
named name = if nat_lt 255 (length name) || has_double name then Flaw 3 else spelled name (keyword_of name)

-- a letter begins a name, which takes every letter, digit and `_` behind it
abbrev pub name : List ℕ → Piece
name text = named (leading NameByte text)
