-- Tokens as they are printed: each with a space behind it, or with a newline where it ends its line.
use Rattle.std.specs.Prelude.{ℕ, Bool, true, false, if◌then◌else◌, List, [], ◌∷◌, ◌++◌, codes, decimal}
use Rattle.std.specs.Fmt.{signed_decimal}
use Rattle.cc_whole_tokens.specs.declared.mark.Mark.{Mark}
use Rattle.cc_whole_tokens.specs.declared.mark.Mark.TheVariants as mark
use Rattle.cc_whole_tokens.specs.Mark.{mark_text}
use Rattle.cc_whole.specs.declared.types.CConstant.{CConstant}
use Rattle.cc_whole.specs.declared.types.CConstant.TheVariants as int

abbrev pub ends_line : Mark → Bool
ends_line mark.Semicolon = true
ends_line mark.Colon = true
ends_line mark.LeftBrace = true
ends_line mark.RightBrace = true
ends_line m = false

abbrev pub newline : List ℕ
newline = 10 ∷ []

-- bytes with a space behind them
abbrev pub spaced : List ℕ → List ℕ
spaced bytes = bytes ++ (32 ∷ [])

unfoldable pub printed_mark : Mark → List ℕ
printed_mark m = mark_text m ++ ((if ends_line m then 10 else 32) ∷ [])

-- a sign that ends no line where it stands
unfoldable pub printed_inside : Mark → List ℕ
printed_inside m = mark_text m ++ (32 ∷ [])

-- a sign or word, if it is needed
abbrev pub printed_if : Bool → Mark → List ℕ
printed_if true m = printed_mark m
printed_if false m = []

abbrev pub unsigned_text : ℕ → List ℕ
unsigned_text n = decimal n ++ (117 ∷ 32 ∷ [])

-- a constant; an unsigned one ends in `u`
abbrev pub constant_text : CConstant → List ℕ
constant_text (int.Signed z) = spaced (signed_decimal z)
constant_text (int.Unsigned n) = unsigned_text n

-- each piece with a comma before it
abbrev pub after_commas : List (List ℕ) → List ℕ
after_commas [] = []
after_commas (piece ∷ pieces) = printed_mark mark.Comma ++ (piece ++ after_commas pieces)

-- pieces with commas between them
abbrev pub with_commas : List (List ℕ) → List ℕ
with_commas [] = []
with_commas (piece ∷ pieces) = piece ++ after_commas pieces
