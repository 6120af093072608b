-- What stands between the quotes of a string, read from behind the opening one.
use Rattle.std.specs.Prelude.{ℕ, zero, suc, ◌+◌, nat_lt, Bool, ◌&&◌, ◌==◌, if◌then◌else◌, List, [], ◌∷◌, ◌++◌, drop, get_or, Option, Some, None}
use Rattle.cc_whole_tokens.specs.Cut.{is_itself, is_octal, octal_value}
use Rattle.cc_whole_tokens.specs.Token.{begins}
use Rattle.cc_whole_cut.specs.declared.string.Piece.{Piece}
use Rattle.cc_whole_cut.specs.declared.string.Piece.TheVariants as piece

-- a backslash and three octal digits
abbrev pub begins_escape : List ℕ → Bool
begins_escape bs = get_or bs 0 0 == 92 && (is_octal (get_or bs 1 0) && (is_octal (get_or bs 2 0) && is_octal (get_or bs 3 0)))

abbrev pub escape_value : List ℕ → ℕ
escape_value bs = octal_value (get_or bs 1 0) (get_or bs 2 0) (get_or bs 3 0)

abbrev pub escaped : List ℕ → Option ℕ
escaped bs = if begins_escape bs && nat_lt (escape_value bs) 256 then Some (escape_value bs) else None

abbrev pub escape : Option ℕ → Piece
escape (Some b) = piece.Byte b 4
escape None = piece.Stray

-- what stands at the front
abbrev pub next_piece : List ℕ → Piece
next_piece bs =
    if begins (λ b. b == 34) bs then piece.Close
    else (if begins is_itself bs then piece.Byte (get_or bs 0 0) 1 else escape (escaped bs))

abbrev pub spelled_by : Piece → ℕ
spelled_by piece.Close = 0
spelled_by (piece.Byte b by) = by
spelled_by piece.Stray = 0

abbrev pub go_on : Piece → List ℕ → ℕ → (ℕ → ℕ → Option (List ℕ × ℕ)) → Option (List ℕ × ℕ)
go_on piece.Close out len more = Some (out, len)
go_on (piece.Byte b by) out len more = more b by
go_on piece.Stray out len more = None

-- behind bytes that are spelled by this many, in at most so many turns: the bytes up to the closing quote, and by how many they are spelled
unfoldable pub inside : ℕ → List ℕ → ℕ → List ℕ → Option (List ℕ × ℕ)
inside zero out len bs = None
inside (suc turns) out len bs = go_on (next_piece bs) out len (λ b by. inside turns (out ++ b ∷ []) (len + by) (drop by bs))
