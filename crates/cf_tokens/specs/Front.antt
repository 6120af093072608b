-- What stands at the front of a text: a gap, a token, or the broken rule where neither does (2.1).
use Rattle.std.specs.Prelude.{ℕ, List, get_or, Bool, nat_eq, if◌then◌else◌, codes}
use Rattle.std.specs.List.{starts_with}
use Rattle.cf_tokens.specs.Class.{has}
use Rattle.cf_tokens.specs.Character.{character}
use Rattle.cf_tokens.specs.Constant.{constant}
use Rattle.cf_tokens.specs.Gap.{line_comment, comment, directive}
use Rattle.cf_tokens.specs.Literal.{literal}
use Rattle.cf_tokens.specs.Name.{name}
use Rattle.cf_tokens.specs.Symbol.{symbol}
use Rattle.cf_tokens.specs.declared.class.Class.TheVariants.{Blank, Letter, Digit}
use Rattle.cf_tokens.specs.declared.piece.Piece.{Piece}
use Rattle.cf_tokens.specs.declared.piece.Piece.TheVariants.{Gap}

-- The piece at the front of a text that isn't empty. Whether the text begins at the start of a line is told apart.
unfoldable pub front : Bool → List ℕ → Piece
front starts_line text =
    if has Blank (get_or text 0 0) then Gap 1
    else if nat_eq (get_or text 0 0) 35 then directive starts_line text
    else if has Letter (get_or text 0 0) then name text
    else if has Digit (get_or text 0 0) then constant text
    else if nat_eq (get_or text 0 0) 39 then character text
    else if nat_eq (get_or text 0 0) 34 then literal text
    else if starts_with nat_eq text (codes "//") then line_comment text
    else if starts_with nat_eq text (codes "/*") then comment text
    else symbol text
