-- How deep the tokens of a text are nested.
--
-- The text is a level, and so is the inside of each open bracket. A level counts its tokens since its last reset. An open bracket counts one in
-- the level in which it stands, and a closed pair with all that is inside it counts one there. A `;` or `,` resets the level in which it stands,
-- and a `}` that in which its pair stands, unless `else` follows. The three tokens of the first line stand at the front of the text's own level.
use Rattle.std.specs.Prelude.{ℕ, ◌+◌, ◌-◌, Bool, true, false, not, ◌||◌, ◌&&◌, if◌then◌else◌, nat_eq, nat_lt, List, [], ◌∷◌, ◌++◌, length, take, get_or}
use Rattle.cc_whole_tokens.specs.declared.mark.Mark.{Mark}
use Rattle.cc_whole_tokens.specs.declared.mark.Mark.TheVariants as mark
use Rattle.cc_whole_tokens.specs.declared.token.Token.{Token}
use Rattle.cc_whole_tokens.specs.declared.token.Token.TheVariants as token
use Rattle.cc_whole_tokens.specs.Mark.{same_mark}
use Rattle.cc_whole_nesting.specs.declared.kind.Bracket.{Bracket}
use Rattle.cc_whole_nesting.specs.declared.kind.Bracket.TheVariants as bracket
use Rattle.cc_whole_nesting.specs.declared.kind.Kind.{Kind}
use Rattle.cc_whole_nesting.specs.declared.kind.Kind.TheVariants as kind
use Rattle.cc_whole_nesting.specs.declared.level.Level.{Level}

-- ---- tokens

abbrev pub kind_of_mark : Mark → Kind
kind_of_mark mark.LeftParen = kind.Opens bracket.Round
kind_of_mark mark.LeftBracket = kind.Opens bracket.Square
kind_of_mark mark.LeftBrace = kind.Opens bracket.Curly
kind_of_mark mark.RightParen = kind.Closes bracket.Round
kind_of_mark mark.RightBracket = kind.Closes bracket.Square
kind_of_mark mark.RightBrace = kind.Closes bracket.Curly
kind_of_mark mark.Semicolon = kind.Ends
kind_of_mark mark.Comma = kind.Ends
kind_of_mark m = kind.Other

abbrev pub kind_of : Token → Kind
kind_of (token.Mark m) = kind_of_mark m
kind_of t = kind.Other

abbrev pub is_else : Token → Bool
is_else (token.Mark m) = same_mark m mark.Else
is_else t = false

abbrev pub begins_else : List Token → Bool
begins_else [] = false
begins_else (t ∷ ts) = is_else t

abbrev pub same_bracket : Bracket → Bracket → Bool
same_bracket bracket.Round bracket.Round = true
same_bracket bracket.Square bracket.Square = true
same_bracket bracket.Curly bracket.Curly = true
same_bracket a b = false

abbrev pub is_curly : Bracket → Bool
is_curly bracket.Curly = true
is_curly b = false

-- ---- levels

-- the count of the innermost level, and the levels around it, the innermost last, each with the bracket that is open in it
pub record Levels : Type 0 where
  pub count : ℕ
  pub around : List Level

abbrev pub depth_of : List Level → ℕ
depth_of [] = 0
depth_of (l ∷ ls) = l.count + depth_of ls

-- the nesting: the sum of the counts
abbrev pub depth : Levels → ℕ
depth l = l.count + depth_of l.around

abbrev pub no_level : Level
no_level = record { bracket = bracket.Round; count = 0 }

-- the level around the innermost one
abbrev pub outer : Levels → Level
outer l = get_or l.around (length l.around - 1) no_level

abbrev pub one_more : Levels → Levels
one_more l = record { count = l.count + 1; around = l.around }

abbrev pub reset : Levels → Levels
reset l = record { count = 0; around = l.around }

abbrev pub opened : Bracket → Levels → Levels
opened b l = record { count = 0; around = l.around ++ record { bracket = b; count = l.count + 1 } ∷ [] }

-- whether this closing bracket is the partner of the innermost open one
abbrev pub has_partner : Bracket → Levels → Bool
has_partner b l = not (nat_eq (length l.around) 0) && same_bracket (outer l).bracket b

-- the pair is closed; a `}` resets the level in which it stands, unless `else` follows
abbrev pub closed : Bracket → Bool → Levels → Levels
closed b before_else l = record {
  count = if is_curly b && not before_else then 0 else (outer l).count;
  around = take (length l.around - 1) l.around;
}

-- the levels at a token, with whether `else` follows. A closing bracket without a partner counts as any other token
abbrev pub at_kind : Kind → Bool → Levels → Levels
at_kind (kind.Opens b) before_else l = opened b l
at_kind (kind.Closes b) before_else l = if has_partner b l then closed b before_else l else one_more l
at_kind kind.Ends before_else l = if before_else then one_more l else reset l
at_kind kind.Other before_else l = one_more l

-- ---- a text

-- behind the first line
abbrev pub first_levels : Levels
first_levels = record { count = 3; around = [] }

-- the most that a text may have
abbrev pub nesting_limit : ℕ
nesting_limit = 1024

abbrev pub passes_from : Levels → List Token → Bool
passes_from l [] = false
passes_from l (t ∷ ts) =
    nat_lt nesting_limit (depth (at_kind (kind_of t) (begins_else ts) l)) || passes_from (at_kind (kind_of t) (begins_else ts) l) ts

-- whether the nesting at some of the tokens behind the first line passes the limit
unfoldable pub passes : List Token → Bool
passes ts = passes_from first_levels ts
