-- How deep the tokens of a file are nested, and its brackets.
--
-- The file is a level, and so is the inside of each open bracket. A level counts its tokens since its last reset. An open bracket
-- counts one in the level in which it stands, and a closed pair with all that is inside it counts one there. A `;` or `,` resets
-- the level in which it stands, and a `}` that in which its pair stands, unless `else` follows.
use Rattle.std.specs.Prelude.{ℕ, ◌+◌, ◌-◌, Bool, false, cond, ◌||◌, ◌&&◌, not, nat_eq, nat_lt, List, [], ◌∷◌, ◌++◌, length, take, get_or, slice_set, Option, Some, None, min}
use Rattle.cf_tokens.specs.declared.token.Token.{Token}
use Rattle.cf_syntax.specs.Words.{code, front, left_paren, right_paren, left_bracket, right_bracket, comma}
use Rattle.cf_unit.specs.declared.nesting.Level.{Level}
use Rattle.cf_unit.specs.Pieces.{left_brace, right_brace, semicolon, else_word}

-- ---- brackets

abbrev pub is_opening : ℕ → Bool
is_opening w = nat_eq w left_paren || (nat_eq w left_bracket || nat_eq w left_brace)

abbrev pub is_closing : ℕ → Bool
is_closing w = nat_eq w right_paren || (nat_eq w right_bracket || nat_eq w right_brace)

-- whether the second closes the first
abbrev pub is_partner : ℕ → ℕ → Bool
is_partner w v = (nat_eq w left_paren && nat_eq v right_paren)
    || ((nat_eq w left_bracket && nat_eq v right_bracket) || (nat_eq w left_brace && nat_eq v right_brace))

-- the levels that are open, the innermost last; the file's is the count alone. And the place of the first closing bracket without
-- a partner, if there was one
pub record Levels : Type 0 where
  pub inside : List Level
  pub file : ℕ
  pub stray : Option ℕ

abbrev pub no_levels : Levels
no_levels = record { inside = []; file = 0; stray = None }

-- the nesting: the sum of the counts
abbrev pub depth_of : List Level → ℕ
depth_of [] = 0
depth_of (l ∷ ls) = l.count + depth_of ls

abbrev pub depth : Levels → ℕ
depth l = l.file + depth_of l.inside

-- ---- one token

abbrev pub no_level : Level
no_level = record { word = 0; at = 0; count = 0 }

abbrev pub innermost : Levels → Level
innermost l = get_or l.inside (length l.inside - 1) no_level

abbrev pub is_outside : Levels → Bool
is_outside l = nat_eq (length l.inside) 0

abbrev pub with_count : Level → ℕ → Level
with_count x n = record { word = x.word; at = x.at; count = n }

-- the innermost level with this count
abbrev pub counting : ℕ → Levels → Levels
counting n l = cond (is_outside l) (record { inside = l.inside; file = n; stray = l.stray })
    (record { inside = slice_set l.inside (length l.inside - 1) (with_count (innermost l) n); file = l.file; stray = l.stray })

abbrev pub count : Levels → ℕ
count l = cond (is_outside l) l.file (innermost l).count

abbrev pub one_more : Levels → Levels
one_more l = counting (count l + 1) l

abbrev pub reset : Levels → Levels
reset l = counting 0 l

abbrev pub opened : ℕ → ℕ → Levels → Levels
opened w at l = record { inside = l.inside ++ record { word = w; at = at; count = 0 } ∷ []; file = l.file; stray = l.stray }

abbrev pub without_innermost : Levels → Levels
without_innermost l = record { inside = take (length l.inside - 1) l.inside; file = l.file; stray = l.stray }

-- the innermost level is closed; a `}` resets the level around it, unless `else` follows
abbrev pub closed_by : ℕ → Bool → Levels → Levels
closed_by w before_else l = cond (nat_eq w right_brace && not before_else) (reset (without_innermost l)) (without_innermost l)

abbrev pub if_none : Option ℕ → ℕ → Option ℕ
if_none None at = Some at
if_none (Some before) at = Some before

abbrev pub strayed : ℕ → Levels → Levels
strayed at l = record { inside = l.inside; file = l.file; stray = if_none l.stray at }

-- whether this closing bracket is the partner of the innermost open one
abbrev pub has_partner : ℕ → Levels → Bool
has_partner w l = not (is_outside l) && is_partner (innermost l).word w

-- a closing bracket closes the innermost open bracket where that is of its kind; otherwise it counts as any other token
abbrev pub closing : ℕ → ℕ → Bool → Levels → Levels
closing w at before_else l = cond (has_partner w l) (closed_by w before_else l) (one_more (strayed at l))

-- whether this word resets the level in which it stands
abbrev pub resets : ℕ → Bool
resets w = nat_eq w semicolon || nat_eq w comma

-- the levels at a token with this word at this place, with whether `else` follows
abbrev pub at_word : ℕ → ℕ → Bool → Levels → Levels
at_word w at before_else l = cond (is_opening w) (opened w at (one_more l))
    (cond (is_closing w) (closing w at before_else l) (cond (resets w && not before_else) (reset l) (one_more l)))

abbrev pub at_token : Levels → Token → Bool → Levels
at_token l t before_else = at_word (code t.word) t.at before_else l

-- ---- a file

-- the most that a file may have
abbrev pub nesting_limit : ℕ
nesting_limit = 256

abbrev pub passes_from : Levels → List Token → Bool
passes_from l [] = false
passes_from l (t ∷ ts) =
    nat_lt nesting_limit (depth (at_token l t (nat_eq (front ts) else_word))) || passes_from (at_token l t (nat_eq (front ts) else_word)) ts

-- whether the nesting at some token passes the limit
abbrev pub passes : List Token → Bool
passes ts = passes_from no_levels ts

abbrev pub levels_from : Levels → List Token → Levels
levels_from l [] = l
levels_from l (t ∷ ts) = levels_from (at_token l t (nat_eq (front ts) else_word)) ts

-- the place of the outermost bracket that is still open
abbrev pub first_open : List Level → Option ℕ
first_open [] = None
first_open (l ∷ ls) = Some l.at

abbrev pub earlier : Option ℕ → Option ℕ → Option ℕ
earlier None y = y
earlier (Some x) None = Some x
earlier (Some x) (Some y) = Some (min x y)

-- the place of the first bracket without a partner, where these levels are open at the end
abbrev pub unpaired : Levels → Option ℕ
unpaired l = earlier (first_open l.inside) l.stray

-- the same of a file
abbrev pub unmatched : List Token → Option ℕ
unmatched ts = unpaired (levels_from no_levels ts)
