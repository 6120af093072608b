-- The longest phrase that begins at a place, or that none begins there.
use Rattle.std.specs.Prelude.{◌≡◌, ℕ, ◌+◌, ◌-◌, List, length, drop, slice_get, Option, Some, None, Result, Ok, Err}
use denote.Ref.{Bor}
use Rattle.cf_base.specs.declared.rule.Broken.{Broken}
use Rattle.cf_tokens.specs.declared.token.Token.{Token}
use Rattle.cf_syntax.specs.declared.expression.Expr.{Expr}
use Rattle.cf_syntax.specs.NamesData.{Names}
use Rattle.cf_syntax.specs.Language.{Language}
use Rattle.cf_syntax.specs.Longest.{IsLongest}
use Rattle.cf_syntax.specs.Grammar.{SpellsCommas, SpellsAssign, SpellsCondition}
use Rattle.cf_parse_expr.specs.declared.fault.ExprFault.{ExprFault}
use Rattle.cf_parse_expr.specs.declared.fault.ExprFault.TheVariants as fault
use Rattle.cf_parse_expr.specs.declared.level.Level.{Level}
use Rattle.cf_parse_expr.specs.declared.level.Level.TheVariants as level
use Rattle.cf_parse_expr.specs.declared.stop.Stop.{Stop}
use Rattle.cf_parse_expr.specs.declared.stop.Stop.TheVariants as stop

-- no phrase begins with these tokens
pub record NoneBegins {A : Type 0} (L : Language A) (ts : List Token) : Type 0 where
  pub none : (x : A) (rest : List Token) → L ts x rest → ⊥

abbrev pub StopsWhere : {A : Type 0} → Language A → List Token → Stop → Type 0
StopsWhere L ts stop.Nothing = NoneBegins L ts
StopsWhere L ts stop.Memory = Unit {0}

-- what a function gives that goes past the longest phrase, beside the tokens before and behind it
abbrev pub TakesLongest : {A : Type 0} → Language A → List Token → Result A Stop → List Token → Type 0
TakesLongest L ts (Ok x) rest = IsLongest L ts x rest
TakesLongest L ts (Err e) rest = StopsWhere L ts e

-- the expressions of a level
abbrev pub SpellsLevel : Level → Names → Language Expr
SpellsLevel level.Commas names = SpellsCommas names
SpellsLevel level.Assign names = SpellsAssign names
SpellsLevel level.Condition names = SpellsCondition names

-- ---- a place among the tokens of a file

abbrev pub end_of_token : Option Token → ℕ
end_of_token None = 0
end_of_token (Some t) = t.at + t.len

-- the end of the last token, and 0 where there is none
abbrev pub end_of : List Token → ℕ
end_of ts = end_of_token (slice_get ts (length ts - 1))

abbrev pub place_or : ℕ → Option Token → ℕ
place_or n None = n
place_or n (Some t) = t.at

-- the place of the token of this number, and the end of the last one where there are not so many
abbrev pub place_at : List Token → ℕ → ℕ
place_at ts at = place_or (end_of ts) (slice_get ts at)

-- tokens outside the grammar: K6 at a place
abbrev pub outside : ℕ → Broken
outside at = record { rule = 6; at = at }

abbrev pub FailsAt : {A : Type 0} → Language A → List Token → ℕ → ExprFault → Type 0
FailsAt L tokens at (fault.Broken b) = (b ≡ outside (place_at tokens at)) × NoneBegins L (drop at tokens)
FailsAt L tokens at fault.Memory = Unit {0}

-- the longest phrase at the token of this number, with the tokens behind it, or K6 there where none begins
abbrev pub Answers : {A : Type 0} → Language A → List Token → ℕ → Result (A × Bor (List Token)) ExprFault → Type 0
Answers L tokens at (Ok r) = IsLongest L (drop at tokens) r.0 r.1.now
Answers L tokens at (Err e) = FailsAt L tokens at e
