-- What is to be said of a file before the grammar is asked.
use Rattle.std.specs.Prelude.{ℕ, cond, List, Option, Some, None}
use Rattle.cf_tokens.specs.declared.token.Token.{Token}
use Rattle.cf_unit.specs.Nesting.{passes, unmatched}
use Rattle.cf_nesting.specs.declared.nesting.Nesting.{Nesting}
use Rattle.cf_nesting.specs.declared.nesting.Nesting.TheVariants as found

abbrev pub by_place : Option ℕ → Nesting
by_place None = found.Matched
by_place (Some at) = found.Unmatched at

-- the limit first, then the brackets
abbrev pub found_in : List Token → Nesting
found_in ts = cond (passes ts) found.TooDeep (by_place (unmatched ts))
