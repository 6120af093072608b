-- Counting landmarks up to the first number that does not fit.
use Rattle.std.proofs.Common.{◌≡◌, ℕ, ◌≤◌, List, drop}
use Rattle.cc_whole_tokens.specs.declared.token.Token.{Token}
use Rattle.cc_whole_fitting.specs.declared.before.Before.{Before}
use Rattle.cc_whole_wide.specs.Others.{later, wide_from, first_wide}

-- so many landmarks stand before the token of this index, and the tokens from there on decide
pub record Counted (tokens : List Token) (index count : ℕ) (b : Before) : Type 0 where
  pub decides : later count (wide_from (drop index tokens) b) ≡ first_wide tokens
  pub small : count ≤ index
