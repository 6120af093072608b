-- A piece of a text: what one cut takes off its front.
use Rattle.std.specs.Prelude.{ℕ, ◌≤◌}
use Rattle.cf_tokens.specs.declared.piece.Piece.{Piece}
use Rattle.cf_tokens.specs.declared.piece.Piece.TheVariants as piece

-- a piece takes one byte or more, and not more than there are
abbrev pub IsWithin : ℕ → Piece → Type 0
IsWithin most (piece.Gap n) = (1 ≤ n) × (n ≤ most)
IsWithin most (piece.Whole word n) = (1 ≤ n) × (n ≤ most)
IsWithin most (piece.Flaw rule) = Unit {0}
