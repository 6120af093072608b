-- What it says that a text is not cut: no cut of it is there, unless memory ran out.
use Rattle.std.specs.Prelude.{ℕ, List}
use Rattle.cc_whole_tokens.specs.declared.token.Token.{Token}
use Rattle.cc_whole_cut.specs.declared.cut.CutError.{CutError}
use Rattle.cc_whole_cut.specs.declared.cut.CutError.TheVariants.{Stray, OutOfMemory}
use Rattle.cc_whole_tokens.specs.Cut.{Cut}

abbrev pub IsStray : List ℕ → CutError → Type 0
IsStray text (Stray at) = (ts : List Token) → Cut text ts → ⊥
IsStray text OutOfMemory = Unit {0}
