-- What a program shows when it is run as a core and when its core is made into plain statements.
use Rattle.std.proofs.Common.{◌≡◌, ℕ, List}
use Rattle.std.specs.Prelude.{Some}
use Rattle.cf_core.specs.Calls.{Program}
use Rattle.cf_core.specs.Program.{Mean}
use Rattle.cf_core.proofs.Sample.{Shown, shown_of}
use Rattle.cf_plain.specs.Program.{PlainMean}
use Rattle.cf_sequence.specs.Sequenced.{sequenced}

-- The plain program shows this, and so does the core: with an input, the usual limits and a bound of ticks.
pub record Shows (P : Program) (input : List ℕ) (n : ℕ) (x : Shown) : Type 0 where
  pub core : shown_of (Mean P input 1048576 1024 n) ≡ Some x
  pub plain : shown_of (PlainMean (sequenced P) input 1048576 1024 n) ≡ Some x
