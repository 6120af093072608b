use Rattle.cf_core.specs.FromUnit.{tables_of}
use Rattle.cf_sound.specs.Tabled.{AreKnown}
use Rattle.cf_sound.proofs.proper.proper_types.Given as goal

abbrev pub invariant-loop-number : goal.invariant-loop-number
invariant-loop-number l = AreKnown (tables_of l.unit) l.number l.known
