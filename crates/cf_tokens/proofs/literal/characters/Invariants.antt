use Rattle.std.proofs.Common.{◌-◌}
use Rattle.cf_tokens.proofs.Literals.{ReadSoFar}
use Rattle.cf_tokens.proofs.literal.characters.Given as goal

abbrev pub invariant-loop-turn : goal.invariant-loop-turn
invariant-loop-turn l = ReadSoFar l.bytes l.values l.at (l._turn-end - l._turn)
