use Rattle.std.proofs.Common.{◌≡◌, ◌≤◌, drop}
use Rattle.cf_tokens.specs.Number.{number}
use Rattle.cf_tokens.proofs.number.number_within.Given as goal

abbrev pub invariant-loop-digit : goal.invariant-loop-digit
invariant-loop-digit l = (number l.radix l.value (drop l.digit-index l.digits) ≡ number l.radix 0 l.digits) × (l.value ≤ l.most)
