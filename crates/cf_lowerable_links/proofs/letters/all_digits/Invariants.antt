use Rattle.std.proofs.Common.{◌≡◌, drop}
use Rattle.cf_lower_program.specs.Names.{all_digits}
use Rattle.cf_lowerable_links.proofs.letters.all_digits.Given as goal

abbrev pub invariant-loop-byte : goal.invariant-loop-byte
invariant-loop-byte l = all_digits (drop l.byte-index l.name) ≡ all_digits l.name
