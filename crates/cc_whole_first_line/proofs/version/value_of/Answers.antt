use Rattle.cc_whole_first_line.proofs.Values.{too_large}
use Rattle.cc_whole_first_line.proofs.version.value_of.Goals as goal

pub returns-then-value-ge-VERSIONS : goal.returns-then-value-ge-VERSIONS
returns-then-value-ge-VERSIONS c =
    too_large c.loop-rest.value c.loop-rest.rest.now c.args.digits.now c.if-value-ge-VERSIONS.true c.loop-rest.invariant
