use Rattle.std.proofs.Common.{◌≡◌, false, drop}
use Rattle.cf_lowerable_core.specs.Looks.{ends_in_zero}
use Rattle.cf_lowerable_core.proofs.nodes.ends_in_zero.Given as goal

abbrev pub invariant-loop-byte : goal.invariant-loop-byte
invariant-loop-byte l = ends_in_zero l.ends (drop l.byte-index l.bytes) ≡ ends_in_zero false l.bytes
