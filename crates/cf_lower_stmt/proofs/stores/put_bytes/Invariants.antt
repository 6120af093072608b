use Rattle.std.proofs.Common.{◌≡◌, ◌++◌, drop}
use Rattle.cf_lower.specs.Expressions.{address_in}
use Rattle.cf_lower.specs.Statements as spec
use Rattle.cf_lower_stmt.specs.Steps.{written}
use Rattle.cf_lower_stmt.proofs.stores.put_bytes.Given as goal

abbrev pub invariant-loop-byte : goal.invariant-loop-byte
invariant-loop-byte l =
    written l.code ++ spec.put_bytes l.kind (address_in l.place) l.at (drop l.byte-index l.bytes) ≡ written l.initial.code ++ spec.put_bytes l.kind (address_in l.place) 0 l.bytes
