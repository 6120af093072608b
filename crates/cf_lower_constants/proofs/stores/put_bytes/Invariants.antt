use Rattle.std.proofs.Common.{◌≡◌, ◌++◌, drop}
use Rattle.cf_lower.specs.Constants as definition
use Rattle.cf_lower.specs.Statements as spec
use Rattle.cf_lower_stmt.specs.Steps.{written}
use Rattle.cf_lower_constants.proofs.stores.put_bytes.Given as goal

abbrev pub invariant-loop-byte : goal.invariant-loop-byte
invariant-loop-byte l =
    written l.code ++ spec.put_bytes l.kind (definition.at_byte l.name l.at) l.index (drop l.byte-index l.bytes) ≡ written l.initial.code ++ spec.put_bytes l.kind (definition.at_byte l.name l.at) 0 l.bytes
