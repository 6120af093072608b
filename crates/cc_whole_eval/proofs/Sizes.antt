-- No value takes more than four bytes.
use Rattle.std.proofs.Common.{◌≤◌, arith}
use Rattle.cf_base.specs.declared.kind.Kind.{Kind}
use Rattle.cf_base.specs.declared.kind.Kind.TheVariants.{Char, SChar, UChar, Short, UShort, Int, UInt, Long, ULong}
use Rattle.cc_whole_memory.specs.declared.value.Scalar.{Scalar}
use Rattle.cc_whole_memory.specs.declared.value.Scalar.TheVariants as scalar
use Rattle.cc_whole_memory.specs.Values.{kind_bytes, bytes_of}

kind-small : (k : Kind) → kind_bytes k ≤ 4
kind-small Char = omega arith
kind-small SChar = omega arith
kind-small UChar = omega arith
kind-small Short = omega arith
kind-small UShort = omega arith
kind-small Int = omega arith
kind-small UInt = omega arith
kind-small Long = omega arith
kind-small ULong = omega arith

pub bytes-small : (t : Scalar) → bytes_of t ≤ 4
bytes-small (scalar.Integer k) = kind-small k
bytes-small scalar.Pointer = omega arith
bytes-small scalar.Function = omega arith
