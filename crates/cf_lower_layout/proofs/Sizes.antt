-- Objects take bytes.
use Rattle.std.proofs.Common.{◌≡◌, ◌<◌, ◌≤◌, true, nat_lt, List, arith, refl}
use Rattle.std.proofs.Math.Nat.{one-le-mul}
use Rattle.std.proofs.lemmas.Bool.Decides.{nat_tests}
use Rattle.cf_base.specs.declared.kind.Kind.TheVariants.{Char, SChar, UChar, Short, UShort, Int, UInt, Long, ULong}
use Rattle.cf_base.proofs.Tests.{both}
use Rattle.cf_core.specs.Types.{SourceType, void, integer, enumeration, class, pointer, reference, array, takes, gives, data_member, function_member, const}
use Rattle.cf_core.specs.Classes.{Class}
use Rattle.cf_core.specs.Places.{is_scalar}
use Rattle.cf_core.specs.Size.{size}
use Rattle.cf_lower_layout.specs.Layout.{has_bytes}

pub size-some : (cs : List Class) (t : SourceType) → has_bytes t ≡ true → 0 < size cs t
size-some cs void h = omega arith
size-some cs (integer Char) h = omega arith
size-some cs (integer SChar) h = omega arith
size-some cs (integer UChar) h = omega arith
size-some cs (integer Short) h = omega arith
size-some cs (integer UShort) h = omega arith
size-some cs (integer Int) h = omega arith
size-some cs (integer UInt) h = omega arith
size-some cs (integer Long) h = omega arith
size-some cs (integer ULong) h = omega arith
size-some cs (enumeration e) h = omega arith
size-some cs (class c) h = absurd (cc)
size-some cs (pointer t) h = omega arith
size-some cs (reference t) h = omega arith
size-some cs (array t n) h =
    let parts = both (nat_lt 0 n) (has_bytes t) h in
    let some : 1 ≤ n = grind (arith, nat_tests, parts.0) in
    one-le-mul some (size-some cs t parts.1)
size-some cs (takes p t) h = omega arith
size-some cs (gives t c) h = omega arith
size-some cs (data_member c t) h = omega arith
size-some cs (function_member c t) h = omega arith
size-some cs (const t) h = size-some cs t h

pub scalar-bytes : (t : SourceType) → is_scalar t ≡ true → has_bytes t ≡ true
scalar-bytes (class c) h = absurd (cc)
scalar-bytes (array t n) h = absurd (cc)
scalar-bytes (const t) h = scalar-bytes t h
scalar-bytes t h = refl
