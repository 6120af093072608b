-- 0 and null as the C stores them, and as the source holds them.
use Rattle.std.proofs.Common.{◌≡◌, ℕ, refl, sym, ◌∙◌, ap, subst}
use Rattle.std.specs.Prelude.{Some, None, Ok, pos}
use Rattle.cf_base.specs.declared.kind.Kind.{Kind}
use Rattle.cf_base.specs.declared.kind.Kind.TheVariants.{Char, SChar, UChar, Short, UShort, Int, UInt, Long, ULong}
use Rattle.cf_core.specs.Types.{SourceType, integer, enumeration, pointer, reference, const, takes, gives, without_const}
use Rattle.cf_core.specs.Store as source
use Rattle.cf_lower_layout.specs.Sorts.{Sort, number, address, code, sort_of, sort_to}
use Rattle.cc_whole_memory.specs.declared.value.Value.{Value}
use Rattle.cc_whole_memory.specs.declared.value.Value.TheVariants as value
use Rattle.cc_whole_memory.specs.Values.{bytes_of, size_of, as_scalar, zero_of}
use Rattle.cc_whole_mean.specs.Types.{scalar_of}
use Rattle.cc_whole_mean.specs.Values.{fitted}
use Rattle.cf_lower.specs.Written.{c_type}
use Rattle.cf_lower_relate.specs.Map.{Fixed, Map, Is}
use Rattle.cf_lower_relate.specs.Scalars.{c_scalar}

-- the constant 0 as a scalar of this sort
pub nought-fits : (u : Sort) → fitted (scalar_of (c_type u)) (value.Number Int (pos 0)) ≡ Ok (zero_of (c_scalar u))
nought-fits (number Char) = refl
nought-fits (number SChar) = refl
nought-fits (number UChar) = refl
nought-fits (number Short) = refl
nought-fits (number UShort) = refl
nought-fits (number Int) = refl
nought-fits (number UInt) = refl
nought-fits (number Long) = refl
nought-fits (number ULong) = refl
nought-fits (address t) = refl
nought-fits (code t) = refl

pub nought-stays : (u : Sort) → fitted (scalar_of (c_type u)) (zero_of (c_scalar u)) ≡ Ok (zero_of (c_scalar u))
nought-stays (number Char) = refl
nought-stays (number SChar) = refl
nought-stays (number UChar) = refl
nought-stays (number Short) = refl
nought-stays (number UShort) = refl
nought-stays (number Int) = refl
nought-stays (number UInt) = refl
nought-stays (number Long) = refl
nought-stays (number ULong) = refl
nought-stays (address t) = refl
nought-stays (code t) = refl

pub nought-size : (u : Sort) → size_of (zero_of (c_scalar u)) ≡ bytes_of (c_scalar u)
nought-size (number k) = refl
nought-size (address t) = refl
nought-size (code t) = refl

pub nought-same : (u : Sort) → as_scalar (c_scalar u) (zero_of (c_scalar u)) ≡ Some (zero_of (c_scalar u))
nought-same (number Char) = refl
nought-same (number SChar) = refl
nought-same (number UChar) = refl
nought-same (number Short) = refl
nought-same (number UShort) = refl
nought-same (number Int) = refl
nought-same (number UInt) = refl
nought-same (number Long) = refl
nought-same (number ULong) = refl
nought-same (address t) = refl
nought-same (code t) = refl

-- ---- in the source

number-nought : (K : Fixed) (F : Map) (k : Kind) → Is K F (number k) (source.Number (pos 0)) (zero_of (c_scalar (number k)))
number-nought K F Char = record { is = refl; fits = refl }
number-nought K F SChar = record { is = refl; fits = refl }
number-nought K F UChar = record { is = refl; fits = refl }
number-nought K F Short = record { is = refl; fits = refl }
number-nought K F UShort = record { is = refl; fits = refl }
number-nought K F Int = record { is = refl; fits = refl }
number-nought K F UInt = record { is = refl; fits = refl }
number-nought K F Long = record { is = refl; fits = refl }
number-nought K F ULong = record { is = refl; fits = refl }

null-nought : (K : Fixed) (F : Map) (t : SourceType) → Is K F (sort_to t) source.Null (zero_of (c_scalar (sort_to t)))
null-nought K F (takes p t) = refl
null-nought K F (gives t c) = refl
null-nought K F t = refl

same-nought : (K : Fixed) (F : Map) (v : source.Value) (u a : Sort) → Some u ≡ Some a → Is K F u v (zero_of (c_scalar u)) → Is K F a v (zero_of (c_scalar a))
same-nought K F v u a e h = subst (λ s. Is K F s v (zero_of (c_scalar s))) (some-same e) h
  where
    some-same : Some u ≡ Some a → u ≡ a
    some-same q = cc

-- what static storage holds at first is 0 or null in both
pub zero-is : (K : Fixed) (F : Map) (t : SourceType) (u : Sort) → sort_of t ≡ Some u → Is K F u (source.zero_of t) (zero_of (c_scalar u))
zero-is K F (integer k) u e = same-nought K F (source.Number (pos 0)) (number k) u e (number-nought K F k)
zero-is K F (enumeration n) u e = same-nought K F (source.Number (pos 0)) (number Int) u e (number-nought K F Int)
zero-is K F (pointer t) u e = same-nought K F source.Null (sort_to (without_const t)) u e (null-nought K F (without_const t))
zero-is K F (reference t) u e = same-nought K F source.Null (sort_to (without_const t)) u e (null-nought K F (without_const t))
zero-is K F (const t) u e = zero-is K F t u e
zero-is K F t u e = absurd (cc)
