-- Scalars take as many bytes in the source as in the small C, and hold what is stored.
use Rattle.std.proofs.Common.{◌≡◌, ◌<◌, true, List, Some, ℤ, refl, sym, ◌∙◌, ap, arith}
use Rattle.cf_base.specs.declared.kind.Kind.{Kind}
use Rattle.cf_base.specs.declared.kind.Kind.TheVariants.{Char, SChar, UChar, Short, UShort, Int, UInt, Long, ULong}
use Rattle.cf_base.specs.Integers.{fits}
use Rattle.cf_core.specs.Types.{SourceType, integer, enumeration, pointer, reference, takes, gives, const, without_const}
use Rattle.cf_core.specs.Classes.{Class}
use Rattle.cf_core.specs.Places.{is_scalar}
use Rattle.cf_core.specs.Size.{size}
use Rattle.cf_core.specs.Store as source
use Rattle.cc_whole_memory.specs.declared.value.Value.{Value}
use Rattle.cc_whole_memory.specs.declared.value.Value.TheVariants as value
use Rattle.cc_whole_memory.specs.Values.{bytes_of, size_of, as_scalar}
use Rattle.cf_lower_layout.specs.Sorts.{Sort, number, address, code, sort_to, sort_of, c_kind}
use Rattle.cf_lower_relate.specs.Scalars.{c_scalar}
use Rattle.cf_lower_relate.specs.Map.{Fixed, Map, Is}
use Rattle.cf_lower_relate.proofs.Words.{convert-same, fits-c}

-- ---- bytes

pub bytes-some : (t : Sort) → 0 < bytes_of (c_scalar t)
bytes-some (number Char) = omega arith
bytes-some (number SChar) = omega arith
bytes-some (number UChar) = omega arith
bytes-some (number Short) = omega arith
bytes-some (number UShort) = omega arith
bytes-some (number Int) = omega arith
bytes-some (number UInt) = omega arith
bytes-some (number Long) = omega arith
bytes-some (number ULong) = omega arith
bytes-some (address t) = omega arith
bytes-some (code t) = omega arith

pub sort-eq : {s t : Sort} → Some s ≡ Some t → s ≡ t
sort-eq e = cc

pointer-bytes : (u : SourceType) → 4 ≡ bytes_of (c_scalar (sort_to u))
pointer-bytes (takes p t) = refl
pointer-bytes (gives t c) = refl
pointer-bytes u = refl

number-bytes : (cs : List Class) (k : Kind) → size cs (integer k) ≡ bytes_of (c_scalar (number k))
number-bytes cs Char = refl
number-bytes cs SChar = refl
number-bytes cs UChar = refl
number-bytes cs Short = refl
number-bytes cs UShort = refl
number-bytes cs Int = refl
number-bytes cs UInt = refl
number-bytes cs Long = refl
number-bytes cs ULong = refl

-- an object of a scalar's type is as large as the C's scalar
pub sort-bytes : (cs : List Class) (u : SourceType) (t : Sort) → sort_of u ≡ Some t → size cs u ≡ bytes_of (c_scalar t)
sort-bytes cs (integer k) t e = number-bytes cs k ∙ ap (λ s. bytes_of (c_scalar s)) (sort-eq e)
sort-bytes cs (enumeration n) t e = ap (λ s. bytes_of (c_scalar s)) (sort-eq e)
sort-bytes cs (pointer u) t e = pointer-bytes (without_const u) ∙ ap (λ s. bytes_of (c_scalar s)) (sort-eq e)
sort-bytes cs (reference u) t e = pointer-bytes (without_const u) ∙ ap (λ s. bytes_of (c_scalar s)) (sort-eq e)
sort-bytes cs (const u) t e = sort-bytes cs u t e
sort-bytes cs u t e = absurd (cc)

pub sort-scalar : (u : SourceType) (t : Sort) → sort_of u ≡ Some t → is_scalar u ≡ true
sort-scalar (integer k) t e = refl
sort-scalar (enumeration n) t e = refl
sort-scalar (pointer u) t e = refl
sort-scalar (reference u) t e = refl
sort-scalar (const u) t e = sort-scalar u t e
sort-scalar u t e = absurd (cc)

-- ---- what is stored

module _ (K : Fixed) (F : Map) where
  number-stays : (k : Kind) (z : ℤ) (c : Value) → c ≡ value.Number (c_kind k) z → fits k z ≡ true → as_scalar (c_scalar (number k)) c ≡ Some c
  number-stays k z c e h =
      ap (as_scalar (c_scalar (number k))) e
      ∙ ap (λ y. Some (value.Number (c_kind k) y)) (convert-same (c_kind k) z (fits-c k z ∙ h))
      ∙ ap (λ (y : Value). Some y) (sym e)

  -- a value that a scalar holds is of the C's scalar
  pub is-scalar : (t : Sort) (v : source.Value) (c : Value) → Is K F t v c → as_scalar (c_scalar t) c ≡ Some c
  is-scalar (number k) (source.Number z) c h = number-stays k z c h.is h.fits
  is-scalar (address t) source.Null c h = ap (as_scalar (c_scalar (address t))) h ∙ ap (λ (y : Value). Some y) (sym h)
  is-scalar (address t) (source.At p) c h = ap (as_scalar (c_scalar (address t))) h.is ∙ ap (λ (y : Value). Some y) (sym h.is)
  is-scalar (code t) source.Null c h = ap (as_scalar (c_scalar (code t))) h ∙ ap (λ (y : Value). Some y) (sym h)
  is-scalar (code t) (source.Code f) c h = ap (as_scalar (c_scalar (code t))) h.is ∙ ap (λ (y : Value). Some y) (sym h.is)
  is-scalar t v c h = absurd h

  pub is-bytes : (t : Sort) (v : source.Value) (c : Value) → Is K F t v c → size_of c ≡ bytes_of (c_scalar t)
  is-bytes (number k) (source.Number z) c h = ap size_of h.is
  is-bytes (address t) source.Null c h = ap size_of h
  is-bytes (address t) (source.At p) c h = ap size_of h.is
  is-bytes (code t) source.Null c h = ap size_of h
  is-bytes (code t) (source.Code f) c h = ap size_of h.is
  is-bytes t v c h = absurd h
