-- Types as elaboration makes them: const stands where it may, nothing points to or holds references, and an array is of objects, of no
-- more than an int counts. Two types have one shape where they are the same but for const and the numbers of elements.
use Rattle.std.specs.Prelude.{◌≡◌, ℕ, Bool, true, false, ◌&&◌, not, nat_le}
use Rattle.cf_core.specs.Types.{SourceType, void, integer, enumeration, class, pointer, reference, array, takes, gives, data_member, function_member, const}
use Rattle.cf_core.specs.Places.{is_reference}
use Rattle.cf_core.specs.Typing.{is_function}
use Rattle.cf_core_typed.specs.Same.{takes_const}

-- the greatest number of elements whose difference is an int
abbrev pub most : ℕ
most = 2147483647

abbrev pub is_proper : SourceType → Bool
is_proper void = true
is_proper (integer k) = true
is_proper (enumeration e) = true
is_proper (class c) = true
is_proper (pointer t) = not (is_reference t) && is_proper t
is_proper (reference t) = not (is_reference t) && is_proper t
is_proper (array t n) = not (is_reference t) && (is_proper t && (not (is_function t) && nat_le n most))
is_proper (takes p t) = is_proper p && is_proper t
is_proper (gives t c) = is_proper t
is_proper (data_member c t) = is_proper t
is_proper (function_member c t) = is_proper t
is_proper (const t) = takes_const t && is_proper t

-- a type of objects that names do not stand for
pub record Whole (t : SourceType) : Type 0 where
  pub proper : is_proper t ≡ true
  pub no_reference : is_reference t ≡ false

abbrev pub shape : SourceType → SourceType
shape void = void
shape (integer k) = integer k
shape (enumeration e) = enumeration e
shape (class c) = class c
shape (pointer t) = pointer (shape t)
shape (reference t) = reference (shape t)
shape (array t n) = array (shape t) 0
shape (takes p t) = takes (shape p) (shape t)
shape (gives t c) = gives (shape t) false
shape (data_member c t) = data_member c (shape t)
shape (function_member c t) = function_member c (shape t)
shape (const t) = shape t
