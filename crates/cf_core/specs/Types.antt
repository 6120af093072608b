-- Types by their structure. Classes and enumerations go by their link codes, so that equal types of two files are equal here.
use Rattle.std.specs.Prelude.{ℕ, Bool, true, false, ◌&&◌, ◌==◌, List, [], ◌∷◌, bytes_eq}
use Rattle.cf_base.specs.declared.kind.Kind.{Kind}
use Rattle.cf_base.specs.declared.kind.Kind.TheVariants.{Char, SChar, UChar, Short, UShort, Int, UInt, Long, ULong}

-- the bytes of an identifier, a link name or the link code of a class
abbrev pub Name : Type 0
Name = List ℕ

-- A type (3.6). A function type takes its parameters one after the other, and then gives its result; the flag is that of a const member function.
pub data SourceType : Type 0 where
  void : SourceType
  integer : Kind → SourceType
  enumeration : Name → SourceType
  class : Name → SourceType
  pointer : SourceType → SourceType
  reference : SourceType → SourceType
  array : SourceType → ℕ → SourceType
  takes : SourceType → SourceType → SourceType
  gives : SourceType → Bool → SourceType
  data_member : Name → SourceType → SourceType
  function_member : Name → SourceType → SourceType
  const : SourceType → SourceType

-- the type without the const of its own (3.6.2)
abbrev pub plain : SourceType → SourceType
plain (const t) = t
plain t = t

-- the type without any const
abbrev pub without_const : SourceType → SourceType
without_const void = void
without_const (integer k) = integer k
without_const (enumeration e) = enumeration e
without_const (class c) = class c
without_const (pointer t) = pointer (without_const t)
without_const (reference t) = reference (without_const t)
without_const (array t n) = array (without_const t) n
without_const (takes p t) = takes (without_const p) (without_const t)
without_const (gives t c) = gives (without_const t) false
without_const (data_member c t) = data_member c (without_const t)
without_const (function_member c t) = function_member c (without_const t)
without_const (const t) = without_const t

abbrev pub kind_number : Kind → ℕ
kind_number Char = 0
kind_number SChar = 1
kind_number UChar = 2
kind_number Short = 3
kind_number UShort = 4
kind_number Int = 5
kind_number UInt = 6
kind_number Long = 7
kind_number ULong = 8

abbrev pub bool_eq : Bool → Bool → Bool
bool_eq true b = b
bool_eq false true = false
bool_eq false false = true

-- whether two types are the same
abbrev pub type_eq : SourceType → SourceType → Bool
type_eq void void = true
type_eq (integer k) (integer l) = kind_number k == kind_number l
type_eq (enumeration e) (enumeration f) = bytes_eq e f
type_eq (class c) (class d) = bytes_eq c d
type_eq (pointer t) (pointer u) = type_eq t u
type_eq (reference t) (reference u) = type_eq t u
type_eq (array t n) (array u m) = type_eq t u && (n == m)
type_eq (takes p t) (takes q u) = type_eq p q && type_eq t u
type_eq (gives t c) (gives u d) = type_eq t u && bool_eq c d
type_eq (data_member c t) (data_member d u) = bytes_eq c d && type_eq t u
type_eq (function_member c t) (function_member d u) = bytes_eq c d && type_eq t u
type_eq (const t) (const u) = type_eq t u
type_eq t u = false

-- whether two types are the same otherwise than in const
abbrev pub same_but_const : SourceType → SourceType → Bool
same_but_const t u = type_eq (without_const t) (without_const u)

-- the types of a function's parameters, in order
abbrev pub parameters : SourceType → List SourceType
parameters (takes p t) = p ∷ parameters t
parameters t = []

-- the type of a function's result
abbrev pub result : SourceType → SourceType
result (takes p t) = result t
result (gives t c) = t
result t = void

-- the type of an array's elements; any other object alone counts as an array of one (5.7)
abbrev pub element : SourceType → SourceType
element (array t n) = t
element t = t

abbrev pub is_array : SourceType → Bool
is_array (array t n) = true
is_array (const t) = is_array t
is_array t = false

abbrev pub is_void : SourceType → Bool
is_void void = true
is_void (const t) = is_void t
is_void t = false

abbrev pub is_class : SourceType → Bool
is_class (class c) = true
is_class (const t) = is_class t
is_class t = false
