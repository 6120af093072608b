-- What a node of an expression is, by its type: a place, or a value that a scalar may take.
use Rattle.std.specs.Prelude.{◌≡◌, ◌⊎◌, true, Some, None}
use Rattle.cf_base.specs.declared.kind.Kind.{Kind}
use Rattle.cf_base.specs.declared.kind.Kind.TheVariants.{Int, UInt, ULong}
use Rattle.cf_core.specs.Types.{SourceType, integer, pointer, const, without_const}
use Rattle.cf_core.specs.Places.{is_scalar}
use Rattle.cf_core.specs.Typing.{Typing, is_integral}
use Rattle.cf_core_typed.specs.Same.{Same, is_bare, is_normal}

-- a place of the type
pub record IsPlace (x : Typing) (t : SourceType) : Type 0 where
  pub type : SourceType
  pub here : x.place ≡ Some type
  pub same : Same type t
  pub normal : is_normal type ≡ true

-- the node itself tells the type of its value
pub record Typed (x : Typing) (t : SourceType) : Type 0 where
  pub type : SourceType
  pub here : x.type ≡ Some type
  pub same : Same type t
  pub bare : is_bare type ≡ true
  pub normal : is_normal type ≡ true

-- an integer type that holds each value of this one
abbrev pub wide_kind : Kind → Kind
wide_kind UInt = ULong
wide_kind ULong = ULong
wide_kind k = Int

abbrev pub wide : SourceType → SourceType
wide (integer k) = integer (wide_kind k)
wide (const t) = wide t
wide t = integer Int

-- Constants, and a choice between them, are of each integer type that holds them.
pub record Untyped (x : Typing) (t : SourceType) : Type 0 where
  pub untold : x.type ≡ None
  pub integral : is_integral (without_const t) ≡ true
  pub wide : x.value (wide t) ≡ true

-- a value of the type: it is taken where the type is wanted, and it initialises a scalar of the type
pub record IsValue (x : Typing) (t : SourceType) : Type 0 where
  pub value : (u : SourceType) → Same t u → x.value u ≡ true
  pub start : is_scalar t ≡ true → (u : SourceType) → Same t u → x.start u ≡ true
  pub form : Typed x t ⊎ Untyped x t

-- a value that points to what is of this type
pub record Points (x : Typing) (t : SourceType) : Type 0 where
  pub type : SourceType
  pub here : x.type ≡ Some (pointer type)
  pub same : Same type t
  pub normal : is_normal type ≡ true
