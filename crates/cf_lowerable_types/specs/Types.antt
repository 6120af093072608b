-- What is asked of types, by what stands outermost in them.
use Rattle.std.specs.Prelude.{◌≡◌, ℕ, ◌<◌, ◌==◌, Bool, true, false}
use Rattle.cf_base.specs.declared.kind.Kind.{Kind}
use Rattle.cf_base.specs.declared.kind.Kind.TheVariants.{Char, SChar, UChar}
use Rattle.cf_types.specs.declared.ty.Ty.{Ty}
use Rattle.cf_types.specs.declared.ty.Ty.TheVariants as ty
use Rattle.cf_core.specs.FromTypes.{Tables, type_of}
use Rattle.cf_core.specs.Places.{is_const}
use Rattle.cf_core.specs.Types.{SourceType, array, const, kind_number}
use Rattle.cf_lower_layout.specs.Layout.{has_bytes, const_once}
use Rattle.cf_lower_place.specs.Leaf.{const_on_none}
use Rattle.cf_lower_place.specs.Named.{is_signature}
use Rattle.cf_lower_types.specs.declared.form.Form.{Form}
use Rattle.cf_lower_types.specs.declared.form.Form.TheVariants as form
use Rattle.cf_lowerable_types.specs.declared.types.Layer.{Layer}
use Rattle.cf_lowerable_types.specs.declared.types.Layer.TheVariants as layer

abbrev pub layer_in : Ty → Layer
layer_in (ty.Const t) = layer.Const t
layer_in (ty.Array t n) = layer.Array t n
layer_in (ty.Fun f) = layer.Function
layer_in (ty.Class c) = layer.Class
layer_in v = layer.Other

-- what is told of a type that is no const and no array
pub record Told (t : SourceType) (has_its named : Bool) : Type 0 where
  pub bytes : has_bytes t ≡ has_its
  pub once : const_once t ≡ true
  pub signature : is_signature t ≡ named
  pub on_none : const_on_none t ≡ true
  pub no_const : is_const t ≡ false

abbrev pub IsLayer : Tables → ℕ → Layer → Type 0
IsLayer tables t (layer.Const u) = type_of tables t ≡ const (type_of tables u)
IsLayer tables t (layer.Array u n) = type_of tables t ≡ array (type_of tables u) n
IsLayer tables t layer.Function = Told (type_of tables t) true true
IsLayer tables t layer.Class = Told (type_of tables t) false false
IsLayer tables t layer.Other = Told (type_of tables t) true false

-- what is under it stands before a number
abbrev pub IsBelow : ℕ → Layer → Type 0
IsBelow n (layer.Const u) = u < n
IsBelow n (layer.Array u m) = u < n
IsBelow n l = Unit {0}

abbrev pub is_of_kind : Kind → Form → Bool
is_of_kind k (form.Integer l) = kind_number k == kind_number l
is_of_kind k x = false

abbrev pub is_character : Kind → Bool
is_character Char = true
is_character SChar = true
is_character UChar = true
is_character k = false

-- the form of characters
abbrev pub is_of_characters : Form → Bool
is_of_characters (form.Integer k) = is_character k
is_of_characters x = false
