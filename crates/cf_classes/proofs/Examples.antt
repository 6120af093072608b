-- Small classes on which the definitions are tried by evaluation.
use Rattle.std.proofs.Common.{ℕ, true, false, List, [], ◌∷◌, codes}
use Rattle.cf_base.specs.declared.kind.Kind.TheVariants as kind
use Rattle.cf_types.specs.declared.ty.Ty.TheVariants as ty
use Rattle.cf_types.specs.Table.{Table}
use Rattle.cf_classes.specs.declared.class.ClassDef.{ClassDef}
use Rattle.cf_classes.specs.declared.class.BaseDef.{BaseDef}
use Rattle.cf_classes.specs.declared.class.MemberDef.{MemberDef}
use Rattle.cf_classes.specs.declared.class.What.TheVariants as what
use Rattle.cf_classes.specs.Signature.{Signature}
use Rattle.cf_classes.specs.declared.class.Access.TheVariants as access

-- the types by number: 0 char, 1 int, 2 void, 3 `int()`, 4 `const char`, 5 `const char*`, 6 `int() const`, 7 to 10 the classes 0 to 3, 11 `const int`, 12 an array of three of class 0,
-- 13 and 14 the enumerations 0 and 1, 15 a pointer to the second, 16 `C0&`, 17 a function of an int, 18 a function of a `C0&`
abbrev pub types : Table
types = record {
  types =
      ty.Int kind.Char ∷ ty.Int kind.Int ∷ ty.Void ∷ ty.Fun 0 ∷ ty.Const 0 ∷ ty.Ptr 4 ∷ ty.Fun 1 ∷ ty.Class 0 ∷ ty.Class 1 ∷ ty.Class 2 ∷ ty.Class 3
      ∷ ty.Const 1 ∷ ty.Array 7 3 ∷ ty.Enum 0 ∷ ty.Enum 1 ∷ ty.Ptr 14 ∷ ty.Ref 7 ∷ ty.Fun 2 ∷ ty.Fun 3 ∷ [];
  funs = record { result = 1; params = []; is_const = false } ∷ record { result = 1; params = []; is_const = true }
      ∷ record { result = 1; params = 1 ∷ []; is_const = false } ∷ record { result = 1; params = 16 ∷ []; is_const = false } ∷ [];
}

abbrev pub field : List ℕ → ℕ → MemberDef
field name t = record {
  name = name;
  what = what.Field;
  ty = t;
  access = access.Public;
  is_static = false;
  is_virtual = false;
  is_pure = false;
  is_inline = false;
  defaults = 0;
  at = 0;
}

abbrev pub static_field : List ℕ → ℕ → MemberDef
static_field name t = record (field name t) { is_static = true }

-- a function of type `int()` that is defined in its class
abbrev pub plain : List ℕ → MemberDef
plain name = record (field name 3) { what = what.Function; is_inline = true }

abbrev pub virtual_function : List ℕ → MemberDef
virtual_function name = record (plain name) { is_virtual = true }

abbrev pub pure_function : List ℕ → MemberDef
pure_function name = record (virtual_function name) { is_pure = true; is_inline = false }

-- the signature of a function of type `int()`
abbrev pub function_named : List ℕ → Signature
function_named name = record { name = name; params = []; is_const = false }

abbrev pub destructor : MemberDef
destructor = record (plain (codes "__dt")) { what = what.Destructor }

abbrev pub virtual_destructor : MemberDef
virtual_destructor = record destructor { is_virtual = true }

abbrev pub constructor : MemberDef
constructor = record (plain (codes "__ct")) { what = what.Constructor }

abbrev pub from : ℕ → BaseDef
from c = record { class = c; is_virtual = false; access = access.Public }

abbrev pub virtual_from : ℕ → BaseDef
virtual_from c = record { class = c; is_virtual = true; access = access.Public }

abbrev pub struct_of : List BaseDef → List MemberDef → ClassDef
struct_of bases members = record { is_struct = true; bases = bases; members = members; friends = [] }

-- V; A and B with V as a virtual base; D with A and B
abbrev pub diamond : List MemberDef → List MemberDef → List MemberDef → List MemberDef → List (ℕ × ClassDef)
diamond v a b d =
    (3, struct_of (from 1 ∷ from 2 ∷ []) d) ∷ (2, struct_of (virtual_from 0 ∷ []) b) ∷ (1, struct_of (virtual_from 0 ∷ []) a) ∷ (0, struct_of [] v) ∷ []

-- the same without virtual bases, so that D has two parts of class V
abbrev pub two_parts : List MemberDef → List (ℕ × ClassDef)
two_parts v = (3, struct_of (from 1 ∷ from 2 ∷ []) []) ∷ (2, struct_of (from 0 ∷ []) []) ∷ (1, struct_of (from 0 ∷ []) []) ∷ (0, struct_of [] v) ∷ []
