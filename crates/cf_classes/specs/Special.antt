-- Which of the four special member functions a class has, and which generated ones are needed (12.1, 12.4, 12.8).
use Rattle.std.specs.Prelude.{ℕ, ◌+◌, Bool, true, false, not, ◌==◌, ◌&&◌, ◌||◌, nat_eq, nat_le, if◌then◌else◌, List, [], ◌∷◌, ◌++◌, length, map, filter, codes, Option, Some, slice_get}
use Rattle.std.specs.Cmp.Lexicographic.{pointwise}
use Rattle.std.specs.List.{list_any, filter_map}
use Rattle.cf_types.specs.declared.ty.Ty.{Ty}
use Rattle.cf_types.specs.declared.ty.Ty.TheVariants as ty
use Rattle.cf_types.specs.Table.{Table}
use Rattle.cf_classes.specs.declared.class.ClassDef.{ClassDef}
use Rattle.cf_classes.specs.declared.class.MemberDef.{MemberDef}
use Rattle.cf_classes.specs.declared.class.What.{What}
use Rattle.cf_classes.specs.declared.class.What.TheVariants as what
use Rattle.cf_classes.specs.Subobject.{virtual_bases}
use Rattle.cf_classes.specs.Signature.{member_params, virtuals}
use Rattle.cf_classes.specs.TypeTree.{class_in, is_fixed}

-- declared in the class; generated and needed; generated and not needed; or not there
pub data Made : Type 0 where
  Declared : Made
  Generated : Made
  Trivial : Made
  Absent : Made

pub record Specials : Type 0 where
  pub constructor : Made  -- the one without arguments
  pub destructor : Made
  pub copy : Made  -- the copy constructor
  pub assign : Made  -- the copying assignment

abbrev pub no_specials : Specials
no_specials = record { constructor = Absent; destructor = Absent; copy = Absent; assign = Absent }

abbrev is_field : What → Bool
is_field what.Field = true
is_field other = false

abbrev is_constructor : What → Bool
is_constructor what.Constructor = true
is_constructor other = false

abbrev is_destructor : What → Bool
is_destructor what.Destructor = true
is_destructor other = false

-- the data members that each object has
abbrev pub fields_of : ClassDef → List MemberDef
fields_of def = filter (λ m. is_field m.what && not m.is_static) def.members

-- whether a type is the class c, const or not
abbrev is_class_ty : Table → ℕ → Option Ty → Bool
is_class_ty types c (Some (ty.Class d)) = c == d
is_class_ty types c other = false

abbrev is_class_or_const : Table → ℕ → Option Ty → Bool
is_class_or_const types c (Some (ty.Class d)) = c == d
is_class_or_const types c (Some (ty.Const t)) = is_class_ty types c (slice_get types.types t)
is_class_or_const types c other = false

abbrev is_reference_to : Table → ℕ → Option Ty → Bool
is_reference_to types c (Some (ty.Ref t)) = is_class_or_const types c (slice_get types.types t)
is_reference_to types c other = false

abbrev takes_itself : Table → ℕ → ℕ → List ℕ → Bool
takes_itself types c defaults [] = false
takes_itself types c defaults (p ∷ ps) = is_reference_to types c (slice_get types.types p) && nat_le (length ps) defaults

abbrev takes_no_argument : Table → MemberDef → Bool
takes_no_argument types m = nat_le (length (member_params types m)) m.defaults

abbrev assigns_itself : Table → ℕ → List ℕ → Bool
assigns_itself types c (p ∷ []) = is_class_or_const types c (slice_get types.types p) || is_reference_to types c (slice_get types.types p)
assigns_itself types c other = false

abbrev is_copy : Table → ℕ → MemberDef → Bool
is_copy types c m = is_constructor m.what && takes_itself types c m.defaults (member_params types m)

abbrev is_assign : Table → ℕ → MemberDef → Bool
is_assign types c m = not m.is_static && pointwise nat_eq m.name (codes "__as") && assigns_itself types c (member_params types m)

abbrev is_absent : Made → Bool
is_absent Absent = true
is_absent other = false

-- whether a function is declared or needed
abbrev pub is_entered : Made → Bool
is_entered Declared = true
is_entered Generated = true
is_entered other = false

-- one that is not declared: not there where a part has none, and needed where the class or a part says so
abbrev generated : Bool → Bool → List Made → Made
generated excluded needed parts =
    if excluded || list_any is_absent parts then Absent else (if needed || list_any is_entered parts then Generated else Trivial)

abbrev specials_in : Table → List (ℕ × ClassDef) → ℕ → (ℕ → Specials) → ClassDef → Specials
specials_in types defs c rec def =
    let fields = fields_of def in
    let direct = map rec (map (λ b. b.class) def.bases ++ filter_map (λ m. class_in types m.ty) fields) in
    let parts = map rec (virtual_bases defs c) ++ direct in
    let fixed = list_any (λ m. is_fixed types m.ty) fields in
    let by_pointer = nat_le 1 (length (virtuals types defs c) + length (virtual_bases defs c)) in
    let constructors = filter (λ m. is_constructor m.what) def.members in
    record {
      constructor =
          if nat_le 1 (length constructors)
          then (if list_any (takes_no_argument types) constructors then Declared else Absent)
          else generated fixed by_pointer (map (λ s. s.constructor) parts);
      destructor = if list_any (λ m. is_destructor m.what) def.members then Declared else generated false false (map (λ s. s.destructor) direct);
      copy = if list_any (is_copy types c) def.members then Declared else generated false by_pointer (map (λ s. s.copy) parts);
      assign = if list_any (is_assign types c) def.members then Declared else generated fixed by_pointer (map (λ s. s.assign) parts);
    }

-- what each class has of the four
abbrev pub specials : Table → List (ℕ × ClassDef) → ℕ → Specials
specials types [] c = no_specials
specials types (d ∷ older) c =
    elim (c == d.0) as (λ _. Specials) [ true ↦ specials_in types (d ∷ older) c (specials types older) d.1 | false ↦ specials types older c ]
