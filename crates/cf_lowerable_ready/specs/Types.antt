-- Types by what stands outermost in them behind const, with the const of their parts.
use Rattle.std.specs.Prelude.{◌≡◌, Option, Some, None}
use Rattle.cf_core.specs.Types.{SourceType, void, integer, enumeration, class, pointer, reference, array, data_member, function_member, const}
use Rattle.cf_core.specs.FromTypes.{Tables, type_of, class_code}
use Rattle.cf_classes.specs.LinkName.{scope_code, enum_names}
use Rattle.cf_lower_types.specs.declared.form.Form.{Form}
use Rattle.cf_lower_types.specs.declared.form.Form.TheVariants as form
use Rattle.cf_lower_types.specs.Bare.{fun_at}
use Rattle.cf_plain_kept.specs.Kept.{Kept, a_place, decayed, converted}

abbrev pub stripped : SourceType → SourceType
stripped (const t) = stripped t
stripped t = t

abbrev pub outer_type : Tables → Form → SourceType
outer_type tables form.Void = void
outer_type tables (form.Integer k) = integer k
outer_type tables (form.Enumeration e) = enumeration (scope_code (enum_names tables.classes e))
outer_type tables (form.Class c) = class (class_code tables.classes c)
outer_type tables (form.Pointer t) = pointer (type_of tables t)
outer_type tables (form.Reference t) = reference (type_of tables t)
outer_type tables (form.Array t n) = array (type_of tables t) n
outer_type tables (form.Function f) = fun_at tables f
outer_type tables (form.DataMember c t) = data_member (class_code tables.classes c) (type_of tables t)
outer_type tables (form.FunctionMember c f) = function_member (class_code tables.classes c) (fun_at tables f)

-- what is told of a function's type
pub record OfFunction (t : SourceType) : Type 0 where
  pub decays : decayed t ≡ Some (a_place t)
  pub converts : (x : Option Kept) → converted t x ≡ None

abbrev pub IsKnown : Tables → Form → Type 0
IsKnown tables (form.Function f) = OfFunction (fun_at tables f)
IsKnown tables x = Unit {0}
