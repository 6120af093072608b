-- The classes of a file as far as the meaning depends on them.
use Rattle.std.specs.Prelude.{ℕ, ◌&&◌, ◌||◌, not, nat_le, Bool, true, false, if◌then◌else◌, List, [], ◌∷◌, ◌++◌, Option, Some, None, codes, map, filter, find, length, slice_get, bytes_eq}
use Rattle.std.specs.List.{list_any, flat_map}
use Rattle.cf_classes.specs.declared.class.BaseDef.{BaseDef}
use Rattle.cf_classes.specs.declared.class.ClassDef.{ClassDef}
use Rattle.cf_classes.specs.declared.class.MemberDef.{MemberDef}
use Rattle.cf_classes.specs.declared.class.MemberRef.{MemberRef}
use Rattle.cf_classes.specs.declared.class.What.{What}
use Rattle.cf_classes.specs.declared.class.What.TheVariants as what
use Rattle.cf_classes.specs.ClassTable.{latest_first, members_of}
use Rattle.cf_classes.specs.Description.{description}
use Rattle.cf_classes.specs.LinkName.{Code, Function as FunctionCode, Codes, none as no_codes, more as more_codes, code_all, code_of}
use Rattle.cf_classes.specs.Signature.{may_override, overrides, virtuals}
use Rattle.cf_classes.specs.Special.{Made, Declared, Generated, Trivial, Absent, specials, fields_of}
use Rattle.cf_core.specs.Types.{Name, SourceType, void, class, reference, takes, gives, const, parameters}
use Rattle.cf_core.specs.Classes.{Base, MemberFunction, Special, Class}
use Rattle.cf_core.specs.Places.{class_of}
use Rattle.cf_core.specs.FromTypes.{Tables, type_of, class_code}

-- Link names of member functions.

abbrev pub parameter_codes : Codes → Name
parameter_codes no_codes = codes "v"
parameter_codes (more_codes t ts) = code_all (more_codes t ts)

abbrev pub function_name : Name → Name → Bool → Code → Name
function_name name scope is_static (FunctionCode is_const ps t) =
    name ++ codes "__" ++ scope ++ (if is_const then codes "C" else []) ++ (if is_static then codes "S" else []) ++ codes "F" ++ parameter_codes ps
function_name name scope is_static t = []

-- of a member of the class with this code, or its signature in the empty scope
abbrev pub name_in_scope : Tables → Name → MemberDef → Name
name_in_scope tables scope m = function_name m.name scope m.is_static (code_of tables.types tables.classes m.ty)

abbrev pub destructor_name : Name → Name
destructor_name scope = codes "__dt__" ++ scope ++ codes "Fv"

-- a generated function whose parameter is a reference to a const object of the class
abbrev pub taking_itself : Name → Name → SourceType → Special
taking_itself name scope t = record { name = name ++ codes "__" ++ scope ++ codes "FRC" ++ scope; type = takes (reference (const (class scope))) (gives t false) }

abbrev pub signature_in : Tables → Option MemberDef → Name
signature_in tables None = destructor_name []
signature_in tables (Some m) = name_in_scope tables [] m

-- the signature of a member function; the number after the last member stands for the generated destructor
abbrev pub signature_of : Tables → MemberRef → Name
signature_of tables m = signature_in tables (slice_get (members_of (latest_first tables.classes) m.class) m.index)

-- Special functions.

abbrev pub is_constructor : What → Bool
is_constructor what.Constructor = true
is_constructor w = false

abbrev pub is_destructor : What → Bool
is_destructor what.Destructor = true
is_destructor w = false

abbrev pub is_reference_to : Name → List SourceType → ℕ → Bool
is_reference_to c (reference t ∷ ts) defaults = bytes_eq (class_of t) c && nat_le (length ts) defaults
is_reference_to c ts defaults = false

abbrev pub takes_its_class : Name → List SourceType → Bool
takes_its_class c (reference t ∷ []) = bytes_eq (class_of t) c
takes_its_class c (t ∷ []) = bytes_eq (class_of t) c
takes_its_class c ts = false

abbrev pub is_copy : Tables → Name → MemberDef → Bool
is_copy tables c m = is_constructor m.what && is_reference_to c (parameters (type_of tables m.ty)) m.defaults

abbrev pub is_assignment : Tables → Name → MemberDef → Bool
is_assignment tables c m = not m.is_static && bytes_eq m.name (codes "__as") && takes_its_class c (parameters (type_of tables m.ty))

-- Of several the one that takes a reference to const comes first, and then the first that is declared.

abbrev pub takes_const : List SourceType → Bool
takes_const (reference (const t) ∷ ts) = true
takes_const ts = false

abbrev pub first_or : Option MemberDef → Option MemberDef → Option MemberDef
first_or None other = other
first_or (Some m) other = Some m

abbrev pub preferred : Tables → List MemberDef → Option MemberDef
preferred tables ms = first_or (find (λ (m : MemberDef). takes_const (parameters (type_of tables m.ty))) ms) (slice_get ms 0)

abbrev pub found_special : Tables → Name → Option MemberDef → Option Special
found_special tables scope None = None
found_special tables scope (Some m) = Some (record { name = name_in_scope tables scope m; type = type_of tables m.ty })

abbrev pub found_name : Tables → Name → Option MemberDef → Option Name
found_name tables scope None = None
found_name tables scope (Some m) = Some (name_in_scope tables scope m)

-- a special function that is declared or needed
abbrev pub special_of : {A : Type 0} → Made → Option A → A → Option A
special_of Declared declared generated = declared
special_of Generated declared generated = Some generated
special_of Trivial declared generated = None
special_of Absent declared generated = None

abbrev pub is_needed : Made → Bool
is_needed Declared = false
is_needed Generated = true
is_needed Trivial = false
is_needed Absent = false

-- Classes.

abbrev pub base_in : Tables → BaseDef → Base
base_in tables b = record { class = class_code tables.classes b.class; is_virtual = b.is_virtual }

abbrev pub function_in : Tables → Name → List MemberDef → MemberDef → MemberFunction
function_in tables scope inherited m = record {
  signature = name_in_scope tables [] m;
  name = name_in_scope tables scope m;
  is_virtual = m.is_virtual || overrides tables.types inherited m;
  is_pure = m.is_pure;
}

-- a needed generated destructor is virtual where a base's destructor is (12.4)
abbrev pub generated_destructor : Name → List MemberDef → MemberFunction
generated_destructor scope inherited = record {
  signature = destructor_name [];
  name = destructor_name scope;
  is_virtual = list_any (λ (m : MemberDef). is_destructor m.what) inherited;
  is_pure = false;
}

-- a defined class, by its number
abbrev pub class_in : Tables → ℕ → ClassDef → Class
class_in tables c def =
    let defs = latest_first tables.classes in
    let scope = class_code tables.classes c in
    let has = specials tables.types defs c in
    let inherited = flat_map (λ (b : BaseDef). virtuals tables.types defs b.class) def.bases in
    record {
      code = scope;
      bases = map (base_in tables) def.bases;
      fields = map (λ (m : MemberDef). type_of tables m.ty) (fields_of def);
      functions =
          map (function_in tables scope inherited) (filter may_override def.members)
          ++ (if is_needed has.destructor then generated_destructor scope inherited ∷ [] else []);
      is_built = list_any (λ (m : MemberDef). is_constructor m.what) def.members || is_needed has.constructor;
      destructor = special_of has.destructor (found_name tables scope (find (λ (m : MemberDef). is_destructor m.what) def.members)) (destructor_name scope);
      copy = special_of has.copy (found_special tables scope (preferred tables (filter (is_copy tables scope) def.members))) (taking_itself (codes "__ct") scope void);
      assignment = special_of has.assign (found_special tables scope (preferred tables (filter (is_assignment tables scope) def.members))) (taking_itself (codes "__as") scope (reference (class scope)));
      description = description tables.types tables.classes c;
    }

-- the defined classes, in order of definition
abbrev pub classes_in : Tables → List (ℕ × ClassDef) → List Class
classes_in tables [] = []
classes_in tables (d ∷ rest) = class_in tables d.0 d.1 ∷ classes_in tables rest
