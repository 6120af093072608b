-- Class definitions of a file, and what they are as plain data.
use Rattle.std.proofs.Common.{◌≡◌, ℕ, List, [], ◌∷◌, refl}
use Rattle.std.specs.Prelude.{Bool, Option, Some, None, true, false, codes}
use Rattle.std.specs.Fmt.{digits}
use Rattle.cf_base.specs.declared.kind.Kind.TheVariants.{Int}
use Rattle.cf_types.specs.declared.ty.Ty.TheVariants as ty
use Rattle.cf_classes.specs.declared.label.Label.{Label}
use Rattle.cf_classes.specs.declared.class.Access.TheVariants.{Public}
use Rattle.cf_classes.specs.declared.class.BaseDef.{BaseDef}
use Rattle.cf_classes.specs.declared.class.ClassDef.{ClassDef}
use Rattle.cf_classes.specs.declared.class.MemberDef.{MemberDef}
use Rattle.cf_classes.specs.declared.class.What.{What}
use Rattle.cf_classes.specs.declared.class.What.TheVariants as what
use Rattle.cf_core.specs.Types.{Name, void, integer, class, reference, takes, gives, const, SourceType}
use Rattle.cf_core.specs.FromTypes.{Tables, type_of}
use Rattle.cf_core.specs.Classes.{Class, Special}
use Rattle.cf_core.specs.FromClasses.{class_in}

abbrev label : Name → Label
label name = record { name = name; outer = None }

abbrev member_as : Name → What → ℕ → Bool → MemberDef
member_as name what t is_virtual = record {
  name = name;
  what = what;
  ty = t;
  access = Public;
  is_static = false;
  is_virtual = is_virtual;
  is_pure = false;
  is_inline = true;
  defaults = 0;
  at = 0;
}

abbrev plain_def : List BaseDef → List MemberDef → ClassDef
plain_def bs ms = record { is_struct = true; bases = bs; members = ms; friends = [] }

-- struct A{int a;virtual int f();virtual ~A();};struct B:virtual A{B(const B&);int f();};
abbrev A_def : ClassDef
A_def = plain_def [] (member_as (codes "a") what.Field 0 false ∷ member_as (codes "f") what.Function 1 true ∷ member_as (codes "__dt") what.Destructor 3 true ∷ [])

abbrev B_def : ClassDef
B_def = plain_def (record { class = 0; is_virtual = true; access = Public } ∷ []) (member_as (codes "__ct") what.Constructor 7 false ∷ member_as (codes "f") what.Function 1 false ∷ [])

abbrev tables : Tables
tables = record {
  types = record {
    types = ty.Int Int ∷ ty.Fun 0 ∷ ty.Void ∷ ty.Fun 1 ∷ ty.Class 1 ∷ ty.Const 4 ∷ ty.Ref 5 ∷ ty.Fun 2 ∷ ty.Ref 4 ∷ ty.Fun 3 ∷ [];
    funs = record { result = 0; params = []; is_const = false } ∷ record { result = 2; params = []; is_const = false } ∷ record { result = 2; params = 6 ∷ []; is_const = false } ∷ record { result = 2; params = 8 ∷ []; is_const = false } ∷ [];
  };
  classes = record { labels = label (codes "A") ∷ label (codes "B") ∷ []; enums = []; defined = (0, A_def) ∷ (1, B_def) ∷ [] };
}

copying_constructor_type : type_of tables 7 ≡ takes (reference (const (class (codes "1B")))) (gives void false)
unfolding digits
copying_constructor_type = refl

abbrev taking_const : Name → Name → SourceType → Special
taking_const c name t = record { name = name; type = takes (reference (const (class c))) (gives t false) }

-- A's default constructor, copy and assignment are generated and needed, since it has virtual functions
class_A :
    class_in tables 0 A_def
    ≡ record {
      code = codes "1A";
      bases = [];
      fields = integer Int ∷ [];
      functions =
          record { signature = codes "f__Fv"; name = codes "f__1AFv"; is_virtual = true; is_pure = false }
          ∷ record { signature = codes "__dt__Fv"; name = codes "__dt__1AFv"; is_virtual = true; is_pure = false } ∷ [];
      is_built = true;
      destructor = Some (codes "__dt__1AFv");
      copy = Some (taking_const (codes "1A") (codes "__ct__1AFRC1A") void);
      assignment = Some (taking_const (codes "1A") (codes "__as__1AFRC1A") (reference (class (codes "1A"))));
      description = codes "uda:i;ufvif:F_i;ufvi__dt:F_v;";
    }
unfolding digits
class_A = refl

-- B's copy constructor is declared; its destructor is generated, needed and virtual
class_B :
    class_in tables 1 B_def
    ≡ record {
      code = codes "1B";
      bases = record { class = codes "1A"; is_virtual = true } ∷ [];
      fields = [];
      functions =
          record { signature = codes "f__Fv"; name = codes "f__1BFv"; is_virtual = true; is_pure = false }
          ∷ record { signature = codes "__dt__Fv"; name = codes "__dt__1BFv"; is_virtual = true; is_pure = false } ∷ [];
      is_built = true;
      destructor = Some (codes "__dt__1BFv");
      copy = Some (taking_const (codes "1B") (codes "__ct__1BFRC1B") void);
      assignment = Some (taking_const (codes "1B") (codes "__as__1BFRC1B") (reference (class (codes "1B"))));
      description = codes "bvu1A;ufi__ct:FRC1B_v;ufvif:F_i;";
    }
unfolding digits
class_B = refl

-- struct B:virtual A{B(B&);B(const B&);..};: the copy constructor that takes a reference to const comes first
abbrev with_two_copies : ClassDef
with_two_copies = plain_def (record { class = 0; is_virtual = true; access = Public } ∷ []) (member_as (codes "__ct") what.Constructor 9 false ∷ member_as (codes "__ct") what.Constructor 7 false ∷ [])

abbrev copy_of : Class → Option Special
copy_of c = c.copy

constant_copy_comes_first : copy_of (class_in (record tables { classes = record { labels = label (codes "A") ∷ label (codes "B") ∷ []; enums = []; defined = (0, A_def) ∷ (1, with_two_copies) ∷ [] } }) 1 with_two_copies)
    ≡ Some (taking_const (codes "1B") (codes "__ct__1BFRC1B") void)
unfolding digits
constant_copy_comes_first = refl
