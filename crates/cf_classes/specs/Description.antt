-- The description of a class, which two files must have alike.
use Rattle.std.specs.Prelude.{ℕ, Bool, true, if◌then◌else◌, List, [], ◌++◌, codes}
use Rattle.std.specs.List.{flat_map}
use Rattle.std.specs.Fmt.{signed_decimal}
use Rattle.cf_types.specs.Table.{Table}
use Rattle.cf_classes.specs.declared.class.Access.{Access}
use Rattle.cf_classes.specs.declared.class.Access.TheVariants as access
use Rattle.cf_classes.specs.declared.class.BaseDef.{BaseDef}
use Rattle.cf_classes.specs.declared.class.MemberDef.{MemberDef}
use Rattle.cf_classes.specs.declared.class.What.{What}
use Rattle.cf_classes.specs.declared.class.What.TheVariants as what
use Rattle.cf_classes.specs.ClassTable.{ClassTable, latest_first, bases_of, members_of}
use Rattle.cf_classes.specs.LinkName.{code, code_of, class_names, scope_code}
use Rattle.cf_classes.specs.Signature.{inherited_virtuals, overrides}

-- u public, o protected, p private
abbrev access_code : Access → List ℕ
access_code access.Public = codes "u"
access_code access.Protected = codes "o"
access_code access.Private = codes "p"

-- b, v where it is virtual, its access, its class
abbrev base_text : ClassTable → BaseDef → List ℕ
base_text classes b =
    codes "b" ++ (if b.is_virtual then codes "v" else []) ++ access_code b.access ++ scope_code (class_names classes b.class) ++ codes ";"

-- f, v where it is virtual, 0 where pure, S where static, i where it is defined in the class
abbrev function_code : Bool → MemberDef → List ℕ
function_code virtual m =
    codes "f" ++ (if virtual then codes "v" else []) ++ (if m.is_pure then codes "0" else []) ++ (if m.is_static then codes "S" else [])
    ++ (if m.is_inline then codes "i" else [])

-- d data, s static data, t type, e and the value of an enumerator
abbrev kind_text : Bool → MemberDef → What → List ℕ
kind_text virtual m what.Field = if m.is_static then codes "s" else codes "d"
kind_text virtual m what.Function = function_code virtual m
kind_text virtual m what.Constructor = function_code virtual m
kind_text virtual m what.Destructor = function_code virtual m
kind_text virtual m what.Convert = function_code virtual m
kind_text virtual m (what.Nested c) = codes "t"
kind_text virtual m (what.Enumerator v) = codes "e" ++ signed_decimal v
kind_text virtual m what.Alias = codes "t"

abbrev member_text : Table → ClassTable → Bool → MemberDef → List ℕ
member_text types classes virtual m =
    access_code m.access ++ kind_text virtual m m.what ++ m.name ++ codes ":" ++ code (code_of types classes m.ty) ++ codes ";"

-- the bases and then the members of a class, each in order
abbrev pub description : Table → ClassTable → ℕ → List ℕ
description types classes c =
    let defs = latest_first classes in
    let inherited = inherited_virtuals types defs c in
    flat_map (base_text classes) (bases_of defs c)
    ++ flat_map (λ m. member_text types classes (if m.is_virtual then true else overrides types inherited m) m) (members_of defs c)
