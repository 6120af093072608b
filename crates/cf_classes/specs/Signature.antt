-- Member functions that override one another, and which are virtual (10.2).
use Rattle.std.specs.Prelude.{ℕ, Bool, true, false, not, ◌&&◌, ◌||◌, nat_eq, List, [], ◌++◌, filter, codes, slice_get}
use Rattle.std.specs.Cmp.Lexicographic.{pointwise}
use Rattle.std.specs.List.{flat_map, list_any}
use Rattle.cf_types.specs.Table.{Table}
use Rattle.cf_classes.specs.declared.class.ClassDef.{ClassDef}
use Rattle.cf_classes.specs.declared.class.MemberDef.{MemberDef}
use Rattle.cf_classes.specs.declared.class.What.{What}
use Rattle.cf_classes.specs.declared.class.What.TheVariants as what
use Rattle.cf_classes.specs.ClassTable.{made, members_of, bases_of}
use Rattle.cf_classes.specs.TypeTree.{fun_of, params_of, is_const_fun}

abbrev is_function_kind : What → Bool
is_function_kind what.Function = true
is_function_kind what.Destructor = true
is_function_kind what.Convert = true
is_function_kind other = false

-- whether a member is a function that may be virtual
abbrev pub may_override : MemberDef → Bool
may_override m = is_function_kind m.what && not m.is_static

abbrev same_bool : Bool → Bool → Bool
same_bool true b = b
same_bool false b = not b

abbrev pub member_params : Table → MemberDef → List ℕ
member_params types m = params_of (fun_of types (slice_get types.types m.ty))

abbrev pub is_const_member : Table → MemberDef → Bool
is_const_member types m = is_const_fun (fun_of types (slice_get types.types m.ty))

-- what a function has in common with those that override it: name, parameters' types and constness; the result may differ
pub record Signature : Type 0 where
  pub name : List ℕ
  pub params : List ℕ
  pub is_const : Bool

abbrev pub signature : Table → MemberDef → Signature
signature types m = record { name = m.name; params = member_params types m; is_const = is_const_member types m }

-- a destructor's, a generated one's too
abbrev pub destructor_signature : Signature
destructor_signature = record { name = codes "__dt"; params = []; is_const = false }

abbrev pub same_signature : Signature → Signature → Bool
same_signature f g = pointwise nat_eq f.name g.name && pointwise nat_eq f.params g.params && same_bool f.is_const g.is_const

-- whether it has the signature of one of these virtual functions
abbrev pub overrides : Table → List MemberDef → MemberDef → Bool
overrides types virtuals m = may_override m && list_any (λ v. same_signature (signature types v) (signature types m)) virtuals

-- the virtual functions among the members of a class, by those of its bases: those declared so, and those that override one
abbrev pub virtual_members : Table → List MemberDef → List MemberDef → List MemberDef
virtual_members types inherited members = filter (λ m. may_override m && (m.is_virtual || overrides types inherited m)) members

-- the virtual functions of a class and of its bases
abbrev pub virtuals : Table → List (ℕ × ClassDef) → ℕ → List MemberDef
virtuals types defs c =
    made [] (λ rec def. let inherited = flat_map (λ b. rec b.class) def.bases in virtual_members types inherited def.members ++ inherited) defs c

-- those of its bases
abbrev pub inherited_virtuals : Table → List (ℕ × ClassDef) → ℕ → List MemberDef
inherited_virtuals types defs c = flat_map (λ b. virtuals types defs b.class) (bases_of defs c)

-- those that it declares itself
abbrev pub declared_virtuals : Table → List (ℕ × ClassDef) → ℕ → List MemberDef
declared_virtuals types defs c = virtual_members types (inherited_virtuals types defs c) (members_of defs c)

-- whether a member is a virtual function that overrides none of a base
abbrev pub introduces : Table → List MemberDef → MemberDef → Bool
introduces types inherited m = may_override m && m.is_virtual && not (overrides types inherited m)

-- the virtual functions that a class introduces, in order
abbrev pub introduced : Table → List (ℕ × ClassDef) → ℕ → List MemberDef
introduced types defs c = let inherited = inherited_virtuals types defs c in filter (introduces types inherited) (members_of defs c)
