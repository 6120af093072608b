-- Names entered in an open scope (3.2), and types found through other names (9.1).
use Rattle.std.specs.Prelude.{ℕ, zero, suc, Bool, true, false, cond, List, [], length, get_or, Option, Some, None}
use Rattle.cf_syntax.specs.declared.type_names.ClassNames.{ClassNames}
use Rattle.cf_syntax.specs.declared.type_names.NameKind.{NameKind}
use Rattle.cf_syntax.specs.declared.type_names.NameKind.TheVariants as kind
use Rattle.cf_syntax.specs.declared.type_names.Scope.{Scope}
use Rattle.cf_syntax.specs.declared.type_names.Scope.TheVariants as open_scope
use Rattle.cf_syntax.specs.NamesData.{Names}
use Rattle.cf_syntax.specs.Names.{or_else, newest, in_scope, kind_of, declared_in}

-- a name in the last of so many open scopes, and in the file's where there is none
abbrev pub entered_at : ℕ → Names → List ℕ → NameKind → Names
entered_at n names name kind = declared_in n names (record { name = name; kind = kind })

abbrev pub if_type : Option NameKind → Option NameKind
if_type None = None
if_type (Some kind.Value) = None
if_type (Some kind.Plain) = Some kind.Plain
if_type (Some (kind.OfClass class)) = Some (kind.OfClass class)

-- the type of this name in one open scope
abbrev pub type_in : List ClassNames → List ℕ → Scope → Option NameKind
type_in classes name scope = if_type (in_scope classes name scope)

-- the type of this name in the innermost open scope where it is a type: behind `class`, `struct` and `enum` other names don't hide it
abbrev pub find_type : Names → List ℕ → Option NameKind
find_type names name = or_else (newest (type_in names.classes name) names.inner) (if_type (kind_of names.file name))

-- ---- scopes that are no class's

abbrev pub is_class_scope : Scope → Bool
is_class_scope (open_scope.Block entries) = false
is_class_scope (open_scope.Class class) = true

-- how many of the first n scopes are left where those of classes at their end are left out
abbrev pub outside_in : ℕ → List Scope → ℕ
outside_in zero scopes = zero
outside_in (suc n) scopes = cond (is_class_scope (get_or scopes n (open_scope.Block []))) (outside_in n scopes) (suc n)

-- the smallest open scope that isn't a class's, as so many open scopes; none is the file's
abbrev pub outside_classes : Names → ℕ
outside_classes names = outside_in (length names.inner) names.inner
