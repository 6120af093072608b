-- The virtual functions that a function's core uses without dispatch (10.2, 12.4).
use Rattle.std.specs.Prelude.{Bool, true, ◌&&◌, if◌then◌else◌, List, [], ◌∷◌, ◌++◌, filter, bytes_eq, option_to_list, Option, Some, None}
use Rattle.std.specs.List.{flat_map, list_any}
use Rattle.cf_core.specs.Types.{Name, SourceType, class, array, const, parameters, result}
use Rattle.cf_core.specs.Classes.{Class, MemberFunction, Special, class_named, destructor_in, assignment_in, special_names}
use Rattle.cf_core.specs.Core.{Core, local_temporary, Role, plain_function, member_function, constructor, destructor, Function, call, build, temporary, declare, bind, delete, delete_array, assign}
use Rattle.cf_core.specs.Building.{BuiltPart, building}
use Rattle.cf_core.specs.Calls.{has_virtual_destructor}
use Rattle.cf_core.specs.Nodes.{nodes}

-- the destructor that destroys an object of this type, or each element of an array
abbrev pub destructors : List Class → SourceType → List Name
destructors classes (class c) = option_to_list (destructor_in (class_named classes c))
destructors classes (array t n) = destructors classes t
destructors classes (const t) = destructors classes t
destructors classes t = []

abbrev pub assignments : List Class → SourceType → List Name
assignments classes (class c) = special_names (assignment_in (class_named classes c))
assignments classes (array t n) = assignments classes t
assignments classes (const t) = assignments classes t
assignments classes t = []

-- the destructor of the object that an assignment gives, which is a temporary
abbrev pub assignment_results : List Class → SourceType → List Name
assignment_results classes (class c) = of_result (assignment_in (class_named classes c))
  where
    of_result : Option Special → List Name
    of_result None = []
    of_result (Some f) = destructors classes (result f.type)
assignment_results classes (array t n) = assignment_results classes t
assignment_results classes (const t) = assignment_results classes t
assignment_results classes t = []

-- what one node uses: a function that it calls by name, the destructor of what it declares, makes or deletes, the assignment of what it assigns
abbrev pub used_by : List Class → Core → List Name
used_by classes (call name t object args) = name ∷ []
used_by classes (build name t args) = name ∷ []
used_by classes (temporary t e) = destructors classes t
used_by classes (declare i t e) = destructors classes t
used_by classes (bind (local_temporary i t) e) = destructors classes t
used_by classes (delete t e) = if has_virtual_destructor classes t then [] else destructors classes t
used_by classes (delete_array t e) = destructors classes t
used_by classes (assign t a b es) = assignments classes t ++ assignment_results classes t
used_by classes e = []

abbrev pub part_destructors : List Class → List BuiltPart → List Name
part_destructors classes ps = flat_map (λ (x : BuiltPart). destructors classes x.type) ps

-- a destructor destroys the bases and members of its object, and every function its parameters
abbrev pub used_by_role : List Class → Role → List Name
used_by_role classes plain_function = []
used_by_role classes (member_function c) = []
used_by_role classes (constructor c) = []
used_by_role classes (destructor c) = part_destructors classes (building classes c true)

abbrev pub is_virtual_name : List Class → Name → Bool
is_virtual_name classes name =
    list_any (λ (c : Class). list_any (λ (f : MemberFunction). f.is_virtual && bytes_eq f.name name) c.functions) classes

-- the virtual functions that a core uses without dispatch
abbrev pub named_in : List Class → Core → List Name
named_in classes e = filter (is_virtual_name classes) (flat_map (used_by classes) (nodes e))

abbrev pub Named : List Class → Function → List Name
Named classes f =
    named_in classes f.body
    ++ filter (is_virtual_name classes) (used_by_role classes f.role ++ flat_map (destructors classes) (parameters f.type))
