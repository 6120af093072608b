-- Member functions as they are called (5.2.2, 10.2).
use Rattle.std.specs.Prelude.{ℕ, Bool, false, not, ◌==◌, ◌&&◌, ◌||◌, if◌then◌else◌, List, [], Option, Some, slice_get}
use Rattle.std.specs.List.{find}
use Rattle.std.specs.Option.{option_map_or}
use Rattle.cf_classes.specs.declared.class.MemberDef.{MemberDef}
use Rattle.cf_classes.specs.declared.class.MemberRef.{MemberRef}
use Rattle.cf_classes.specs.ClassTable.{members_of}
use Rattle.cf_classes.specs.Signature.{inherited_virtuals, overrides}
use Rattle.cf_core.specs.FromClasses.{name_in_scope}
use Rattle.cf_core.specs.FromTypes.{class_code}
use Rattle.cf_core.specs.declared.node.Core.{Core as Node}
use Rattle.cf_core.specs.declared.node.Core.TheVariants as node
use Rattle.cf_elab.specs.Env.{Env, Name, Default}
use Rattle.cf_elab.specs.Operand.{Value, place_of, sort_of, is_class}
use Rattle.cf_elab.specs.Members.{class_defs}

-- a class value without a place is a temporary (12.2)
abbrev pub object_place : Value → Value
object_place v = if v.is_lvalue then v else place_of v.at (node.Temporary v.at v.type v.node) v.type false

-- a value that nothing takes: of a class it is an object all the same
abbrev pub unused : Env → Value → Node
unused env v = if is_class (sort_of env.types v.type) then (object_place v).node else v.node

abbrev pub member_at : Env → MemberRef → Option MemberDef
member_at env m = slice_get (members_of (class_defs env) m.class) m.index

abbrev pub method_link : Env → MemberRef → MemberDef → Name
method_link env m d = name_in_scope (record { types = env.types; classes = env.classes }) (class_code env.classes m.class) d

abbrev pub is_virtual : Env → MemberRef → MemberDef → Bool
is_virtual env m d = not d.is_static && (d.is_virtual || overrides env.types (inherited_virtuals env.types (class_defs env) m.class) d)

abbrev pub defaults_in : Env → MemberRef → List Default
defaults_in env m = option_map_or (λ (x : MemberRef × List Default). x.1) (find (λ (x : MemberRef × List Default). (x.0.class == m.class) && (x.0.index == m.index)) env.member_defaults) []

-- dispatched where the function is virtual and no class qualifies its name (10.2)
abbrev pub on_object : ℕ → Bool → Env → MemberRef → MemberDef → Node → List Node → Node
on_object at qualified env m d object args =
    if is_virtual env m d && not qualified then node.VirtualCall at m d.ty object args else node.Call at (method_link env m d) d.ty (Some object) args
