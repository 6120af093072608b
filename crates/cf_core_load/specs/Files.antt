-- The program of trees that the core of a file is, or the place of its first construct that has no form in the plain program: functions come before
-- static objects, each in order of definition.
use Rattle.std.specs.Prelude.{Bool, true, false, ◌||◌, if◌then◌else◌, List, [], ◌∷◌, ◌++◌, map, Option, None, option_map, is_some}
use Rattle.std.specs.List.{flat_map}
use Rattle.cf_types.specs.Table.{Table}
use Rattle.cf_core.specs.Types.{Name}
use Rattle.cf_core.specs.Joined.{name_in}
use Rattle.cf_core.specs.NodePlace.{place}
use Rattle.cf_core.specs.FromUnit.{Unit}
use Rattle.cf_core.specs.declared.unit.Role.{Role}
use Rattle.cf_core.specs.declared.unit.Role.TheVariants as role
use Rattle.cf_core.specs.declared.unit.CoreFn.{CoreFn}
use Rattle.cf_core.specs.declared.unit.CoreStatic.{CoreStatic}
use Rattle.cf_run_tree.specs.declared.program.RunFn.{RunFn}
use Rattle.cf_run_tree.specs.declared.program.RunStatic.{RunStatic}
use Rattle.cf_run_tree.specs.declared.program.Program.{Program}
use Rattle.cf_run_tree.specs.declared.program.Signature.{Signature}
use Rattle.cf_core_shape.specs.Shapes.{each, object_type_of, signature}
use Rattle.cf_core_node.specs.declared.defined.Defined.{Defined}
use Rattle.cf_core_node.specs.declared.defined.FunctionHead.{FunctionHead}
use Rattle.cf_core_node.specs.declared.defined.StaticHead.{StaticHead}
use Rattle.cf_core_node.specs.Formed.{Formed, placed, after, made, all}
use Rattle.cf_core_node.specs.Nodes.{node_of}

-- the name of what is local to the file (3.3)
abbrev pub own_name : Bool → Name → List Name
own_name true n = n ∷ []
own_name false n = []

abbrev pub own_functions : List CoreFn → List Name
own_functions fs = flat_map (λ (f : CoreFn). own_name f.is_local f.name) fs

abbrev pub own_statics : List CoreStatic → List Name
own_statics xs = flat_map (λ (x : CoreStatic). own_name x.is_local x.name) xs

abbrev pub own_names : Unit → List Name
own_names unit = own_functions unit.functions ++ own_statics unit.statics

-- what the file defines, by link names
abbrev pub function_head : List Name → CoreFn → FunctionHead
function_head own f = record { name = name_in 1 own f.name; params = f.params; result = f.result }

abbrev pub static_head : List Name → CoreStatic → StaticHead
static_head own x = record { name = name_in 1 own x.name; ty = x.ty }

abbrev pub defined : Unit → Defined
defined unit = record {
  own = own_names unit;
  functions = map (function_head (own_names unit)) unit.functions;
  statics = map (static_head (own_names unit)) unit.statics;
}

-- no member of a class
abbrev pub plain_head : Role → Option Signature → Option Signature
plain_head role.Plain s = s
plain_head (role.Member c) s = None
plain_head (role.Constructor c) s = None
plain_head (role.Destructor c) s = None

-- it has a constant initialiser, or is a local whose initialiser stands in its function (6.7, 8.4)
abbrev pub starts_alone : CoreStatic → Bool
starts_alone x = x.is_constant || is_some x.owner

module _ (types : Table) (file : Defined) where
  abbrev pub function : CoreFn → Formed RunFn
  function f =
      after (placed (place f.body) (plain_head f.role (signature types f.params f.result))) (λ s.
      after (placed (place f.body) (each (object_type_of types) f.locals)) (λ locals.
      made (λ body. record {
        name = name_in 1 file.own f.name;
        signature = s;
        locals = locals;
        body = body;
        is_shared = f.is_shared;
        is_local = f.is_local;
      }) (node_of types file f.body)))

  abbrev pub object : CoreStatic → Formed RunStatic
  object x =
      after (placed (place x.start) (if starts_alone x then object_type_of types x.ty else None)) (λ t.
      made (λ start. record {
        name = name_in 1 file.own x.name;
        ty = t;
        start = start;
        owner = option_map (name_in 1 file.own) x.owner;
        is_constant = x.is_constant;
        is_shared = x.is_shared;
        is_local = x.is_local;
      }) (node_of types file x.start))

-- of a file without classes
abbrev pub program_of : Unit → Formed Program
program_of unit =
    after (all (map (function unit.types (defined unit)) unit.functions)) (λ fs.
    made (λ xs. record { functions = fs; statics = xs }) (all (map (object unit.types (defined unit)) unit.statics)))
