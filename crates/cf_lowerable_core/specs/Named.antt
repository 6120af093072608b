-- The names of literals, by functions and static objects.
use Rattle.std.specs.Prelude.{List}
use Rattle.std.specs.List.{flat_map}
use Rattle.cf_core.specs.Core.{Function, Static}
use Rattle.cf_core.specs.Nodes.{nodes}
use Rattle.cf_core.specs.Types.{Name}
use Rattle.cf_sequence_lowered.specs.Literals.{literal_of, owner_name}

abbrev pub function_literals : Function → List Name
function_literals f = flat_map (literal_of f.name) (nodes f.body)

abbrev pub static_literals : Static → List Name
static_literals x = flat_map (literal_of (owner_name x)) (nodes x.start)
