-- What is made of the parts of a statement, and what is known of them.
use Rattle.std.specs.Prelude.{ℕ, Bool, false, ◌||◌, Option, None, Some, option_map}
use Rattle.std.specs.Option.{option_map_or}
use Rattle.cf_core.specs.declared.node.Core.{Core as Node}
use Rattle.cf_core.specs.declared.node.Core.TheVariants as node
use Rattle.cf_types.specs.Table.{Table}
use Rattle.cf_elab.specs.Env.{Env}
use Rattle.cf_elab.specs.Operand.{Value, sort_of, is_void}
use Rattle.cf_elab.specs.Statement as row
use Rattle.cf_elab.specs.Statement.{Made}
use Rattle.cf_elab_env.specs.Holds.{Known, IsType}

abbrev pub if_made : ℕ → Node → Made → Option Made → Made
if_made at c a b =
    record (row.made at (node.If at c a.node (option_map (λ (m : Made). m.node) b))) { initialises = a.initialises || option_map_or (λ (m : Made). m.initialises) b false }

abbrev pub KnownIf : Table → Option Value → Type 0
KnownIf types None = Unit {0}
KnownIf types (Some v) = Known types v

abbrev pub TypedIf : Table → Option Value → Type 0
TypedIf types None = Unit {0}
TypedIf types (Some v) = IsType types v.type

unfoldable pub has_no_result : Env → Bool
has_no_result env = is_void (sort_of env.types env.hand.result)
