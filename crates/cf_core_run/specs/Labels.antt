-- The labels of a switch, and what they pass, statement by statement.
use Rattle.std.specs.Prelude.{ℕ, ◌&&◌, Bool, true, false, List, map, ℤ, int_le}
use Rattle.cf_core.specs.FromTypes.{Tables}
use Rattle.cf_core.specs.Types.{SourceType}
use Rattle.cf_core.specs.Core.{Core, Cores, declare, case_label, default_label}
use Rattle.cf_core.specs.View.{listed}
use Rattle.cf_core.specs.Objects.{new_local}
use Rattle.cf_core.specs.Run.{Act, ◌>>=◌, ◌>>◌, frame_changed, lists_in_scope}
use Rattle.cf_core.specs.Calls.{Flow}
use Rattle.cf_core.specs.Statements.{passes}
use Rattle.cf_run_tree.specs.declared.node.Node.{Node}
use Rattle.cf_run_tree.specs.declared.program.Program.{Program}
use Rattle.cf_run_tree.specs.Tree.{core_of}

abbrev pub row : Tables → Program → List Node → Cores
row T p es = listed (map (core_of T p) es)

-- the label for a number
abbrev pub is_case : ℤ → Core → Bool
is_case z (case_label y) = int_le y z && int_le z y
is_case z e = false

abbrev pub is_default : Core → Bool
is_default default_label = true
is_default e = false

-- a statement is passed before the others come
abbrev pub passes_before : Core → Act Flow → Act Flow
passes_before e next = passes e >> next

-- a local without an initialiser is passed
abbrev pub passes_blank : ℕ → SourceType → Act (Unit {0})
passes_blank i t = new_local i t >>= (λ o. frame_changed (lists_in_scope o))

-- a declaration is passed
abbrev pub passes_local : ℕ → SourceType → Core → Act (Unit {0})
passes_local i t e = passes (declare i t e)
