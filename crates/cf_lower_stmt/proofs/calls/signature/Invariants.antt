use Rattle.std.proofs.Common.{◌≡◌, ◌++◌, drop, map}
use Rattle.cf_core.specs.FromTypes.{type_of}
use Rattle.cf_lower.specs.Statements.{c_types}
use Rattle.cf_lower_stmt.proofs.calls.signature.Given as goal

abbrev pub invariant-loop-parameter : goal.invariant-loop-parameter
invariant-loop-parameter l =
    l.made ++ c_types (map (type_of l.x.tables.now) (drop l.parameter-index l.parameter-items)) ≡ c_types (map (type_of l.x.tables.now) l.parameter-items)
