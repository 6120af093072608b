use Rattle.std.proofs.Common.{◌≡◌, ◌++◌, drop, map}
use Rattle.cf_core.specs.FromTypes.{type_of}
use Rattle.cf_lower.specs.Functions.{own_locals}
use Rattle.cf_lower_types.specs.Bare.{classes_of}
use Rattle.cf_lower_fn.proofs.locals.add_locals.Given as goal

abbrev pub invariant-loop-id : goal.invariant-loop-id
invariant-loop-id l =
    l.made ++ own_locals (classes_of l.tables) l.number (map (type_of l.tables) (drop l.id-index l.types))
    ≡ l.initial.made ++ own_locals (classes_of l.tables) l.first (map (type_of l.tables) l.types)
