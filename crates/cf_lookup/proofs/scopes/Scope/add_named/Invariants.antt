use Rattle.std.proofs.Common.{◌≡◌, ◌++◌, take}
use Rattle.cf_lookup.proofs.scopes.Scope.add_named.Given as goal

abbrev pub invariant-loop-entity : goal.invariant-loop-entity
invariant-loop-entity l = l.found.items ≡ l.initial.found.items ++ take l.entity-index l.named
