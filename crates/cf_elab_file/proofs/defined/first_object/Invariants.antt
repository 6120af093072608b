use Rattle.std.proofs.Common.{◌≡◌, map, drop}
use Rattle.cf_elab.specs.File.{first_object}
use Rattle.cf_elab_env.specs.Seen.{entity_seen}
use Rattle.cf_elab_file.proofs.defined.first_object.Given as goal

abbrev pub invariant-loop-entity : goal.invariant-loop-entity
invariant-loop-entity l = first_object (map entity_seen (drop l.entity-index l.entities)) ≡ first_object (map entity_seen l.entities)
