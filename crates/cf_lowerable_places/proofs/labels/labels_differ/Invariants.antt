use Rattle.std.proofs.Common.{◌≡◌, [], length}
use Rattle.cf_lower_held.specs.declared.scene.Scene.{Scene}
use Rattle.cf_lower_held.specs.Scenes.{statements_in}
use Rattle.cf_plain.specs.Valid.{labels_differ}
use Rattle.cf_lowerable_places.proofs.labels.labels_differ.Given as goal

abbrev pub invariant-loop-s : goal.invariant-loop-s
invariant-loop-s l = (x : Scene) → labels_differ [] (statements_in x l.rest) ≡ labels_differ [] (statements_in x l.all)

abbrev pub decreases-loop-s : goal.decreases-loop-s
decreases-loop-s l = length l.rest
