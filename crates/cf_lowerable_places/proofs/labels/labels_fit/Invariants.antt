use Rattle.std.proofs.Common.{◌≡◌, drop}
use Rattle.cf_lower_held.specs.declared.scene.Scene.{Scene}
use Rattle.cf_lower_held.specs.Scenes.{statements_in}
use Rattle.cf_lower_place.specs.InPlace.{labels_fit}
use Rattle.cf_lowerable_places.proofs.labels.labels_fit.Given as goal

abbrev pub invariant-loop-s : goal.invariant-loop-s
invariant-loop-s l = (x : Scene) → labels_fit l.kind (statements_in x (drop l.s-index l.s-items)) ≡ labels_fit l.kind (statements_in x l.s-items)
