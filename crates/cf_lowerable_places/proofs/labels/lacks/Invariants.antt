use Rattle.std.proofs.Common.{◌≡◌, drop}
use Rattle.cf_lower_held.specs.declared.scene.Scene.{Scene}
use Rattle.cf_lower_held.specs.Scenes.{statements_in}
use Rattle.cf_lowerable_places.specs.Labels.{lacks}
use Rattle.cf_lowerable_places.proofs.labels.lacks.Given as goal

abbrev pub invariant-loop-s : goal.invariant-loop-s
invariant-loop-s l = (x : Scene) → lacks l.label (statements_in x (drop l.s-index l.all)) ≡ lacks l.label (statements_in x l.all)
