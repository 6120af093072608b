use Rattle.cf_classes.proofs.sizes.+size_without_classes.Given as goal

abbrev pub decreases-size_without_classes : goal.decreases-size_without_classes
decreases-size_without_classes l = l.ty
