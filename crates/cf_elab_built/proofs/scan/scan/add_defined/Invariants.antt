use Rattle.std.proofs.Common.{◌≡◌, ◌++◌, drop, flat_map}
use Rattle.cf_elab.specs.Scan.{names_defined}
use Rattle.cf_elab_built.proofs.scan.scan.add_defined.Given as goal

abbrev pub invariant-loop-declarator : goal.invariant-loop-declarator
invariant-loop-declarator l =
    l.names ++ flat_map (names_defined l.only) (drop l.declarator-index l.declarators) ≡ l.initial.names ++ flat_map (names_defined l.only) l.declarators
