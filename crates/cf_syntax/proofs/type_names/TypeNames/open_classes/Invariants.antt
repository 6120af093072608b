use Rattle.std.proofs.Common.{◌≡◌, take}
use Rattle.cf_syntax.specs.Named.{opened}
use Rattle.cf_syntax.proofs.type_names.TypeNames.open_classes.Given as goal

abbrev pub invariant-loop-class : goal.invariant-loop-class
invariant-loop-class l = l.self ≡ opened l.fn.self (take l.class-index l.classes)
