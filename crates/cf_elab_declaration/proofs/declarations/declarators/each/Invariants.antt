use Rattle.std.proofs.Common.{◌≡◌, drop}
use Rattle.cf_elab_env.specs.Holds.{Grows}
use Rattle.cf_elab_env.proofs.InOrder.{behind}
use Rattle.cf_elab_declaration.specs.Declarations.Shut as shut
use Rattle.cf_elab_declaration.proofs.declarations.declarators.each.Given as goal

abbrev pub invariant-loop-d : goal.invariant-loop-d
invariant-loop-d l = record {
  made : shut.declarators l.gathered l.declarators l.initial.env ≡ behind l.found (shut.declarators l.gathered (drop l.d-index l.declarators) l.env);
  grows : Grows l.initial.env.types l.env.types;
}
