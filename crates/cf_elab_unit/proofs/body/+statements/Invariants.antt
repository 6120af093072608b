use Rattle.std.proofs.Common.{◌≡◌, drop}
use Rattle.cf_elab_env.specs.Holds.{Grows}
use Rattle.cf_elab_unit.specs.Body.Shut as shut
use Rattle.cf_elab_env.proofs.InOrder.{behind}
use Rattle.cf_elab_unit.proofs.body.+statements.Given as goal

abbrev pub invariant-lists::statements-loop-s : goal.invariant-lists::statements-loop-s
invariant-lists::statements-loop-s l = record {
  made : shut.statements l.list l.fn.env ≡ behind l.found (shut.statements (drop l.s-index l.list) l.env);
  grows : Grows l.fn.env.types l.env.types;
}
