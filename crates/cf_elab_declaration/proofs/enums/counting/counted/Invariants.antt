use Rattle.std.proofs.Common.{◌≡◌, drop, Some, pos}
use Rattle.cf_elab_env.specs.Holds.{Grows}
use Rattle.cf_elab_declaration.specs.Enums.Shut as shut
use Rattle.cf_elab_declaration.proofs.EnumsLaws.CountingLaws.{behind}
use Rattle.cf_elab_declaration.proofs.enums.counting.counted.Given as goal

abbrev pub invariant-loop-e : goal.invariant-loop-e
invariant-loop-e l = record {
  made : shut.counted l.ty (Some (pos 0)) l.list l.initial.env ≡ behind l.all (shut.counted l.ty l.next (drop l.e-index l.list) l.env);
  grows : Grows l.initial.env.types l.env.types;
}
