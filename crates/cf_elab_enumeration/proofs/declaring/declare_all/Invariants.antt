use Rattle.std.proofs.Common.{◌≡◌, drop}
use Rattle.cf_elab_enumeration.specs.Shut as shut
use Rattle.cf_elab_enumeration.proofs.declaring.declare_all.Given as goal

abbrev pub invariant-loop-one : goal.invariant-loop-one
invariant-loop-one l = record {
  left : shut.declare_all l.ty (drop l.one-index l.list) l.env ≡ shut.declare_all l.ty l.list l.initial.env;
  types : l.env.types ≡ l.initial.env.types;
}
