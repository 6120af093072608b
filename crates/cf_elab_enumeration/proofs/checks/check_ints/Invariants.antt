use Rattle.std.proofs.Common.{◌≡◌, take, drop, All}
use Rattle.cf_elab_enumeration.specs.Shut as shut
use Rattle.cf_elab_enumeration.proofs.CheckLaws.{IsInt}
use Rattle.cf_elab_enumeration.proofs.checks.check_ints.Given as goal

abbrev pub invariant-loop-one : goal.invariant-loop-one
invariant-loop-one l = record {
  left : shut.all_ints (drop l.one-index l.list) l.fn.env ≡ shut.all_ints l.list l.fn.env;
  ints : All IsInt (take l.one-index l.list);
}
