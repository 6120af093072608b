use Rattle.std.proofs.Common.{◌≤◌, sym, subst}
use Rattle.cc_whole_eval.proofs.Sizes.{bytes-small}
use Rattle.cc_whole_eval.proofs.assignment.carry_to.Goals as goal

pub carry-requires : goal.carry-requires
carry-requires c = subst (λ n. n ≤ 4) (sym c.bytes_of.ensures) (bytes-small c.args.at.scalar)
