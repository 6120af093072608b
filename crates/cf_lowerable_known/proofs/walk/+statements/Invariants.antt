use Rattle.std.proofs.Common.{◌≡◌, [], ◌&&◌, drop}
use Rattle.cf_lower.specs.Constants.{all_known_after}
use Rattle.cf_lower_constants.specs.Sites.{statements_at, told_all}
use Rattle.cf_lower_program.specs.Starts.{starts_known}
use Rattle.cf_lowerable_known.proofs.walk.+statements.Given as goal

abbrev pub invariant-statements_known-loop-statement : goal.invariant-statements_known-loop-statement
invariant-statements_known-loop-statement l = record {
  known : (l.so_far && starts_known (statements_at l.x (drop l.statement-index l.statement-items)) l.x.owner.now (told_all l.x l.known))
      ≡ starts_known (statements_at l.x l.statement-items) l.x.owner.now (told_all l.x l.initial.known);
  behind : all_known_after [] (statements_at l.x (drop l.statement-index l.statement-items)) l.x.owner.now (told_all l.x l.known)
      ≡ all_known_after [] (statements_at l.x l.statement-items) l.x.owner.now (told_all l.x l.initial.known);
}
