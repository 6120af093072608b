use Rattle.std.proofs.Common.{◌≡◌, [], ◌&&◌, drop}
use Rattle.cf_lower.specs.Constants.{all_known_after}
use Rattle.cf_lower_constants.specs.Sites.{statements_at}
use Rattle.cf_lower_program.specs.Alike.{all_told_after, statements_alike}
use Rattle.cf_lowerable_starts.specs.Telling.{knows, tells}
use Rattle.cf_lowerable_starts.proofs.walk.+statements.Given as goal

abbrev pub invariant-statements_alike-loop-statement : goal.invariant-statements_alike-loop-statement
invariant-statements_alike-loop-statement l = record {
  alike : (l.so_far && statements_alike l.name (statements_at l.x (drop l.statement-index l.statement-items)) l.x.owner.now (knows l.x l.s) (tells l.x l.s))
      ≡ statements_alike l.name (statements_at l.x l.statement-items) l.x.owner.now (knows l.x l.initial.s) (tells l.x l.initial.s);
  known : all_known_after [] (statements_at l.x (drop l.statement-index l.statement-items)) l.x.owner.now (knows l.x l.s)
      ≡ all_known_after [] (statements_at l.x l.statement-items) l.x.owner.now (knows l.x l.initial.s);
  told : all_told_after (statements_at l.x (drop l.statement-index l.statement-items)) l.x.owner.now (knows l.x l.s) (tells l.x l.s)
      ≡ all_told_after (statements_at l.x l.statement-items) l.x.owner.now (knows l.x l.initial.s) (tells l.x l.initial.s);
}
