use Rattle.std.proofs.Common.{◌≡◌, ◌++◌, drop}
use Rattle.cf_lower.specs.Constants.{constant_code, all_known_after}
use Rattle.cf_lower_stmt.specs.Steps.{written}
use Rattle.cf_lower_types.specs.Bare.{classes_of}
use Rattle.cf_lower_constants.specs.Sites.{statements_at, told_all}
use Rattle.cf_lower_constants.proofs.walk.+constants.Given as goal

abbrev pub invariant-constants-loop-s : goal.invariant-constants-loop-s
invariant-constants-loop-s l = record {
  code : written l.code ++ constant_code (classes_of l.x.tables.now) (statements_at l.x (drop l.s-index l.s-items)) l.x.owner.now (told_all l.x l.known)
      ≡ written l.initial.code ++ constant_code (classes_of l.x.tables.now) (statements_at l.x l.s-items) l.x.owner.now (told_all l.x l.initial.known);
  known : all_known_after (classes_of l.x.tables.now) (statements_at l.x (drop l.s-index l.s-items)) l.x.owner.now (told_all l.x l.known)
      ≡ all_known_after (classes_of l.x.tables.now) (statements_at l.x l.s-items) l.x.owner.now (told_all l.x l.initial.known);
}
