use Rattle.std.proofs.Common.{◌≡◌, ◌++◌, drop}
use Rattle.cf_lower.specs.Kept.{after_all}
use Rattle.cf_lower.specs.Statements.{all_lowered, items}
use Rattle.cf_lower_held.specs.Holds.{erasing}
use Rattle.cf_lower_held.specs.Scenes.{holding, locals_in, statements_in}
use Rattle.cf_lower_stmt.specs.Steps.{in_front, inside, written, written_items}
use Rattle.cf_lower_stmt.proofs.walk.+statements.Given as goal

abbrev pub invariant-statements-loop-s : goal.invariant-statements-loop-s
invariant-statements-loop-s l = record {
  code : written l.code ++ all_lowered (statements_in l.x (drop l.s-index l.s-items)) (inside l.x l.around) (holding l.x l.rs)
      ≡ written l.initial.code ++ all_lowered (statements_in l.x l.s-items) (inside l.x l.around) (holding l.x l.initial.rs);
  held : erasing (after_all (locals_in l.x) (statements_in l.x (drop l.s-index l.s-items)) (holding l.x l.rs))
      ≡ erasing (after_all (locals_in l.x) (statements_in l.x l.s-items) (holding l.x l.initial.rs));
}

abbrev pub invariant-items-loop-s : goal.invariant-items-loop-s
invariant-items-loop-s l =
    in_front (written_items l.made) (items (statements_in l.x (drop l.s-index l.s-items)) (inside l.x l.around) (holding l.x l.rs) (holding l.x l.running))
    ≡ items (statements_in l.x l.s-items) (inside l.x l.around) (holding l.x l.rs) (holding l.x l.rs)
