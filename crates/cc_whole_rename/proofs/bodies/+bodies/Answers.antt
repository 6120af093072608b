use Rattle.std.proofs.Common.{◌≡◌, ◌∙◌, ◌∷◌, [], ◌++◌, ap}
use Rattle.cc_whole_rename.specs.Renamed.{renaming, statement_renamed, part_renamed}
use Rattle.cc_whole_rename.proofs.OneMore.{renamed_more}
use Rattle.cc_whole_rename.proofs.bodies.+bodies.Goals as goal

pub statements-loop-one-preserved : goal.statements-loop-one-preserved
statements-loop-one-preserved t c =
    let kept = c.loop-one.invariant.kept in
    let r = renaming c.args.statics.now.unit c.args.statics.now.names c.args.hidden.now in
    let made : c.in_ok-statement.field-0 ≡ statement_renamed c.one-item.result r =
    c.in_ok-statement.ensures.made ∙ ap (λ h. statement_renamed c.one-item.result (renaming c.args.statics.now.unit c.args.statics.now.names h)) kept in
    record {
      kept = c.in_ok-statement.ensures.kept ∙ kept;
      made = renamed_more statement_renamed c.as_slice-one-items.result.now c.loop-one.one-index c.one-item.result r c.loop-one.made c.push.new.self c.loop-one-test.true c.one-item.is
          c.loop-one.invariant.made (c.in_ok-push.ensures.ok ∙ ap (λ x. c.loop-one.made ++ x ∷ []) made);
    }

pub parts-loop-one-preserved : goal.parts-loop-one-preserved
parts-loop-one-preserved t c =
    let kept = c.loop-one.invariant.kept in
    let r = renaming c.args.statics.now.unit c.args.statics.now.names c.args.hidden.now in
    let made : c.in_ok-part.field-0 ≡ part_renamed c.one-item.result r =
    c.in_ok-part.ensures.made ∙ ap (λ h. part_renamed c.one-item.result (renaming c.args.statics.now.unit c.args.statics.now.names h)) kept in
    record {
      kept = c.in_ok-part.ensures.kept ∙ kept;
      made = renamed_more part_renamed c.as_slice-one-items.result.now c.loop-one.one-index c.one-item.result r c.loop-one.made c.push.new.self c.loop-one-test.true c.one-item.is
          c.loop-one.invariant.made (c.in_ok-push.ensures.ok ∙ ap (λ x. c.loop-one.made ++ x ∷ []) made);
    }
