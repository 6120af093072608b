use Rattle.std.proofs.Common.{◌≡◌, ◌∙◌, ◌≤◌, ◌-◌, ◌+◌, ℕ, List, [], ◌∷◌, ◌++◌, length, map, take, option_map, Option, Some, None, Result, Ok, Err, pos, ℤ, rules, arith, ap, sym, refl, subst}
use Rattle.cc_whole_step.proofs.Marks.{below_mark}
use Rattle.cc_whole_step.specs.Frames.{look_in, scope_over}
use Rattle.cc_whole_start.specs.Table.{scope_of as file_scope}
use Rattle.cc_whole_step.proofs.frames.named_above.Goals as goal

pub returns-in-Here : goal.returns-in-Here
returns-in-Here c =
    sym (below_mark (file_scope c.args.file.now) c.args.marks.now c.loop-above.above c.index-marks-above.result c.args.name.now c.loop-above-test.true
    c.loop-above.invariant.0 c.index-marks-above.is
    ∙ c.look_on.ensures (file_scope c.args.file.now) (scope_over (file_scope c.args.file.now) (file_scope c.args.file.now) (take (c.loop-above.above - 1) c.args.marks.now))
    ∙ ap (λ r. look_in r (file_scope c.args.file.now c.args.name.now)
    (scope_over (file_scope c.args.file.now) (file_scope c.args.file.now) (take (c.loop-above.above - 1) c.args.marks.now) c.args.name.now)) c.in-Here.is)
    ∙ c.loop-above.invariant.1

pub returns-in-File : goal.returns-in-File
returns-in-File c =
    c.named.ensures
    ∙ sym (below_mark (file_scope c.args.file.now) c.args.marks.now c.loop-above.above c.index-marks-above.result c.args.name.now c.loop-above-test.true
    c.loop-above.invariant.0 c.index-marks-above.is
    ∙ c.look_on.ensures (file_scope c.args.file.now) (scope_over (file_scope c.args.file.now) (file_scope c.args.file.now) (take (c.loop-above.above - 1) c.args.marks.now))
    ∙ ap (λ r. look_in r (file_scope c.args.file.now c.args.name.now)
    (scope_over (file_scope c.args.file.now) (file_scope c.args.file.now) (take (c.loop-above.above - 1) c.args.marks.now) c.args.name.now)) c.in-File.is)
    ∙ c.loop-above.invariant.1

pub loop-above-preserved : goal.loop-above-preserved
loop-above-preserved c = (
  let h : c.loop-above.above ≤ length c.args.marks.now = c.loop-above.invariant.0 in omega arith,
  sym (below_mark (file_scope c.args.file.now) c.args.marks.now c.loop-above.above c.index-marks-above.result c.args.name.now c.loop-above-test.true
      c.loop-above.invariant.0 c.index-marks-above.is
      ∙ c.look_on.ensures (file_scope c.args.file.now) (scope_over (file_scope c.args.file.now) (file_scope c.args.file.now) (take (c.loop-above.above - 1) c.args.marks.now))
      ∙ ap (λ r. look_in r (file_scope c.args.file.now c.args.name.now)
      (scope_over (file_scope c.args.file.now) (file_scope c.args.file.now) (take (c.loop-above.above - 1) c.args.marks.now) c.args.name.now)) c.in-Below.is)
      ∙ c.loop-above.invariant.1,
)
