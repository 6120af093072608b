use Rattle.std.proofs.Common.{refl}
use Rattle.cf_lowerable_open.specs.Heads.{finished}
use Rattle.cf_lowerable_open.proofs.Forms.{when_act, when_set, when_if, when_loop, when_switch, when_case, when_default, when_break, when_continue, when_return, when_parts}
use Rattle.cf_lowerable_open.proofs.heads.finished.Goals as goal

pub returns-in-Act : goal.returns-in-Act
returns-in-Act c = when_act c.args.x.now c.args.s.now finished _ _ c.in-Act.is c.finished_by.ensures

pub returns-in-Set : goal.returns-in-Set
returns-in-Set c = when_set c.args.x.now c.args.s.now finished _ _ _ c.in-Set.is refl

pub returns-in-If : goal.returns-in-If
returns-in-If c = when_if c.args.x.now c.args.s.now finished _ _ _ _ c.in-If.is refl

pub returns-in-Loop : goal.returns-in-Loop
returns-in-Loop c = when_loop c.args.x.now c.args.s.now finished _ _ _ c.in-Loop.is refl

pub returns-in-Switch : goal.returns-in-Switch
returns-in-Switch c = when_switch c.args.x.now c.args.s.now finished _ _ _ c.in-Switch.is refl

pub returns-in-Case : goal.returns-in-Case
returns-in-Case c = when_case c.args.x.now c.args.s.now finished _ _ c.in-Case.is refl

pub returns-in-Default : goal.returns-in-Default
returns-in-Default c = when_default c.args.x.now c.args.s.now finished _ c.in-Default.is refl

pub returns-in-Break : goal.returns-in-Break
returns-in-Break c = when_break c.args.x.now c.args.s.now finished _ c.in-Break.is refl

pub returns-in-Continue : goal.returns-in-Continue
returns-in-Continue c = when_continue c.args.x.now c.args.s.now finished _ c.in-Continue.is refl

pub returns-in-Return : goal.returns-in-Return
returns-in-Return c = when_return c.args.x.now c.args.s.now finished _ _ c.in-Return.is refl

pub returns-in-Parts : goal.returns-in-Parts
returns-in-Parts c = when_parts c.args.x.now c.args.s.now finished _ _ c.in-Parts.is refl
