use Rattle.cf_tokens.proofs.Cuts.{gap_step, token_step, flaw_step}
use Rattle.cf_tokens.proofs.lexer.step.Goals as goal

pub returns-in-Gap : goal.returns-in-Gap
returns-in-Gap c =
    gap_step c.args.text.now c.rest_of.result.now c.args.at c.in-Gap.n c.starts_line.result c.in_ok-n.field-0 c.args.found.now.items
    c.starts_line.ensures c.rest_of.ensures c.in_ok-n.ensures.piece c.in_ok-n.ensures.within c.in-Gap.is c.requires.inside

pub returns-in_ok-add-in-Whole : goal.returns-in_ok-add-in-Whole
returns-in_ok-add-in-Whole c =
    token_step c.args.text.now c.rest_of.result.now c.args.at c.in-Whole.n c.starts_line.result c.in_ok-n.field-0 c.in-Whole.word
    c.args.found.now.items c.add.new.found.items c.starts_line.ensures c.rest_of.ensures c.in_ok-n.ensures.piece
    c.in_ok-n.ensures.within c.in-Whole.is c.requires.inside c.in_ok-add-in-Whole.ensures

pub returns-in-Flaw : goal.returns-in-Flaw
returns-in-Flaw c =
    flaw_step c.args.text.now c.rest_of.result.now c.args.at c.in-Flaw.rule c.starts_line.result c.in_ok-n.field-0
    c.starts_line.ensures c.rest_of.ensures c.in_ok-n.ensures.piece c.in-Flaw.is c.requires.inside
