use Rattle.std.proofs.Common.{Err, subst}
use Rattle.cc_whole_read_items.specs.Answers.{Answers}
use Rattle.cc_whole_read.proofs.Wide.{are_c, are_fit}
use Rattle.cc_whole_read.proofs.reader.fitting_items.Goals as goal

pub unreachable-requires : goal.unreachable-requires
unreachable-requires c =
    are_c c.args.tokens.now c.in-Err-NotC.field-0-0 c.requires.spelled
    (subst (λ e. Answers c.args.tokens.now (Err e)) c.in-Err-NotC.field-0-is c.in-Err-NotC.ensures)

pub unreachable-requires-in-Err-Wide : goal.unreachable-requires-in-Err-Wide
unreachable-requires-in-Err-Wide c =
    are_fit c.args.tokens.now c.requires.fit (subst (λ e. Answers c.args.tokens.now (Err e)) c.in-Err-Wide.field-0-is c.in-Err-Wide.ensures)
