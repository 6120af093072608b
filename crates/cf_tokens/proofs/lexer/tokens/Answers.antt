use Rattle.std.proofs.Common.{arith}
use Rattle.std.proofs.lemmas.Result.{err_from_is_err_and}
use Rattle.cf_tokens.specs.Lex.{too_long}
use Rattle.cf_tokens.proofs.Cuts.{too_many_for, listed_for, fault_for}
use Rattle.cf_tokens.proofs.lexer.tokens.Goals as goal

pub returns-then-text-gt-MOST_BYTES-clause-answer : goal.returns-then-text-gt-MOST_BYTES-clause-answer
returns-then-text-gt-MOST_BYTES-clause-answer c = too_long (omega arith)

pub returns-in_err-found-clause-answer : goal.returns-in_err-found-clause-answer
returns-in_err-found-clause-answer c =
    let fault = err_from_is_err_and c.from_residual.result c.from_residual.ensures.1 in
    rw (fault.1, fault.2) (fault_for c.args.text.now c.in_err-found.field-0.0 (omega arith) c.in_err-found.ensures)

pub returns-then-len-gt-MOST_TOKENS-clause-answer : goal.returns-then-len-gt-MOST_TOKENS-clause-answer
returns-then-len-gt-MOST_TOKENS-clause-answer c =
    too_many_for c.args.text.now c.in_ok-found.found.items (omega arith) c.in_ok-found.ensures (omega arith)

pub returns-clause-answer : goal.returns-clause-answer
returns-clause-answer c = listed_for c.args.text.now c.in_ok-found.found.items (omega arith) c.in_ok-found.ensures (omega arith)
