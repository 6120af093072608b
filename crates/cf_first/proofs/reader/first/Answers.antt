use Rattle.std.proofs.Common.{List, Err, Ok, subst}
use Rattle.std.proofs.lemmas.Result.{err_from_is_err_and}
use Rattle.cf_tokens.specs.declared.token.Token.{Token}
use Rattle.cf_unit.specs.Answers.{IsUnit}
use Rattle.cf_unit.specs.Answers as grammar
use Rattle.cf_first.specs.Steps.{IsTree}
use Rattle.cf_first.proofs.Reading.{no_list, no_tree, elaborated}
use Rattle.cf_first.proofs.reader.first.Goals as goal

pub returns-in_err-tokens : goal.returns-in_err-tokens
returns-in_err-tokens c =
    let p = err_from_is_err_and c.from_residual.result c.from_residual.ensures.1 in
    rw (p.1, p.2) (no_list c.args.bytes.now c.in_err-tokens.field-0.0 c.in_err-tokens.ensures)

pub returns-in_err-tree : goal.returns-in_err-tree
returns-in_err-tree c =
    let p = err_from_is_err_and c.from_residual-in_err-tree.result c.from_residual-in_err-tree.ensures.1 in
    let n = subst (λ (ts : List Token). IsTree ts (Err c.in_err-tree.field-0.0)) c.as_slice.ensures.value c.in_err-tree.ensures in
    rw (p.1, p.2) (no_tree c.args.bytes.now c.in_ok-tokens.tokens.items c.in_ok-tokens.ensures c.in_err-tree.field-0.0 n)

pub returns : goal.returns
returns c =
    let spelled = subst (λ (ts : List Token). IsUnit ts (grammar.accepted c.in_ok-tree.tree)) c.as_slice.ensures.value c.in_ok-tree.ensures in
    elaborated c.args.bytes.now c.in_ok-tokens.tokens.items c.in_ok-tokens.ensures c.in_ok-tree.tree spelled c.elaborated.result c.elaborated.ensures
