use Rattle.std.proofs.Common.{rules, ◌≡◌, None, Some}
use Rattle.std.proofs.lemmas.Result.{err_from_is_err_and}
use Rattle.cf_elab.specs.Built.{of_name}
use Rattle.cf_elab_declaration.proofs.DeclarationsLaws.DeclaratorRows.{named_is, shape_stops}
use Rattle.cf_elab_declaration.proofs.DeclarationsLaws.NamesBuilt.{name_plain}
use Rattle.cf_elab_declaration.specs.Enums.ExprShut as expression
use Rattle.cf_elab_declaration.proofs.declarations.declarators.declarator.Goals as goal

pub returns-in_err-shape-clause-made : goal.returns-in_err-shape-clause-made
returns-in_err-shape-clause-made c =
    let p = err_from_is_err_and c.from_residual.result c.from_residual.ensures.1 in
    let tree : expression.TreeIsBuilt c.args.d.now.declarator = c.declarator.ensures.tree in
    rw (p.1, p.2)
    (shape_stops c.args.gathered.now c.args.d.now c.args.env.now tree c.in_err-shape.field-0.0 (search rules))

pub returns-in_err-reached-in-Some-clause-made : goal.returns-in_err-reached-in-Some-clause-made
returns-in_err-reached-in-Some-clause-made c =
    let n = c.in-Some.name.now in
    let there : Some n ≡ expression.name_of c.args.d.now.declarator = search rules in
    let plain : of_name n ≡ None = name_plain c.args.d.now.declarator n c.declarator.ensures.tree there in
    rw (named_is c.args.gathered.now c.args.d.now c.args.env.now n there plain) (search rules)

pub returns-clause-made : goal.returns-clause-made
returns-clause-made c =
    let n = c.in-Some.name.now in
    let there : Some n ≡ expression.name_of c.args.d.now.declarator = search rules in
    let plain : of_name n ≡ None = name_plain c.args.d.now.declarator n c.declarator.ensures.tree there in
    rw (named_is c.args.gathered.now c.args.d.now c.args.env.now n there plain) (search rules)
