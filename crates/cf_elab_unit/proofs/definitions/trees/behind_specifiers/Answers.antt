use Rattle.std.proofs.Common.{rules, ◌≡◌, None, Some}
use Rattle.std.proofs.lemmas.Result.{err_from_is_err_and}
use Rattle.cf_elab.specs.Built.{of_name}
use Rattle.cf_elab_unit.proofs.BodyLaws.DeclarationNamesBuilt.{name_plain}
use Rattle.cf_elab_unit.specs.Body.ExprShut as expression
use Rattle.cf_elab_unit.proofs.DefinitionsLaws.TreeRows.{name_is, shape_stops}
use Rattle.cf_elab_unit.proofs.definitions.trees.behind_specifiers.Goals as goal

pub returns-in_err-shape-clause-made : goal.returns-in_err-shape-clause-made
returns-in_err-shape-clause-made c =
    let p = err_from_is_err_and c.from_residual.result c.from_residual.ensures.1 in
    rw (p.1, p.2)
    (shape_stops c.args.count c.args.gathered.now c.args.at c.args.declarator.now c.args.body_at c.args.body.now c.args.env.now c.requires.tree c.in_err-shape.field-0.0 (search rules))

pub returns-in_err-define_named-in-Some-clause-made : goal.returns-in_err-define_named-in-Some-clause-made
returns-in_err-define_named-in-Some-clause-made c =
    let d = c.args.declarator.now in
    let n = c.in-Some.name.now in
    let there : Some n ≡ expression.name_of d = search rules in
    let plain : of_name n ≡ None = name_plain d n c.requires.tree there in
    rw (name_is c.args.count c.args.gathered.now c.args.at d c.args.body_at c.args.body.now c.args.env.now n there plain) (search rules)

pub returns-clause-made : goal.returns-clause-made
returns-clause-made c =
    let d = c.args.declarator.now in
    let n = c.in-Some.name.now in
    let there : Some n ≡ expression.name_of d = search rules in
    let plain : of_name n ≡ None = name_plain d n c.requires.tree there in
    rw (name_is c.args.count c.args.gathered.now c.args.at d c.args.body_at c.args.body.now c.args.env.now n there plain) (search rules)
