use Rattle.std.proofs.Common.{rules, ◌≡◌, length}
use Rattle.cf_elab_unit.proofs.DefinitionsLaws.TreeRows.{parts_are}
use Rattle.cf_elab_unit.proofs.definitions.trees.of_parts.Goals as goal

pub returns-in_err-words-clause-made : goal.returns-in_err-words-clause-made
returns-in_err-words-clause-made c =
    let count : c.count-count.result ≡ length c.args.env.now.types.types = search rules in
    rw (parts_are c.args.specifiers.now c.args.at c.args.declarator.now c.args.body_at c.args.body.now c.args.env.now c.count-count.result count c.requires.specifiers) (search rules)

pub returns-in_err-behind_specifiers-clause-made : goal.returns-in_err-behind_specifiers-clause-made
returns-in_err-behind_specifiers-clause-made c =
    let count : c.count-count.result ≡ length c.args.env.now.types.types = search rules in
    rw (parts_are c.args.specifiers.now c.args.at c.args.declarator.now c.args.body_at c.args.body.now c.args.env.now c.count-count.result count c.requires.specifiers) (search rules)

pub returns-in_err-check_types-clause-made : goal.returns-in_err-check_types-clause-made
returns-in_err-check_types-clause-made c =
    let count : c.count-count.result ≡ length c.args.env.now.types.types = search rules in
    rw (parts_are c.args.specifiers.now c.args.at c.args.declarator.now c.args.body_at c.args.body.now c.args.env.now c.count-count.result count c.requires.specifiers) (search rules)

pub returns-clause-made : goal.returns-clause-made
returns-clause-made c =
    let count : c.count-count.result ≡ length c.args.env.now.types.types = search rules in
    rw (parts_are c.args.specifiers.now c.args.at c.args.declarator.now c.args.body_at c.args.body.now c.args.env.now c.count-count.result count c.requires.specifiers) (search rules)
