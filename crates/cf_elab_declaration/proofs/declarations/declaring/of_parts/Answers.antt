use Rattle.std.proofs.Common.{rules, ◌≡◌, length}
use Rattle.cf_elab_declaration.proofs.DeclarationsLaws.DeclarationRows.{parts_are}
use Rattle.cf_elab_declaration.proofs.declarations.declaring.of_parts.Goals as goal

pub returns-in_err-words-clause-made : goal.returns-in_err-words-clause-made
returns-in_err-words-clause-made c =
    let count : c.count-count.result ≡ length c.args.env.now.types.types = search rules in
    rw (parts_are c.args.at c.args.specifiers.now c.args.declarators.now c.args.env.now c.count-count.result count c.requires.specifiers) (search rules)

pub returns-in_err-reached-clause-made : goal.returns-in_err-reached-clause-made
returns-in_err-reached-clause-made c =
    let count : c.count-count.result ≡ length c.args.env.now.types.types = search rules in
    rw (parts_are c.args.at c.args.specifiers.now c.args.declarators.now c.args.env.now c.count-count.result count c.requires.specifiers) (search rules)

pub returns-in_err-check_types-clause-made : goal.returns-in_err-check_types-clause-made
returns-in_err-check_types-clause-made c =
    let count : c.count-count.result ≡ length c.args.env.now.types.types = search rules in
    rw (parts_are c.args.at c.args.specifiers.now c.args.declarators.now c.args.env.now c.count-count.result count c.requires.specifiers) (search rules)

pub returns-clause-made : goal.returns-clause-made
returns-clause-made c =
    let count : c.count-count.result ≡ length c.args.env.now.types.types = search rules in
    rw (parts_are c.args.at c.args.specifiers.now c.args.declarators.now c.args.env.now c.count-count.result count c.requires.specifiers) (search rules)
