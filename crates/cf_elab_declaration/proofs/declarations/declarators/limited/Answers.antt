use Rattle.std.proofs.Common.{rules, ◌≡◌, length}
use Rattle.cf_elab_declaration.proofs.DeclarationsLaws.DeclaratorRows.{limited_is}
use Rattle.cf_elab_declaration.proofs.declarations.declarators.limited.Goals as goal

pub returns-in_err-reached-clause-made : goal.returns-in_err-reached-clause-made
returns-in_err-reached-clause-made c =
    let count : c.count-count.result ≡ length c.args.env.now.types.types = search rules in
    rw (limited_is c.args.gathered.now c.args.d.now c.args.env.now c.count-count.result count) (search rules)

pub returns-in_err-check_types-clause-made : goal.returns-in_err-check_types-clause-made
returns-in_err-check_types-clause-made c =
    let count : c.count-count.result ≡ length c.args.env.now.types.types = search rules in
    rw (limited_is c.args.gathered.now c.args.d.now c.args.env.now c.count-count.result count) (search rules)

pub returns-clause-made : goal.returns-clause-made
returns-clause-made c =
    let count : c.count-count.result ≡ length c.args.env.now.types.types = search rules in
    rw (limited_is c.args.gathered.now c.args.d.now c.args.env.now c.count-count.result count) (search rules)
