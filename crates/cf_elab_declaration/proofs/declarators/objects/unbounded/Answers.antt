use Rattle.std.proofs.Common.{rules}
use Rattle.cf_elab_declaration.proofs.DeclaratorsLaws.BoundRows.{given_bound}
use Rattle.cf_elab_declaration.proofs.declarators.objects.unbounded.Goals as goal

pub returns-in_err-reached-in-Some-clause-made : goal.returns-in_err-reached-in-Some-clause-made
returns-in_err-reached-in-Some-clause-made c =
    rw (given_bound c.args.in_file c.args.gathered.now c.args.name.now c.args.element c.requires.plain c.args.env.now c.args.initialiser.now c.in-Some.given
    c.in_ok-outline-in-Some.outline c.in_ok-ty-in-Some.ty c.array_given.new.env c.in-Some.is c.in_ok-outline-in-Some.ensures c.in_ok-ty-in-Some.ensures.made) (search rules)

pub returns-in_ok-reached-in-Some-clause-made : goal.returns-in_ok-reached-in-Some-clause-made
returns-in_ok-reached-in-Some-clause-made c =
    rw (given_bound c.args.in_file c.args.gathered.now c.args.name.now c.args.element c.requires.plain c.args.env.now c.args.initialiser.now c.in-Some.given
    c.in_ok-outline-in-Some.outline c.in_ok-ty-in-Some.ty c.array_given.new.env c.in-Some.is c.in_ok-outline-in-Some.ensures c.in_ok-ty-in-Some.ensures.made) (search rules)
