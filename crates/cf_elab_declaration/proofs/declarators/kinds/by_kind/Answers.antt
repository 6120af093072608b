use Rattle.std.proofs.Common.{rules, ◌≡◌, true}
use Rattle.cf_elab.specs.Specifiers.{is_typedef}
use Rattle.cf_elab_shape.specs.Shapes.Seen.{shape_seen}
use Rattle.cf_elab_declaration.proofs.DeclaratorsLaws.KindRows.{typedef_is}
use Rattle.cf_elab_declaration.proofs.declarators.kinds.by_kind.Goals as goal

pub returns-in_err-typedef_row-clause-made : goal.returns-in_err-typedef_row-clause-made
returns-in_err-typedef_row-clause-made c =
    let alias : is_typedef c.args.gathered.now ≡ true = search rules in
    rw (typedef_is c.args.in_file c.args.gathered.now c.args.name.now (shape_seen c.args.shape.now) c.args.initialiser.now c.args.env.now c.args.ty c.identifier-own.result.now c.identifier-own.ensures alias)
    (search rules)

pub returns-in_ok-typedef_row-clause-made : goal.returns-in_ok-typedef_row-clause-made
returns-in_ok-typedef_row-clause-made c =
    let alias : is_typedef c.args.gathered.now ≡ true = search rules in
    rw (typedef_is c.args.in_file c.args.gathered.now c.args.name.now (shape_seen c.args.shape.now) c.args.initialiser.now c.args.env.now c.args.ty c.identifier-own.result.now c.identifier-own.ensures alias)
    (search rules)
