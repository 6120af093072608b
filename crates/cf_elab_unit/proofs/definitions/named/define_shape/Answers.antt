use Rattle.std.proofs.Common.{rules, ◌≡◌, Some}
use Rattle.cf_elab.specs.Shape.{function_of}
use Rattle.cf_elab_shape.specs.Shapes.Seen.{shape_seen}
use Rattle.cf_elab_unit.proofs.DefinitionsLaws.NamedLaws.{shape_is}
use Rattle.cf_elab_unit.proofs.definitions.named.define_shape.Goals as goal

pub returns-in_err-check_bounds-in-Some-clause-made : goal.returns-in_err-check_bounds-in-Some-clause-made
returns-in_err-check_bounds-in-Some-clause-made c =
    let s = shape_seen c.args.shape.now in
    let there : Some c.in-Some.parameters.now ≡ function_of s = search rules in
    rw (shape_is c.args.count c.args.gathered.now s c.args.name.now c.args.ty c.args.body_at c.args.body.now c.args.env.now c.in-Some.parameters.now there) (search rules)

pub returns-in_err-number-in-Some-clause-made : goal.returns-in_err-number-in-Some-clause-made
returns-in_err-number-in-Some-clause-made c =
    let s = shape_seen c.args.shape.now in
    let there : Some c.in-Some.parameters.now ≡ function_of s = search rules in
    rw (shape_is c.args.count c.args.gathered.now s c.args.name.now c.args.ty c.args.body_at c.args.body.now c.args.env.now c.in-Some.parameters.now there) (search rules)

pub returns-in_err-check_types-in-Some-clause-made : goal.returns-in_err-check_types-in-Some-clause-made
returns-in_err-check_types-in-Some-clause-made c =
    let s = shape_seen c.args.shape.now in
    let there : Some c.in-Some.parameters.now ≡ function_of s = search rules in
    rw (shape_is c.args.count c.args.gathered.now s c.args.name.now c.args.ty c.args.body_at c.args.body.now c.args.env.now c.in-Some.parameters.now there) (search rules)

pub returns-in_err-define_function-in-Some-clause-made : goal.returns-in_err-define_function-in-Some-clause-made
returns-in_err-define_function-in-Some-clause-made c =
    let s = shape_seen c.args.shape.now in
    let there : Some c.in-Some.parameters.now ≡ function_of s = search rules in
    rw (shape_is c.args.count c.args.gathered.now s c.args.name.now c.args.ty c.args.body_at c.args.body.now c.args.env.now c.in-Some.parameters.now there) (search rules)

pub returns-in_ok-define_function-in-Some-clause-made : goal.returns-in_ok-define_function-in-Some-clause-made
returns-in_ok-define_function-in-Some-clause-made c =
    let s = shape_seen c.args.shape.now in
    let there : Some c.in-Some.parameters.now ≡ function_of s = search rules in
    rw (shape_is c.args.count c.args.gathered.now s c.args.name.now c.args.ty c.args.body_at c.args.body.now c.args.env.now c.in-Some.parameters.now there) (search rules)
