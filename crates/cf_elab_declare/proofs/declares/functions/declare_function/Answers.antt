use Rattle.std.proofs.Common.{rules}
use Rattle.cf_elab_shape.specs.Shapes.Seen.{shape_seen}
use Rattle.cf_elab_functions.specs.Seen.{says_seen}
use Rattle.cf_elab_declare.proofs.DeclaresLaws.FunctionLaws.{said}
use Rattle.cf_elab_declare.proofs.declares.functions.declare_function.Goals as goal

pub returns-clause-made : goal.returns-clause-made
returns-clause-made c =
    let s = shape_seen c.args.shape.now in
    rw (said c.args.int c.args.gathered.now c.args.name.now c.args.ty s c.args.defines c.args.is_initialised (says_seen c.in_ok-says.says) c.args.env.now c.holds.ensures c.requires.shape_known
    (c.in_ok-says.ensures.value s)) (search rules)

pub returns-in_err-number-clause-made : goal.returns-in_err-number-clause-made
returns-in_err-number-clause-made c =
    let s = shape_seen c.args.shape.now in
    rw (said c.args.int c.args.gathered.now c.args.name.now c.args.ty s c.args.defines c.args.is_initialised (says_seen c.in_ok-says.says) c.args.env.now c.holds.ensures c.requires.shape_known
    (c.in_ok-says.ensures.value s)) (search rules)
