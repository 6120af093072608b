use Rattle.std.proofs.Common.{rules}
use Rattle.cf_elab_shape.specs.Shapes.Seen.{shape_seen}
use Rattle.cf_elab_unit.proofs.DefinitionsLaws.NamedLaws.{named_is}
use Rattle.cf_elab_unit.proofs.definitions.named.define_named.Goals as goal

pub returns-in_err-ty-clause-made : goal.returns-in_err-ty-clause-made
returns-in_err-ty-clause-made c =
    rw (named_is c.args.count c.args.gathered.now c.args.at (shape_seen c.args.shape.now) c.args.name.now c.args.body_at c.args.body.now c.requires.name c.args.env.now) (search rules)

pub returns-in_err-define_shape-clause-made : goal.returns-in_err-define_shape-clause-made
returns-in_err-define_shape-clause-made c =
    rw (named_is c.args.count c.args.gathered.now c.args.at (shape_seen c.args.shape.now) c.args.name.now c.args.body_at c.args.body.now c.requires.name c.args.env.now) (search rules)

pub returns-clause-made : goal.returns-clause-made
returns-clause-made c =
    rw (named_is c.args.count c.args.gathered.now c.args.at (shape_seen c.args.shape.now) c.args.name.now c.args.body_at c.args.body.now c.requires.name c.args.env.now) (search rules)
