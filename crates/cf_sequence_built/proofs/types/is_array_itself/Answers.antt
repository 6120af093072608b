use Rattle.std.proofs.Common.{ap, ◌∙◌}
use Rattle.std.specs.Prelude.{Some}
use Rattle.cf_core.specs.FromUnit.{tables_of}
use Rattle.cf_sequence_built.proofs.TypeLaws.{array_there, array_otherwise}
use Rattle.cf_sequence_built.proofs.types.is_array_itself.Goals as goal

pub returns-in-Array : goal.returns-in-Array
returns-in-Array c = array_there (tables_of c.args.unit.now) c.args.ty _ _ (c.ty.ensures.kept ∙ ap Some c.in-Array.is)

pub returns-in_default : goal.returns-in_default
returns-in_default c = array_otherwise (tables_of c.args.unit.now) c.args.ty c.ty.result.now c.ty.ensures.kept c.in_default.not-Array
