use Rattle.std.proofs.Common.{ap, ◌∙◌, subst}
use Rattle.std.specs.Prelude.{Some}
use Rattle.cf_core.specs.FromUnit.{tables_of}
use Rattle.cf_types.specs.Table.{NamesBelow}
use Rattle.cf_sequence_built.proofs.TypeLaws.{element_by_array, element_otherwise}
use Rattle.cf_sequence_built.proofs.types.element_itself.Goals as goal

pub returns-in-Array-clause-is : goal.returns-in-Array-clause-is
returns-in-Array-clause-is c =
    element_by_array (tables_of c.args.unit.now) c.args.ty _ _ (c.ty.ensures.kept ∙ ap Some c.in-Array.is) (subst (NamesBelow c.args.ty) c.in-Array.is c.ty.ensures.earlier)

pub returns-in_default : goal.returns-in_default
returns-in_default c = record {
  is = element_otherwise (tables_of c.args.unit.now) c.args.ty c.ty.result.now c.ty.ensures.kept c.in_default.not-Array;
  there = c.requires;
}
