use Rattle.std.proofs.Common.{ap, ◌∙◌, subst}
use Rattle.std.specs.Prelude.{Some}
use Rattle.cf_core.specs.FromUnit.{tables_of}
use Rattle.cf_types.specs.Table.{NamesBelow}
use Rattle.cf_sequence_built.proofs.TypeLaws.{plain_by_const, plain_otherwise}
use Rattle.cf_sequence_built.proofs.types.unqualified.Goals as goal

pub returns-in-Const-clause-is : goal.returns-in-Const-clause-is
returns-in-Const-clause-is c =
    plain_by_const (tables_of c.args.unit.now) c.args.ty _ (c.ty.ensures.kept ∙ ap Some c.in-Const.is) (subst (NamesBelow c.args.ty) c.in-Const.is c.ty.ensures.earlier)

pub returns-in_default : goal.returns-in_default
returns-in_default c = record {
  is = plain_otherwise (tables_of c.args.unit.now) c.args.ty c.ty.result.now c.ty.ensures.kept c.in_default.not-Const;
  there = c.requires;
}
