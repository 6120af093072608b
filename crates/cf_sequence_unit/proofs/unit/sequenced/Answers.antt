use Rattle.std.proofs.Common.{sym, subst}
use Rattle.cf_sequence_unit.specs.Sequences.{IsSequenced}
use Rattle.cf_sequence_unit.proofs.Units.{none-made, made-valid, made-sequenced}
use Rattle.cf_sequence_unit.proofs.unit.sequenced.Goals as goal

pub frames-requires-clause-none_made : goal.frames-requires-clause-none_made
frames-requires-clause-none_made c = none-made c.args.unit c.functions-valid.ensures.valid c.requires

pub new-requires : goal.new-requires
new-requires c = record {
  valid =
      made-valid c.args.unit c.functions-valid.ensures.valid c.requires c.args.alloc c.into_tables-types.result.0 c.into_tables-types.result.1 c.in_ok-functions.functions c.in_ok-objects.objects
      c.in_ok-bounds.bounds c.into_tables-types.ensures.types c.into_tables-types.ensures.classes c.in_ok-functions.ensures c.in_ok-objects.ensures c.in_ok-bounds.ensures;
}

pub returns : goal.returns
returns c =
    subst (IsSequenced c.args.unit) (sym c.new.ensures)
    (made-sequenced c.args.unit c.functions-valid.ensures.valid c.requires c.args.alloc c.into_tables-types.result.0 c.into_tables-types.result.1 c.in_ok-functions.functions c.in_ok-objects.objects
    c.in_ok-bounds.bounds c.into_tables-types.ensures.types c.into_tables-types.ensures.classes c.in_ok-functions.ensures c.in_ok-objects.ensures c.in_ok-bounds.ensures)
