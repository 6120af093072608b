use Rattle.std.proofs.Common.{rules, [], ◌∷◌}
use Rattle.cf_sequence.proofs.Joining.{files-keep}
use Rattle.cf_sequence_unit.proofs.Meanings.{units-keep}
use Rattle.cf_sequence_unit.proofs.unit.sequence.Goals as goal

pub returns-clause-meaning : goal.returns-clause-meaning
returns-clause-meaning c =
    units-keep files-keep (c.args.unit ∷ []) (c.in_ok-sequenced.field-0 ∷ [])
    (c.functions-valid.ensures.valid, record { built = search rules; sequenced = c.in_ok-sequenced.ensures }, tt)
