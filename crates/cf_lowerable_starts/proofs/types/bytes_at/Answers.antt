use Rattle.std.proofs.Common.{ap, ◌∙◌}
use Rattle.cf_core.specs.Size.{size}
use Rattle.cf_lower_constants.specs.Knowing.{target_in}
use Rattle.cf_lowerable_known.proofs.Turns.{none_of}
use Rattle.cf_lowerable_starts.proofs.types.bytes_at.Goals as goal

pub returns : goal.returns
returns c =
    let tables = c.args.tables.now in
    c.in_ok-bytes.ensures ∙ ap (λ cs. size cs (target_in tables c.args.target.now)) (none_of tables c.types-types.ensures.ordered.no_classes)
