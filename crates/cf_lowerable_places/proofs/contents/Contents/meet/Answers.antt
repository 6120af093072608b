use Rattle.std.proofs.Common.{ap, ◌∙◌}
use Rattle.cf_lowerable_types.specs.Kinds.{both_kinds}
use Rattle.cf_lowerable_places.specs.Contents.{kinds_at}
use Rattle.cf_lowerable_places.proofs.Holding.{met}
use Rattle.cf_lowerable_places.proofs.contents.Contents.meet.Goals as goal

pub returns : goal.returns
returns c =
    met c.args.tables.now c.args.self.now (record { registers = c.meet.new.self; kinds = c.meet_all.new.all }) c.args.other.now c.in_ok-meet.ensures
    (λ q. c.meet_all.ensures q ∙ ap (λ l. both_kinds (kinds_at c.args.self.now.kinds.items q) (kinds_at l q)) c.as_slice.ensures.value)
