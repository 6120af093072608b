use Rattle.std.proofs.Common.{◌∙◌}
use Rattle.cf_lowerable_places.proofs.Holding.{same_contents}
use Rattle.cf_lowerable_places.proofs.contents.Contents.copied.Goals as goal

pub returns : goal.returns
returns c =
    λ tables. same_contents tables c.args.self.now (record { registers = c.in_ok-registers.registers; kinds = c.in_ok-kinds.kinds }) (c.in_ok-registers.ensures tables)
    (c.in_ok-kinds.ensures.items ∙ c.as_slice.ensures.value)
