use Rattle.std.proofs.Common.{◌||◌, sym, ap, ◌∙◌}
use Rattle.std.specs.List.{list_all}
use Rattle.cf_base.specs.Integers.{fits}
use Rattle.cf_base.specs.declared.kind.Kind.TheVariants.{UInt}
use Rattle.cf_sequence_lowered.specs.Nodes.{core_labels}
use Rattle.cf_core_nodes.specs.Views.{viewed}
use Rattle.cf_lowerable_core.proofs.nodes.are_of_one_kind.Goals as goal

pub returns-then-are_ints : goal.returns-then-are_ints
returns-then-are_ints c = λ tables.
    c.if-are_ints.true
    ∙ ap (λ b. b || list_all (fits UInt) (core_labels (viewed tables c.args.body.now))) (sym c.if-are_ints.true ∙ c.are_ints.ensures tables)

pub returns-else-are_ints : goal.returns-else-are_ints
returns-else-are_ints c = λ tables.
    c.are_unsigned.ensures tables
    ∙ ap (λ b. b || list_all (fits UInt) (core_labels (viewed tables c.args.body.now))) (sym c.if-are_ints.false ∙ c.are_ints.ensures tables)
