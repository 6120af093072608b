use Rattle.std.proofs.Common.{sym, ◌∙◌}
use Rattle.cf_core.specs.FromUnit.{tables_of}
use Rattle.cf_sequence_lowered.specs.Operators.{operand_is_promoted}
use Rattle.cf_sequence_lowered.specs.Texts.{literal_fits}
use Rattle.cf_sequence_lowered.specs.Types.{node_types_fit}
use Rattle.cf_core_nodes.specs.Views.{view}
use Rattle.cf_lowerable_core.proofs.Tests.{second_fails, last_tells}
use Rattle.cf_lowerable_core.proofs.files.start_looks.Goals as goal

pub returns-then-not-literal_fits : goal.returns-then-not-literal_fits
returns-then-not-literal_fits c =
    let e = view (tables_of c.args.unit.now) c.args.e.now in
    second_fails (node_types_fit e) (literal_fits e) (operand_is_promoted e) (sym (c.literal_fits.ensures (tables_of c.args.unit.now)) ∙ c.if-not-literal_fits.true)

pub returns : goal.returns
returns c =
    let e = view (tables_of c.args.unit.now) c.args.e.now in
    last_tells (node_types_fit e) (literal_fits e) (operand_is_promoted e) c.operand_is_promoted.result (sym c.node_types_fit.ensures ∙ c.if-not-node_types_fit.false)
    (sym (c.literal_fits.ensures (tables_of c.args.unit.now)) ∙ c.if-not-literal_fits.false) (c.operand_is_promoted.ensures (tables_of c.args.unit.now))
