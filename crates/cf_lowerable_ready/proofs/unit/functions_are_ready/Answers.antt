use Rattle.std.proofs.Common.{sym, ap, ◌∙◌, subst}
use Rattle.cf_classes.specs.ClassTable.{ClassTable}
use Rattle.cf_classes.specs.Fit.{Fit}
use Rattle.cf_lower_types.specs.Ordered.{IsOrdered}
use Rattle.cf_lowerable_ready.proofs.UnitLaws.{unit_ready}
use Rattle.cf_lowerable_ready.proofs.unit.functions_are_ready.Goals as goal

pub new-tables-requires : goal.new-tables-requires
new-tables-requires c = record {
  ordered = subst (λ t. IsOrdered t) (sym c.types.ensures) c.requires.ordered;
  fit = subst (λ k. Fit c.types.result.now k) (sym c.classes.ensures) (subst (λ t. Fit t c.args.unit.now.classes) (sym c.types.ensures) c.functions-functions.ensures.valid.fit);
  no_classes = ap (λ (k : ClassTable). k.defined) c.classes.ensures ∙ c.requires.no_classes;
}

pub returns : goal.returns
returns c =
    unit_ready c.args.unit.now c.new-tables.result c.types.result.now c.classes.result.now c.functions-functions.result.now c.in_ok-good.good c.functions-functions.ensures.functions
    c.types.ensures c.classes.ensures c.new-tables.ensures c.in_ok-good.ensures
