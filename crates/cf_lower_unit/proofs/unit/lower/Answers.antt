use Rattle.std.proofs.Common.{refl, sym, ap, ◌∙◌, subst}
use Rattle.cc_whole.specs.Plain.{items_of}
use Rattle.cf_classes.specs.ClassTable.{ClassTable}
use Rattle.cf_classes.specs.Fit.{Fit}
use Rattle.cf_lower_types.specs.Ordered.{IsOrdered}
use Rattle.cf_lower_unit.proofs.Joined.{file_is}
use Rattle.cf_lower_unit.proofs.unit.lower.Goals as goal

pub new-tables-requires : goal.new-tables-requires
new-tables-requires c = record {
  ordered = subst (λ t. IsOrdered t) (sym c.types.ensures) c.requires.ordered;
  fit = subst (λ k. Fit c.types.result.now k) (sym c.classes.ensures) (subst (λ t. Fit t c.args.unit.now.classes) (sym c.types.ensures) c.functions-functions.ensures.valid.fit);
  no_classes = ap (λ (k : ClassTable). k.defined) c.classes.ensures ∙ c.requires.no_classes;
}

pub returns : goal.returns
returns c = record {
  version = refl;
  items = file_is c.args.unit.now c.new-tables.result c.types.result.now c.classes.result.now c.functions-functions.result.now c.statics-statics.result.now
      (items_of c.in_ok-items.items) c.functions-functions.ensures.functions c.statics-statics.ensures c.types.ensures c.classes.ensures c.new-tables.ensures
      c.in_ok-items.ensures;
}
