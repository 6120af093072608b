use Rattle.std.proofs.Common.{sym, ap, ◌∙◌, subst}
use Rattle.cf_classes.specs.ClassTable.{ClassTable}
use Rattle.cf_classes.specs.Fit.{Fit}
use Rattle.cc_whole.specs.Plain.{items_of}
use Rattle.cf_lower_types.specs.Ordered.{IsOrdered}
use Rattle.cf_lowerable_names.proofs.Files.{are_used, not_used}
use Rattle.cf_lowerable_names.proofs.used.names_are_used_in.Goals as goal

pub new-tables-requires : goal.new-tables-requires
new-tables-requires c = record {
  ordered = subst (λ t. IsOrdered t) (sym c.types.ensures) c.requires.ordered;
  fit = subst (λ k. Fit c.types.result.now k) (sym c.classes.ensures) (subst (λ t. Fit t c.args.unit.now.classes) (sym c.types.ensures) c.functions-functions.ensures.valid.fit);
  no_classes = ap (λ (k : ClassTable). k.defined) c.classes.ensures ∙ c.requires.no_classes;
}

pub returns-then-not-branch : goal.returns-then-not-branch
returns-then-not-branch c =
    not_used c.args.unit.now c.new-tables.result c.types.result.now c.classes.result.now c.functions-functions.result.now c.statics-statics.result.now
    c.functions-functions.ensures.functions c.statics-statics.ensures c.types.ensures c.classes.ensures c.new-tables.ensures c.in_ok-names.names
    (items_of c.args.made.now.items) c.requires.lowered c.in_ok-names.ensures c.in_ok-functions_there.field-0 c.in_ok-functions_there.ensures c.if-not-branch.true

pub returns : goal.returns
returns c =
    are_used c.args.unit.now c.new-tables.result c.types.result.now c.classes.result.now c.functions-functions.result.now c.statics-statics.result.now
    c.functions-functions.ensures.functions c.statics-statics.ensures c.types.ensures c.classes.ensures c.new-tables.ensures c.in_ok-names.names
    (items_of c.args.made.now.items) c.requires.lowered c.in_ok-names.ensures c.in_ok-functions_there.field-0 c.in_ok-there.there c.in_ok-functions_there.ensures
    c.if-not-branch.false c.in_ok-there.ensures
