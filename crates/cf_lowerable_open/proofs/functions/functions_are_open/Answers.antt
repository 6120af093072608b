use Rattle.std.proofs.Common.{◌≡◌, Bool, sym, ap, ◌∙◌, subst}
use Rattle.std.specs.Prelude.{IfOk}
use Rattle.cf_classes.specs.ClassTable.{ClassTable}
use Rattle.cf_classes.specs.Fit.{Fit}
use Rattle.cf_core.specs.FromTypes.{Tables}
use Rattle.cf_lower_types.specs.Ordered.{IsOrdered}
use Rattle.cf_plain.specs.View.{tables_of, file_of}
use Rattle.cf_lowerable_open.proofs.Files.{unit_is}
use Rattle.cf_lowerable_open.proofs.KeptLaws.{files_alike}
use Rattle.cf_lowerable_open.proofs.functions.functions_are_open.Goals as goal

pub new-tables-requires : goal.new-tables-requires
new-tables-requires c = record {
  ordered = subst (λ t. IsOrdered t) (sym c.types.ensures) c.requires.ordered;
  fit = subst (λ k. Fit c.types.result.now k) (sym c.classes.ensures) (subst (λ t. Fit t c.args.unit.now.classes) (sym c.types.ensures) c.functions-functions.ensures.valid.fit);
  no_classes = ap (λ (k : ClassTable). k.defined) c.classes.ensures ∙ c.requires.no_classes;
}

pub returns : goal.returns
returns c =
    let unit = c.args.unit.now in
    let made : Tables = record { types = c.types.result.now; classes = c.classes.result.now } in
    let same : made ≡ tables_of unit =
    ap (λ t. record { types = t; classes = c.classes.result.now }) c.types.ensures ∙ ap (λ k. record { types = unit.types; classes = k }) c.classes.ensures in
    let is = unit_is unit c.new-tables.result c.functions-functions.result.now (c.new-tables.ensures ∙ same) c.functions-functions.ensures.functions in
    let walked = subst (λ (b : Bool). IfOk c.all_functions_open.result (λ r. r ≡ b)) is c.all_functions_open.ensures in
    record {
      walked = walked;
      opened = λ kept. subst (λ (b : Bool). IfOk c.all_functions_open.result (λ r. r ≡ b)) (files_alike (file_of unit) c.functions-functions.ensures.valid.file kept) walked;
    }
