use Rattle.std.proofs.Common.{sym, ap, ◌∙◌, subst, map}
use Rattle.std.specs.List.{list_all}
use Rattle.cf_classes.specs.ClassTable.{ClassTable}
use Rattle.cf_classes.specs.Fit.{Fit}
use Rattle.cf_core.specs.FromTypes.{Tables}
use Rattle.cf_lower_program.specs.Alike.{start_alike}
use Rattle.cf_lower_types.specs.Ordered.{IsOrdered}
use Rattle.cf_plain.specs.View.{static_of}
use Rattle.cf_lowerable_starts.proofs.starts.starts_are_alike.Goals as goal

pub new-tables-requires : goal.new-tables-requires
new-tables-requires c = record {
  ordered = subst (λ t. IsOrdered t) (sym c.types.ensures) c.requires.ordered;
  fit = subst (λ k. Fit c.types.result.now k) (sym c.classes.ensures) (subst (λ t. Fit t c.args.unit.now.classes) (sym c.types.ensures) c.functions-functions.ensures.valid.fit);
  no_classes = ap (λ (k : ClassTable). k.defined) c.classes.ensures ∙ c.requires.no_classes;
}

pub returns : goal.returns
returns c =
    let unit = c.args.unit.now in
    c.in_ok-are.ensures ∙ ap (λ (t : Tables). list_all start_alike (map (static_of t) c.statics-statics.result.now)) c.new-tables.ensures
    ∙ ap (λ k. list_all start_alike (map (static_of (record { types = k; classes = c.classes.result.now })) c.statics-statics.result.now)) c.types.ensures
    ∙ ap (λ k. list_all start_alike (map (static_of (record { types = unit.types; classes = k })) c.statics-statics.result.now)) c.classes.ensures
    ∙ ap (λ l. list_all start_alike (map (static_of (record { types = unit.types; classes = unit.classes })) l)) c.statics-statics.ensures
