use Rattle.std.proofs.Common.{◌≡◌, None, sym, ap, ◌∙◌}
use Rattle.std.specs.Option.{option_map}
use Rattle.cf_lower.specs.Expressions.{address_in}
use Rattle.cf_lower_types.specs.declared.form.Elements.{Elements}
use Rattle.cf_lower_types.specs.Bare.{sort_in}
use Rattle.cf_lower_types.specs.Forms.{elements_in}
use Rattle.cf_lower_stmt.specs.Steps.{written}
use Rattle.cf_lower_stmt.proofs.ZeroLaws.{of_other}
use Rattle.cf_lower_stmt.proofs.zeros.+zeros.Goals as goal

pub zero_type-returns-in_ok-zero_scalar-in-None : goal.zero_type-returns-in_ok-zero_scalar-in-None
zero_type-returns-in_ok-zero_scalar-in-None t c =
    let tables = c.args.x.now.tables.now in
    let none : elements_in c.form_of-form.result ≡ None = sym c.elements_in.ensures ∙ ap (option_map (λ (e : Elements). (e.ty, e.count))) c.in-None.is in
    of_other tables (address_in c.args.place) c.args.ty c.form_of-form.result c.args.at (option_map (sort_in tables) c.sort_of-scalar.result) c.cell_in-cell.result
    (written c.args.code.now) (written c.zero_scalar.new.code) c.form_of-form.ensures.is none c.sort_of-scalar.ensures (c.cell_in-cell.ensures tables)
    c.in_ok-zero_scalar-in-None.ensures
