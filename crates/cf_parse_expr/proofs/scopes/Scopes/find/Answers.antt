use Rattle.std.proofs.Common.{ℕ, Some, None, sym, ◌∙◌, ap}
use Rattle.cf_syntax.specs.Names.{find, find_in, newest}
use Rattle.cf_parse_expr.proofs.Opened.{found-opened}
use Rattle.cf_parse_expr.proofs.scopes.Scopes.find.Goals as goal

pub returns-in-Some : goal.returns-in-Some
returns-in-Some c =
    let names = c.self.inside.names.now in
    let ask = λ (class : ℕ). find_in names class c.args.name.now in
    found-opened names c.self.inside.classes c.args.name.now (Some c.in-Some.kind)
    (sym c.in-Some.is ∙ c.kind_in_classes.ensures ∙ ap (newest ask) c.as_slice.ensures)
    ∙ ap (λ n. find n c.args.name.now) c.self.view_is

pub returns-in-None : goal.returns-in-None
returns-in-None c =
    let names = c.self.inside.names.now in
    let ask = λ (class : ℕ). find_in names class c.args.name.now in
    c.find.ensures
    ∙ found-opened names c.self.inside.classes c.args.name.now None
    (sym c.in-None.is ∙ c.kind_in_classes.ensures ∙ ap (newest ask) c.as_slice.ensures)
    ∙ ap (λ n. find n c.args.name.now) c.self.view_is
