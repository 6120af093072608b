use Rattle.std.proofs.Common.{[], unwrap_or, sym, ap, ◌∙◌}
use Rattle.std.specs.Option.{option_map, option_copied}
use Rattle.cf_lookup.specs.Scope.{named_in}
use Rattle.cf_lookup.proofs.Finding.{lookup-seen}
use Rattle.cf_lookup.proofs.scopes.Scope.named.Goals as goal

pub returns-in-Some : goal.returns-in-Some
returns-in-Some c =
    let name = c.args.name.now in
    c.as_slice.ensures.value ∙ ap (λ o. unwrap_or (option_map (λ v. v.items) o) []) (ap option_copied (sym c.in-Some.is) ∙ c.get.ensures.value)
    ∙ ap (λ o. unwrap_or o []) (sym (lookup-seen (λ v. v.items) (λ v. v.items) name c.self.inside.table.entries))
    ∙ c.self.invariant name ∙ ap (named_in name) c.self.view_is

pub returns-in-None : goal.returns-in-None
returns-in-None c =
    let name = c.args.name.now in
    ap (λ o. unwrap_or (option_map (λ v. v.items) o) []) (ap option_copied (sym c.in-None.is) ∙ c.get.ensures.value)
    ∙ ap (λ o. unwrap_or o []) (sym (lookup-seen (λ v. v.items) (λ v. v.items) name c.self.inside.table.entries))
    ∙ c.self.invariant name ∙ ap (named_in name) c.self.view_is
