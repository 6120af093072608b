use Rattle.std.proofs.Common.{sym, ap, ◌∙◌}
use Rattle.std.specs.Option.{option_or}
use Rattle.cf_lookup.specs.Scope.{found, found_in, in_scope}
use Rattle.cf_lookup.proofs.Finding.{found_in-last}
use Rattle.cf_lookup.proofs.scopes.Scopes.find.Goals as goal

pub returns : goal.returns
returns c =
    let name = c.args.name.now in
    let outside = c.find_in.ensures ∙ ap (found_in name) c.as_slice.ensures.value in
    c.or.ensures ∙ ap (λ r. option_or r c.find_in.result) c.get.ensures ∙ ap (option_or (in_scope name c.self.inside.inner)) outside
    ∙ sym (found_in-last name c.self.inside.outer.items c.self.inside.inner) ∙ ap (found name) c.self.view_is
