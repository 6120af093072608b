use Rattle.std.proofs.Common.{ap, ◌∙◌, slice_get}
use Rattle.cf_lookup.proofs.Finding.{first_named}
use Rattle.cf_lookup.proofs.scopes.Scope.get.Goals as goal

pub returns : goal.returns
returns c = c.copied.ensures ∙ c.first.ensures.value ∙ ap (λ l. slice_get l 0) c.named.ensures ∙ first_named c.args.name.now c.args.self.now
