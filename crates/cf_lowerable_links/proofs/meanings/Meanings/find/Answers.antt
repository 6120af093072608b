use Rattle.std.proofs.Common.{List, ap, ◌∙◌}
use Rattle.cc_whole.specs.Known.{Named, lookup}
use Rattle.cf_lowerable_links.proofs.meanings.Meanings.find.Goals as goal

pub returns : goal.returns
returns c = c.get.ensures ∙ c.self.invariant c.args.name ∙ ap (λ (l : List Named). lookup l c.args.name.now) c.self.view_is
