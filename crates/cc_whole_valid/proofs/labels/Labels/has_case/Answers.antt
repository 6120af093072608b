use Rattle.std.proofs.Common.{ap, ◌∙◌}
use Rattle.cc_whole.specs.Statements.{has_case}
use Rattle.cc_whole_valid.proofs.labels.Labels.has_case.Goals as goal

pub returns : goal.returns
returns c = c.is_noted.ensures ∙ c.self.invariant c.args.label ∙ ap (λ l. has_case l.cases c.args.label) c.self.view_is
