use Rattle.std.proofs.Common.{◌++◌, ◌∷◌, [], ap, ◌∙◌}
use Rattle.cc_whole_laws.proofs.Views.{of-If}
use Rattle.cf_lower_stmt.specs.Steps.{written}
use Rattle.cf_lower_stmt.proofs.writes.put_if.Goals as goal

pub returns : goal.returns
returns c = c.in_ok-push.ensures ∙ ap (λ s. written c.args.code.now ++ s ∷ []) (of-If c.args.tested c.args.chosen c.args.rest)
