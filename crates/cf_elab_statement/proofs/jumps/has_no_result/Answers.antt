use Rattle.std.proofs.Common.{ap, ◌∙◌}
use Rattle.cf_elab.specs.Operand.{sort_of, is_void}
use Rattle.cf_elab_statement.specs.Parts.{has_no_result}
use Rattle.cf_elab_statement.proofs.jumps.has_no_result.Goals as goal

pub returns : goal.returns
unfolding has_no_result
returns c = c.is_void.ensures ∙ ap is_void (c.sort_of.ensures.value ∙ ap (sort_of c.args.env.now.types) c.result.ensures.value)
