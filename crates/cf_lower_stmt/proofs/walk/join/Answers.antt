use Rattle.std.proofs.Common.{◌++◌, ◌∷◌, [], ap, ◌∙◌}
use Rattle.cc_whole.specs.Plain.{body_of, choose}
use Rattle.cf_lower_stmt.specs.Steps.{written}
use Rattle.cf_lower_stmt.proofs.walk.join.Goals as goal

pub returns : goal.returns
returns c = record {
  code = c.in_ok-put_if.ensures ∙ ap (λ e. written c.args.code.now ++ choose e (body_of c.args.chosen) (body_of c.args.rest) ∷ []) c.in_ok-tested.ensures;
  held = c.in_ok-meet.ensures;
}
