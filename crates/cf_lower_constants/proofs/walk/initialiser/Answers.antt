use Rattle.std.proofs.Common.{◌++◌, ap, ◌∙◌}
use Rattle.cf_plain.specs.Plain.{Register}
use Rattle.cf_lower.specs.Constants.{Known, constant_code}
use Rattle.cf_lower_stmt.specs.Steps.{written}
use Rattle.cf_lower_types.specs.Bare.{classes_of}
use Rattle.cf_lower_constants.specs.Sites.{statements_at}
use Rattle.cf_lower_constants.proofs.Lists.{knows_nothing}
use Rattle.cf_lower_constants.proofs.walk.initialiser.Goals as goal

pub returns : goal.returns
returns c =
    let x = c.args.x.now in
    c.in_ok-constants.ensures.code
    ∙ ap (λ (g : Register → Known). written c.args.code.now ++ constant_code (classes_of x.tables.now) (statements_at x c.args.all.now) x.owner.now g)
    (knows_nothing x.tables.now c.new-known.result c.new-known.ensures)
