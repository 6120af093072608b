use Rattle.std.proofs.Common.{sym, ◌∙◌}
use Rattle.cf_plain.specs.View.{file_of}
use Rattle.cf_lowerable.proofs.Joins.{plain_passed, plain_told}
use Rattle.cf_lowerable.proofs.files.plain_passes.Goals as goal

pub returns : goal.returns
returns c =
    let file = file_of c.args.made.now in
    record {
      passed = λ is. plain_told file (sym c.in_ok-is.ensures ∙ is);
      passes = λ left. c.in_ok-is.ensures ∙ plain_passed file left;
    }
