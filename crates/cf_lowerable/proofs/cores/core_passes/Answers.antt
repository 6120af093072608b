use Rattle.std.proofs.Common.{sym, ◌∙◌}
use Rattle.cf_core.specs.FromUnit.{file_of}
use Rattle.cf_lowerable.proofs.Joins.{core_passed, core_told}
use Rattle.cf_lowerable.proofs.cores.core_passes.Goals as goal

pub returns : goal.returns
returns c =
    let file = file_of c.args.core.now in
    record {
      passed = λ is. core_told file (c.looks_are_tests.ensures.passed file) (sym c.in_ok-is.ensures ∙ is);
      passes = λ tested. c.in_ok-is.ensures ∙ core_passed file (c.looks_are_tests.ensures.passes file) tested;
    }
