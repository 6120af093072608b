use Rattle.cf_one_file.proofs.laws.one_file_runs_as_meant.Goals as goal

pub returns : goal.returns
returns c = λ core unit text valid translated covered.
    c.lowerable_file_runs_as_meant.ensures core unit text valid translated (c.covered_is_lowerable.ensures core translated.made valid translated.sequenced covered)
