use Rattle.cf_one_file.proofs.laws.one_file_means.Goals as goal

pub returns : goal.returns
returns c = λ core unit text valid translated covered.
    c.lowerable_file_means.ensures core unit text valid translated (c.covered_is_lowerable.ensures core translated.made valid translated.sequenced covered)
