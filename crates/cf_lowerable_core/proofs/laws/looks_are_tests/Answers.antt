use Rattle.cf_lowerable_core.proofs.Together.{looked, looks_by}
use Rattle.cf_lowerable_core.proofs.laws.looks_are_tests.Goals as goal

pub returns : goal.returns
returns c = record { passed = looked; passes = looks_by }
