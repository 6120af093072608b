use Rattle.cfront.proofs.Meanings.{runs_are_meant, runs_do_as_meant}
use Rattle.cfront.proofs.laws.runs_do_as_meant.Goals as goal

pub returns : goal.returns
returns c = record { means = runs_are_meant; does = runs_do_as_meant }
