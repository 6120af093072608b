use Rattle.cc_whole_outcome.proofs.RunsAlone.{runs-alone}
use Rattle.cc_whole_outcome.proofs.a_program_runs_alone.Goals as goal

pub returns : goal.returns
returns c = runs-alone
