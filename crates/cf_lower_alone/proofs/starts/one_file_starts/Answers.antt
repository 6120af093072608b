use Rattle.cf_lower_alone.proofs.StartLaws.Start.{one-starts}
use Rattle.cf_lower_alone.proofs.starts.one_file_starts.Goals as goal

pub returns : goal.returns
returns c = one-starts
