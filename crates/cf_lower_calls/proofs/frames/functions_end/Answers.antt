use Rattle.cf_lower_calls.proofs.FramesLaws.End.{comes-back}
use Rattle.cf_lower_calls.proofs.frames.functions_end.Goals as goal

pub returns : goal.returns
returns c K own flags scope texts E first result v s flow back over before os stay k b le laid =
    comes-back K own flags scope texts E first result v s flow back over before os stay k b le laid
