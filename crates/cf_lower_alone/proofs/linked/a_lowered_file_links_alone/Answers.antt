use Rattle.cf_lower_alone.proofs.AloneLaws.Alone.{linked-alone}
use Rattle.cf_lower_alone.proofs.linked.a_lowered_file_links_alone.Goals as goal

pub returns : goal.returns
returns c = linked-alone
