use Rattle.cc_whole_linked.proofs.Alone.{links-alone}
use Rattle.cc_whole_linked.proofs.a_program_links_alone.Goals as goal

pub returns : goal.returns
returns c = links-alone
