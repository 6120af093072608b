use Rattle.cc_whole_read_items.proofs.WholeLaws.{one_list}
use Rattle.cc_whole_read_items.proofs.laws.tokens_have_one_list_of_items.Goals as goal

pub returns : goal.returns
returns c = one_list
