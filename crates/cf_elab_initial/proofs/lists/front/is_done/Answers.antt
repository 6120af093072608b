use Rattle.std.proofs.Common.{◌∙◌}
use Rattle.cf_elab_initial.specs.Lists.Seen.{tree_seen}
use Rattle.cf_elab_initial.proofs.ListsLaws.PlanLaws.{seen_nil}
use Rattle.cf_elab_initial.proofs.lists.front.is_done.Goals as goal

pub returns : goal.returns
returns c = c.is_empty.ensures ∙ seen_nil tree_seen c.args.left.now.items c.args.left.now.len c.args.left.now.ok.0
