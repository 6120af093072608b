use Rattle.std.proofs.Common.{◌≡◌, suc, length, ◌∙◌, ap, subst}
use Rattle.cf_stuck.specs.Members as spec
use Rattle.cf_stuck_statement.specs.Finds.{Finds}
use Rattle.cf_stuck.proofs.Whole.{items-are}
use Rattle.cf_stuck.proofs.whole_file.file.Goals as goal

pub returns : goal.returns
unfolding spec.file_spot
returns c =
    subst (λ o. Finds o c.items.result) (ap (λ n. spec.items_spot n c.args.c.now) c.depth-depth.ensures ∙ items-are (length c.args.c.now) c.args.c.now) c.items.ensures
