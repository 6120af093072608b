use Rattle.cfront.proofs.Unhindered.{unhindered_files_run, unhindered_words_run}
use Rattle.cfront.proofs.laws.unhindered_files_run.Goals as goal

pub returns : goal.returns
returns c =
    let one = c.linking_within_the_limit_has_one_answer.ensures in
    let once = c.files_are_taken_once.ensures in
    record { files = unhindered_files_run once one; words = unhindered_words_run once one }
