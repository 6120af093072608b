use Rattle.cf_one_file.proofs.Runs.{text-means}
use Rattle.cf_one_file.proofs.laws.lowerable_file_means.Goals as goal

pub returns : goal.returns
returns c = text-means c.text_has_one_unit.ensures c.one_file_agrees.ensures c.sequenced_units_keep_the_meaning.ensures
