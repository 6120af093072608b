use Rattle.cf_lower_alone.proofs.FittingLaws.Together.{one-fits}
use Rattle.cf_lower_alone.proofs.fitting.one_file_fits.Goals as goal

pub returns : goal.returns
returns c = one-fits
