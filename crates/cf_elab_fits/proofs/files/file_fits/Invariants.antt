use Rattle.std.proofs.Common.{◌≡◌, map, drop}
use Rattle.cf_elab_valid.specs.Constants.{all_of}
use Rattle.cf_elab_valid_files.specs.File.Laws.{item_fits}
use Rattle.cf_elab_fits.proofs.files.file_fits.Given as goal

abbrev pub invariant-loop-i : goal.invariant-loop-i
invariant-loop-i l = all_of (map item_fits (drop l.i-index l.i-items)) ≡ all_of (map item_fits l.i-items)
