use Rattle.std.proofs.Common.{◌≡◌, drop}
use Rattle.std.specs.List.{list_all}
use Rattle.cc_whole.specs.Plain.{items_of}
use Rattle.cf_lowerable_links.specs.Fits.{fits}
use Rattle.cf_lowerable_links.proofs.fits.all_fit.Given as goal

abbrev pub invariant-loop-item : goal.invariant-loop-item
invariant-loop-item l = list_all (fits l.known) (items_of (drop l.item-index l.items)) ≡ list_all (fits l.known) (items_of l.items)
