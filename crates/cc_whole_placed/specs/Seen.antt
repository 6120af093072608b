-- A placed item of the code, as the definition of linking has it.
use Rattle.cc_whole_link.specs.Placed as link
use Rattle.cc_whole_placed.specs.declared.placed.PlacedItem.{PlacedItem}

abbrev pub placed_of : PlacedItem → link.Placed
placed_of p = record { unit = p.unit; was = p.was.now; now = p.now; uses = p.uses; is_static = p.is_static; longer_names = p.longer_names }
