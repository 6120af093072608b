use Rattle.std.proofs.Common.{◌≡◌, ◌++◌, drop, flat_map}
use Rattle.cf_elab.specs.Scan.{item_names}
use Rattle.cf_elab_built.proofs.scan.scan.add_items.Given as goal

abbrev pub invariant-loop-item : goal.invariant-loop-item
invariant-loop-item l = l.names ++ flat_map item_names (drop l.item-index l.items) ≡ l.initial.names ++ flat_map item_names l.items
