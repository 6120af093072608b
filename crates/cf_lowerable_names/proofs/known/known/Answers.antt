use Rattle.std.specs.List.{flat_map}
use Rattle.cc_whole.specs.Plain.{items_of}
use Rattle.cf_lowerable_names.specs.Given.{given_by, library_names, names_of}
use Rattle.cf_lowerable_names.proofs.Among.{in_three}
use Rattle.cf_lowerable_names.proofs.known.known.Goals as goal

pub returns : goal.returns
returns c =
    λ q. in_three q (flat_map given_by (items_of c.args.items.now)) (names_of c.args.functions.now) library_names c.add_items.new.names c.add_functions.new.names
    c.add_library.new.names c.new-names.result c.new-names.ensures (c.in_ok-add_items.ensures q) (c.in_ok-add_functions.ensures q) (c.in_ok-add_library.ensures q)
