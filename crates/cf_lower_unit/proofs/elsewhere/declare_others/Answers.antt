use Rattle.std.proofs.Common.{map}
use Rattle.cc_whole.specs.Plain.{items_of, name_of}
use Rattle.cf_lower_unit.proofs.Others.{others_made}
use Rattle.cf_lower_unit.proofs.elsewhere.declare_others.Goals as goal

pub returns : goal.returns
returns c =
    others_made c.args.tables.now c.in_ok-all.all.items c.as_slice-actions.result.now _ c.new-names.result c.add_names.new.names c.add_names-2.new.names
    (map name_of (items_of c.args.heads.now)) (map name_of (items_of c.args.variables.now)) (items_of c.in_ok-made.made) c.as_slice-actions.ensures.value
    c.in_ok-all.ensures c.new-names.ensures c.in_ok-add_names.ensures c.in_ok-add_names-2.ensures c.in_ok-made.ensures
