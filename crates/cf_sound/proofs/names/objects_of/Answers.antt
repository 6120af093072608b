use Rattle.std.proofs.Common.{ap, ◌∙◌, ◌||◌}
use Rattle.cf_name_list.specs.Names.{is_in}
use Rattle.cf_sound.specs.Named.{object_names}
use Rattle.cf_sound.proofs.NameLaws.{are_objects}
use Rattle.cf_sound.proofs.names.objects_of.Goals as goal

pub returns : goal.returns
returns c =
    are_objects c.args.unit.now c.new-names.result c.add_objects.new.names c.new-names.ensures
    (λ q. c.in_ok-add_objects.ensures q ∙ ap (λ l. is_in (object_names l) q || is_in c.new-names.result q) c.statics.ensures)
