use Rattle.std.proofs.Common.{Some, ap, ◌∙◌}
use Rattle.cf_elab.specs.Answer.{Made}
use Rattle.cf_elab_env.specs.Seen.{entity_seen, object_seen}
use Rattle.cf_elab_objects.proofs.ObjectsLaws.NumberLaws.{of_object}
use Rattle.cf_elab_objects.proofs.objects.numbers.set_number.Goals as goal

pub returns-in_ok-object-clause-made : goal.returns-in_ok-object-clause-made
returns-in_ok-object-clause-made c =
    let found = c.entity.ensures.value ∙ ap (λ x. Some (entity_seen x)) c.in-Object.is in
    of_object c.args.place c.args.number c.args.env.now (object_seen c.in-Object.object) (object_seen c.in_ok-object.object) (Made tt c.redeclare.new.self) found
    c.in_ok-object.ensures.made c.redeclare.ensures.made
