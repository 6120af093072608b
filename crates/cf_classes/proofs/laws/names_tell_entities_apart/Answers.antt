use Rattle.cf_classes.proofs.OneEntity.{one_entity}
use Rattle.cf_classes.proofs.laws.names_tell_entities_apart.Goals as goal

pub returns : goal.returns
returns c = one_entity
