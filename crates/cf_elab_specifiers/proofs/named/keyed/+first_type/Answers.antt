use Rattle.cf_elab_env.specs.Seen.{entity_seen}
use Rattle.cf_elab_specifiers.specs.Named.Named.{name_seen}
use Rattle.cf_elab_specifiers.proofs.NamedLaws.KeyLaws.{first_none, first_here}
use Rattle.cf_elab_specifiers.proofs.named.keyed.+first_type.Goals as goal

pub returns-in-None-clause-value : goal.returns-in-None-clause-value
returns-in-None-clause-value t c = first_none c.args.env.now c.args.numbers.now c.in-None.ensures.cases

pub returns-in-Some-type_name-clause-value : goal.returns-in-Some-type_name-clause-value
returns-in-Some-type_name-clause-value t c =
    first_here c.args.env.now c.in-Some.number.now c.in-Some.rest.now c.args.numbers.now (entity_seen c.entity.result.now) c.in-Some.ensures.cases.0 c.entity.ensures.value
    (name_seen c.in-Some-type_name.name) c.in-Some-type_name.ensures.value
