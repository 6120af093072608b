use Rattle.cf_core_objects.proofs.AccessLaws.{bound-not-null}
use Rattle.cf_core_objects.proofs.access.not_null.Goals as goal

pub returns-in_default : goal.returns-in_default
returns-in_default c = λ s w. bound-not-null c.args.v s w c.in_default.not-Null
