use Rattle.std.proofs.Common.{ap}
use Rattle.cf_elab_env.specs.Seen.{entity_seen}
use Rattle.cf_elab_functions.specs.Seen.{says_seen}
use Rattle.cf_elab_functions.proofs.JoinLaws.{join_made}
use Rattle.cf_elab_functions.proofs.entities.join_at.Goals as goal

pub returns-in_ok-joined-in-Functions-clause-made : goal.returns-in_ok-joined-in-Functions-clause-made
returns-in_ok-joined-in-Functions-clause-made c =
    join_made (says_seen c.args.says.now) c.args.number c.args.place c.args.env.now (entity_seen c.entity.result.now) c.entity.ensures.value c.in-Functions.numbers c.as_slice.result.now
    c.in_ok-joined-in-Functions.joined c.redeclare.new.self (ap entity_seen c.in-Functions.is) c.as_slice.ensures c.in_ok-joined-in-Functions.ensures c.redeclare.ensures.made
