-- The list with one more name counts it once more.
use Rattle.std.proofs.lemmas.List.{map-append}
use Rattle.cf_base.proofs.Times.{rises}
use Rattle.cf_base.proofs.failures.Failures.note.Goals as goal

pub returns-clause-rises : goal.returns-clause-rises
returns-clause-rises c =
    rw (c.in_ok-push.ensures.items, map-append, c.self.view_is, c.in_ok-name.ensures.ok) (rises c.args.self.now c.args.name.now)
