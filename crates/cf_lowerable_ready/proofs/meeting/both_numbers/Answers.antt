use Rattle.cf_lowerable_ready.proofs.Meetings.{numbers_met}
use Rattle.cf_lowerable_ready.proofs.meeting.both_numbers.Goals as goal

pub returns-in-Number : goal.returns-in-Number
returns-in-Number c = λ tables. numbers_met tables c.args.kinds.now c.in-Number.others c.meet_kinds.result c.args.b.now c.in-Number.is c.meet_kinds.ensures
