use Rattle.std.proofs.Common.{◌+◌, ◌*◌, length}
use Rattle.cf_elab_initial.specs.Initials.Keeping.{keeping_seen}
use Rattle.cf_elab_initial.specs.Lists.Seen.{plan_seen, plans_seen}
use Rattle.cf_elab_declare.specs.Starts.Carried.{starts_seen}
use Rattle.cf_elab_declare.specs.Starts.Shut as shut
use Rattle.cf_elab_declare.proofs.StartsLaws.CarryLaws.{Going}
use Rattle.cf_elab_declare.proofs.StartsLaws.Weights.{weight, weights}
use Rattle.cf_elab_declare.proofs.starts.carrying.+carrying.Given as goal

abbrev pub decreases-carried_out : goal.decreases-carried_out
decreases-carried_out l = 3 * weight (plan_seen l.plan)

abbrev pub decreases-by_list : goal.decreases-by_list
decreases-by_list l = 3 * weights (plans_seen l.plans) + 2

abbrev pub decreases-all_carried_out : goal.decreases-all_carried_out
decreases-all_carried_out l = 3 * weights (plans_seen l.plans) + 1

abbrev pub invariant-all_carried_out-loop-plan : goal.invariant-all_carried_out-loop-plan
invariant-all_carried_out-loop-plan l =
    let k = keeping_seen l.keeping in
    Going k (shut.all_carried_out k (plans_seen l.fn.plans) l.fn.env) l.fn.env.types (weights (plans_seen l.fn.plans)) (starts_seen l.starts) (plans_seen l.left.items) l.env

abbrev pub decreases-all_carried_out-loop-plan : goal.decreases-all_carried_out-loop-plan
decreases-all_carried_out-loop-plan l = length l.left.items
