use Rattle.std.proofs.Common.{rules, ◌≡◌, ◌+◌, ◌≤◌, [], sym, ap, subst, arith}
use Rattle.cf_elab.specs.Answer.{Answer}
use Rattle.cf_elab.specs.Lists as lists
use Rattle.cf_elab_env.specs.Answered.{AgreesAs}
use Rattle.cf_elab_initial.specs.Initials.Keeping.{keeping_seen}
use Rattle.cf_elab_initial.specs.Lists.Seen.{plan_seen, plans_seen}
use Rattle.cf_elab_declare.specs.Starts.Carried.{starts_seen}
use Rattle.cf_elab_declare.specs.Starts.Shut as shut
use Rattle.cf_elab_declare.proofs.StartsLaws.CarryLaws.{list_parts, text_made, going_begin, going_end, going_opened, going_on, going_known, going_lighter, nothing_left}
use Rattle.cf_elab_declare.proofs.StartsLaws.Weights.{weight, weights, list_weight}
use Rattle.cf_elab_declare.proofs.starts.carrying.+carrying.Goals as goal

pub carried_out-by_list-requires : goal.carried_out-by_list-requires
carried_out-by_list-requires t c =
    let p = c.args.plan in
    let ps = c.in-ByList.plans in
    let lighter : weight (plan_seen p) ≡ weights (plans_seen ps) + 1 = list_weight p c.in-ByList.at ps c.in-ByList.is in
    (omega (arith, lighter), list_parts p c.in-ByList.at ps c.in-ByList.is c.args.env.now.types c.requires)

pub all_carried_out-loop-plan-init : goal.all_carried_out-loop-plan-init
all_carried_out-loop-plan-init t c =
    going_begin (keeping_seen c.args.keeping.now) (plans_seen c.args.plans) (plans_seen c.queued-left.result.items) c.args.env.now (starts_seen c.new-starts.result)
    (ap plans_seen c.queued-left.ensures) c.new-starts.ensures c.requires

pub all_carried_out-carried_out-requires : goal.all_carried_out-carried_out-requires
all_carried_out-carried_out-requires t c =
    let k = keeping_seen c.args.keeping.now in
    let all = plans_seen c.args.plans in
    let whole = shut.all_carried_out k all c.args.env.now in
    let begun = c.args.env.now.types in
    let s = starts_seen c.loop-plan.starts in
    let qs = plans_seen c.loop-plan.left.items in
    let p = plan_seen c.in-Some.plan in
    let ps = plans_seen c.pop_front.new.self.items in
    let is = ap plans_seen c.in-Some.ensures.items in
    let light : weight p ≤ weights all = going_lighter k whole begun (weights all) s c.loop-plan.env qs c.loop-plan.invariant p ps is in
    (omega (arith, light), going_known k whole begun (weights all) s c.loop-plan.env qs c.loop-plan.invariant p ps is)

pub all_carried_out-returns-in_err-start-clause-made : goal.all_carried_out-returns-in_err-start-clause-made
all_carried_out-returns-in_err-start-clause-made t c =
    let k = keeping_seen c.args.keeping.now in
    let all = plans_seen c.args.plans in
    let whole = shut.all_carried_out k all c.args.env.now in
    let is = ap plans_seen c.in-Some.ensures.items in
    let opened = going_opened k whole c.args.env.now.types (weights all) (starts_seen c.loop-plan.starts) c.loop-plan.env (plans_seen c.loop-plan.left.items) c.loop-plan.invariant
    (plan_seen c.in-Some.plan) (plans_seen c.pop_front.new.self.items) is in
    subst (λ (a : Answer lists.Starts). AgreesAs starts_seen a c.from_residual.result c.carried_out.new.env) (sym opened) (search rules)

pub all_carried_out-loop-plan-preserved : goal.all_carried_out-loop-plan-preserved
all_carried_out-loop-plan-preserved t c =
    let k = keeping_seen c.args.keeping.now in
    let all = plans_seen c.args.plans in
    let whole = shut.all_carried_out k all c.args.env.now in
    let is = ap plans_seen c.in-Some.ensures.items in
    going_on k whole c.args.env.now.types (weights all) (starts_seen c.loop-plan.starts) c.loop-plan.env (plans_seen c.loop-plan.left.items) c.loop-plan.invariant
    (plan_seen c.in-Some.plan) (plans_seen c.pop_front.new.self.items) is c.in_ok-start.start c.carried_out.new.env (starts_seen c.push.new.self) c.in_ok-start.ensures.made
    c.in_ok-start.ensures.grows c.in_ok-push.ensures

pub all_carried_out-returns-clause-made : goal.all_carried_out-returns-clause-made
all_carried_out-returns-clause-made t c =
    let k = keeping_seen c.args.keeping.now in
    let all = plans_seen c.args.plans in
    let left = c.loop-plan.left in
    let none : left.items ≡ [] = nothing_left c.pop_front.result left.items left.len left.ok.0 c.in_default.not-Some c.pop_front.ensures.variant.1 in
    going_end k (shut.all_carried_out k all c.args.env.now) c.args.env.now.types (weights all) (starts_seen c.loop-plan.starts) c.loop-plan.env (plans_seen left.items)
    c.loop-plan.invariant (ap plans_seen none)

pub carried_out-returns-in_ok-start-in-ByText-clause-made : goal.carried_out-returns-in_ok-start-in-ByText-clause-made
carried_out-returns-in_ok-start-in-ByText-clause-made t c =
    text_made c.args.plan c.in-ByText.at c.in-ByText.bytes c.in-ByText.is (keeping_seen c.args.keeping.now) c.args.env.now c.in_ok-start-in-ByText.start c.in_ok-start-in-ByText.ensures
