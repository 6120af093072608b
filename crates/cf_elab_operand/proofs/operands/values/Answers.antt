use Rattle.std.proofs.Common.{rules, List, length, map, take, All, sym, ap, subst, ◌∙◌}
use Rattle.std.proofs.lemmas.Iterator.Adapters.{YieldsList-from_vec}
use Rattle.std.proofs.lemmas.Iterator.Consumers.{YieldsList-turn}
use Rattle.std.proofs.lemmas.List.{length_push}
use Rattle.cf_elab.specs.Answer.{Made}
use Rattle.cf_elab.specs.Operand.{Value}
use Rattle.cf_elab_env.specs.Answered.{Stops}
use Rattle.cf_elab_env.specs.Holds.{Known}
use Rattle.cf_elab_env.specs.SeenOperand.{operand_seen}
use Rattle.cf_elab_operand.specs.Shut as shut
use Rattle.cf_elab_operand.proofs.EachLaws.{values_none, values_more, values_stopped, all_more}
use Rattle.cf_elab_operand.proofs.operands.values.Goals as goal

pub loop-operand-init : goal.loop-operand-init
loop-operand-init c =
    let none = c.new-values.ensures in
    record {
      made = values_none c.args.env.now ∙ ap (λ (vs : List Value). Made vs c.args.env.now) (sym none);
      known = search rules;
    }

pub returns-in_err-value-clause-made : goal.returns-in_err-value-clause-made
returns-in_err-value-clause-made c =
    let all = c.into_vec-operand-items.ensures in
    let given = c.into_iter-operand-iterator.ensures.into_iter_gives in
    let items = YieldsList-from_vec {s = c.into_iter-operand-iterator.result} c.args.operands (given.0 ∙ all) (given.1 ∙ c.into_vec-operand-items.result.ok.0 ∙ ap length all) in
    let turn = YieldsList-turn items c.loop-operand.yielded c.loop-operand.operand-iterator c.loop-operand.yielded_by _ c.next.new.self c.in-Some.operand c.in-Some.is c.next.ensures.steps in
    let stops : Stops (shut.values (map operand_seen c.args.operands) c.args.env.now) c.in_err-value.field-0.0 =
    values_stopped c.args.operands (length c.loop-operand.yielded) c.in-Some.operand turn.0 turn.1 c.args.env.now c.loop-operand.values c.loop-operand.invariant.made c.in_err-value.field-0.0 c.in_err-value.ensures.made in
    search rules

pub loop-operand-preserved : goal.loop-operand-preserved
loop-operand-preserved c =
    let all = c.into_vec-operand-items.ensures in
    let given = c.into_iter-operand-iterator.ensures.into_iter_gives in
    let items = YieldsList-from_vec {s = c.into_iter-operand-iterator.result} c.args.operands (given.0 ∙ all) (given.1 ∙ c.into_vec-operand-items.result.ok.0 ∙ ap length all) in
    let turn = YieldsList-turn items c.loop-operand.yielded c.loop-operand.operand-iterator c.loop-operand.yielded_by _ c.next.new.self c.in-Some.operand c.in-Some.is c.next.ensures.steps in
    let env = c.args.env.now in
    let more = values_more c.args.operands (length c.loop-operand.yielded) c.in-Some.operand turn.0 turn.1 env c.loop-operand.values c.loop-operand.invariant.made c.in_ok-value.value c.in_ok-value.ensures.made in
    record {
      made =
          ap (λ n. shut.values (map operand_seen (take n c.args.operands)) env) (length_push c.loop-operand.yielded c.in-Some.operand)
          ∙ more ∙ ap (λ (vs : List Value). Made vs env) (sym c.in_ok-push.ensures.ok);
      known = subst (All (λ (v : Value). Known env.types v)) (sym c.in_ok-push.ensures.ok)
          (all_more env.types c.loop-operand.values c.in_ok-value.value c.loop-operand.invariant.known c.in_ok-value.ensures.known);
    }
