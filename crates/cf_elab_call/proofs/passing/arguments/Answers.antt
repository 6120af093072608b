use Rattle.std.proofs.Common.{rules, ◌+◌, ◌++◌, ◌∷◌, [], length, ap, sym, ◌∙◌}
use Rattle.std.proofs.lemmas.Iterator.Adapters.{YieldsList-from_vec}
use Rattle.std.proofs.lemmas.Iterator.Consumers.{YieldsList-turn, YieldsList-end}
use Rattle.std.proofs.lemmas.List.{length_push}
use Rattle.cf_core.specs.declared.node.Core.{Core as Node}
use Rattle.cf_elab_env.specs.Answered.{Stops}
use Rattle.cf_elab_env.specs.Holds.{IsType}
use Rattle.cf_elab_env.proofs.Growth.{grows-refl, grows_through, type_grown}
use Rattle.cf_elab_env.proofs.Sorts.{at_place}
use Rattle.cf_elab_call.specs.Shut as shut
use Rattle.cf_elab_call.proofs.ArgumentLaws.{begun, ended, turn_stops, turn_more}
use Rattle.cf_elab_call.proofs.passing.arguments.Goals as goal

pub loop-value-init : goal.loop-value-init
loop-value-init c =
    let none = c.new-arguments.ensures in
    record {
      made = begun c.args.at c.args.params.now c.args.values c.args.env.now c.new-arguments.result none;
      count = ap length none;
      grows = grows-refl c.args.env.now.types;
    }

pub initial-requires-clause-typed : goal.initial-requires-clause-typed
initial-requires-clause-typed c =
    let types = c.args.env.now.types in
    type_grown types c.loop-value.env.types c.param_at-param.result c.loop-value.invariant.grows
    (at_place (IsType types) c.args.params.now c.len.result c.param_at-param.result c.requires.params_known c.param_at-param.ensures)

pub returns-in_err-start-clause-made : goal.returns-in_err-start-clause-made
returns-in_err-start-clause-made c =
    let all = c.into_vec-value-items.ensures in
    let given = c.into_iter-value-iterator.ensures.into_iter_gives in
    let items = YieldsList-from_vec {s = c.into_iter-value-iterator.result} c.args.values (given.0 ∙ all) (given.1 ∙ c.into_vec-value-items.result.ok.0 ∙ ap length all) in
    let turn = YieldsList-turn items c.loop-value.yielded c.loop-value.value-iterator c.loop-value.yielded_by _ c.next.new.self c.in-Some.value c.in-Some.is c.next.ensures.steps in
    let stops : Stops (shut.arguments c.args.at c.args.params.now c.args.values c.args.env.now) c.in_err-start.field-0.0 =
    turn_stops c.args.at c.args.params.now c.args.values c.args.env.now c.loop-value.env c.loop-value.arguments (length c.loop-value.yielded) c.len.result c.param_at-param.result
    c.in-Some.value c.loop-value.invariant.made turn.0 turn.1 (c.len.ensures ∙ c.loop-value.invariant.count) c.param_at-param.ensures c.in_err-start.field-0.0 c.in_err-start.ensures.made in
    search rules

pub loop-value-preserved : goal.loop-value-preserved
loop-value-preserved c =
    let all = c.into_vec-value-items.ensures in
    let given = c.into_iter-value-iterator.ensures.into_iter_gives in
    let items = YieldsList-from_vec {s = c.into_iter-value-iterator.result} c.args.values (given.0 ∙ all) (given.1 ∙ c.into_vec-value-items.result.ok.0 ∙ ap length all) in
    let turn = YieldsList-turn items c.loop-value.yielded c.loop-value.value-iterator c.loop-value.yielded_by _ c.next.new.self c.in-Some.value c.in-Some.is c.next.ensures.steps in
    let more = c.in_ok-push.ensures.ok ∙ ap (λ (n : Node). c.loop-value.arguments ++ n ∷ []) (c.into_inner.ensures ∙ c.into_node.ensures) in
    let one_more = length_push c.loop-value.yielded c.in-Some.value in
    record {
      made =
          turn_more c.args.at c.args.params.now c.args.values c.args.env.now c.loop-value.env c.loop-value.arguments (length c.loop-value.yielded) c.len.result c.param_at-param.result
          c.in-Some.value c.loop-value.invariant.made turn.0 turn.1 (c.len.ensures ∙ c.loop-value.invariant.count) c.param_at-param.ensures c.in_ok-start.start c.initial.new.env
          c.push.new.self (length (c.loop-value.yielded ++ c.in-Some.value ∷ [])) c.in_ok-start.ensures.made more one_more;
      count = ap length more ∙ length_push c.loop-value.arguments c.in_ok-start.start.node ∙ ap (λ n. n + 1) c.loop-value.invariant.count ∙ sym one_more;
      grows = grows_through c.args.env.now.types c.loop-value.env.types c.initial.new.env.types c.loop-value.invariant.grows c.in_ok-start.ensures.grows;
    }

pub returns-clause-made : goal.returns-clause-made
returns-clause-made c =
    let all = c.into_vec-value-items.ensures in
    let given = c.into_iter-value-iterator.ensures.into_iter_gives in
    let items = YieldsList-from_vec {s = c.into_iter-value-iterator.result} c.args.values (given.0 ∙ all) (given.1 ∙ c.into_vec-value-items.result.ok.0 ∙ ap length all) in
    let last = YieldsList-end items c.loop-value.yielded c.loop-value.value-iterator c.loop-value.yielded_by _ c.next.new.self c.in-None.is c.next.ensures.steps in
    c.loop-value.invariant.made
    ∙ ended c.args.at c.args.params.now c.args.values c.loop-value.env c.loop-value.arguments (length c.loop-value.yielded) last.1 c.requires.as_many
