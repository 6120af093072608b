use Rattle.std.proofs.Common.{◌≡◌, ◌∙◌, ◌<◌, ℕ, List, Option, Some, ap, length, slice_get, rules}
use Rattle.cf_core.specs.Run.{upd}
use Rattle.cf_core_objects.specs.Store.{local_object}
use Rattle.cf_core_objects.proofs.CellLaws.{none-pushed, local-set}
use Rattle.cf_core_objects.proofs.making.list_local.Goals as goal

pub loop-locals-preserved : goal.loop-locals-preserved
loop-locals-preserved c = λ k.
    ap (λ (l : List (Option ℕ)). local_object (slice_get l k)) c.in_ok-push.ensures.items ∙ none-pushed c.loop-locals.locals.items k ∙ c.loop-locals.invariant k

pub returns : goal.returns
returns c = λ k.
    let lt : c.args.index < length c.loop-locals.locals.items = search rules in
    local-set c.loop-locals.locals.items c.args.index c.args.object k lt
    ∙ ap (λ f. upd c.args.index (Some c.args.object) f k) (λ j k. c.loop-locals.invariant k j)
