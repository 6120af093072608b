use Rattle.std.proofs.Common.{◌∙◌, List, [], Option, Some, None, ap, subst}
use Rattle.std.specs.Prelude.{option_map}
use Rattle.cc_whole_link.specs.Link.{FirstBroken, with_main}
use Rattle.cc_whole_link.specs.Placed.{Placed}
use Rattle.cc_whole_linker.specs.Answers.{Finished, refusal_of}
use Rattle.cc_whole_linker.specs.declared.error.BrokenRule.{BrokenRule}
use Rattle.cc_whole_linker.specs.Rules.{seen}
use Rattle.cc_whole_linker.proofs.LinkLaws.{item_refused, units_finished}
use Rattle.cc_whole_linker.proofs.linking.of_items.Goals as goal

pub returns-in-Some : goal.returns-in-Some
returns-in-Some c =
    let items = seen c.as_slice.result.now in
    let found = subst (λ (o : Option BrokenRule). FirstBroken items [] items (option_map refusal_of o)) c.in-Some.is c.in_ok-broken.ensures in
    item_refused c.args.units.now c.requires c.in-Some.broken
    (subst (λ (l : List Placed). FirstBroken l [] l (Some (refusal_of c.in-Some.broken))) (ap seen c.as_slice.ensures.value ∙ c.in_ok-all.ensures) found)

pub returns-in-None : goal.returns-in-None
returns-in-None c =
    let items = seen c.as_slice.result.now in
    let found = subst (λ (o : Option BrokenRule). FirstBroken items [] items (option_map refusal_of o)) c.in-None.is c.in_ok-broken.ensures in
    units_finished c.args.units.now c.requires
    (subst (λ (l : List Placed). FirstBroken l [] l None) (ap seen c.as_slice.ensures.value ∙ c.in_ok-all.ensures) found)
    c.finished.result (subst (λ (l : List Placed). Finished (with_main l) c.finished.result) c.in_ok-all.ensures c.finished.ensures)
