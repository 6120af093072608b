use Rattle.std.proofs.Common.{ap, sym, ◌∙◌, subst}
use Rattle.cc_whole.specs.Plain.{items_of}
use Rattle.cc_whole.specs.SpellsItems.{SpellsItems}
use Rattle.cc_whole.specs.Valid.{first_fault}
use Rattle.cc_whole_fitting.specs.Numbers.{numbers_fit}
use Rattle.cc_whole_read_items.specs.Answers.{AreItems}
use Rattle.cc_whole_valid.specs.Walk.{fault_of}
use Rattle.cc_whole_wide.specs.Others.{first_wide, others}
use Rattle.cc_whole_read.proofs.Wide.{there_inside, some_wide, others_spelled, others_fit, some_fault, wide_told}
use Rattle.cc_whole_read.proofs.reader.wide.Goals as goal

pub fitting_items-requires-clause-spelled : goal.fitting_items-requires-clause-spelled
fitting_items-requires-clause-spelled c =
    let same = c.as_slice-2.ensures.value ∙ (c.in_ok-all.ensures ∙ ap others c.as_slice.ensures.value) in
    subst AreItems (sym same) (others_spelled c.args.front.now c.requires.whole c.requires.wide)

pub fitting_items-requires-clause-fit : goal.fitting_items-requires-clause-fit
fitting_items-requires-clause-fit c =
    let same = c.as_slice-2.ensures.value ∙ (c.in_ok-all.ensures ∙ ap others c.as_slice.ensures.value) in
    ap numbers_fit same ∙ others_fit c.args.front.now c.requires.whole c.requires.wide

pub unreachable-requires : goal.unreachable-requires
unreachable-requires c =
    some_wide c.args.front.now.tokens.items c.requires.wide (sym (c.in-None.ensures ∙ ap first_wide c.as_slice-3.ensures.value))

pub unreachable-requires-in-None-2 : goal.unreachable-requires-in-None-2
unreachable-requires-in-None-2 c =
    let same = c.as_slice-2.ensures.value ∙ (c.in_ok-all.ensures ∙ ap others c.as_slice.ensures.value) in
    some_fault c.args.front.now c.requires.whole c.requires.wide c.in_ok-items.items (subst (SpellsItems c.in_ok-items.items) same c.in_ok-items.ensures) c.in-Some.wide
    (sym (c.in-Some.ensures ∙ ap first_wide c.as_slice-3.ensures.value))
    (sym c.in-None-2.is ∙ (c.in_ok-first_fault-in-Some.ensures ∙ ap (λ is. fault_of (first_fault (items_of is))) c.as_slice-in-Some.ensures))

pub told_at-requires : goal.told_at-requires
told_at-requires c = there_inside c.args.front.now.tokens.items c.in-Some.wide (sym (c.in-Some.ensures ∙ ap first_wide c.as_slice-3.ensures.value))

pub returns : goal.returns
returns c =
    let same = c.as_slice-2.ensures.value ∙ (c.in_ok-all.ensures ∙ ap others c.as_slice.ensures.value) in
    wide_told c.args.front.now c.requires.whole c.requires.wide c.in_ok-items.items (subst (SpellsItems c.in_ok-items.items) same c.in_ok-items.ensures) c.in-Some.wide
    (sym (c.in-Some.ensures ∙ ap first_wide c.as_slice-3.ensures.value)) c.in-Some-2.fault
    (sym c.in-Some-2.is ∙ (c.in_ok-first_fault-in-Some.ensures ∙ ap (λ is. fault_of (first_fault (items_of is))) c.as_slice-in-Some.ensures)) c.told_at.result
    c.told_at.ensures
