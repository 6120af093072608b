use Rattle.std.proofs.Common.{ap, sym, ◌∙◌}
use Rattle.cc_whole.specs.Plain.{items_of}
use Rattle.cc_whole.specs.Valid.{first_fault}
use Rattle.cc_whole.specs.ValidUnit.{valid_unit}
use Rattle.cc_whole_valid.specs.Walk.{fault_of}
use Rattle.cc_whole_read.proofs.Answering.{place_inside, is_valid, made}
use Rattle.cc_whole_read.proofs.reader.checked.Goals as goal

pub fault_at-requires : goal.fault_at-requires
fault_at-requires c =
    place_inside c.args.front.now c.args.unit c.requires c.in-Some.fault
    (sym c.in-Some.is ∙ (c.in_ok-fault.ensures ∙ ap (λ is. fault_of (first_fault (items_of is))) c.as_slice.ensures))

pub unreachable-requires : goal.unreachable-requires
unreachable-requires c =
    made (valid_unit c.args.unit) _ (sym c.in_ok-valid-in-None.ensures ∙ c.in-None-2.is)
    (is_valid c.args.front.now c.args.unit c.requires (sym c.in-None.is ∙ (c.in_ok-fault.ensures ∙ ap (λ is. fault_of (first_fault (items_of is))) c.as_slice.ensures)))
