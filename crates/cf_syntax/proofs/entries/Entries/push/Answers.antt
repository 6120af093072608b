use Rattle.std.proofs.Common.{sym, ◌∙◌, ap}
use Rattle.cf_syntax.specs.declared.type_names.Entry.{Entry}
use Rattle.cf_syntax.specs.Kinds.{kind_of}
use Rattle.cf_syntax.specs.Slots.{slot_of}
use Rattle.cf_syntax.proofs.Table.{table_push}
use Rattle.cf_syntax.proofs.entries.Entries.push.Goals as goal

pub invariant_of-self-2 : goal.invariant_of-self-2
invariant_of-self-2 c name =
    table_push c.self.inside.slots c.in_ok-slots.slots c.self.inside.all c.in_ok-entry.entry c.slot_of-slot.result c.in_ok-found.found c.self.invariant
    (c.slot_of-slot.ensures ∙ ap slot_of c.as_slice.ensures ∙ ap (λ (e : Entry). slot_of e.name) (sym c.in_ok-entry.ensures))
    c.in_ok-found.ensures c.in_ok-slots.ensures name
    ∙ ap (λ l. kind_of l name) (sym c.in_ok-push.ensures.ok)
