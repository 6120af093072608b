use Rattle.std.proofs.Common.{◌≡◌, ◌++◌, map, drop}
use Rattle.cc_whole.specs.Plain.{statement_of, in_order, switch_item_of, switch_in_order}
use Rattle.cc_whole_link.specs.Placed.{locals_of_all, locals_of_switch}
use Rattle.cc_whole_uses.specs.Told.{told}
use Rattle.cc_whole_uses.proofs.inner.+inner.Given as goal

abbrev pub invariant-of_statements-loop-statement : goal.invariant-of_statements-loop-statement
invariant-of_statements-loop-statement l =
    told l.out.items ++ locals_of_all (in_order (map statement_of (drop l.statement-index l.statement-items)))
    ≡ told l.initial.out.items ++ locals_of_all (in_order (map statement_of l.statement-items))

abbrev pub invariant-of_switch-loop-item : goal.invariant-of_switch-loop-item
invariant-of_switch-loop-item l =
    told l.out.items ++ locals_of_switch (switch_in_order (map switch_item_of (drop l.item-index l.item-items)))
    ≡ told l.initial.out.items ++ locals_of_switch (switch_in_order (map switch_item_of l.item-items))
