use Rattle.std.proofs.Common.{◌≡◌, ◌++◌, map, take}
use Rattle.std.specs.List.{concat}
use Rattle.cc_whole_print.specs.Statements.{statement_text, switch_item_text}
use Rattle.cc_whole_print.proofs.statement.+body.Given as goal

abbrev pub invariant-statements-loop-one : goal.invariant-statements-loop-one
invariant-statements-loop-one l = l.out.items ≡ l.initial.out.items ++ concat (map statement_text (take l.one-index l.one-items))

abbrev pub invariant-switch_items-loop-one : goal.invariant-switch_items-loop-one
invariant-switch_items-loop-one l = l.out.items ≡ l.initial.out.items ++ concat (map switch_item_text (take l.one-index l.one-items))
