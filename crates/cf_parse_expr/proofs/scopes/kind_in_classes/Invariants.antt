use Rattle.std.proofs.Common.{◌≡◌, ◌≤◌, length, drop, None}
use Rattle.cf_syntax.specs.Names.{find_in, newest}
use Rattle.cf_parse_expr.proofs.scopes.kind_in_classes.Given as goal

abbrev pub invariant-loop-left : goal.invariant-loop-left
invariant-loop-left l = record {
  within : l.left ≤ length l.classes;
  none : newest (λ class. find_in l.names class l.name) (drop l.left l.classes) ≡ None;
}

abbrev pub decreases-loop-left : goal.decreases-loop-left
decreases-loop-left l = l.left
