use Rattle.std.proofs.Common.{◌≡◌, ◌↔◌, drop, length}
use Rattle.cc_whole_same.proofs.bodies.+bodies.Given as goal

abbrev pub invariant-same_statements-loop-index : goal.invariant-same_statements-loop-index
invariant-same_statements-loop-index l = record {
  long : length l.others ≡ length l.x-items;
  left : (l.x-items ≡ l.others) ↔ (drop l.index l.x-items ≡ drop l.index l.others);
}

abbrev pub invariant-same_parts-loop-index : goal.invariant-same_parts-loop-index
invariant-same_parts-loop-index l = record {
  long : length l.others ≡ length l.x-items;
  left : (l.x-items ≡ l.others) ↔ (drop l.index l.x-items ≡ drop l.index l.others);
}
