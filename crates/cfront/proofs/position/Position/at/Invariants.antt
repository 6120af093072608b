-- The line and the column of the bytes so far.
use Rattle.std.proofs.Common.{◌≡◌, ◌≤◌, ◌+◌, ◌==◌, take, not}
use Rattle.std.specs.Prelude.{count_by}
use Rattle.std.specs.List.{suffix_len}
use Rattle.cfront.proofs.position.Position.at.Given as goal

abbrev pub invariant-loop-byte : goal.invariant-loop-byte
invariant-loop-byte l = record {
  line : l.line ≡ 1 + count_by (λ byte. byte == 10) (take l.byte-index l.byte-items);
  column : l.column ≡ 1 + suffix_len (λ byte. not (byte == 10)) (take l.byte-index l.byte-items);
  line_bound : l.line ≤ 1 + l.byte-index;
  column_bound : l.column ≤ 1 + l.byte-index;
}
