-- The pieces so far stand on the sink.
use Rattle.std.proofs.Common.{◌≡◌, ◌++◌, IsTrue, map, take}
use Rattle.std.specs.List.{concat}
use Rattle.cfront.proofs.writing.put_all.Given as goal

abbrev pub invariant-loop-piece : goal.invariant-loop-piece
invariant-loop-piece g l = record {
  bytes : IsTrue (g.S.Sink.stream l.sink).told
      → (g.S.Sink.stream l.sink).bytes ≡ (g.S.Sink.stream l.initial.sink).bytes ++ concat (map (λ piece. piece.now) (take l.piece-index l.pieces));
  told : IsTrue (g.S.Sink.stream l.sink).told → IsTrue (g.S.Sink.stream l.initial.sink).told;
  faults : (g.S.Sink.stream l.sink).faults ≡ (g.S.Sink.stream l.initial.sink).faults;
}
