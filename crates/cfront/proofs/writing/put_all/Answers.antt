use Rattle.std.proofs.Common.{◌∙◌}
use Rattle.cfront.proofs.Pieces.{one_more, front_of_all}
use Rattle.cfront.proofs.writing.put_all.Goals as goal

pub returns-in-Err-clause-bytes : goal.returns-in-Err-clause-bytes
returns-in-Err-clause-bytes g c = λ told.
    front_of_all c.args.pieces.now c.loop-piece.piece-index _ _ _ _ c.loop-piece-test.true
    (c.loop-piece.invariant.bytes (c.put.ensures.told told)) (c.in-Err.ensures.bytes told)

pub loop-piece-preserved : goal.loop-piece-preserved
loop-piece-preserved g c = record {
  bytes = λ told. one_more c.args.pieces.now c.loop-piece.piece-index _ _ _ _ c.loop-piece-test.true
      (c.loop-piece.invariant.bytes (c.put.ensures.told told)) (c.in-Ok.ensures.bytes told);
  told = λ told. c.loop-piece.invariant.told (c.put.ensures.told told);
  faults = c.in-Ok.ensures.faults ∙ c.loop-piece.invariant.faults;
}
