use Rattle.cf_plain_frames.proofs.Statements.{statement-stays, function-stays}
use Rattle.cf_plain_frames.proofs.frames_stay.Goals as goal

pub returns : goal.returns
returns c = record {
  statements = λ P none fs simple n st h g e os. statement-stays P none fs simple n st h g e os;
  functions = λ P none fs simple n f os s w args. function-stays P none fs simple n f os s w args;
}
