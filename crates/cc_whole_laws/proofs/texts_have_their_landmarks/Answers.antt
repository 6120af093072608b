use Rattle.cc_whole_laws.proofs.ItemMarks.{landmarks-of-texts}
use Rattle.cc_whole_laws.proofs.texts_have_their_landmarks.Goals as goal

pub returns : goal.returns
returns c = landmarks-of-texts
