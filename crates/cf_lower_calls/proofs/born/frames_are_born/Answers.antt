use Rattle.cf_lower_calls.proofs.BornLaws.Blocks.{frame-born, types-fit}
use Rattle.cf_lower_calls.proofs.born.frames_are_born.Goals as goal

pub returns : goal.returns
returns c B f ok E s first os cs entry = (frame-born B f ok E s first os cs entry, types-fit B f ok E s first os cs entry)
