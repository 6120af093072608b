use Rattle.cf_lower_calls.proofs.FramesLaws.Begin.{here-first}
use Rattle.cf_lower_calls.proofs.frames.functions_begin.Goals as goal

pub returns : goal.returns
returns c B f E s first os cs entry own flags scope t frame fit args = here-first B f E s first os cs entry own flags scope t frame fit args
