use Rattle.cf_lower_objects.proofs.Naming.{function-lowered, local-lowered}
use Rattle.cf_lower_objects.proofs.names_are_lowered.Goals as goal

pub returns : goal.returns
returns c = record {
  functions = λ at h name t x. function-lowered at h name t x.scoped x.library x.defined;
  locals = λ at h i x. local-lowered at h i x.there x.no_reference x.visible x.object;
}
