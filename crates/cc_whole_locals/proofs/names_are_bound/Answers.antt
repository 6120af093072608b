use Rattle.cc_whole_locals.proofs.Names.{bound-local, bound-parameter, other-local, other-parameter}
use Rattle.cc_whole_locals.proofs.names_are_bound.Goals as goal

pub returns : goal.returns
returns c = record {
  locals = λ xs b scope differ i x e. bound-local xs b scope differ i x e;
  parameters = λ xs b scope differ i x e. bound-parameter xs b scope differ i x e;
  other_than_locals = λ xs b scope name e. other-local xs b scope name e;
  other_than_parameters = λ xs b scope name e. other-parameter xs b scope name e;
}
