use Rattle.cf_elab_apart.proofs.Expressions.{expression-fine}
use Rattle.cf_elab_apart.proofs.laws.expressions_are_apart.Goals as goal

pub returns : goal.returns
returns c = λ s scene x b f e classless h. expression-fine s scene x b f e classless h
