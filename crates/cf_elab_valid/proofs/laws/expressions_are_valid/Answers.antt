use Rattle.cf_elab_valid.proofs.Expressions.{expression-whole}
use Rattle.cf_elab_valid.proofs.laws.expressions_are_valid.Goals as goal

pub returns : goal.returns
returns c = λ s scene x b f e classless h. (expression-whole s scene x b f).part.run e classless h
