use Rattle.cf_elab_valid_files.proofs.BodiesLaws.Bodies.{statement-law, declaration-tree-law}
use Rattle.cf_elab_valid_files.proofs.bodies.laws.bodies_are_valid.Goals as goal

pub returns : goal.returns
returns c = λ apart. record { statements = statement-law apart; declarations = declaration-tree-law apart }
