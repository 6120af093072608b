-- Operands, as the definitions of elaboration see them.
use Rattle.std.specs.Prelude.{List, map}
use Rattle.cf_elab.specs.Operand as operand
use Rattle.cf_elab_env.specs.declared.operand.Operand.{Operand}
use Rattle.cf_elab_env.specs.SeenOperand.{operand_seen}

abbrev pub operands_seen : List Operand → List operand.Operand
operands_seen os = map operand_seen os
