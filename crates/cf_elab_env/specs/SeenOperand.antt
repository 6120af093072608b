-- What an expression is, as the definitions of elaboration see it.
use Rattle.cf_elab.specs.Operand as operand
use Rattle.cf_elab_env.specs.declared.operand.Operand.{Operand}
use Rattle.cf_elab_env.specs.declared.operand.Operand.TheVariants as form

abbrev pub operand_seen : Operand → operand.Operand
operand_seen (form.Value v) = operand.value v
operand_seen (form.Functions at fs) = operand.functions at fs
