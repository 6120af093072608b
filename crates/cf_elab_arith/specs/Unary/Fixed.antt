-- What a pointer gives together with an integer.
use Rattle.std.specs.Prelude.{Bool, ◌&&◌, is_some}
use Rattle.cf_elab.specs.Operand.{Value}

-- whether it is static: where the pointer's object is, and the integer is a constant (8.4)
abbrev pub stays_fixed : Value → Value → Bool
stays_fixed p i = p.is_fixed && is_some i.number
