-- A program as the only unit.
use Rattle.cc_whole.specs.declared.unit.CUnit.{CUnit}
use Rattle.cc_whole.specs.declared.unit.CProgram.{CProgram}

abbrev pub alone : CProgram → CUnit
alone program = record { version = 1; items = program.items }
