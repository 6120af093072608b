-- What the statements of a function stand in.
use Rattle.std.specs.Prelude.{List, map}
use Rattle.cf_core.specs.FromTypes.{type_of}
use Rattle.cf_core.specs.FromClasses.{signature_of}
use Rattle.cf_plain.specs.declared.action.Action.{Action as CodeAction}
use Rattle.cf_plain.specs.declared.statement.Plain.{Plain as CodePlain}
use Rattle.cf_plain.specs.declared.statement.PlainPart.{PlainPart as CodePart, fold-PlainPart}
use Rattle.cf_plain.specs.Plain.{Action, Plain, Plains}
use Rattle.cf_plain.specs.View.{Built, action_of, plain_of, plains_of, plain_step, part_step}
use Rattle.cf_lower.specs.Kept.{Keeping, Locals}
use Rattle.cf_lower_held.specs.declared.registers.Registers.{Registers}
use Rattle.cf_lower_held.specs.Holds.{keeping}
use Rattle.cf_lower_held.specs.declared.scene.Scene.{Scene}

-- its parameters and locals
abbrev pub locals_in : Scene → Locals
locals_in x = record { types = map (type_of x.tables.now) x.types; arguments = x.arguments }

-- the statements and actions of its code
abbrev pub statement_in : Scene → CodePlain → Plain
statement_in x = plain_of x.tables.now (signature_of x.tables.now)

abbrev pub statements_in : Scene → List CodePlain → Plains
statements_in x = plains_of x.tables.now (signature_of x.tables.now)

abbrev pub action_in : Scene → CodeAction → Action
action_in x = action_of x.tables.now (signature_of x.tables.now)

-- what its registers hold
abbrev pub holding : Scene → Registers → Keeping
holding x rs = keeping x.tables.now rs

-- a base or data member with the statements that build it
abbrev pub built_in : Scene → CodePart → Built
built_in x = fold-PlainPart Plain Built (plain_step x.tables.now (signature_of x.tables.now)) (part_step x.tables.now (signature_of x.tables.now))
