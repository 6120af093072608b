-- What the statements of a function stand in.
use Rattle.std.specs.Prelude.{List, map}
use Rattle.cf_core.specs.Types.{SourceType}
use Rattle.cf_core.specs.FromTypes.{type_of}
use Rattle.cf_core.specs.FromClasses.{signature_of}
use Rattle.cf_plain.specs.declared.action.Action.{Action as CodeAction}
use Rattle.cf_plain.specs.declared.statement.Plain.{Plain as CodePlain}
use Rattle.cf_plain.specs.Plain.{Action, Plain, Plains}
use Rattle.cf_plain.specs.View.{action_of, plain_of, plains_of}
use Rattle.cf_plain_kept.specs.Kept.{Keeping}
use Rattle.cf_lowerable_ready.specs.declared.contents.Contents.{Contents}
use Rattle.cf_lowerable_ready.specs.declared.scene.Scene.{Scene}
use Rattle.cf_lowerable_ready.specs.Contents.{keeping}

-- the types of its parameters and locals, and of its result
abbrev pub locals_in : Scene → List SourceType
locals_in x = map (type_of x.tables.now) x.types

abbrev pub result_in : Scene → SourceType
result_in x = type_of x.tables.now x.result

-- the statements and actions of its code
abbrev pub statement_in : Scene → CodePlain → Plain
statement_in x = plain_of x.tables.now (signature_of x.tables.now)

abbrev pub statements_in : Scene → List CodePlain → Plains
statements_in x = plains_of x.tables.now (signature_of x.tables.now)

abbrev pub action_in : Scene → CodeAction → Action
action_in x = action_of x.tables.now (signature_of x.tables.now)

-- what its registers hold
abbrev pub knowing : Scene → Contents → Keeping
knowing x cs = keeping x.tables.now cs
