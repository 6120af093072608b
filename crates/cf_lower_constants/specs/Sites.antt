-- What the statements of an initialiser stand in.
use Rattle.std.specs.Prelude.{List}
use Rattle.cf_core.specs.FromClasses.{signature_of}
use Rattle.cf_plain.specs.declared.action.Action.{Action as CodeAction}
use Rattle.cf_plain.specs.declared.statement.Plain.{Plain as CodePlain}
use Rattle.cf_plain.specs.Plain.{Action, Plain, Plains, Register}
use Rattle.cf_plain.specs.View.{action_of, plain_of, plains_of}
use Rattle.cf_lower.specs.Constants.{Known}
use Rattle.cf_lower_constants.specs.declared.known.Known.{Known as CodeKnown}
use Rattle.cf_lower_constants.specs.declared.registers.Knowns.{Knowns}
use Rattle.cf_lower_constants.specs.declared.site.Site.{Site}
use Rattle.cf_lower_constants.specs.Knowing.{known_in, knowing}

abbrev pub action_at : Site → CodeAction → Action
action_at x = action_of x.tables.now (signature_of x.tables.now)

abbrev pub statement_at : Site → CodePlain → Plain
statement_at x = plain_of x.tables.now (signature_of x.tables.now)

abbrev pub statements_at : Site → List CodePlain → Plains
statements_at x = plains_of x.tables.now (signature_of x.tables.now)

abbrev pub told : Site → CodeKnown → Known
told x k = known_in x.tables.now k

abbrev pub told_all : Site → Knowns → Register → Known
told_all x ks = knowing x.tables.now ks
