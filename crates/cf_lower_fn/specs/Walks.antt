-- The statements of a function, in the code's trees.
use Rattle.std.specs.Prelude.{ℕ, suc, max, List, [], ◌∷◌, map}
use Rattle.std.specs.Borrow.{Bor}
use Rattle.cf_core.specs.FromClasses.{signature_of}
use Rattle.cf_core.specs.FromTypes.{Tables}
use Rattle.cf_plain.specs.declared.action.Action.{Action as CodeAction}
use Rattle.cf_plain.specs.declared.statement.Plain.{Plain as CodePlain}
use Rattle.cf_plain.specs.declared.statement.PlainPart.{PlainPart as CodePart, fold-PlainPart}
use Rattle.cf_plain.specs.Plain.{Action, Plain, Plains}
use Rattle.cf_plain.specs.View.{Built, action_of, plain_of, plains_of, plain_step, part_step}

abbrev pub action_at : Tables → CodeAction → Action
action_at tables = action_of tables (signature_of tables)

abbrev pub statement_at : Tables → CodePlain → Plain
statement_at tables = plain_of tables (signature_of tables)

abbrev pub statements_at : Tables → List CodePlain → Plains
statements_at tables = plains_of tables (signature_of tables)

abbrev pub built_at : Tables → CodePart → Built
built_at tables = fold-PlainPart Plain Built (plain_step tables (signature_of tables)) (part_step tables (signature_of tables))

-- actions that stand in memory
abbrev pub told : Tables → List (Bor CodeAction) → List Action
told tables all = map (λ a. action_at tables a.now) all

-- how deep loops with a step, and switches, stand in a loop with this step, by how deep they stand in its body and in its step
abbrev pub loop_nesting : List CodePlain → ℕ → ℕ → ℕ
loop_nesting [] inner after = inner
loop_nesting (s ∷ ss) inner after = max (suc inner) after
