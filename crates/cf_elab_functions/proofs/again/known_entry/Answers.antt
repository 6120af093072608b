use Rattle.std.proofs.Common.{rules, refl, ◌||◌}
use Rattle.cf_elab_functions.specs.Seen.{says_seen}
use Rattle.cf_elab_functions.proofs.AgainLaws.{known_is, known_made, entries_kept, entities_kept, name_kept}
use Rattle.cf_elab_functions.proofs.again.known_entry.Goals as goal

pub returns-in_err-check_again-clause-made : goal.returns-in_err-check_again-clause-made
returns-in_err-check_again-clause-made c = rw (known_is c.args.env.now c.holds.ensures (says_seen c.args.says.now) refl c.args.number c.entry-entry.result.now c.entry-entry.ensures.value) (search rules)

pub returns-clause-made : goal.returns-clause-made
returns-clause-made c =
    known_made c.args.env.now c.holds.ensures (says_seen c.args.says.now) refl c.args.number c.entry-entry.result.now c.entry-entry.ensures.value
    c.in_ok-changed.changed c.set_entry.new.self c.in_ok-check_again.ensures c.in_ok-changed.ensures c.set_entry.ensures.made

pub returns-clause-number : goal.returns-clause-number
returns-clause-number c = entries_kept c.args.number c.in_ok-changed.changed c.args.env.now c.set_entry.new.self c.set_entry.ensures.made c.requires.inside

pub returns-clause-entities : goal.returns-clause-entities
returns-clause-entities c = entities_kept c.args.number c.in_ok-changed.changed c.args.env.now c.set_entry.new.self c.set_entry.ensures.made

pub set_entry-requires-clause-name : goal.set_entry-requires-clause-name
set_entry-requires-clause-name c =
    name_kept c.args.env.now c.args.number c.entry-entry.result.now c.in_ok-changed.changed (c.entry-entry.result.now.is_defined || c.args.says.now.defines)
    c.entry-entry.ensures.value c.in_ok-changed.ensures
