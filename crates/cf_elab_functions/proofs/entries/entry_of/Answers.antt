use Rattle.cf_elab_functions.specs.Seen.{says_seen}
use Rattle.cf_elab_functions.proofs.EntryLaws.{entry_is}
use Rattle.cf_elab_functions.proofs.entries.entry_of.Goals as goal

pub returns-clause-value : goal.returns-clause-value
returns-clause-value c =
    entry_is c.args.env.now (says_seen c.args.says.now) c.first_of.result c.as_slice-2.result.now c.in_ok-numbers.numbers.items c.as_slice.result.now
    c.first_of.ensures.value c.as_slice-2.ensures.value c.in_ok-numbers.ensures.value c.as_slice.ensures
