use Rattle.cf_elab_functions.proofs.EntryLaws.{named_is}
use Rattle.cf_elab_functions.proofs.checks.is_named.Goals as goal

pub returns : goal.returns
returns c =
    named_is c.has_some.result c.args.says.now.name c.as_slice.result.now c.as_slice-2.result.now c.in_ok-numbers.numbers.items c.args.env.now.entries
    c.has_some.ensures c.as_slice-2.ensures.value c.in_ok-numbers.ensures.value c.as_slice.ensures
