use Rattle.cf_elab_unit.proofs.definitions.bodies.define_function.Goals as goal

pub define-requires-clause-known : goal.define-requires-clause-known
define-requires-clause-known c = c.in_ok-entry_at.ensures.known c.in-Some.entry c.in-Some.is
