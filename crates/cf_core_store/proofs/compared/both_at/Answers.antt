use Rattle.cf_core_store.proofs.compared.both_at.Goals as goal

pub returns : goal.returns
returns c = λ T e. record { first = c.site_at-first.ensures.site T; second = c.site_at-second.ensures.site T }
