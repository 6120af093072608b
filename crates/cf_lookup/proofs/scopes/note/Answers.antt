use Rattle.cf_lookup.proofs.Finding.{tells_again, tells_same, when_err}
use Rattle.cf_lookup.proofs.scopes.note.Goals as goal

pub returns-in_err-push-in-Some-clause-err : goal.returns-in_err-push-in-Some-clause-err
returns-in_err-push-in-Some-clause-err c =
    when_err c.from_residual.result
    (tells_same (λ v. v.items) (λ v. v.items) c.args.name.now c.push.new.self c.args.table.now.entries (c.get_mut.follows.lender c.push.new.self).entries c.in-Some.all.now
    c.in-Some.ensures.value (c.get_mut.follows.holds c.push.new.self).0 c.in_err-push-in-Some.ensures.items)

pub returns-in_ok-push-in-Some-clause-ok : goal.returns-in_ok-push-in-Some-clause-ok
returns-in_ok-push-in-Some-clause-ok c =
    tells_again (λ v. v.items) (λ v. v.items) c.args.name.now c.push.new.self c.args.table.now.entries (c.get_mut.follows.lender c.push.new.self).entries c.in-Some.all.now
    c.in-Some.ensures.value (c.get_mut.follows.holds c.push.new.self).0 c.args.entity c.in_ok-push-in-Some.ensures.items
