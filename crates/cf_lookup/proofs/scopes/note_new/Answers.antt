use Rattle.std.proofs.Common.{[], ◌∷◌, ◌++◌, ap, ◌∙◌}
use Rattle.cf_lookup.proofs.Finding.{tells_new}
use Rattle.cf_lookup.proofs.scopes.note_new.Goals as goal

pub returns-clause-ok : goal.returns-clause-ok
returns-clause-ok c =
    tells_new (λ v. v.items) (λ v. v.items) c.args.table.now c.insert.new.self c.in_ok-own.own c.push.new.self c.args.name.now c.args.entity c.in_ok-own.ensures.items
    (c.in_ok-push.ensures.items ∙ ap (λ l. l ++ c.args.entity ∷ []) c.new-all.ensures.items) c.requires c.in_ok-insert.ensures.entries
