use Rattle.std.proofs.Common.{rules, ◌≡◌, ◌++◌, ◌∷◌, [], length, ap, ◌∙◌}
use Rattle.cf_elab.specs.Env.{FunctionEntry}
use Rattle.cf_elab_env.proofs.NamedEntries.{tells_more}
use Rattle.cf_elab_env.proofs.entries.Entries.add.Goals as goal

pub invariant_of-self-2 : goal.invariant_of-self-2
invariant_of-self-2 c =
    let old = c.self.inside in
    let entry = c.args.entry in
    let grown : c.push.new.self.items ≡ old.entries.items ++ entry ∷ [] = search rules in
    let called = c.as_slice.ensures ∙ ap (λ (f : FunctionEntry). f.name) c.entry.view_is in
    tells_more old.table c.declare.new.self old.entries.items c.push.new.self.items entry c.in_ok-number.number c.self.invariant
    (c.in_ok-number.ensures ∙ c.len.ensures ∙ old.entries.ok.0)
    (c.in_ok-declare.ensures.declared ∙ (λ i. old.table.inner ++ (called i, c.new.ensures i) ∷ [])) c.declare.ensures.outer grown
