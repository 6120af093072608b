use Rattle.std.proofs.Common.{rules, ◌≡◌, ◌<◌, length, vec_len, ap, subst, sym, ◌∙◌}
use Rattle.cc_whole.specs.Known as spec
use Rattle.cf_name_places.specs.Places.{last_place}
use Rattle.cc_whole_valid.proofs.ScopeLaws.{inside, found, no-place}
use Rattle.cc_whole_valid.specs.Memory.{last_first}
use Rattle.cc_whole_valid.proofs.scope.Scope.find.Goals as goal

pub index-entry-requires : goal.index-entry-requires
index-entry-requires c =
    let long : length c.self.inside.list.items ≡ vec_len c.self.inside.list = search rules in
    subst (λ n. c.in-Some.place < n) long (inside c.self.inside.list.items c.args.name.now c.in-Some.place (sym (ap (last_place c.args.name.now) c.self.invariant) ∙ sym c.find.ensures ∙ c.in-Some.is))

pub returns-in-None : goal.returns-in-None
returns-in-None c =
    sym (no-place (last_first c.self.inside.list.items) c.args.name.now (sym (ap (last_place c.args.name.now) c.self.invariant) ∙ sym c.find.ensures ∙ c.in-None.is))
    ∙ ap (λ l. spec.lookup l c.args.name.now) c.self.view_is

pub returns-in-Some : goal.returns-in-Some
returns-in-Some c =
    found c.self.inside.list.items c.args.name.now c.in-Some.place (sym (ap (last_place c.args.name.now) c.self.invariant) ∙ sym c.find.ensures ∙ c.in-Some.is)
    c.index-entry.result.now c.index-entry.ensures
    ∙ ap (λ l. spec.lookup l c.args.name.now) c.self.view_is
