use Rattle.std.proofs.Common.{◌≡◌, false, length, is_some, sym, ap, ◌∙◌, rules}
use Rattle.std.specs.List.{list_any}
use Rattle.cf_types.proofs.Tables.{found_item, new_item}
use Rattle.cf_types.proofs.types.place_of.Goals as goal

pub returns-in-Some-clause-ok : goal.returns-in-Some-clause-ok
returns-in-Some-clause-ok g c =
    found_item g.T.PartialEq.eq c.requires.same g.met.T.Eq.laws c.args.items.now.keys c.args.item c.in-Some.place c.requires.once (sym c.get_index_of.ensures.index ∙ c.in-Some.is)

pub returns-in_ok-insert-in-None-clause-ok : goal.returns-in_ok-insert-in-None-clause-ok
returns-in_ok-insert-in-None-clause-ok g c =
    let none : list_any (g.T.PartialEq.eq c.args.item) c.args.items.now.keys ≡ false = sym c.get_index_of.ensures.found ∙ ap is_some c.in-None.is in
    let last : c.in_ok-place-in-None.place ≡ length c.args.items.now.keys = search rules in
    new_item g.T.PartialEq.eq c.requires.same g.met.T.Eq.laws c.args.items.now.keys c.args.item c.in_ok-place-in-None.place c.requires.once
    c.insert.new.self.keys none c.in_ok-insert-in-None.ensures.keys last
