use Rattle.std.proofs.Common.{rules, ◌≡◌, [], ◌∷◌, ◌++◌}
use Rattle.cf_name_places.proofs.Laws.{has-last, shorter}
use Rattle.cf_name_places.proofs.places.Places.remove_last.Goals as goal

pub put_back-requires : goal.put_back-requires
put_back-requires c =
    let whole : c.self.inside.list.items ≡ c.pop.new.self.items ++ c.unwrap-place.result ∷ [] = search rules in
    has-last c.self.inside.list.items c.pop.new.self.items c.unwrap-place.result c.self.inside.last c.self.invariant whole

pub invariant_of-self : goal.invariant_of-self
invariant_of-self c =
    let whole : c.self.inside.list.items ≡ c.pop.new.self.items ++ c.unwrap-place.result ∷ [] = search rules in
    shorter c.self.inside.list.items c.pop.new.self.items c.unwrap-place.result c.self.inside.last c.self.invariant whole c.put_back.new.table c.put_back.ensures
