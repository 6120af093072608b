use Rattle.std.proofs.Common.{rules, ◌≡◌, ◌<◌, [], ◌∷◌, ◌++◌, sym, subst}
use Rattle.cf_name_list.proofs.CountLaws.{last-counts}
use Rattle.cf_name_list.proofs.names.Names.remove_last.Goals as goal

pub lower-requires : goal.lower-requires
lower-requires c =
    let name = c.unwrap-name.result in
    let whole : c.self.inside.list.items ≡ c.pop.new.self.items ++ name ∷ [] = search rules in
    subst (λ n. 0 < n) (sym (c.self.invariant name)) (last-counts c.self.inside.list.items c.pop.new.self.items name whole)
