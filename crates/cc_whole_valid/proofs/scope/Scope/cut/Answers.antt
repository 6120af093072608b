use Rattle.std.proofs.Common.{◌≤◌, length, drop, ◌-◌, ap, sym, ◌∙◌, subst}
use Rattle.std.proofs.lemmas.List.{drop-map, length-map}
use Rattle.cc_whole.specs.Known.{Named}
use Rattle.cc_whole_valid.specs.Memory.{last_first, names_of}
use Rattle.cc_whole_valid.proofs.ListLaws.{last_first-take}
use Rattle.cc_whole_valid.proofs.scope.Scope.cut.Goals as goal

pub returns : goal.returns
returns c =
    let items = c.self.inside.list.items in
    ap last_first c.truncate.ensures.items
    ∙ last_first-take items c.args.len (subst (λ l. c.args.len ≤ length l) (sym c.self.view_is) c.requires)
    ∙ ap (λ l. drop (length l - c.args.len) l) c.self.view_is

pub invariant_of-self : goal.invariant_of-self
invariant_of-self c =
    let items = c.self.inside.list.items in
    let names = last_first items in
    c.cut.ensures
    ∙ ap (λ p. drop (length p - c.args.len) p) c.self.invariant
    ∙ ap (λ n. drop (n - c.args.len) (names_of names)) (length-map names (λ (n : Named). n.name))
    ∙ drop-map (λ (n : Named). n.name) (length names - c.args.len) names
    ∙ ap names_of (sym (ap last_first c.truncate.ensures.items
    ∙ last_first-take items c.args.len (subst (λ l. c.args.len ≤ length l) (sym c.self.view_is) c.requires)))
