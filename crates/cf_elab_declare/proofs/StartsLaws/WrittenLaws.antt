-- The one initialiser of a list.
use Rattle.std.proofs.Common.{◌≡◌, List, [], ◌∷◌, ◌++◌, Option, None, Some, option_map, refl, sym, ap, ◌∙◌}
use Rattle.cf_elab_initial.specs.declared.lists.tree.Tree.{Tree}
use Rattle.cf_elab_initial.specs.Lists.Seen.{tree_seen, trees_seen}
use Rattle.cf_elab_declare.specs.Starts.Written.{alone}

pub alone_none : (trees : List Tree) → trees ≡ [] → None ≡ alone (trees_seen trees)
alone_none trees none = ap (λ ts. alone (trees_seen ts)) (sym none)

pub alone_some : (trees before : List Tree) (last : Tree) (o : Option Tree) → trees ≡ before ++ last ∷ [] → option_map tree_seen o ≡ alone (trees_seen (before ++ last ∷ []))
    → option_map tree_seen o ≡ alone (trees_seen trees)
alone_some trees before last o is h = h ∙ ap (λ ts. alone (trees_seen ts)) (sym is)

pub ruleset alone_laws = (alone_none, alone_some)

pub nothing_before : (before : List Tree) (last : Tree) → before ≡ [] → Some (tree_seen last) ≡ alone (trees_seen (before ++ last ∷ []))
nothing_before before last none = ap (λ b. alone (trees_seen (b ++ last ∷ []))) (sym none)

pub something_before : (before : List Tree) (last : Tree) → (before ≡ [] → ⊥) → None ≡ alone (trees_seen (before ++ last ∷ []))
something_before [] last some = absurd (some refl)
something_before (t ∷ []) last some = refl
something_before (t ∷ u ∷ ts) last some = refl

pub ruleset empty_laws = (nothing_before, something_before)
