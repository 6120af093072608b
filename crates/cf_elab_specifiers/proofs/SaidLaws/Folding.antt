-- Specifiers are gathered one after the other.
use Rattle.std.proofs.Common.{◌≡◌, List, [], ◌∷◌, map, fold, refl}
use Rattle.cf_elab.specs.Specifiers.{Gathered, gathers, gathered_from}
use Rattle.cf_elab_specifiers.specs.Said.Seen.{word_seen}
use Rattle.cf_elab_specifiers.specs.declared.said.word.Word.{Word}

pub gathered_is : (g : Gathered) (ws : List Word) → fold (λ g w. gathers g (word_seen w)) g ws ≡ gathered_from g (map word_seen ws)
gathered_is g [] = refl
gathered_is g (w ∷ ws) = gathered_is (gathers g (word_seen w)) ws
