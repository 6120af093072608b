-- What a table of texts has at a row.
use Rattle.std.proofs.Common.{◌≡◌, ℕ, ◌<◌, List, [], get_or, map, length, Bor, sym}
use Rattle.std.proofs.lemmas.List.{get_or-map}

pub text_at : (texts : List (Bor (List ℕ))) (i : ℕ) (d : Bor (List ℕ))
    → i < length texts → (get_or texts i d).now ≡ get_or (map (λ text. text.now) texts) i []
text_at texts i d within = sym (get_or-map (λ (text : Bor (List ℕ)). text.now) texts i d [] within)
