-- A list of two words, of which the first is `go`.
use Rattle.std.proofs.Common.{◌≡◌, ℕ, ◌<◌, ◌≤◌, List, [], ◌∷◌, length, get_or, map, refl, ap, ◌∙◌, Bool, true, arith, codes, string_bytes, String, Global}
use Rattle.cfront.specs.Words.{IsGo, is_file_name}

two_items : {A : Type 0} (xs : List A) (a b : A) → 2 ≤ length xs → length xs < 3 → a ≡ get_or xs 0 a → b ≡ get_or xs 1 b
    → xs ≡ a ∷ b ∷ []
two_items [] a b long short first second = absurd (omega arith)
two_items (x ∷ []) a b long short first second = absurd (omega arith)
two_items (x ∷ y ∷ []) a b long short first second = cc
two_items (x ∷ y ∷ z ∷ rest) a b long short first second = absurd (omega arith)

pub is_go : (words : List (String Global)) (a b : String Global) → 2 ≤ length words → length words < 3 → a ≡ get_or words 0 a → b ≡ get_or words 1 b
    → string_bytes a ≡ codes "go" → is_file_name (string_bytes b) ≡ true → IsGo (map string_bytes words) (string_bytes b)
is_go words a b long short first second go named = record {
  spelled = ap (map string_bytes) (two_items words a b long short first second) ∙ ap (λ word. word ∷ string_bytes b ∷ []) go;
  named = named;
}
