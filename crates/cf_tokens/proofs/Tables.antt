-- What the tables of the code have is what the definitions' tables have.
use Rattle.std.proofs.Common.{◌≡◌, ℕ, ◌+◌, List, [], ◌∷◌, map, Bor, Bool, cond, refl, ap, not, ◌||◌, sym}
use Rattle.std.proofs.lemmas.List.{length-map}
use Rattle.std.specs.List.{position, list_any, prefix_len}
use Rattle.std.specs.Str.{bytes_eq}
use Rattle.cf_tokens.specs.Table.{index_in, stands_in}

abbrev pub text_of : Bor (List ℕ) → List ℕ
text_of text = text.now

prefix_len-map : (p : List ℕ → Bool) (xs : List (Bor (List ℕ))) → prefix_len p (map text_of xs) ≡ prefix_len (λ x. p x.now) xs
prefix_len-map p [] = refl
prefix_len-map p (x ∷ xs) = ap (λ n. cond (p x.now) (1 + n) 0) (prefix_len-map p xs)

list_any-map : (p : List ℕ → Bool) (xs : List (Bor (List ℕ))) → list_any p (map text_of xs) ≡ list_any (λ x. p x.now) xs
list_any-map p [] = refl
list_any-map p (x ∷ xs) = ap (λ b. p x.now || b) (list_any-map p xs)

position-map : (p : List ℕ → Bool) (xs : List (Bor (List ℕ))) → position p (map text_of xs) ≡ position (λ x. p x.now) xs
position-map p xs = rw (prefix_len-map (λ x. not (p x)) xs, length-map) refl

pub index_in-map : (table : List (Bor (List ℕ))) (spelling : List ℕ)
    → position (λ entry. bytes_eq entry.now spelling) table ≡ index_in (map text_of table) spelling
unfolding index_in
index_in-map table spelling = sym (position-map (λ entry. bytes_eq entry spelling) table)

pub stands_in-map : (table : List (Bor (List ℕ))) (spelling : List ℕ)
    → list_any (λ entry. bytes_eq entry.now spelling) table ≡ stands_in (map text_of table) spelling
unfolding stands_in
stands_in-map table spelling = sym (list_any-map (λ entry. bytes_eq entry spelling) table)
