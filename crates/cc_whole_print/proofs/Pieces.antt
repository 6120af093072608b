-- One more piece behind those that are printed.
use Rattle.std.proofs.Common.{◌≡◌, ℕ, zero, suc, ◌+◌, ◌<◌, nat_lt, true, List, [], ◌∷◌, ◌++◌, map, take, get_or, length, refl, ap, ◌∙◌, append_assoc, arith}
use Rattle.std.proofs.lemmas.List.{take_more, map-append, length-map, length-take, append-nil}
use Rattle.std.proofs.lemmas.List.Folds.{concat-append}
use Rattle.std.proofs.lemmas.Bool.Decides.{nat_tests}
use Rattle.std.specs.List.{concat}
use Rattle.cc_whole_tokens.specs.declared.mark.Mark.TheVariants as mark
use Rattle.cc_whole_print.specs.Lines.{printed_mark, printed_if, after_commas, with_commas}

concat_push : (ps : List (List ℕ)) (p : List ℕ) → concat (ps ++ p ∷ []) ≡ concat ps ++ p
concat_push ps p = concat-append ps (p ∷ []) ∙ ap (λ r. concat ps ++ r) (append-nil p)

after_commas_push : (ps : List (List ℕ)) (p : List ℕ) → after_commas (ps ++ p ∷ []) ≡ after_commas ps ++ (printed_mark mark.Comma ++ p)
after_commas_push [] p = ap (λ r. printed_mark mark.Comma ++ r) (append-nil p)
after_commas_push (q ∷ ps) p = rw (after_commas_push ps p, append_assoc, append_assoc) refl

with_commas_push : (ps : List (List ℕ)) (p : List ℕ) → with_commas (ps ++ p ∷ []) ≡ with_commas ps ++ (printed_if (nat_lt 0 (length ps)) mark.Comma ++ p)
with_commas_push [] p = append-nil p
with_commas_push (q ∷ ps) p =
    let more : nat_lt 0 (length (q ∷ ps)) ≡ true = grind (arith, nat_tests) in
    rw (more, after_commas_push ps p, append_assoc) refl

pub concat_step : {X : Type 0} (f : X → List ℕ) (xs : List X) (i : ℕ) (x : X) (a b c : List ℕ) → i < length xs → x ≡ get_or xs i x
    → b ≡ a ++ concat (map f (take i xs)) → c ≡ b ++ f x → c ≡ a ++ concat (map f (take (i + 1) xs))
concat_step f xs i x a b c h e p q =
    rw (q, p, take_more xs i x h, ← e, map-append f (take i xs) (x ∷ []), concat_push (map f (take i xs)) (f x), append_assoc) refl

pub commas_step : {X : Type 0} (f : X → List ℕ) (xs : List X) (i : ℕ) (x : X) (a b m c : List ℕ) → i < length xs → x ≡ get_or xs i x
    → b ≡ a ++ with_commas (map f (take i xs)) → m ≡ b ++ printed_if (nat_lt 0 i) mark.Comma → c ≡ m ++ f x
    → c ≡ a ++ with_commas (map f (take (i + 1) xs))
commas_step f xs i x a b m c h e p q r =
    let len : length (map f (take i xs)) ≡ i = rw (length-map, length-take) (omega arith) in
    rw (r, q, p, take_more xs i x h, ← e, map-append f (take i xs) (x ∷ []), with_commas_push (map f (take i xs)) (f x), len, append_assoc, append_assoc) refl

-- the same where items are copied

item_within : {X : Type 0} (xs : List X) (i : ℕ) (d : X) → i < length xs → get_or xs i d ≡ get_or xs i (get_or xs i d)
item_within [] i d h = cc
item_within (x ∷ xs) zero d h = refl
item_within (x ∷ xs) (suc i) d h = item_within xs i d (omega (arith, h))

pub concat_copied : {X : Type 0} (f : X → List ℕ) (xs : List X) (i : ℕ) (d : X) (a b c : List ℕ) → i < length xs
    → b ≡ a ++ concat (map f (take i xs)) → c ≡ b ++ f (get_or xs i d) → c ≡ a ++ concat (map f (take (i + 1) xs))
concat_copied f xs i d a b c h p q = concat_step f xs i (get_or xs i d) a b c h (item_within xs i d h) p q

pub commas_copied : {X : Type 0} (f : X → List ℕ) (xs : List X) (i : ℕ) (d : X) (a b m c : List ℕ) → i < length xs
    → b ≡ a ++ with_commas (map f (take i xs)) → m ≡ b ++ printed_if (nat_lt 0 i) mark.Comma → c ≡ m ++ f (get_or xs i d)
    → c ≡ a ++ with_commas (map f (take (i + 1) xs))
commas_copied f xs i d a b m c h p q r = commas_step f xs i (get_or xs i d) a b m c h (item_within xs i d h) p q r
