-- Lists that are read from one end.
use Rattle.std.proofs.Common.{◌≡◌, ℕ, zero, suc, ◌+◌, ◌-◌, ◌<◌, ◌≤◌, Bool, true, false, List, [], ◌∷◌, ◌++◌, length, map, take, drop, get_or, reverse, Some, slice_get, refl, ap, sym, ◌∙◌, arith}
use Rattle.std.specs.Prelude.{bytes_eq, find, option_map, if◌then◌else◌}
use Rattle.std.proofs.lemmas.List.{length-reverse, length-map, length-drop, reverse-append, map-append, take-append-drop, take_more, drop_at}
use Rattle.cc_whole.specs.Known.{Named, lookup}
use Rattle.cc_whole_valid.specs.declared.scope.Entry.{Entry}
use Rattle.cc_whole_valid.specs.Memory.{named_of, last_first}

-- what is left from an index on: what is read there, and the rest
pub left_get : {A : Type 0} (xs : List A) (i : ℕ) (x : A) → slice_get xs i ≡ Some x → drop i xs ≡ x ∷ drop (i + 1) xs
left_get [] i x e = absurd (cc)
left_get (y ∷ xs) zero x e = let same : y ≡ x = cc in ap (λ z. z ∷ xs) same
left_get (y ∷ xs) (suc i) x e = left_get xs i x e ∙ ap (λ n. x ∷ drop n (y ∷ xs)) (let h : suc (i + 1) ≡ suc i + 1 = omega arith in h)

pub length-last_first : (xs : List Entry) → length (last_first xs) ≡ length xs
length-last_first xs = length-reverse (map named_of xs) ∙ length-map xs named_of

pub last_first-more : (xs : List Entry) (x : Entry) → last_first (xs ++ x ∷ []) ≡ named_of x ∷ last_first xs
last_first-more xs x = ap reverse (map-append named_of xs (x ∷ [])) ∙ reverse-append (map named_of xs) (named_of x ∷ [])

pub last_first-append : (xs ys : List Entry) → last_first (xs ++ ys) ≡ last_first ys ++ last_first xs
last_first-append xs ys = ap reverse (map-append named_of xs ys) ∙ reverse-append (map named_of xs) (map named_of ys)

-- the first entries are the last names
pub last_first-take : (xs : List Entry) (n : ℕ) → n ≤ length (last_first xs) → last_first (take n xs) ≡ drop (length (last_first xs) - n) (last_first xs)
last_first-take xs n h =
    let long : length (last_first (drop n xs)) ≡ length (last_first xs) - n =
    length-last_first (drop n xs) ∙ length-drop n xs ∙ ap (λ m. m - n) (sym (length-last_first xs)) in
    let split : last_first xs ≡ last_first (drop n xs) ++ last_first (take n xs) =
    ap last_first (sym (take-append-drop n xs)) ∙ last_first-append (take n xs) (drop n xs) in
    sym (drop_at (last_first (drop n xs)) (last_first (take n xs)) (length (last_first xs) - n) long) ∙ ap (drop (length (last_first xs) - n)) (sym split)
