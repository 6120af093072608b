-- What is put behind a list, one item after the other.
use Rattle.std.proofs.Common.{◌≡◌, ◌∙◌, ℕ, ◌+◌, ◌<◌, List, ◌++◌, map, length, drop, get_or, ap, sym, append_assoc}
use Rattle.std.specs.List.{flat_map}
use Rattle.cf_name_list.proofs.ListLaws.{left_is}

module _ {A B : Type 0} (f : A → B) (g : B → List (List ℕ)) (xs : List A) (i : ℕ) (x : A) (within : i < length xs) (is : x ≡ get_or xs i x) where
  pub put_more : (names new all : List (List ℕ)) → new ≡ names ++ g (f x) → names ++ flat_map g (map f (drop i xs)) ≡ all → new ++ flat_map g (map f (drop (i + 1) xs)) ≡ all
  put_more names new all put so_far =
      ap (λ l. l ++ flat_map g (map f (drop (i + 1) xs))) put ∙ append_assoc names (g (f x)) (flat_map g (map f (drop (i + 1) xs)))
      ∙ ap (λ (l : List A). names ++ flat_map g (map f l)) (sym (left_is xs i x within is)) ∙ so_far
