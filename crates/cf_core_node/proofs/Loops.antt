-- Lists that grow by one part after the other.
use Rattle.std.proofs.Common.{◌≡◌, ◌∙◌, ℕ, suc, ◌+◌, ◌<◌, List, [], ◌∷◌, ◌++◌, length, get_or, drop, map, Ok, Err, refl, ap, sym, append_assoc, drop-cons, add-one}
use Rattle.cf_core_node.specs.declared.fault.NotLoaded.{NotLoaded}
use Rattle.cf_core_node.specs.declared.fault.NotLoaded.TheVariants as fault
use Rattle.cf_core_node.specs.Formed.{Formed, after, made, all}
use Rattle.cf_core_node.specs.Gives.{Gives}

-- what was found, and the rest behind it
abbrev pub in_front : {A : Type 0} → List A → Formed (List A) → Formed (List A)
in_front found (Ok rest) = Ok (found ++ rest)
in_front found (Err at) = Err at

-- one part, and those behind it
abbrev in_row : {B : Type 0} → Formed (List B) → Formed B → Formed (List B)
in_row rest x = after x (λ a. made (λ rest. a ∷ rest) rest)

appended : {B : Type 0} (found : List B) (y : B) (rest : Formed (List B)) → in_front (found ++ y ∷ []) rest ≡ in_front found (in_row rest (Ok y))
appended found y (Ok rest) = ap Ok (append_assoc found (y ∷ []) rest)
appended found y (Err at) = refl

left_at : {A : Type 0} (xs : List A) (i : ℕ) (x : A) → i < length xs → x ≡ get_or xs i x → drop i xs ≡ x ∷ drop (i + 1) xs
left_at xs i x lt e = drop-cons xs i x lt ∙ ap (λ y. y ∷ drop (suc i) xs) (sym e) ∙ ap (λ k. x ∷ drop k xs) (sym (add-one i))

module _ {A B : Type 0} (f : A → Formed B) (found : List B) (xs : List A) (i : ℕ) (x : A) (so_far : in_front found (all (map f (drop i xs))) ≡ all (map f xs))
    (within : i < length xs) (there : x ≡ get_or xs i x) where
  at_part : in_front found (in_row (all (map f (drop (i + 1) xs))) (f x)) ≡ all (map f xs)
  at_part = ap (λ l. in_front found (all (map f l))) (sym (left_at xs i x within there)) ∙ so_far

  -- a part has no form
  pub stopped : (e : NotLoaded) → Gives (f x) (Err e) → Gives (all (map f xs)) (Err e)
  stopped (fault.NotBuilt at) g = sym at_part ∙ ap (λ o. in_front found (in_row (all (map f (drop (i + 1) xs))) o)) g
  stopped fault.Memory g = tt

  -- a part is found
  pub going : (y : B) → f x ≡ Ok y → in_front (found ++ y ∷ []) (all (map f (drop (i + 1) xs))) ≡ all (map f xs)
  going y g =
      appended found y (all (map f (drop (i + 1) xs))) ∙ ap (λ o. in_front found (in_row (all (map f (drop (i + 1) xs))) o)) (sym g) ∙ at_part
