-- The pieces of the operators' link names.
use Rattle.std.proofs.Common.{◌≡◌, ℕ, zero, suc, ◌-◌, ◌<◌, ◌≤◌, ◌==◌, false, List, [], ◌∷◌, map, length, get_or, Bor, refl, ◌∙◌, arith, ne_eqb}
use Rattle.cf_classes.specs.LinkName.{item}

abbrev pub texts : List (Bor (List ℕ)) → List (List ℕ)
texts ps = map (λ p. p.now) ps

item_later : (x : List ℕ) (xs : List (List ℕ)) (n : ℕ) → item (x ∷ xs) (suc n) ≡ item xs n
item_later x xs n =
    let later : (suc n == 0) ≡ false = ne_eqb (suc n) 0 (λ e. absurd (omega (arith, e))) in
    let back : suc n - 1 ≡ n = omega arith in
    rw later (rw back refl)

pub item_at : (ps : List (Bor (List ℕ))) (n : ℕ) (d : Bor (List ℕ)) → n < length ps → item (texts ps) n ≡ (get_or ps n d).now
item_at [] n d h = absurd (omega (arith, h))
item_at (x ∷ ps) zero d h = refl
item_at (x ∷ ps) (suc n) d h = item_later x.now (texts ps) n ∙ item_at ps n d (omega (arith, h))

pub item_past : (ps : List (Bor (List ℕ))) (n : ℕ) → length ps ≤ n → item (texts ps) n ≡ []
item_past [] n h = refl
item_past (x ∷ ps) zero h = absurd (omega (arith, h))
item_past (x ∷ ps) (suc n) h = item_later x.now (texts ps) n ∙ item_past ps n (omega (arith, h))
