-- Lists that grow by one part after the other.
use Rattle.std.proofs.Common.{◌≡◌, ◌∙◌, ap, sym, refl, ℕ, List, [], ◌∷◌, ◌++◌, Option, Some, None, append_assoc}
use Rattle.cf_core_shape.specs.Shapes.{joined, each, in_front}

appended : {B : Type 0} (found : List B) (y : B) (rest : Option (List B)) → in_front (found ++ y ∷ []) rest ≡ in_front found (joined (λ y ys. y ∷ ys) (Some y) rest)
appended found y None = refl
appended found y (Some rest) = ap Some (append_assoc found (y ∷ []) rest)

pub next_in_front : {A B : Type 0} (f : A → Option B) (found : List B) (x : A) (y : B) (rest : List A) → f x ≡ Some y
    → in_front (found ++ y ∷ []) (each f rest) ≡ in_front found (each f (x ∷ rest))
next_in_front f found x y rest e = appended found y (each f rest) ∙ ap (λ o. in_front found (joined (λ y ys. y ∷ ys) o (each f rest))) (sym e)

pub none_in_front : {A : Type 0} (rest : Option (List A)) → in_front [] rest ≡ rest
none_in_front None = refl
none_in_front (Some rest) = refl

pub stopped_in_front : {A B : Type 0} (f : A → Option B) (found : List B) (x : A) (rest : List A) → f x ≡ None → in_front found (each f (x ∷ rest)) ≡ None
stopped_in_front f found x rest e = ap (λ o. in_front found (joined (λ y ys. y ∷ ys) o (each f rest))) e
