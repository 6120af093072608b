-- What is so of each of two lists is so of each of both.
use Rattle.std.proofs.Common.{List, [], ◌∷◌, ◌++◌}
use Rattle.cf_lower_valid_body.specs.Scope.{Each}

pub each-left : {A : Type 0} (P : A → Type 0) (xs ys : List A) → Each P (xs ++ ys) → Each P xs
each-left P [] ys h = tt
each-left P (x ∷ xs) ys h = (h.0, each-left P xs ys h.1)

pub each-right : {A : Type 0} (P : A → Type 0) (xs ys : List A) → Each P (xs ++ ys) → Each P ys
each-right P [] ys h = h
each-right P (x ∷ xs) ys h = each-right P xs ys h.1

pub each-both : {A : Type 0} (P : A → Type 0) (xs ys : List A) → Each P xs → Each P ys → Each P (xs ++ ys)
each-both P [] ys h k = k
each-both P (x ∷ xs) ys h k = (h.0, each-both P xs ys h.1 k)
