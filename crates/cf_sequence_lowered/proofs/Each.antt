-- What holds of each element of a list.
use Rattle.std.proofs.Common.{◌≡◌, Bool, true, List, [], ◌∷◌, ◌++◌, map, reverse, subst, sym, refl}
use Rattle.std.specs.List.{list_all, flat_map}
use Rattle.std.proofs.lemmas.List.{reverse-append}
use Rattle.cf_base.proofs.Tests.{both, all_of}

abbrev pub Each : {A : Type 0} → (A → Type 0) → List A → Type 0
Each P [] = Unit {0}
Each P (x ∷ xs) = P x × Each P xs

module _ {A : Type 0} where
  pub each-two : (P : A → Type 0) (xs ys : List A) → Each P xs → Each P ys → Each P (xs ++ ys)
  each-two P [] ys p q = q
  each-two P (x ∷ xs) ys p q = (p.0, each-two P xs ys p.1 q)

  pub each-left : (P : A → Type 0) (xs ys : List A) → Each P (xs ++ ys) → Each P xs
  each-left P [] ys p = tt
  each-left P (x ∷ xs) ys p = (p.0, each-left P xs ys p.1)

  pub each-right : (P : A → Type 0) (xs ys : List A) → Each P (xs ++ ys) → Each P ys
  each-right P [] ys p = p
  each-right P (x ∷ xs) ys p = each-right P xs ys p.1

  pub each-reversed : (P : A → Type 0) (xs : List A) → Each P xs → Each P (reverse xs)
  each-reversed P [] p = tt
  each-reversed P (x ∷ xs) p =
      subst (Each P) (sym (reverse-append (x ∷ []) xs)) (each-two P (reverse xs) (x ∷ []) (each-reversed P xs p.1) (p.0, tt))

  pub each-as : (P Q : A → Type 0) (xs : List A) → ((x : A) → P x → Q x) → Each P xs → Each Q xs
  each-as P Q [] go p = tt
  each-as P Q (x ∷ xs) go p = (go x p.0, each-as P Q xs go p.1)

  -- by tests
  pub each-of : (t : A → Bool) (xs : List A) → list_all t xs ≡ true → Each (λ x. t x ≡ true) xs
  each-of t [] ok = tt
  each-of t (x ∷ xs) ok = let parts = both (t x) (list_all t xs) ok in (parts.0, each-of t xs parts.1)

  pub all-of : (t : A → Bool) (xs : List A) → Each (λ x. t x ≡ true) xs → list_all t xs ≡ true
  all-of t [] p = refl
  all-of t (x ∷ xs) p = all_of (t x) (list_all t xs) p.0 (all-of t xs p.1)

-- of what comes of each element
pub each-flat : {A B C : Type 0} (P : A → Type 0) (g : B → List A) (h : C → B) (xs : List C) → Each (λ x. Each P (g (h x))) xs → Each P (flat_map g (map h xs))
each-flat P g h [] p = tt
each-flat P g h (x ∷ xs) p = each-two P (g (h x)) (flat_map g (map h xs)) p.0 (each-flat P g h xs p.1)

pub each-joined : {A B : Type 0} (P : A → Type 0) (g : B → List A) (xs : List B) → Each (λ x. Each P (g x)) xs → Each P (flat_map g xs)
each-joined P g [] p = tt
each-joined P g (x ∷ xs) p = each-two P (g x) (flat_map g xs) p.0 (each-joined P g xs p.1)

pub each-mapped : {B C : Type 0} (P : B → Type 0) (h : C → B) (xs : List C) → Each (λ x. P (h x)) xs → Each P (map h xs)
each-mapped P h [] p = tt
each-mapped P h (x ∷ xs) p = (p.0, each-mapped P h xs p.1)

pub each-both : {A : Type 0} (P Q R : A → Type 0) (xs : List A) → ((x : A) → P x → Q x → R x) → Each P xs → Each Q xs → Each R xs
each-both P Q R [] go p q = tt
each-both P Q R (x ∷ xs) go p q = (go x p.0 q.0, each-both P Q R xs go p.1 q.1)

pub each-unflat : {A B : Type 0} (P : A → Type 0) (g : B → List A) (xs : List B) → Each P (flat_map g xs) → Each (λ x. Each P (g x)) xs
each-unflat P g [] p = tt
each-unflat P g (x ∷ xs) p = (each-left P (g x) (flat_map g xs) p, each-unflat P g xs (each-right P (g x) (flat_map g xs) p))

pub each-unmapped : {B C : Type 0} (P : B → Type 0) (h : C → B) (xs : List C) → Each P (map h xs) → Each (λ x. P (h x)) xs
each-unmapped P h [] p = tt
each-unmapped P h (x ∷ xs) p = (p.0, each-unmapped P h xs p.1)

pub each-any : {A : Type 0} (xs : List A) → Each (λ x. Unit {0}) xs
each-any [] = tt
each-any (x ∷ xs) = (tt, each-any xs)
