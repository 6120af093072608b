-- Lists of names that differ, since their ranks grow.
use Rattle.std.proofs.Common.{◌≡◌, ℕ, suc, ◌+◌, ◌≤◌, ◌<◌, Bool, true, false, not, ◌||◌, List, [], ◌∷◌, ◌++◌, refl, ap, subst, ◌∙◌, inl, inr, arith}
use Rattle.std.specs.Prelude.{bytes_eq}
use Rattle.cf_base.proofs.Tests.{bytes_differ}
use Rattle.cc_whole.specs.declared.statement.CLocal.{CLocal}
use Rattle.cc_whole.specs.declared.unit.CParameter.{CParameter}
use Rattle.cc_whole.specs.Types.{local_type}
use Rattle.cc_whole.specs.Landmarks.{type_marks, marks_before, local_marks}
use Rattle.cc_whole.specs.Fault.{fine, holds, moved, ◌before◌}
use Rattle.cc_whole.specs.Known.{is_in}
use Rattle.cc_whole.specs.Statements.{has_size, checked_locals}
use Rattle.cc_whole.specs.Uses.{local_names, parameter_names}
use Rattle.cc_whole.specs.Valid.{checked_parameters}
use Rattle.cc_whole_sections.specs.Sections.{In, Every}
use Rattle.cf_lower_valid.proofs.Digits.{rank}

abbrev pub Names : Type 0
Names = List (List ℕ)

-- ---- names that differ

abbrev pub Distinct : Names → Type 0
Distinct [] = Unit {0}
Distinct (y ∷ ys) = Every (λ z. bytes_eq y z ≡ false) ys × Distinct ys

-- each is new behind these
abbrev Fresh : Names → Names → Type 0
Fresh [] earlier = Unit {0}
Fresh (y ∷ ys) earlier = (is_in earlier y ≡ false) × Fresh ys (y ∷ earlier)

either-false : (a b : Bool) → a ≡ false → b ≡ false → (a || b) ≡ false
either-false a b e f = ap (λ x. x || b) e ∙ f

fresh : (ys earlier : Names) → Distinct ys → Every (λ y. is_in earlier y ≡ false) ys → Fresh ys earlier
fresh [] earlier d h = tt
fresh (y ∷ ys) earlier d h =
    (h y (inl refl), fresh ys (y ∷ earlier) d.1 (λ z k. either-false (bytes_eq y z) (is_in earlier z) (d.0 z k) (h z (inr k))))

pub append-in : {A : Type 0} (x : A) (xs ys : List A) (P : Type 0) → In x (xs ++ ys) → (In x xs → P) → (In x ys → P) → P
append-in x [] ys P h f g = g h
append-in x (z ∷ xs) ys P (inl e) f g = f (inl e)
append-in x (z ∷ xs) ys P (inr h) f g = append-in x xs ys P h (λ k. f (inr k)) g

pub distinct-append : (xs ys : Names) → Distinct xs → Distinct ys → Every (λ x. Every (λ y. bytes_eq x y ≡ false) ys) xs → Distinct (xs ++ ys)
distinct-append [] ys d e h = e
distinct-append (x ∷ xs) ys d e h = (
  λ z k. append-in z xs ys (bytes_eq x z ≡ false) k (λ l. d.0 z l) (λ l. h x (inl refl) z l),
  distinct-append xs ys d.1 e (λ w k. h w (inr k)),
)

-- ---- ranks

pub ranks-differ : (x y : List ℕ) → (rank x ≡ rank y → ⊥) → bytes_eq x y ≡ false
ranks-differ x y h = bytes_differ x y (λ e. h (ap rank e))

-- ranks grow from one number to below another
abbrev pub Span : ℕ → Names → ℕ → Type 0
Span n [] m = n ≤ m
Span n (y ∷ ys) m = (n ≤ rank y) × Span (suc (rank y)) ys m

pub span-from : (k n m : ℕ) (ys : Names) → k ≤ n → Span n ys m → Span k ys m
span-from k n m [] le h = let l : n ≤ m = h in omega (arith, le, l)
span-from k n m (y ∷ ys) le h = (let l : n ≤ rank y = h.0 in omega (arith, le, l), h.1)

pub span-append : (n m k : ℕ) (xs ys : Names) → Span n xs m → Span m ys k → Span n (xs ++ ys) k
span-append n m k [] ys h g = span-from n m k ys h g
span-append n m k (x ∷ xs) ys h g = (h.0, span-append (suc (rank x)) m k xs ys h.1 g)

-- to a greater number
pub span-to : (n m k : ℕ) (ys : Names) → m ≤ k → Span n ys m → Span n ys k
span-to n m k [] le h = let l : n ≤ m = h in omega (arith, le, l)
span-to n m k (y ∷ ys) le h = (h.0, span-to (suc (rank y)) m k ys le h.1)

span-end : (n m : ℕ) (ys : Names) → Span n ys m → n ≤ m
span-end n m [] h = h
span-end n m (y ∷ ys) h = let l : n ≤ rank y = h.0 in let r : suc (rank y) ≤ m = span-end (suc (rank y)) m ys h.1 in omega (arith, l, r)

pub record Between (n m : ℕ) (y : List ℕ) : Type 0 where
  pub low : n ≤ rank y
  pub high : rank y < m

pub span-between : (n m : ℕ) (ys : Names) → Span n ys m → Every (Between n m) ys
span-between n m [] h z k = absurd k
span-between n m (y ∷ ys) h z (inl e) =
    let l : n ≤ rank y = h.0 in
    let r : suc (rank y) ≤ m = span-end (suc (rank y)) m ys h.1 in
    subst (Between n m) e (record { low = l; high = omega (arith, r) })
span-between n m (y ∷ ys) h z (inr k) =
    let l : n ≤ rank y = h.0 in
    let r = span-between (suc (rank y)) m ys h.1 z k in
    let low : suc (rank y) ≤ rank z = r.low in
    record { low = omega (arith, l, low); high = r.high }

pub span-distinct : (n m : ℕ) (ys : Names) → Span n ys m → Distinct ys
span-distinct n m [] h = tt
span-distinct n m (y ∷ ys) h = (
  λ z k.
      let low : suc (rank y) ≤ rank z = (span-between (suc (rank y)) m ys h.1 z k).low in
      ranks-differ y z (λ e. omega (arith, low, e)),
  span-distinct (suc (rank y)) m ys h.1,
)

-- ---- C locals and parameters whose names differ

parameters-fresh : (ps : List CParameter) (earlier : Names) → Fresh (parameter_names ps) earlier → checked_parameters ps earlier ≡ fine
parameters-fresh [] earlier h = refl
parameters-fresh (p ∷ ps) earlier h =
    ap (λ b. holds (not b) 2 (type_marks p.ty) before moved (type_marks p.ty + 1) (checked_parameters ps (p.name ∷ earlier))) h.0
    ∙ ap (moved (type_marks p.ty + 1)) (parameters-fresh ps (p.name ∷ earlier) h.1)

pub parameters-fine : (ps : List CParameter) → Distinct (parameter_names ps) → checked_parameters ps [] ≡ fine
parameters-fine ps d = parameters-fresh ps [] (fresh (parameter_names ps) [] d (λ y k. refl))

abbrev pub Sized : CLocal → Type 0
Sized x = has_size (local_type x.ty) ≡ true

locals-fresh : (xs : List CLocal) (earlier : Names) → Fresh (local_names xs) earlier → Every Sized xs → checked_locals xs earlier ≡ fine
locals-fresh [] earlier h s = refl
locals-fresh (x ∷ xs) earlier h s =
    let t = local_type x.ty in
    let rest = moved (local_marks x) (checked_locals xs (x.name ∷ earlier)) in
    ap (λ b. holds (not b) 2 (marks_before t) before holds (has_size t) 11 (marks_before t + 1) before rest) h.0
    ∙ ap (λ b. holds b 11 (marks_before t + 1) before rest) (s x (inl refl))
    ∙ ap (moved (local_marks x)) (locals-fresh xs (x.name ∷ earlier) h.1 (λ y k. s y (inr k)))

pub locals-fine : (xs : List CLocal) → Distinct (local_names xs) → Every Sized xs → checked_locals xs [] ≡ fine
locals-fine xs d s = locals-fresh xs [] (fresh (local_names xs) [] d (λ y k. refl)) s
