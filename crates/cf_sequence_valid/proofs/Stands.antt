-- Where locals stand among those of a function.
use Rattle.std.proofs.Common.{◌≡◌, ℕ, suc, zero, ◌+◌, Bool, true, List, [], ◌∷◌, ◌++◌, length, length-append, append-nil, append_assoc, refl, ap, ◌∙◌, subst, arith}
use Rattle.std.specs.Prelude.{Some, slice_get}
use Rattle.std.specs.List.{list_all}
use Rattle.std.proofs.lemmas.List.Concat.{flat_map-append}
use Rattle.cf_base.proofs.Tests.{all_of, both}
use Rattle.cf_core.specs.Types.{SourceType, without_const}
use Rattle.cf_core.specs.Core.{Core}
use Rattle.cf_plain.specs.Valid.{is_of, are_arguments}
use Rattle.cf_sequence.specs.Made.{Local, Temporary, added, makes, numbered, numbers}
use Rattle.cf_sequence.proofs.SameTypes.{type-same}

module _ (locals : List SourceType) where
  -- the locals from a number on have these types
  abbrev pub Stand : ℕ → List SourceType → Type 0
  Stand k [] = Unit {0}
  Stand k (t ∷ ts) = (slice_get locals k ≡ Some t) × Stand (suc k) ts

  pub stand-first : (k : ℕ) (xs ys : List SourceType) → Stand k (xs ++ ys) → Stand k xs
  stand-first k [] ys st = tt
  stand-first k (x ∷ xs) ys st = (st.0, stand-first (suc k) xs ys st.1)

  pub stand-second : (k : ℕ) (xs ys : List SourceType) → Stand k (xs ++ ys) → Stand (k + length xs) ys
  stand-second k [] ys st = let e : k ≡ k + 0 = omega arith in subst (λ n. Stand n ys) e st
  stand-second k (x ∷ xs) ys st =
      let e : suc k + length xs ≡ k + suc (length xs) = omega arith in subst (λ n. Stand n ys) e (stand-second (suc k) xs ys st.1)

  -- of two rows of nodes
  pub stand-left : (k : ℕ) (xs ys : List Core) → Stand k (added (xs ++ ys)) → Stand k (added xs)
  stand-left k xs ys st = stand-first k (added xs) (added ys) (subst (Stand k) (flat_map-append makes xs ys) st)

  pub stand-right : (k : ℕ) (xs ys : List Core) → Stand k (added (xs ++ ys)) → Stand (k + length (added xs)) (added ys)
  stand-right k xs ys st = stand-second k (added xs) (added ys) (subst (Stand k) (flat_map-append makes xs ys) st)

  -- of three rows
  pub stand-third : (k : ℕ) (xs ys zs : List Core) → Stand k (added (xs ++ ys ++ zs)) → Stand (k + length (added xs) + length (added ys)) (added zs)
  stand-third k xs ys zs st =
      let two : length (added (xs ++ ys)) ≡ length (added xs) + length (added ys) = ap length (flat_map-append makes xs ys) ∙ length-append (added xs) (added ys) in
      let e : k + length (added (xs ++ ys)) ≡ k + length (added xs) + length (added ys) = omega (arith, two) in
      subst (λ n. Stand n (added zs)) e (stand-right k (xs ++ ys) zs st)

  -- behind the objects of parameters
  pub stand-parameters : (k : ℕ) (ps ts : List SourceType) → Stand k (ps ++ ts) → Stand (k + length ps + 0) ts
  stand-parameters k ps ts st =
      let e : k + length ps ≡ k + length ps + 0 = omega arith in subst (λ i. Stand i ts) e (stand-second k ps ts st)

  pub of-itself : (k : ℕ) (t : SourceType) → slice_get locals k ≡ Some t → is_of (slice_get locals k) t ≡ true
  of-itself k t e = ap (λ o. is_of o t) e ∙ type-same (without_const t)

  -- a local that is there, with its type
  abbrev pub is_there : Local → Bool
  is_there x = is_of (slice_get locals x.number) x.type

  abbrev pub are_there : List Local → Bool
  are_there xs = list_all is_there xs

  -- temporaries that are
  abbrev pub all_there : List Temporary → Bool
  all_there ts = list_all (λ (t : Temporary). is_there t.local) ts

  pub numbered-there : (k : ℕ) (ts : List SourceType) → Stand k ts → are_there (numbered k ts) ≡ true
  numbered-there k [] st = refl
  numbered-there k (t ∷ ts) st = all_of (is_of (slice_get locals k) t) (are_there (numbered (suc k) ts)) (of-itself k t st.0) (numbered-there (suc k) ts st.1)

  pub numbers-fit : (k : ℕ) (ts : List SourceType) → Stand k ts → are_arguments locals ts (numbers k ts) ≡ true
  numbers-fit k [] st = refl
  numbers-fit k (t ∷ ts) st = all_of (is_of (slice_get locals k) t) (are_arguments locals ts (numbers (suc k) ts)) (of-itself k t st.0) (numbers-fit (suc k) ts st.1)

  pub there-two : (xs ys : List Local) → are_there xs ≡ true → are_there ys ≡ true → are_there (xs ++ ys) ≡ true
  there-two [] ys p q = q
  there-two (x ∷ xs) ys p q = let parts = both (is_there x) (are_there xs) p in all_of (is_there x) (are_there (xs ++ ys)) parts.0 (there-two xs ys parts.1 q)

-- what stands behind other locals
pub stand-behind : (before ts after : List SourceType) → Stand (before ++ (ts ++ after)) (length before) ts
stand-behind before [] after = tt
stand-behind before (t ∷ ts) after = (at before (ts ++ after), moved (stand-behind (before ++ t ∷ []) ts after))
  where
    at : (xs ys : List SourceType) → slice_get (xs ++ t ∷ ys) (length xs) ≡ Some t
    at [] ys = refl
    at (x ∷ xs) ys = at xs ys

    together : (xs ys : List SourceType) → (xs ++ t ∷ []) ++ ys ≡ xs ++ t ∷ ys
    together [] ys = refl
    together (x ∷ xs) ys = ap (λ l. x ∷ l) (together xs ys)

    longer : (xs : List SourceType) → length (xs ++ t ∷ []) ≡ suc (length xs)
    longer [] = refl
    longer (x ∷ xs) = ap suc (longer xs)

    moved : Stand ((before ++ t ∷ []) ++ (ts ++ after)) (length (before ++ t ∷ [])) ts → Stand (before ++ t ∷ (ts ++ after)) (suc (length before)) ts
    moved st = subst (λ n. Stand (before ++ t ∷ (ts ++ after)) n ts) (longer before) (subst (λ l. Stand l (length (before ++ t ∷ [])) ts) (together before (ts ++ after)) st)

-- the added locals of a function stand behind its parameters and its own
pub stand-added : (ps ls more : List SourceType) → Stand (ps ++ (ls ++ more)) (length ps + length ls) more
stand-added ps ls more =
    subst (λ n. Stand (ps ++ (ls ++ more)) n more) (length-append ps ls)
    (subst (λ l. Stand l (length (ps ++ ls)) more) (ap (λ l. (ps ++ ls) ++ l) (append-nil more) ∙ append_assoc ps ls more) (stand-behind (ps ++ ls) more []))

-- a local is still there where more come behind
pub still-there : (xs ys : List SourceType) (i : ℕ) (t : SourceType) → slice_get xs i ≡ Some t → slice_get (xs ++ ys) i ≡ Some t
still-there [] ys i t e = absurd (cc)
still-there (x ∷ xs) ys zero t e = e
still-there (x ∷ xs) ys (suc i) t e = still-there xs ys i t e
