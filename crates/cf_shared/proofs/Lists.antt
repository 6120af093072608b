-- The list of the values in a tree.
use Rattle.std.proofs.Common.{◌≡◌, ℕ, zero, suc, ◌<◌, ◌≤◌, ◌⊎◌, inl, inr, true, false, cond, List, [], ◌∷◌, ◌++◌, length, Option, Some, None, refl, sym, ◌∙◌, ap, subst, arith}
use Rattle.std.specs.Prelude.{◌≢◌, slice_get, slice_set, is_some, option_to_list}
use Rattle.std.proofs.lemmas.List.{set_at, set_past, length-append}
use Rattle.std.proofs.lemmas.Bool.{cases_eq}
use Rattle.std.proofs.lemmas.Option.{slice_get_past}
use Rattle.cf_shared.specs.declared.tree.Tree.{Tree}
use Rattle.cf_shared.specs.At.{at, Puts, listed, IsFull}

false-not-true : false ≡ true → ⊥
false-not-true e = subst (λ b. cond b ⊥ (Unit {0})) e tt

one_listed : {A : Type 0} (o : Option A) → is_some o ≡ true → length (option_to_list o) ≡ 1
one_listed (Some x) some = refl
one_listed None some = absurd (false-not-true some)

below : {T : Type 0} (n : ℕ) (t : Tree T) → IsFull (suc n) t → IsFull n t
below n t full i less = full i (omega (arith, less))

pub length_listed : {T : Type 0} (n : ℕ) (t : Tree T) → IsFull n t → length (listed n t) ≡ n
length_listed zero t full = refl
length_listed (suc n) t full =
    let rest = length_listed n t (below n t full) in
    let one = one_listed (at t n) (full n (omega arith)) in
    let both = length-append (listed n t) (option_to_list (at t n)) in
    omega (arith, rest, one, both)

get_left : {A : Type 0} (xs ys : List A) (i : ℕ) → i < length xs → slice_get (xs ++ ys) i ≡ slice_get xs i
get_left [] ys i less = absurd (omega (arith, less))
get_left (x ∷ xs) ys zero less = refl
get_left (x ∷ xs) ys (suc i) less = get_left xs ys i (omega (arith, less))

get_last : {A : Type 0} (xs : List A) (o : Option A) (i : ℕ) → length xs ≡ i → slice_get (xs ++ option_to_list o) i ≡ o
get_last [] (Some x) zero e = refl
get_last [] None zero e = refl
get_last [] o (suc i) e = absurd (omega (arith, e))
get_last (x ∷ xs) o zero e = absurd (omega (arith, e))
get_last (x ∷ xs) o (suc i) e = get_last xs o i (omega (arith, e))

pub get_listed : {T : Type 0} (n : ℕ) (t : Tree T) (i : ℕ) → IsFull n t → i < n → slice_get (listed n t) i ≡ at t i
get_listed zero t i full less = absurd (omega (arith, less))
get_listed (suc n) t i full less = go (cases_eq i n) (get_listed n t i (below n t full))
  where
    long : length (listed n t) ≡ n
    long = length_listed n t (below n t full)

    go : (i ≡ n) ⊎ (i ≡ n → ⊥) → (i < n → slice_get (listed n t) i ≡ at t i) → slice_get (listed n t ++ option_to_list (at t n)) i ≡ at t i
    go (inl last) lower = get_last (listed n t) (at t n) i (long ∙ sym last) ∙ ap (at t) (sym last)
    go (inr apart) lower =
        get_left (listed n t) (option_to_list (at t n)) i (omega (arith, less, apart, long)) ∙ lower (omega (arith, less, apart))

pub get_none : {T : Type 0} (n : ℕ) (t : Tree T) (i : ℕ) → IsFull n t → (i < n → ⊥) → slice_get (listed n t) i ≡ None
get_none n t i full past = let long = length_listed n t full in slice_get_past (listed n t) i (omega (arith, long, past))

-- trees that have the same below n
same_listed : {T : Type 0} (n : ℕ) (s t : Tree T) → ((i : ℕ) → i < n → at s i ≡ at t i) → listed n s ≡ listed n t
same_listed zero s t same = refl
same_listed (suc n) s t same =
    ap (λ l. l ++ option_to_list (at s n)) (same_listed n s t (λ i less. same i (omega (arith, less)))) ∙ ap (λ o. listed n t ++ option_to_list o) (same n (omega arith))

full_after : {T : Type 0} (n m : ℕ) (s t : Tree T) (x : T) (i : ℕ) → IsFull n s → Puts s i x t → ((j : ℕ) → j < m → (j ≡ i) ⊎ (j < n)) → IsFull m t
full_after n m s t x i full puts cover j less = go (cover j less) (cases_eq j i)
  where
    go : (j ≡ i) ⊎ (j < n) → (j ≡ i) ⊎ (j ≡ i → ⊥) → is_some (at t j) ≡ true
    go c (inl e) = ap (λ k. is_some (at t k)) e ∙ ap is_some puts.here
    go (inl e) (inr apart) = absurd (apart e)
    go (inr lower) (inr apart) = ap is_some (puts.elsewhere j apart) ∙ full j lower

pub push_listed : {T : Type 0} (n : ℕ) (s t : Tree T) (x : T) → Puts s n x t → listed (suc n) t ≡ listed n s ++ x ∷ []
push_listed n s t x puts =
    ap (λ l. l ++ option_to_list (at t n)) (same_listed n t s (λ i less. puts.elsewhere i (λ e. omega (arith, less, e)))) ∙ ap (λ o. listed n s ++ option_to_list o) puts.here

pub push_full : {T : Type 0} (n m : ℕ) (s t : Tree T) (x : T) → m ≡ suc n → IsFull n s → Puts s n x t → IsFull m t
push_full n m s t x next full puts = full_after n m s t x n full puts (λ j less. cover j (cases_eq j n) less)
  where
    cover : (j : ℕ) → (j ≡ n) ⊎ (j ≡ n → ⊥) → j < m → (j ≡ n) ⊎ (j < n)
    cover j (inl e) less = inl e
    cover j (inr apart) less = inr (omega (arith, less, next, apart))

pub set_full : {T : Type 0} (n i : ℕ) (s t : Tree T) (x : T) → IsFull n s → Puts s i x t → IsFull n t
set_full n i s t x full puts = full_after n n s t x i full puts (λ j less. inr less)

set_left : {A : Type 0} (xs ys : List A) (i : ℕ) (x : A) → i < length xs → slice_set (xs ++ ys) i x ≡ slice_set xs i x ++ ys
set_left [] ys i x less = absurd (omega (arith, less))
set_left (y ∷ xs) ys zero x less = refl
set_left (y ∷ xs) ys (suc i) x less = ap (λ l. y ∷ l) (set_left xs ys i x (omega (arith, less)))

set_last : {A : Type 0} (xs : List A) (o : Option A) (i : ℕ) (x : A) → is_some o ≡ true → length xs ≡ i → slice_set (xs ++ option_to_list o) i x ≡ xs ++ x ∷ []
set_last xs (Some y) i x some e = set_at xs y [] x i e
set_last xs None i x some e = absurd (false-not-true some)

pub set_listed : {T : Type 0} (n i : ℕ) (s t : Tree T) (x : T) → IsFull n s → i < n → Puts s i x t → listed n t ≡ slice_set (listed n s) i x
set_listed zero i s t x full less puts = absurd (omega (arith, less))
set_listed (suc n) i s t x full less puts = go (cases_eq n i) (λ lower. set_listed n i s t x (below n s full) lower puts)
  where
    long : length (listed n s) ≡ n
    long = length_listed n s (below n s full)

    go : (n ≡ i) ⊎ (n ≡ i → ⊥) → (i < n → listed n t ≡ slice_set (listed n s) i x) → listed n t ++ option_to_list (at t n) ≡ slice_set (listed n s ++ option_to_list (at s n)) i x
    go (inl last) lower =
        ap (λ l. l ++ option_to_list (at t n)) (same_listed n t s (λ j below. puts.elsewhere j (λ e. omega (arith, below, e, last))))
        ∙ ap (λ o. listed n s ++ option_to_list o) (ap (at t) last ∙ puts.here)
        ∙ sym (set_last (listed n s) (at s n) i x (full n (omega arith)) (long ∙ last))
    go (inr apart) lower =
        ap (λ l. l ++ option_to_list (at t n)) (lower (omega (arith, less, apart)))
        ∙ ap (λ o. slice_set (listed n s) i x ++ option_to_list o) (puts.elsewhere n apart)
        ∙ sym (set_left (listed n s) (option_to_list (at s n)) i x (omega (arith, less, apart, long)))

pub set_beyond : {T : Type 0} (n i : ℕ) (s : Tree T) (x : T) → IsFull n s → n ≤ i → slice_set (listed n s) i x ≡ listed n s
set_beyond n i s x full past = let long = length_listed n s full in set_past (listed n s) i x (omega (arith, long, past))
