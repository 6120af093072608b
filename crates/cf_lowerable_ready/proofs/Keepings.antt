-- What all registers hold, register by register.
use Rattle.std.proofs.Common.{◌≡◌, ℕ, zero, suc, ◌+◌, ◌<◌, ◌≤◌, ◌==◌, ◌||◌, nat_lt, Bool, true, false, if◌then◌else◌, List, [], ◌∷◌, length, Option, Some, None, refl, sym, ap, ◌∙◌, arith}
use Rattle.std.specs.Prelude.{slice_set}
use Rattle.std.proofs.lemmas.Bool.Decides.{nat_tests}
use Rattle.std.proofs.lemmas.List.{length-set}
use Rattle.cf_core.specs.FromTypes.{Tables}
use Rattle.cf_plain.specs.Plain.{Register}
use Rattle.cf_plain_kept.specs.Kept.{Kept, Keeping, nothing_set, common}
use Rattle.cf_lowerable_ready.specs.declared.content.Content.{Content}
use Rattle.cf_lowerable_ready.specs.declared.content.Content.TheVariants as content
use Rattle.cf_lowerable_ready.specs.declared.contents.Contents.{Contents}
use Rattle.cf_lowerable_ready.specs.Contents.{content_at, keeping, known, in_both, put, without}
use Rattle.cf_lowerable_ready.proofs.Lists.{at_set}

module _ (tables : Tables) where
  abbrev pub of_list : List Content → Keeping
  of_list xs r = known tables (content_at xs r)

  -- one register holds something else
  chosen : (b : Bool) (x y : Content) → known tables (if b then x else y) ≡ (if b then known tables x else known tables y)
  chosen true x y = refl
  chosen false x y = refl

  pub kept_one : (xs ys zs : List Content) (i r : ℕ) (x : Content) → ((q : ℕ) → content_at ys q ≡ content_at xs q) → i < length ys → i ≡ r → zs ≡ slice_set ys i x
      → of_list zs ≡ put (of_list xs) r (known tables x)
  kept_one xs ys zs i r x same lt at set = λ j q. point q j
    where
      point : (q : ℕ) → of_list zs q ≡ put (of_list xs) r (known tables x) q
      point q =
          ap (λ l. known tables (content_at l q)) set ∙ ap (known tables) (at_set ys i x q lt) ∙ chosen (q == i) x (content_at ys q)
          ∙ ap (λ h. if q == i then known tables x else known tables h) (same q)
          ∙ ap (λ k. if q == k then known tables x else known tables (content_at xs q)) at

  -- and nothing
  pub cleared : (xs ys : List Content) (i r : ℕ) → i < length xs → i ≡ r → ys ≡ slice_set xs i content.Unset → of_list ys ≡ without (λ q. r == q) (of_list xs)
  cleared xs ys i r lt at set = λ j q. point q j
    where
      turned : (a b : ℕ) → (a == b) ≡ (b == a)
      turned a b = grind (arith, nat_tests)

      point : (q : ℕ) → of_list ys q ≡ without (λ q. r == q) (of_list xs) q
      point q =
          ap (λ l. known tables (content_at l q)) set ∙ ap (known tables) (at_set xs i content.Unset q lt) ∙ chosen (q == i) content.Unset (content_at xs q)
          ∙ ap (λ b. if b then None else known tables (content_at xs q)) (turned q i ∙ ap (λ k. k == q) at)

  -- a register behind the last holds nothing
  pub behind : (xs : List Content) (q : ℕ) → length xs ≤ q → content_at xs q ≡ content.Unset
  behind [] q le = refl
  behind (x ∷ xs) zero le = absurd (omega arith)
  behind (x ∷ xs) (suc q) le = behind xs q (omega arith)

  pub cleared_behind : (xs : List Content) (r : ℕ) → length xs ≤ r → of_list xs ≡ without (λ q. r == q) (of_list xs)
  cleared_behind xs r le = λ j q. by q (r == q) refl j
    where
      by : (q : ℕ) (b : Bool) → (r == q) ≡ b → of_list xs q ≡ (if b then None else of_list xs q)
      by q true e = let same : r ≡ q = grind (arith, nat_tests) in ap (known tables) (behind xs q (omega (arith, same)))
      by q false e = refl

-- ---- one set of registers after another

pub without_both : (f h : Register → Bool) (g : Keeping) → without f (without h g) ≡ without (λ r. h r || f r) g
without_both f h g = λ j r. by (h r) (f r) (g r) j
  where
    by : (a b : Bool) (x : Option Kept) → (if b then None else (if a then None else x)) ≡ (if a || b then None else x)
    by true true x = refl
    by true false x = refl
    by false true x = refl
    by false false x = refl

-- ---- registers that hold what they hold here and there

module _ (tables : Tables) (first second : List Content) where
  abbrev pub Met : Bool → ℕ → Option Kept
  Met b p = if b then in_both (known tables (content_at first p)) (known tables (content_at second p)) else known tables (content_at first p)

  -- those below a number do, the others hold what they held
  abbrev pub IsMet : ℕ → List Content → Type 0
  IsMet i xs = (q : ℕ) → known tables (content_at xs q) ≡ Met (nat_lt q i) q

  pub met_more : (i : ℕ) (xs zs : List Content) (x y z : Content) → IsMet i xs → i < length xs → y ≡ content_at xs i → z ≡ content_at second i
      → known tables x ≡ in_both (known tables y) (known tables z) → zs ≡ slice_set xs i x → IsMet (i + 1) zs
  met_more i xs zs x y z met lt at there both set q =
      ap (λ l. known tables (content_at l q)) set ∙ ap (known tables) (at_set xs i x q lt) ∙ by (q == i) refl
    where
      here : known tables y ≡ known tables (content_at first i)
      here = ap (known tables) at ∙ met i ∙ ap (λ b. Met b i) (let f : nat_lt i i ≡ false = grind (arith, nat_tests) in f)

      by : (b : Bool) → (q == i) ≡ b → known tables (if b then x else content_at xs q) ≡ Met (nat_lt q (i + 1)) q
      by true e =
          let p : q ≡ i = grind (arith, nat_tests) in
          let below : nat_lt i (i + 1) ≡ true = grind (arith, nat_tests) in
          both ∙ ap (λ k. in_both k (known tables z)) here ∙ ap (λ h. in_both (known tables (content_at first i)) (known tables h)) there
          ∙ sym (ap (λ b. Met b i) below) ∙ ap (λ n. Met (nat_lt n (i + 1)) n) (sym p)
      by false e =
          let same : nat_lt q i ≡ nat_lt q (i + 1) = grind (arith, nat_tests) in
          met q ∙ ap (λ b. Met b q) same

  nothing_met : (k : Option Kept) → in_both None k ≡ None
  nothing_met None = refl
  nothing_met (Some x) = refl

  pub met_all : (n : ℕ) (xs : List Content) → n ≡ length first → IsMet n xs → of_list tables xs ≡ common (of_list tables first) (of_list tables second)
  met_all n xs len met = λ j q. (met q ∙ by q (nat_lt q n) refl) j
    where
      by : (q : ℕ) (b : Bool) → nat_lt q n ≡ b
          → (if b then in_both (known tables (content_at first q)) (known tables (content_at second q)) else known tables (content_at first q))
          ≡ in_both (known tables (content_at first q)) (known tables (content_at second q))
      by q true e = refl
      by q false e =
          let past : n ≤ q = grind (arith, nat_tests) in
          let none = ap (known tables) (behind tables first q (omega (arith, past, len))) in
          none ∙ sym (ap (λ k. in_both k (known tables (content_at second q))) none ∙ nothing_met (known tables (content_at second q)))

pub met_long : (n i : ℕ) (xs zs : List Content) (x : Content) → length xs ≡ n → zs ≡ slice_set xs i x → length zs ≡ n
met_long n i xs zs x long set = ap length set ∙ length-set xs i x ∙ long

-- ---- of the registers themselves

module _ (tables : Tables) (old new : Contents) where
  pub clear_one : (i r : ℕ) → i < length old.held.items → i ≡ r → new.held.items ≡ slice_set old.held.items i content.Unset
      → keeping tables new ≡ without (λ q. r == q) (keeping tables old)
  clear_one i r lt at set = cleared tables old.held.items new.held.items i r lt at set

pub clear_none : (tables : Tables) (old : Contents) (i n r : ℕ) → n ≡ length old.held.items → n ≤ i → i ≡ r → keeping tables old ≡ without (λ q. r == q) (keeping tables old)
clear_none tables old i n r len le at = cleared_behind tables old.held.items r (omega (arith, len, le, at))

pub same_items : (tables : Tables) (old new : Contents) → new.held.items ≡ old.held.items → keeping tables new ≡ keeping tables old
same_items tables old new e = ap (of_list tables) e

pub none_set : (tables : Tables) (cs : Contents) → cs.held.items ≡ [] → keeping tables cs ≡ nothing_set
none_set tables cs e = λ j r. ap (λ l. known tables (content_at l r)) e j
