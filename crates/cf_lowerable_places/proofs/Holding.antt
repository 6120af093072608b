-- What registers hold with the kinds of integers, where it is known without.
use Rattle.std.proofs.Common.{◌≡◌, ℕ, zero, suc, ◌+◌, ◌<◌, ◌≤◌, ◌==◌, nat_lt, Bool, true, false, if◌then◌else◌, List, [], ◌∷◌, ◌++◌, length, slice_get, None, refl, sym, ap, ◌∙◌, arith}
use Rattle.std.specs.Prelude.{slice_set}
use Rattle.std.proofs.lemmas.Bool.Decides.{nat_tests}
use Rattle.std.proofs.lemmas.List.{length-set}
use Rattle.cf_base.specs.declared.kind.Kind.{Kind}
use Rattle.cf_core.specs.FromTypes.{Tables}
use Rattle.cf_plain.specs.Plain.{Plains}
use Rattle.cf_lower.specs.Kept.{Kept, unknown, integer_of, holds, argument, Keeping, Locals, keep, common, both_kept, same_kept, nothing_kept, untouched, all_set}
use Rattle.cf_lower_layout.specs.Sorts.{number, address, code}
use Rattle.cf_lower_held.specs.declared.held.Held.{Held}
use Rattle.cf_lower_held.specs.declared.scene.Scene.{Scene}
use Rattle.cf_lower_held.specs.Holds.{erased, erasing, kept_in, keeping, held_at}
use Rattle.cf_lower_held.proofs.Erased.{erased_kept}
use Rattle.cf_lowerable_types.specs.declared.kinds.Kinds.{Kinds}
use Rattle.cf_lowerable_places.specs.declared.contents.Contents.{Contents}
use Rattle.cf_lowerable_types.specs.Kinds.{has_kind, both_kinds, no_kind}
use Rattle.cf_lowerable_places.specs.Contents.{restored, kinds_of, kinds_at, contents_in, knowing}

-- ---- the kinds at an index

pub none_at : (xs : List Kinds) (i : ℕ) (f : Kind → Bool) → slice_get xs i ≡ None → f ≡ no_kind → f ≡ kinds_at xs i
none_at xs i f none e = e ∙ sym (ap kinds_of none)

abbrev Longer : List Kinds → Kinds → ℕ → Type 0
Longer xs ks q = kinds_at (xs ++ ks ∷ []) q ≡ kinds_at xs q

-- no more kinds stand there where none are put at the end
pub at_longer : (xs : List Kinds) (ks : Kinds) (q : ℕ) → has_kind ks ≡ no_kind → Longer xs ks q
at_longer [] ks zero e = e
at_longer [] ks (suc q) e = refl
at_longer (x ∷ xs) ks zero e = refl
at_longer (x ∷ xs) ks (suc q) e = at_longer xs ks q e

pub at_set : (xs : List Kinds) (i : ℕ) (x : Kinds) (q : ℕ) → i < length xs → kinds_at (slice_set xs i x) q ≡ (if q == i then has_kind x else kinds_at xs q)
at_set [] i x q lt = absurd (omega arith)
at_set (y ∷ ys) zero x zero lt = refl
at_set (y ∷ ys) zero x (suc q) lt = by (suc q == 0) refl
  where
    by : (b : Bool) → (suc q == 0) ≡ b → kinds_at ys q ≡ (if b then has_kind x else kinds_at ys q)
    by true e = absurd (grind (arith, nat_tests))
    by false e = refl
at_set (y ∷ ys) (suc i) x zero lt = by (0 == suc i) refl
  where
    by : (b : Bool) → (0 == suc i) ≡ b → has_kind y ≡ (if b then has_kind x else has_kind y)
    by true e = absurd (grind (arith, nat_tests))
    by false e = refl
at_set (y ∷ ys) (suc i) x (suc q) lt = at_set ys i x q (omega arith) ∙ ap (λ b. if b then has_kind x else kinds_at ys q) (same_test q i)
  where
    same_test : (q i : ℕ) → (q == i) ≡ (suc q == suc i)
    same_test q i = grind (arith, nat_tests)

behind : (xs : List Kinds) (q : ℕ) → length xs ≤ q → kinds_at xs q ≡ no_kind
behind [] q le = refl
behind (x ∷ xs) zero le = absurd (omega arith)
behind (x ∷ xs) (suc q) le = behind xs q (omega arith)

-- ---- in two lists at once

module _ (first second : List Kinds) where
  abbrev pub Met : Bool → ℕ → Kind → Bool
  Met b q = if b then both_kinds (kinds_at first q) (kinds_at second q) else kinds_at first q

  -- below a number the kinds of both stand
  abbrev pub AreMet : ℕ → List Kinds → Type 0
  AreMet i xs = (q : ℕ) → kinds_at xs q ≡ Met (nat_lt q i) q

  pub met_more : (i : ℕ) (xs zs : List Kinds) (x y z : Kinds) → AreMet i xs → i < length xs → has_kind y ≡ kinds_at xs i → has_kind z ≡ kinds_at second i
      → has_kind x ≡ both_kinds (has_kind y) (has_kind z) → zs ≡ slice_set xs i x → AreMet (i + 1) zs
  met_more i xs zs x y z met lt at there both set q = ap (λ l. kinds_at l q) set ∙ at_set xs i x q lt ∙ by (q == i) refl
    where
      here : has_kind y ≡ kinds_at first i
      here = at ∙ met i ∙ ap (λ b. Met b i) (let f : nat_lt i i ≡ false = grind (arith, nat_tests) in f)

      by : (b : Bool) → (q == i) ≡ b → (if b then has_kind x else kinds_at xs q) ≡ Met (nat_lt q (i + 1)) q
      by true e =
          let p : q ≡ i = grind (arith, nat_tests) in
          let below : nat_lt i (i + 1) ≡ true = grind (arith, nat_tests) in
          both ∙ ap (λ f. both_kinds f (has_kind z)) here ∙ ap (λ f. both_kinds (kinds_at first i) f) there
          ∙ sym (ap (λ b. Met b i) below) ∙ ap (λ n. Met (nat_lt n (i + 1)) n) (sym p)
      by false e =
          let same : nat_lt q i ≡ nat_lt q (i + 1) = grind (arith, nat_tests) in
          met q ∙ ap (λ b. Met b q) same

  pub met_all : (n : ℕ) (xs : List Kinds) → n ≡ length first → AreMet n xs → (q : ℕ) → kinds_at xs q ≡ both_kinds (kinds_at first q) (kinds_at second q)
  met_all n xs len met q = met q ∙ by (nat_lt q n) refl
    where
      by : (b : Bool) → nat_lt q n ≡ b → Met b q ≡ both_kinds (kinds_at first q) (kinds_at second q)
      by true e = refl
      by false e =
          let past : n ≤ q = grind (arith, nat_tests) in
          let none = behind first q (omega (arith, past, len)) in
          none ∙ sym (ap (λ f. both_kinds f (kinds_at second q)) none)

pub met_long : (n i : ℕ) (xs zs : List Kinds) (x : Kinds) → length xs ≡ n → zs ≡ slice_set xs i x → length zs ≡ n
met_long n i xs zs x long set = ap length set ∙ length-set xs i x ∙ long

-- ---- one register

restored_erased : (k : Kept) (f : Kind → Bool) → restored (erased k) f ≡ restored k f
restored_erased unknown f = refl
restored_erased (integer_of g) f = refl
restored_erased (holds s) f = refl
restored_erased (argument i t) f = refl

erased_restored : (k : Kept) (f : Kind → Bool) → erased (restored k f) ≡ erased k
erased_restored unknown f = refl
erased_restored (integer_of g) f = refl
erased_restored (holds s) f = refl
erased_restored (argument i t) f = refl

-- what is held without kinds is what is held, if the kinds fit
pub restored_is : (h k : Kept) (f : Kind → Bool) → h ≡ erased k → restored k f ≡ k → restored h f ≡ k
restored_is h k f held fit = ap (λ y. restored y f) held ∙ restored_erased k f ∙ fit

-- ---- all registers

pub without_kinds : (tables : Tables) (cs : Contents) → erasing (contents_in tables cs) ≡ keeping tables cs.registers
without_kinds tables cs = λ j r. (erased_restored (keeping tables cs.registers r) (kinds_at cs.kinds.items r) ∙ erased_kept tables (held_at cs.registers.held.items r)) j

pub nothing_known : (tables : Tables) (cs : Contents) → cs.registers.held.items ≡ [] → contents_in tables cs ≡ nothing_kept
nothing_known tables cs e = λ j r. ap (λ l. restored (kept_in tables (held_at l r)) (kinds_at cs.kinds.items r)) e j

module _ (tables : Tables) (old new : Contents) where
  pub same_contents : keeping tables new.registers ≡ keeping tables old.registers → new.kinds.items ≡ old.kinds.items → contents_in tables new ≡ contents_in tables old
  same_contents e p = λ j r. restored (e j r) (kinds_at (p j) r)

  -- one register holds something else
  pub kept_one : (ys : List Kinds) (i r : ℕ) (h : Kept) (ks : Kinds) → ((q : ℕ) → kinds_at ys q ≡ kinds_at old.kinds.items q) → i < length ys → i ≡ r
      → new.kinds.items ≡ slice_set ys i ks → keeping tables new.registers ≡ keep (keeping tables old.registers) r h
      → contents_in tables new ≡ keep (contents_in tables old) r (restored h (has_kind ks))
  kept_one ys i r h ks same lt at set kept = λ j q. point q j
    where
      by : (q : ℕ) (b : Bool) → restored (if b then h else keeping tables old.registers q) (if b then has_kind ks else kinds_at ys q)
          ≡ (if b then restored h (has_kind ks) else restored (keeping tables old.registers q) (kinds_at ys q))
      by q true = refl
      by q false = refl

      point : (q : ℕ) → contents_in tables new q ≡ keep (contents_in tables old) r (restored h (has_kind ks)) q
      point q =
          ap (λ (g : Keeping). restored (g q) (kinds_at new.kinds.items q)) kept
          ∙ ap (λ f. restored (if q == r then h else keeping tables old.registers q) f)
          (ap (λ l. kinds_at l q) set ∙ at_set ys i ks q lt ∙ ap (λ n. if q == n then has_kind ks else kinds_at ys q) at)
          ∙ by q (q == r) ∙ ap (λ f. if q == r then restored h (has_kind ks) else restored (keeping tables old.registers q) f) (same q)

  -- where two ways meet
  pub met : (other : Contents) → keeping tables new.registers ≡ common (keeping tables old.registers) (keeping tables other.registers)
      → ((q : ℕ) → kinds_at new.kinds.items q ≡ both_kinds (kinds_at old.kinds.items q) (kinds_at other.kinds.items q))
      → contents_in tables new ≡ common (contents_in tables old) (contents_in tables other)
  met other kept kinds = λ j q. point q j
    where
      choice : (b : Bool) (x : Kept) (f h : Kind → Bool) → restored (if b then x else unknown) (both_kinds f h) ≡ (if b then restored x (both_kinds f h) else unknown)
      choice true x f h = refl
      choice false x f h = refl

      both : (x y : Kept) (f h : Kind → Bool) → restored (both_kept x y) (both_kinds f h) ≡ both_kept (restored x f) (restored y h)
      both (integer_of a) (integer_of b) f h = refl
      both (integer_of a) unknown f h = refl
      both (integer_of a) (holds s) f h = refl
      both (integer_of a) (argument i t) f h = refl
      both unknown unknown f h = refl
      both unknown (integer_of b) f h = refl
      both unknown (holds s) f h = refl
      both unknown (argument i t) f h = refl
      both (holds s) unknown f h = choice (same_kept (holds s) unknown) (holds s) f h
      both (holds (number k)) (integer_of b) f h = refl
      both (holds (address t)) (integer_of b) f h = refl
      both (holds (code t)) (integer_of b) f h = refl
      both (holds s) (holds r) f h = choice (same_kept (holds s) (holds r)) (holds s) f h
      both (holds s) (argument i t) f h = choice (same_kept (holds s) (argument i t)) (holds s) f h
      both (argument i t) unknown f h = refl
      both (argument i t) (integer_of b) f h = refl
      both (argument i t) (holds s) f h = refl
      both (argument i t) (argument n u) f h = choice (same_kept (argument i t) (argument n u)) (argument i t) f h

      point : (q : ℕ) → contents_in tables new q ≡ common (contents_in tables old) (contents_in tables other) q
      point q =
          ap (λ (g : Keeping). restored (g q) (kinds_at new.kinds.items q)) kept
          ∙ ap (restored (both_kept (keeping tables old.registers q) (keeping tables other.registers q))) (kinds q)
          ∙ both (keeping tables old.registers q) (keeping tables other.registers q) (kinds_at old.kinds.items q) (kinds_at other.kinds.items q)

-- where statements set registers
pub forgotten : (x : Scene) (locals : Locals) (ss : Plains) (old new : Contents) → keeping x.tables.now new.registers ≡ untouched locals (keeping x.tables.now old.registers) ss
    → new.kinds.items ≡ old.kinds.items → knowing x new ≡ untouched locals (knowing x old) ss
forgotten x locals ss old new kept kinds = λ j q. point q j
  where
    by : (q : ℕ) (b : Bool) (f : Kind → Bool) → restored (if b then unknown else keeping x.tables.now old.registers q) f ≡ (if b then unknown else restored (keeping x.tables.now old.registers q) f)
    by q true f = refl
    by q false f = refl

    point : (q : ℕ) → knowing x new q ≡ untouched locals (knowing x old) ss q
    point q =
        ap (λ (g : Keeping). restored (g q) (kinds_at new.kinds.items q)) kept
        ∙ by q (all_set locals q ss) (kinds_at new.kinds.items q)
        ∙ ap (λ l. if all_set locals q ss then unknown else restored (keeping x.tables.now old.registers q) (kinds_at l q)) kinds

-- what one register holds
pub got : (tables : Tables) (cs : Contents) (r : ℕ) (h : Held) (ks : Kinds) (xs : List Kinds) → h ≡ held_at cs.registers.held.items r → has_kind ks ≡ kinds_at xs r → xs ≡ cs.kinds.items
    → restored (kept_in tables h) (has_kind ks) ≡ contents_in tables cs r
got tables cs r h ks xs held kinds same =
    ap (λ k. restored (kept_in tables k) (has_kind ks)) held ∙ ap (restored (kept_in tables (held_at cs.registers.held.items r))) (kinds ∙ ap (λ l. kinds_at l r) same)
