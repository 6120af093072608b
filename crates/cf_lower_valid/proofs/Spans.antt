-- The names of a function's C locals and parameters differ: their ranks grow, but for results, each of which has a type of its own.
use Rattle.std.proofs.Common.{◌≡◌, ℕ, zero, suc, ◌+◌, ◌*◌, ◌^◌, ◌≤◌, ◌<◌, ◌==◌, Bool, true, false, if◌then◌else◌, List, [], ◌∷◌, ◌++◌, length, map, refl, ap, sym, subst, ◌∙◌, inl, inr, arith}
use Rattle.std.specs.Prelude.{Option, Some, None, bytes_eq}
use Rattle.std.specs.List.{list_any, flat_map}
use Rattle.std.proofs.lemmas.Bool.{or_parts, true≢false, eq-eqb}
use Rattle.cf_base.specs.declared.kind.Kind.TheVariants.{Int}
use Rattle.cf_core.specs.Types.{SourceType, void}
use Rattle.cf_lower_layout.specs.Sorts.{Sort, number, address, code, sort_of}
use Rattle.cf_plain.specs.Plain.{Action}
use Rattle.cc_whole.specs.declared.types.CType.{CType}
use Rattle.cc_whole.specs.declared.types.CType.TheVariants as ty
use Rattle.cc_whole.specs.declared.statement.CLocal.{CLocal}
use Rattle.cc_whole.specs.Uses.{local_names, parameter_names}
use Rattle.cf_lower.specs.Written.{if_scalar, c_type, local_name, register_name, flag_name, result_name, type_number}
use Rattle.cf_lower.specs.Functions.{scalar, own_locals, registers, flags, result_at, each_once, results, lowered_parameters}
use Rattle.cc_whole_sections.specs.Sections.{Every}
use Rattle.cf_lower_valid.proofs.Digits.{room, rank, ranked}
use Rattle.cf_lower_valid.proofs.Differ.{Names, Distinct, distinct-append, ranks-differ, Span, span-from, span-append, Between, span-between, span-distinct}
use Rattle.cf_lower_valid.proofs.Inner.{every-mapped, every-append}

names-append : (xs ys : List CLocal) → local_names (xs ++ ys) ≡ local_names xs ++ local_names ys
names-append [] ys = refl
names-append (x ∷ xs) ys = ap (λ (l : Names). x.name ∷ l) (names-append xs ys)

-- one name of this rank in front of others
span-step : (n m r : ℕ) (y : List ℕ) (ys : Names) → rank y ≡ r → n ≤ r → Span (suc r) ys m → Span n (y ∷ ys) m
span-step n m r y ys e le h = (subst (λ k. n ≤ k) (sym e) le, subst (λ k. Span (suc k) ys m) (sym e) h)

-- ---- parameters and locals

local-rank : (i : ℕ) → i < 2 ^ 64 → rank (local_name i) ≡ i
local-rank i lt = ranked 108 i lt

pub own-span : (i : ℕ) (ts : List SourceType) → i + length ts ≤ 2 ^ 64 → Span i (local_names (own_locals [] i ts)) (i + length ts)
own-span i [] le = omega arith
own-span i (t ∷ ts) le =
    let l : i + suc (length ts) ≤ 2 ^ 64 = le in
    let same : suc i + length ts ≡ i + suc (length ts) = omega arith in
    span-step i (i + suc (length ts)) i (local_name i) (local_names (own_locals [] (suc i) ts)) (local-rank i (omega (arith, l))) (omega arith)
    (subst (λ m. Span (suc i) (local_names (own_locals [] (suc i) ts)) m) same (own-span (suc i) ts (omega (arith, l))))

pub parameters-span : (i : ℕ) (ts : List SourceType) → i + length ts ≤ 2 ^ 64 → Span i (parameter_names (lowered_parameters i ts)) (i + length ts)
parameters-span i [] le = omega arith
parameters-span i (t ∷ ts) le =
    let l : i + suc (length ts) ≤ 2 ^ 64 = le in
    let same : suc i + length ts ≡ i + suc (length ts) = omega arith in
    go (sort_of t) (subst (λ m. Span (suc i) (parameter_names (lowered_parameters (suc i) ts)) m) same (parameters-span (suc i) ts (omega (arith, l)))) (local-rank i (omega (arith, l)))
  where
    go : (o : Option Sort) → Span (suc i) (parameter_names (lowered_parameters (suc i) ts)) (i + suc (length ts)) → rank (local_name i) ≡ i
        → Span i (parameter_names (if_scalar o (lowered_parameters (suc i) ts) (λ s. record { ty = c_type s; name = local_name i } ∷ lowered_parameters (suc i) ts)))
        (i + suc (length ts))
    go None h r = span-from i (suc i) (i + suc (length ts)) (parameter_names (lowered_parameters (suc i) ts)) (omega arith) h
    go (Some s) h r = span-step i (i + suc (length ts)) i (local_name i) (parameter_names (lowered_parameters (suc i) ts)) r (omega arith) h

-- ---- registers and flags

-- the C locals of a register
abbrev pub three : ℕ → List CLocal
three r = scalar ty.Int (register_name (number Int) r) ∷ scalar ty.Pointer (register_name (address void) r) ∷ scalar ty.FunctionPointer (register_name (code void) r) ∷ []

pub registers-span : (n : ℕ) → n ≤ 2 ^ 64 → Span room (local_names (registers n)) (room + 3 * n)
registers-span zero le = omega arith
registers-span (suc r) le =
    let l : suc r ≤ 2 ^ 64 = le in
    subst (λ ys. Span room ys (room + 3 * suc r)) (sym (names-append (registers r) (three r)))
    (span-append room (room + 3 * r) (room + 3 * suc r) (local_names (registers r)) (local_names (three r)) (registers-span r (omega (arith, l)))
    (span-step (room + 3 * r) (room + 3 * suc r) (room + 3 * r) (register_name (number Int) r) (register_name (address void) r ∷ register_name (code void) r ∷ [])
    (ranked 105 r (omega (arith, l))) (omega arith)
    (span-step (suc (room + 3 * r)) (room + 3 * suc r) (room + (3 * r + 1)) (register_name (address void) r) (register_name (code void) r ∷ [])
    (ranked 112 r (omega (arith, l))) (omega arith)
    (span-step (suc (room + (3 * r + 1))) (room + 3 * suc r) (room + (3 * r + 2)) (register_name (code void) r) []
    (ranked 102 r (omega (arith, l))) (omega arith) (omega arith)))))

pub flags-span : (d : ℕ) → d ≤ 2 ^ 64 → Span (4 * room) (local_names (flags d)) (4 * room + d)
flags-span zero le = omega arith
flags-span (suc d) le =
    let l : suc d ≤ 2 ^ 64 = le in
    subst (λ ys. Span (4 * room) ys (4 * room + suc d)) (sym (names-append (flags d) (scalar ty.Int (flag_name d) ∷ [])))
    (span-append (4 * room) (4 * room + d) (4 * room + suc d) (local_names (flags d)) (flag_name d ∷ []) (flags-span d (omega (arith, l)))
    (span-step (4 * room + d) (4 * room + suc d) (4 * room + d) (flag_name d) [] (ranked 119 d (omega (arith, l))) (omega arith) (omega arith)))

-- ---- results

pub type-number-small : (t : CType) → type_number t < 8
type-number-small ty.Char = omega arith
type-number-small ty.UChar = omega arith
type-number-small ty.Short = omega arith
type-number-small ty.UShort = omega arith
type-number-small ty.Int = omega arith
type-number-small ty.UInt = omega arith
type-number-small ty.Pointer = omega arith
type-number-small ty.FunctionPointer = omega arith

result-rank : (t : CType) → rank (result_name t) ≡ 5 * room + type_number t
result-rank t = let l = type-number-small t in ranked 118 (type_number t) (omega (arith, l))

pub none-any : {A : Type 0} (test : A → Bool) (xs : List A) → list_any test xs ≡ false → Every (λ x. test x ≡ false) xs
none-any test [] e y k = absurd k
none-any test (x ∷ xs) e y (inl k) = subst (λ z. test z ≡ false) k (or_parts (test x) (list_any test xs) e).0
none-any test (x ∷ xs) e y (inr k) = none-any test xs (or_parts (test x) (list_any test xs) e).1 y k

abbrev result_local : CType → CLocal
result_local t = scalar t (result_name t)

results-apart : (t u : CType) → (type_number u == type_number t) ≡ false → bytes_eq (result_name t) (result_name u) ≡ false
results-apart t u e =
    let l = result-rank t in
    let r = result-rank u in
    ranks-differ (result_name t) (result_name u) (λ k.
    let same : type_number u ≡ type_number t = omega (arith, l, r, k) in
    true≢false (sym (eq-eqb (type_number u) (type_number t) same) ∙ e))

pub once-distinct : (ts : List CType) → Distinct (local_names (map result_local (each_once ts)))
once-distinct [] = tt
once-distinct (t ∷ ts) = go (list_any (λ (u : CType). type_number u == type_number t) (each_once ts)) refl (once-distinct ts)
  where
    go : (b : Bool) → list_any (λ (u : CType). type_number u == type_number t) (each_once ts) ≡ b → Distinct (local_names (map result_local (each_once ts)))
        → Distinct (local_names (map result_local (if b then each_once ts else t ∷ each_once ts)))
    go true e rest = rest
    go false e rest = (
      every-mapped (λ y. bytes_eq (result_name t) y ≡ false) (λ (x : CLocal). x.name) (map result_local (each_once ts))
          (every-mapped (λ (x : CLocal). bytes_eq (result_name t) x.name ≡ false) result_local (each_once ts)
          (λ u k. results-apart t u (none-any (λ (u : CType). type_number u == type_number t) (each_once ts) e u k))),
      rest,
    )

-- ---- all of a function

abbrev High : ℕ → List ℕ → Type 0
High n y = n ≤ rank y

abbrev Low : ℕ → List ℕ → Type 0
Low n y = rank y < n

cross : (n : ℕ) (xs ys : Names) → Every (Low n) xs → Every (High n) ys → Every (λ x. Every (λ y. bytes_eq x y ≡ false) ys) xs
cross n xs ys h g x k y l = let a : rank x < n = h x k in let b : n ≤ rank y = g y l in ranks-differ x y (λ e. omega (arith, a, b, e))

pub results-high : (ts : List CType) → Every (High (5 * room)) (local_names (map result_local ts))
results-high ts =
    every-mapped (High (5 * room)) (λ (x : CLocal). x.name) (map result_local ts)
    (every-mapped (λ (x : CLocal). High (5 * room) x.name) result_local ts (λ t k. let e = result-rank t in omega (arith, e)))

-- the C locals of a function of so many parameters
abbrev pub locals_after : ℕ → List SourceType → ℕ → ℕ → List Action → List CLocal
locals_after k ls n d actions = own_locals [] k ls ++ registers n ++ flags d ++ results actions

module _ (k : ℕ) (ls : List SourceType) (n d : ℕ) (actions : List Action) (few : k + length ls ≤ 2 ^ 64) (fewer : n ≤ 2 ^ 64) (fewest : d ≤ 2 ^ 64) where
  abbrev own : Names
  own = local_names (own_locals [] k ls)

  abbrev held : Names
  held = local_names (registers n)

  abbrev flagged : Names
  flagged = local_names (flags d)

  abbrev given : Names
  given = local_names (results actions)

  own-between : Every (Between k (k + length ls)) own
  own-between = span-between k (k + length ls) own (own-span k ls few)

  held-between : Every (Between room (room + 3 * n)) held
  held-between = span-between room (room + 3 * n) held (registers-span n fewer)

  flagged-between : Every (Between (4 * room) (4 * room + d)) flagged
  flagged-between = span-between (4 * room) (4 * room + d) flagged (flags-span d fewest)

  held-low : Every (Low (4 * room)) (own ++ held)
  held-low =
      every-append (Low (4 * room)) own held (λ y h. let b = (own-between y h).high in omega (arith, b, few))
      (λ y h. let b = (held-between y h).high in omega (arith, b, fewer))

  held-on : Distinct (own ++ held)
  held-on =
      distinct-append own held (span-distinct k (k + length ls) own (own-span k ls few)) (span-distinct room (room + 3 * n) held (registers-span n fewer))
      (cross room own held (λ y h. let b = (own-between y h).high in omega (arith, b, few)) (λ y h. (held-between y h).low))

  flagged-low : Every (Low (5 * room)) (own ++ held ++ flagged)
  flagged-low =
      every-append (Low (5 * room)) (own ++ held) flagged (λ y h. let b : rank y < 4 * room = held-low y h in omega (arith, b))
      (λ y h. let b = (flagged-between y h).high in omega (arith, b, fewest))

  flagged-on : Distinct (own ++ held ++ flagged)
  flagged-on =
      distinct-append (own ++ held) flagged held-on (span-distinct (4 * room) (4 * room + d) flagged (flags-span d fewest))
      (cross (4 * room) (own ++ held) flagged held-low (λ y h. (flagged-between y h).low))

  given-high : Every (High (5 * room)) given
  given-high = results-high (each_once (flat_map result_at actions))

  all-names : local_names (locals_after k ls n d actions) ≡ own ++ held ++ flagged ++ given
  all-names =
      names-append (own_locals [] k ls ++ registers n ++ flags d) (results actions)
      ∙ ap (λ ys. ys ++ given) (names-append (own_locals [] k ls ++ registers n) (flags d) ∙ ap (λ ys. ys ++ flagged) (names-append (own_locals [] k ls) (registers n)))

  pub locals-distinct : Distinct (local_names (locals_after k ls n d actions))
  locals-distinct =
      subst Distinct (sym all-names)
      (distinct-append (own ++ held ++ flagged) given flagged-on (once-distinct (flat_map result_at actions))
      (cross (5 * room) (own ++ held ++ flagged) given flagged-low given-high))

  -- they stand behind the parameters
  pub locals-high : Every (High k) (local_names (locals_after k ls n d actions))
  locals-high =
      subst (Every (High k)) (sym all-names)
      (every-append (High k) (own ++ held ++ flagged) given
      (every-append (High k) (own ++ held) flagged
      (every-append (High k) own held (λ y h. (own-between y h).low) (λ y h. let b = (held-between y h).low in omega (arith, b, few)))
      (λ y h. let b = (flagged-between y h).low in omega (arith, b, few)))
      (λ y h. let b : 5 * room ≤ rank y = given-high y h in omega (arith, b, few)))

pub parameters-distinct : (ts : List SourceType) → length ts ≤ 2 ^ 64 → Distinct (parameter_names (lowered_parameters 0 ts))
parameters-distinct ts le = span-distinct 0 (0 + length ts) (parameter_names (lowered_parameters 0 ts)) (parameters-span 0 ts (omega (arith, le)))

-- no parameter has the name of a local
pub parameters-apart : (ts ls : List SourceType) (n d : ℕ) (actions : List Action) → length ts + length ls ≤ 2 ^ 64 → n ≤ 2 ^ 64 → d ≤ 2 ^ 64
    → Every (λ y. Every (λ z. bytes_eq z y ≡ false) (local_names (locals_after (length ts) ls n d actions))) (parameter_names (lowered_parameters 0 ts))
parameters-apart ts ls n d actions few fewer fewest y h z l =
    let a = (span-between 0 (0 + length ts) (parameter_names (lowered_parameters 0 ts)) (parameters-span 0 ts (omega (arith, few))) y h).high in
    let b : length ts ≤ rank z = locals-high (length ts) ls n d actions few fewer fewest z l in
    ranks-differ z y (λ e. omega (arith, a, b, e))
