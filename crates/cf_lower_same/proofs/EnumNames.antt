-- Two enumerations that stand in no class have one code exactly where they have one name.
use Rattle.std.proofs.Common.{◌≡◌, ℕ, zero, suc, ◌+◌, ◌/◌, ◌%◌, ◌≤◌, ◌==◌, Bool, true, false, if◌then◌else◌, List, [], ◌∷◌, ◌++◌, length, None, Some, slice_get, refl, sym, ap, ◌∙◌, arith, length-append, bytes_eq, eq-eqb}
use Rattle.std.specs.Prelude.{decimal}
use Rattle.std.specs.Fmt.{digits, digits_onto, digit_glyph}
use Rattle.std.proofs.lemmas.Bool.{eqb-true}
use Rattle.std.proofs.lemmas.List.{append_cancel_left}
use Rattle.cf_base.proofs.Tests.{same_bytes, bytes_same, bytes_differ}
use Rattle.cf_classes.specs.LinkName.{counted, scope_code, enum_names}
use Rattle.cf_classes.specs.declared.label.Label.{Label}
use Rattle.cf_core.specs.FromTypes.{Tables}
use Rattle.cf_lower_same.specs.Alike.{same_enums}

-- ---- longer numbers have no fewer digits

abbrev next : ℕ → ℕ → List ℕ → Bool → List ℕ
next k n acc b = if b then digit_glyph false (n % 10) ∷ acc else digits_onto k 10 false (n / 10) (digit_glyph false (n % 10) ∷ acc)

more_digits : (k n : ℕ) (acc : List ℕ) → length acc ≤ length (digits_onto k 10 false n acc)
more_digits zero n acc = omega arith
more_digits (suc k) n acc = by (n / 10 == 0) (more_digits k (n / 10) (digit_glyph false (n % 10) ∷ acc))
  where
    by : (b : Bool) → suc (length acc) ≤ length (next k n acc false) → length acc ≤ length (next k n acc b)
    by true rest = omega arith
    by false rest = omega arith

digits_grow : (k m n : ℕ) (acc others : List ℕ) → m ≤ n → length acc ≡ length others → length (digits_onto k 10 false m acc) ≤ length (digits_onto k 10 false n others)
digits_grow zero m n acc others h same = omega arith
digits_grow (suc k) m n acc others h same =
    by (m / 10 == 0) (n / 10 == 0) refl refl
    (digits_grow k (m / 10) (n / 10) (digit_glyph false (m % 10) ∷ acc) (digit_glyph false (n % 10) ∷ others) (omega arith) (omega arith))
  where
    by : (b c : Bool) → (m / 10 == 0) ≡ b → (n / 10 == 0) ≡ c → length (next k m acc false) ≤ length (next k n others false)
        → length (next k m acc b) ≤ length (next k n others c)
    by true true e f both = omega arith
    by true false e f both = let r = more_digits k (n / 10) (digit_glyph false (n % 10) ∷ others) in omega arith
    by false true e f both =
        let z : n / 10 ≡ 0 = eqb-true (n / 10) 0 f in
        let y : m / 10 ≡ 0 = omega arith in
        let w : true ≡ false = sym (eq-eqb (m / 10) 0 y) ∙ e in cc
    by false false e f both = both

decimals_grow : (m n : ℕ) → m ≤ n → length (decimal m) ≤ length (decimal n)
unfolding digits
decimals_grow m n h = digits_grow 64 m n [] [] h refl

-- ---- names with their lengths in front

same_length : (m n : ℕ) → length (decimal m) + m ≡ length (decimal n) + n → m ≡ n
same_length m n e = grind (arith, decimals_grow m n, decimals_grow n m)

counted_same : (a b : List ℕ) → counted a ≡ counted b → a ≡ b
counted_same a b e =
    let whole : length (decimal (length a)) + length a ≡ length (decimal (length b)) + length b =
    sym (length-append (decimal (length a)) a) ∙ ap length e ∙ length-append (decimal (length b)) b in
    let same : length a ≡ length b = same_length (length a) (length b) whole in
    append_cancel_left (decimal (length a)) a b (e ∙ ap (λ n. decimal n ++ b) (sym same))

-- a name that is empty has no code
code_name : List ℕ → List ℕ
code_name [] = []
code_name (x ∷ xs) = counted (x ∷ xs)

code_same : (a b : List ℕ) → code_name a ≡ code_name b → a ≡ b
unfolding code_name
code_same [] [] e = refl
code_same [] (y ∷ ys) e = let n = ap length e in absurd (omega (arith, length-append (decimal (length (y ∷ ys))) (y ∷ ys)))
code_same (x ∷ xs) [] e = let n = ap length e in absurd (omega (arith, length-append (decimal (length (x ∷ xs))) (x ∷ xs)))
code_same (x ∷ xs) (y ∷ ys) e = counted_same (x ∷ xs) (y ∷ ys) e

same_code : (a b : List ℕ) → bytes_eq (code_name a) (code_name b) ≡ bytes_eq a b
same_code a b = by (bytes_eq a b) refl
  where
    by : (t : Bool) → bytes_eq a b ≡ t → bytes_eq (code_name a) (code_name b) ≡ t
    by true e = bytes_same (code_name a) (code_name b) (ap code_name (same_bytes a b e))
    by false e = bytes_differ (code_name a) (code_name b) (λ h. let z : true ≡ false = sym (bytes_same a b (code_same a b h)) ∙ e in cc)

-- ---- enumerations in no class

module _ (tables : Tables) (e : ℕ) (l : Label) (here : slice_get tables.classes.enums e ≡ Some l) (no_outer : l.outer ≡ None) where
  code_of : scope_code (enum_names tables.classes e) ≡ code_name l.name
  unfolding code_name
  code_of = rw (here, no_outer) (by l.name)
    where
      by : (name : List ℕ) → scope_code (elim name as (λ _. List (List ℕ)) [ [] ↦ [] | x ∷ xs ↦ (x ∷ xs) ∷ [] ]) ≡ code_name name
      by [] = refl
      by (x ∷ xs) = refl

pub same_by_names : (tables : Tables) (e f : ℕ) (l k : Label) → slice_get tables.classes.enums e ≡ Some l → slice_get tables.classes.enums f ≡ Some k → l.outer ≡ None → k.outer ≡ None
    → bytes_eq l.name k.name ≡ same_enums tables e f
unfolding same_enums
same_by_names tables e f l k p q a b =
    sym (ap (λ c. bytes_eq c (scope_code (enum_names tables.classes f))) (code_of tables e l p a) ∙ ap (bytes_eq (code_name l.name)) (code_of tables f k q b) ∙ same_code l.name k.name)
