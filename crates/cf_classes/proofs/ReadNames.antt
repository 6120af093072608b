-- Numbers and names with their lengths in front are read back.
use Rattle.std.proofs.Common.{◌≡◌, ℕ, zero, suc, ◌+◌, ◌-◌, ◌*◌, ◌/◌, ◌%◌, ◌<◌, ◌≤◌, ◌^◌, Bool, true, false, ◌&&◌, nat_le, nat_lt, if◌then◌else◌, List, [], ◌∷◌, ◌++◌, length, take, drop, Option, None, Some, refl, sym, ap, ◌∙◌, subst, arith, append_assoc, length-append, true≢false}
use Rattle.std.specs.Prelude.{decimal, codes}
use Rattle.std.specs.List.{list_all, flat_map}
use Rattle.std.proofs.Math.Seq.{take-append_seam, drop-append_seam}
use Rattle.std.proofs.lemmas.Bool.Decides.{nat_tests}
use Rattle.std.proofs.lemmas.Fmt.{decimal_by_steps}
use Rattle.cf_tokens.specs.Class.{is_digit, is_letter}
use Rattle.cf_classes.specs.LinkName as name
use Rattle.cf_classes.specs.LinkName.{scope_code}
use Rattle.cf_classes.specs.Entity.{is_identifier}
use Rattle.cf_classes.specs.Decode.{number_from, number, counted, counted_names, scope, then_read, behind}

-- two tests that both hold
pub and_left : (a b : Bool) → (a && b) ≡ true → a ≡ true
and_left true b h = refl
and_left false b h = h

pub and_right : (a b : Bool) → (a && b) ≡ true → b ≡ true
and_right true b h = h
and_right false b h = absurd (true≢false (sym h))

-- what holds of each digit
pub by_digit : (P : ℕ → Type 0) → P 48 → P 49 → P 50 → P 51 → P 52 → P 53 → P 54 → P 55 → P 56 → P 57 → (b : ℕ) → is_digit b ≡ true → P b
by_digit P p0 p1 p2 p3 p4 p5 p6 p7 p8 p9 b e =
    let low : 48 ≤ b = grind (arith, nat_tests) in
    let high : b ≤ 57 = grind (arith, nat_tests) in
    let at : 48 + (b - 48) ≡ b = omega arith in
    subst P at (go (b - 48) (omega arith))
  where
    go : (k : ℕ) → k < 10 → P (48 + k)
    go zero h = p0
    go (suc zero) h = p1
    go (suc (suc zero)) h = p2
    go (suc (suc (suc zero))) h = p3
    go (suc (suc (suc (suc zero)))) h = p4
    go (suc (suc (suc (suc (suc zero))))) h = p5
    go (suc (suc (suc (suc (suc (suc zero)))))) h = p6
    go (suc (suc (suc (suc (suc (suc (suc zero))))))) h = p7
    go (suc (suc (suc (suc (suc (suc (suc (suc zero)))))))) h = p8
    go (suc (suc (suc (suc (suc (suc (suc (suc (suc zero))))))))) h = p9
    go (suc (suc (suc (suc (suc (suc (suc (suc (suc (suc k)))))))))) h = absurd (omega arith)

digit_passes : (n : ℕ) → n < 10 → is_digit (48 + n) ≡ true
digit_passes n small = grind (arith, nat_tests)

-- a number is read from its digits, and so are the digits behind it
pub number-read : (n : ℕ) → n < 2 ^ 64 → (r : List ℕ) → number (decimal n ++ r) ≡ Some (number_from n r)
number-read = decimal_by_steps (λ n ds. (r : List ℕ) → number (ds ++ r) ≡ Some (number_from n r)) one more
  where
    one : (n : ℕ) → n < 10 → (r : List ℕ) → number ((48 + n) ∷ r) ≡ Some (number_from n r)
    one n small r = let value : 0 + (48 + n - 48) ≡ n = omega arith in rw (digit_passes n small) (ap (λ k. Some (number_from k r)) value)

    more : (n : ℕ) (ds : List ℕ) → 10 ≤ n → ((r : List ℕ) → number (ds ++ r) ≡ Some (number_from (n / 10) r)) → (r : List ℕ) → number ((ds ++ (48 + n % 10) ∷ []) ++ r) ≡ Some (number_from n r)
    more n ds large front r =
        let last : n % 10 < 10 = omega arith in
        let value : n / 10 * 10 + (48 + n % 10 - 48) ≡ n = omega arith in
        ap number (append_assoc ds ((48 + n % 10) ∷ []) r) ∙ front ((48 + n % 10) ∷ r) ∙ rw (digit_passes (n % 10) last) (ap (λ k. Some (number_from k r)) value)

-- up to what is no digit
pub number-stops : (n c : ℕ) (r : List ℕ) → is_digit c ≡ false → number_from n (c ∷ r) ≡ (n, c ∷ r)
number-stops n c r e = rw e refl

-- a number begins with a digit
pub record Digits (n : ℕ) : Type 0 where
  pub first : ℕ
  pub behind : List ℕ
  pub is : decimal n ≡ first ∷ behind
  pub digit : is_digit first ≡ true

record Begins (ds : List ℕ) : Type 0 where
  first : ℕ
  behind : List ℕ
  is : ds ≡ first ∷ behind
  digit : is_digit first ≡ true

pub digits_of : (n : ℕ) → n < 2 ^ 64 → Digits n
digits_of n fits = let b = found n fits in record { first = b.first; behind = b.behind; is = b.is; digit = b.digit }
  where
    found : (n : ℕ) → n < 2 ^ 64 → Begins (decimal n)
    found =
        decimal_by_steps (λ n ds. Begins ds) (λ m small. record { first = 48 + m; behind = []; is = refl; digit = digit_passes m small })
        (λ m ds large b. record { first = b.first; behind = b.behind ++ (48 + m % 10) ∷ []; is = ap (λ l. l ++ (48 + m % 10) ∷ []) b.is; digit = b.digit })

letter_no_digit : (b : ℕ) → is_letter b ≡ true → is_digit b ≡ false
letter_no_digit b e = by (is_digit b) refl
  where
    by : (c : Bool) → is_digit b ≡ c → c ≡ false
    by false d = refl
    by true d = absurd (true≢false (sym e ∙ by_digit (λ x. is_letter x ≡ false) refl refl refl refl refl refl refl refl refl refl b d))

-- of an identifier: its length, and that it begins with no digit
pub record Name (name : List ℕ) : Type 0 where
  pub first : ℕ
  pub behind : List ℕ
  pub is : name ≡ first ∷ behind
  pub no_digit : is_digit first ≡ false
  pub fits : length name < 2 ^ 64

pub name_of : (n : List ℕ) → is_identifier n ≡ true → Name n
name_of [] h = absurd (true≢false (sym h))
name_of (b ∷ bs) h =
    let front = and_left _ _ (and_left _ _ (and_left _ _ h)) in
    let short : nat_lt (length (b ∷ bs)) (2 ^ 64) ≡ true = and_left _ _ front in
    let letter : is_letter b ≡ true = and_right _ _ front in
    record { first = b; behind = bs; is = refl; no_digit = letter_no_digit b letter; fits = grind (arith, nat_tests) }

-- what a count reads
taken : ℕ × List ℕ → Option (List ℕ × List ℕ)
taken p = if nat_le p.0 (length p.1) then Some (take p.0 p.1, drop p.0 p.1) else None

number-before : (n : ℕ) (name r : List ℕ) → Name name → number_from n (name ++ r) ≡ (n, name ++ r)
number-before n name r h = subst (λ l. number_from n (l ++ r) ≡ (n, l ++ r)) (sym h.is) (number-stops n h.first (h.behind ++ r) h.no_digit)

-- a name is read back
pub counted-read : (n r : List ℕ) → is_identifier n ≡ true → counted (name.counted n ++ r) ≡ Some (n, r)
unfolding taken
counted-read n r h =
    let f = name_of n h in
    let first : number (name.counted n ++ r) ≡ Some (length n, n ++ r) =
    ap number (append_assoc (decimal (length n)) n r) ∙ number-read (length n) f.fits (n ++ r) ∙ ap Some (number-before (length n) n r f) in
    let enough : nat_le (length n) (length (n ++ r)) ≡ true = let longer = length-append n r in grind (arith, nat_tests) in
    rw first (rw enough (ap Some (pair (take-append_seam n r) (drop-append_seam n r))))
  where
    pair : {a b c d : List ℕ} → a ≡ b → c ≡ d → ◌≡◌ {A = List ℕ × List ℕ} (a, c) (b, d)
    pair {a} {b} {c} {d} p q = ap (λ x. (x, c)) p ∙ ap (λ y. (b, y)) q

-- and so are several
pub names-read : (names : List (List ℕ)) (r : List ℕ) → list_all is_identifier names ≡ true → counted_names (length names) (flat_map name.counted names ++ r) ≡ Some (names, r)
names-read [] r h = refl
names-read (n ∷ ns) r h =
    let one = and_left (is_identifier n) (list_all is_identifier ns) h in
    let rest = and_right (is_identifier n) (list_all is_identifier ns) h in
    rw (append_assoc (name.counted n) (flat_map name.counted ns) r) (rw (counted-read n (flat_map name.counted ns ++ r) one) (rw (names-read ns r rest) refl))

-- a mark between two pieces
pub between : (d f r : List ℕ) → ((d ++ 95 ∷ []) ++ f) ++ r ≡ d ++ (95 ∷ (f ++ r))
between d f r = append_assoc (d ++ 95 ∷ []) f r ∙ append_assoc d (95 ∷ []) (f ++ r)

-- the names that lead to a class are read back
pub scope-read : (n : List ℕ) (ns : List (List ℕ)) (r : List ℕ) → nat_lt (length (n ∷ ns)) (2 ^ 64) ≡ true → list_all is_identifier (n ∷ ns) ≡ true → scope (scope_code (n ∷ ns) ++ r) ≡ Some (n ∷ ns, r)
scope-read n [] r short h =
    let f = name_of n (and_left (is_identifier n) true h) in
    let d = digits_of (length n) f.fits in
    let at : name.counted n ++ r ≡ d.first ∷ ((d.behind ++ n) ++ r) = ap (λ l. (l ++ n) ++ r) d.is in
    let read : counted (d.first ∷ ((d.behind ++ n) ++ r)) ≡ Some (n, r) = ap counted (sym at) ∙ counted-read n r (and_left (is_identifier n) true h) in
    rw at (by_digit (λ b. counted (b ∷ ((d.behind ++ n) ++ r)) ≡ Some (n, r) → scope (b ∷ ((d.behind ++ n) ++ r)) ≡ Some (n ∷ [], r))
    (λ e. rw e refl) (λ e. rw e refl) (λ e. rw e refl) (λ e. rw e refl) (λ e. rw e refl) (λ e. rw e refl) (λ e. rw e refl) (λ e. rw e refl) (λ e. rw e refl) (λ e. rw e refl) d.first d.digit read)
scope-read n (m ∷ ms) r short h =
    let names = n ∷ m ∷ ms in
    let fits : length names < 2 ^ 64 = grind (arith, nat_tests) in
    let text = between (decimal (length names)) (flat_map name.counted names) r in
    ap (λ x. scope (81 ∷ x)) text
    ∙ ap (λ o. then_read o (λ k rest. behind (codes "_") rest (counted_names k))) (number-read (length names) fits (95 ∷ (flat_map name.counted names ++ r)))
    ∙ names-read names r h
