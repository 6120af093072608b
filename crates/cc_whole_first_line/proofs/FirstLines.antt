-- The first line that is read is one, and each first line is read.
use Rattle.std.proofs.Common.{◌≡◌, ℕ, zero, suc, ◌+◌, ◌<◌, ◌≤◌, ◌^◌, Bool, true, false, not, ◌&&◌, List, [], ◌∷◌, ◌++◌, length, take, drop, Option, Some, None, Result, Ok, Err, refl, ap, sym, ◌∙◌, subst, arith, append_assoc, ⊎_elim}
use Rattle.std.specs.Prelude.{codes, decimal, ◌==◌, nat_eq, nat_lt, nat_le, if◌then◌else◌, cond, get_or}
use Rattle.std.specs.Char.{is_ascii_digit}
use Rattle.std.specs.List.{list_all, prefix_len, starts_with}
use Rattle.std.specs.Str.{all_ascii_digits}
use Rattle.std.specs.Str.Parse.{digits_value}
use Rattle.std.proofs.lemmas.Bool.{and_parts, or_cases, false≢true, true≢false, eqb-true}
use Rattle.std.proofs.lemmas.Bool.Decides.{nat_tests, Decides-eqb}
use Rattle.std.proofs.lemmas.List.{take-append-drop}
use Rattle.std.proofs.lemmas.Slice.Eq.{starts_is}
use Rattle.std.proofs.lemmas.List.Sums.{AllPass-from_list_all, list_all-from_AllPass}
use Rattle.std.proofs.lemmas.Fmt.{decimal_is_IsNumeral, decimal-digits_value, digits_decimal, decimal_digit, first_decimal}
use Rattle.std.proofs.lemmas.Str.Parse.{numerals_by_value, tells_all_ascii_digits}
use Rattle.std.proofs.Math.Seq.{drop-append_seam, take-append_seam}
use Rattle.cc_whole_tokens.specs.Token.{begins, is_word_byte}
use Rattle.cc_whole_tokens.specs.Cut.{is_blank}
use Rattle.cc_whole_cut.proofs.Runs.{run_all, run_is, run_stops}
use Rattle.cc_whole.specs.Text.{FirstLine}
use Rattle.cc_whole_first_line.specs.FirstLine.{is_space, without, as_version, version_of, from_end, number_in, behind_number, from_number, begins_words, from_words, first_line, Begins}

-- ---- runs

run_off : (p : ℕ → Bool) (ws rest : List ℕ) → list_all p ws ≡ true → begins p rest ≡ false → without p (ws ++ rest) ≡ rest
run_off p ws rest all stops = ap (λ n. drop n (ws ++ rest)) (run_is p ws rest all stops) ∙ drop-append_seam ws rest

run_there : (p : ℕ → Bool) (bs : List ℕ) → bs ≡ take (prefix_len p bs) bs ++ without p bs
run_there p bs = sym (take-append-drop (prefix_len p bs) bs)

digits_same : (ds : List ℕ) → list_all is_ascii_digit ds ≡ all_ascii_digits ds
digits_same [] = refl
digits_same (d ∷ ds) = ap (λ t. is_ascii_digit d && t) (digits_same ds)

no_blank_digit : (b : ℕ) → is_ascii_digit b ≡ true → is_blank b ≡ false
no_blank_digit b e = grind (arith, nat_tests)

begins_digit_no_blank : (ds rest : List ℕ) → begins is_ascii_digit ds ≡ true → begins is_blank (ds ++ rest) ≡ false
begins_digit_no_blank [] rest e = absurd (cc)
begins_digit_no_blank (d ∷ ds) rest e = no_blank_digit d e

-- ---- the number

record Numeral (n : ℕ) (ds : List ℕ) : Type 0 where
  all : list_all is_ascii_digit ds ≡ true
  first : begins is_ascii_digit ds ≡ true
  no_zero : begins (λ b. b == 48) ds ≡ false
  value : digits_value 10 ds ≡ n

first_of : (ds : List ℕ) → list_all is_ascii_digit ds ≡ true → 48 < get_or ds 0 0 → (begins is_ascii_digit ds ≡ true) × (begins (λ b. b == 48) ds ≡ false)
first_of [] all large = absurd (omega (arith, large))
first_of (d ∷ ds) all large = let both = and_parts (is_ascii_digit d) (list_all is_ascii_digit ds) all in (both.0, grind (arith, nat_tests))

numeral : (n : ℕ) → 1 ≤ n → n < 10 ^ 9 → Numeral n (decimal n)
numeral n some small =
    let fits : n < 2 ^ 64 = omega arith in
    let all = digits_same (decimal n) ∙ digits_decimal (numerals_by_value _ tells_all_ascii_digits) n fits in
    let f = first_of (decimal n) all (first_decimal n (omega arith) fits) in
    record { all = all; first = f.0; no_zero = f.1; value = (decimal_is_IsNumeral n fits).1 }

version_there : (n : ℕ) (ds : List ℕ) → Numeral n ds → n < 10 ^ 9 → version_of ds ≡ Some n
version_there n ds h small =
    let lt : nat_lt n 1000000000 ≡ true = grind (arith, nat_tests) in
    ap (λ t. if t && not (begins (λ b. b == 48) ds) then as_version (digits_value 10 ds) else None) h.first
    ∙ ap (λ t. if not t then as_version (digits_value 10 ds) else None) h.no_zero
    ∙ ap as_version h.value
    ∙ ap (λ t. if t then Some n else None) lt

record Version (n : ℕ) (ds : List ℕ) : Type 0 where
  is : ds ≡ decimal n
  from_one : 1 ≤ n
  nine_digits : n < 10 ^ 9

version_value : (k n : ℕ) → as_version k ≡ Some n → (k ≡ n) × (n < 10 ^ 9)
version_value k n e = at (nat_lt k 1000000000) refl e
  where
    at : (s : Bool) → nat_lt k 1000000000 ≡ s → (if s then Some k else None) ≡ Some n → (k ≡ n) × (n < 10 ^ 9)
    at false g h = absurd (cc)
    at true g h =
        let same : k ≡ n = cc in
        let small : k < 10 ^ 9 = grind (arith, nat_tests) in
        (same, subst (λ m. m < 10 ^ 9) same small)

lead : (ds : List ℕ) → begins (λ b. b == 48) ds ≡ false → begins is_ascii_digit ds ≡ true → (0 < length ds) × (get_or ds 0 0 ≡ 48 → length ds ≡ 1)
lead [] e f = absurd (cc)
lead (d ∷ ds) e f = (omega arith, λ h. absurd (false≢true (sym e ∙ grind (arith, nat_tests))))

some_value : (n : ℕ) (ds : List ℕ) → ds ≡ decimal n → begins (λ b. b == 48) ds ≡ false → 1 ≤ n
some_value zero ds e f = absurd (false≢true (sym f ∙ ap (begins (λ b. b == 48)) (e ∙ decimal_digit 0 (omega arith))))
some_value (suc n) ds e f = omega arith

version_is : (n : ℕ) (ds : List ℕ) → list_all is_ascii_digit ds ≡ true → version_of ds ≡ Some n → Version n ds
version_is n ds all e = go (begins is_ascii_digit ds) refl (begins (λ b. b == 48) ds) refl e
  where
    go : (s : Bool) → begins is_ascii_digit ds ≡ s → (t : Bool) → begins (λ b. b == 48) ds ≡ t
        → (if s && not t then as_version (digits_value 10 ds) else None) ≡ Some n → Version n ds
    go false f t g h = absurd (cc)
    go true f true g h = absurd (cc)
    go true f false g h =
        let v = version_value (digits_value 10 ds) n h in
        let l = lead ds g f in
        let small : digits_value 10 ds < 2 ^ 64 = omega (arith, v.0, v.1) in
        let is : ds ≡ decimal n = sym (decimal-digits_value (numerals_by_value _ tells_all_ascii_digits) ds (sym (digits_same ds) ∙ all) l.0 l.1 small) ∙ ap decimal v.0 in
        record { is = is; from_one = some_value n ds is g; nine_digits = v.1 }

-- ---- a first line is read

newline : List ℕ
newline = 10 ∷ []

-- neither a digit nor a letter stands where a line may end
ends_number : (spaces rest : List ℕ) → list_all is_space spaces ≡ true → (begins is_ascii_digit (spaces ++ (10 ∷ rest)) ≡ false) × (begins is_word_byte (spaces ++ (10 ∷ rest)) ≡ false)
ends_number [] rest all = (refl, refl)
ends_number (s ∷ spaces) rest all =
    let is : s ≡ 32 = eqb-true s 32 (and_parts (is_space s) (list_all is_space spaces) all).0 in
    (ap is_ascii_digit is, ap is_word_byte is)

end_there : (n : ℕ) (rest : List ℕ) → from_end n (10 ∷ rest) ≡ Ok (n, rest)
unfolding from_end
end_there n rest = refl

number_there : (n : ℕ) (ds spaces rest : List ℕ) → Numeral n ds → n < 10 ^ 9 → list_all is_space spaces ≡ true
    → from_number (ds ++ (spaces ++ (10 ∷ rest))) ≡ Ok (n, rest)
unfolding from_number number_in
number_there n ds spaces rest h small all =
    let tail = spaces ++ (10 ∷ rest) in
    let ends = ends_number spaces rest all in
    ap (λ k. behind_number (if begins is_word_byte (drop k (ds ++ tail)) then None else version_of (take k (ds ++ tail))) k (ds ++ tail)) (run_is is_ascii_digit ds tail h.all ends.0)
    ∙ ap (λ l. behind_number (if begins is_word_byte l then None else version_of (take (length ds) (ds ++ tail))) (length ds) (ds ++ tail)) (drop-append_seam ds tail)
    ∙ ap (λ t. behind_number (if t then None else version_of (take (length ds) (ds ++ tail))) (length ds) (ds ++ tail)) ends.1
    ∙ ap (λ l. behind_number (version_of l) (length ds) (ds ++ tail)) (take-append_seam ds tail)
    ∙ ap (λ v. behind_number v (length ds) (ds ++ tail)) (version_there n ds h small)
    ∙ ap (λ l. from_end n (without is_space l)) (drop-append_seam ds tail)
    ∙ ap (from_end n) (run_off is_space spaces (10 ∷ rest) all refl)
    ∙ end_there n rest

blank_no_word : (b : ℕ) → is_blank b ≡ true → is_word_byte b ≡ false
blank_no_word b h = ⊎_elim (λ e. ap is_word_byte (eqb-true b 32 e)) (λ e. ap is_word_byte (eqb-true b 10 e)) (or_cases (b == 32) (b == 10) h)

gap_no_word : (gap rest : List ℕ) → list_all is_blank gap ≡ true → 0 < length gap → begins is_word_byte (gap ++ rest) ≡ false
gap_no_word [] rest all some = absurd (omega (arith, some))
gap_no_word (g ∷ gap) rest all some = blank_no_word g (and_parts (is_blank g) (list_all is_blank gap) all).0

words_there : (n : ℕ) (gap ds spaces rest : List ℕ) → list_all is_blank gap ≡ true → 0 < length gap → Numeral n ds → n < 10 ^ 9 → list_all is_space spaces ≡ true
    → from_words (codes "#pragma cfront" ++ (gap ++ (ds ++ (spaces ++ (10 ∷ rest))))) ≡ Ok (n, rest)
unfolding from_words
words_there n gap ds spaces rest blank some h small all =
    let tail = ds ++ (spaces ++ (10 ∷ rest)) in
    ap (λ t. if not t then from_number (without is_blank (gap ++ tail)) else Err (codes "#pragma cfront" ++ (gap ++ tail))) (gap_no_word gap tail blank some)
    ∙ ap from_number (run_off is_blank gap tail blank (begins_digit_no_blank ds (spaces ++ (10 ∷ rest)) h.first))
    ∙ number_there n ds spaces rest h small all

line_there : (n : ℕ) (before gap ds spaces rest : List ℕ) → list_all is_blank before ≡ true → list_all is_blank gap ≡ true → 0 < length gap → Numeral n ds → n < 10 ^ 9
    → list_all is_space spaces ≡ true → first_line (before ++ (codes "#pragma cfront" ++ (gap ++ (ds ++ (spaces ++ (10 ∷ rest)))))) ≡ Ok (n, rest)
unfolding first_line
line_there n before gap ds spaces rest blank gap_blank some h small all =
    ap from_words (run_off is_blank before (codes "#pragma cfront" ++ (gap ++ (ds ++ (spaces ++ (10 ∷ rest))))) blank refl)
    ∙ words_there n gap ds spaces rest gap_blank some h small all

line_parts : (a w b c d rest : List ℕ) → (a ++ (w ++ (b ++ (c ++ (d ++ newline))))) ++ rest ≡ a ++ (w ++ (b ++ (c ++ (d ++ (10 ∷ rest)))))
unfolding newline
line_parts a w b c d rest =
    append_assoc a (w ++ (b ++ (c ++ (d ++ newline)))) rest
    ∙ ap (λ l. a ++ l) (append_assoc w (b ++ (c ++ (d ++ newline))) rest
    ∙ ap (λ l. w ++ l) (append_assoc b (c ++ (d ++ newline)) rest
    ∙ ap (λ l. b ++ l) (append_assoc c (d ++ newline) rest
    ∙ ap (λ l. c ++ l) (append_assoc d newline rest))))

pub first_line_read : (version : ℕ) (line rest : List ℕ) → FirstLine version line → first_line (line ++ rest) ≡ Ok (version, rest)
unfolding newline
first_line_read version line rest f =
    ap (λ l. first_line (l ++ rest)) f.line_is
    ∙ ap first_line (line_parts f.before (codes "#pragma cfront") f.gap (decimal version) f.spaces rest)
    ∙ line_there version f.before f.gap (decimal version) f.spaces rest (list_all-from_AllPass is_blank f.before f.blank_before)
    (list_all-from_AllPass is_blank f.gap f.blank_gap) f.a_gap (numeral version f.from_one f.nine_digits) f.nine_digits (list_all-from_AllPass is_space f.spaces f.all_spaces)

-- ---- what is read is a first line

ok_is : {n m : ℕ} {bs cs : List ℕ} → ◌≡◌ {A = Result (ℕ × List ℕ) (List ℕ)} (Ok (n, bs)) (Ok (m, cs)) → (n ≡ m) × (bs ≡ cs)
ok_is {n} {m} {bs} {cs} e = let same : (n, bs) ≡ (m, cs) = cc in (ap (λ (p : ℕ × List ℕ). p.0) same, ap (λ (p : ℕ × List ℕ). p.1) same)

abbrev end_by : Bool → ℕ → ℕ → List ℕ → Result (ℕ × List ℕ) (List ℕ)
end_by t n b bs = if◌then◌else◌ {A = Result (ℕ × List ℕ) (List ℕ)} t (Ok (n, bs)) (Err (b ∷ bs))

end_is : (n : ℕ) (bs : List ℕ) (m : ℕ) (rest : List ℕ) → from_end n bs ≡ Ok (m, rest) → (n ≡ m) × (bs ≡ 10 ∷ rest)
unfolding from_end
end_is n [] m rest e = absurd (cc)
end_is n (b ∷ bs) m rest e = go (b == 10) refl e
  where
    go : (t : Bool) → (b == 10) ≡ t → end_by t n b bs ≡ Ok (m, rest) → (n ≡ m) × (b ∷ bs ≡ 10 ∷ rest)
    go false f g = absurd (cc)
    go true f g = let same = ok_is g in (same.0, ap (λ x. x ∷ bs) (eqb-true b 10 f) ∙ ap (λ l. 10 ∷ l) same.1)

starts_words : (bs : List ℕ) → starts_with nat_eq bs (codes "#pragma cfront") ≡ true → bs ≡ codes "#pragma cfront" ++ drop 14 bs
starts_words bs e = (starts_is Decides-eqb bs (codes "#pragma cfront") (starts_with nat_eq bs (codes "#pragma cfront")) refl).0 e

digit_is_word : (b : ℕ) → is_ascii_digit b ≡ true → is_word_byte b ≡ true
digit_is_word b e = grind (arith, nat_tests)

-- where no letter stands behind the words and then a number, there is a gap before it
gap_some : (bs : List ℕ) → begins is_word_byte bs ≡ false → begins is_ascii_digit (without is_blank bs) ≡ true → 0 < length (take (prefix_len is_blank bs) bs)
gap_some [] plain digit = absurd (false≢true digit)
gap_some (b ∷ bs) plain digit = go (is_blank b) refl
  where
    go : (t : Bool) → is_blank b ≡ t → 0 < length (take (prefix_len is_blank (b ∷ bs)) (b ∷ bs))
    go true is =
        let n : prefix_len is_blank (b ∷ bs) ≡ suc (prefix_len is_blank bs) = ap (λ t. cond t (1 + prefix_len is_blank bs) 0) is ∙ omega arith in
        subst (λ k. 0 < length (take k (b ∷ bs))) (sym n) (omega arith)
    go false is =
        let n : prefix_len is_blank (b ∷ bs) ≡ 0 = ap (λ t. cond t (1 + prefix_len is_blank bs) 0) is in
        let front : begins is_ascii_digit (b ∷ bs) ≡ true = subst (λ k. begins is_ascii_digit (drop k (b ∷ bs)) ≡ true) n digit in
        absurd (true≢false (sym (digit_is_word b front) ∙ plain))

taken_begins : (n : ℕ) (bs : List ℕ) → begins is_ascii_digit (take n bs) ≡ true → begins is_ascii_digit bs ≡ true
taken_begins zero bs e = absurd (false≢true e)
taken_begins (suc n) [] e = e
taken_begins (suc n) (b ∷ bs) e = e

version_begins : (n : ℕ) (ds : List ℕ) → version_of ds ≡ Some n → begins is_ascii_digit ds ≡ true
version_begins n ds e = go (begins is_ascii_digit ds) refl e
  where
    go : (s : Bool) → begins is_ascii_digit ds ≡ s → (if s && not (begins (λ b. b == 48) ds) then as_version (digits_value 10 ds) else None) ≡ Some n
        → begins is_ascii_digit ds ≡ true
    go true f g = f
    go false f g = absurd (cc)

module _ (text : List ℕ) (version : ℕ) (rest : List ℕ) where
  -- the places in the text
  abbrev words : List ℕ
  words = without is_blank text

  abbrev behind : List ℕ
  behind = drop 14 words

  abbrev number : List ℕ
  number = without is_blank behind

  abbrev digits : List ℕ
  digits = take (prefix_len is_ascii_digit number) number

  abbrev end : List ℕ
  end = drop (prefix_len is_ascii_digit number) number

  made : starts_with nat_eq words (codes "#pragma cfront") ≡ true → begins is_word_byte behind ≡ false → version_of digits ≡ Some version
      → without is_space end ≡ 10 ∷ rest → Begins text version rest
  unfolding newline
  made starts no_word valued ends =
      let v = version_is version digits (run_all is_ascii_digit number) valued in
      let digit = taken_begins (prefix_len is_ascii_digit number) number (version_begins version digits valued) in
      let before = take (prefix_len is_blank text) text in
      let gap = take (prefix_len is_blank behind) behind in
      let spaces = take (prefix_len is_space end) end in
      let tail : end ≡ spaces ++ (10 ∷ rest) = run_there is_space end ∙ ap (λ l. spaces ++ l) ends in
      let from_number : number ≡ decimal version ++ (spaces ++ (10 ∷ rest)) =
      sym (take-append-drop (prefix_len is_ascii_digit number) number) ∙ ap (λ l. l ++ end) v.is ∙ ap (λ l. decimal version ++ l) tail in
      let from_behind : behind ≡ gap ++ (decimal version ++ (spaces ++ (10 ∷ rest))) = run_there is_blank behind ∙ ap (λ l. gap ++ l) from_number in
      let from_start : text ≡ before ++ (codes "#pragma cfront" ++ (gap ++ (decimal version ++ (spaces ++ (10 ∷ rest))))) =
      run_there is_blank text ∙ ap (λ l. before ++ l) (starts_words words starts ∙ ap (λ l. codes "#pragma cfront" ++ l) from_behind) in
      record {
        line = before ++ (codes "#pragma cfront" ++ (gap ++ (decimal version ++ (spaces ++ newline))));
        first = record {
          before = before;
          gap = gap;
          spaces = spaces;
          blank_before = AllPass-from_list_all is_blank before (run_all is_blank text);
          blank_gap = AllPass-from_list_all is_blank gap (run_all is_blank behind);
          a_gap = gap_some behind no_word digit;
          all_spaces = AllPass-from_list_all is_space spaces (run_all is_space end);
          from_one = v.from_one;
          nine_digits = v.nine_digits;
          line_is = refl;
        };
        parts = from_start ∙ sym (line_parts before (codes "#pragma cfront") gap (decimal version) spaces rest);
      }

  behind_is : starts_with nat_eq words (codes "#pragma cfront") ≡ true → begins is_word_byte behind ≡ false → (v : Option ℕ) → version_of digits ≡ v
      → behind_number v (prefix_len is_ascii_digit number) number ≡ Ok (version, rest) → Begins text version rest
  behind_is starts no_word None f e = absurd (cc)
  behind_is starts no_word (Some n) f e =
      let l = end_is n (without is_space end) version rest e in
      made starts no_word (f ∙ ap Some l.0) l.1

  number_is : starts_with nat_eq words (codes "#pragma cfront") ≡ true → begins is_word_byte behind ≡ false → from_number number ≡ Ok (version, rest) → Begins text version rest
  unfolding from_number number_in
  number_is starts no_word e = go (begins is_word_byte end) refl e
    where
      go : (t : Bool) → begins is_word_byte end ≡ t
          → behind_number (if t then None else version_of digits) (prefix_len is_ascii_digit number) number ≡ Ok (version, rest) → Begins text version rest
      go true f g = absurd (cc)
      go false f g = behind_is starts no_word (version_of digits) refl g

  words_is : from_words words ≡ Ok (version, rest) → Begins text version rest
  unfolding from_words
  words_is e = go (starts_with nat_eq words (codes "#pragma cfront")) refl (begins is_word_byte behind) refl e
    where
      go : (s : Bool) → starts_with nat_eq words (codes "#pragma cfront") ≡ s → (t : Bool) → begins is_word_byte behind ≡ t
          → (if s && not t then from_number number else Err words) ≡ Ok (version, rest) → Begins text version rest
      go false f t g h = absurd (cc)
      go true f true g h = absurd (cc)
      go true f false g h = number_is f g h

  pub first_line_is : first_line text ≡ Ok (version, rest) → Begins text version rest
  unfolding first_line
  first_line_is e = words_is e
