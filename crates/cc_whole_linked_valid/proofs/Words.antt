-- The longer names that linking gives: each has a digit, so it is no word that a rule names.
use Rattle.std.proofs.Common.{◌≡◌, ℕ, zero, suc, ◌%◌, ◌/◌, ◌==◌, Bool, true, false, not, ◌&&◌, ◌||◌, cond, List, [], ◌∷◌, ◌++◌, None, map, refl, ap, sym, ◌∙◌, inl, inr, arith}
use Rattle.std.specs.Prelude.{bytes_eq, codes, decimal}
use Rattle.std.specs.Char.{is_ascii_digit, is_ascii_uppercase, is_ascii_lowercase, is_ascii_alphanumeric}
use Rattle.std.specs.Fmt.{digit_glyph, digits_onto, digits}
use Rattle.std.specs.List.{list_any, list_all}
use Rattle.std.proofs.lemmas.Bool.{and_parts, and_from, or_left, or_right, true≢false}
use Rattle.std.proofs.lemmas.Bool.Decides.{nat_tests}
use Rattle.std.proofs.lemmas.List.Folds.{list_any-append, list_all-append}
use Rattle.std.proofs.lemmas.Slice.Eq.{bytes_eq-Decides}
use Rattle.cc_whole_tokens.specs.declared.mark.Mark.{Mark}
use Rattle.cc_whole_tokens.specs.Mark.{mark_text, words}
use Rattle.cc_whole_tokens.specs.Token.{is_word_byte, begins, is_word, is_reserved, is_name}
use Rattle.cc_whole.specs.Known.{is_in, is_helper, library, is_library, Meant}
use Rattle.cc_whole.specs.Valid.{own_type, has_type}
use Rattle.cc_whole_link.specs.Placed.{longer, static_renaming}
use Rattle.cc_whole_linked_valid.proofs.Names.{Names, Mild, mild_itself, Goes}

-- ---- digits

glyph_is_digit : (n : ℕ) → is_ascii_digit (digit_glyph false (n % 10)) ≡ true
glyph_is_digit n = grind (arith, nat_tests)

abbrev pub has_digit : List ℕ → Bool
has_digit = list_any is_ascii_digit

glyph_any : (n : ℕ) (acc : List ℕ) → has_digit (digit_glyph false (n % 10) ∷ acc) ≡ true
glyph_any n acc = or_left (is_ascii_digit (digit_glyph false (n % 10))) (has_digit acc) (glyph_is_digit n)

glyph_all : (n : ℕ) (acc : List ℕ) → list_all is_ascii_digit acc ≡ true → list_all is_ascii_digit (digit_glyph false (n % 10) ∷ acc) ≡ true
glyph_all n acc h = and_from (is_ascii_digit (digit_glyph false (n % 10))) (list_all is_ascii_digit acc) (glyph_is_digit n) h

onto_any : (k n : ℕ) (acc : List ℕ) → has_digit acc ≡ true → has_digit (digits_onto k 10 false n acc) ≡ true
onto_any zero n acc h = h
onto_any (suc k) n acc h = go (onto_any k (n / 10) (digit_glyph false (n % 10) ∷ acc) (glyph_any n acc)) (n / 10 == 0)
  where
    go : has_digit (digits_onto k 10 false (n / 10) (digit_glyph false (n % 10) ∷ acc)) ≡ true → (b : Bool)
        → has_digit (cond b (digit_glyph false (n % 10) ∷ acc) (digits_onto k 10 false (n / 10) (digit_glyph false (n % 10) ∷ acc))) ≡ true
    go again true = glyph_any n acc
    go again false = again

onto_all : (k n : ℕ) (acc : List ℕ) → list_all is_ascii_digit acc ≡ true → list_all is_ascii_digit (digits_onto k 10 false n acc) ≡ true
onto_all zero n acc h = h
onto_all (suc k) n acc h = go (onto_all k (n / 10) (digit_glyph false (n % 10) ∷ acc) (glyph_all n acc h)) (n / 10 == 0)
  where
    go : list_all is_ascii_digit (digits_onto k 10 false (n / 10) (digit_glyph false (n % 10) ∷ acc)) ≡ true → (b : Bool)
        → list_all is_ascii_digit (cond b (digit_glyph false (n % 10) ∷ acc) (digits_onto k 10 false (n / 10) (digit_glyph false (n % 10) ∷ acc))) ≡ true
    go again true = glyph_all n acc h
    go again false = again

some_digit : (k n : ℕ) → has_digit (digits_onto (suc k) 10 false n []) ≡ true
some_digit k n = go (n / 10 == 0)
  where
    go : (b : Bool) → has_digit (cond b (digit_glyph false (n % 10) ∷ []) (digits_onto k 10 false (n / 10) (digit_glyph false (n % 10) ∷ []))) ≡ true
    go true = glyph_any n []
    go false = onto_any k (n / 10) (digit_glyph false (n % 10) ∷ []) (glyph_any n [])

decimal_any : (n : ℕ) → has_digit (decimal n) ≡ true
unfolding digits
decimal_any n = some_digit 63 n

decimal_all : (n : ℕ) → list_all is_ascii_digit (decimal n) ≡ true
unfolding digits
decimal_all n = onto_all 64 n [] refl

pub longer_digit : (unit : ℕ) (x : List ℕ) → has_digit (longer unit x) ≡ true
longer_digit unit x =
    list_any-append is_ascii_digit x (codes "__u" ++ decimal unit)
    ∙ or_right (has_digit x) (has_digit (codes "__u" ++ decimal unit))
    (list_any-append is_ascii_digit (codes "__u") (decimal unit) ∙ or_right (has_digit (codes "__u")) (has_digit (decimal unit)) (decimal_any unit))

-- ---- no word without digits

module _ (y : List ℕ) (h : has_digit y ≡ true) where
  pub other_word : (w : List ℕ) → has_digit w ≡ false → bytes_eq y w ≡ false
  other_word w e = go (bytes_eq y w) refl
    where
      go : (b : Bool) → bytes_eq y w ≡ b → b ≡ false
      go false is = refl
      go true is = absurd (true≢false (sym h ∙ ap has_digit ((bytes_eq-Decides y w).0 is) ∙ e))

  pub word_other : (w : List ℕ) → has_digit w ≡ false → bytes_eq w y ≡ false
  word_other w e = go (bytes_eq w y) refl
    where
      go : (b : Bool) → bytes_eq w y ≡ b → b ≡ false
      go false is = refl
      go true is = absurd (true≢false (sym h ∙ ap has_digit (sym ((bytes_eq-Decides w y).0 is)) ∙ e))

  pub none_of : (ws : Names) → list_all (λ w. not (has_digit w)) ws ≡ true → is_in ws y ≡ false
  none_of [] e = refl
  none_of (w ∷ ws) e =
      let parts = and_parts (not (has_digit w)) (list_all (λ w. not (has_digit w)) ws) e in
      ap (λ b. b || is_in ws y) (word_other w (no (has_digit w) parts.0)) ∙ none_of ws parts.1
    where
      no : (b : Bool) → not b ≡ true → b ≡ false
      no true e = absurd (true≢false (sym e))
      no false e = refl

  pub no_own_type : own_type y ≡ None
  no_own_type =
      rw (
        other_word (codes "main") refl,
        other_word (codes "__main") refl,
        other_word (codes "__hci") refl,
        other_word (codes "__sti") refl,
        other_word (codes "putchar") refl,
        other_word (codes "getchar") refl,
        other_word (codes "exit") refl,
        other_word (codes "malloc") refl,
        other_word (codes "free") refl,
        other_word (codes "atexit") refl,
      ) refl

  pub no_library : is_library y ≡ false
  no_library = none_of library refl

abbrev texts : List Mark → Names
texts ms = map mark_text ms

reserved_as : (ms : List Mark) (y : List ℕ) → list_any (λ m. bytes_eq (mark_text m) y) ms ≡ is_in (texts ms) y
reserved_as [] y = refl
reserved_as (m ∷ ms) y = ap (λ b. bytes_eq (mark_text m) y || b) (reserved_as ms y)

-- ---- the longer name of a name is a name

digit_byte : (d : ℕ) → is_ascii_digit d ≡ true → is_word_byte d ≡ true
digit_byte d e =
    or_left (is_ascii_alphanumeric d) (d == 95)
    (or_left (is_ascii_digit d || is_ascii_uppercase d) (is_ascii_lowercase d) (or_left (is_ascii_digit d) (is_ascii_uppercase d) e))

digits_are_bytes : (ds : List ℕ) → list_all is_ascii_digit ds ≡ true → list_all is_word_byte ds ≡ true
digits_are_bytes [] e = refl
digits_are_bytes (d ∷ ds) e =
    let parts = and_parts (is_ascii_digit d) (list_all is_ascii_digit ds) e in
    and_from (is_word_byte d) (list_all is_word_byte ds) (digit_byte d parts.0) (digits_are_bytes ds parts.1)

begins_more : (test : ℕ → Bool) (x ys : List ℕ) → begins test x ≡ true → begins test (x ++ ys) ≡ true
begins_more test [] ys e = absurd (true≢false (sym e))
begins_more test (b ∷ x) ys e = e

pub longer_name : (unit : ℕ) (x : List ℕ) → is_name x ≡ true → is_name (longer unit x) ≡ true
longer_name unit x e =
    let parts = and_parts (is_word x) (not (is_reserved x)) e in
    let word = and_parts (begins (λ b. is_word_byte b && not (is_ascii_digit b)) x) (list_all is_word_byte x) parts.0 in
    let tail : list_all is_word_byte (codes "__u" ++ decimal unit) ≡ true =
    list_all-append is_word_byte (codes "__u") (decimal unit) ∙ digits_are_bytes (decimal unit) (decimal_all unit) in
    and_from (is_word (longer unit x)) (not (is_reserved (longer unit x)))
    (and_from (begins (λ b. is_word_byte b && not (is_ascii_digit b)) (longer unit x)) (list_all is_word_byte (longer unit x))
    (begins_more (λ b. is_word_byte b && not (is_ascii_digit b)) x (codes "__u" ++ decimal unit) word.0)
    (list_all-append is_word_byte x (codes "__u" ++ decimal unit) ∙ and_from (list_all is_word_byte x) (list_all is_word_byte (codes "__u" ++ decimal unit)) word.1 tail))
    (ap not (reserved_as words (longer unit x) ∙ none_of (longer unit x) (longer_digit unit x) (texts words) refl))

-- ---- the renaming of a unit

helper_stays : (unit : ℕ) (x : List ℕ) → is_helper (longer unit x) ≡ is_helper x
helper_stays unit [] = refl
helper_stays unit (a ∷ []) = refl
helper_stays unit (a ∷ b ∷ []) = refl
helper_stays unit (a ∷ b ∷ c ∷ x) = refl

pub longer_mild : (unit : ℕ) (x : List ℕ) → Mild x (longer unit x)
longer_mild unit x =
    let h = longer_digit unit x in
    record {
      main = λ e. ap not (other_word (longer unit x) h (codes "main") refl);
      helper = helper_stays unit x;
      atexit = λ e. ap not (other_word (longer unit x) h (codes "atexit") refl);
    }

among_longer : (unit : ℕ) (names : Names) (x : List ℕ) → is_in names x ≡ true → is_in (map (longer unit) names) (longer unit x) ≡ true
among_longer unit [] x e = absurd (true≢false (sym e))
among_longer unit (n ∷ names) x e = go (among_longer unit names x) (bytes_eq n x) refl e
  where
    go : (is_in names x ≡ true → is_in (map (longer unit) names) (longer unit x) ≡ true) → (b : Bool) → bytes_eq n x ≡ b → (b || is_in names x) ≡ true
        → (bytes_eq (longer unit n) (longer unit x) || is_in (map (longer unit) names) (longer unit x)) ≡ true
    go again true is h =
        or_left (bytes_eq (longer unit n) (longer unit x)) (is_in (map (longer unit) names) (longer unit x))
        ((bytes_eq-Decides (longer unit n) (longer unit x)).1 (ap (longer unit) ((bytes_eq-Decides n x).0 is)))
    go again false is h = or_right (bytes_eq (longer unit n) (longer unit x)) (is_in (map (longer unit) names) (longer unit x)) (again h)

module _ (unit : ℕ) (names : Names) where
  -- what holds of a name that stays, and of its longer name where it gets one
  pub either_way : (x : List ℕ) (P : List ℕ → Type 0) → P x → (is_in names x ≡ true → P (longer unit x)) → P (static_renaming unit names x)
  either_way x P a b = go (is_in names x) refl
    where
      go : (c : Bool) → is_in names x ≡ c → P (cond c (longer unit x) x)
      go true is = b is
      go false is = a

  pub unit_mild : (x : List ℕ) → Mild x (static_renaming unit names x)
  unit_mild x = either_way x (Mild x) (mild_itself x) (λ is. longer_mild unit x)

  pub unit_goes : (x : List ℕ) → Goes (map (longer unit) names) x (static_renaming unit names x)
  unit_goes x = either_way x (Goes (map (longer unit) names) x) (inl refl) (λ is. inr (among_longer unit names x is))

  pub unit_name : (x : List ℕ) → is_name x ≡ true → is_name (static_renaming unit names x) ≡ true
  unit_name x e = either_way x (λ y. is_name y ≡ true) e (λ is. longer_name unit x e)

  pub unit_type : (x : List ℕ) (m : Meant) → has_type (own_type x) m ≡ true → has_type (own_type (static_renaming unit names x)) m ≡ true
  unit_type x m e =
      either_way x (λ y. has_type (own_type y) m ≡ true) e (λ is. ap (λ o. has_type o m) (no_own_type (longer unit x) (longer_digit unit x)))

  pub unit_library : (x : List ℕ) → is_library x ≡ false → is_library (static_renaming unit names x) ≡ false
  unit_library x e = either_way x (λ y. is_library y ≡ false) e (λ is. no_library (longer unit x) (longer_digit unit x))

  pub static_digit : (x : List ℕ) → is_in names x ≡ true → has_digit (static_renaming unit names x) ≡ true
  static_digit x is = ap (λ c. has_digit (cond c (longer unit x) x)) is ∙ longer_digit unit x
