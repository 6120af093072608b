-- The token that is found at the front is the one that stands there.
use Rattle.std.proofs.Common.{◌≡◌, ℕ, ◌+◌, ◌-◌, Bool, true, false, ◌&&◌, not, List, [], ◌∷◌, ◌++◌, codes, length, take, drop, refl, ap, sym, ◌∙◌, arith, Some, append_assoc, ◌==◌}
use Rattle.std.proofs.lemmas.Bool.{and_parts, false≢true, true≢false, not-true}
use Rattle.std.proofs.lemmas.Bool.Decides.{nat_tests}
use Rattle.std.proofs.lemmas.List.{take_at, drop_at, length-append}
use Rattle.std.specs.Char.{is_ascii_digit}
use Rattle.std.specs.List.{list_all, prefix_len}
use Rattle.std.specs.Str.{bytes_eq}
use Rattle.cc_whole_tokens.specs.declared.mark.Mark.{Mark}
use Rattle.cc_whole_tokens.specs.declared.token.Token.{Token}
use Rattle.cc_whole_tokens.specs.declared.token.Token.TheVariants as token
use Rattle.cc_whole_cut.specs.declared.front.Shape.{Shape}
use Rattle.cc_whole_cut.specs.declared.front.Shape.TheVariants as shape
use Rattle.cc_whole_tokens.specs.Mark.{mark_text, words}
use Rattle.cc_whole_tokens.specs.Token.{begins, is_word, is_word_byte, is_numeral, is_plain, is_token, is_reserved, spelling, goes_on, ends, ends_line}
use Rattle.cc_whole_cut.specs.Front.{front, word_front, number_front, word_shape, sign_shape, reserved, sign_at, is_dash, is_suffix, line_ends, begins_shared, shared_front, token_of}
use Rattle.cc_whole_cut.proofs.Runs.{run_is, find_none}
use Rattle.cc_whole_cut.proofs.Lines.{line_is}
use Rattle.cc_whole_cut.proofs.Words.{word_mark, word_stops, sign_found, sign_starts}

pub front_word : (bs : List ℕ) (n : ℕ) → begins is_ascii_digit bs ≡ false → begins is_word_byte bs ≡ true → n ≡ prefix_len is_word_byte bs
    → front bs ≡ word_front n bs
unfolding front
front_word bs n d w e = rw (e, d, w) refl

pub front_number : (bs : List ℕ) (n : ℕ) → begins is_ascii_digit bs ≡ true → n ≡ prefix_len is_ascii_digit bs → front bs ≡ number_front n bs
unfolding front
front_number bs n d e = rw (e, d) refl

pub front_hash : (bs : List ℕ) → begins is_ascii_digit bs ≡ false → begins is_word_byte bs ≡ false → begins (λ b. b == 35) bs ≡ true → front bs ≡ shared_front bs
unfolding front
front_hash bs d w h = rw (d, w, h) refl

pub front_dash : (bs : List ℕ) → begins is_ascii_digit bs ≡ false → begins is_word_byte bs ≡ false → begins (λ b. b == 35) bs ≡ false → is_dash bs ≡ true
    → front bs ≡ Some (shape.Dash, 1)
unfolding front
front_dash bs d w h e = rw (d, w, h, e) refl

pub front_sign : (bs : List ℕ) → begins is_ascii_digit bs ≡ false → begins is_word_byte bs ≡ false → begins (λ b. b == 35) bs ≡ false → is_dash bs ≡ false
    → front bs ≡ sign_shape (sign_at bs)
unfolding front
front_sign bs d w h e = rw (d, w, h, e) refl

word_is : (w rest : List ℕ) → is_word w ≡ true → begins is_word_byte rest ≡ false → front (w ++ rest) ≡ Some (word_shape (reserved w), length w)
word_is [] rest h k = absurd (false≢true h)
word_is (b ∷ bs) rest h k =
    let (first, all) = and_parts (is_word_byte b && not (is_ascii_digit b)) (list_all is_word_byte (b ∷ bs)) h in
    let (word, other) = and_parts (is_word_byte b) (not (is_ascii_digit b)) first in
    let digit = not-true (is_ascii_digit b) other in
    let len = run_is is_word_byte (b ∷ bs) rest all k in
    let taken = take_at (b ∷ bs) rest (length (b ∷ bs)) refl in
    front_word ((b ∷ bs) ++ rest) (length (b ∷ bs)) digit word (sym len) ∙ ap (λ v. Some (word_shape (reserved v), length (b ∷ bs))) taken

digit_is_word : (b : ℕ) → is_ascii_digit b ≡ true → is_word_byte b ≡ true
digit_is_word b h = grind (arith, nat_tests)

no_digit : (bs : List ℕ) → begins is_word_byte bs ≡ false → begins is_ascii_digit bs ≡ false
no_digit [] h = refl
no_digit (b ∷ bs) h = no_digit_by b (is_ascii_digit b) refl h
  where
    no_digit_by : (b : ℕ) (x : Bool) → is_ascii_digit b ≡ x → is_word_byte b ≡ false → x ≡ false
    no_digit_by b true e k = absurd (true≢false (sym (digit_is_word b e) ∙ k))
    no_digit_by b false e k = refl

number_signed : (n : ℕ) (bs ds rest : List ℕ) → take n bs ≡ ds → drop n bs ≡ rest → is_numeral ds ≡ true → begins is_word_byte rest ≡ false
    → number_front n bs ≡ Some (shape.Signed, n)
number_signed n bs ds rest t d is stop = rw (t, d, is, stop) refl

number_unsigned : (n : ℕ) (bs ds rest : List ℕ) → take n bs ≡ ds → drop n bs ≡ rest → is_numeral ds ≡ true → begins is_word_byte rest ≡ true → is_suffix rest ≡ true
    → number_front n bs ≡ Some (shape.Unsigned, n + 1)
number_unsigned n bs ds rest t d is stop suffix = rw (t, d, is, stop, suffix) refl

numeral_begins : (ds rest : List ℕ) → is_numeral ds ≡ true → begins is_ascii_digit (ds ++ rest) ≡ true
numeral_begins [] rest h = absurd (false≢true h)
numeral_begins (b ∷ bs) rest h = (and_parts (is_ascii_digit b) (list_all is_ascii_digit (b ∷ bs) && is_plain (b ∷ bs)) h).0

numeral_digits : (ds : List ℕ) → is_numeral ds ≡ true → list_all is_ascii_digit ds ≡ true
numeral_digits ds h =
    let (first, more) = and_parts (begins is_ascii_digit ds) (list_all is_ascii_digit ds && is_plain ds) h in
    (and_parts (list_all is_ascii_digit ds) (is_plain ds) more).0

signed_is : (ds rest : List ℕ) → is_numeral ds ≡ true → begins is_word_byte rest ≡ false → front (ds ++ rest) ≡ Some (shape.Signed, length ds)
signed_is ds rest is stop =
    let len = run_is is_ascii_digit ds rest (numeral_digits ds is) (no_digit rest stop) in
    front_number (ds ++ rest) (length ds) (numeral_begins ds rest is) (sym len)
    ∙ number_signed (length ds) (ds ++ rest) ds rest (take_at ds rest (length ds) refl) (drop_at ds rest (length ds) refl) is stop

unsigned_is : (ds rest : List ℕ) → is_numeral ds ≡ true → begins is_word_byte rest ≡ false → front (ds ++ (117 ∷ rest)) ≡ Some (shape.Unsigned, length ds + 1)
unsigned_is ds rest is stop =
    let len = run_is is_ascii_digit ds (117 ∷ rest) (numeral_digits ds is) refl in
    let suffix : is_suffix (117 ∷ rest) ≡ true = rw stop refl in
    front_number (ds ++ (117 ∷ rest)) (length ds) (numeral_begins ds (117 ∷ rest) is) (sym len)
    ∙ number_unsigned (length ds) (ds ++ (117 ∷ rest)) ds (117 ∷ rest) (take_at ds (117 ∷ rest) (length ds) refl)
    (drop_at ds (117 ∷ rest) (length ds) refl) is refl suffix

abbrev pub shape_of : Token → Shape
shape_of (token.Mark m) = shape.Mark m
shape_of token.Dash = shape.Dash
shape_of token.Shared = shape.Shared
shape_of (token.Name name) = shape.Name
shape_of (token.Signed digits) = shape.Signed
shape_of (token.Unsigned digits) = shape.Unsigned
shape_of (token.Text bytes) = shape.Dash

mark_is : (m : Mark) (rest : List ℕ) (t : Bool) → begins is_word_byte (mark_text m) ≡ t → goes_on m rest ≡ false
    → front (mark_text m ++ rest) ≡ Some (shape.Mark m, length (mark_text m))
mark_is m rest true w h =
    word_is (mark_text m) rest (word_mark m w).is (word_stops m rest w h) ∙ ap (λ r. Some (word_shape r, length (mark_text m))) (word_mark m w).found
mark_is m rest false w h =
    let s = sign_starts m rest w h in
    front_sign (mark_text m ++ rest) s.digit s.word s.hash s.dash ∙ ap sign_shape (sign_found m rest w h)

dash_is : (rest : List ℕ) → begins is_ascii_digit rest ≡ true → front (45 ∷ rest) ≡ Some (shape.Dash, 1)
dash_is rest h = front_dash (45 ∷ rest) refl refl refl h

name_is : (w rest : List ℕ) → is_word w ≡ true → is_reserved w ≡ false → begins is_word_byte rest ≡ false → front (w ++ rest) ≡ Some (shape.Name, length w)
name_is w rest is free stop = word_is w rest is stop ∙ ap (λ r. Some (word_shape r, length w)) (find_none (λ m. bytes_eq (mark_text m) w) words free)

shared_by : (bs rest : List ℕ) → begins_shared bs ≡ true → drop 17 bs ≡ rest → line_ends rest ≡ true → shared_front bs ≡ Some (shape.Shared, 17)
shared_by bs rest s d e = rw (s, d, e) refl

shared_is : (rest : List ℕ) → ends_line rest ≡ true → front (codes "#pragma cf_shared" ++ rest) ≡ Some (shape.Shared, 17)
shared_is rest h =
    let bs = codes "#pragma cf_shared" ++ rest in
    front_hash bs refl refl refl ∙ shared_by bs rest refl refl (line_is rest ∙ h)

-- a token that stands at the front is found there
pub complete : (t : Token) (rest : List ℕ) → is_token t ≡ true → ends t rest ≡ true → front (spelling t ++ rest) ≡ Some (shape_of t, length (spelling t))
complete (token.Mark m) rest is e = mark_is m rest (begins is_word_byte (mark_text m)) refl (not-true (goes_on m rest) e)
complete token.Dash rest is e = dash_is rest e
complete token.Shared rest is e = shared_is rest e
complete (token.Text bytes) rest is e = absurd (false≢true is)
complete (token.Name name) rest is e =
    let (word, free) = and_parts (is_word name) (not (is_reserved name)) is in
    name_is name rest word (not-true (is_reserved name) free) (not-true (begins is_word_byte rest) e)
complete (token.Signed digits) rest is e = signed_is digits rest is (not-true (begins is_word_byte rest) e)
complete (token.Unsigned digits) rest is e =
    let len : length digits + 1 ≡ length (digits ++ codes "u") = rw length-append refl in
    ap front (append_assoc digits (codes "u") rest) ∙ (unsigned_is digits rest is (not-true (begins is_word_byte rest) e) ∙ ap (λ n. Some (shape.Unsigned, n)) len)

pub of_shape : (t : Token) → is_token t ≡ true → token_of (shape_of t) (spelling t) ≡ t
of_shape (token.Mark m) is = refl
of_shape token.Dash is = refl
of_shape token.Shared is = refl
of_shape (token.Text bytes) is = absurd (false≢true is)
of_shape (token.Name name) is = refl
of_shape (token.Signed digits) is = refl
of_shape (token.Unsigned digits) is =
    let len : length digits ≡ length (digits ++ codes "u") - 1 = rw length-append (omega arith) in
    ap token.Unsigned (take_at digits (codes "u") (length (digits ++ codes "u") - 1) len)
