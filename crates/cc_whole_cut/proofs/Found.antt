-- What is found at the front is a token that stands there.
use Rattle.std.proofs.Common.{◌≡◌, ℕ, ◌+◌, ◌-◌, ◌<◌, ◌≤◌, Bool, true, false, ◌&&◌, ◌==◌, nat_eq, not, List, [], ◌∷◌, ◌++◌, codes, length, take, drop, refl, ap, sym, ◌∙◌, subst, arith, Option, Some, None, IfSome, append_assoc, lit<}
use Rattle.std.proofs.lemmas.Bool.{and_parts, and_from, false≢true, eqb-true}
use Rattle.std.proofs.lemmas.Bool.Decides.{Decides-eqb}
use Rattle.std.proofs.lemmas.List.{take_at, drop_at, length-append, length-take, take-append-drop}
use Rattle.std.proofs.lemmas.List.Sums.{prefix_len-le-length}
use Rattle.std.proofs.lemmas.Slice.Eq.{starts_is, bytes_eq-Decides}
use Rattle.std.specs.Char.{is_ascii_digit}
use Rattle.std.specs.List.{list_all, prefix_len, starts_with}
use Rattle.std.specs.Str.{bytes_eq}
use Rattle.cc_whole_tokens.specs.declared.mark.Mark.{Mark}
use Rattle.cc_whole_tokens.specs.declared.mark.Mark.TheVariants as mark
use Rattle.cc_whole_cut.specs.declared.front.Shape.{Shape}
use Rattle.cc_whole_cut.specs.declared.front.Shape.TheVariants as shape
use Rattle.cc_whole_tokens.specs.Mark.{mark_text, words, signs}
use Rattle.cc_whole_tokens.specs.Token.{begins, is_word, is_word_byte, is_numeral, is_token, spelling, ends, ends_line}
use Rattle.cc_whole_cut.specs.Front.{front, number_front, word_shape, sign_shape, reserved, sign_at, is_dash, is_suffix, line_ends, begins_shared, shared_front, token_of}
use Rattle.cc_whole_cut.proofs.Runs.{run_all, run_stops, begins_taken, none_any, find_passes}
use Rattle.cc_whole_cut.proofs.Lines.{line_is}
use Rattle.cc_whole_cut.proofs.Words.{word_ends, sign_ends}
use Rattle.cc_whole_cut.proofs.Fronts.{front_word, front_number, front_hash, front_dash, front_sign}

-- the token of this shape and length stands at the front
pub record IsFront (bs : List ℕ) (q : Shape × ℕ) : Type 0 where
  pub some : 0 < q.1
  pub within : q.1 ≤ length bs
  pub is : is_token (token_of q.0 (take q.1 bs)) ≡ true
  pub ends : ends (token_of q.0 (take q.1 bs)) (drop q.1 bs) ≡ true
  pub spelled : spelling (token_of q.0 (take q.1 bs)) ≡ take q.1 bs

some_at : {X : Type 0} (P : X → Type 0) (x y : X) → P x → Some x ≡ Some y → P y
some_at P x y p e = let k : x ≡ y = cc in subst P k p

run_some : (p : ℕ → Bool) (bs : List ℕ) → begins p bs ≡ true → 0 < prefix_len p bs
run_some p [] h = absurd (false≢true h)
run_some p (b ∷ bs) h = rw h (omega arith)

one_taken : (bs : List ℕ) (c : ℕ) → begins (λ b. b == c) bs ≡ true → bs ≡ c ∷ drop 1 bs
one_taken [] c h = absurd (false≢true h)
one_taken (b ∷ bs) c h = let e : b ≡ c = eqb-true b c h in ap (λ x. x ∷ bs) e

-- numbers
plain_number : (n : ℕ) (bs : List ℕ) → 0 < n → n ≤ length bs → is_numeral (take n bs) ≡ true → begins is_word_byte (drop n bs) ≡ false
    → IsFront bs (shape.Signed, n)
plain_number n bs some within is stop = record { some = some; within = within; is = is; ends = rw stop refl; spelled = refl }

suffixed_number : (n : ℕ) (bs : List ℕ) → 0 < n → n ≤ length bs → is_numeral (take n bs) ≡ true → is_suffix (drop n bs) ≡ true
    → IsFront bs (shape.Unsigned, n + 1)
suffixed_number n bs some within is suffix =
    let (u, stop) = and_parts (begins (λ b. b == 117) (drop n bs)) (not (begins is_word_byte (drop 1 (drop n bs)))) suffix in
    let whole : bs ≡ (take n bs ++ codes "u") ++ drop 1 (drop n bs) =
    sym (take-append-drop n bs) ∙ (ap (λ r. take n bs ++ r) (one_taken (drop n bs) 117 u) ∙ sym (append_assoc (take n bs) (codes "u") (drop 1 (drop n bs)))) in
    let len : length (take n bs ++ codes "u") ≡ n + 1 = rw (length-append, length-take) (omega arith) in
    let taken : take (n + 1) bs ≡ take n bs ++ codes "u" = ap (take (n + 1)) whole ∙ take_at (take n bs ++ codes "u") (drop 1 (drop n bs)) (n + 1) len in
    let left : drop (n + 1) bs ≡ drop 1 (drop n bs) = ap (drop (n + 1)) whole ∙ drop_at (take n bs ++ codes "u") (drop 1 (drop n bs)) (n + 1) len in
    let short : take (length (take n bs ++ codes "u") - 1) (take n bs ++ codes "u") ≡ take n bs =
    take_at (take n bs) (codes "u") (length (take n bs ++ codes "u") - 1) (rw (length-append, length-take) (omega arith)) in
    let fits : n + 1 ≤ length bs = let l : length bs ≡ length ((take n bs ++ codes "u") ++ drop 1 (drop n bs)) = ap length whole in omega (arith, l, len, length-append (take n bs ++ codes "u") (drop 1 (drop n bs))) in
    record {
      some = omega arith;
      within = fits;
      is = rw (taken, short) is;
      ends = rw left stop;
      spelled = rw (taken, short) refl;
    }

number_found : (n : ℕ) (bs : List ℕ) (q : Shape × ℕ) (x y z : Bool) → 0 < n → n ≤ length bs → is_numeral (take n bs) ≡ x → begins is_word_byte (drop n bs) ≡ y
    → is_suffix (drop n bs) ≡ z → number_front n bs ≡ Some q → IsFront bs q
number_found n bs q false y z some within is stop suffix e = let k = rw is at e in absurd (cc)
number_found n bs q true false z some within is stop suffix e =
    let k : Some (shape.Signed, n) ≡ Some q = rw (is, stop) at e in
    some_at (IsFront bs) (shape.Signed, n) q (plain_number n bs some within is stop) k
number_found n bs q true true true some within is stop suffix e =
    let k : Some (shape.Unsigned, n + 1) ≡ Some q = rw (is, stop, suffix) at e in
    some_at (IsFront bs) (shape.Unsigned, n + 1) q (suffixed_number n bs some within is suffix) k
number_found n bs q true true false some within is stop suffix e = let k = rw (is, stop, suffix) at e in absurd (cc)

-- words
word_found : (n : ℕ) (bs : List ℕ) (r : Option Mark) → 0 < n → n ≤ length bs → is_word (take n bs) ≡ true → begins is_word_byte (drop n bs) ≡ false
    → reserved (take n bs) ≡ r → IsFront bs (word_shape r, n)
word_found n bs None some within is stop e =
    let free = none_any (λ m. bytes_eq (mark_text m) (take n bs)) words e in
    record { some = some; within = within; is = rw (is, free) refl; ends = rw stop refl; spelled = refl }
word_found n bs (Some m) some within is stop e =
    let same = find_passes (λ m. bytes_eq (mark_text m) (take n bs)) words m e in
    let text : mark_text m ≡ take n bs = (bytes_eq-Decides (mark_text m) (take n bs)).0 same in
    let word : begins is_word_byte (mark_text m) ≡ true = rw text (word_begins (take n bs) is) in
    record { some = some; within = within; is = refl; ends = rw (word_ends m (drop n bs) word stop) refl; spelled = text }
  where
    word_begins : (w : List ℕ) → is_word w ≡ true → begins is_word_byte w ≡ true
    word_begins [] h = absurd (false≢true h)
    word_begins (b ∷ bs) h =
        let (first, all) = and_parts (is_word_byte b && not (is_ascii_digit b)) (list_all is_word_byte (b ∷ bs)) h in
        (and_parts (is_word_byte b) (not (is_ascii_digit b)) first).0

word_taken : (bs : List ℕ) → begins is_ascii_digit bs ≡ false → begins is_word_byte bs ≡ true → is_word (take (prefix_len is_word_byte bs) bs) ≡ true
word_taken bs d w =
    and_from (begins (λ b. is_word_byte b && not (is_ascii_digit b)) (take (prefix_len is_word_byte bs) bs)) (list_all is_word_byte (take (prefix_len is_word_byte bs) bs))
    (begins_taken is_word_byte (λ b. is_word_byte b && not (is_ascii_digit b)) bs w (first bs d w)) (run_all is_word_byte bs)
  where
    first : (bs : List ℕ) → begins is_ascii_digit bs ≡ false → begins is_word_byte bs ≡ true → begins (λ b. is_word_byte b && not (is_ascii_digit b)) bs ≡ true
    first [] d w = w
    first (b ∷ bs) d w = rw (w, d) refl

-- signs
mark_some : (m : Mark) → 0 < length (mark_text m)
mark_some mark.Less = lit< tt
mark_some m = lit< tt

sign_stands : (bs : List ℕ) (r : Option Mark) (q : Shape × ℕ) → is_dash bs ≡ false → sign_at bs ≡ r → sign_shape r ≡ Some q → IsFront bs q
sign_stands bs None q dash e f = absurd (cc)
sign_stands bs (Some m) q dash e f =
    let passes = find_passes (λ m. starts_with nat_eq bs (mark_text m)) signs m e in
    let parts : bs ≡ mark_text m ++ drop (length (mark_text m)) bs = (starts_is Decides-eqb bs (mark_text m) (starts_with nat_eq bs (mark_text m)) refl).0 passes in
    let taken : take (length (mark_text m)) bs ≡ mark_text m =
    ap (take (length (mark_text m))) parts ∙ take_at (mark_text m) (drop (length (mark_text m)) bs) (length (mark_text m)) refl in
    let stop = sign_ends m (drop (length (mark_text m)) bs) (subst (λ z. sign_at z ≡ Some m) parts e) (subst (λ z. is_dash z ≡ false) parts dash) in
    let fits : length (mark_text m) ≤ length bs = let l = ap length parts in omega (arith, l, length-append (mark_text m) (drop (length (mark_text m)) bs)) in
    some_at (IsFront bs) (shape.Mark m, length (mark_text m)) q
    (record { some = mark_some m; within = fits; is = refl; ends = rw stop refl; spelled = sym taken }) f

dash_stands : (bs : List ℕ) → is_dash bs ≡ true → IsFront bs (shape.Dash, 1)
dash_stands bs h =
    let (one, digit) = and_parts (begins (λ b. b == 45) bs) (begins is_ascii_digit (drop 1 bs)) h in
    let whole = one_taken bs 45 one in
    let taken : take 1 bs ≡ 45 ∷ [] = ap (take 1) whole in
    let fits : 1 ≤ length bs = let l = ap length whole in omega (arith, l) in
    record { some = omega arith; within = fits; is = refl; ends = digit; spelled = sym taken }

shared_parts : (bs : List ℕ) → begins_shared bs ≡ true → bs ≡ codes "#pragma cf_shared" ++ drop 17 bs
shared_parts bs h = (starts_is Decides-eqb bs (codes "#pragma cf_shared") (starts_with nat_eq bs (codes "#pragma cf_shared")) refl).0 h

pub shared_within : (bs : List ℕ) (r : Bool) → r ≡ begins_shared bs → r ≡ true → 17 ≤ length bs
shared_within bs r is h =
    let l = ap length (shared_parts bs (sym is ∙ h)) in
    omega (arith, l, length-append (codes "#pragma cf_shared") (drop 17 bs))

shared_stands : (bs : List ℕ) (q : Shape × ℕ) (x y : Bool) → begins_shared bs ≡ x → line_ends (drop 17 bs) ≡ y → shared_front bs ≡ Some q → IsFront bs q
shared_stands bs q false y s l e = let k = rw s at e in absurd (cc)
shared_stands bs q true false s l e = let k = rw (s, l) at e in absurd (cc)
shared_stands bs q true true s l e =
    let k : Some (shape.Shared, 17) ≡ Some q = rw (s, l) at e in
    let text = codes "#pragma cf_shared" in
    let parts = shared_parts bs s in
    let taken : take 17 bs ≡ text = ap (take 17) parts ∙ take_at text (drop 17 bs) 17 refl in
    let fits = shared_within bs true (sym s) refl in
    let stop : ends_line (drop 17 bs) ≡ true = sym (line_is (drop 17 bs)) ∙ l in
    some_at (IsFront bs) (shape.Shared, 17) q (record { some = omega arith; within = fits; is = refl; ends = stop; spelled = sym taken }) k

found_by : (bs : List ℕ) (q : Shape × ℕ) (x y z w : Bool) → begins is_ascii_digit bs ≡ x → begins is_word_byte bs ≡ y → begins (λ b. b == 35) bs ≡ z → is_dash bs ≡ w
    → front bs ≡ Some q → IsFront bs q
found_by bs q true y z w d p s h e =
    number_found (prefix_len is_ascii_digit bs) bs q (is_numeral (take (prefix_len is_ascii_digit bs) bs)) (begins is_word_byte (drop (prefix_len is_ascii_digit bs) bs))
    (is_suffix (drop (prefix_len is_ascii_digit bs) bs)) (run_some is_ascii_digit bs d) (prefix_len-le-length is_ascii_digit bs) refl refl refl
    (sym (front_number bs (prefix_len is_ascii_digit bs) d refl) ∙ e)
found_by bs q false true z w d p s h e =
    some_at (IsFront bs) (word_shape (reserved (take (prefix_len is_word_byte bs) bs)), prefix_len is_word_byte bs) q
    (word_found (prefix_len is_word_byte bs) bs (reserved (take (prefix_len is_word_byte bs) bs)) (run_some is_word_byte bs p) (prefix_len-le-length is_word_byte bs)
    (word_taken bs d p) (run_stops is_word_byte bs) refl)
    (sym (front_word bs (prefix_len is_word_byte bs) d p refl) ∙ e)
found_by bs q false false true w d p s h e =
    shared_stands bs q (begins_shared bs) (line_ends (drop 17 bs)) refl refl (sym (front_hash bs d p s) ∙ e)
found_by bs q false false false true d p s h e = some_at (IsFront bs) (shape.Dash, 1) q (dash_stands bs h) (sym (front_dash bs d p s h) ∙ e)
found_by bs q false false false false d p s h e = sign_stands bs (sign_at bs) q h refl (sym (front_sign bs d p s h) ∙ e)

pub found : (bs : List ℕ) (q : Shape × ℕ) → front bs ≡ Some q → IsFront bs q
found bs q e = found_by bs q (begins is_ascii_digit bs) (begins is_word_byte bs) (begins (λ b. b == 35) bs) (is_dash bs) refl refl refl refl e

pub within_of : (bs : List ℕ) (r : Option (Shape × ℕ)) → r ≡ front bs → IfSome r (λ q. q.1 ≤ length bs)
within_of bs None e = tt
within_of bs (Some q) e = (found bs q (sym e)).within
