-- Signs and words at the front of a text.
use Rattle.std.proofs.Common.{◌≡◌, ℕ, Bool, true, false, ◌&&◌, ◌||◌, ◌==◌, nat_eq, List, [], ◌∷◌, ◌++◌, refl, arith, Some}
use Rattle.std.proofs.lemmas.Bool.{and_right, false≢true, true≢false}
use Rattle.std.proofs.lemmas.Bool.Decides.{nat_tests}
use Rattle.std.specs.Char.{is_ascii_digit}
use Rattle.cc_whole_tokens.specs.declared.mark.Mark.{Mark}
use Rattle.cc_whole_tokens.specs.declared.mark.Mark.TheVariants as mark
use Rattle.cc_whole_tokens.specs.Mark.{mark_text}
use Rattle.cc_whole_tokens.specs.Token.{begins, is_word, is_word_byte, goes_on}
use Rattle.cc_whole_cut.specs.Front.{reserved, sign_at, is_dash}

-- a word that is reserved is found as itself
pub record WordMark (m : Mark) : Type 0 where
  pub is : is_word (mark_text m) ≡ true
  pub found : reserved (mark_text m) ≡ Some m

pub word_mark : (m : Mark) → begins is_word_byte (mark_text m) ≡ true → WordMark m
word_mark mark.Break e = record { is = refl; found = refl }
word_mark mark.Case e = record { is = refl; found = refl }
word_mark mark.Char e = record { is = refl; found = refl }
word_mark mark.Continue e = record { is = refl; found = refl }
word_mark mark.Default e = record { is = refl; found = refl }
word_mark mark.Else e = record { is = refl; found = refl }
word_mark mark.Extern e = record { is = refl; found = refl }
word_mark mark.For e = record { is = refl; found = refl }
word_mark mark.If e = record { is = refl; found = refl }
word_mark mark.Int e = record { is = refl; found = refl }
word_mark mark.Return e = record { is = refl; found = refl }
word_mark mark.Short e = record { is = refl; found = refl }
word_mark mark.Static e = record { is = refl; found = refl }
word_mark mark.Struct e = record { is = refl; found = refl }
word_mark mark.Switch e = record { is = refl; found = refl }
word_mark mark.Unsigned e = record { is = refl; found = refl }
word_mark mark.Void e = record { is = refl; found = refl }
word_mark mark.Pair e = record { is = refl; found = refl }
word_mark mark.FunctionPointer e = record { is = refl; found = refl }
word_mark m e = absurd (false≢true e)

-- a word ends where no byte of a word follows
pub word_ends : (m : Mark) (rest : List ℕ) → begins is_word_byte (mark_text m) ≡ true → begins is_word_byte rest ≡ false → goes_on m rest ≡ false
word_ends mark.Minus rest e h = absurd (false≢true e)
word_ends mark.Less rest e h = absurd (false≢true e)
word_ends mark.Greater rest e h = absurd (false≢true e)
word_ends mark.Assign rest e h = absurd (false≢true e)
word_ends mark.Not rest e h = absurd (false≢true e)
word_ends m rest e h = and_right (begins is_word_byte (mark_text m)) (begins is_word_byte rest) h

right_of : (x y : Bool) → x ≡ true → (x && y) ≡ false → y ≡ false
right_of true y e h = h
right_of false y e h = absurd (false≢true e)

-- a word that goes on is one with a byte of a word behind it
pub word_stops : (m : Mark) (rest : List ℕ) → begins is_word_byte (mark_text m) ≡ true → goes_on m rest ≡ false → begins is_word_byte rest ≡ false
word_stops mark.Minus rest e h = absurd (false≢true e)
word_stops mark.Less rest e h = absurd (false≢true e)
word_stops mark.Greater rest e h = absurd (false≢true e)
word_stops mark.Assign rest e h = absurd (false≢true e)
word_stops mark.Not rest e h = absurd (false≢true e)
word_stops m rest e h = right_of (begins is_word_byte (mark_text m)) (begins is_word_byte rest) e h

or_false : (x y : Bool) → (x || y) ≡ false → (x ≡ false) × (y ≡ false)
or_false true y h = absurd (true≢false h)
or_false false y h = (refl, h)

flipped : (a b : ℕ) → (b == a) ≡ false → nat_eq a b ≡ false
flipped a b h = grind (arith, nat_tests)

-- a sign that does not go on is found as itself
pub sign_found : (m : Mark) (rest : List ℕ) → begins is_word_byte (mark_text m) ≡ false → goes_on m rest ≡ false → sign_at (mark_text m ++ rest) ≡ Some m
sign_found mark.Less [] e h = refl
sign_found mark.Less (b ∷ bs) e h =
    let (x, y) = or_false (b == 60) (b == 61) h in
    rw (flipped 60 b x, flipped 61 b y) refl
sign_found mark.Greater [] e h = refl
sign_found mark.Greater (b ∷ bs) e h =
    let (x, y) = or_false (b == 61) (b == 62) h in
    rw (flipped 62 b y, flipped 61 b x) refl
sign_found mark.Assign [] e h = refl
sign_found mark.Assign (b ∷ bs) e h = rw (flipped 61 b h) refl
sign_found mark.Not [] e h = refl
sign_found mark.Not (b ∷ bs) e h = rw (flipped 61 b h) refl
sign_found mark.Break rest e h = absurd (true≢false e)
sign_found mark.Case rest e h = absurd (true≢false e)
sign_found mark.Char rest e h = absurd (true≢false e)
sign_found mark.Continue rest e h = absurd (true≢false e)
sign_found mark.Default rest e h = absurd (true≢false e)
sign_found mark.Else rest e h = absurd (true≢false e)
sign_found mark.Extern rest e h = absurd (true≢false e)
sign_found mark.For rest e h = absurd (true≢false e)
sign_found mark.If rest e h = absurd (true≢false e)
sign_found mark.Int rest e h = absurd (true≢false e)
sign_found mark.Return rest e h = absurd (true≢false e)
sign_found mark.Short rest e h = absurd (true≢false e)
sign_found mark.Static rest e h = absurd (true≢false e)
sign_found mark.Struct rest e h = absurd (true≢false e)
sign_found mark.Switch rest e h = absurd (true≢false e)
sign_found mark.Unsigned rest e h = absurd (true≢false e)
sign_found mark.Void rest e h = absurd (true≢false e)
sign_found mark.Pair rest e h = absurd (true≢false e)
sign_found mark.FunctionPointer rest e h = absurd (true≢false e)
sign_found m rest e h = refl

-- what stands at the front of a sign
pub record SignStarts (m : Mark) (rest : List ℕ) : Type 0 where
  pub digit : begins is_ascii_digit (mark_text m ++ rest) ≡ false
  pub word : begins is_word_byte (mark_text m ++ rest) ≡ false
  pub hash : begins (λ b. b == 35) (mark_text m ++ rest) ≡ false
  pub dash : is_dash (mark_text m ++ rest) ≡ false

pub sign_starts : (m : Mark) (rest : List ℕ) → begins is_word_byte (mark_text m) ≡ false → goes_on m rest ≡ false → SignStarts m rest
sign_starts mark.Minus rest e h = record { digit = refl; word = refl; hash = refl; dash = h }
sign_starts mark.Break rest e h = absurd (true≢false e)
sign_starts mark.Case rest e h = absurd (true≢false e)
sign_starts mark.Char rest e h = absurd (true≢false e)
sign_starts mark.Continue rest e h = absurd (true≢false e)
sign_starts mark.Default rest e h = absurd (true≢false e)
sign_starts mark.Else rest e h = absurd (true≢false e)
sign_starts mark.Extern rest e h = absurd (true≢false e)
sign_starts mark.For rest e h = absurd (true≢false e)
sign_starts mark.If rest e h = absurd (true≢false e)
sign_starts mark.Int rest e h = absurd (true≢false e)
sign_starts mark.Return rest e h = absurd (true≢false e)
sign_starts mark.Short rest e h = absurd (true≢false e)
sign_starts mark.Static rest e h = absurd (true≢false e)
sign_starts mark.Struct rest e h = absurd (true≢false e)
sign_starts mark.Switch rest e h = absurd (true≢false e)
sign_starts mark.Unsigned rest e h = absurd (true≢false e)
sign_starts mark.Void rest e h = absurd (true≢false e)
sign_starts mark.Pair rest e h = absurd (true≢false e)
sign_starts mark.FunctionPointer rest e h = absurd (true≢false e)
sign_starts m rest e h = record { digit = refl; word = refl; hash = refl; dash = refl }

both_false : (x y : Bool) → x ≡ false → y ≡ false → (x || y) ≡ false
both_false x y e f = rw (e, f) refl

turned : (a b : ℕ) → nat_eq a b ≡ false → (b == a) ≡ false
turned a b h = grind (arith, nat_tests)

assign_ends : (b : ℕ) (bs : List ℕ) (x : Bool) → nat_eq 61 b ≡ x → sign_at (61 ∷ b ∷ bs) ≡ Some mark.Assign → (b == 61) ≡ false
assign_ends b bs true p e = let k = rw p at e in absurd (cc)
assign_ends b bs false p e = turned 61 b p

not_ends : (b : ℕ) (bs : List ℕ) (x : Bool) → nat_eq 61 b ≡ x → sign_at (33 ∷ b ∷ bs) ≡ Some mark.Not → (b == 61) ≡ false
not_ends b bs true p e = let k = rw p at e in absurd (cc)
not_ends b bs false p e = turned 61 b p

less_ends : (b : ℕ) (bs : List ℕ) (x y : Bool) → nat_eq 60 b ≡ x → nat_eq 61 b ≡ y → sign_at (60 ∷ b ∷ bs) ≡ Some mark.Less → (b == 60 || b == 61) ≡ false
less_ends b bs true y p q e = let k = rw p at e in absurd (cc)
less_ends b bs false true p q e = let k = rw (p, q) at e in absurd (cc)
less_ends b bs false false p q e = both_false (b == 60) (b == 61) (turned 60 b p) (turned 61 b q)

greater_ends : (b : ℕ) (bs : List ℕ) (x y : Bool) → nat_eq 61 b ≡ x → nat_eq 62 b ≡ y → sign_at (62 ∷ b ∷ bs) ≡ Some mark.Greater → (b == 61 || b == 62) ≡ false
greater_ends b bs x true p q e = let k = rw q at e in absurd (cc)
greater_ends b bs true false p q e = let k = rw (p, q) at e in absurd (cc)
greater_ends b bs false false p q e = both_false (b == 61) (b == 62) (turned 61 b p) (turned 62 b q)

-- a sign that is found does not go on
pub sign_ends : (m : Mark) (rest : List ℕ) → sign_at (mark_text m ++ rest) ≡ Some m → is_dash (mark_text m ++ rest) ≡ false → goes_on m rest ≡ false
sign_ends mark.Minus rest e dash = dash
sign_ends mark.Less [] e dash = refl
sign_ends mark.Less (b ∷ bs) e dash = less_ends b bs (nat_eq 60 b) (nat_eq 61 b) refl refl e
sign_ends mark.Greater [] e dash = refl
sign_ends mark.Greater (b ∷ bs) e dash = greater_ends b bs (nat_eq 61 b) (nat_eq 62 b) refl refl e
sign_ends mark.Assign [] e dash = refl
sign_ends mark.Assign (b ∷ bs) e dash = assign_ends b bs (nat_eq 61 b) refl e
sign_ends mark.Not [] e dash = refl
sign_ends mark.Not (b ∷ bs) e dash = not_ends b bs (nat_eq 61 b) refl e
sign_ends mark.Break rest e dash = absurd (cc)
sign_ends mark.Case rest e dash = absurd (cc)
sign_ends mark.Char rest e dash = absurd (cc)
sign_ends mark.Continue rest e dash = absurd (cc)
sign_ends mark.Default rest e dash = absurd (cc)
sign_ends mark.Else rest e dash = absurd (cc)
sign_ends mark.Extern rest e dash = absurd (cc)
sign_ends mark.For rest e dash = absurd (cc)
sign_ends mark.If rest e dash = absurd (cc)
sign_ends mark.Int rest e dash = absurd (cc)
sign_ends mark.Return rest e dash = absurd (cc)
sign_ends mark.Short rest e dash = absurd (cc)
sign_ends mark.Static rest e dash = absurd (cc)
sign_ends mark.Struct rest e dash = absurd (cc)
sign_ends mark.Switch rest e dash = absurd (cc)
sign_ends mark.Unsigned rest e dash = absurd (cc)
sign_ends mark.Void rest e dash = absurd (cc)
sign_ends mark.Pair rest e dash = absurd (cc)
sign_ends mark.FunctionPointer rest e dash = absurd (cc)
sign_ends m rest e dash = refl
