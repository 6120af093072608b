-- A string is read in one way.
use Rattle.std.proofs.Common.{◌≡◌, ℕ, zero, suc, ◌+◌, ◌-◌, ◌<◌, ◌≤◌, nat_lt, Bool, true, false, ◌&&◌, not, ◌==◌, List, [], ◌∷◌, ◌++◌, length, drop, refl, ap, sym, ◌∙◌, subst, arith, Option, Some, None, IfSome, Result, Ok, Err, IfOk, append-nil, append_assoc}
use Rattle.std.proofs.lemmas.Bool.{and_parts, eqb-true, not-true}
use Rattle.std.proofs.lemmas.Bool.Decides.{nat_tests}
use Rattle.std.proofs.lemmas.List.{length-append, length-drop}
use Rattle.cc_whole_tokens.specs.Cut.{Spelled, none, itself, octal, is_itself, is_octal, octal_value}
use Rattle.cc_whole_cut.specs.declared.string.Piece.{Piece}
use Rattle.cc_whole_cut.specs.declared.string.Piece.TheVariants as piece
use Rattle.cc_whole_cut.specs.Inside.{begins_escape, escaped, escape, next_piece, spelled_by, go_on, inside}

-- ---- pieces

itself_piece : (b : ℕ) (bs : List ℕ) → is_itself b ≡ true → next_piece (b ∷ bs) ≡ piece.Byte b 1
itself_piece b bs h =
    let parts = and_parts (nat_lt 31 b && nat_lt b 127) (not (b == 34) && not (b == 92)) h in
    let others = and_parts (not (b == 34)) (not (b == 92)) parts.1 in
    rw (h, not-true (b == 34) others.0) refl

octal_piece : (x y z : ℕ) (bs : List ℕ) → is_octal x ≡ true → is_octal y ≡ true → is_octal z ≡ true → octal_value x y z ≤ 255
    → next_piece (92 ∷ x ∷ y ∷ z ∷ bs) ≡ piece.Byte (octal_value x y z) 4
octal_piece x y z bs hx hy hz small =
    let fits : nat_lt (octal_value x y z) 256 ≡ true = fits_by (octal_value x y z) small in
    rw (hx, hy, hz, fits) refl
  where
    fits_by : (n : ℕ) → n ≤ 255 → nat_lt n 256 ≡ true
    fits_by n small = grind (arith, nat_tests)

again : (turns : ℕ) (out : List ℕ) (len : ℕ) (bs : List ℕ) (b by : ℕ) → next_piece bs ≡ piece.Byte b by
    → inside (suc turns) out len bs ≡ inside turns (out ++ b ∷ []) (len + by) (drop by bs)
unfolding inside
again turns out len bs b by e = rw e refl

closes : (turns : ℕ) (out : List ℕ) (len : ℕ) (bs : List ℕ) → inside (suc turns) out len (34 ∷ bs) ≡ Some (out, len)
unfolding inside
closes turns out len bs = refl

same_read : (a b : List ℕ) (m n : ℕ) → a ≡ b → m ≡ n → ◌≡◌ {A = Option (List ℕ × ℕ)} (Some (a, m)) (Some (b, n))
same_read a b m n e f = rw (e, f) refl

-- what stands between quotes is read
pub read_whole : {xs bytes : List ℕ} → Spelled xs bytes → (turns : ℕ) → length xs < turns → (out : List ℕ) (len : ℕ) (rest : List ℕ)
    → inside turns out len (xs ++ (34 ∷ rest)) ≡ Some (out ++ bytes, len + length xs)
read_whole none zero more out len rest = absurd (omega arith)
read_whole none (suc turns) more out len rest =
    closes turns out len rest ∙ same_read out (out ++ []) len (len + 0) (sym (append-nil out)) (omega arith)
read_whole (itself b bs bytes is h) zero more out len rest = absurd (omega arith)
read_whole (itself b bs bytes is h) (suc turns) more out len rest =
    let n : (len + 1) + length bs ≡ len + length (b ∷ bs) = omega arith in
    again turns out len (b ∷ (bs ++ (34 ∷ rest))) b 1 (itself_piece b (bs ++ (34 ∷ rest)) is)
    ∙ (read_whole h turns (omega arith) (out ++ b ∷ []) (len + 1) rest
    ∙ same_read ((out ++ b ∷ []) ++ bytes) (out ++ (b ∷ bytes)) ((len + 1) + length bs) (len + length (b ∷ bs)) (append_assoc out (b ∷ []) bytes) n)
read_whole (octal x y z bs bytes hx hy hz small h) zero more out len rest = absurd (omega arith)
read_whole (octal x y z bs bytes hx hy hz small h) (suc turns) more out len rest =
    let v = octal_value x y z in
    let n : (len + 4) + length bs ≡ len + length (92 ∷ x ∷ y ∷ z ∷ bs) = omega arith in
    again turns out len (92 ∷ x ∷ y ∷ z ∷ (bs ++ (34 ∷ rest))) v 4 (octal_piece x y z (bs ++ (34 ∷ rest)) hx hy hz small)
    ∙ (read_whole h turns (omega arith) (out ++ v ∷ []) (len + 4) rest
    ∙ same_read ((out ++ v ∷ []) ++ bytes) (out ++ (v ∷ bytes)) ((len + 4) + length bs) (len + length (92 ∷ x ∷ y ∷ z ∷ bs)) (append_assoc out (v ∷ []) bytes) n)

-- ---- what is read stands there

-- from here on it is spelled, up to a quote
pub record Read (bs out : List ℕ) (len : ℕ) (q : List ℕ × ℕ) : Type 0 where
  pub xs : List ℕ
  pub bytes : List ℕ
  pub rest : List ℕ
  pub spelled : Spelled xs bytes
  pub parts : bs ≡ xs ++ (34 ∷ rest)
  pub gives : q.0 ≡ out ++ bytes
  pub counted : q.1 ≡ len + length xs

record IsByte (bs : List ℕ) (b by : ℕ) : Type 0 where
  front : List ℕ
  rest : List ℕ
  parts : bs ≡ front ++ rest
  len : length front ≡ by
  left : drop by bs ≡ rest
  spells : (xs bytes : List ℕ) → Spelled xs bytes → Spelled (front ++ xs) (b ∷ bytes)

byte_at : (P : ℕ → ℕ → Type 0) (b c m n : ℕ) → piece.Byte b m ≡ piece.Byte c n → P b m → P c n
byte_at P b c m n e p = let k : b ≡ c = cc in let l : m ≡ n = cc in subst (λ x. P x n) k (subst (P b) l p)

escape_stands : (x y z w : ℕ) (bs : List ℕ) (b by : ℕ) (t u : Bool) → begins_escape (x ∷ y ∷ z ∷ w ∷ bs) ≡ t → nat_lt (octal_value y z w) 256 ≡ u
    → escape (escaped (x ∷ y ∷ z ∷ w ∷ bs)) ≡ piece.Byte b by → IsByte (x ∷ y ∷ z ∷ w ∷ bs) b by
escape_stands x y z w bs b by false u p s e = let k = rw p at e in absurd (cc)
escape_stands x y z w bs b by true false p s e = let k = rw (p, s) at e in absurd (cc)
escape_stands x y z w bs b by true true p s e =
    let k : piece.Byte (octal_value y z w) 4 ≡ piece.Byte b by = rw (p, s) at e in
    let first = and_parts (x == 92) (is_octal y && (is_octal z && is_octal w)) p in
    let second = and_parts (is_octal y) (is_octal z && is_octal w) first.1 in
    let third = and_parts (is_octal z) (is_octal w) second.1 in
    let back : x ≡ 92 = eqb-true x 92 first.0 in
    let small : octal_value y z w ≤ 255 = small_by (octal_value y z w) s in
    byte_at (IsByte (x ∷ y ∷ z ∷ w ∷ bs)) (octal_value y z w) b 4 by k (record {
      front = x ∷ y ∷ z ∷ w ∷ [];
      rest = bs;
      parts = refl;
      len = refl;
      left = refl;
      spells = λ xs bytes h. subst (λ v. Spelled (v ∷ y ∷ z ∷ w ∷ xs) (octal_value y z w ∷ bytes)) (sym back)
          (octal y z w xs bytes second.0 third.0 third.1 small h);
    })
  where
    small_by : (n : ℕ) → nat_lt n 256 ≡ true → n ≤ 255
    small_by n h = grind (arith, nat_tests)

and_no : (x y : Bool) → y ≡ false → (x && y) ≡ false
and_no true y e = e
and_no false y e = refl

no_escape : (bs : List ℕ) (b by : ℕ) → begins_escape bs ≡ false → escape (escaped bs) ≡ piece.Byte b by → ⊥
no_escape bs b by h e = let k = rw h at e in cc

-- too few bytes are no escape
escape_is : (bs : List ℕ) (b by : ℕ) → escape (escaped bs) ≡ piece.Byte b by → IsByte bs b by
escape_is [] b by e = absurd (no_escape [] b by refl e)
escape_is (x ∷ []) b by e = absurd (no_escape (x ∷ []) b by (and_no (x == 92) false refl) e)
escape_is (x ∷ y ∷ []) b by e = absurd (no_escape (x ∷ y ∷ []) b by (and_no (x == 92) (is_octal y && false) (and_no (is_octal y) false refl)) e)
escape_is (x ∷ y ∷ z ∷ []) b by e =
    absurd (no_escape (x ∷ y ∷ z ∷ []) b by
    (and_no (x == 92) (is_octal y && (is_octal z && false)) (and_no (is_octal y) (is_octal z && false) (and_no (is_octal z) false refl))) e)
escape_is (x ∷ y ∷ z ∷ w ∷ bs) b by e =
    escape_stands x y z w bs b by (begins_escape (x ∷ y ∷ z ∷ w ∷ bs)) (nat_lt (octal_value y z w) 256) refl refl e

byte_by : (c : ℕ) (bs : List ℕ) (b by : ℕ) (t u : Bool) → (c == 34) ≡ t → is_itself c ≡ u → next_piece (c ∷ bs) ≡ piece.Byte b by → IsByte (c ∷ bs) b by
byte_by c bs b by true u p s e = let k = rw p at e in absurd (cc)
byte_by c bs b by false true p s e =
    let k : piece.Byte c 1 ≡ piece.Byte b by = rw (s, p) at e in
    byte_at (IsByte (c ∷ bs)) c b 1 by k (record {
      front = c ∷ [];
      rest = bs;
      parts = refl;
      len = refl;
      left = refl;
      spells = λ xs bytes h. itself c xs bytes s h;
    })
byte_by c bs b by false false p s e =
    let k : escape (escaped (c ∷ bs)) ≡ piece.Byte b by = rw (s, p) at e in
    escape_is (c ∷ bs) b by k

byte_is : (bs : List ℕ) (b by : ℕ) → next_piece bs ≡ piece.Byte b by → IsByte bs b by
byte_is [] b by e = absurd (cc)
byte_is (c ∷ bs) b by e = byte_by c bs b by (c == 34) (is_itself c) refl refl e

close_by : (c : ℕ) (bs : List ℕ) (t u : Bool) → (c == 34) ≡ t → is_itself c ≡ u → next_piece (c ∷ bs) ≡ piece.Close → c ≡ 34
close_by c bs true u p s e = eqb-true c 34 p
close_by c bs false true p s e = let k = rw (s, p) at e in absurd (cc)
close_by c bs false false p s e =
    let k : escape (escaped (c ∷ bs)) ≡ piece.Close = rw (s, p) at e in
    absurd (no_close (escaped (c ∷ bs)) k)
  where
    no_close : (o : Option ℕ) → escape o ≡ piece.Close → ⊥
    no_close None e = cc
    no_close (Some b) e = cc

close_is : (bs : List ℕ) → next_piece bs ≡ piece.Close → bs ≡ 34 ∷ drop 1 bs
close_is [] e = absurd (cc)
close_is (c ∷ bs) e = ap (λ x. x ∷ bs) (close_by c bs (c == 34) (is_itself c) refl refl e)

pair_at : (P : List ℕ × ℕ → Type 0) (x y : List ℕ × ℕ) → P x → Some x ≡ Some y → P y
pair_at P x y p e = let k : x ≡ y = cc in subst P k p

read_more : (turns : ℕ) (out : List ℕ) (len : ℕ) (bs : List ℕ) (q : List ℕ × ℕ) (b by : ℕ) → IsByte bs b by
    → Read (drop by bs) (out ++ b ∷ []) (len + by) q → Read bs out len q
read_more turns out len bs q b by is r = record {
  xs = is.front ++ r.xs;
  bytes = b ∷ r.bytes;
  rest = r.rest;
  spelled = is.spells r.xs r.bytes r.spelled;
  parts = is.parts ∙ (ap (λ z. is.front ++ z) (sym is.left ∙ r.parts) ∙ sym (append_assoc is.front r.xs (34 ∷ r.rest)));
  gives = r.gives ∙ append_assoc out (b ∷ []) r.bytes;
  counted = let l = length-append is.front r.xs in let m = is.len in let n = r.counted in omega (arith, l, m, n);
}

read_by : (turns : ℕ) (out : List ℕ) (len : ℕ) (bs : List ℕ) (q : List ℕ × ℕ) (p : Piece) → next_piece bs ≡ p
    → ((out : List ℕ) (len : ℕ) (bs : List ℕ) → inside turns out len bs ≡ Some q → Read bs out len q)
    → go_on p out len (λ b by. inside turns (out ++ b ∷ []) (len + by) (drop by bs)) ≡ Some q → Read bs out len q
read_by turns out len bs q piece.Close is more e =
    pair_at (Read bs out len) (out, len) q (record {
      xs = [];
      bytes = [];
      rest = drop 1 bs;
      spelled = none;
      parts = close_is bs is;
      gives = sym (append-nil out);
      counted = omega arith;
    }) e
read_by turns out len bs q (piece.Byte b by) is more e =
    read_more turns out len bs q b by (byte_is bs b by is) (more (out ++ b ∷ []) (len + by) (drop by bs) e)
read_by turns out len bs q piece.Stray is more e = absurd (cc)

pub read_is : (turns : ℕ) (out : List ℕ) (len : ℕ) (bs : List ℕ) (q : List ℕ × ℕ) → inside turns out len bs ≡ Some q → Read bs out len q
unfolding inside
read_is zero out len bs q e = absurd (cc)
read_is (suc turns) out len bs q e = read_by turns out len bs q (next_piece bs) refl (λ out len bs e. read_is turns out len bs q e) e

-- ---- for the code

pub piece_within : (bs : List ℕ) (p : Piece) → p ≡ next_piece bs → spelled_by p ≤ length bs
piece_within bs piece.Close e = omega arith
piece_within bs (piece.Byte b by) e =
    let is = byte_is bs b by (sym e) in
    let l = ap length is.parts in
    let n = is.len in
    omega (arith, l, n, length-append is.front is.rest)
piece_within bs piece.Stray e = omega arith

pub read_within : {E : Type 0} (bs : List ℕ) (r : Result (Option (List ℕ × ℕ)) E) → IfOk r (λ o. o ≡ inside (length bs) [] 0 bs)
    → IfOk r (λ o. IfSome o (λ q. q.1 < length bs))
read_within bs (Err d) e = tt
read_within bs (Ok None) e = tt
read_within bs (Ok (Some q)) e =
    let r = read_is (length bs) [] 0 bs q (sym e) in
    let l = ap length r.parts in
    let n = r.counted in
    omega (arith, l, n, length-append r.xs (34 ∷ r.rest))

-- a part of a string is read
pub record Within (text rest out : List ℕ) (len turns : ℕ) : Type 0 where
  pub reads : inside turns out len rest ≡ inside (length text) [] 0 text
  pub counted : len + length rest ≡ length text

pub within_start : (text : List ℕ) → Within text text [] 0 (length text - 0)
within_start text =
    let all : length text - 0 ≡ length text = omega arith in
    record { reads = ap (λ n. inside n [] 0 text) all; counted = omega arith }

pub within_more : (text rest out : List ℕ) (len turn end b by : ℕ) → Within text rest out len (end - turn) → turn < end → piece.Byte b by ≡ next_piece rest
    → by ≤ length rest → Within text (drop by rest) (out ++ b ∷ []) (len + by) (end - (turn + 1))
within_more text rest out len turn end b by w turns e small =
    let most : end - turn ≡ suc (end - (turn + 1)) = omega arith in
    record {
      reads = sym (again (end - (turn + 1)) out len rest b by (sym e)) ∙ (ap (λ n. inside n out len rest) (sym most) ∙ w.reads);
      counted = let c = w.counted in let l = length-drop by rest in omega (arith, c, l, small);
    }

stops : (turns : ℕ) (out : List ℕ) (len : ℕ) (bs : List ℕ) (p : Piece) (r : Option (List ℕ × ℕ)) → next_piece bs ≡ p
    → ((more : ℕ → ℕ → Option (List ℕ × ℕ)) → go_on p out len more ≡ r) → inside (suc turns) out len bs ≡ r
unfolding inside
stops turns out len bs p r e same = rw e (same (λ b by. inside turns (out ++ b ∷ []) (len + by) (drop by bs)))

pub within_closed : (text rest out : List ℕ) (len turn end : ℕ) → Within text rest out len (end - turn) → turn < end → piece.Close ≡ next_piece rest
    → Some (out, len) ≡ inside (length text) [] 0 text
within_closed text rest out len turn end w turns e =
    let most : end - turn ≡ suc (end - (turn + 1)) = omega arith in
    sym (stops (end - (turn + 1)) out len rest piece.Close (Some (out, len)) (sym e) (λ more. refl)) ∙ (ap (λ n. inside n out len rest) (sym most) ∙ w.reads)

pub within_stray : (text rest out : List ℕ) (len turn end : ℕ) → Within text rest out len (end - turn) → turn < end → piece.Stray ≡ next_piece rest
    → None ≡ inside (length text) [] 0 text
within_stray text rest out len turn end w turns e =
    let most : end - turn ≡ suc (end - (turn + 1)) = omega arith in
    sym (stops (end - (turn + 1)) out len rest piece.Stray None (sym e) (λ more. refl)) ∙ (ap (λ n. inside n out len rest) (sym most) ∙ w.reads)

out_of_turns : (out : List ℕ) (len : ℕ) (bs : List ℕ) → inside zero out len bs ≡ None
unfolding inside
out_of_turns out len bs = refl

pub within_end : (text rest out : List ℕ) (len turn end : ℕ) → Within text rest out len (end - turn) → end ≤ turn → None ≡ inside (length text) [] 0 text
within_end text rest out len turn end w turns =
    let over : end - turn ≡ zero = omega arith in
    sym (out_of_turns out len rest) ∙ (ap (λ n. inside n out len rest) (sym over) ∙ w.reads)
