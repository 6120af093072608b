-- The characters of constants and literals, read from a part of a text.
use Rattle.std.proofs.Common.{◌≡◌, ℕ, zero, suc, ◌+◌, ◌-◌, ◌<◌, ◌≤◌, List, [], ◌∷◌, take, drop, length, get_or, Bool, true, false, cond, refl, ap, sym, ◌∙◌, Option, Some, None, arith, nat_eq, ◌⊎◌, inl, inr, get_or-take}
use Rattle.std.proofs.lemmas.List.{drop-take}
use Rattle.cf_tokens.proofs.Literals.{step, at_end}
use Rattle.cf_tokens.proofs.Prefixes.{leading_all, leading_part}
use Rattle.cf_tokens.specs.Chain.{◌>>=◌}
use Rattle.cf_tokens.specs.Class.{has, leading}
use Rattle.cf_tokens.specs.Character.{unit_at, escape_at, hex_escape, octal_escape, with_length}
use Rattle.cf_tokens.specs.Literal.{characters, before}
use Rattle.cf_tokens.specs.declared.class.Class.TheVariants.{OctalDigit, HexDigit}

pub chosen : {A : Type 0} (b : Bool) (x y z : A) → cond b x y ≡ z → ((b ≡ true) × (x ≡ z)) ⊎ ((b ≡ false) × (y ≡ z))
chosen true x y z e = inl (refl, e)
chosen false x y z e = inr (refl, e)

with_length-is : (n : ℕ) (o : Option ℕ) (v m : ℕ) → with_length n o ≡ Some (v, m) → n ≡ m
with_length-is n (Some w) v m e = ap (λ o. second o) e
  where
    second : Option (ℕ × ℕ) → ℕ
    second (Some unit) = unit.1
    second None = 0
with_length-is n None v m e = cc

hex_part : (letter k : ℕ) (behind : List ℕ) (v n : ℕ) → hex_escape (leading HexDigit behind) ≡ Some (v, n) → n ≤ suc k
    → hex_escape (leading HexDigit (take k behind)) ≡ Some (v, n)
hex_part letter k behind v n read fits =
    let long : 2 + length (leading HexDigit behind) ≡ n = with_length-is _ _ v n read in
    ap hex_escape (leading_all (has HexDigit) k behind (omega arith)) ∙ read

octal_part : (k : ℕ) (bytes : List ℕ) (v n : ℕ) → octal_escape (take 3 (leading OctalDigit bytes)) ≡ Some (v, n) → n ≤ k
    → octal_escape (take 3 (leading OctalDigit (take k bytes))) ≡ Some (v, n)
octal_part k bytes v n read fits =
    let long : 1 + length (take 3 (leading OctalDigit bytes)) ≡ n = with_length-is _ _ v n read in
    ap octal_escape (leading_part (has OctalDigit) 3 k bytes (omega arith)) ∙ read

choice : {A : Type 0} (b c : Bool) (x y z x' y' z' r : A) → (x ≡ r → x' ≡ r) → (y ≡ r → y' ≡ r) → (z ≡ r → z' ≡ r)
    → cond b x (cond c y z) ≡ r → cond b x' (cond c y' z') ≡ r
choice true c x y z x' y' z' r f g h e = f e
choice false true x y z x' y' z' r f g h e = g e
choice false false x y z x' y' z' r f g h e = h e

positive : (bytes : List ℕ) (v n : ℕ) → escape_at bytes ≡ Some (v, n) → 1 ≤ n
unfolding escape_at
positive [] v n read = cc
positive (letter ∷ behind) v n read =
    elim (chosen (nat_eq letter 120) _ _ (Some (v, n)) read) [
      | inl (_, e) ↦ let long : 2 + length (leading HexDigit behind) ≡ n = with_length-is _ _ v n e in omega arith
      | inr (_, e) ↦ elim (chosen (has OctalDigit letter) _ _ (Some (v, n)) e) [
        | inl (_, e2) ↦ let long : 1 + length (take 3 (leading OctalDigit (letter ∷ behind))) ≡ n = with_length-is _ _ v n e2 in omega arith
        | inr (_, e2) ↦ let long : 2 ≡ n = with_length-is _ _ v n e2 in omega arith
      ]
    ]

escape_letter : (k letter : ℕ) (behind : List ℕ) (v n : ℕ) → escape_at (letter ∷ behind) ≡ Some (v, n) → n ≤ suc k
    → escape_at (letter ∷ take k behind) ≡ Some (v, n)
unfolding escape_at
escape_letter k letter behind v n read fits =
    choice (nat_eq letter 120) (has OctalDigit letter) _ _ _ _ _ _ (Some (v, n))
    (λ e. hex_part letter k behind v n e fits)
    (λ e. octal_part (suc k) (letter ∷ behind) v n e fits)
    (λ e. e) read

escape_part : (k : ℕ) (bytes : List ℕ) (v n : ℕ) → escape_at bytes ≡ Some (v, n) → n ≤ k → escape_at (take k bytes) ≡ Some (v, n)
escape_part zero bytes v n read fits = absurd (let some = positive bytes v n read in omega arith)
escape_part (suc k) [] v n read fits = read
escape_part (suc k) (letter ∷ behind) v n read fits = escape_letter k letter behind v n read fits

pub unit_some : (bytes : List ℕ) (v n : ℕ) → unit_at bytes ≡ Some (v, n) → 1 ≤ n
unfolding unit_at
unit_some [] v n read = cc
unit_some (b ∷ bs) v n read =
    elim (chosen (nat_eq b 10) _ _ (Some (v, n)) read) [
      | inl (_, e) ↦ absurd (none v n e)
      | inr (_, e) ↦ elim (chosen (nat_eq b 92) _ _ (Some (v, n)) e) [
        | inl (_, e2) ↦ positive bs v n e2
        | inr (_, e2) ↦ one b v n e2
      ]
    ]
  where
    none : (v n : ℕ) → ◌≡◌ {A = Option (ℕ × ℕ)} None (Some (v, n)) → ⊥
    none v n e = cc

    one : (b v n : ℕ) → ◌≡◌ {A = Option (ℕ × ℕ)} (Some (b, 1)) (Some (v, n)) → 1 ≤ n
    one b v n e = let same : 1 ≡ n = ap second e in omega arith
      where
        second : Option (ℕ × ℕ) → ℕ
        second (Some unit) = unit.1
        second None = 0

unit_byte : (k b : ℕ) (bs : List ℕ) (v n : ℕ) → unit_at (b ∷ bs) ≡ Some (v, n) → n ≤ k → unit_at (b ∷ take k bs) ≡ Some (v, n)
unfolding unit_at
unit_byte k b bs v n read fits =
    choice (nat_eq b 10) (nat_eq b 92) _ _ _ _ _ _ (Some (v, n)) (λ e. e) (λ e. escape_part k bs v n e fits) (λ e. e) read

pub unit_part : (k : ℕ) (bytes : List ℕ) (v n : ℕ) → unit_at bytes ≡ Some (v, n) → n < k → unit_at (take k bytes) ≡ Some (v, n)
unit_part zero bytes v n read fits = absurd (omega arith)
unit_part (suc k) [] v n read fits = read
unit_part (suc k) (b ∷ bs) v n read fits = unit_byte k b bs v n read (omega arith)

bind_some : {A B : Type 0} (o : Option A) (f : A → Option B) (y : B) → (o >>= f) ≡ Some y → (x : A) × (o ≡ Some x) × (f x ≡ Some y)
bind_some (Some x) f y e = (x, refl, e)
bind_some None f y e = cc

values_of : Option (List ℕ × ℕ) → List ℕ
values_of (Some q) = q.0
values_of None = []

length_of : Option (List ℕ × ℕ) → ℕ
length_of (Some q) = q.1
length_of None = 0

-- what stands behind the first character, where the whole is read
record Behind (read : Option (List ℕ × ℕ)) (v u : ℕ) (values : List ℕ) (n : ℕ) : Type 0 where
  pub more : List ℕ
  pub m : ℕ
  pub is : read ≡ Some (more, m)
  pub values_is : v ∷ more ≡ values
  pub length_is : u + m ≡ n

before_some : (v u : ℕ) (read : Option (List ℕ × ℕ)) (values : List ℕ) (n : ℕ) → before (v, u) read ≡ Some (values, n)
    → Behind read v u values n
unfolding values_of length_of
before_some v u (Some (more, m)) values n e =
    record { more = more; m = m; is = refl; values_is = ap values_of e; length_is = ap length_of e }
before_some v u None values n e = cc

same_end : (values : List ℕ) (n : ℕ) → ◌≡◌ {A = Option (List ℕ × ℕ)} (Some ([], 1)) (Some (values, n)) → 1 ≡ n
unfolding length_of
same_end values n e = ap length_of e

first_byte : (k : ℕ) (bytes : List ℕ) → 0 < k → get_or (take k bytes) 0 0 ≡ get_or bytes 0 0
first_byte k bytes some = get_or-take k bytes 0 0 some

-- a first character that is no end, and what stands behind it
record GoesOn (most : ℕ) (bytes values : List ℕ) (n : ℕ) : Type 0 where
  pub v : ℕ
  pub u : ℕ
  pub no_end : nat_eq (get_or bytes 0 0) 34 ≡ false
  pub unit : unit_at bytes ≡ Some (v, u)
  pub rest : Behind (characters most (drop u bytes)) v u values n

parts : (most : ℕ) (bytes values : List ℕ) (n : ℕ) → characters (suc most) bytes ≡ Some (values, n)
    → ((nat_eq (get_or bytes 0 0) 34 ≡ true) × (◌≡◌ {A = Option (List ℕ × ℕ)} (Some ([], 1)) (Some (values, n)))) ⊎ GoesOn most bytes values n
parts most bytes values n read =
    elim (chosen (nat_eq (get_or bytes 0 0) 34) _ _ (Some (values, n)) read) [
      | inl (end, e) ↦ inl (end, e)
      | inr (no_end, e) ↦
          let (unit, is, rest) = bind_some (unit_at bytes) (λ unit. before unit (characters most (drop unit.1 bytes))) (values, n) e in
          inr (record {
            v = unit.0;
            u = unit.1;
            no_end = no_end;
            unit = is;
            rest = before_some unit.0 unit.1 (characters most (drop unit.1 bytes)) values n rest;
          })
    ]

some_bytes : (most : ℕ) (bytes values : List ℕ) (n : ℕ) → characters (suc most) bytes ≡ Some (values, n) → 1 ≤ n
some_bytes most bytes values n read =
    elim (parts most bytes values n read) [
      | inl (end, e) ↦ let one = same_end values n e in omega arith
      | inr g ↦ let some = unit_some bytes g.v g.u g.unit in omega (arith, g.rest.length_is, some)
    ]

goes_on : (turns k : ℕ) (bytes values : List ℕ) (n v u m : ℕ) (more : List ℕ) → nat_eq (get_or bytes 0 0) 34 ≡ false
    → unit_at bytes ≡ Some (v, u) → v ∷ more ≡ values → u + m ≡ n → n < k
    → characters turns (take (k - u) (drop u bytes)) ≡ Some (more, m)
    → characters (suc turns) (take k bytes) ≡ Some (values, n)
goes_on turns k bytes values n v u m more no_end unit values_is length_is past read =
    let same : get_or (take k bytes) 0 0 ≡ get_or bytes 0 0 = first_byte k bytes (omega arith) in
    let whole : u + (k - u) ≡ k = omega (arith, length_is) in
    let cut : drop u (take k bytes) ≡ take (k - u) (drop u bytes)
    = ap (λ j. drop u (take j bytes)) (sym whole) ∙ drop-take u (k - u) bytes in
    step turns v u (take k bytes) (ap (λ b. nat_eq b 34) same ∙ no_end) (unit_part k bytes v u unit (omega (arith, length_is)))
    ∙ (ap (λ bs. before (v, u) (characters turns bs)) cut
    ∙ (ap (before (v, u)) read
    ∙ (ap (λ vs. Some (vs, u + m)) values_is
    ∙ ap (λ j. Some (values, j)) length_is)))

-- a literal's characters up to its end, given turns enough
pub characters_part : (most turns k : ℕ) (bytes values : List ℕ) (n : ℕ) → characters most bytes ≡ Some (values, n) → n < k → n ≤ turns
    → characters turns (take k bytes) ≡ Some (values, n)
characters_part zero turns k bytes values n read past fits = cc
characters_part (suc most) zero k bytes values n read past fits = absurd (let some = some_bytes most bytes values n read in omega arith)
characters_part (suc most) (suc turns) k bytes values n read past fits =
    elim (parts most bytes values n read) [
      | inl (end, e) ↦
          let same : get_or (take k bytes) 0 0 ≡ get_or bytes 0 0 = first_byte k bytes (omega arith) in
          at_end turns (take k bytes) (ap (λ b. nat_eq b 34) same ∙ end) ∙ e
      | inr g ↦
          let some = unit_some bytes g.v g.u g.unit in
          goes_on turns k bytes values n g.v g.u g.rest.m g.rest.more g.no_end g.unit g.rest.values_is g.rest.length_is past
          (characters_part most turns (k - g.u) (drop g.u bytes) g.rest.more g.rest.m g.rest.is
          (omega (arith, g.rest.length_is)) (omega (arith, g.rest.length_is, some)))
    ]
