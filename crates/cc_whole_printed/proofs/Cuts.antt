-- How printed pieces are cut into tokens.
use Rattle.std.proofs.Common.{◌≡◌, ℕ, suc, ◌<◌, ◌^◌, Bool, true, false, ◌&&◌, not, List, [], ◌∷◌, ◌++◌, ℤ, pos, negsuc, refl, sym, ap, append_assoc, arith}
use Rattle.std.specs.Prelude.{if◌then◌else◌, decimal, codes}
use Rattle.std.specs.Fmt.{signed_decimal}
use Rattle.std.specs.Char.{is_ascii_digit}
use Rattle.std.proofs.lemmas.Bool.Decides.{nat_tests}
use Rattle.cf_base.specs.declared.kind.Kind.TheVariants.{Int, UInt}
use Rattle.cf_base.specs.Integers.{fits}
use Rattle.cc_whole_tokens.specs.declared.mark.Mark.{Mark}
use Rattle.cc_whole_tokens.specs.declared.mark.Mark.TheVariants as mark
use Rattle.cc_whole_tokens.specs.declared.token.Token.{Token}
use Rattle.cc_whole_tokens.specs.declared.token.Token.TheVariants as token
use Rattle.cc_whole_tokens.specs.Mark.{mark_text}
use Rattle.cc_whole_tokens.specs.Token.{begins, spelling, is_word_byte, is_name, is_token, ends}
use Rattle.cc_whole_tokens.specs.Cut.{Cut, is_blank}
use Rattle.cc_whole_tokens.specs.Cut as cut
use Rattle.cc_whole.specs.SpellsTypes.{sign}
use Rattle.cc_whole.specs.SpellsItems.{shared_tokens, static_tokens}
use Rattle.cc_whole_print.specs.Lines.{printed_mark, printed_inside, printed_if, spaced, ends_line, unsigned_text}
use Rattle.cc_whole_print.specs.Units.{shared_text}
use Rattle.cc_whole_printed.proofs.Numerals.{decimal_is_numeral, decimal_begins}

-- before every text, the bytes are cut into these tokens
pub record Cuts (bytes : List ℕ) (tokens : List Token) : Type 0 where
  pub before : (rest : List ℕ) (ts : List Token) → Cut rest ts → Cut (bytes ++ rest) (tokens ++ ts)

pub cuts-none : Cuts [] []
cuts-none = record { before = λ rest ts c. c }

pub cuts-append : {bs cs : List ℕ} {xs ys : List Token} → Cuts bs xs → Cuts cs ys → Cuts (bs ++ cs) (xs ++ ys)
cuts-append {bs = bs} {cs = cs} {xs = xs} {ys = ys} p q = record {
  before = λ rest ts c. rw (append_assoc bs cs rest, append_assoc xs ys ts) (p.before (cs ++ rest) (ys ++ ts) (q.before rest ts c));
}

-- the same of equal bytes
pub cuts-same : {xs : List Token} (bs cs : List ℕ) → bs ≡ cs → Cuts cs xs → Cuts bs xs
cuts-same bs cs e c = rw e c

-- a token and the blank behind it
cuts-token : (t : Token) (b : ℕ) → is_token t ≡ true → is_blank b ≡ true → ((bs : List ℕ) → ends t (b ∷ bs) ≡ true) → Cuts (spelling t ++ (b ∷ [])) (t ∷ [])
cuts-token t b is blank end = record {
  before = λ rest ts c.
      rw (append_assoc (spelling t) (b ∷ []) rest) (cut.Cut.token t (b ∷ rest) ts is (end rest) (cut.Cut.blank b rest ts blank c));
}

-- no sign or word goes on with a blank
no_word : (x : Bool) → not (x && false) ≡ true
no_word true = refl
no_word false = refl

ends_at_space : (m : Mark) (bs : List ℕ) → ends (token.Mark m) (32 ∷ bs) ≡ true
ends_at_space mark.Minus bs = refl
ends_at_space mark.Less bs = refl
ends_at_space mark.Greater bs = refl
ends_at_space mark.Assign bs = refl
ends_at_space mark.Not bs = refl
ends_at_space m bs = no_word (begins is_word_byte (mark_text m))

ends_at_newline : (m : Mark) (bs : List ℕ) → ends (token.Mark m) (10 ∷ bs) ≡ true
ends_at_newline mark.Minus bs = refl
ends_at_newline mark.Less bs = refl
ends_at_newline mark.Greater bs = refl
ends_at_newline mark.Assign bs = refl
ends_at_newline mark.Not bs = refl
ends_at_newline m bs = no_word (begins is_word_byte (mark_text m))

pub cuts-mark : (m : Mark) → Cuts (printed_mark m) (sign m)
unfolding printed_mark
cuts-mark m = go (ends_line m)
  where
    go : (t : Bool) → Cuts (spelling (token.Mark m) ++ ((if t then 10 else 32) ∷ [])) (sign m)
    go true = cuts-token (token.Mark m) 10 refl refl (ends_at_newline m)
    go false = cuts-token (token.Mark m) 32 refl refl (ends_at_space m)

pub cuts-inside : (m : Mark) → Cuts (printed_inside m) (sign m)
unfolding printed_inside
cuts-inside m = cuts-token (token.Mark m) 32 refl refl (ends_at_space m)

pub cuts-name : (name : List ℕ) → is_name name ≡ true → Cuts (spaced name) (token.Name name ∷ [])
cuts-name name is = cuts-token (token.Name name) 32 is refl (λ bs. refl)

pub cuts-shared : (b : Bool) → Cuts (shared_text b) (shared_tokens b)
cuts-shared true = cuts-token token.Shared 10 refl refl (λ bs. refl)
cuts-shared false = cuts-none

pub cuts-static : (b : Bool) → Cuts (printed_if b mark.Static) (static_tokens b)
cuts-static true = cuts-mark mark.Static
cuts-static false = cuts-none

-- ---- constants

cuts-decimal : (n : ℕ) → n < 2 ^ 64 → Cuts (spaced (decimal n)) (token.Signed (decimal n) ∷ [])
cuts-decimal n small = cuts-token (token.Signed (decimal n)) 32 (decimal_is_numeral n small) refl (λ bs. refl)

pub cuts-zero : Cuts (48 ∷ 32 ∷ []) (token.Signed (48 ∷ []) ∷ [])
cuts-zero = cuts-token (token.Signed (48 ∷ [])) 32 refl refl (λ bs. refl)

pub cuts-unsigned : (n : ℕ) → n < 2 ^ 64 → Cuts (unsigned_text n) (token.Unsigned (decimal n) ∷ [])
cuts-unsigned n small =
    cuts-same _ _ (sym (append_assoc (decimal n) (117 ∷ []) (32 ∷ []))) (cuts-token (token.Unsigned (decimal n)) 32 (decimal_is_numeral n small) refl (λ bs. refl))

-- the tokens of a signed constant
abbrev pub signed_tokens : ℤ → List Token
signed_tokens (pos n) = token.Signed (decimal n) ∷ []
signed_tokens (negsuc n) = token.Dash ∷ token.Signed (decimal (suc n)) ∷ []

-- a `-` stands right before its number
cuts-negative : (n : ℕ) → suc n < 2 ^ 64 → Cuts (45 ∷ spaced (decimal (suc n))) (token.Dash ∷ token.Signed (decimal (suc n)) ∷ [])
cuts-negative n small = record {
  before = λ rest ts c.
      let begun : begins is_ascii_digit (spaced (decimal (suc n)) ++ rest) ≡ true = rw (append_assoc (decimal (suc n)) (32 ∷ []) rest) (decimal_begins (suc n) (32 ∷ rest) small) in
      cut.Cut.token token.Dash (spaced (decimal (suc n)) ++ rest) (token.Signed (decimal (suc n)) ∷ ts) refl begun ((cuts-decimal (suc n) small).before rest ts c);
}

pub cuts-signed : (z : ℤ) → fits Int z ≡ true → Cuts (spaced (signed_decimal z)) (signed_tokens z)
cuts-signed (pos n) fit = let small : n < 2 ^ 31 = grind (arith, nat_tests) in cuts-decimal n (omega arith)
cuts-signed (negsuc n) fit = let small : n < 2 ^ 31 = grind (arith, nat_tests) in cuts-negative n (omega arith)
