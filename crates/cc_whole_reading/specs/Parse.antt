-- How the code reads from a list of tokens: what it takes, and what is left behind. A refusal tells how many tokens are left at its place.
use Rattle.std.specs.Prelude.{◌≡◌, ℕ, zero, suc, Bool, true, false, if◌then◌else◌, List, [], ◌∷◌, ◌++◌, length, not, nat_le, bytes_eq, Result, Ok, Err}
use Rattle.cc_whole_tokens.specs.declared.mark.Mark.{Mark}
use Rattle.cc_whole_tokens.specs.declared.token.Token.{Token}
use Rattle.cc_whole_tokens.specs.declared.token.Token.TheVariants as token
use Rattle.cc_whole_tokens.specs.Mark.{same_mark}
use Rattle.cc_whole_reading.specs.declared.stop.Stop.{Stop}
use Rattle.cc_whole_reading.specs.declared.stop.Stop.TheVariants as stop

abbrev pub Parse : Type 0 → Type 0
Parse A = List Token → Result (A × List Token) Stop

abbrev pub and_then : {A B : Type 0} → Result (A × List Token) Stop → (A → Parse B) → Result (B × List Token) Stop
and_then (Ok p) f = f p.0 p.1
and_then (Err e) f = Err e

infixl 10 ◌>>=◌
abbrev pub ◌>>=◌ : {A B : Type 0} → Parse A → (A → Parse B) → Parse B
p >>= f = λ ts. and_then (p ts) f

abbrev pub pure : {A : Type 0} → A → Parse A
pure a = λ ts. Ok (a, ts)

-- the tokens are not C from here on
abbrev pub refuse : {A : Type 0} → Parse A
refuse = λ ts. Err (stop.NotC (length ts))

-- the same refusal, unless memory fails
abbrev pub Fails : {A : Type 0} → Result A Stop → Stop → Type 0
Fails read (stop.NotC left) = read ≡ Err (stop.NotC left)
Fails read (stop.Unfit left) = read ≡ Err (stop.Unfit left)
Fails read stop.Memory = Unit {0}

-- what a function that reads ensures, unless memory fails
abbrev pub Reads : {A : Type 0} → Result (A × List Token) Stop → Result A Stop → List Token → Type 0
Reads read (Ok a) new = read ≡ Ok (a, new)
Reads read (Err e) new = Fails read e

abbrev pub behind : List Token → List Token
behind [] = []
behind (t ∷ ts) = ts

-- whether this sign or word comes next
abbrev pub sees : Mark → List Token → Bool
sees m [] = false
sees m (token.Mark n ∷ ts) = same_mark n m
sees m (token.Dash ∷ ts) = false
sees m (token.Name word ∷ ts) = false
sees m (token.Signed digits ∷ ts) = false
sees m (token.Unsigned digits ∷ ts) = false
sees m (token.Text bytes ∷ ts) = false
sees m (token.Shared ∷ ts) = false

abbrev pub is_dash : Token → Bool
is_dash token.Dash = true
is_dash t = false

abbrev pub is_name : Token → Bool
is_name (token.Name word) = true
is_name t = false

abbrev pub is_text : Token → Bool
is_text (token.Text bytes) = true
is_text t = false

abbrev pub is_shared : Token → Bool
is_shared token.Shared = true
is_shared t = false

-- whether a token comes next that passes a test
abbrev pub sees_a : (Token → Bool) → List Token → Bool
sees_a test [] = false
sees_a test (t ∷ ts) = test t

abbrev pub is_end : List Token → Bool
is_end [] = true
is_end (t ∷ ts) = false

abbrev pub goes_on : List Token → Bool
goes_on ts = not (is_end ts)

abbrev pub sees_not : Mark → List Token → Bool
sees_not m ts = not (sees m ts)

-- the same behind the next token
abbrev pub past : {A : Type 0} → Parse A → Parse A
past p = λ ts. p (behind ts)

-- where the test of the tokens holds the first, else the second
abbrev pub if_test : {A : Type 0} → (List Token → Bool) → Parse A → Parse A → Parse A
if_test test p q = λ ts. if test ts then p ts else q ts

-- where the sign or word comes next it is taken, and the first goes on; else the second
abbrev pub if_next : {A : Type 0} → Mark → Parse A → Parse A → Parse A
if_next m p q = if_test (sees m) (past p) q

-- of two refusals of one text the one that comes later; want of memory and constants that do not fit are told in the order of the tries
abbrev pub later_of : ℕ → Stop → Stop
later_of m (stop.NotC n) = if nat_le m n then stop.NotC m else stop.NotC n
later_of m e = e

abbrev pub or_after : {A : Type 0} → ℕ → Result (A × List Token) Stop → Result (A × List Token) Stop
or_after m (Ok q) = Ok q
or_after m (Err e) = Err (later_of m e)

abbrev pub or_else : {A : Type 0} → Result (A × List Token) Stop → Result (A × List Token) Stop → Result (A × List Token) Stop
or_else (Ok q) r = Ok q
or_else (Err (stop.NotC m)) r = or_after m r
or_else (Err (stop.Unfit m)) r = Err (stop.Unfit m)
or_else (Err stop.Memory) r = Err stop.Memory

-- the first, or where the tokens are not read so the second
abbrev pub either : {A : Type 0} → Parse A → Parse A → Parse A
either p q = λ ts. or_else (p ts) (q ts)

-- one thing after another, as long as the test of the tokens lets it go on; the number bounds the turns, and each turn takes a token
unfoldable pub many : {A : Type 0} → (List Token → Bool) → Parse A → ℕ → List A → Parse (List A)
many goes one zero found = pure found
many goes one (suc n) found = λ ts. if goes ts then (one >>= (λ x. many goes one n (found ++ x ∷ []))) ts else Ok (found, ts)

-- the turns that the tokens are enough for
abbrev pub all_of : {A : Type 0} → (List Token → Bool) → Parse A → List A → Parse (List A)
all_of goes one found = λ ts. many goes one (length ts) found ts

unfoldable pub expect : Mark → Parse (Unit {0})
expect m ts = if sees m ts then Ok (tt, behind ts) else Err (stop.NotC (length ts))

unfoldable pub name : Parse (List ℕ)
name (token.Name word ∷ ts) = Ok (word, ts)
name ts = Err (stop.NotC (length ts))

unfoldable pub text : Parse (List ℕ)
text (token.Text bytes ∷ ts) = Ok (bytes, ts)
text ts = Err (stop.NotC (length ts))

-- the digit 0 alone
unfoldable pub nought : Parse (Unit {0})
nought (token.Signed digits ∷ ts) = if bytes_eq digits (48 ∷ []) then Ok (tt, ts) else Err (stop.NotC (suc (length ts)))
nought ts = Err (stop.NotC (length ts))

unfoldable pub end : Parse (Unit {0})
end [] = Ok (tt, [])
end (t ∷ ts) = Err (stop.NotC (suc (length ts)))
