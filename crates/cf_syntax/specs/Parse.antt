-- Reading from a list of tokens: what is read, with the tokens behind it, or nothing.
use Rattle.std.specs.Prelude.{ℕ, zero, suc, Bool, cond, List, [], ◌∷◌, length, Option, Some, None, nat_eq}
use Rattle.cf_tokens.specs.declared.token.Token.{Token}
use Rattle.cf_syntax.specs.Words.{code}

abbrev pub Parse : Type 0 → Type 0
Parse A = List Token → Option (A × List Token)

abbrev pub pure : {A : Type 0} → A → Parse A
pure x ts = Some (x, ts)

abbrev pub none : {A : Type 0} → Parse A
none ts = None

abbrev pub with_rest : {A B : Type 0} → Option (A × List Token) → (A → Parse B) → Option (B × List Token)
with_rest None f = None
with_rest (Some q) f = f q.0 q.1

-- one after the other
abbrev pub then : {A B : Type 0} → Parse A → (A → Parse B) → Parse B
then p f ts = with_rest (p ts) f

-- by a test of the tokens
abbrev pub choose : {A : Type 0} → (List Token → Bool) → Parse A → Parse A → Parse A
choose test p q ts = cond (test ts) (p ts) (q ts)

abbrev pub or_stop : {A : Type 0} → A → List Token → Option (A × List Token) → Option (A × List Token)
or_stop a ts None = Some (a, ts)
or_stop a ts (Some q) = Some q

-- what follows a value, if it is there
abbrev pub option : {A : Type 0} → (A → Parse A) → A → Parse A
option step a ts = or_stop a ts (step a ts)

abbrev pub turn : {A : Type 0} → Option (A × List Token) → A → List Token → (A → Parse A) → Option (A × List Token)
turn None a ts more = Some (a, ts)
turn (Some q) a ts more = more q.0 q.1

-- so many times at most, as long as it is there
abbrev pub loop : {A : Type 0} → (A → Parse A) → ℕ → A → Parse A
loop step zero a ts = Some (a, ts)
loop step (suc n) a ts = turn (step a ts) a ts (loop step n)

-- as often as it is there
abbrev pub repeat : {A : Type 0} → (A → Parse A) → A → Parse A
repeat step a ts = loop step (length ts) a ts

-- the word of this code, with its place
abbrev pub word : ℕ → Parse ℕ
word n [] = None
word n (t ∷ ts) = cond (nat_eq (code t.word) n) (Some (t.at, ts)) None
