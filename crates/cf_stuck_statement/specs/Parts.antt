-- How places are put together, and rows of elements for what is known behind them.
use Rattle.std.specs.Prelude.{ℕ, zero, suc, Bool, List, length, Option, Some, None}
use Rattle.cf_tokens.specs.declared.token.Token.{Token}
use Rattle.cf_syntax.specs.Parse.{Parse, pure, with_rest, then}
use Rattle.cf_syntax.specs.Words.{place}
use Rattle.cf_unit.specs.Known.{Known}
use Rattle.cf_unit.specs.Read.{element, row, or_spot, spot_if, spot_by}
use Rattle.cf_unit.specs.Stuck.{Spot}

-- a place among tokens, by what is known there
abbrev pub Places : Type 0
Places = List Token → Option Spot

-- what is stuck behind what was read
abbrev pub behind : {A : Type 0} → Parse A → (A → Places) → Places
behind p found ts = spot_by (p ts) found None

-- nothing where this can be read, and else another place
abbrev pub unread : {A : Type 0} → Parse A → Places → Places
unread p found ts = spot_by (p ts) (λ _ _. None) (found ts)

-- what is stuck behind what was read, and else another place
abbrev pub behind_or : {A : Type 0} → Parse A → (A → Places) → Places → Places
behind_or p found other ts = spot_by (p ts) found (other ts)

-- the first of two
abbrev pub either : Places → Places → Places
either one two ts = or_spot (one ts) (two ts)

-- by a test of the tokens
abbrev pub where_seen : (List Token → Bool) → Places → Places → Places
where_seen test one two ts = spot_if (test ts) (one ts) (two ts)

abbrev pub nowhere : Places
nowhere ts = None

-- what is known behind what was read
abbrev pub known_at : {A : Type 0} → Parse (A × Known) → Parse Known
known_at p = then p (λ a. pure a.1)

-- ---- rows of elements

-- so many one behind the other
abbrev pub turns : {A : Type 0} → (A → Parse A) → ℕ → A → Parse A
turns step zero a ts = Some (a, ts)
turns step (suc n) a ts = with_rest (step a ts) (turns step n)

-- elements as far as they can be read, up to where the test holds
abbrev pub last_by : (List Token → Bool) → (Known → Parse Known) → Known → Parse Known
last_by ends step k ts = row (λ b. element ends (step b)) (length ts) k ts

-- an element's own first token, with the names that are known there
abbrev pub its_own : Known → Places
its_own k ts = Some (record { at = place ts; names = k.names })

-- behind the last element that can be read: nothing where the elements end there
abbrev pub unended : (List Token → Bool) → (Known → Places) → Known → Places
unended ends inside k = where_seen ends nowhere (either (inside k) (its_own k))

abbrev pub row_spot : (List Token → Bool) → (Known → Parse Known) → (Known → Places) → Known → Places
row_spot ends step inside k = behind (last_by ends step k) (unended ends inside)
