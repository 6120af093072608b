-- How rules are read from the left, without going back.
use Rattle.std.specs.Prelude.{ℕ, zero, suc, Bool, true, false, List, length, Option, Some, None, is_some, nat_lt}
use Rattle.cf_tokens.specs.declared.token.Token.{Token}
use Rattle.cf_syntax.specs.declared.expression.Expr.{Expr}
use Rattle.cf_syntax.specs.declared.reading.DeclaratorKind.TheVariants as kind
use Rattle.cf_syntax.specs.NamesData.{Names}
use Rattle.cf_syntax.specs.Parse.{Parse, with_rest}
use Rattle.cf_syntax.specs.Reading.{readers, params_in_brackets}
use Rattle.cf_syntax.specs.Words.{place}
use Rattle.cf_unit.specs.Stuck.{Spot}
use Rattle.cf_unit.specs.Rule.{Form, commas, assign, condition, left_out, late, Rule, empty, exactly, expression, declarator, parameters, then, by, rather, unless, often, until, closed, twice}

-- the reading of an expression at a depth that suffices for so many tokens
abbrev pub form_reading : Form → Names → Parse Expr
form_reading commas names ts = (readers (suc (length ts))).commas names ts
form_reading assign names ts = (readers (suc (length ts))).assign names ts
form_reading condition names ts = (readers (suc (length ts))).condition names ts

-- one of two readings
abbrev pub chosen : {A : Type 0} → Bool → Parse A → Parse A → Parse A
chosen true p q ts = p ts
chosen false p q ts = q ts

-- the first reading that answers
abbrev pub first_of : {A : Type 0} → Option (A × List Token) → Parse A → List Token → Option (A × List Token)
first_of None q ts = q ts
first_of (Some x) q ts = Some x

-- what was read, where that took a token
abbrev pub kept : {A : Type 0} → Bool → A × List Token → Option (A × List Token)
kept false q = None
kept true q = Some q

abbrev pub taking : {A : Type 0} → Option (A × List Token) → List Token → Option (A × List Token)
taking None ts = None
taking (Some q) ts = kept (nat_lt (length q.1) (length ts)) q

-- an element, where the test doesn't hold
abbrev pub element : {A : Type 0} → (List Token → Bool) → Parse A → Parse A
element ends p ts = chosen (ends ts) (λ us. None) (λ us. taking (p us) us) ts

-- a turn of a row, which ends where nothing is there
abbrev pub turn : {A : Type 0} → Option (A × List Token) → A → List Token → (A → Parse A) → Option (A × List Token)
turn None a ts more = Some (a, ts)
turn (Some q) a ts more = more q.0 q.1

-- as often as it is there, for so many tokens
abbrev pub row : {A : Type 0} → (A → Parse A) → ℕ → A → Parse A
row step zero a ts = Some (a, ts)
row step (suc n) a ts = turn (step a ts) a ts (row step n)

-- what was read, where the test holds behind it
abbrev pub up_to : {A : Type 0} → (List Token → Bool) → A → Parse A
up_to ends a ts = chosen (ends ts) (λ us. Some (a, us)) (λ us. None) ts

abbrev pub reading : {A : Type 0} → Rule A → Parse A
reading (empty x) ts = Some (x, ts)
reading (exactly p) ts = p ts
reading (expression form names) ts = form_reading form names ts
reading (declarator names) ts = (readers (suc (length ts))).declarator kind.Named names ts
reading (parameters names) ts = params_in_brackets (readers (suc (length ts))) names ts
reading (then g h) ts = with_rest (reading g ts) (λ a. reading (h a))
reading (by test g h) ts = chosen (test ts) (reading g) (reading h) ts
reading (rather g h) ts = first_of (reading g ts) (reading h) ts
reading (unless g h) ts = chosen (is_some (reading g ts)) (λ us. None) (reading h) ts
reading (often step a) ts = row (λ b us. taking (reading (step b) us) us) (length ts) a ts
reading (until ends names step a) ts = with_rest (row (λ b. element ends (reading (step b))) (length ts) a ts) (up_to ends)
reading (closed g) ts = reading g ts
reading (twice names step) ts = with_rest (reading (step left_out) ts) (λ a _. reading (step (late (names a))) ts)

-- ---- where elements are stuck

abbrev pub or_spot : Option Spot → Option Spot → Option Spot
or_spot (Some p) later = Some p
or_spot None later = later

abbrev pub spot_if : Bool → Option Spot → Option Spot → Option Spot
spot_if true p q = p
spot_if false p q = q

-- what is found behind what was read, or in its place
abbrev pub spot_by : {A : Type 0} → Option (A × List Token) → (A → List Token → Option Spot) → Option Spot → Option Spot
spot_by None found otherwise = otherwise
spot_by (Some q) found otherwise = found q.0 q.1

abbrev pub with_spot : Option Spot → (Spot → Option Spot) → Option Spot
with_spot None f = None
with_spot (Some p) f = f p

abbrev pub stuck_at : {A : Type 0} → Rule A → List Token → Option Spot
stuck_at (empty x) ts = None
stuck_at (exactly f) ts = None
stuck_at (expression form names) ts = None
stuck_at (declarator names) ts = None
stuck_at (parameters names) ts = None
stuck_at (then g h) ts = or_spot (stuck_at g ts) (spot_by (reading g ts) (λ a mid. stuck_at (h a) mid) None)
stuck_at (by test g h) ts = spot_if (test ts) (stuck_at g ts) (stuck_at h ts)
stuck_at (rather g h) ts = spot_by (reading (rather g h) ts) (λ _ _. None) (or_spot (stuck_at g ts) (stuck_at h ts))
stuck_at (unless g h) ts = spot_by (reading g ts) (λ _ _. None) (stuck_at h ts)
stuck_at (often step a) ts = spot_by (row (λ b us. taking (reading (step b) us) us) (length ts) a ts) (λ b mid. stuck_at (step b) mid) None
stuck_at (until ends names step a) ts = spot_by (row (λ b. element ends (reading (step b))) (length ts) a ts)
    (λ b mid. spot_if (ends mid) None (or_spot (stuck_at (step b) mid) (Some (record { at = place mid; names = names b })))) None
stuck_at (closed g) ts = None
stuck_at (twice names step) ts = spot_by (reading (step left_out) ts) (λ a _. stuck_at (step (late (names a))) ts)
    (with_spot (stuck_at (step left_out) ts) (λ q. stuck_at (step (late q.names)) ts))
