-- What reading answers.
use Rattle.std.specs.Prelude.{◌≡◌, ℕ, ◌+◌, ◌≤◌, ◌<◌, Bool, true, false, List, ◌++◌, length, Result, Ok, Err}
use Rattle.cf_base.specs.declared.limit.Bound.TheVariants as bound
use Rattle.cf_base.specs.declared.limit.Limit.{Limit}
use Rattle.cc_whole_tokens.specs.declared.token.Token.{Token}
use Rattle.cc_whole.specs.declared.unit.CUnit.{CUnit}
use Rattle.cc_whole.specs.Text.{FirstLine, Text}
use Rattle.cc_whole.specs.ValidUnit.{valid_unit}
use Rattle.cc_whole_refused.specs.Fronts.{Fronts}
use Rattle.cc_whole_refused.specs.NotC.{NotC}
use Rattle.cc_whole_refused.specs.Invalid.{Invalid}
use Rattle.cc_whole_front.specs.Front.{NoToken}
use Rattle.cc_whole_first_line.specs.FirstLine.{first_line}
use Rattle.cc_whole_nesting.specs.Nesting.{passes, nesting_limit}
use Rattle.cc_whole_read.specs.declared.error.ReadErr.{ReadErr}
use Rattle.cc_whole_read.specs.declared.error.ReadErr.TheVariants as error

-- the most bytes of a text that is read
abbrev pub text_limit : ℕ
text_limit = 16777216

-- The text has a first line, and these tokens behind it, up to its end or to the first byte at which no token begins.
pub record HasTokens (text : List ℕ) (tokens : List Token) : Type 0 where
  pub version : ℕ
  pub line : List ℕ
  pub body : List ℕ
  pub rest : List ℕ
  pub first : FirstLine version line
  pub parts : text ≡ line ++ body
  pub fronts : Fronts body tokens rest
  pub stops : NoToken rest

-- whether the nesting of these tokens passes the limit
pub record Nests (text : List ℕ) (deep : Bool) : Type 0 where
  pub tokens : List Token
  pub has : HasTokens text tokens
  pub nesting : passes tokens ≡ deep

-- the text is within the limits
pub record Within (text : List ℕ) : Type 0 where
  pub small : length text ≤ text_limit
  pub flat : Nests text false

-- it stops having a first line at this byte
pub record NoLine (text : List ℕ) (at : ℕ) : Type 0 where
  pub small : length text ≤ text_limit
  pub rest : List ℕ
  pub stops : first_line text ≡ Err rest
  pub place : at + length rest ≡ length text

-- no unit has the text: it has no first line, or stops being C behind it
pub data IsNotC (text : List ℕ) (at : ℕ) : Type 0 where
  no_line : NoLine text at → IsNotC text at
  behind_line : Within text → NotC text at → IsNotC text at

-- a limit that the text passes
pub data Passes (text : List ℕ) : Limit → Type 0 where
  bytes : text_limit < length text → Passes text (record { bound = bound.Text; most = text_limit })
  nesting : length text ≤ text_limit → Nests text true → Passes text (record { bound = bound.Nesting; most = nesting_limit })

pub record HasValid (text : List ℕ) (unit : CUnit) : Type 0 where
  pub within : Within text
  pub is : Text text unit
  pub valid : valid_unit unit ≡ true

-- a unit has it, which breaks this rule first
pub record IsInvalid (text : List ℕ) (rule at : ℕ) : Type 0 where
  pub within : Within text
  pub fault : Invalid text rule at

-- The unit that is read has the text and is valid. A refusal tells where the text stops being C, which rule its unit breaks first and where, or which
-- limit it passes. Nothing is said where memory fails.
abbrev pub IsRead : List ℕ → Result CUnit ReadErr → Type 0
IsRead text (Ok unit) = HasValid text unit
IsRead text (Err (error.NotC at)) = IsNotC text at
IsRead text (Err (error.Invalid rule at)) = IsInvalid text rule at
IsRead text (Err (error.Limit l)) = Passes text l
IsRead text (Err error.Memory) = Unit {0}

-- The answer is this unit, unless memory fails.
abbrev pub IsUnit : CUnit → Result CUnit ReadErr → Type 0
IsUnit unit (Ok found) = found ≡ unit
IsUnit unit (Err (error.NotC at)) = ⊥
IsUnit unit (Err (error.Invalid rule at)) = ⊥
IsUnit unit (Err (error.Limit l)) = ⊥
IsUnit unit (Err error.Memory) = Unit {0}
