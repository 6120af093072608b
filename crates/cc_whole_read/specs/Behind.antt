-- What the parts of reading ensure.
use Rattle.std.specs.Prelude.{◌≡◌, ℕ, ◌+◌, ◌≤◌, nat_lt, true, false, if◌then◌else◌, List, length, get_or, Result, Ok, Err}
use Rattle.cc_whole.specs.declared.unit.CUnit.{CUnit}
use Rattle.cc_whole.specs.Plain.{items_of}
use Rattle.cc_whole.specs.Fault as definition
use Rattle.cc_whole.specs.Fault.{broken}
use Rattle.cc_whole_wide.specs.Place.{decoded}
use Rattle.cc_whole.specs.SpellsItems.{SpellsItems}
use Rattle.cc_whole.specs.Spellable.{spellable_version}
use Rattle.cc_whole.specs.Valid.{first_fault}
use Rattle.cc_whole.specs.ValidUnit.{valid_unit}
use Rattle.cc_whole_read_items.specs.Answers.{NotCAt, AreItems}
use Rattle.cc_whole_valid.specs.declared.stop.Fault.{Fault}
use Rattle.cc_whole_front.specs.declared.front.Front.{Front}
use Rattle.cc_whole_first_line.specs.FirstLine.{Begins}
use Rattle.cc_whole_read.specs.declared.error.ReadErr.{ReadErr}
use Rattle.cc_whole_read.specs.declared.error.ReadErr.TheVariants as error
use Rattle.cc_whole_read.specs.Good.{all_good}
use Rattle.cc_whole_read.specs.Landmarks.{Nth}
use Rattle.cc_whole_read.specs.Read.{text_limit, IsRead}

-- the place of a token by its index; behind the last one, the end
abbrev pub place_in : List ℕ → ℕ → ℕ → ℕ
place_in places end index = if nat_lt index (length places) then get_or places index 0 else end

-- a fault at its landmark
pub record AtLandmark (front : Front) (fault : Fault) (rule at : ℕ) : Type 0 where
  pub index : ℕ
  pub nth : Nth front.tokens.items fault.place index
  pub same_rule : rule ≡ fault.rule
  pub place : at ≡ place_in front.places.items front.end index

abbrev pub FaultIs : Front → Fault → ReadErr → Type 0
FaultIs front fault (error.Invalid rule at) = AtLandmark front fault rule at
FaultIs front fault (error.NotC at) = ⊥
FaultIs front fault (error.Limit l) = ⊥
FaultIs front fault error.Memory = ⊥

-- what a fault of others tells, where so many landmarks stand before the first constant that does not fit
abbrev pub told_by : ℕ → Fault → definition.Fault
told_by wide fault = decoded wide (record { rule = fault.rule; place = fault.place })

abbrev pub TellsAt : Front → definition.Fault → ReadErr → Type 0
TellsAt front f (error.Invalid rule at) = AtLandmark front (record { rule = f.rule; place = f.place }) rule at
TellsAt front f (error.NotC at) = ⊥
TellsAt front f (error.Limit l) = ⊥
TellsAt front f error.Memory = ⊥

-- the tokens of a text, all of which spell the items of this unit
pub record Spells (front : Front) (unit : CUnit) : Type 0 where
  pub spelled : SpellsItems unit.items front.tokens.items
  pub good : all_good front.tokens.items ≡ true
  pub version : spellable_version unit.version ≡ true

-- the first fault of a unit is told where it stands
pub record Breaks (front : Front) (unit : CUnit) (rule at : ℕ) : Type 0 where
  pub index : ℕ
  pub number : ℕ
  pub fault : first_fault (items_of unit.items) ≡ broken rule number
  pub nth : Nth front.tokens.items number index
  pub place : at ≡ place_in front.places.items front.end index

pub record IsValid (unit found : CUnit) : Type 0 where
  pub same : found ≡ unit
  pub valid : valid_unit found ≡ true

-- a unit where it is valid, or its first fault
abbrev pub IsChecked : Front → CUnit → Result CUnit ReadErr → Type 0
IsChecked front unit (Ok found) = IsValid unit found
IsChecked front unit (Err (error.Invalid rule at)) = Breaks front unit rule at
IsChecked front unit (Err (error.NotC at)) = ⊥
IsChecked front unit (Err (error.Limit l)) = ⊥
IsChecked front unit (Err error.Memory) = Unit {0}

-- a unit of this version whose items the tokens spell
pub record HasUnit (version : ℕ) (front : Front) (unit : CUnit) : Type 0 where
  pub whole : front.is_whole ≡ true
  pub same_version : unit.version ≡ version
  pub spelled : SpellsItems unit.items front.tokens.items

pub record UnitIsValid (version : ℕ) (front : Front) (unit : CUnit) : Type 0 where
  pub has : HasUnit version front unit
  pub valid : valid_unit unit ≡ true

pub record UnitBreaks (version : ℕ) (front : Front) (rule at : ℕ) : Type 0 where
  pub unit : CUnit
  pub has : HasUnit version front unit
  pub breaks : Breaks front unit rule at

-- the tokens stop being C at one of them or behind them, or they are C, and no token begins behind them
pub data TokensStop (front : Front) (at : ℕ) : Type 0 where
  token : (index : ℕ) → NotCAt front.tokens.items index → at ≡ place_in front.places.items front.end index → TokensStop front at
  stray : front.is_whole ≡ false → AreItems front.tokens.items → at ≡ front.end → TokensStop front at

-- the unit of tokens at the front of some bytes
abbrev pub ReadsTokens : ℕ → Front → Result CUnit ReadErr → Type 0
ReadsTokens version front (Ok unit) = UnitIsValid version front unit
ReadsTokens version front (Err (error.NotC at)) = TokensStop front at
ReadsTokens version front (Err (error.Invalid rule at)) = UnitBreaks version front rule at
ReadsTokens version front (Err (error.Limit l)) = ⊥
ReadsTokens version front (Err error.Memory) = Unit {0}

-- the unit of a text from what stands behind its first line, before which so many bytes stand
abbrev pub ReadsBehind : ℕ → ℕ → List ℕ → Result CUnit ReadErr → Type 0
ReadsBehind before version body result =
    (text : List ℕ) → Begins text version body → before + length body ≡ length text → length text ≤ text_limit → IsRead text result
