-- The byte at which the first broken rule of validity stands in a text.
use Rattle.std.specs.Prelude.{◌≡◌, ℕ, ◌+◌, List, ◌++◌, length}
use Rattle.cc_whole_tokens.specs.declared.token.Token.{Token}
use Rattle.cc_whole.specs.declared.unit.CUnit.{CUnit}
use Rattle.cc_whole.specs.Plain.{items_of}
use Rattle.cc_whole.specs.Fault.{broken}
use Rattle.cc_whole.specs.Valid.{first_fault}
use Rattle.cc_whole.specs.Text.{FirstLine, Text}
use Rattle.cc_whole_laws.specs.Landmark.{landmark, landmarks_in}
use Rattle.cc_whole_refused.specs.Fronts.{Begins, Fronts}

-- The text is that of a unit whose first fault is this rule's, at the landmark that begins at this byte.
pub record Invalid (text : List ℕ) (rule at : ℕ) : Type 0 where
  pub unit : CUnit
  pub number : ℕ
  pub line : List ℕ
  pub body : List ℕ
  pub tokens : List Token
  pub next : Token
  pub rest : List ℕ
  pub is : Text text unit
  pub fault : first_fault (items_of unit.items) ≡ broken rule number
  pub first : FirstLine unit.version line
  pub parts : text ≡ line ++ body
  pub fronts : Fronts body tokens rest
  pub begins : Begins rest next
  pub is_landmark : landmark next ≡ 1
  pub before : landmarks_in tokens ≡ number
  pub place : at + length rest ≡ length text
