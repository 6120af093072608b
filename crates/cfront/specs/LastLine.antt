-- The line that an answer writes to `err` at the end, and the status that the program ends with.
use Rattle.std.specs.Prelude.{◌≡◌, ℕ, ◌+◌, ◌-◌, ◌==◌, if◌then◌else◌, List, [], ◌∷◌, ◌++◌, codes, decimal, Option, Some, None, Result, Ok, Err, get_or}
use Rattle.std.specs.List.{concat}
use Rattle.std.specs.Fmt.{signed_decimal}
use Rattle.cf_base.specs.declared.limit.Bound.{Bound}
use Rattle.cf_base.specs.declared.limit.Bound.TheVariants as bound
use Rattle.cf_base.specs.Integers.{bits_of}
use Rattle.cf_base.specs.Rule.{sections, texts}
use Rattle.cc_whole_memory.specs.Store.{act_number}
use Rattle.cfront.specs.declared.outcome.Outcome.{Outcome}
use Rattle.cfront.specs.declared.outcome.Outcome.TheVariants as answer
use Rattle.cfront.specs.declared.position.Position.{Position}

-- the name of the FILE of this number, from 1
abbrev pub file_name : List (List ℕ) → ℕ → List ℕ
file_name names number = get_or names (number - 1) []

-- what a limit counts
abbrev pub bound_name : Bound → List ℕ
bound_name bound.Bytes = codes "Bytes"
bound_name bound.Tokens = codes "Tokens"
bound_name bound.Nesting = codes "Nesting"
bound_name bound.Classes = codes "Classes"
bound_name bound.Subobjects = codes "Subobjects"
bound_name bound.Size = codes "Size"
bound_name bound.Names = codes "Names"
bound_name bound.Entries = codes "Entries"
bound_name bound.Frame = codes "Frame"
bound_name bound.Destroyed = codes "Destroyed"
bound_name bound.Units = codes "Units"
bound_name bound.Text = codes "Text"
bound_name bound.Static = codes "Static"
bound_name bound.Nodes = codes "Nodes"

-- the section of a rule stands in brackets; rule 48 is about none
abbrev pub opening : ℕ → List ℕ
opening rule = if rule == 48 then [] else codes " ("

abbrev pub section : ℕ → List ℕ
section rule = if rule == 48 then [] else get_or sections (rule - 1) []

abbrev pub closing : ℕ → List ℕ
closing rule = if rule == 48 then codes " " else codes ") "

-- where a limit was passed
abbrev pub limit_place : List (List ℕ) → Option ℕ → List ℕ
limit_place names None = codes "cfront"
limit_place names (Some number) = file_name names number

-- the position is that of a refusal
abbrev pub last_line : List (List ℕ) → Position → Outcome → List ℕ
last_line names position (answer.Ended status) = concat (codes "cfront: ended " ∷ signed_decimal status ∷ codes "\n" ∷ [])
last_line names position answer.Ticks = concat (codes "cfront: out of ticks\n" ∷ [])
last_line names position answer.Depth = concat (codes "cfront: too deep\n" ∷ [])
last_line names position (answer.Undefined act) = concat (codes "cfront: undefined act A" ∷ decimal (act_number act) ∷ codes "\n" ∷ [])
last_line names position (answer.Frames product) = concat (codes "cfront: frames " ∷ decimal product ∷ codes "\n" ∷ [])
last_line names position answer.Usage = concat (codes "usage: cfront go|translate|layout|link|run|name|sample\n" ∷ [])
last_line names position (answer.Refused file rule at) =
    concat (file_name names file ∷ codes ":" ∷ decimal position.line ∷ codes ":" ∷ decimal position.column ∷ codes ": K" ∷ decimal rule
    ∷ opening rule ∷ section rule ∷ closing rule ∷ get_or texts (rule - 1) [] ∷ codes "\n" ∷ [])
last_line names position (answer.Limit file limit) =
    concat (limit_place names file ∷ codes ": limit " ∷ bound_name limit.bound ∷ codes " " ∷ decimal limit.most ∷ codes "\n" ∷ [])
last_line names position (answer.LinkRefused rule name) = concat (codes "link: L" ∷ decimal rule ∷ codes " " ∷ name ∷ codes "\n" ∷ [])
last_line names position answer.FileFault = concat (codes "cfront: file fault\n" ∷ [])
last_line names position answer.SourceFault = concat (codes "cfront: source fault\n" ∷ [])
last_line names position answer.SinkFault = concat (codes "cfront: sink fault\n" ∷ [])

-- the status that the program ends with
abbrev pub status_of : Outcome → ℕ
status_of (answer.Ended status) = bits_of 8 status
status_of answer.Usage = 101
status_of (answer.Refused file rule at) = 102
status_of (answer.LinkRefused rule name) = 103
status_of answer.FileFault = 104
status_of answer.SourceFault = 105
status_of answer.SinkFault = 106
status_of answer.Ticks = 107
status_of answer.Depth = 108
status_of (answer.Undefined act) = 110
status_of (answer.Frames product) = 111
status_of (answer.Limit file limit) = 113

-- of the whole answer, want of memory too
abbrev pub exit_status : {M : Type 0} → Result Outcome M → ℕ
exit_status (Ok outcome) = status_of outcome
exit_status (Err memory) = 109
