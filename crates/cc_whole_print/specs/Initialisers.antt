-- The text that is printed for what stands in a variable before a run.
use Rattle.std.specs.Prelude.{ℕ, ◌+◌, ◌/◌, ◌%◌, if◌then◌else◌, Option, Some, None, List, [], ◌∷◌, ◌++◌, map}
use Rattle.std.specs.List.{concat}
use Rattle.cc_whole_tokens.specs.declared.mark.Mark.TheVariants as mark
use Rattle.cc_whole_tokens.specs.Cut.{is_itself}
use Rattle.cc_whole.specs.declared.unit.CPair.{CPair}
use Rattle.cc_whole.specs.declared.unit.CInitialiser.{CInitialiser}
use Rattle.cc_whole.specs.declared.unit.CInitialiser.TheVariants as initialiser
use Rattle.cc_whole_print.specs.Lines.{spaced, printed_mark, printed_inside, constant_text, with_commas}

-- a backslash and three octal digits
abbrev pub escaped_text : ℕ → List ℕ
escaped_text b = 92 ∷ (48 + b / 64) ∷ (48 + b / 8 % 8) ∷ (48 + b % 8) ∷ []

abbrev pub byte_text : ℕ → List ℕ
byte_text b = if is_itself b then b ∷ [] else escaped_text b

abbrev pub string_text : List ℕ → List ℕ
string_text bytes = 34 ∷ (concat (map byte_text bytes) ++ (34 ∷ 32 ∷ []))

-- a function's name, or 0 where there is none
abbrev pub function_text : Option (List ℕ) → List ℕ
function_text None = 48 ∷ 32 ∷ []
function_text (Some name) = spaced name

-- `{constant, function}`
abbrev pub pair_text : CPair → List ℕ
pair_text p =
    printed_inside mark.LeftBrace
    ++ (constant_text p.number ++ (printed_mark mark.Comma ++ (function_text p.function ++ printed_inside mark.RightBrace)))

abbrev pub pairs_text : List CPair → List ℕ
pairs_text all = with_commas (map pair_text all)

abbrev pub initialiser_text : Option CInitialiser → List ℕ
initialiser_text None = []
initialiser_text (Some (initialiser.Text bytes)) = printed_mark mark.Assign ++ string_text bytes
initialiser_text (Some (initialiser.Pairs all)) =
    printed_mark mark.Assign ++ (printed_inside mark.LeftBrace ++ (pairs_text all ++ printed_inside mark.RightBrace))
