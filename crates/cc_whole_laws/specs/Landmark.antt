-- The landmarks among tokens: names, numbers and strings, and words but `extern` and `else`.
use Rattle.std.specs.Prelude.{ℕ, ◌+◌, List, [], ◌∷◌}
use Rattle.cc_whole_tokens.specs.declared.mark.Mark.{Mark}
use Rattle.cc_whole_tokens.specs.declared.mark.Mark.TheVariants as mark
use Rattle.cc_whole_tokens.specs.declared.token.Token.{Token}
use Rattle.cc_whole_tokens.specs.declared.token.Token.TheVariants as token
use Rattle.cc_whole.specs.Plain.{Item}
use Rattle.cc_whole.specs.Landmarks.{item_marks}

abbrev pub word_mark : Mark → ℕ
word_mark mark.Break = 1
word_mark mark.Case = 1
word_mark mark.Char = 1
word_mark mark.Continue = 1
word_mark mark.Default = 1
word_mark mark.For = 1
word_mark mark.If = 1
word_mark mark.Int = 1
word_mark mark.Return = 1
word_mark mark.Short = 1
word_mark mark.Static = 1
word_mark mark.Struct = 1
word_mark mark.Switch = 1
word_mark mark.Unsigned = 1
word_mark mark.Void = 1
word_mark mark.Pair = 1
word_mark mark.FunctionPointer = 1
word_mark m = 0

-- 1 for a landmark, else 0
abbrev pub landmark : Token → ℕ
landmark (token.Mark m) = word_mark m
landmark token.Dash = 0
landmark (token.Name name) = 1
landmark (token.Signed digits) = 1
landmark (token.Unsigned digits) = 1
landmark (token.Text bytes) = 1
landmark token.Shared = 0

-- how many there are
abbrev pub landmarks_in : List Token → ℕ
landmarks_in [] = 0
landmarks_in (t ∷ ts) = landmark t + landmarks_in ts

-- the landmarks of items, as the trees tell
abbrev pub items_marks : List Item → ℕ
items_marks [] = 0
items_marks (i ∷ rest) = item_marks i + items_marks rest
