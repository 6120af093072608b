-- The signs and reserved words of the small C.
use Rattle.std.specs.Prelude.{ℕ, Bool, List, [], ◌∷◌, codes}
use denote.Enum.Bare.{sameb}
use Rattle.cc_whole_tokens.specs.contracts.mark.Mark.{the_type}
use Rattle.cc_whole_tokens.specs.declared.mark.Mark.{Mark}
use Rattle.cc_whole_tokens.specs.declared.mark.Mark.TheVariants as mark

-- how each is spelled
abbrev pub mark_text : Mark → List ℕ
mark_text mark.LeftParen = codes "("
mark_text mark.RightParen = codes ")"
mark_text mark.LeftBrace = codes "{"
mark_text mark.RightBrace = codes "}"
mark_text mark.LeftBracket = codes "["
mark_text mark.RightBracket = codes "]"
mark_text mark.Comma = codes ","
mark_text mark.Colon = codes ":"
mark_text mark.Semicolon = codes ";"
mark_text mark.Assign = codes "="
mark_text mark.Star = codes "*"
mark_text mark.Slash = codes "/"
mark_text mark.Percent = codes "%"
mark_text mark.Plus = codes "+"
mark_text mark.Minus = codes "-"
mark_text mark.ShiftLeft = codes "<<"
mark_text mark.ShiftRight = codes ">>"
mark_text mark.Less = codes "<"
mark_text mark.Greater = codes ">"
mark_text mark.LessEqual = codes "<="
mark_text mark.GreaterEqual = codes ">="
mark_text mark.Equal = codes "=="
mark_text mark.NotEqual = codes "!="
mark_text mark.And = codes "&"
mark_text mark.Xor = codes "^"
mark_text mark.Or = codes "|"
mark_text mark.Not = codes "!"
mark_text mark.Complement = codes "~"
mark_text mark.Break = codes "break"
mark_text mark.Case = codes "case"
mark_text mark.Char = codes "char"
mark_text mark.Continue = codes "continue"
mark_text mark.Default = codes "default"
mark_text mark.Else = codes "else"
mark_text mark.Extern = codes "extern"
mark_text mark.For = codes "for"
mark_text mark.If = codes "if"
mark_text mark.Int = codes "int"
mark_text mark.Return = codes "return"
mark_text mark.Short = codes "short"
mark_text mark.Static = codes "static"
mark_text mark.Struct = codes "struct"
mark_text mark.Switch = codes "switch"
mark_text mark.Unsigned = codes "unsigned"
mark_text mark.Void = codes "void"
mark_text mark.Pair = codes "__e"
mark_text mark.FunctionPointer = codes "__f"

-- those that are words
abbrev pub words : List Mark
words =
    mark.Break ∷ mark.Case ∷ mark.Char ∷ mark.Continue ∷ mark.Default ∷ mark.Else ∷ mark.Extern ∷ mark.For ∷ mark.If ∷ mark.Int
    ∷ mark.Return ∷ mark.Short ∷ mark.Static ∷ mark.Struct ∷ mark.Switch ∷ mark.Unsigned ∷ mark.Void ∷ mark.Pair ∷ mark.FunctionPointer
    ∷ []

-- those that are signs, the longer ones first
abbrev pub signs : List Mark
signs =
    mark.ShiftLeft ∷ mark.ShiftRight ∷ mark.LessEqual ∷ mark.GreaterEqual ∷ mark.Equal ∷ mark.NotEqual ∷ mark.LeftParen ∷ mark.RightParen
    ∷ mark.LeftBrace ∷ mark.RightBrace ∷ mark.LeftBracket ∷ mark.RightBracket ∷ mark.Comma ∷ mark.Colon ∷ mark.Semicolon ∷ mark.Assign ∷ mark.Star
    ∷ mark.Slash ∷ mark.Percent ∷ mark.Plus ∷ mark.Minus ∷ mark.Less ∷ mark.Greater ∷ mark.And ∷ mark.Xor ∷ mark.Or ∷ mark.Not ∷ mark.Complement
    ∷ []

-- `==` on signs and words
unfoldable pub same_mark : Mark → Mark → Bool
same_mark = sameb the_type
