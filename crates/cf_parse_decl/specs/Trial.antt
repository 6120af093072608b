-- Whether a declaration can begin, and what a try of one gives.
use Rattle.std.specs.Prelude.{◌≡◌, ℕ, Bool, true, false, cond, List, [], ◌∷◌, Option, Some, None, is_some, Result, Ok, Err}
use Rattle.cf_base.specs.declared.memory.Memory.{Memory}
use Rattle.cf_tokens.specs.declared.token.Token.{Token}
use Rattle.cf_syntax.specs.NamesData.{Names}
use Rattle.cf_syntax.specs.Grammar.{begins}
use Rattle.cf_syntax.specs.Words.{class_word, struct_word, enum_word}
use Rattle.cf_parse_expr.specs.Specified.{specifier_at}
use Rattle.cf_unit.specs.Known.{Known}

-- the words of classes and enumerations
abbrev pub keys : List ℕ
keys = class_word ∷ struct_word ∷ enum_word ∷ []

-- whether a specifier or a definition can stand here: where none can, no declaration begins
unfoldable pub may_declare : Names → List Token → Bool
may_declare names ts = cond (begins keys ts) true (is_some (specifier_at names false ts))

-- what was read, or else nothing has changed
abbrev pub Tries : {A : Type 0} → Option ((A × Known) × List Token) → Result (Option A) Memory → Known → List Token → Known → List Token → Type 0
Tries read (Ok (Some a)) before at known ts = read ≡ Some ((a, known), ts)
Tries read (Ok None) before at known ts = (read ≡ None) × (known ≡ before) × (ts ≡ at)
Tries read (Err e) before at known ts = Unit {0}
