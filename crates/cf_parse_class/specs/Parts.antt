-- Parts of classes, read step by step: the readings by words that stay shut.
use Rattle.std.specs.Prelude.{◌≡◌, ℕ, cond, List, [], ◌∷◌, ◌++◌, length, Option, Some, None, Result, Ok, Err}
use Rattle.cf_tokens.specs.declared.token.Token.{Token}
use Rattle.cf_syntax.specs.NamesData.{Names}
use Rattle.cf_syntax.specs.Grammar.{sees, here}
use Rattle.cf_syntax.specs.Parse.{Parse, pure, then, word}
use Rattle.cf_syntax.specs.Words.{comma, colon, equals, class_word}
use Rattle.cf_syntax.specs.declared.specifier.ClassKey.{ClassKey}
use Rattle.cf_syntax.specs.declared.specifier.ClassKey.TheVariants as key
use Rattle.cf_parse_expr.specs.Leaves.{a_type_path}
use Rattle.cf_parse_expr.specs.Reads.{StopsAs}
use Rattle.cf_parse_expr.specs.declared.stop.Stop.{Stop}
use Rattle.cf_parse_expr.specs.declared.stop.Stop.TheVariants as stop
use Rattle.cf_unit.specs.declared.class.Base.{Base}
use Rattle.cf_unit.specs.declared.class.BaseWord.{BaseWord}
use Rattle.cf_unit.specs.Read.{chosen, taking, row}
use Rattle.cf_unit.specs.Pieces.{zero_constant, identifier, sees_identifier}
use Rattle.cf_unit.specs.Enters.{path_kind, base_number}
use Rattle.cf_unit.specs.Members.{next_base_word}
use Rattle.cf_parse_class.specs.declared.bases.Bases.{Bases}

-- what stands behind a body that is passed over
abbrev pub Passes : Option (List Token) → Result (Unit {0}) Stop → List Token → Type 0
Passes past (Ok x) ts = past ≡ Some ts
Passes past (Err stop.Nothing) ts = past ≡ None
Passes past (Err stop.Memory) ts = Unit {0}

-- {virtual | public | private}
unfoldable pub base_words : Parse (List (ℕ × BaseWord))
base_words ts = row (λ b us. taking (next_base_word b us) us) (length ts) [] ts

-- ["=" "0"]
unfoldable pub pure_behind : Parse (Option ℕ)
pure_behind = λ ts. chosen (sees equals ts) (then (word equals) (λ at. then zero_constant (λ _. pure (Some at)))) (pure None) ts

abbrev pub with_base : Names → Bases → Base → Bases
with_base names s b = record { list = s.list ++ b ∷ []; classes = s.classes ++ base_number names (path_kind names b.path) }

-- {virtual | public | private} qtype
unfoldable pub one_base : Names → Parse Base
one_base names = then here (λ at. then base_words (λ words. then (a_type_path names) (λ p. pure (record { at = at; words = words; path = p }))))

-- a number, if there is one, as a list
abbrev pub number_as : Option ℕ → List ℕ → Type 0
number_as None numbers = numbers ≡ []
number_as (Some n) numbers = numbers ≡ n ∷ []

abbrev pub no_bases : Bases
no_bases = record { list = []; classes = [] }

-- "," base
unfoldable pub next_base : Names → Parse Base
next_base names = then (word comma) (λ _. one_base names)

unfoldable pub base_turn : Names → Bases → Parse Bases
base_turn names s = then (next_base names) (λ b. pure (with_base names s b))

unfoldable pub more_bases : Names → Bases → Parse Bases
more_bases names s ts = row (λ b us. taking (base_turn names b us) us) (length ts) s ts

-- base {"," base}
unfoldable pub some_bases : Names → Parse Bases
some_bases names = then (one_base names) (λ b. more_bases names (with_base names no_bases b))

-- [":" base {"," base}]
unfoldable pub bases_behind : Names → Parse Bases
bases_behind names = λ ts. chosen (sees colon ts) (then (word colon) (λ _. some_bases names)) (pure no_bases) ts

-- (class | struct)
unfoldable pub class_key : Parse (ℕ × ClassKey)
class_key [] = None
class_key (t ∷ ts) = Some ((t.at, cond (sees class_word (t ∷ ts)) key.Class key.Struct), ts)

-- an identifier, if one comes next
unfoldable pub maybe_identifier : Parse (Option (ℕ × List ℕ))
maybe_identifier = λ ts. chosen (sees_identifier ts) (then identifier (λ n. pure (Some n))) (pure None) ts

-- the same as Reads, of bases with the numbers of their classes
abbrev pub ReadsBases : Option ((List Base × List ℕ) × List Token) → Result Bases Stop → List Token → Type 0
ReadsBases read (Ok s) new = read ≡ Some ((s.list, s.classes), new)
ReadsBases read (Err e) new = StopsAs read e
