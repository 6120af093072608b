-- Classes up to their `{` (9, 10), read step by step: the readings by words that stay shut.
use Rattle.std.specs.Prelude.{ℕ, List, Option, Some, None}
use Rattle.cf_syntax.specs.declared.specifier.ClassKey.{ClassKey}
use Rattle.cf_syntax.specs.declared.type_names.Scope.TheVariants as scope
use Rattle.cf_syntax.specs.NamesData.{Names}
use Rattle.cf_syntax.specs.Names.{with_bases, with_scope}
use Rattle.cf_syntax.specs.Parse.{Parse, pure, then, word}
use Rattle.cf_parse_class.specs.Parts.{class_key}
use Rattle.cf_parse_member.specs.declared.heads.Head.{Head}
use Rattle.cf_unit.specs.declared.class.Base.{Base}
use Rattle.cf_unit.specs.Declarations.{maybe_identifier}
use Rattle.cf_unit.specs.Enters.{class_to_define}
use Rattle.cf_unit.specs.Known.{Known}
use Rattle.cf_unit.specs.Members.{bases}
use Rattle.cf_unit.specs.Pieces.{left_brace}
use Rattle.cf_unit.specs.Read.{reading}
use Rattle.cf_unit.specs.Rule.{Bodies}

-- [ID]
unfoldable pub name_at : Parse (Option (ℕ × List ℕ))
name_at ts = reading maybe_identifier ts

-- [":" base {"," base}]
unfoldable pub bases_at : Names → Parse (List Base × List ℕ)
bases_at names ts = reading (bases names) ts

-- the name without its place
abbrev pub name_of : Option (ℕ × List ℕ) → Option (List ℕ)
name_of None = None
name_of (Some n) = Some n.1

-- what is known in the class: it is defined from its `{` on
abbrev pub inside_class : Bodies → Names → ℕ → List ℕ → Option (ℕ × List ℕ) → Known
inside_class ways names class numbers name =
    record { names = with_scope (with_bases names class numbers) (scope.Class class); bodies = ways; own = name_of name }

abbrev pub head_of : ℕ × ClassKey → Option (ℕ × List ℕ) → List Base → ℕ → Head
head_of c name bs class = record { at = c.0; key = c.1; name = name; bases = bs; class = class }

-- [":" base {"," base}] "{"
unfoldable pub head_behind : ℕ × ClassKey → Option (ℕ × List ℕ) → ℕ → Bodies → Names → Parse (Head × Known)
head_behind c name class ways names = then (bases_at names) (λ bs. then (word left_brace) (λ _.
    pure (head_of c name bs.0 class, inside_class ways names class bs.1 name)))

-- (class | struct) [ID] [":" base {"," base}] "{": the name is entered before the bases are read
unfoldable pub head : Bodies → Names → Parse (Head × Known)
head ways names = then class_key (λ c. then name_at (λ name.
    head_behind c name (class_to_define names name).0 ways (class_to_define names name).1))
