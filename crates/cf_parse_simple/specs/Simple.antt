-- Declarations up to their `;` (7), read step by step: the readings by words that stay shut.
use Rattle.std.specs.Prelude.{ℕ, List, None}
use Rattle.cf_syntax.specs.Grammar.{here}
use Rattle.cf_syntax.specs.Parse.{Parse, pure, then}
use Rattle.cf_parse_decl.specs.Insides.{insides}
use Rattle.cf_parse_decl.specs.Statements.{by}
use Rattle.cf_parse_simple.specs.Declarators.{declarators}
use Rattle.cf_parse_simple.specs.Specifiers.{specifiers}
use Rattle.cf_unit.specs.declared.declaration.Declaration.{Declaration}
use Rattle.cf_unit.specs.declared.declaration.InitDeclarator.{InitDeclarator}
use Rattle.cf_unit.specs.declared.reading.Given.{Given}
use Rattle.cf_unit.specs.Declarations.{is_given}
use Rattle.cf_unit.specs.Known.{Known, open_scopes}

abbrev pub declaration : ℕ → Given → List InitDeclarator × Known → Declaration × Known
declaration at g all = (record { at = at; specifiers = g.list; declarators = all.0 }, all.1)

module _ (depth : ℕ) where
  -- [idecl {"," idecl}] ";"
  unfoldable pub behind : ℕ → ℕ → Given → Known → Parse (Declaration × Known)
  behind at home g k = then (declarators depth home g k) (λ all. pure (declaration at g all))

  -- {spec} [idecl {"," idecl}] ";"
  unfoldable pub simple : Known → Parse (Declaration × Known)
  simple k = then here (λ at. then (specifiers (insides depth) k) (λ s. behind at (open_scopes k.names) s.0 s.1))

  -- the same with one specifier at least
  unfoldable pub specified : Known → Parse (Declaration × Known)
  specified k = then here (λ at. then (specifiers (insides depth) k) (λ s.
      by (λ _. is_given s.0) (behind at (open_scopes k.names) s.0 s.1) (λ _. None)))
