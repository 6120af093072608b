-- How what stands inside a phrase is read, to a depth.
use Rattle.std.specs.Prelude.{ℕ}
use Rattle.cf_syntax.specs.declared.type_names.NameKind.{NameKind}
use Rattle.cf_syntax.specs.Parse.{Parse}
use Rattle.cf_unit.specs.declared.class.ClassDef.{ClassDef}
use Rattle.cf_unit.specs.declared.declaration.Declaration.{Declaration}
use Rattle.cf_unit.specs.declared.statement.Stmt.{Stmt}
use Rattle.cf_unit.specs.Declarations.{specified}
use Rattle.cf_unit.specs.Read.{reading}
use Rattle.cf_unit.specs.Known.{Known}
use Rattle.cf_unit.specs.Files.{inner, by_tree}

pub record Insides : Type 0 where
  pub statement : Known → Parse (Stmt × Known)
  pub class : Known → Parse ((ClassDef × NameKind) × Known)
  pub declaration : Known → Parse (Declaration × Known)

abbrev pub insides : ℕ → Insides
insides n = record {
  statement = λ k ts. reading ((inner by_tree n).statement k) ts;
  class = λ k ts. reading ((inner by_tree n).class k) ts;
  declaration = λ k ts. reading (specified (inner by_tree n) k) ts;
}
