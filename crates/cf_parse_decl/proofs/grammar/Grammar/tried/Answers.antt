use Rattle.std.proofs.Common.{◌≡◌, false, refl, rules}
use Rattle.cf_syntax.specs.Parse.{pure}
use Rattle.cf_unit.specs.declared.statement.Stmt.TheVariants as stmt
use Rattle.cf_parse_decl.specs.Insides.{insides}
use Rattle.cf_parse_decl.specs.Statements.{declaration_statement}
use Rattle.cf_parse_decl.specs.Trial.{may_declare}
use Rattle.cf_parse_decl.proofs.Beginnings.{none-rest, cannot-declare}
use Rattle.cf_parse_decl.proofs.grammar.Grammar.tried.Goals as goal

pub returns-then-not-branch : goal.returns-then-not-branch
unfolding declaration_statement
returns-then-not-branch g c =
    let cannot : may_declare c.args.known.now.names c.args.c.now ≡ false = search rules in (
      none-rest ((insides c.args.self.now.depth).declaration c.args.known.now c.args.c.now) (λ d. pure (stmt.Declaration d.0, d.1))
          (cannot-declare c.args.self.now.depth c.args.known.now c.args.c.now cannot),
      refl,
      refl,
    )
