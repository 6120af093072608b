-- What is read at a place: the readings of the grammar to a depth of one more than the tokens, which no phrase passes.
use Rattle.std.specs.Prelude.{ℕ, suc, List, length}
use Rattle.cf_syntax.specs.declared.declarator.DeclTree.{DeclTree}
use Rattle.cf_syntax.specs.declared.declarator.Param.{Param}
use Rattle.cf_syntax.specs.declared.declarator.TypeId.{TypeId}
use Rattle.cf_syntax.specs.declared.expression.Expr.{Expr}
use Rattle.cf_syntax.specs.declared.reading.DeclaratorKind.TheVariants as kind
use Rattle.cf_syntax.specs.NamesData.{Names}
use Rattle.cf_syntax.specs.Parse.{Parse}
use Rattle.cf_syntax.specs.Reading.{readers}

unfoldable pub commas_at : Names → Parse Expr
commas_at names ts = (readers (suc (length ts))).commas names ts

unfoldable pub assign_at : Names → Parse Expr
assign_at names ts = (readers (suc (length ts))).assign names ts

unfoldable pub condition_at : Names → Parse Expr
condition_at names ts = (readers (suc (length ts))).condition names ts

unfoldable pub declarator_at : Names → Parse (DeclTree × List ℕ)
declarator_at names ts = (readers (suc (length ts))).declarator kind.Named names ts

unfoldable pub params_at : Names → Parse (List Param)
params_at names ts = (readers (suc (length ts))).params names ts

unfoldable pub type_id_at : Names → Parse TypeId
type_id_at names ts = (readers (suc (length ts))).type_id names ts
