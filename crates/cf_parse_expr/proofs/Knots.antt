-- What stands inside to a depth is what stands at a place one depth further out.
use Rattle.std.proofs.Common.{◌≡◌, ℕ, zero, suc, List, None, refl, ap}
use Rattle.cf_tokens.specs.declared.token.Token.{Token}
use Rattle.cf_syntax.specs.NamesData.{Names}
use Rattle.cf_syntax.specs.Parse.{pure, with_rest}
use Rattle.cf_syntax.specs.Reading.{readers}
use Rattle.cf_parse_expr.specs.declared.grammar.Node.TheVariants as node
use Rattle.cf_parse_expr.specs.declared.grammar.Wanted.{Wanted}
use Rattle.cf_parse_expr.specs.declared.grammar.Wanted.TheVariants as wanted
use Rattle.cf_parse_expr.specs.Inner.{inner}
use Rattle.cf_parse_expr.specs.Nodes.{node_at}
use Rattle.cf_parse_expr.proofs.Expressions.{commas-is, assign-is, condition-is, cast-is, unary-is}
use Rattle.cf_parse_expr.proofs.Declaring.{declarator-is, params-is, type_inside-is}

pub nothing-inside : (w : Wanted) (names : Names) (ts : List Token) → inner (readers zero) w names ts ≡ None
nothing-inside wanted.Commas names ts = refl
nothing-inside wanted.Assign names ts = refl
nothing-inside wanted.Condition names ts = refl
nothing-inside wanted.Cast names ts = refl
nothing-inside wanted.Unary names ts = refl
nothing-inside wanted.TypeId names ts = refl
nothing-inside wanted.Params names ts = refl
nothing-inside (wanted.Declarator k) names ts = refl

pub node-is : (n : ℕ) (w : Wanted) (names : Names) (ts : List Token) → node_at (readers n) w names ts ≡ inner (readers (suc n)) w names ts
node-is n wanted.Commas names ts = ap (λ o. with_rest o (λ x. pure (node.Expr x))) (commas-is (readers n) names ts)
node-is n wanted.Assign names ts = ap (λ o. with_rest o (λ x. pure (node.Expr x))) (assign-is (readers n) names ts)
node-is n wanted.Condition names ts = ap (λ o. with_rest o (λ x. pure (node.Expr x))) (condition-is (readers n) names ts)
node-is n wanted.Cast names ts = ap (λ o. with_rest o (λ x. pure (node.Expr x))) (cast-is (readers n) names ts)
node-is n wanted.Unary names ts = ap (λ o. with_rest o (λ x. pure (node.Expr x))) (unary-is (readers n) names ts)
node-is n wanted.TypeId names ts = ap (λ o. with_rest o (λ x. pure (node.TypeId x))) (type_inside-is (readers n) names ts)
node-is n wanted.Params names ts = ap (λ o. with_rest o (λ x. pure (node.Params x))) (params-is (readers n) names ts)
node-is n (wanted.Declarator k) names ts = ap (λ o. with_rest o (λ x. pure (node.Declarator x.0 x.1))) (declarator-is (readers n) names k ts)
