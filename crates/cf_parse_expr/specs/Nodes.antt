-- What stands at a place, by what is wanted there, one depth further out than `inner`.
use Rattle.cf_syntax.specs.NamesData.{Names}
use Rattle.cf_syntax.specs.Parse.{Parse, then, pure}
use Rattle.cf_syntax.specs.Reading.{Readers}
use Rattle.cf_parse_expr.specs.declared.grammar.Node.{Node}
use Rattle.cf_parse_expr.specs.declared.grammar.Node.TheVariants as node
use Rattle.cf_parse_expr.specs.declared.grammar.Wanted.{Wanted}
use Rattle.cf_parse_expr.specs.declared.grammar.Wanted.TheVariants as wanted
use Rattle.cf_parse_expr.specs.Binaries.{commas, assign, condition}
use Rattle.cf_parse_expr.specs.Unaries.{cast, unary}
use Rattle.cf_parse_expr.specs.Declarators.{declarator}
use Rattle.cf_parse_expr.specs.Params.{params, type_inside}

abbrev pub node_at : Readers → Wanted → Names → Parse Node
node_at r wanted.Commas names = then (commas r names) (λ x. pure (node.Expr x))
node_at r wanted.Assign names = then (assign r names) (λ x. pure (node.Expr x))
node_at r wanted.Condition names = then (condition r names) (λ x. pure (node.Expr x))
node_at r wanted.Cast names = then (cast r names) (λ x. pure (node.Expr x))
node_at r wanted.Unary names = then (unary r names) (λ x. pure (node.Expr x))
node_at r wanted.TypeId names = then (type_inside r names) (λ x. pure (node.TypeId x))
node_at r wanted.Params names = then (params r names) (λ x. pure (node.Params x))
node_at r (wanted.Declarator k) names = then (declarator r k names) (λ x. pure (node.Declarator x.0 x.1))
