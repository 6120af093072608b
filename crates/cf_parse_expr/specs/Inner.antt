-- What stands inside a production, by what is wanted there.
use Rattle.cf_syntax.specs.NamesData.{Names}
use Rattle.cf_syntax.specs.Parse.{Parse, then, pure}
use Rattle.cf_syntax.specs.Reading.{Readers}
use Rattle.cf_parse_expr.specs.declared.grammar.Node.{Node}
use Rattle.cf_parse_expr.specs.declared.grammar.Node.TheVariants as node
use Rattle.cf_parse_expr.specs.declared.grammar.Wanted.{Wanted}
use Rattle.cf_parse_expr.specs.declared.grammar.Wanted.TheVariants as wanted

abbrev pub inner : Readers → Wanted → Names → Parse Node
inner r wanted.Commas names = then (r.commas names) (λ x. pure (node.Expr x))
inner r wanted.Assign names = then (r.assign names) (λ x. pure (node.Expr x))
inner r wanted.Condition names = then (r.condition names) (λ x. pure (node.Expr x))
inner r wanted.Cast names = then (r.cast names) (λ x. pure (node.Expr x))
inner r wanted.Unary names = then (r.unary names) (λ x. pure (node.Expr x))
inner r wanted.TypeId names = then (r.type_id names) (λ x. pure (node.TypeId x))
inner r wanted.Params names = then (r.params names) (λ x. pure (node.Params x))
inner r (wanted.Declarator k) names = then (r.declarator k names) (λ x. pure (node.Declarator x.0 x.1))
