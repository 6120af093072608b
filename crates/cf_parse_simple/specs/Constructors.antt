-- Whether a constructor's name with parameters comes next (12.1).
use Rattle.std.specs.Prelude.{ℕ, Bool, true, false, cond, ◌&&◌, ◌+◌, ◌-◌, List, length, drop, Option, Some, None, is_some}
use Rattle.cf_tokens.specs.declared.token.Token.{Token}
use Rattle.cf_syntax.specs.declared.declarator.DeclTree.{DeclTree}
use Rattle.cf_syntax.specs.declared.name.Name.{Name}
use Rattle.cf_syntax.specs.NamesData.{Names}
use Rattle.cf_syntax.specs.Grammar.{sees}
use Rattle.cf_syntax.specs.Words.{ident_at, left_paren}
use Rattle.cf_parse_expr.specs.Leaves.{a_name}
use Rattle.cf_parse_expr.specs.Named.{within}
use Rattle.cf_parse_expr.specs.Whole.{declarator_at}
use Rattle.cf_unit.specs.Declarations.{constructor, own_at, is_twice}
use Rattle.cf_unit.specs.Declares.{shape}
use Rattle.cf_unit.specs.Known.{Known}
use Rattle.cf_unit.specs.Read.{reading}

-- whether the rule for constructors can be read
unfoldable pub is_constructor : Known → List Token → Bool
is_constructor k ts = is_some (reading (constructor k) ts)

abbrev pub turned : Bool → Bool
turned b = cond b false true

-- whether more than a name was read
abbrev pub is_more : Option ((DeclTree × List ℕ) × List Token) → Bool
is_more None = false
is_more (Some q) = turned (shape q.0.0).is_bare

-- whether the identifier at the front has parameters in brackets behind it: then it is a declarator with them
unfoldable pub params_behind : Names → List Token → Bool
params_behind names ts = cond (is_some (ident_at ts)) (cond (sees left_paren (drop 1 ts)) (is_more (declarator_at names ts)) false) false

-- the tokens from the last one of those on that were taken
abbrev pub from_last : List Token → List Token → List Token
from_last ts rest = drop (length ts - (length rest + 1)) ts

abbrev pub twice_behind : Names → List Token → Option ((Name × List ℕ) × List Token) → Bool
twice_behind names ts None = false
twice_behind names ts (Some q) = cond (is_twice q.0.0.scopes q.0.0.last) (params_behind (within names q.0.1) (from_last ts q.1)) false

-- a qualified name whose last two names are equal, with parameters behind it
unfoldable pub twice_named : Names → List Token → Bool
twice_named names ts = twice_behind names ts (a_name names ts)

unfoldable pub constructs : Known → List Token → Bool
constructs k ts = cond (own_at k.own (ident_at ts) && sees left_paren (drop 1 ts)) (params_behind k.names ts) (twice_named k.names ts)
