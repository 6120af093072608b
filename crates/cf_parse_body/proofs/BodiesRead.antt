-- Bodies read step by step are those that the grammar's rules read.
use Rattle.std.proofs.Common.{◌≡◌, ℕ, List, refl, ap}
use Rattle.cf_tokens.specs.declared.token.Token.{Token}
use Rattle.cf_syntax.specs.NamesData.{Names}
use Rattle.cf_syntax.specs.Parse.{pure, with_rest}
use Rattle.cf_parse_decl.specs.Statements as statements
use Rattle.cf_parse_expr.proofs.Steps.{with-rest-same}
use Rattle.cf_unit.specs.Bodies as rule
use Rattle.cf_unit.specs.Bodies.{with_params, behind_body, behind_late}
use Rattle.cf_unit.specs.Declares.{Shape}
use Rattle.cf_unit.specs.Files.{inner, by_tree}
use Rattle.cf_unit.specs.Known.{Known, late_names}
use Rattle.cf_unit.specs.Read.{reading}
use Rattle.cf_unit.specs.Rule.{Bodies, at_once, left_out, late}
use Rattle.cf_parse_body.proofs.InitsRead.{member-inits-is}
use Rattle.cf_parse_body.specs.Bodies as steps
use Rattle.cf_parse_body.specs.Inits.{member_inits}

module _ (n : ℕ) where
  -- a body read step by step is what its rule reads
  pub body-is : (names : Names) (ts : List Token) → steps.body n names ts ≡ reading (rule.body (inner by_tree n) names) ts
  unfolding steps.body statements.block statements.statements statements.next_statement
  body-is names ts = with-rest-same (member_inits names ts) (reading (rule.member_inits names) ts) _ _ (member-inits-is names ts) (λ inits us. refl)

  -- and so in each way in which bodies are read
  pub body-by-is : (ways : Bodies) (home : ℕ) (s : Shape) (k : Known) (ts : List Token)
      → steps.body_by n ways home s k ts ≡ reading (rule.body_by (inner by_tree n) ways home s k) ts
  unfolding steps.body_by steps.body_at_once steps.body_left_out steps.body_late
  body-by-is at_once home s k ts = ap (λ o. with_rest o (λ b. pure (b.0, behind_body home k b.1))) (body-is (with_params k.names s) ts)
  body-by-is left_out home s k ts = refl
  body-by-is (late end) home s k ts = ap (λ o. with_rest o (λ b. pure (b.0, behind_late home k end b.1))) (body-is (with_params (late_names end k.names) s) ts)
