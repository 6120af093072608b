-- Bodies of functions (8.3, 9.3.2), read step by step: the readings by words that stay shut.
use Rattle.std.specs.Prelude.{◌≡◌, ℕ, List, Option, Some, Result, Ok, Err}
use Rattle.cf_tokens.specs.declared.token.Token.{Token}
use Rattle.cf_syntax.specs.NamesData.{Names}
use Rattle.cf_syntax.specs.Parse.{Parse, pure, then}
use Rattle.cf_parse_body.specs.declared.bodies.Body.{Body as Held}
use Rattle.cf_parse_body.specs.Inits.{member_inits}
use Rattle.cf_parse_decl.specs.Insides.{insides}
use Rattle.cf_parse_decl.specs.Statements.{block}
use Rattle.cf_parse_expr.specs.Reads.{StopsAs}
use Rattle.cf_parse_expr.specs.declared.stop.Stop.{Stop}
use Rattle.cf_unit.specs.Bodies.{Body, passed_over, with_params, behind_body, behind_late, behind_left_out}
use Rattle.cf_unit.specs.Declares.{Shape}
use Rattle.cf_unit.specs.Known.{Known, in_block, late_names}
use Rattle.cf_unit.specs.Rule.{Bodies, at_once, left_out, late}

-- ---- what functions give

-- a body as the rules have it
abbrev pub whole : Held → Body
whole b = (b.initialisers, b.at, b.statements)

-- the same as Gives, of a body
abbrev pub GivesBody : Option ((Body × Known) × List Token) → Result Held Stop → Known → List Token → Type 0
GivesBody read (Ok b) known ts = read ≡ Some ((whole b, known), ts)
GivesBody read (Err e) known ts = StopsAs read e

-- the same as Reads, of a body with what is known behind it
abbrev pub ReadsBody : Option ((Body × Known) × List Token) → Result (Held × Known) Stop → List Token → Type 0
ReadsBody read (Ok b) ts = read ≡ Some ((whole b.0, b.1), ts)
ReadsBody read (Err e) ts = StopsAs read e

-- ---- bodies

-- the initialisers and the block are passed over
unfoldable pub body_left_out : ℕ → Known → Parse (Body × Known)
body_left_out home k = then passed_over (λ b. pure (b, behind_left_out home k))

module _ (depth : ℕ) where
  -- [":" minit {"," minit}] block
  unfoldable pub body : Names → Parse (Body × Known)
  body names = then (member_inits names) (λ inits. then (block (insides depth) (in_block names)) (λ b. pure ((inits, b.0.0, b.0.1), b.1)))

  unfoldable pub body_at_once : ℕ → Shape → Known → Parse (Body × Known)
  body_at_once home s k = then (body (with_params k.names s)) (λ b. pure (b.0, behind_body home k b.1))

  unfoldable pub body_late : Names → ℕ → Shape → Known → Parse (Body × Known)
  body_late end home s k = then (body (with_params (late_names end k.names) s)) (λ b. pure (b.0, behind_late home k end b.1))

  unfoldable pub body_by : Bodies → ℕ → Shape → Known → Parse (Body × Known)
  body_by at_once home s k = body_at_once home s k
  body_by left_out home s k = body_left_out home k
  body_by (late end) home s k = body_late end home s k
