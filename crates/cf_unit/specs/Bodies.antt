-- Functions with their bodies (8.3, 9.3.2, 12.6.2).
use Rattle.std.specs.Prelude.{ℕ, zero, suc, Bool, true, false, List, [], ◌∷◌, ◌++◌, length, nat_eq, Option, Some, None}
use Rattle.cf_tokens.specs.declared.token.Token.{Token}
use Rattle.cf_syntax.specs.NamesData.{Names}
use Rattle.cf_syntax.specs.Grammar.{sees}
use Rattle.cf_syntax.specs.Named.{ident_path}
use Rattle.cf_syntax.specs.Parse.{Parse}
use Rattle.cf_syntax.specs.Words.{code, comma, colon}
use Rattle.cf_unit.specs.declared.class.FunctionDef.{FunctionDef}
use Rattle.cf_unit.specs.declared.class.MemberInit.{MemberInit}
use Rattle.cf_unit.specs.declared.reading.Given.{Given}
use Rattle.cf_unit.specs.declared.statement.Stmt.{Stmt}
use Rattle.cf_unit.specs.Rule.{Bodies, at_once, left_out, late, Rule, empty, exactly, then, by, often, made}
use Rattle.cf_unit.specs.Known.{Known, in_block, closed_to, with_block, late_names}
use Rattle.cf_unit.specs.Declares.{Shape, Declared}
use Rattle.cf_unit.specs.Enters.{with_values}
use Rattle.cf_unit.specs.Pieces.{left_brace, right_brace, word, maybe_arguments}
use Rattle.cf_unit.specs.Declarations.{Inner}
use Rattle.cf_unit.specs.Statements.{block}

-- what stands behind the declarator of a function: initialisers, the place of the `{`, and statements
abbrev pub Body : Type 0
Body = List MemberInit × ℕ × List Stmt

abbrev pub no_body : Body
no_body = ([], 0, [])

-- ---- a body that is left out

-- one brace fewer, and what stands behind the last
abbrev pub one_less : ℕ → List Token → (ℕ → Option (List Token)) → Option (List Token)
one_less zero ts more = None
one_less (suc zero) ts more = Some ts
one_less (suc (suc n)) ts more = more (suc n)

abbrev pub past_word : ℕ → ℕ → List Token → (ℕ → Option (List Token)) → Option (List Token)
past_word w n ts more = by_brace (nat_eq w left_brace) (nat_eq w right_brace)
  where
    by_brace : Bool → Bool → Option (List Token)
    by_brace true closes = more (suc n)
    by_brace false true = one_less n ts more
    by_brace false false = more n

-- what stands behind the partner of the first `{`, with so many braces open
abbrev pub past_braces : ℕ → List Token → Option (List Token)
past_braces n [] = None
past_braces n (t ∷ ts) = past_word (code t.word) n ts (λ m. past_braces m ts)

abbrev pub left_body : Option (List Token) → Option (Body × List Token)
left_body None = None
left_body (Some rest) = Some (no_body, rest)

-- the initialisers and the block are passed over, up to the partner of the `{`
abbrev pub passed_over : Parse Body
passed_over ts = left_body (past_braces 0 ts)

-- ---- what is known in a body

-- the parameters hide names in the initialisers and the block
abbrev pub with_params : Names → Shape → Names
with_params names s = with_values (with_block names) s.params

-- behind a body that was read where it stands the scopes are as before the declaration
abbrev pub behind_body : ℕ → Known → Known → Known
behind_body home k inner = record { names = closed_to home inner.names; bodies = k.bodies; own = k.own }

-- behind a body that was read late the next body is read with the classes that are known now
abbrev pub behind_late : ℕ → Known → Names → Known → Known
behind_late home k end inner =
    record { names = closed_to home k.names; bodies = late (closed_to (length end.inner) inner.names); own = k.own }

-- the same where it was left out
abbrev pub behind_left_out : ℕ → Known → Known
behind_left_out home k = record { names = closed_to home k.names; bodies = k.bodies; own = k.own }

-- minit: qid "(" [args] ")"
abbrev pub member_init : Names → List MemberInit → Rule (List MemberInit)
member_init names all = then (exactly (ident_path names)) (λ p. made (λ a. all ++ record { path = p; at = a.0; arguments = a.1 } ∷ []) (maybe_arguments names))

-- [":" minit {"," minit}]
abbrev pub member_inits : Names → Rule (List MemberInit)
member_inits names = by (sees colon) (then (word colon) (λ _. then (member_init names []) (λ first.
    often (λ all. then (word comma) (λ _. member_init names all)) first))) (empty [])

module _ («in» : Inner) where
  -- [":" minit {"," minit}] block
  abbrev pub body : Names → Rule (Body × Known)
  body names = then (member_inits names) (λ inits. made (λ b. ((inits, b.0.0, b.0.1), b.1)) (block «in» (in_block names)))

  abbrev pub body_by : Bodies → ℕ → Shape → Known → Rule (Body × Known)
  body_by at_once home s k = made (λ b. (b.0, behind_body home k b.1)) (body (with_params k.names s))
  body_by left_out home s k = made (λ b. (b, behind_left_out home k)) (exactly passed_over)
  body_by (late end) home s k = made (λ b. (b.0, behind_late home k end b.1)) (body (with_params (late_names end k.names) s))

  -- a function behind its declarator, in a declaration that stands in the last of so many open scopes
  abbrev pub defined : ℕ → ℕ → Given → Declared × Known → Rule (FunctionDef × Known)
  defined home at g d = made (λ b. (
    record {
      at = at;
      specifiers = g.list;
      declarator_at = d.0.at;
      declarator = d.0.tree;
      initialisers = b.0.0;
      body_at = b.0.1;
      body = b.0.2;
    },
    b.1,
  )) (body_by d.1.bodies home d.0.shape d.1)
