-- The grammar of the small C: which tokens spell expressions, statements and bodies. Each constructor is one production.
use Rattle.std.specs.Prelude.{◌≡◌, ℕ, suc, List, [], ◌∷◌, ◌++◌, Option, Some, None}
use Rattle.cf_base.specs.declared.arith.Arith.{Arith}
use Rattle.cc_whole_tokens.specs.declared.mark.Mark.TheVariants as mark
use Rattle.cc_whole_tokens.specs.declared.token.Token.{Token}
use Rattle.cc_whole_tokens.specs.declared.token.Token.TheVariants as token
use Rattle.cc_whole.specs.declared.types.CType.{CType}
use Rattle.cc_whole.specs.declared.types.CConstant.{CConstant}
use Rattle.cc_whole.specs.declared.types.CSignature.{CSignature}
use Rattle.cc_whole.specs.declared.types.CLocalType.{CLocalType}
use Rattle.cc_whole.specs.declared.expression.Prefix.{Prefix}
use Rattle.cc_whole.specs.declared.expression.CPlace.{CPlace}
use Rattle.cc_whole.specs.declared.expression.CPlace.TheVariants as place
use Rattle.cc_whole.specs.declared.expression.CExpression.{CExpression}
use Rattle.cc_whole.specs.declared.expression.CExpression.TheVariants as tree
use Rattle.cc_whole.specs.declared.statement.CLocal.{CLocal}
use Rattle.cc_whole.specs.declared.statement.CCallee.{CCallee}
use Rattle.cc_whole.specs.declared.statement.CCallee.TheVariants as callee
use Rattle.cc_whole.specs.declared.statement.CBody.{CBody}
use Rattle.cc_whole.specs.declared.statement.CStatement.{CStatement}
use Rattle.cc_whole.specs.declared.statement.CStatement.TheVariants as statement
use Rattle.cc_whole.specs.declared.statement.CSwitchItem.{CSwitchItem}
use Rattle.cc_whole.specs.declared.statement.CSwitchItem.TheVariants as part
use Rattle.cc_whole.specs.Build.{made_body}
use Rattle.cc_whole.specs.Operators.{joins, loosest, prefix_mark}
use Rattle.cc_whole.specs.SpellsTypes.{sign, SpellsConstant, type_tokens, signature_tokens, SpellsLocal}

-- an expression, in brackets
abbrev pub bracketed : List Token → List Token
bracketed xs = token.Mark mark.LeftParen ∷ (xs ++ sign mark.RightParen)

mutual
  -- a name, or `*(type *)(expression)`
  pub data SpellsPlace : CPlace → List Token → Type 0 where
    name : (name : List ℕ) → SpellsPlace (place.Name name) (token.Name name ∷ [])
    pointed : (t : CType) (e : CExpression) (xs : List Token) → SpellsExpression loosest e xs
        → SpellsPlace (place.At t e) (token.Mark mark.Star ∷ (bracketed (type_tokens t ++ sign mark.Star) ++ bracketed xs))

  -- operators of one level associate to the left, and brackets make no node
  pub data SpellsExpression : ℕ → CExpression → List Token → Type 0 where
    number : (c : CConstant) (xs : List Token) → SpellsConstant c xs → SpellsExpression 0 (tree.Constant c) xs
    load : (p : CPlace) (ps : List Token) → SpellsPlace p ps → SpellsExpression 0 (tree.Load p) ps
    prefixed : (o : Prefix) (e : CExpression) (xs : List Token) → SpellsExpression 0 e xs
        → SpellsExpression 0 (tree.Unary o e) (token.Mark (prefix_mark o) ∷ xs)
    cast : (t : CType) (e : CExpression) (xs : List Token) → SpellsExpression 0 e xs
        → SpellsExpression 0 (tree.Cast t e) (bracketed (type_tokens t) ++ xs)
    address : (name : List ℕ)
        → SpellsExpression 0 (tree.AddressOf name) (bracketed (token.Mark mark.Char ∷ sign mark.Star) ++ (token.Mark mark.And ∷ token.Name name ∷ []))
    brackets : (e : CExpression) (xs : List Token) → SpellsExpression loosest e xs → SpellsExpression 0 e (bracketed xs)
    tighter : (level : ℕ) (e : CExpression) (xs : List Token) → SpellsExpression level e xs → SpellsExpression (suc level) e xs
    joined : (level : ℕ) (t : Token) (o : Arith) (a b : CExpression) (xs ys : List Token) → joins t ≡ Some (suc level, o)
        → SpellsExpression (suc level) a xs → SpellsExpression level b ys → SpellsExpression (suc level) (tree.Binary o a b) (xs ++ (t ∷ ys))

-- one expression or more, with commas between them
pub data SpellsSome : List CExpression → List Token → Type 0 where
  last : (e : CExpression) (xs : List Token) → SpellsExpression loosest e xs → SpellsSome (e ∷ []) xs
  more : (e : CExpression) (xs : List Token) (es : List CExpression) (ys : List Token) → SpellsExpression loosest e xs → SpellsSome es ys
      → SpellsSome (e ∷ es) (xs ++ (token.Mark mark.Comma ∷ ys))

pub data SpellsArguments : List CExpression → List Token → Type 0 where
  none : SpellsArguments [] []
  some : (es : List CExpression) (xs : List Token) → SpellsSome es xs → SpellsArguments es xs

-- a name, or `((type (*)(types))(expression))`
pub data SpellsCallee : CCallee → List Token → Type 0 where
  name : (name : List ℕ) → SpellsCallee (callee.Name name) (token.Name name ∷ [])
  pointer : (s : CSignature) (e : CExpression) (xs : List Token) → SpellsExpression loosest e xs
      → SpellsCallee (callee.Pointer s e) (bracketed (signature_tokens s ++ bracketed xs))

-- a place and `=`, or nothing
pub data SpellsTarget : Option CPlace → List Token → Type 0 where
  none : SpellsTarget None []
  some : (p : CPlace) (ps : List Token) → SpellsPlace p ps → SpellsTarget (Some p) (ps ++ sign mark.Assign)

pub data SpellsLocals : List CLocal → List Token → Type 0 where
  none : SpellsLocals [] []
  more : (t : CLocalType) (name : List ℕ) (ts : List Token) (locals : List CLocal) (xs : List Token) → SpellsLocal t name ts → SpellsLocals locals xs
      → SpellsLocals (record { ty = t; name = name } ∷ locals) (ts ++ (token.Mark mark.Semicolon ∷ xs))

mutual
  pub data SpellsBody : CBody → List Token → Type 0 where
    body : (locals : List CLocal) (xs : List Token) (all : List CStatement) (ys : List Token) → SpellsLocals locals xs → SpellsStatements all ys
        → SpellsBody (made_body locals all) (token.Mark mark.LeftBrace ∷ (xs ++ (ys ++ sign mark.RightBrace)))

  pub data SpellsStatements : List CStatement → List Token → Type 0 where
    none : SpellsStatements [] []
    more : (s : CStatement) (xs : List Token) (all : List CStatement) (ys : List Token) → SpellsStatement s xs → SpellsStatements all ys
        → SpellsStatements (s ∷ all) (xs ++ ys)

  pub data SpellsStatement : CStatement → List Token → Type 0 where
    assign : (p : CPlace) (ps : List Token) (e : CExpression) (xs : List Token) → SpellsPlace p ps → SpellsExpression loosest e xs
        → SpellsStatement (statement.Assign p e) (ps ++ (token.Mark mark.Assign ∷ (xs ++ sign mark.Semicolon)))
    calls : (p : Option CPlace) (ps : List Token) (c : CCallee) (cs : List Token) (es : List CExpression) (xs : List Token)
        → SpellsTarget p ps → SpellsCallee c cs → SpellsArguments es xs
        → SpellsStatement (statement.Call p c es) (ps ++ (cs ++ (bracketed xs ++ sign mark.Semicolon)))
    block : (b : CBody) (xs : List Token) → SpellsBody b xs → SpellsStatement (statement.Block b) xs
    leaves : SpellsStatement statement.Break (token.Mark mark.Break ∷ sign mark.Semicolon)
    continues : SpellsStatement statement.Continue (token.Mark mark.Continue ∷ sign mark.Semicolon)
    if_only : (e : CExpression) (xs : List Token) (b : CBody) (ys : List Token) → SpellsExpression loosest e xs → SpellsBody b ys
        → SpellsStatement (statement.If e b None) (token.Mark mark.If ∷ (bracketed xs ++ ys))
    if_else : (e : CExpression) (xs : List Token) (b : CBody) (ys : List Token) (c : CBody) (zs : List Token)
        → SpellsExpression loosest e xs → SpellsBody b ys → SpellsBody c zs
        → SpellsStatement (statement.If e b (Some c)) (token.Mark mark.If ∷ (bracketed xs ++ (ys ++ (token.Mark mark.Else ∷ zs))))
    loops : (b : CBody) (xs : List Token) → SpellsBody b xs
        → SpellsStatement (statement.Loop b) (token.Mark mark.For ∷ (bracketed (token.Mark mark.Semicolon ∷ sign mark.Semicolon) ++ xs))
    switches : (e : CExpression) (xs : List Token) (all : List CSwitchItem) (ys : List Token) → SpellsExpression loosest e xs → SpellsSwitch all ys
        → SpellsStatement (statement.Switch e all)
        (token.Mark mark.Switch ∷ (bracketed xs ++ (token.Mark mark.LeftBrace ∷ (ys ++ sign mark.RightBrace))))
    returns : SpellsStatement (statement.Return None) (token.Mark mark.Return ∷ sign mark.Semicolon)
    gives : (e : CExpression) (xs : List Token) → SpellsExpression loosest e xs
        → SpellsStatement (statement.Return (Some e)) (token.Mark mark.Return ∷ (xs ++ sign mark.Semicolon))

  -- what stands in the braces of a `switch`
  pub data SpellsSwitch : List CSwitchItem → List Token → Type 0 where
    closed : SpellsSwitch [] []
    label : (c : CConstant) (cs : List Token) (all : List CSwitchItem) (ys : List Token) → SpellsConstant c cs → SpellsSwitch all ys
        → SpellsSwitch (part.Case c ∷ all) (token.Mark mark.Case ∷ (cs ++ (token.Mark mark.Colon ∷ ys)))
    otherwise : (all : List CSwitchItem) (ys : List Token) → SpellsSwitch all ys
        → SpellsSwitch (part.Default ∷ all) (token.Mark mark.Default ∷ token.Mark mark.Colon ∷ ys)
    stated : (s : CStatement) (xs : List Token) (all : List CSwitchItem) (ys : List Token) → SpellsStatement s xs → SpellsSwitch all ys
        → SpellsSwitch (part.Statement s ∷ all) (xs ++ ys)
