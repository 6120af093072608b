-- What spells a part of a unit has as many closing braces as opening ones.
use Rattle.std.proofs.Common.{◌≡◌, ℕ, ◌+◌, Bool, true, false, List, [], ◌∷◌, ◌++◌, Option, Some, None, refl, arith}
use Rattle.cf_base.specs.declared.arith.Arith.{Arith}
use Rattle.cc_whole_tokens.specs.declared.mark.Mark.{Mark}
use Rattle.cc_whole_tokens.specs.declared.mark.Mark.TheVariants as mark
use Rattle.cc_whole_tokens.specs.declared.token.Token.{Token}
use Rattle.cc_whole_tokens.specs.declared.token.Token.TheVariants as token
use Rattle.cc_whole.specs.declared.types.CType.{CType}
use Rattle.cc_whole.specs.declared.types.CType.TheVariants as ty
use Rattle.cc_whole.specs.declared.types.CConstant.{CConstant}
use Rattle.cc_whole.specs.declared.types.CSignature.{CSignature}
use Rattle.cc_whole.specs.declared.types.CVariableType.{CVariableType}
use Rattle.cc_whole.specs.declared.types.CLocalType.{CLocalType}
use Rattle.cc_whole.specs.declared.expression.Prefix.{Prefix}
use Rattle.cc_whole.specs.declared.expression.Prefix.TheVariants as prefix
use Rattle.cc_whole.specs.declared.expression.CPlace.{CPlace}
use Rattle.cc_whole.specs.declared.expression.CExpression.{CExpression}
use Rattle.cc_whole.specs.declared.statement.CLocal.{CLocal}
use Rattle.cc_whole.specs.declared.statement.CCallee.{CCallee}
use Rattle.cc_whole.specs.declared.statement.CBody.{CBody}
use Rattle.cc_whole.specs.declared.statement.CStatement.{CStatement}
use Rattle.cc_whole.specs.declared.statement.CSwitchItem.{CSwitchItem}
use Rattle.cc_whole.specs.declared.unit.CParameter.{CParameter}
use Rattle.cc_whole.specs.declared.unit.CPrototype.{CPrototype}
use Rattle.cc_whole.specs.declared.unit.CPair.{CPair}
use Rattle.cc_whole.specs.declared.unit.CInitialiser.{CInitialiser}
use Rattle.cc_whole.specs.declared.unit.CItem.{CItem}
use Rattle.cc_whole.specs.Operators.{operator_of, joins, prefix_mark}
use Rattle.cc_whole.specs.SpellsTypes as spells
use Rattle.cc_whole.specs.SpellsTypes.{sign, SpellsConstant, type_tokens, result_tokens, some_types, types_tokens, signature_tokens, array_tokens, SpellsVariable, SpellsLocal}
use Rattle.cc_whole.specs.Spells as g
use Rattle.cc_whole.specs.Spells.{bracketed, SpellsPlace, SpellsExpression, SpellsSome, SpellsArguments, SpellsCallee, SpellsTarget, SpellsLocals, SpellsBody, SpellsStatements, SpellsStatement, SpellsSwitch}
use Rattle.cc_whole.specs.SpellsItems as i
use Rattle.cc_whole.specs.SpellsItems.{shared_tokens, static_tokens, some_parameters, parameters_tokens, prototype_tokens, function_tokens, SpellsPair, SpellsPairs, SpellsInitialiser, SpellsItem, SpellsItems}

abbrev pub opens : Token → ℕ
opens (token.Mark mark.LeftBrace) = 1
opens t = 0

abbrev pub closes : Token → ℕ
closes (token.Mark mark.RightBrace) = 1
closes t = 0

abbrev pub opened : List Token → ℕ
opened [] = 0
opened (t ∷ ts) = opens t + opened ts

abbrev pub closed : List Token → ℕ
closed [] = 0
closed (t ∷ ts) = closes t + closed ts

-- as many of both
abbrev pub Even : List Token → Type 0
Even xs = opened xs ≡ closed xs

opened-append : (xs ys : List Token) → opened (xs ++ ys) ≡ opened xs + opened ys
opened-append [] ys = omega arith
opened-append (t ∷ xs) ys = omega (arith, opened-append xs ys)

closed-append : (xs ys : List Token) → closed (xs ++ ys) ≡ closed xs + closed ys
closed-append [] ys = omega arith
closed-append (t ∷ xs) ys = omega (arith, closed-append xs ys)

even-append : (xs ys : List Token) → Even xs → Even ys → Even (xs ++ ys)
even-append xs ys d e = omega (arith, opened-append xs ys, closed-append xs ys, d, e)

even-cons : (t : Token) (xs : List Token) → opens t ≡ closes t → Even xs → Even (t ∷ xs)
even-cons t xs d e = omega (arith, d, e)

even-bracketed : (xs : List Token) → Even xs → Even (bracketed xs)
even-bracketed xs d = even-cons (token.Mark mark.LeftParen) (xs ++ sign mark.RightParen) refl (even-append xs (sign mark.RightParen) d refl)

even-ended : (xs : List Token) → Even xs → Even (xs ++ sign mark.Semicolon)
even-ended xs d = even-append xs (sign mark.Semicolon) d refl

even-braced : (xs : List Token) → Even xs → Even (token.Mark mark.LeftBrace ∷ (xs ++ sign mark.RightBrace))
even-braced xs d = omega (arith, opened-append xs (sign mark.RightBrace), closed-append xs (sign mark.RightBrace), d)

even-body : (xs ys : List Token) → Even xs → Even ys → Even (token.Mark mark.LeftBrace ∷ (xs ++ (ys ++ sign mark.RightBrace)))
even-body xs ys d e =
    omega (
      arith,
      opened-append xs (ys ++ sign mark.RightBrace),
      closed-append xs (ys ++ sign mark.RightBrace),
      opened-append ys (sign mark.RightBrace),
      closed-append ys (sign mark.RightBrace),
      d,
      e,
    )

-- ---- types and constants

even-type : (t : CType) → Even (type_tokens t)
even-type ty.Char = refl
even-type ty.UChar = refl
even-type ty.Short = refl
even-type ty.UShort = refl
even-type ty.Int = refl
even-type ty.UInt = refl
even-type ty.Pointer = refl
even-type ty.FunctionPointer = refl

even-result : (t : Option CType) → Even (result_tokens t)
even-result None = refl
even-result (Some t) = even-type t

even-some : (t : CType) (ts : List CType) → Even (some_types t ts)
even-some t [] = even-type t
even-some t (u ∷ ts) =
    even-append (type_tokens t) (token.Mark mark.Comma ∷ some_types u ts) (even-type t) (even-cons (token.Mark mark.Comma) (some_types u ts) refl (even-some u ts))

even-types : (ts : List CType) → Even (types_tokens ts)
even-types [] = refl
even-types (t ∷ ts) = even-some t ts

abbrev behind_star : List Token → List Token
behind_star xs = token.Mark mark.LeftParen ∷ token.Mark mark.Star ∷ token.Mark mark.RightParen ∷ token.Mark mark.LeftParen ∷ xs

even-star : (xs : List Token) → Even xs → Even (behind_star xs)
even-star xs d = omega (arith, d)

even-signature : (s : CSignature) → Even (signature_tokens s)
even-signature s =
    let ends : List Token = token.Mark mark.RightParen ∷ sign mark.RightParen in
    let taken : List Token = types_tokens s.parameters ++ ends in
    even-cons (token.Mark mark.LeftParen) (result_tokens s.result ++ behind_star taken) refl
    (even-append (result_tokens s.result) (behind_star taken) (even-result s.result)
    (even-star taken (even-append (types_tokens s.parameters) ends (even-types s.parameters) refl)))

even-constant : {c : CConstant} {xs : List Token} → SpellsConstant c xs → Even xs
even-constant (spells.SpellsConstant.signed digits) = refl
even-constant (spells.SpellsConstant.negative digits) = refl
even-constant (spells.SpellsConstant.unsigned digits) = refl

even-array : (name : List ℕ) {c : CConstant} (cs : List Token) → SpellsConstant c cs → Even (array_tokens name cs)
even-array name cs s = omega (arith, opened-append cs (sign mark.RightBracket), closed-append cs (sign mark.RightBracket), even-constant s)

even-scalar : (t : CType) (name : List ℕ) → Even (type_tokens t ++ (token.Name name ∷ []))
even-scalar t name = even-append (type_tokens t) (token.Name name ∷ []) (even-type t) refl

even-variable : {t : CVariableType} {name : List ℕ} {xs : List Token} → SpellsVariable t name xs → Even xs
even-variable (spells.SpellsVariable.scalar t name) = even-scalar t name
even-variable (spells.SpellsVariable.ints c cs name s) = omega (arith, even-array name cs s)
even-variable (spells.SpellsVariable.chars c cs name s) = omega (arith, even-array name cs s)
even-variable (spells.SpellsVariable.pairs c cs name s) = omega (arith, even-array name cs s)

even-local : {t : CLocalType} {name : List ℕ} {xs : List Token} → SpellsLocal t name xs → Even xs
even-local (spells.SpellsLocal.scalar t name) = even-scalar t name
even-local (spells.SpellsLocal.ints c cs name s) = omega (arith, even-array name cs s)

-- ---- expressions

operator-even : (m : Mark) (q : ℕ × Arith) → operator_of m ≡ Some q → opens (token.Mark m) ≡ closes (token.Mark m)
operator-even mark.LeftBrace q e = absurd (cc)
operator-even mark.RightBrace q e = absurd (cc)
operator-even m q e = refl

joins-even : (t : Token) (q : ℕ × Arith) → joins t ≡ Some q → opens t ≡ closes t
joins-even (token.Mark m) q e = operator-even m q e
joins-even token.Dash q e = refl
joins-even (token.Name name) q e = refl
joins-even (token.Signed digits) q e = refl
joins-even (token.Unsigned digits) q e = refl
joins-even (token.Text bytes) q e = refl
joins-even token.Shared q e = refl

prefix-even : (o : Prefix) → opens (token.Mark (prefix_mark o)) ≡ closes (token.Mark (prefix_mark o))
prefix-even prefix.Negate = refl
prefix-even prefix.Complement = refl
prefix-even prefix.Not = refl

mutual
  even-place : {p : CPlace} {xs : List Token} → SpellsPlace p xs → Even xs
  even-place (g.SpellsPlace.name name) = refl
  even-place (g.SpellsPlace.pointed t e xs d) =
      even-cons (token.Mark mark.Star) (bracketed (type_tokens t ++ sign mark.Star) ++ bracketed xs) refl
      (even-append (bracketed (type_tokens t ++ sign mark.Star)) (bracketed xs)
      (even-bracketed (type_tokens t ++ sign mark.Star) (even-append (type_tokens t) (sign mark.Star) (even-type t) refl))
      (even-bracketed xs (even-expression d)))

  even-expression : {level : ℕ} {e : CExpression} {xs : List Token} → SpellsExpression level e xs → Even xs
  even-expression (g.SpellsExpression.number c xs d) = even-constant d
  even-expression (g.SpellsExpression.load p ps d) = even-place d
  even-expression (g.SpellsExpression.prefixed o e xs d) = even-cons (token.Mark (prefix_mark o)) xs (prefix-even o) (even-expression d)
  even-expression (g.SpellsExpression.cast t e xs d) =
      even-append (bracketed (type_tokens t)) xs (even-bracketed (type_tokens t) (even-type t)) (even-expression d)
  even-expression (g.SpellsExpression.address name) = refl
  even-expression (g.SpellsExpression.brackets e xs d) = even-bracketed xs (even-expression d)
  even-expression (g.SpellsExpression.tighter level e xs d) = even-expression d
  even-expression (g.SpellsExpression.joined level t o a b xs ys j c d) =
      even-append xs (t ∷ ys) (even-expression c) (even-cons t ys (joins-even t _ j) (even-expression d))

even-more : {es : List CExpression} {xs : List Token} → SpellsSome es xs → Even xs
even-more (g.SpellsSome.last e xs d) = even-expression d
even-more (g.SpellsSome.more e xs es ys d r) =
    even-append xs (token.Mark mark.Comma ∷ ys) (even-expression d) (even-cons (token.Mark mark.Comma) ys refl (even-more r))

even-arguments : {es : List CExpression} {xs : List Token} → SpellsArguments es xs → Even xs
even-arguments g.SpellsArguments.none = refl
even-arguments (g.SpellsArguments.some es xs d) = even-more d

even-callee : {c : CCallee} {xs : List Token} → SpellsCallee c xs → Even xs
even-callee (g.SpellsCallee.name name) = refl
even-callee (g.SpellsCallee.pointer s e xs d) =
    even-bracketed (signature_tokens s ++ bracketed xs)
    (even-append (signature_tokens s) (bracketed xs) (even-signature s) (even-bracketed xs (even-expression d)))

even-target : {p : Option CPlace} {xs : List Token} → SpellsTarget p xs → Even xs
even-target g.SpellsTarget.none = refl
even-target (g.SpellsTarget.some p ps d) = even-append ps (sign mark.Assign) (even-place d) refl

even-locals : {locals : List CLocal} {xs : List Token} → SpellsLocals locals xs → Even xs
even-locals g.SpellsLocals.none = refl
even-locals (g.SpellsLocals.more t name ts locals xs d r) =
    even-append ts (token.Mark mark.Semicolon ∷ xs) (even-local d) (even-cons (token.Mark mark.Semicolon) xs refl (even-locals r))

-- ---- statements

mutual
  even-bodies : {b : CBody} {xs : List Token} → SpellsBody b xs → Even xs
  even-bodies (g.SpellsBody.body locals xs all ys d r) = even-body xs ys (even-locals d) (even-statements r)

  even-statements : {all : List CStatement} {xs : List Token} → SpellsStatements all xs → Even xs
  even-statements g.SpellsStatements.none = refl
  even-statements (g.SpellsStatements.more s xs all ys d r) = even-append xs ys (even-statement d) (even-statements r)

  even-statement : {s : CStatement} {xs : List Token} → SpellsStatement s xs → Even xs
  even-statement (g.SpellsStatement.assign p ps e xs c d) =
      even-append ps (token.Mark mark.Assign ∷ (xs ++ sign mark.Semicolon)) (even-place c)
      (even-cons (token.Mark mark.Assign) (xs ++ sign mark.Semicolon) refl (even-ended xs (even-expression d)))
  even-statement (g.SpellsStatement.calls p ps c cs es xs d f h) =
      even-append ps (cs ++ (bracketed xs ++ sign mark.Semicolon)) (even-target d)
      (even-append cs (bracketed xs ++ sign mark.Semicolon) (even-callee f) (even-ended (bracketed xs) (even-bracketed xs (even-arguments h))))
  even-statement (g.SpellsStatement.block b xs d) = even-bodies d
  even-statement g.SpellsStatement.leaves = refl
  even-statement g.SpellsStatement.continues = refl
  even-statement (g.SpellsStatement.if_only e xs b ys c d) =
      even-cons (token.Mark mark.If) (bracketed xs ++ ys) refl (even-append (bracketed xs) ys (even-bracketed xs (even-expression c)) (even-bodies d))
  even-statement (g.SpellsStatement.if_else e xs b ys c zs d f h) =
      let others : List Token = ys ++ (token.Mark mark.Else ∷ zs) in
      even-cons (token.Mark mark.If) (bracketed xs ++ others) refl
      (even-append (bracketed xs) others (even-bracketed xs (even-expression d))
      (even-append ys (token.Mark mark.Else ∷ zs) (even-bodies f) (even-cons (token.Mark mark.Else) zs refl (even-bodies h))))
  even-statement (g.SpellsStatement.loops b xs d) =
      let turns : List Token = bracketed (token.Mark mark.Semicolon ∷ sign mark.Semicolon) in
      even-cons (token.Mark mark.For) (turns ++ xs) refl (even-append turns xs refl (even-bodies d))
  even-statement (g.SpellsStatement.switches e xs all ys c d) =
      let braced : List Token = token.Mark mark.LeftBrace ∷ (ys ++ sign mark.RightBrace) in
      even-cons (token.Mark mark.Switch) (bracketed xs ++ braced) refl
      (even-append (bracketed xs) braced (even-bracketed xs (even-expression c)) (even-braced ys (even-switch d)))
  even-statement g.SpellsStatement.returns = refl
  even-statement (g.SpellsStatement.gives e xs d) =
      even-cons (token.Mark mark.Return) (xs ++ sign mark.Semicolon) refl (even-ended xs (even-expression d))

  even-switch : {all : List CSwitchItem} {xs : List Token} → SpellsSwitch all xs → Even xs
  even-switch g.SpellsSwitch.closed = refl
  even-switch (g.SpellsSwitch.label c cs all ys d r) =
      even-cons (token.Mark mark.Case) (cs ++ (token.Mark mark.Colon ∷ ys)) refl
      (even-append cs (token.Mark mark.Colon ∷ ys) (even-constant d) (even-cons (token.Mark mark.Colon) ys refl (even-switch r)))
  even-switch (g.SpellsSwitch.otherwise all ys r) = omega (arith, even-switch r)
  even-switch (g.SpellsSwitch.stated s xs all ys d r) = even-append xs ys (even-statement d) (even-switch r)

-- ---- items

even-shared : (is_shared : Bool) → Even (shared_tokens is_shared)
even-shared true = refl
even-shared false = refl

even-static : (is_static : Bool) → Even (static_tokens is_static)
even-static true = refl
even-static false = refl

even-some-parameters : (p : CParameter) (ps : List CParameter) → Even (some_parameters p ps)
even-some-parameters p [] = even-scalar p.ty p.name
even-some-parameters p (q ∷ ps) =
    let rest : List Token = some_parameters q ps in
    even-append (type_tokens p.ty) (token.Name p.name ∷ token.Mark mark.Comma ∷ rest) (even-type p.ty) (omega (arith, even-some-parameters q ps))

even-parameters : (ps : List CParameter) → Even (parameters_tokens ps)
even-parameters [] = refl
even-parameters (p ∷ ps) = even-some-parameters p ps

even-prototype : (p : CPrototype) → Even (prototype_tokens p)
even-prototype p =
    let taken : List Token = bracketed (parameters_tokens p.parameters) in
    even-append (static_tokens p.is_static) (result_tokens p.result ++ (token.Name p.name ∷ taken)) (even-static p.is_static)
    (even-append (result_tokens p.result) (token.Name p.name ∷ taken) (even-result p.result)
    (even-cons (token.Name p.name) taken refl (even-bracketed (parameters_tokens p.parameters) (even-parameters p.parameters))))

even-function : (f : Option (List ℕ)) → Even (function_tokens f)
even-function None = refl
even-function (Some name) = refl

even-pair : {p : CPair} {xs : List Token} → SpellsPair p xs → Even xs
even-pair (i.SpellsPair.pair c cs f d) =
    let behind : List Token = token.Mark mark.Comma ∷ (function_tokens f ++ sign mark.RightBrace) in
    omega (
      arith,
      opened-append cs behind,
      closed-append cs behind,
      opened-append (function_tokens f) (sign mark.RightBrace),
      closed-append (function_tokens f) (sign mark.RightBrace),
      even-constant d,
      even-function f,
    )

even-pairs : {all : List CPair} {xs : List Token} → SpellsPairs all xs → Even xs
even-pairs (i.SpellsPairs.last p xs d) = even-pair d
even-pairs (i.SpellsPairs.more p xs all ys d r) =
    even-append xs (token.Mark mark.Comma ∷ ys) (even-pair d) (even-cons (token.Mark mark.Comma) ys refl (even-pairs r))

even-initialiser : {start : Option CInitialiser} {xs : List Token} → SpellsInitialiser start xs → Even xs
even-initialiser i.SpellsInitialiser.none = refl
even-initialiser (i.SpellsInitialiser.text bytes) = refl
even-initialiser (i.SpellsInitialiser.pairs all xs d) =
    even-cons (token.Mark mark.Assign) (token.Mark mark.LeftBrace ∷ (xs ++ sign mark.RightBrace)) refl (even-braced xs (even-pairs d))

even-item : {it : CItem} {xs : List Token} → SpellsItem it xs → Even xs
even-item (i.SpellsItem.prototype p) = even-ended (prototype_tokens p) (even-prototype p)
even-item (i.SpellsItem.extern_prototype p) =
    even-cons (token.Mark mark.Extern) (prototype_tokens p ++ sign mark.Semicolon) refl (even-ended (prototype_tokens p) (even-prototype p))
even-item (i.SpellsItem.extern_variable t name xs d) =
    even-cons (token.Mark mark.Extern) (xs ++ sign mark.Semicolon) refl (even-ended xs (even-variable d))
even-item (i.SpellsItem.function is_shared p b ys d) =
    even-append (shared_tokens is_shared) (prototype_tokens p ++ ys) (even-shared is_shared) (even-append (prototype_tokens p) ys (even-prototype p) (even-bodies d))
even-item (i.SpellsItem.variable is_shared is_static t name xs start ys d s) =
    let from_start : List Token = ys ++ sign mark.Semicolon in
    even-append (shared_tokens is_shared) (static_tokens is_static ++ (xs ++ from_start)) (even-shared is_shared)
    (even-append (static_tokens is_static) (xs ++ from_start) (even-static is_static)
    (even-append xs from_start (even-variable d) (even-ended ys (even-initialiser s))))

pub even-items : {all : List CItem} {xs : List Token} → SpellsItems all xs → Even xs
even-items i.SpellsItems.none = refl
even-items (i.SpellsItems.more it xs all ys d r) = even-append xs ys (even-item d) (even-items r)
