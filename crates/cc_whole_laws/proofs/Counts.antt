-- Landmarks of parts.
use Rattle.std.proofs.Common.{◌≡◌, ℕ, ◌+◌, List, [], ◌∷◌, ◌++◌, Option, Some, None, refl, arith}
use Rattle.cf_base.specs.declared.arith.Arith.{Arith}
use Rattle.cc_whole_tokens.specs.declared.mark.Mark.{Mark}
use Rattle.cc_whole_tokens.specs.declared.mark.Mark.TheVariants as mark
use Rattle.cc_whole_tokens.specs.declared.token.Token.{Token}
use Rattle.cc_whole_tokens.specs.declared.token.Token.TheVariants as token
use Rattle.cc_whole.specs.declared.types.CType.{CType}
use Rattle.cc_whole.specs.declared.types.CType.TheVariants as ty
use Rattle.cc_whole.specs.declared.types.CConstant.{CConstant}
use Rattle.cc_whole.specs.declared.types.CSignature.{CSignature}
use Rattle.cc_whole.specs.declared.types.CVariableType.{CVariableType}
use Rattle.cc_whole.specs.declared.types.CLocalType.{CLocalType}
use Rattle.cc_whole.specs.Operators.{operator_of, joins}
use Rattle.cc_whole.specs.SpellsTypes as spells
use Rattle.cc_whole.specs.SpellsTypes.{sign, SpellsConstant, type_tokens, result_tokens, some_types, types_tokens, signature_tokens, array_tokens, SpellsVariable, SpellsLocal}
use Rattle.cc_whole.specs.Spells.{bracketed}
use Rattle.cc_whole.specs.Types.{local_type}
use Rattle.cc_whole.specs.Landmarks.{type_marks, result_marks, all_types_marks, types_marks, signature_marks, variable_marks}
use Rattle.cc_whole_laws.specs.Landmark.{word_mark, landmark, landmarks_in}

pub count-append : (xs ys : List Token) → landmarks_in (xs ++ ys) ≡ landmarks_in xs + landmarks_in ys
count-append [] ys = omega arith
count-append (t ∷ xs) ys = omega (arith, count-append xs ys)

pub count-bracketed : (xs : List Token) → landmarks_in (bracketed xs) ≡ landmarks_in xs
count-bracketed xs = omega (arith, count-append xs (sign mark.RightParen))

pub operator-sign : (m : Mark) (q : ℕ × Arith) → operator_of m ≡ Some q → word_mark m ≡ 0
operator-sign mark.Break q e = absurd (cc)
operator-sign mark.Case q e = absurd (cc)
operator-sign mark.Char q e = absurd (cc)
operator-sign mark.Continue q e = absurd (cc)
operator-sign mark.Default q e = absurd (cc)
operator-sign mark.For q e = absurd (cc)
operator-sign mark.If q e = absurd (cc)
operator-sign mark.Int q e = absurd (cc)
operator-sign mark.Return q e = absurd (cc)
operator-sign mark.Short q e = absurd (cc)
operator-sign mark.Static q e = absurd (cc)
operator-sign mark.Struct q e = absurd (cc)
operator-sign mark.Switch q e = absurd (cc)
operator-sign mark.Unsigned q e = absurd (cc)
operator-sign mark.Void q e = absurd (cc)
operator-sign mark.Pair q e = absurd (cc)
operator-sign mark.FunctionPointer q e = absurd (cc)
operator-sign m q e = refl

pub joins-sign : (t : Token) (q : ℕ × Arith) → joins t ≡ Some q → landmark t ≡ 0
joins-sign (token.Mark m) q e = operator-sign m q e
joins-sign token.Dash q e = refl
joins-sign (token.Name name) q e = absurd (cc)
joins-sign (token.Signed digits) q e = absurd (cc)
joins-sign (token.Unsigned digits) q e = absurd (cc)
joins-sign (token.Text bytes) q e = absurd (cc)
joins-sign token.Shared q e = absurd (cc)

pub count-constant : {c : CConstant} {xs : List Token} → SpellsConstant c xs → landmarks_in xs ≡ 1
count-constant (spells.SpellsConstant.signed digits) = refl
count-constant (spells.SpellsConstant.negative digits) = refl
count-constant (spells.SpellsConstant.unsigned digits) = refl

pub count-type : (t : CType) → landmarks_in (type_tokens t) ≡ type_marks t
count-type ty.Char = refl
count-type ty.UChar = refl
count-type ty.Short = refl
count-type ty.UShort = refl
count-type ty.Int = refl
count-type ty.UInt = refl
count-type ty.Pointer = refl
count-type ty.FunctionPointer = refl

pub count-result : (t : Option CType) → landmarks_in (result_tokens t) ≡ result_marks t
count-result None = refl
count-result (Some t) = count-type t

count-some : (t : CType) (ts : List CType) → landmarks_in (some_types t ts) ≡ all_types_marks (t ∷ ts)
count-some t [] = omega (arith, count-type t)
count-some t (u ∷ ts) = omega (arith, count-append (type_tokens t) (token.Mark mark.Comma ∷ some_types u ts), count-type t, count-some u ts)

pub count-types : (ts : List CType) → landmarks_in (types_tokens ts) ≡ types_marks ts
count-types [] = refl
count-types (t ∷ ts) = count-some t ts

pub count-signature : (s : CSignature) → landmarks_in (signature_tokens s) ≡ signature_marks s
count-signature s =
    omega (
      arith,
      count-append (result_tokens s.result) (token.Mark mark.LeftParen ∷ token.Mark mark.Star ∷ token.Mark mark.RightParen ∷ token.Mark mark.LeftParen
          ∷ (types_tokens s.parameters ++ (token.Mark mark.RightParen ∷ sign mark.RightParen))),
      count-result s.result,
      count-append (types_tokens s.parameters) (token.Mark mark.RightParen ∷ sign mark.RightParen),
      count-types s.parameters,
    )

count-array : (name : List ℕ) {c : CConstant} (cs : List Token) → SpellsConstant c cs → landmarks_in (array_tokens name cs) ≡ 2
count-array name cs s = omega (arith, count-append cs (sign mark.RightBracket), count-constant s)

pub count-variable : {t : CVariableType} {name : List ℕ} {xs : List Token} → SpellsVariable t name xs → landmarks_in xs ≡ variable_marks t
count-variable (spells.SpellsVariable.scalar t name) = omega (arith, count-append (type_tokens t) (token.Name name ∷ []), count-type t)
count-variable (spells.SpellsVariable.ints c cs name s) = omega (arith, count-array name cs s)
count-variable (spells.SpellsVariable.chars c cs name s) = omega (arith, count-array name cs s)
count-variable (spells.SpellsVariable.pairs c cs name s) = omega (arith, count-array name cs s)

pub count-local : {t : CLocalType} {name : List ℕ} {xs : List Token} → SpellsLocal t name xs → landmarks_in xs ≡ variable_marks (local_type t)
count-local (spells.SpellsLocal.scalar t name) = omega (arith, count-append (type_tokens t) (token.Name name ∷ []), count-type t)
count-local (spells.SpellsLocal.ints c cs name s) = omega (arith, count-array name cs s)
