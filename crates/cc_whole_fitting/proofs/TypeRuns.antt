-- Types, operators and constants.
use Rattle.std.proofs.Common.{◌≡◌, ℕ, Bool, true, ◌&&◌, List, [], ◌∷◌, ◌++◌, pos, neg_ℤ, Option, Some, None, refl}
use Rattle.std.specs.Str.Parse.{digits_value}
use Rattle.cf_base.specs.declared.arith.Arith.{Arith}
use Rattle.cc_whole_tokens.specs.declared.mark.Mark.{Mark}
use Rattle.cc_whole_tokens.specs.declared.mark.Mark.TheVariants as mark
use Rattle.cc_whole_tokens.specs.declared.token.Token.{Token}
use Rattle.cc_whole_tokens.specs.declared.token.Token.TheVariants as token
use Rattle.cc_whole.specs.declared.types.CType.{CType}
use Rattle.cc_whole.specs.declared.types.CType.TheVariants as ty
use Rattle.cc_whole.specs.declared.types.CConstant.{CConstant}
use Rattle.cc_whole.specs.declared.types.CConstant.TheVariants as int
use Rattle.cc_whole.specs.declared.types.CSignature.{CSignature}
use Rattle.cc_whole.specs.declared.types.CVariableType.{CVariableType}
use Rattle.cc_whole.specs.declared.types.CLocalType.{CLocalType}
use Rattle.cc_whole.specs.declared.expression.Prefix.{Prefix}
use Rattle.cc_whole.specs.declared.expression.Prefix.TheVariants as prefix
use Rattle.cc_whole.specs.Numbers.{fits_constant}
use Rattle.cc_whole.specs.Operators.{operator_of, joins, prefix_mark}
use Rattle.cc_whole.specs.Types.{local_type}
use Rattle.cc_whole.specs.SpellsTypes as spells
use Rattle.cc_whole.specs.SpellsTypes.{sign, SpellsConstant, type_tokens, result_tokens, some_types, types_tokens, signature_tokens, array_tokens, SpellsVariable, SpellsLocal}
use Rattle.cc_whole.specs.Spells.{bracketed}
use Rattle.cc_whole_fitting.specs.declared.before.Before.{Before}
use Rattle.cc_whole_fitting.specs.declared.before.Before.TheVariants as before
use Rattle.cc_whole_fitting.specs.Numbers.{behind, behind_mark}
use Rattle.cc_whole_fitting.specs.Fitting.{fitting_type}
use Rattle.cc_whole_fitting.proofs.Runs.{Run, and_true, nothing, fine, closed, put, put_name, one}

-- ---- constants and operators

pub run_constant : {c : CConstant} {xs : List Token} → SpellsConstant c xs → Run before.Other xs (fits_constant c) before.Operand
run_constant (spells.SpellsConstant.signed digits) = record { fit = and_true (fits_constant (int.Signed (pos (digits_value 10 digits)))); after = refl }
run_constant (spells.SpellsConstant.negative digits) = record { fit = and_true (fits_constant (int.Signed (neg_ℤ (pos (digits_value 10 digits))))); after = refl }
run_constant (spells.SpellsConstant.unsigned digits) = record { fit = and_true (fits_constant (int.Unsigned (digits_value 10 digits))); after = refl }

-- an operator behind an operand
operator_behind : (m : Mark) (q : ℕ × Arith) → operator_of m ≡ Some q → behind_mark m before.Operand ≡ before.Other
operator_behind mark.RightParen q e = absurd (cc)
operator_behind mark.Char q e = absurd (cc)
operator_behind mark.Short q e = absurd (cc)
operator_behind mark.Int q e = absurd (cc)
operator_behind mark.Unsigned q e = absurd (cc)
operator_behind mark.FunctionPointer q e = absurd (cc)
operator_behind mark.Star q e = refl
operator_behind m q e = refl

pub joins_behind : (t : Token) (q : ℕ × Arith) → joins t ≡ Some q → Run before.Operand (t ∷ []) true before.Other
joins_behind (token.Mark m) q e = record { fit = refl; after = operator_behind m q e }
joins_behind token.Dash q e = record { fit = refl; after = refl }
joins_behind (token.Name name) q e = absurd (cc)
joins_behind (token.Signed digits) q e = absurd (cc)
joins_behind (token.Unsigned digits) q e = absurd (cc)
joins_behind (token.Text bytes) q e = absurd (cc)
joins_behind token.Shared q e = absurd (cc)

pub prefix_behind : (o : Prefix) (s : Before) → Run s (sign (prefix_mark o)) true before.Other
prefix_behind prefix.Negate s = record { fit = refl; after = refl }
prefix_behind prefix.Complement s = record { fit = refl; after = refl }
prefix_behind prefix.Not s = record { fit = refl; after = refl }

-- ---- types

pub run_type : (t : CType) (s : Before) → Run s (type_tokens t) true before.Word
run_type ty.Char s = record { fit = refl; after = refl }
run_type ty.UChar s = record { fit = refl; after = refl }
run_type ty.Short s = record { fit = refl; after = refl }
run_type ty.UShort s = record { fit = refl; after = refl }
run_type ty.Int s = record { fit = refl; after = refl }
run_type ty.UInt s = record { fit = refl; after = refl }
run_type ty.Pointer s = record { fit = refl; after = refl }
run_type ty.FunctionPointer s = record { fit = refl; after = refl }

abbrev after_result : Option CType → Before
after_result None = before.Other
after_result (Some t) = before.Word

run_result : (r : Option CType) (s : Before) → Run s (result_tokens r) true (after_result r)
run_result None s = record { fit = refl; after = refl }
run_result (Some t) s = run_type t s

-- a result and a name
pub run_result_named : (r : Option CType) (name : List ℕ) (s : Before) {ys : List Token} {b : Bool} {u : Before} → Run before.Operand ys b u
    → Run s (result_tokens r ++ (token.Name name ∷ ys)) b u
run_result_named r name s q = fine (run_result r s) (put_name name q)

run_some : (t : CType) (ts : List CType) (s : Before) → Run s (some_types t ts) true before.Word
run_some t [] s = run_type t s
run_some t (u ∷ ts) s = fine (run_type t s) (put mark.Comma (run_some u ts before.Other))

two_parens : Run before.Word (token.Mark mark.RightParen ∷ sign mark.RightParen) true before.Operand
two_parens = record { fit = refl; after = refl }

run_types : (ts : List CType) → Run before.Other (types_tokens ts ++ (token.Mark mark.RightParen ∷ sign mark.RightParen)) true before.Operand
run_types [] = record { fit = refl; after = refl }
run_types (t ∷ ts) = fine (run_some t ts before.Other) two_parens

pub run_signature : (s : CSignature) (b : Before) → Run b (signature_tokens s) true before.Operand
run_signature s b =
    put mark.LeftParen (fine (run_result s.result before.Other)
    (put mark.LeftParen (put mark.Star (put mark.RightParen (put mark.LeftParen (run_types s.parameters))))))

-- a type in brackets, and a type and `*`
pub run_cast : (t : CType) (s : Before) → Run s (bracketed (type_tokens t)) true before.Other
run_cast t s = put mark.LeftParen (closed (run_type t before.Other) (one mark.RightParen before.Word))

pub run_pointed : (t : CType) (s : Before) → Run s (bracketed (type_tokens t ++ sign mark.Star)) true before.Other
run_pointed t s = put mark.LeftParen (closed (closed (run_type t before.Other) (one mark.Star before.Word)) (one mark.RightParen before.Word))

-- ---- variables and locals

run_array : (name : List ℕ) {c : CConstant} (cs : List Token) (s : Before) → SpellsConstant c cs → Run s (array_tokens name cs) (fits_constant c) before.Other
run_array name cs s d = put_name name (put mark.LeftBracket (closed (run_constant d) (one mark.RightBracket before.Operand)))

-- behind a variable, whatever follows
pub record AnyRun (s : Before) (xs : List Token) (b : Bool) : Type 0 where
  pub behind_it : Before
  pub run : Run s xs b behind_it

any_run : {s t : Before} {xs : List Token} {b : Bool} → Run s xs b t → AnyRun s xs b
any_run {t = t} r = record { behind_it = t; run = r }

pub run_variable : {t : CVariableType} {name : List ℕ} {xs : List Token} (s : Before) → SpellsVariable t name xs → AnyRun s xs (fitting_type t)
run_variable s (spells.SpellsVariable.scalar t name) = any_run (fine (run_type t s) (put_name name (nothing before.Operand)))
run_variable s (spells.SpellsVariable.ints c cs name d) = any_run (put mark.Int (run_array name cs before.Word d))
run_variable s (spells.SpellsVariable.chars c cs name d) = any_run (put mark.Char (run_array name cs before.Word d))
run_variable s (spells.SpellsVariable.pairs c cs name d) = any_run (put mark.Struct (put mark.Pair (run_array name cs before.Other d)))

pub run_local : {t : CLocalType} {name : List ℕ} {xs : List Token} (s : Before) → SpellsLocal t name xs → AnyRun s xs (fitting_type (local_type t))
run_local s (spells.SpellsLocal.scalar t name) = any_run (fine (run_type t s) (put_name name (nothing before.Operand)))
run_local s (spells.SpellsLocal.ints c cs name d) = any_run (put mark.Int (run_array name cs before.Word d))
