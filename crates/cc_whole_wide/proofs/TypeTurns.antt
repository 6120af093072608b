-- Types, operators and constants.
use Rattle.std.proofs.Common.{◌≡◌, ℕ, ◌<◌, ◌^◌, Bool, true, false, List, [], ◌∷◌, ◌++◌, pos, negsuc, Option, Some, None, refl, ap, ◌∙◌, arith, append-nil, decimal}
use Rattle.std.specs.Str.Parse.{digits_value}
use Rattle.std.specs.Prelude.{if◌then◌else◌, nat_lt}
use Rattle.std.proofs.lemmas.Bool.{and_from}
use Rattle.std.proofs.lemmas.Bool.Decides.{nat_tests}
use Rattle.std.proofs.lemmas.Fmt.{decimal_is_IsNumeral}
use Rattle.cf_base.specs.declared.arith.Arith.{Arith}
use Rattle.cc_whole_tokens.specs.declared.mark.Mark.{Mark}
use Rattle.cc_whole_tokens.specs.declared.mark.Mark.TheVariants as mark
use Rattle.cc_whole_tokens.specs.declared.token.Token.{Token}
use Rattle.cc_whole_tokens.specs.declared.token.Token.TheVariants as token
use Rattle.cc_whole.specs.declared.types.CType.{CType}
use Rattle.cc_whole.specs.declared.types.CType.TheVariants as ty
use Rattle.cc_whole.specs.declared.types.CConstant.{CConstant}
use Rattle.cc_whole.specs.declared.types.CConstant.TheVariants as int
use Rattle.cc_whole.specs.declared.types.CSignature.{CSignature}
use Rattle.cc_whole.specs.declared.expression.Prefix.{Prefix}
use Rattle.cc_whole.specs.declared.expression.Prefix.TheVariants as prefix
use Rattle.cc_whole.specs.Numbers.{fits_constant, label_of}
use Rattle.cc_whole.specs.Operators.{operator_of, joins, prefix_mark}
use Rattle.cc_whole.specs.SpellsTypes as spells
use Rattle.cc_whole.specs.SpellsTypes.{sign, SpellsConstant, type_tokens, result_tokens, some_types, types_tokens, signature_tokens}
use Rattle.cc_whole.specs.Spells.{bracketed}
use Rattle.cc_whole_laws.specs.Landmark.{landmark, landmarks_in}
use Rattle.cc_whole_fitting.specs.declared.before.Before.{Before}
use Rattle.cc_whole_fitting.specs.declared.before.Before.TheVariants as before
use Rattle.cc_whole_fitting.specs.Numbers.{behind, behind_mark, behind_all, token_fits, fit_from}
use Rattle.cc_whole_wide.specs.declared.role.Role.{Role}
use Rattle.cc_whole_wide.specs.declared.role.Role.TheVariants as role
use Rattle.cc_whole_wide.specs.Roles.{mark_role, behind_wide, behind_number, role_behind}
use Rattle.cc_whole_wide.specs.Others.{later, instead, numbered, put}
use Rattle.cc_whole_wide.proofs.Turns.{outer, Turned, Stays, Calm, later_zero, both, closed, silent, one}

-- ---- constants

pub label_small : (c : CConstant) → label_of c < 2 ^ 32
label_small (int.Signed (pos n)) = omega arith
label_small (int.Signed (negsuc n)) = omega arith
label_small (int.Unsigned n) = omega arith

pub same_label : (c : CConstant) → digits_value 10 (decimal (label_of c)) ≡ label_of c
same_label c = let h = label_small c in (decimal_is_IsNumeral (label_of c) (omega (arith, h))).1

bits_fit : (c : CConstant) → nat_lt (digits_value 10 (decimal (label_of c))) (2 ^ 32) ≡ true
bits_fit c =
    let h = label_small c in
    let small : nat_lt (label_of c) (2 ^ 32) ≡ true = grind (arith, nat_tests) in
    ap (λ n. nat_lt n (2 ^ 32)) (same_label c) ∙ small

-- what stands in place of a constant fits, and is an operand
instead_fits : (r : Role) (c : CConstant) → fit_from (instead r (label_of c)) before.Other ≡ true
instead_fits role.Label c = and_from (nat_lt (digits_value 10 (decimal (label_of c))) (2 ^ 32)) true (bits_fit c) refl
instead_fits role.Size c = refl
instead_fits role.Pair c = refl
instead_fits role.Function c = refl
instead_fits role.Value c = refl

instead_ends : (r : Role) (c : CConstant) → behind_all (instead r (label_of c)) before.Other ≡ before.Operand
instead_ends role.Label c = refl
instead_ends role.Size c = refl
instead_ends role.Pair c = refl
instead_ends role.Function c = refl
instead_ends role.Value c = refl

-- a constant that fits stays, and another stands for one that does not
pub data Constant (r : Role) (c : CConstant) (xs : List Token) : Type 0 where
  fits : fits_constant c ≡ true → Stays before.Other r xs before.Operand role.Value → Constant r c xs
  wide : fits_constant c ≡ false → Turned before.Other r xs (instead r (label_of c)) (Some 0) before.Operand (behind_wide r) → Constant r c xs

-- a number, whose sign stands before it
record Number (t : Token) (b : Before) (c : CConstant) (own : List Token) : Type 0 where
  fit : token_fits t b ≡ fits_constant c
  puts : (r : Role) → put t b r ≡ numbered (token_fits t b) own r c
  serves : (r : Role) → role_behind t b r ≡ behind_number (token_fits t b) r
  after : behind t b ≡ before.Operand
  begins : outer b ≡ before.Other
  fits_too : token_fits t b ≡ true → fit_from own (outer b) ≡ true
  ends : behind_all own (outer b) ≡ before.Operand

number_fits : (t : Token) (b : Before) (c : CConstant) (own : List Token) (r : Role) → Calm r → Number t b c own → fits_constant c ≡ true
    → Turned b r (t ∷ []) own None before.Operand role.Value
number_fits t b c own r calm n f =
    let fit : token_fits t b ≡ true = n.fit ∙ f in
    record {
      puts = append-nil (put t b r) ∙ (n.puts r ∙ (ap (λ x. numbered x own r c) fit ∙ calm own));
      after = n.after;
      serves = n.serves r ∙ ap (λ x. behind_number x r) fit;
      wide = ap (λ x. if x then later (landmark t) None else Some 0) fit;
      fit = n.fits_too fit;
      ends = n.ends;
    }

number_wide : (t : Token) (b : Before) (c : CConstant) (own : List Token) (r : Role) → Number t b c own → fits_constant c ≡ false
    → Turned b r (t ∷ []) (instead r (label_of c)) (Some 0) before.Operand (behind_wide r)
number_wide t b c own r n f =
    let fit : token_fits t b ≡ false = n.fit ∙ f in
    record {
      puts = append-nil (put t b r) ∙ (n.puts r ∙ ap (λ x. numbered x own r c) fit);
      after = n.after;
      serves = n.serves r ∙ ap (λ x. behind_number x r) fit;
      wide = ap (λ x. if x then later (landmark t) None else Some 0) fit;
      fit = ap (fit_from (instead r (label_of c))) n.begins ∙ instead_fits r c;
      ends = ap (behind_all (instead r (label_of c))) n.begins ∙ instead_ends r c;
    }

-- a sign is put with its number
signed : {r q : Role} {xs ys : List Token} {o : Option ℕ} {c : Before} → Turned before.Sign r xs ys o c q → Turned before.Other r (token.Dash ∷ xs) ys o c q
signed {o = o} t = record { puts = t.puts; after = t.after; serves = t.serves; wide = ap (later 0) t.wide ∙ later_zero o; fit = t.fit; ends = t.ends }

constant_by : (r : Role) → Calm r → (c : CConstant) (xs : List Token) → SpellsConstant c xs → (f : Bool) → fits_constant c ≡ f → Constant r c xs
constant_by r calm c _ (spells.SpellsConstant.signed ds) true f =
    fits f (number_fits (token.Signed ds) before.Other _ (token.Signed ds ∷ []) r calm (record { fit = refl; puts = λ r. refl; serves = λ r. refl; after = refl; begins = refl; fits_too = λ k. and_from _ true k refl; ends = refl }) f)
constant_by r calm c _ (spells.SpellsConstant.signed ds) false f =
    wide f (number_wide (token.Signed ds) before.Other _ (token.Signed ds ∷ []) r (record { fit = refl; puts = λ r. refl; serves = λ r. refl; after = refl; begins = refl; fits_too = λ k. and_from _ true k refl; ends = refl }) f)
constant_by r calm c _ (spells.SpellsConstant.negative ds) true f =
    fits f (signed (number_fits (token.Signed ds) before.Sign _ (token.Dash ∷ token.Signed ds ∷ []) r calm (record { fit = refl; puts = λ r. refl; serves = λ r. refl; after = refl; begins = refl; fits_too = λ k. and_from _ true k refl; ends = refl }) f))
constant_by r calm c _ (spells.SpellsConstant.negative ds) false f =
    wide f (signed (number_wide (token.Signed ds) before.Sign _ (token.Dash ∷ token.Signed ds ∷ []) r (record { fit = refl; puts = λ r. refl; serves = λ r. refl; after = refl; begins = refl; fits_too = λ k. and_from _ true k refl; ends = refl }) f))
constant_by r calm c _ (spells.SpellsConstant.unsigned ds) true f =
    fits f (number_fits (token.Unsigned ds) before.Other _ (token.Unsigned ds ∷ []) r calm (record { fit = refl; puts = λ r. refl; serves = λ r. refl; after = refl; begins = refl; fits_too = λ k. and_from _ true k refl; ends = refl }) f)
constant_by r calm c _ (spells.SpellsConstant.unsigned ds) false f =
    wide f (number_wide (token.Unsigned ds) before.Other _ (token.Unsigned ds ∷ []) r (record { fit = refl; puts = λ r. refl; serves = λ r. refl; after = refl; begins = refl; fits_too = λ k. and_from _ true k refl; ends = refl }) f)

pub constant_turned : (r : Role) → Calm r → {c : CConstant} {xs : List Token} → SpellsConstant c xs → Constant r c xs
constant_turned r calm {c} {xs} d = constant_by r calm c xs d (fits_constant c) refl

-- ---- operators

-- an operator behind an operand
record Joins (m : Mark) : Type 0 where
  after : behind_mark m before.Operand ≡ before.Other
  serves : mark_role m role.Value ≡ role.Value

operator_behind : (m : Mark) (q : ℕ × Arith) → operator_of m ≡ Some q → Joins m
operator_behind mark.RightParen q e = absurd (cc)
operator_behind mark.Char q e = absurd (cc)
operator_behind mark.Short q e = absurd (cc)
operator_behind mark.Int q e = absurd (cc)
operator_behind mark.Unsigned q e = absurd (cc)
operator_behind mark.FunctionPointer q e = absurd (cc)
operator_behind mark.Case q e = absurd (cc)
operator_behind mark.LeftBracket q e = absurd (cc)
operator_behind mark.LeftBrace q e = absurd (cc)
operator_behind mark.Star q e = record { after = refl; serves = refl }
operator_behind m q e = record { after = refl; serves = refl }

operator_stays : (m : Mark) → Joins m → Turned before.Operand role.Value (sign m) (sign m) (later (landmark (token.Mark m)) None) before.Other role.Value
operator_stays m j = record { puts = refl; after = j.after; serves = j.serves; wide = refl; fit = refl; ends = j.after }

pub joins_stays : (t : Token) (q : ℕ × Arith) → joins t ≡ Some q → Stays before.Operand role.Value (t ∷ []) before.Other role.Value
joins_stays (token.Mark m) q e = operator_stays m (operator_behind m q e)
joins_stays token.Dash q e = record { puts = refl; after = refl; serves = refl; wide = refl; fit = refl; ends = refl }
joins_stays (token.Name name) q e = absurd (cc)
joins_stays (token.Signed digits) q e = absurd (cc)
joins_stays (token.Unsigned digits) q e = absurd (cc)
joins_stays (token.Text bytes) q e = absurd (cc)
joins_stays token.Shared q e = absurd (cc)

pub prefix_stays : (o : Prefix) (b : Before) (r : Role) → Stays b r (sign (prefix_mark o)) before.Other role.Value
prefix_stays prefix.Negate b r = record { puts = refl; after = refl; serves = refl; wide = refl; fit = refl; ends = refl }
prefix_stays prefix.Complement b r = record { puts = refl; after = refl; serves = refl; wide = refl; fit = refl; ends = refl }
prefix_stays prefix.Not b r = record { puts = refl; after = refl; serves = refl; wide = refl; fit = refl; ends = refl }

pub prefix_none : (o : Prefix) → landmarks_in (sign (prefix_mark o)) ≡ 0
prefix_none prefix.Negate = refl
prefix_none prefix.Complement = refl
prefix_none prefix.Not = refl

-- ---- types

pub type_stays : (t : CType) (b : Before) (r : Role) → Stays b r (type_tokens t) before.Word role.Value
type_stays ty.Char b r = record { puts = refl; after = refl; serves = refl; wide = refl; fit = refl; ends = refl }
type_stays ty.UChar b r = record { puts = refl; after = refl; serves = refl; wide = refl; fit = refl; ends = refl }
type_stays ty.Short b r = record { puts = refl; after = refl; serves = refl; wide = refl; fit = refl; ends = refl }
type_stays ty.UShort b r = record { puts = refl; after = refl; serves = refl; wide = refl; fit = refl; ends = refl }
type_stays ty.Int b r = record { puts = refl; after = refl; serves = refl; wide = refl; fit = refl; ends = refl }
type_stays ty.UInt b r = record { puts = refl; after = refl; serves = refl; wide = refl; fit = refl; ends = refl }
type_stays ty.Pointer b r = record { puts = refl; after = refl; serves = refl; wide = refl; fit = refl; ends = refl }
type_stays ty.FunctionPointer b r = record { puts = refl; after = refl; serves = refl; wide = refl; fit = refl; ends = refl }

abbrev pub after_result : Option CType → Before
after_result None = before.Other
after_result (Some t) = before.Word

pub result_stays : (t : Option CType) (b : Before) (r : Role) → Stays b r (result_tokens t) (after_result t) role.Value
result_stays None b r = record { puts = refl; after = refl; serves = refl; wide = refl; fit = refl; ends = refl }
result_stays (Some t) b r = type_stays t b r

some_stay : (t : CType) (ts : List CType) (b : Before) (r : Role) → Stays b r (some_types t ts) before.Word role.Value
some_stay t [] b r = type_stays t b r
some_stay t (u ∷ ts) b r = both (type_stays t b r) (silent mark.Comma refl (some_stay u ts before.Other role.Value))

two_parens : Stays before.Word role.Value (token.Mark mark.RightParen ∷ sign mark.RightParen) before.Operand role.Value
two_parens = record { puts = refl; after = refl; serves = refl; wide = refl; fit = refl; ends = refl }

types_stay : (ts : List CType) → Stays before.Other role.Value (types_tokens ts ++ (token.Mark mark.RightParen ∷ sign mark.RightParen)) before.Operand role.Value
types_stay [] = record { puts = refl; after = refl; serves = refl; wide = refl; fit = refl; ends = refl }
types_stay (t ∷ ts) = both (some_stay t ts before.Other role.Value) two_parens

pub signature_stays : (s : CSignature) (b : Before) (r : Role) → Stays b r (signature_tokens s) before.Operand role.Value
signature_stays s b r =
    silent mark.LeftParen refl (both (result_stays s.result before.Other role.Value)
    (silent mark.LeftParen refl (silent mark.Star refl (silent mark.RightParen refl (silent mark.LeftParen refl (types_stay s.parameters))))))

-- a type in brackets, and a type and `*`
pub cast_stays : (t : CType) (b : Before) (r : Role) → Stays b r (bracketed (type_tokens t)) before.Other role.Value
cast_stays t b r = silent mark.LeftParen refl (closed (type_stays t before.Other role.Value) (one mark.RightParen before.Word role.Value))

pub pointed_stays : (t : CType) (b : Before) (r : Role) → Stays b r (bracketed (type_tokens t ++ sign mark.Star)) before.Other role.Value
pointed_stays t b r =
    silent mark.LeftParen refl
    (closed (closed (type_stays t before.Other role.Value) (one mark.Star before.Word role.Value)) (one mark.RightParen before.Word role.Value))
