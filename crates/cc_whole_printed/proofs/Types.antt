-- What is printed for constants, types, variables and locals is a text of them.
use Rattle.std.proofs.Common.{◌≡◌, ℕ, zero, suc, ◌<◌, ◌^◌, true, List, [], ◌∷◌, ◌++◌, ℤ, pos, negsuc, neg_ℤ, Option, Some, None, map, refl, ap, sym, subst, append-nil, append_assoc, arith}
use Rattle.std.specs.Prelude.{decimal}
use Rattle.std.specs.List.{concat, list_all}
use Rattle.std.proofs.lemmas.Fmt.{decimal_is_IsNumeral}
use Rattle.std.proofs.lemmas.Bool.{and_parts}
use Rattle.std.proofs.lemmas.Bool.Decides.{nat_tests}
use Rattle.cf_base.specs.declared.kind.Kind.TheVariants.{Int, UInt}
use Rattle.cf_base.specs.Integers.{fits}
use Rattle.cc_whole_tokens.specs.declared.mark.Mark.{Mark}
use Rattle.cc_whole_tokens.specs.declared.mark.Mark.TheVariants as mark
use Rattle.cc_whole_tokens.specs.declared.token.Token.{Token}
use Rattle.cc_whole_tokens.specs.declared.token.Token.TheVariants as token
use Rattle.cc_whole_tokens.specs.Token.{is_name}
use Rattle.cc_whole.specs.declared.types.CType.{CType}
use Rattle.cc_whole.specs.declared.types.CType.TheVariants as ty
use Rattle.cc_whole.specs.declared.types.CConstant.{CConstant}
use Rattle.cc_whole.specs.declared.types.CConstant.TheVariants as int
use Rattle.cc_whole.specs.declared.types.CSignature.{CSignature}
use Rattle.cc_whole.specs.declared.types.CVariableType.{CVariableType}
use Rattle.cc_whole.specs.declared.types.CVariableType.TheVariants as variable
use Rattle.cc_whole.specs.declared.types.CLocalType.{CLocalType}
use Rattle.cc_whole.specs.declared.types.CLocalType.TheVariants as «local»
use Rattle.cc_whole.specs.declared.statement.CLocal.{CLocal}
use Rattle.cc_whole.specs.Numbers.{fits_constant}
use Rattle.cc_whole.specs.Types.{local_type}
use Rattle.cc_whole.specs.SpellsTypes as g
use Rattle.cc_whole.specs.SpellsTypes.{sign, SpellsConstant, type_tokens, result_tokens, some_types, types_tokens, signature_tokens, array_tokens, SpellsVariable, SpellsLocal}
use Rattle.cc_whole.specs.Spells.{SpellsLocals}
use Rattle.cc_whole.specs.Spells as phrases
use Rattle.cc_whole_print.specs.Lines.{printed_mark, spaced, constant_text, after_commas}
use Rattle.cc_whole_print.specs.Types.{two_text, type_text, result_text, types_text, signature_text, array_text, array_of_text, scalar_text, variable_text, named_local_text, local_text}
use Rattle.cc_whole_printed.specs.Written.{written_type, written_local}
use Rattle.cc_whole_printed.proofs.Cuts.{Cuts, cuts-none, cuts-append, cuts-same, cuts-mark, cuts-name, cuts-signed, cuts-unsigned, signed_tokens}
use Rattle.cc_whole_printed.proofs.TextOf.{TextOf, text_of_same}

-- ---- constants

spelled_signed : (z : ℤ) → fits Int z ≡ true → SpellsConstant (int.Signed z) (signed_tokens z)
spelled_signed (pos n) fit =
    let small : n < 2 ^ 31 = grind (arith, nat_tests) in
    subst (λ m. SpellsConstant (int.Signed (pos m)) (token.Signed (decimal n) ∷ [])) (decimal_is_IsNumeral n (omega arith)).1 (g.SpellsConstant.signed (decimal n))
spelled_signed (negsuc n) fit =
    let small : n < 2 ^ 31 = grind (arith, nat_tests) in
    subst (λ m. SpellsConstant (int.Signed (neg_ℤ (pos m))) (token.Dash ∷ token.Signed (decimal (suc n)) ∷ [])) (decimal_is_IsNumeral (suc n) (omega arith)).1
    (g.SpellsConstant.negative (decimal (suc n)))

pub printed_constant : (c : CConstant) → fits_constant c ≡ true → TextOf (SpellsConstant c) (constant_text c)
printed_constant (int.Signed z) fit = record { tokens = signed_tokens z; cut = cuts-signed z fit; spells = spelled_signed z fit }
printed_constant (int.Unsigned n) fit =
    let small : n < 2 ^ 32 = grind (arith, nat_tests) in
    record {
      tokens = token.Unsigned (decimal n) ∷ [];
      cut = cuts-unsigned n (omega arith);
      spells = subst (λ m. SpellsConstant (int.Unsigned m) (token.Unsigned (decimal n) ∷ [])) (decimal_is_IsNumeral n (omega arith)).1 (g.SpellsConstant.unsigned (decimal n));
    }

-- ---- types

cuts-two : (m n : Mark) → Cuts (two_text m n) (token.Mark m ∷ sign n)
cuts-two m n = cuts-append (cuts-mark m) (cuts-mark n)

pub cuts-type : (t : CType) → Cuts (type_text t) (type_tokens t)
cuts-type ty.Char = cuts-mark mark.Char
cuts-type ty.UChar = cuts-two mark.Unsigned mark.Char
cuts-type ty.Short = cuts-mark mark.Short
cuts-type ty.UShort = cuts-two mark.Unsigned mark.Short
cuts-type ty.Int = cuts-mark mark.Int
cuts-type ty.UInt = cuts-mark mark.Unsigned
cuts-type ty.Pointer = cuts-two mark.Char mark.Star
cuts-type ty.FunctionPointer = cuts-mark mark.FunctionPointer

pub cuts-result : (t : Option CType) → Cuts (result_text t) (result_tokens t)
cuts-result None = cuts-mark mark.Void
cuts-result (Some t) = cuts-type t

cuts-types-some : (t : CType) (ts : List CType) → Cuts (type_text t ++ after_commas (map type_text ts)) (some_types t ts)
cuts-types-some t [] = cuts-same _ _ (append-nil (type_text t)) (cuts-type t)
cuts-types-some t (u ∷ ts) = cuts-append (cuts-type t) (cuts-append (cuts-mark mark.Comma) (cuts-types-some u ts))

cuts-types : (ts : List CType) → Cuts (types_text ts) (types_tokens ts)
cuts-types [] = cuts-mark mark.Void
cuts-types (t ∷ ts) = cuts-types-some t ts

pub cuts-signature : (s : CSignature) → Cuts (signature_text s) (signature_tokens s)
cuts-signature s =
    cuts-append (cuts-mark mark.LeftParen) (cuts-append (cuts-result s.result)
    (cuts-append (cuts-append (cuts-mark mark.LeftParen) (cuts-append (cuts-mark mark.Star) (cuts-mark mark.RightParen)))
    (cuts-append (cuts-mark mark.LeftParen) (cuts-append (cuts-types s.parameters) (cuts-two mark.RightParen mark.RightParen)))))

-- ---- variables

cuts-scalar : (t : CType) (name : List ℕ) → is_name name ≡ true → Cuts (scalar_text t name) (type_tokens t ++ (token.Name name ∷ []))
cuts-scalar t name is = cuts-append (cuts-type t) (cuts-name name is)

cuts-array : (name : List ℕ) (c : CConstant) (cs : List Token) → is_name name ≡ true → Cuts (constant_text c) cs → Cuts (array_text name c) (array_tokens name cs)
cuts-array name c cs is k = cuts-append (cuts-name name is) (cuts-append (cuts-mark mark.LeftBracket) (cuts-append k (cuts-mark mark.RightBracket)))

pub printed_variable : (t : CVariableType) (name : List ℕ) → is_name name ≡ true → written_type t ≡ true → TextOf (SpellsVariable t name) (variable_text t name)
printed_variable (variable.Scalar t) name is fit = record {
  tokens = type_tokens t ++ (token.Name name ∷ []);
  cut = cuts-scalar t name is;
  spells = g.SpellsVariable.scalar t name;
}
printed_variable (variable.Ints c) name is fit =
    let w = printed_constant c fit in
    record {
      tokens = token.Mark mark.Int ∷ array_tokens name w.tokens;
      cut = cuts-append (cuts-mark mark.Int) (cuts-array name c w.tokens is w.cut);
      spells = g.SpellsVariable.ints c w.tokens name w.spells;
    }
printed_variable (variable.Chars c) name is fit =
    let w = printed_constant c fit in
    record {
      tokens = token.Mark mark.Char ∷ array_tokens name w.tokens;
      cut = cuts-append (cuts-mark mark.Char) (cuts-array name c w.tokens is w.cut);
      spells = g.SpellsVariable.chars c w.tokens name w.spells;
    }
printed_variable (variable.Pairs c) name is fit =
    let w = printed_constant c fit in
    record {
      tokens = token.Mark mark.Struct ∷ token.Mark mark.Pair ∷ array_tokens name w.tokens;
      cut = cuts-append (cuts-mark mark.Struct) (cuts-append (cuts-mark mark.Pair) (cuts-array name c w.tokens is w.cut));
      spells = g.SpellsVariable.pairs c w.tokens name w.spells;
    }

-- ---- locals

printed_named_local : (t : CLocalType) (name : List ℕ) → is_name name ≡ true → written_type (local_type t) ≡ true → TextOf (SpellsLocal t name) (named_local_text t name)
printed_named_local («local».Scalar t) name is fit = record {
  tokens = type_tokens t ++ (token.Name name ∷ []);
  cut = cuts-scalar t name is;
  spells = g.SpellsLocal.scalar t name;
}
printed_named_local («local».Ints c) name is fit =
    let w = printed_constant c fit in
    record {
      tokens = token.Mark mark.Int ∷ array_tokens name w.tokens;
      cut = cuts-append (cuts-mark mark.Int) (cuts-array name c w.tokens is w.cut);
      spells = g.SpellsLocal.ints c w.tokens name w.spells;
    }

pub printed_locals : (locals : List CLocal) → list_all written_local locals ≡ true → TextOf (SpellsLocals locals) (concat (map local_text locals))
printed_locals [] good = record { tokens = []; cut = cuts-none; spells = phrases.SpellsLocals.none }
printed_locals (l ∷ locals) good =
    let parts = and_parts (written_local l) (list_all written_local locals) good in
    let own = and_parts (is_name l.name) (written_type (local_type l.ty)) parts.0 in
    let w = printed_named_local l.ty l.name own.0 own.1 in
    let others = printed_locals locals parts.1 in
    text_of_same _ _ (append_assoc (named_local_text l.ty l.name) (printed_mark mark.Semicolon) (concat (map local_text locals))) (record {
      tokens = w.tokens ++ (token.Mark mark.Semicolon ∷ others.tokens);
      cut = cuts-append w.cut (cuts-append (cuts-mark mark.Semicolon) others.cut);
      spells = phrases.SpellsLocals.more l.ty l.name w.tokens locals others.tokens w.spells others.spells;
    })
