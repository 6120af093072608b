-- What is printed for a statement without a body in it is a text of it.
use Rattle.std.proofs.Common.{◌≡◌, ℕ, true, List, [], ◌∷◌, ◌++◌, Option, Some, None, option_map, map, ap, sym, ◌∙◌, append_assoc}
use Rattle.std.proofs.lemmas.Bool.{and_parts}
use Rattle.cc_whole_tokens.specs.declared.mark.Mark.{Mark}
use Rattle.cc_whole_tokens.specs.declared.mark.Mark.TheVariants as mark
use Rattle.cc_whole_tokens.specs.declared.token.Token.{Token}
use Rattle.cc_whole_tokens.specs.declared.token.Token.TheVariants as token
use Rattle.cc_whole.specs.declared.expression.CPlace.{CPlace}
use Rattle.cc_whole.specs.declared.expression.CExpression.{CExpression}
use Rattle.cc_whole.specs.declared.statement.CCallee.{CCallee}
use Rattle.cc_whole.specs.declared.statement.CCallee.TheVariants as callee
use Rattle.cc_whole.specs.declared.statement.CBody.{CBody}
use Rattle.cc_whole.specs.declared.statement.CStatement.{CStatement}
use Rattle.cc_whole.specs.declared.statement.CStatement.TheVariants as statement
use Rattle.cc_whole.specs.declared.statement.CSwitchItem.{CSwitchItem}
use Rattle.cc_whole.specs.SpellsTypes.{sign, signature_tokens}
use Rattle.cc_whole.specs.Plain.{expression_of, place_of, callee_of, statement_of, body_of}
use Rattle.cc_whole.specs.Spells as g
use Rattle.cc_whole.specs.Spells.{bracketed, SpellsCallee, SpellsTarget, SpellsBody, SpellsStatement}
use Rattle.cc_whole_laws.proofs.Views.{of-Assign, of-Call, of-Return}
use Rattle.cc_whole_print.specs.Lines.{printed_mark}
use Rattle.cc_whole_print.specs.Expressions.{bracketed_text, place_text, whole_text}
use Rattle.cc_whole_print.specs.Statements.{target_text, callee_text, alone_text, head_text, statement_text, body_text}
use Rattle.cc_whole_printed.specs.Written.{written, written_place, written_target, written_callee, all_written, written_given, written_statement, written_body}
use Rattle.cc_whole_printed.proofs.Texts.{text-Assign, text-Call, text-Break, text-Continue, text-Return}
use Rattle.cc_whole_printed.proofs.Cuts.{Cuts, cuts-none, cuts-append, cuts-mark, cuts-name}
use Rattle.cc_whole_printed.proofs.TextOf.{TextOf, text_of_same}
use Rattle.cc_whole_printed.proofs.Types.{cuts-signature}
use Rattle.cc_whole_printed.proofs.Expressions.{cuts-brackets, printed_place, printed_whole, printed_listed}

-- what is printed for it is a text of it
abbrev pub IsPrinted : CStatement → Type 0
IsPrinted s = written_statement (statement_of s) ≡ true → TextOf (SpellsStatement s) (statement_text s)

abbrev pub IsBodyPrinted : CBody → Type 0
IsBodyPrinted b = written_body (body_of b) ≡ true → TextOf (SpellsBody b) (body_text b)

pub printed-Assign : (p : CPlace) (e : CExpression) → IsPrinted (statement.Assign p e)
printed-Assign p e good =
    let parts = and_parts (written_place (place_of p)) (written (expression_of e)) (ap written_statement (sym (of-Assign p e)) ∙ good) in
    let to = printed_place p parts.0 in
    let value = printed_whole e parts.1 in
    text_of_same _ _ (text-Assign p e) (record {
      tokens = to.tokens ++ (token.Mark mark.Assign ∷ (value.tokens ++ sign mark.Semicolon));
      cut = cuts-append to.cut (cuts-append (cuts-mark mark.Assign) (cuts-append value.cut (cuts-mark mark.Semicolon)));
      spells = g.SpellsStatement.assign p to.tokens e value.tokens to.spells value.spells;
    })

printed_target : (p : Option CPlace) → written_target (option_map place_of p) ≡ true → TextOf (SpellsTarget p) (target_text p)
printed_target None good = record { tokens = []; cut = cuts-none; spells = g.SpellsTarget.none }
printed_target (Some p) good =
    let w = printed_place p good in
    record { tokens = w.tokens ++ sign mark.Assign; cut = cuts-append w.cut (cuts-mark mark.Assign); spells = g.SpellsTarget.some p w.tokens w.spells }

printed_callee : (c : CCallee) → written_callee (callee_of c) ≡ true → TextOf (SpellsCallee c) (callee_text c)
printed_callee (callee.Name name) good = record { tokens = token.Name name ∷ []; cut = cuts-name name good; spells = g.SpellsCallee.name name }
printed_callee (callee.Pointer s e) good =
    let w = printed_whole e good in
    record {
      tokens = bracketed (signature_tokens s ++ bracketed w.tokens);
      cut = cuts-brackets (cuts-append (cuts-signature s) (cuts-brackets w.cut));
      spells = g.SpellsCallee.pointer s e w.tokens w.spells;
    }

pub printed-Call : (p : Option CPlace) (c : CCallee) (es : List CExpression) → IsPrinted (statement.Call p c es)
printed-Call p c es good =
    let parts = and_parts (written_target (option_map place_of p)) _ (ap written_statement (sym (of-Call p c es)) ∙ good) in
    let called = and_parts (written_callee (callee_of c)) (all_written (map expression_of es)) parts.1 in
    let to = printed_target p parts.0 in
    let name = printed_callee c called.0 in
    let given = printed_listed es called.1 in
    text_of_same _ _ (text-Call p c es) (record {
      tokens = to.tokens ++ (name.tokens ++ (bracketed given.tokens ++ sign mark.Semicolon));
      cut = cuts-append to.cut (cuts-append name.cut (cuts-append (cuts-brackets given.cut) (cuts-mark mark.Semicolon)));
      spells = g.SpellsStatement.calls p to.tokens c name.tokens es given.tokens to.spells name.spells given.spells;
    })

cuts-alone : (m : Mark) → Cuts (alone_text m) (token.Mark m ∷ sign mark.Semicolon)
cuts-alone m = cuts-append (cuts-mark m) (cuts-mark mark.Semicolon)

pub printed-Break : IsPrinted statement.Break
printed-Break good = text_of_same _ _ text-Break (record {
  tokens = token.Mark mark.Break ∷ sign mark.Semicolon;
  cut = cuts-alone mark.Break;
  spells = g.SpellsStatement.leaves;
})

pub printed-Continue : IsPrinted statement.Continue
printed-Continue good = text_of_same _ _ text-Continue (record {
  tokens = token.Mark mark.Continue ∷ sign mark.Semicolon;
  cut = cuts-alone mark.Continue;
  spells = g.SpellsStatement.continues;
})

pub printed-Return : (e : Option CExpression) → IsPrinted (statement.Return e)
printed-Return None good = text_of_same _ _ (text-Return None) (record {
  tokens = token.Mark mark.Return ∷ sign mark.Semicolon;
  cut = cuts-alone mark.Return;
  spells = g.SpellsStatement.returns;
})
printed-Return (Some e) good =
    let value = printed_whole e (ap written_statement (sym (of-Return (Some e))) ∙ good) in
    text_of_same _ _ (text-Return (Some e)) (record {
      tokens = token.Mark mark.Return ∷ (value.tokens ++ sign mark.Semicolon);
      cut = cuts-append (cuts-mark mark.Return) (cuts-append value.cut (cuts-mark mark.Semicolon));
      spells = g.SpellsStatement.gives e value.tokens value.spells;
    })
