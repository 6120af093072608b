-- What is printed for a body, and for a statement with a body, is a text of it.
use Rattle.std.proofs.Common.{◌≡◌, ℕ, true, List, [], ◌∷◌, ◌++◌, Option, Some, None, option_map, map, refl, ap, sym, subst, ◌∙◌, append-nil, append_assoc}
use Rattle.std.specs.List.{concat, list_all}
use Rattle.std.proofs.lemmas.Bool.{and_parts}
use Rattle.cc_whole_tokens.specs.declared.mark.Mark.{Mark}
use Rattle.cc_whole_tokens.specs.declared.mark.Mark.TheVariants as mark
use Rattle.cc_whole_tokens.specs.declared.token.Token.{Token}
use Rattle.cc_whole_tokens.specs.declared.token.Token.TheVariants as token
use Rattle.cc_whole.specs.declared.types.CConstant.{CConstant}
use Rattle.cc_whole.specs.declared.expression.CExpression.{CExpression}
use Rattle.cc_whole.specs.declared.statement.CLocal.{CLocal}
use Rattle.cc_whole.specs.declared.statement.CBody.{CBody, CBody-F, roll-CBody, ind-CBody}
use Rattle.cc_whole.specs.declared.statement.CStatement.{CStatement, roll-CStatement}
use Rattle.cc_whole.specs.declared.statement.CStatement.TheFolds.{map-CStatement, map-CSwitchItem, map-CBody}
use Rattle.cc_whole.specs.declared.statement.CStatement.TheOpen.{CStatement-F, CSwitchItem-F}
use Rattle.cc_whole.specs.declared.statement.CStatement.TheVariants as statement
use Rattle.cc_whole.specs.declared.statement.CStatement.TheVariants.{rolls-Assign, rolls-Call, rolls-Block, rolls-Break, rolls-Continue, rolls-If, rolls-Loop, rolls-Switch, rolls-Return}
use Rattle.cc_whole.specs.declared.statement.CSwitchItem.{CSwitchItem, roll-CSwitchItem}
use Rattle.cc_whole.specs.declared.statement.CSwitchItem.TheVariants as part
use Rattle.cc_whole.specs.declared.statement.CSwitchItem.TheVariants.{rolls-Case, rolls-Default, rolls-Statement}
use Rattle.cc_whole.specs.Build.{made_body}
use Rattle.cc_whole.specs.Numbers.{fits_constant}
use Rattle.cc_whole.specs.SpellsTypes.{sign}
use Rattle.cc_whole.specs.Plain.{expression_of, statement_of, switch_item_of, body_of, in_order, SwitchItem, label, default_label, inner, SwitchItems, labelled, otherwise, stated, switch_in_order, else_of}
use Rattle.cc_whole.specs.Spells as g
use Rattle.cc_whole.specs.Spells.{bracketed, SpellsBody, SpellsStatements, SpellsStatement, SpellsSwitch}
use Rattle.cc_whole_laws.proofs.Views.{of-Block, of-If, of-If-only, of-Loop, of-Switch, of-Case, of-Default, of-Statement, of-made}
use Rattle.cc_whole_print.specs.Lines.{printed_mark, constant_text}
use Rattle.cc_whole_print.specs.Types.{local_text}
use Rattle.cc_whole_print.specs.Expressions.{bracketed_text, whole_text}
use Rattle.cc_whole_print.specs.Statements.{head_text, case_text, default_text, else_text, statement_text, switch_item_text, body_text}
use Rattle.cc_whole_printed.specs.Written.{written, written_local, written_statement, written_statements, written_switch, written_body}
use Rattle.cc_whole_printed.proofs.Texts.{text-Block, text-If, text-Loop, text-Switch, text-Case, text-Default, text-Statement, text-made}
use Rattle.cc_whole_printed.proofs.Cuts.{Cuts, cuts-none, cuts-append, cuts-mark}
use Rattle.cc_whole_printed.proofs.TextOf.{TextOf, text_of_same}
use Rattle.cc_whole_printed.proofs.Types.{printed_constant, printed_locals}
use Rattle.cc_whole_printed.proofs.Expressions.{cuts-brackets, printed_whole}
use Rattle.cc_whole_printed.proofs.Statements.{IsPrinted, IsBodyPrinted, printed-Assign, printed-Call, printed-Break, printed-Continue, printed-Return}

cuts-head : (m : Mark) (e : CExpression) (xs : List Token) → Cuts (whole_text e) xs → Cuts (head_text m e) (token.Mark m ∷ bracketed xs)
cuts-head m e xs c = cuts-append (cuts-mark m) (cuts-brackets c)

printed-Block : (b : CBody) → IsBodyPrinted b → IsPrinted (statement.Block b)
printed-Block b hb good =
    let w = hb (ap written_statement (sym (of-Block b)) ∙ good) in
    text_of_same _ _ (text-Block b) (record { tokens = w.tokens; cut = w.cut; spells = g.SpellsStatement.block b w.tokens w.spells })

printed-Loop : (b : CBody) → IsBodyPrinted b → IsPrinted (statement.Loop b)
printed-Loop b hb good =
    let w = hb (ap written_statement (sym (of-Loop b)) ∙ good) in
    text_of_same _ _ (text-Loop b) (record {
      tokens = token.Mark mark.For ∷ (bracketed (token.Mark mark.Semicolon ∷ sign mark.Semicolon) ++ w.tokens);
      cut = cuts-append (cuts-append (cuts-mark mark.For) (cuts-append (cuts-mark mark.LeftParen) (cuts-append (cuts-mark mark.Semicolon)
          (cuts-append (cuts-mark mark.Semicolon) (cuts-mark mark.RightParen))))) w.cut;
      spells = g.SpellsStatement.loops b w.tokens w.spells;
    })

printed_if_only : (e : CExpression) (b : CBody) → IsBodyPrinted b → IsPrinted (statement.If e b None)
printed_if_only e b hb good =
    let parts = and_parts (written (expression_of e)) _ (ap written_statement (sym (of-If-only e b)) ∙ good) in
    let bodies = and_parts (written_body (body_of b)) _ parts.1 in
    let test = printed_whole e parts.0 in
    let w = hb bodies.0 in
    text_of_same _ _ (text-If e b None ∙ ap (λ r. head_text mark.If e ++ r) (append-nil (body_text b))) (record {
      tokens = token.Mark mark.If ∷ (bracketed test.tokens ++ w.tokens);
      cut = cuts-append (cuts-head mark.If e test.tokens test.cut) w.cut;
      spells = g.SpellsStatement.if_only e test.tokens b w.tokens test.spells w.spells;
    })

printed_if_else : (e : CExpression) (b c : CBody) → IsBodyPrinted b → IsBodyPrinted c → IsPrinted (statement.If e b (Some c))
printed_if_else e b c hb hc good =
    let parts = and_parts (written (expression_of e)) _ (ap written_statement (sym (of-If e b c)) ∙ good) in
    let bodies = and_parts (written_body (body_of b)) (written_body (body_of c)) parts.1 in
    let test = printed_whole e parts.0 in
    let w = hb bodies.0 in
    let other = hc bodies.1 in
    text_of_same _ _ (text-If e b (Some c)) (record {
      tokens = token.Mark mark.If ∷ (bracketed test.tokens ++ (w.tokens ++ (token.Mark mark.Else ∷ other.tokens)));
      cut = cuts-append (cuts-head mark.If e test.tokens test.cut) (cuts-append w.cut (cuts-append (cuts-mark mark.Else) other.cut));
      spells = g.SpellsStatement.if_else e test.tokens b w.tokens c other.tokens test.spells w.spells other.spells;
    })

-- ---- switch

-- an item before others
abbrev pub before_others : SwitchItem → SwitchItems → SwitchItems
before_others (label c) rest = labelled c rest
before_others default_label rest = otherwise rest
before_others (inner s) rest = stated s rest

abbrev item_written : SwitchItem → Type 0
item_written (label c) = fits_constant c ≡ true
item_written default_label = Unit {0}
item_written (inner s) = written_statement s ≡ true

-- tokens that an item puts before those of the others
record Put (i : CSwitchItem) (bytes : List ℕ) : Type 0 where
  tokens : List Token
  cut : Cuts bytes tokens
  spells : (all : List CSwitchItem) (ys : List Token) → SpellsSwitch all ys → SpellsSwitch (i ∷ all) (tokens ++ ys)

put_same : {i : CSwitchItem} (bs cs : List ℕ) → bs ≡ cs → Put i cs → Put i bs
put_same {i = i} bs cs e w = rw e w

abbrev IsPut : CSwitchItem → Type 0
IsPut i = item_written (switch_item_of i) → Put i (switch_item_text i)

put-Case : (c : CConstant) → IsPut (part.Case c)
put-Case c good =
    let w = printed_constant c (subst item_written (of-Case c) good) in
    put_same _ _ (text-Case c) (record {
      tokens = token.Mark mark.Case ∷ (w.tokens ++ sign mark.Colon);
      cut = cuts-append (cuts-mark mark.Case) (cuts-append w.cut (cuts-mark mark.Colon));
      spells = λ all ys d. rw (append_assoc w.tokens (sign mark.Colon) ys) (g.SpellsSwitch.label c w.tokens all ys w.spells d);
    })

put-Default : IsPut part.Default
put-Default good = put_same _ _ text-Default (record {
  tokens = token.Mark mark.Default ∷ sign mark.Colon;
  cut = cuts-append (cuts-mark mark.Default) (cuts-mark mark.Colon);
  spells = λ all ys d. g.SpellsSwitch.otherwise all ys d;
})

put-Statement : (s : CStatement) → IsPrinted s → IsPut (part.Statement s)
put-Statement s hs good =
    let w = hs (subst item_written (of-Statement s) good) in
    put_same _ _ (text-Statement s) (record { tokens = w.tokens; cut = w.cut; spells = λ all ys d. g.SpellsSwitch.stated s w.tokens all ys w.spells d })

-- what is known of an item and of those behind it
item_parts : (i : SwitchItem) (rest : List SwitchItem) → written_switch (switch_in_order (i ∷ rest)) ≡ true
    → item_written i × (written_switch (switch_in_order rest) ≡ true)
item_parts (label c) rest good = and_parts (fits_constant c) (written_switch (switch_in_order rest)) good
item_parts default_label rest good = (tt, good)
item_parts (inner s) rest good = and_parts (written_statement s) (written_switch (switch_in_order rest)) good

printed_items : (all : List ((i : CSwitchItem) × IsPut i)) → written_switch (switch_in_order (map switch_item_of (map (λ i. i.0) all))) ≡ true
    → TextOf (SpellsSwitch (map (λ i. i.0) all)) (concat (map switch_item_text (map (λ i. i.0) all)))
printed_items [] good = record { tokens = []; cut = cuts-none; spells = g.SpellsSwitch.closed }
printed_items (i ∷ all) good =
    let parts = item_parts (switch_item_of i.0) (map switch_item_of (map (λ i. i.0) all)) good in
    let first = i.1 parts.0 in
    let others = printed_items all parts.1 in
    record {
      tokens = first.tokens ++ others.tokens;
      cut = cuts-append first.cut others.cut;
      spells = first.spells (map (λ i. i.0) all) others.tokens others.spells;
    }

printed-Switch : (e : CExpression) (all : List ((i : CSwitchItem) × IsPut i)) → IsPrinted (statement.Switch e (map (λ i. i.0) all))
printed-Switch e all good =
    let items = map (λ i. i.0) all in
    let parts = and_parts (written (expression_of e)) (written_switch (switch_in_order (map switch_item_of items))) (ap written_statement (sym (of-Switch e items)) ∙ good) in
    let test = printed_whole e parts.0 in
    let w = printed_items all parts.1 in
    text_of_same _ _ (text-Switch e items) (record {
      tokens = token.Mark mark.Switch ∷ (bracketed test.tokens ++ (token.Mark mark.LeftBrace ∷ (w.tokens ++ sign mark.RightBrace)));
      cut = cuts-append (cuts-head mark.Switch e test.tokens test.cut) (cuts-append (cuts-mark mark.LeftBrace) (cuts-append w.cut (cuts-mark mark.RightBrace)));
      spells = g.SpellsStatement.switches e test.tokens items w.tokens test.spells w.spells;
    })

-- ---- bodies

printed_statements : (all : List ((s : CStatement) × IsPrinted s)) → written_statements (in_order (map statement_of (map (λ s. s.0) all))) ≡ true
    → TextOf (SpellsStatements (map (λ s. s.0) all)) (concat (map statement_text (map (λ s. s.0) all)))
printed_statements [] good = record { tokens = []; cut = cuts-none; spells = g.SpellsStatements.none }
printed_statements (s ∷ all) good =
    let parts = and_parts (written_statement (statement_of s.0)) (written_statements (in_order (map statement_of (map (λ s. s.0) all)))) good in
    let first = s.1 parts.0 in
    let others = printed_statements all parts.1 in
    record {
      tokens = first.tokens ++ others.tokens;
      cut = cuts-append first.cut others.cut;
      spells = g.SpellsStatements.more s.0 first.tokens (map (λ s. s.0) all) others.tokens first.spells others.spells;
    }

printed_made_body : (locals : List CLocal) (all : List ((s : CStatement) × IsPrinted s)) → IsBodyPrinted (made_body locals (map (λ s. s.0) all))
printed_made_body locals all good =
    let statements = map (λ s. s.0) all in
    let parts = and_parts (list_all written_local locals) (written_statements (in_order (map statement_of statements)))
    (ap written_body (sym (of-made locals statements)) ∙ good) in
    let variables = printed_locals locals parts.0 in
    let inner = printed_statements all parts.1 in
    text_of_same _ _ (text-made locals statements) (record {
      tokens = token.Mark mark.LeftBrace ∷ (variables.tokens ++ (inner.tokens ++ sign mark.RightBrace));
      cut = cuts-append (cuts-mark mark.LeftBrace) (cuts-append variables.cut (cuts-append inner.cut (cuts-mark mark.RightBrace)));
      spells = g.SpellsBody.body locals variables.tokens statements inner.tokens variables.spells inner.spells;
    })

-- ---- the induction

-- a statement, once the bodies in it are printed so
layer : (y : CStatement-F ((s : CStatement) × IsPrinted s) ((i : CSwitchItem) × IsPut i) ((b : CBody) × IsBodyPrinted b))
    → IsPrinted (roll-CStatement (map-CStatement _ _ _ _ _ _ (λ c. c.0) (λ c. c.0) (λ c. c.0) y))
layer (CStatement-F.Assign p e) = subst IsPrinted (sym (rolls-Assign p e)) (printed-Assign p e)
layer (CStatement-F.Call p c es) = subst IsPrinted (sym (rolls-Call p c es)) (printed-Call p c es)
layer (CStatement-F.Block b) = subst IsPrinted (sym (rolls-Block b.0)) (printed-Block b.0 b.1)
layer CStatement-F.Break = subst IsPrinted (sym rolls-Break) printed-Break
layer CStatement-F.Continue = subst IsPrinted (sym rolls-Continue) printed-Continue
layer (CStatement-F.If e b None) = subst IsPrinted (sym (rolls-If e b.0 None)) (printed_if_only e b.0 b.1)
layer (CStatement-F.If e b (Some c)) = subst IsPrinted (sym (rolls-If e b.0 (Some c.0))) (printed_if_else e b.0 c.0 b.1 c.1)
layer (CStatement-F.Loop b) = subst IsPrinted (sym (rolls-Loop b.0)) (printed-Loop b.0 b.1)
layer (CStatement-F.Switch e all) = subst IsPrinted (sym (rolls-Switch e (map (λ i. i.0) all))) (printed-Switch e all)
layer (CStatement-F.Return e) = subst IsPrinted (sym (rolls-Return e)) (printed-Return e)

switch_layer : (y : CSwitchItem-F ((s : CStatement) × IsPrinted s) ((i : CSwitchItem) × IsPut i) ((b : CBody) × IsBodyPrinted b))
    → IsPut (roll-CSwitchItem (map-CSwitchItem _ _ _ _ _ _ (λ c. c.0) (λ c. c.0) (λ c. c.0) y))
switch_layer (CSwitchItem-F.Case c) = subst IsPut (sym (rolls-Case c)) (put-Case c)
switch_layer CSwitchItem-F.Default = subst IsPut (sym rolls-Default) put-Default
switch_layer (CSwitchItem-F.Statement s) = subst IsPut (sym (rolls-Statement s.0)) (put-Statement s.0 s.1)

-- a body, once its statements are printed so
body_layer : (y : CBody-F ((s : CStatement) × IsPrinted s) ((i : CSwitchItem) × IsPut i) ((b : CBody) × IsBodyPrinted b))
    → IsBodyPrinted (roll-CBody (map-CBody _ _ _ _ _ _ (λ c. c.0) (λ c. c.0) (λ c. c.0) y))
body_layer y = printed_made_body y.locals y.statements

pub printed_body : (b : CBody) → IsBodyPrinted b
printed_body = ind-CBody IsPrinted IsPut IsBodyPrinted
    (λ x y is. subst (λ z. IsPrinted (roll-CStatement z)) is (layer y))
    (λ x y is. subst (λ z. IsPut (roll-CSwitchItem z)) is (switch_layer y))
    (λ x y is. subst (λ z. IsBodyPrinted (roll-CBody z)) is (body_layer y))
