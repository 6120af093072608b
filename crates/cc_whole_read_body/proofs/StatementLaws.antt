-- The shapes of statements, by what they begin with, and that these are the statements of the grammar.
use Rattle.std.proofs.Common.{List, [], ◌∷◌, ◌++◌, Option, Some, None, ap, sym, subst, append-nil, append_assoc}
use Rattle.cc_whole_tokens.specs.declared.mark.Mark.TheVariants as mark
use Rattle.cc_whole_tokens.specs.declared.token.Token.{Token}
use Rattle.cc_whole_tokens.specs.declared.token.Token.TheVariants as token
use Rattle.cc_whole.specs.declared.expression.CExpression.{CExpression}
use Rattle.cc_whole.specs.declared.statement.CLocal.{CLocal}
use Rattle.cc_whole.specs.declared.statement.CBody.{CBody}
use Rattle.cc_whole.specs.declared.statement.CStatement.{CStatement}
use Rattle.cc_whole.specs.declared.statement.CStatement.TheVariants as statement
use Rattle.cc_whole.specs.declared.statement.CSwitchItem.{CSwitchItem}
use Rattle.cc_whole.specs.declared.statement.CSwitchItem.TheVariants as part
use Rattle.cc_whole.specs.Build.{made_body}
use Rattle.cc_whole.specs.SpellsTypes.{sign, SpellsConstant}
use Rattle.cc_whole.specs.Spells.{SpellsTarget, SpellsLocals, SpellsBody, SpellsStatements, SpellsStatement, SpellsSwitch, bracketed}
use Rattle.cc_whole.specs.Spells as g
use Rattle.cc_whole_reading.proofs.Decides.{Spelling, Done, done}
use Rattle.cc_whole_reading.proofs.Shapes.{Seq, seq, After, after, Made, made, Either, one, other}
use Rattle.cc_whole_reading.proofs.Chains.{Many, none, more}
use Rattle.cc_whole_read_expr.proofs.OperandLaws.{Whole}
use Rattle.cc_whole_read_body.proofs.EffectLaws.{IsEffect, assigns, stores, calls}

-- ---- items of a `switch`

abbrev pub LabelShape : Spelling CSwitchItem
LabelShape = Seq SpellsConstant (λ c. After mark.Colon (Done (part.Case c)))

abbrev pub DefaultShape : Spelling CSwitchItem
DefaultShape = After mark.Colon (Done part.Default)

abbrev pub InnerShape : Spelling CSwitchItem
InnerShape = Made part.Statement SpellsStatement

abbrev pub OtherItem : Spelling CSwitchItem
OtherItem = Either (After mark.Default DefaultShape) InnerShape

abbrev pub ItemShape : Spelling CSwitchItem
ItemShape = Either (After mark.Case LabelShape) OtherItem

switch_shape : (all : List CSwitchItem) (xs : List Token) → SpellsSwitch all xs → Many ItemShape all xs
switch_shape _ _ g.SpellsSwitch.closed = none
switch_shape _ _ (g.SpellsSwitch.label c cs all ys s d) =
    subst (Many ItemShape (part.Case c ∷ all)) (ap (λ l. token.Mark mark.Case ∷ l) (append_assoc cs (sign mark.Colon) ys))
    (more (part.Case c) (token.Mark mark.Case ∷ (cs ++ sign mark.Colon)) all ys
    (one _ _ (after _ _ (seq c cs (part.Case c) (sign mark.Colon) s (after _ _ done)))) (switch_shape all ys d))
switch_shape _ _ (g.SpellsSwitch.otherwise all ys d) =
    more part.Default (token.Mark mark.Default ∷ token.Mark mark.Colon ∷ []) all ys (other _ _ (one _ _ (after _ _ (after _ _ done)))) (switch_shape all ys d)
switch_shape _ _ (g.SpellsSwitch.stated s xs all ys t d) = more (part.Statement s) xs all ys (other _ _ (other _ _ (made s xs t))) (switch_shape all ys d)

label_on : (c : _) (cs : List Token) → SpellsConstant c cs → (b : CSwitchItem) (ys : List Token) → After mark.Colon (Done (part.Case c)) b ys → (all : List CSwitchItem) (zs : List Token)
    → SpellsSwitch all zs → SpellsSwitch (b ∷ all) ((token.Mark mark.Case ∷ (cs ++ ys)) ++ zs)
label_on c cs s _ _ (after _ _ done) all zs d =
    subst (SpellsSwitch (part.Case c ∷ all)) (ap (λ l. token.Mark mark.Case ∷ l) (sym (append_assoc cs (sign mark.Colon) zs))) (g.SpellsSwitch.label c cs all zs s d)

item_on : (b : CSwitchItem) (xs : List Token) → ItemShape b xs → (all : List CSwitchItem) (ys : List Token) → SpellsSwitch all ys → SpellsSwitch (b ∷ all) (xs ++ ys)
item_on _ _ (one _ _ (after _ _ (seq c cs b zs s u))) all ys d = label_on c cs s b zs u all ys d
item_on _ _ (other _ _ (one _ _ (after _ _ (after _ _ done)))) all ys d = g.SpellsSwitch.otherwise all ys d
item_on _ _ (other _ _ (other _ _ (made s xs t))) all ys d = g.SpellsSwitch.stated s xs all ys t d

of_switch : (all : List CSwitchItem) (xs : List Token) → Many ItemShape all xs → SpellsSwitch all xs
of_switch _ _ none = g.SpellsSwitch.closed
of_switch _ _ (more b xs all ys s m) = item_on b xs s all ys (of_switch all ys m)

-- ---- lists of statements, and bodies

pub statements_shape : (all : List CStatement) (xs : List Token) → SpellsStatements all xs → Many SpellsStatement all xs
statements_shape _ _ g.SpellsStatements.none = none
statements_shape _ _ (g.SpellsStatements.more s xs all ys d e) = more s xs all ys d (statements_shape all ys e)

pub of_statements : (all : List CStatement) (xs : List Token) → Many SpellsStatement all xs → SpellsStatements all xs
of_statements _ _ none = g.SpellsStatements.none
of_statements _ _ (more s xs all ys d m) = g.SpellsStatements.more s xs all ys d (of_statements all ys m)

abbrev pub BodyEnd : List CLocal → List CStatement → Spelling CBody
BodyEnd ls all = After mark.RightBrace (Done (made_body ls all))

abbrev pub BodyTail : List CLocal → Spelling CBody
BodyTail ls = Seq SpellsStatements (BodyEnd ls)

abbrev pub BodyShape : Spelling CBody
BodyShape = After mark.LeftBrace (Seq SpellsLocals BodyTail)

pub body_shape : (b : CBody) (xs : List Token) → SpellsBody b xs → BodyShape b xs
body_shape _ _ (g.SpellsBody.body ls xs all ys d e) =
    after _ _ (seq ls xs (made_body ls all) (ys ++ sign mark.RightBrace) d (seq all ys (made_body ls all) (sign mark.RightBrace) e (after _ _ done)))

body_end : (ls : List CLocal) (xs : List Token) → SpellsLocals ls xs → (all : List CStatement) (ys : List Token) → SpellsStatements all ys → (b : CBody) (zs : List Token) → BodyEnd ls all b zs
    → SpellsBody b (token.Mark mark.LeftBrace ∷ (xs ++ (ys ++ zs)))
body_end ls xs d all ys e _ _ (after _ _ done) = g.SpellsBody.body ls xs all ys d e

body_tail : (ls : List CLocal) (xs : List Token) → SpellsLocals ls xs → (b : CBody) (ys : List Token) → BodyTail ls b ys → SpellsBody b (token.Mark mark.LeftBrace ∷ (xs ++ ys))
body_tail ls xs d _ _ (seq all ys b zs e u) = body_end ls xs d all ys e b zs u

pub of_body : (b : CBody) (xs : List Token) → BodyShape b xs → SpellsBody b xs
of_body _ _ (after _ _ (seq ls xs b ys d u)) = body_tail ls xs d b ys u

-- ---- conditions

pub data IsCondition : CExpression → List Token → Type 0 where
  is_condition : (e : CExpression) (xs : List Token) → Whole e xs → IsCondition e (bracketed xs)

abbrev pub ConditionShape : Spelling CExpression
ConditionShape = After mark.LeftParen (Seq Whole (λ e. After mark.RightParen (Done e)))

pub condition_shape : (e : CExpression) (xs : List Token) → IsCondition e xs → ConditionShape e xs
condition_shape _ _ (is_condition e xs d) = after _ _ (seq e xs e (sign mark.RightParen) d (after e [] done))

condition_end : (e : CExpression) (xs : List Token) → Whole e xs → (b : CExpression) (ys : List Token) → After mark.RightParen (Done e) b ys → IsCondition b (token.Mark mark.LeftParen ∷ (xs ++ ys))
condition_end e xs d _ _ (after _ _ done) = is_condition e xs d

pub of_condition : (e : CExpression) (xs : List Token) → ConditionShape e xs → IsCondition e xs
of_condition _ _ (after _ _ (seq e xs b ys d u)) = condition_end e xs d b ys u

-- ---- statements

abbrev pub ElseShape : Spelling (Option CBody)
ElseShape = Either (After mark.Else (Made Some SpellsBody)) (Done None)

abbrev pub BranchShape : CExpression → Spelling CStatement
BranchShape e = Seq SpellsBody (λ b. Made (statement.If e b) ElseShape)

abbrev pub IfShape : Spelling CStatement
IfShape = Seq IsCondition BranchShape

abbrev pub ForShape : Spelling CStatement
ForShape = After mark.LeftParen (After mark.Semicolon (After mark.Semicolon (After mark.RightParen (Made statement.Loop SpellsBody))))

abbrev pub SwitchEnd : CExpression → List CSwitchItem → Spelling CStatement
SwitchEnd e all = After mark.RightBrace (Done (statement.Switch e all))

abbrev pub CasesShape : CExpression → Spelling CStatement
CasesShape e = After mark.LeftBrace (Seq (Many ItemShape) (SwitchEnd e))

abbrev pub SwitchShape : Spelling CStatement
SwitchShape = Seq IsCondition CasesShape

abbrev pub GivesShape : Spelling CStatement
GivesShape = Seq Whole (λ e. After mark.Semicolon (Done (statement.Return (Some e))))

abbrev pub ReturnShape : Spelling CStatement
ReturnShape = Either (After mark.Semicolon (Done (statement.Return None))) GivesShape

abbrev pub BreakShape : Spelling CStatement
BreakShape = After mark.Semicolon (Done statement.Break)

abbrev pub ContinueShape : Spelling CStatement
ContinueShape = After mark.Semicolon (Done statement.Continue)

abbrev pub PlainShape : Spelling CStatement
PlainShape = Either (Made statement.Block SpellsBody) IsEffect

abbrev pub ReturningShape : Spelling CStatement
ReturningShape = Either (After mark.Return ReturnShape) PlainShape

abbrev pub ContinuingShape : Spelling CStatement
ContinuingShape = Either (After mark.Continue ContinueShape) ReturningShape

abbrev pub LeavingShape : Spelling CStatement
LeavingShape = Either (After mark.Break BreakShape) ContinuingShape

abbrev pub SwitchingShape : Spelling CStatement
SwitchingShape = Either (After mark.Switch SwitchShape) LeavingShape

abbrev pub LoopingShape : Spelling CStatement
LoopingShape = Either (After mark.For ForShape) SwitchingShape

abbrev pub StatementShape : Spelling CStatement
StatementShape = Either (After mark.If IfShape) LoopingShape

leaving_in : (s : CStatement) (xs : List Token) → LeavingShape s xs → StatementShape s xs
leaving_in s xs d = other s xs (other s xs (other s xs d))

plain_in : (s : CStatement) (xs : List Token) → PlainShape s xs → StatementShape s xs
plain_in s xs d = leaving_in s xs (other s xs (other s xs (other s xs d)))

effect_in : (s : CStatement) (xs : List Token) → IsEffect s xs → StatementShape s xs
effect_in s xs d = plain_in s xs (other s xs d)

target_in : (p : _) (ps : List Token) (c : _) (cs : List Token) (es : List CExpression) (xs : List Token) → SpellsTarget p ps → g.SpellsCallee c cs → g.SpellsArguments es xs
    → IsEffect (statement.Call p c es) (ps ++ (cs ++ (bracketed xs ++ sign mark.Semicolon)))
target_in _ _ c cs es xs g.SpellsTarget.none s a = calls c cs es xs s a
target_in _ _ c cs es xs (g.SpellsTarget.some p ps q) s a =
    subst (IsEffect (statement.Call (Some p) c es)) (sym (append_assoc ps (sign mark.Assign) (cs ++ (bracketed xs ++ sign mark.Semicolon)))) (stores p ps c cs es xs q s a)

if_alone : (e : CExpression) (b : CBody) (ys : List Token) → SpellsBody b ys → BranchShape e (statement.If e b None) ys
if_alone e b ys f = subst (BranchShape e (statement.If e b None)) (append-nil ys) (seq b ys (statement.If e b None) [] f (made None [] (other _ _ done)))

pub statement_shape : (s : CStatement) (xs : List Token) → SpellsStatement s xs → StatementShape s xs
statement_shape _ _ (g.SpellsStatement.assign p ps e xs s d) = effect_in _ _ (assigns p ps e xs s d)
statement_shape _ _ (g.SpellsStatement.calls p ps c cs es xs t s a) = effect_in _ _ (target_in p ps c cs es xs t s a)
statement_shape _ _ (g.SpellsStatement.block b xs d) = plain_in _ _ (one _ _ (made b xs d))
statement_shape _ _ g.SpellsStatement.leaves = leaving_in _ _ (one _ _ (after _ _ (after _ _ done)))
statement_shape _ _ g.SpellsStatement.continues = leaving_in _ _ (other _ _ (one _ _ (after _ _ (after _ _ done))))
statement_shape _ _ (g.SpellsStatement.if_only e xs b ys d f) =
    one _ _ (after _ _ (seq e (bracketed xs) (statement.If e b None) ys (is_condition e xs d) (if_alone e b ys f)))
statement_shape _ _ (g.SpellsStatement.if_else e xs b ys c zs d f h) =
    one _ _ (after _ _ (seq e (bracketed xs) (statement.If e b (Some c)) (ys ++ (token.Mark mark.Else ∷ zs)) (is_condition e xs d)
    (seq b ys (statement.If e b (Some c)) (token.Mark mark.Else ∷ zs) f (made (Some c) (token.Mark mark.Else ∷ zs) (one _ _ (after _ _ (made c zs h)))))))
statement_shape _ _ (g.SpellsStatement.loops b xs d) = other _ _ (one _ _ (after _ _ (after _ _ (after _ _ (after _ _ (after _ _ (made b xs d)))))))
statement_shape _ _ (g.SpellsStatement.switches e xs all ys d s) =
    other _ _ (other _ _ (one _ _ (after _ _ (seq e (bracketed xs) (statement.Switch e all) _ (is_condition e xs d)
    (after _ _ (seq all ys (statement.Switch e all) (sign mark.RightBrace) (switch_shape all ys s) (after _ _ done)))))))
statement_shape _ _ g.SpellsStatement.returns = leaving_in _ _ (other _ _ (other _ _ (one _ _ (after _ _ (one _ _ (after _ _ done))))))
statement_shape _ _ (g.SpellsStatement.gives e xs d) =
    leaving_in _ _ (other _ _ (other _ _ (one _ _ (after _ _ (other _ _ (seq e xs (statement.Return (Some e)) (sign mark.Semicolon) d (after _ _ done)))))))

of_effect : (s : CStatement) (xs : List Token) → IsEffect s xs → SpellsStatement s xs
of_effect _ _ (assigns p ps e xs s d) = g.SpellsStatement.assign p ps e xs s d
of_effect _ _ (stores p ps c cs es xs q s a) =
    subst (SpellsStatement (statement.Call (Some p) c es)) (append_assoc ps (sign mark.Assign) (cs ++ (bracketed xs ++ sign mark.Semicolon)))
    (g.SpellsStatement.calls (Some p) (ps ++ sign mark.Assign) c cs es xs (g.SpellsTarget.some p ps q) s a)
of_effect _ _ (calls c cs es xs s a) = g.SpellsStatement.calls None [] c cs es xs g.SpellsTarget.none s a

with_else : (e : CExpression) (xs : List Token) → Whole e xs → (b : CBody) (ys : List Token) → SpellsBody b ys → (o : Option CBody) (zs : List Token) → ElseShape o zs
    → SpellsStatement (statement.If e b o) (token.Mark mark.If ∷ (bracketed xs ++ (ys ++ zs)))
with_else e xs d b ys f _ _ (one _ _ (after _ _ (made c zs h))) = g.SpellsStatement.if_else e xs b ys c zs d f h
with_else e xs d b ys f _ _ (other _ _ done) =
    subst (λ l. SpellsStatement (statement.If e b None) (token.Mark mark.If ∷ (bracketed xs ++ l))) (sym (append-nil ys)) (g.SpellsStatement.if_only e xs b ys d f)

with_made : (e : CExpression) (xs : List Token) → Whole e xs → (b : CBody) (ys : List Token) → SpellsBody b ys → (s : CStatement) (zs : List Token) → Made (statement.If e b) ElseShape s zs
    → SpellsStatement s (token.Mark mark.If ∷ (bracketed xs ++ (ys ++ zs)))
with_made e xs d b ys f _ _ (made o zs h) = with_else e xs d b ys f o zs h

with_branches : (e : CExpression) (xs : List Token) → IsCondition e xs → (s : CStatement) (ys : List Token) → BranchShape e s ys → SpellsStatement s (token.Mark mark.If ∷ (xs ++ ys))
with_branches _ _ (is_condition e xs d) _ _ (seq b ys s zs f m) = with_made e xs d b ys f s zs m

with_end : (e : CExpression) (xs : List Token) → Whole e xs → (all : List CSwitchItem) (ys : List Token) → SpellsSwitch all ys → (s : CStatement) (zs : List Token) → SwitchEnd e all s zs
    → SpellsStatement s (token.Mark mark.Switch ∷ (bracketed xs ++ (token.Mark mark.LeftBrace ∷ (ys ++ zs))))
with_end e xs d all ys m _ _ (after _ _ done) = g.SpellsStatement.switches e xs all ys d m

with_cases : (e : CExpression) (xs : List Token) → IsCondition e xs → (s : CStatement) (ys : List Token) → CasesShape e s ys → SpellsStatement s (token.Mark mark.Switch ∷ (xs ++ ys))
with_cases _ _ (is_condition e xs d) _ _ (after _ _ (seq all ys s zs m u)) = with_end e xs d all ys (of_switch all ys m) s zs u

with_value : (e : CExpression) (xs : List Token) → Whole e xs → (s : CStatement) (ys : List Token) → After mark.Semicolon (Done (statement.Return (Some e))) s ys
    → SpellsStatement s (token.Mark mark.Return ∷ (xs ++ ys))
with_value e xs d _ _ (after _ _ done) = g.SpellsStatement.gives e xs d

of_plain : (s : CStatement) (xs : List Token) → PlainShape s xs → SpellsStatement s xs
of_plain _ _ (one _ _ (made b xs d)) = g.SpellsStatement.block b xs d
of_plain s xs (other _ _ d) = of_effect s xs d

of_leaving : (s : CStatement) (xs : List Token) → LeavingShape s xs → SpellsStatement s xs
of_leaving _ _ (one _ _ (after _ _ (after _ _ done))) = g.SpellsStatement.leaves
of_leaving _ _ (other _ _ (one _ _ (after _ _ (after _ _ done)))) = g.SpellsStatement.continues
of_leaving _ _ (other _ _ (other _ _ (one _ _ (after _ _ (one _ _ (after _ _ done)))))) = g.SpellsStatement.returns
of_leaving _ _ (other _ _ (other _ _ (one _ _ (after _ _ (other _ _ (seq e xs s ys d u)))))) = with_value e xs d s ys u
of_leaving s xs (other _ _ (other _ _ (other _ _ d))) = of_plain s xs d

pub of_statement : (s : CStatement) (xs : List Token) → StatementShape s xs → SpellsStatement s xs
of_statement _ _ (one _ _ (after _ _ (seq e xs s ys d u))) = with_branches e xs d s ys u
of_statement _ _ (other _ _ (one _ _ (after _ _ (after _ _ (after _ _ (after _ _ (after _ _ (made b xs d)))))))) = g.SpellsStatement.loops b xs d
of_statement _ _ (other _ _ (other _ _ (one _ _ (after _ _ (seq e xs s ys d u))))) = with_cases e xs d s ys u
of_statement s xs (other _ _ (other _ _ (other _ _ d))) = of_leaving s xs d
