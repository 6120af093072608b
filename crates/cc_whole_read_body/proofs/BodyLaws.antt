-- Reading statements and bodies decides how they are spelled.
use Rattle.std.specs.Prelude.{not}
use Rattle.std.proofs.Common.{◌≡◌, ℕ, zero, suc, ◌-◌, ◌≤◌, ◌<◌, true, false, List, ◌++◌, length, Some, None, refl, ap, ◌∙◌, arith, append_assoc}
use Rattle.cc_whole_tokens.specs.declared.mark.Mark.{Mark}
use Rattle.cc_whole_tokens.specs.declared.mark.Mark.TheVariants as mark
use Rattle.cc_whole_tokens.specs.declared.token.Token.{Token}
use Rattle.cc_whole_tokens.specs.Mark.{same_mark}
use Rattle.cc_whole.specs.declared.expression.CExpression.{CExpression}
use Rattle.cc_whole.specs.declared.statement.CLocal.{CLocal}
use Rattle.cc_whole.specs.declared.statement.CBody.{CBody}
use Rattle.cc_whole.specs.declared.statement.CStatement.{CStatement}
use Rattle.cc_whole.specs.declared.statement.CStatement.TheVariants as statement
use Rattle.cc_whole.specs.declared.statement.CSwitchItem.{CSwitchItem}
use Rattle.cc_whole.specs.declared.statement.CSwitchItem.TheVariants as part
use Rattle.cc_whole.specs.Build.{made_body}
use Rattle.cc_whole.specs.SpellsTypes.{SpellsConstant}
use Rattle.cc_whole.specs.Spells.{SpellsLocals, SpellsBody, SpellsStatements, SpellsStatement}
use Rattle.cc_whole.specs.Spells as g
use Rattle.cc_whole_reading.specs.Parse.{Parse, ◌>>=◌, pure, past, sees, sees_not, expect, if_next}
use Rattle.cc_whole_reading.specs.Constants.{constant}
use Rattle.cc_whole_reading.proofs.Decides.{SameFront, Spelling, Follow, any, Decides, Example, decides_as, decides_follow, decides_less, decides_none, Done, decides_pure}
use Rattle.cc_whole_reading.proofs.Shapes.{Seq, seq, After, after, Made, made, Either, one, other, decides_then, decides_made, sees_is}
use Rattle.cc_whole_reading.proofs.Choices.{decides_sign, decides_mark, decides_past, sees_same, sees_there}
use Rattle.cc_whole_reading.proofs.Ways.{Apart, Tells, decides_if, decides_sight, apart_after, apart_either, apart_done, apart_made}
use Rattle.cc_whole_reading.proofs.Chains.{Many, decides_all}
use Rattle.cc_whole_reading.proofs.ConstantLaws.{all_kept, decides_constant}
use Rattle.cc_whole_read_types.specs.ReadTypes.{sees_type}
use Rattle.cc_whole_read_expr.specs.ReadExpr.{expression}
use Rattle.cc_whole_read_expr.proofs.Firsts as first
use Rattle.cc_whole_read_expr.proofs.OperatorLaws.{ends}
use Rattle.cc_whole_read_expr.proofs.OperandLaws.{Whole, close_follows}
use Rattle.cc_whole_read_expr.proofs.ExpressionLaws.{decides_expression}
use Rattle.cc_whole_read_body.specs.ReadBody.{locals, effect, block, leaves, continues, condition, some_body, otherwise, branches, conditional, forever, label, default_label, inner, switch_item, switch_items, cases, switch, gives, returned, plain, leaving, statement_by, statements, body_by, one_statement, body}
use Rattle.cc_whole_read_body.proofs.EffectLaws.{IsEffect, assigns, stores, calls, decides_effects}
use Rattle.cc_whole_read_body.proofs.PartLaws.{statement_front, statement_some, no_type, decides_locals}
use Rattle.cc_whole_read_body.proofs.StatementLaws.{LabelShape, DefaultShape, InnerShape, OtherItem, ItemShape, statements_shape, of_statements, BodyEnd, BodyTail, BodyShape, body_shape, of_body, IsCondition, ConditionShape, condition_shape, of_condition, ElseShape, BranchShape, IfShape, ForShape, SwitchEnd, CasesShape, SwitchShape, GivesShape, ReturnShape, BreakShape, ContinueShape, PlainShape, ReturningShape, ContinuingShape, LeavingShape, SwitchingShape, LoopingShape, StatementShape, statement_shape, of_statement}

-- ---- what may follow

abbrev pub no_else : Follow
no_else ts = sees mark.Else ts ≡ false

-- a closing brace follows
abbrev pub braced : Follow
braced ts = sees mark.RightBrace ts ≡ true

brace_no_else : (ts : List Token) → braced ts → no_else ts
unfolding same_mark
brace_no_else ts f = ap (sees mark.Else) (sees_is mark.RightBrace ts f)

brace_no_type : (ts : List Token) → braced ts → no_type ts
unfolding same_mark
brace_no_type ts f = ap sees_type (sees_is mark.RightBrace ts f)

brace_halts : (ts : List Token) → braced ts → sees_not mark.RightBrace ts ≡ false
brace_halts ts f = ap not f

not_same : (xs ys : List Token) → SameFront xs ys → sees_not mark.RightBrace xs ≡ sees_not mark.RightBrace ys
not_same xs ys s = ap not (sees_same mark.RightBrace xs ys s)

-- ---- items of a `switch`

item_front : (b : CSwitchItem) (xs rest : List Token) → ItemShape b xs → (sees mark.RightBrace (xs ++ rest) ≡ false) × no_else (xs ++ rest)
unfolding same_mark
item_front _ _ rest (one _ _ (after b ys u)) = (refl, refl)
item_front _ _ rest (other _ _ (one _ _ (after b ys u))) = (refl, refl)
item_front _ _ rest (other _ _ (other _ _ (made s xs d))) = let f = statement_front d rest in (f.no_brace, f.no_else)

item_goes : (b : CSwitchItem) (xs rest : List Token) → ItemShape b xs → sees_not mark.RightBrace (xs ++ rest) ≡ true
item_goes b xs rest s = ap not (item_front b xs rest s).0

item_some : (b : CSwitchItem) (xs : List Token) → ItemShape b xs → 0 < length xs
item_some _ _ (one _ _ (after b ys u)) = omega arith
item_some _ _ (other _ _ (one _ _ (after b ys u))) = omega arith
item_some _ _ (other _ _ (other _ _ (made s xs d))) = statement_some d

statement_goes : (s : CStatement) (xs rest : List Token) → SpellsStatement s xs → sees_not mark.RightBrace (xs ++ rest) ≡ true
statement_goes s xs rest d = ap not (statement_front d rest).no_brace

apart_default : Apart mark.Default InnerShape no_else
apart_default = apart_made mark.Default part.Statement SpellsStatement no_else (λ s xs rest d f. (statement_front d rest).no_default)

apart_case : Apart mark.Case OtherItem no_else
unfolding same_mark
apart_case =
    apart_either mark.Case (After mark.Default DefaultShape) InnerShape no_else (apart_after mark.Case mark.Default DefaultShape no_else refl)
    (apart_made mark.Case part.Statement SpellsStatement no_else (λ s xs rest d f. (statement_front d rest).no_case))

decides_label : (n : ℕ) → Decides LabelShape any n (label all_kept)
unfolding label
decides_label n =
    decides_then SpellsConstant any (λ c. After mark.Colon (Done (part.Case c))) any (λ c b ys rest u f. tt) n (constant all_kept) (λ c. expect mark.Colon >>= (λ u. pure (part.Case c)))
    (decides_constant n) (λ c cs s. decides_sign mark.Colon (Done (part.Case c)) any n (λ u. pure (part.Case c)) (decides_pure any n (part.Case c)))

decides_default : (n : ℕ) → Decides DefaultShape any n default_label
unfolding default_label
decides_default n = decides_sign mark.Colon (Done part.Default) any n (λ u. pure part.Default) (decides_pure any n part.Default)

module _ (n : ℕ) (st : Parse CStatement) (ds : Decides SpellsStatement no_else n st) where
  decides_item : Decides ItemShape no_else n (switch_item all_kept st)
  unfolding switch_item inner
  decides_item =
      decides_sight mark.Case LabelShape OtherItem no_else n (label all_kept) (if_next mark.Default default_label (inner st)) apart_case
      (decides_follow LabelShape any no_else n (label all_kept) (λ ts f. tt) (decides_label n))
      (decides_sight mark.Default DefaultShape InnerShape no_else n default_label (inner st) apart_default
      (decides_follow DefaultShape any no_else n default_label (λ ts f. tt) (decides_default n)) (decides_made part.Statement SpellsStatement no_else n st ds))

  decides_items : Decides (Many ItemShape) braced n (switch_items all_kept st)
  decides_items =
      decides_all (sees_not mark.RightBrace) not_same ItemShape no_else braced item_goes item_some brace_halts (λ b xs rest s. (item_front b xs rest s).1) brace_no_else n
      (switch_item all_kept st) (λ ts small is. decides_item ts small)

  decides_statements : Decides SpellsStatements braced n (statements st)
  decides_statements =
      decides_as (Many SpellsStatement) SpellsStatements braced n (statements st) statements_shape of_statements
      (decides_all (sees_not mark.RightBrace) not_same SpellsStatement no_else braced statement_goes (λ s xs d. statement_some d) brace_halts
      (λ s xs rest d. (statement_front d rest).no_else) brace_no_else n st (λ ts small is. ds ts small))

  end_braced : (ls : List CLocal) (all : List CStatement) (b : CBody) (ys rest : List Token) → BodyEnd ls all b ys → braced (ys ++ rest)
  unfolding same_mark
  end_braced ls all _ _ rest (after b ys u) = refl

  statements_type : {all : List CStatement} {xs : List Token} → SpellsStatements all xs → (rest : List Token) → no_type rest → no_type (xs ++ rest)
  statements_type g.SpellsStatements.none rest f = f
  statements_type (g.SpellsStatements.more s xs all ys d e) rest f = ap sees_type (append_assoc xs ys rest) ∙ (statement_front d (ys ++ rest)).no_type

  tail_type : (ls : List CLocal) (b : CBody) (ys rest : List Token) → BodyTail ls b ys → no_type (ys ++ rest)
  tail_type ls _ _ rest (seq all xs b ys d u) =
      ap sees_type (append_assoc xs ys rest) ∙ statements_type d (ys ++ rest) (brace_no_type (ys ++ rest) (end_braced ls all b ys rest u))

  pub decides_body_by : Decides SpellsBody any (suc n) (body_by all_kept st)
  unfolding body_by
  decides_body_by =
      decides_as BodyShape SpellsBody any (suc n) (body_by all_kept st) body_shape of_body
      (decides_mark mark.LeftBrace (Seq SpellsLocals BodyTail) any n _
      (decides_then SpellsLocals no_type BodyTail any (λ ls b ys rest u f. tail_type ls b ys rest u) n (locals all_kept)
      (λ ls. statements st >>= (λ all. expect mark.RightBrace >>= (λ u. pure (made_body ls all)))) (decides_locals n)
      (λ ls xs d. decides_then SpellsStatements braced (BodyEnd ls) any (λ all b ys rest u f. end_braced ls all b ys rest u) n (statements st)
      (λ all. expect mark.RightBrace >>= (λ u. pure (made_body ls all))) decides_statements
      (λ all ys e. decides_sign mark.RightBrace (Done (made_body ls all)) any n (λ u. pure (made_body ls all)) (decides_pure any n (made_body ls all))))))

  switch_braced : (e : CExpression) (all : List CSwitchItem) (b : CStatement) (ys rest : List Token) → SwitchEnd e all b ys → braced (ys ++ rest)
  unfolding same_mark
  switch_braced e all _ _ rest (after b ys u) = refl

  decides_cases : (e : CExpression) → Decides (CasesShape e) any n (cases all_kept st e)
  unfolding cases
  decides_cases e =
      decides_sign mark.LeftBrace (Seq (Many ItemShape) (SwitchEnd e)) any n _
      (decides_then (Many ItemShape) braced (SwitchEnd e) any (λ all b ys rest u f. switch_braced e all b ys rest u) n (switch_items all_kept st)
      (λ all. expect mark.RightBrace >>= (λ u. pure (statement.Switch e all))) decides_items
      (λ all xs m. decides_sign mark.RightBrace (Done (statement.Switch e all)) any n (λ u. pure (statement.Switch e all)) (decides_pure any n (statement.Switch e all))))

-- ---- statements

semicolon_ends : (s b : CStatement) (ys rest : List Token) → After mark.Semicolon (Done s) b ys → ends (ys ++ rest)
semicolon_ends s _ _ rest (after b ys u) j = refl

module _ (n : ℕ) (ex : Parse CExpression) (dx : Decides Whole ends n ex) where
  decides_condition : Decides IsCondition any n (condition ex)
  unfolding condition
  decides_condition =
      decides_as ConditionShape IsCondition any n (condition ex) condition_shape of_condition
      (decides_sign mark.LeftParen (Seq Whole (λ e. After mark.RightParen (Done e))) any n _
      (decides_then Whole ends (λ e. After mark.RightParen (Done e)) any (λ e b ys rest u f. close_follows (Done e) b ys rest u) n ex (λ e. expect mark.RightParen >>= (λ u. pure e)) dx
      (λ e xs d. decides_sign mark.RightParen (Done e) any n (λ u. pure e) (decides_pure any n e))))

  gives_first : Apart mark.Semicolon GivesShape any
  gives_first _ _ rest (seq e xs b ys d u) f = ap (sees mark.Semicolon) (append_assoc xs ys rest) ∙ (first.front d (ys ++ rest)).no_semicolon

  decides_returned : Decides ReturnShape any n (returned ex)
  unfolding returned gives
  decides_returned =
      decides_sight mark.Semicolon (Done (statement.Return None)) GivesShape any n (pure (statement.Return None)) (gives ex) gives_first (decides_pure any n (statement.Return None))
      (decides_then Whole ends (λ e. After mark.Semicolon (Done (statement.Return (Some e)))) any (λ e b ys rest u f. semicolon_ends (statement.Return (Some e)) b ys rest u) n ex
      (λ e. expect mark.Semicolon >>= (λ u. pure (statement.Return (Some e)))) dx
      (λ e xs d. decides_sign mark.Semicolon (Done (statement.Return (Some e))) any n (λ u. pure (statement.Return (Some e))) (decides_pure any n (statement.Return (Some e)))))

module _ (n : ℕ) (bo : Parse CBody) (db : Decides SpellsBody any n bo) where
  decides_otherwise : Decides ElseShape no_else n (otherwise bo)
  unfolding otherwise some_body
  decides_otherwise =
      decides_sight mark.Else (Made Some SpellsBody) (Done None) no_else n (some_body bo) (pure None) (apart_done mark.Else None no_else (λ rest f. f))
      (decides_follow (Made Some SpellsBody) any no_else n (some_body bo) (λ ts f. tt) (decides_made Some SpellsBody any n bo db)) (decides_pure no_else n None)

  decides_branches : (e : CExpression) → Decides (BranchShape e) no_else n (branches bo e)
  unfolding branches
  decides_branches e =
      decides_then SpellsBody any (λ b. Made (statement.If e b) ElseShape) no_else (λ b s ys rest u f. tt) n bo (λ b. otherwise bo >>= (λ o. pure (statement.If e b o))) db
      (λ b xs d. decides_made (statement.If e b) ElseShape no_else n (otherwise bo) decides_otherwise)

  decides_forever : Decides ForShape any n (forever bo)
  unfolding forever
  decides_forever =
      decides_sign mark.LeftParen (After mark.Semicolon (After mark.Semicolon (After mark.RightParen (Made statement.Loop SpellsBody)))) any n _
      (decides_sign mark.Semicolon (After mark.Semicolon (After mark.RightParen (Made statement.Loop SpellsBody))) any n _
      (decides_sign mark.Semicolon (After mark.RightParen (Made statement.Loop SpellsBody)) any n _
      (decides_sign mark.RightParen (Made statement.Loop SpellsBody) any n (λ u. bo >>= (λ b. pure (statement.Loop b))) (decides_made statement.Loop SpellsBody any n bo db))))

-- ---- which shape it is

brace_there : Tells (sees mark.LeftBrace) true (Made statement.Block SpellsBody) any
unfolding same_mark
brace_there _ _ rest (made _ _ (g.SpellsBody.body ls xs all ys d e)) f = refl

effect_apart : (m : Mark) → same_mark mark.Star m ≡ false → same_mark mark.LeftParen m ≡ false → Apart m IsEffect any
effect_apart m star bracket _ _ rest (assigns _ _ e xs (g.SpellsPlace.name w) d) f = refl
effect_apart m star bracket _ _ rest (assigns _ _ e xs (g.SpellsPlace.pointed t a ys h) d) f = star
effect_apart m star bracket _ _ rest (stores _ _ c cs es xs (g.SpellsPlace.name w) s a) f = refl
effect_apart m star bracket _ _ rest (stores _ _ c cs es xs (g.SpellsPlace.pointed t b ys h) s a) f = star
effect_apart m star bracket _ _ rest (calls _ _ es xs (g.SpellsCallee.name w) a) f = refl
effect_apart m star bracket _ _ rest (calls _ _ es xs (g.SpellsCallee.pointer s e ys d) a) f = bracket

block_apart : (m : Mark) → same_mark mark.LeftBrace m ≡ false → Apart m (Made statement.Block SpellsBody) any
block_apart m brace _ _ rest (made _ _ (g.SpellsBody.body ls xs all ys d e)) f = brace

-- a word with which none of the plain statements begins
record Word (m : Mark) : Type 0 where
  star : same_mark mark.Star m ≡ false
  bracket : same_mark mark.LeftParen m ≡ false
  brace : same_mark mark.LeftBrace m ≡ false

plain_apart : (m : Mark) → Word m → Apart m PlainShape any
plain_apart m w = apart_either m (Made statement.Block SpellsBody) IsEffect any (block_apart m w.brace) (effect_apart m w.star w.bracket)

returning_apart : (m : Mark) → Word m → same_mark mark.Return m ≡ false → Apart m ReturningShape any
returning_apart m w returns = apart_either m (After mark.Return ReturnShape) PlainShape any (apart_after m mark.Return ReturnShape any returns) (plain_apart m w)

continuing_apart : (m : Mark) → Word m → same_mark mark.Return m ≡ false → same_mark mark.Continue m ≡ false → Apart m ContinuingShape any
continuing_apart m w returns next =
    apart_either m (After mark.Continue ContinueShape) ReturningShape any (apart_after m mark.Continue ContinueShape any next) (returning_apart m w returns)

leaving_apart : (m : Mark) → Word m → same_mark mark.Return m ≡ false → same_mark mark.Continue m ≡ false → same_mark mark.Break m ≡ false → Apart m LeavingShape any
leaving_apart m w returns next leave =
    apart_either m (After mark.Break BreakShape) ContinuingShape any (apart_after m mark.Break BreakShape any leave) (continuing_apart m w returns next)

word_for : Word mark.For
unfolding same_mark
word_for = record { star = refl; bracket = refl; brace = refl }

word_if : Word mark.If
unfolding same_mark
word_if = record { star = refl; bracket = refl; brace = refl }

word_switch : Word mark.Switch
unfolding same_mark
word_switch = record { star = refl; bracket = refl; brace = refl }

switch_apart : Apart mark.Switch LeavingShape no_else
unfolding same_mark
switch_apart b xs rest s f = leaving_apart mark.Switch word_switch refl refl refl b xs rest s tt

for_apart : Apart mark.For SwitchingShape no_else
unfolding same_mark
for_apart b xs rest s f =
    apart_either mark.For (After mark.Switch SwitchShape) LeavingShape any (apart_after mark.For mark.Switch SwitchShape any refl) (leaving_apart mark.For word_for refl refl refl) b xs rest s tt

if_apart : Apart mark.If LoopingShape no_else
unfolding same_mark
if_apart b xs rest s f =
    apart_either mark.If (After mark.For ForShape) SwitchingShape any (apart_after mark.If mark.For ForShape any refl)
    (apart_either mark.If (After mark.Switch SwitchShape) LeavingShape any (apart_after mark.If mark.Switch SwitchShape any refl) (leaving_apart mark.If word_if refl refl refl)) b xs rest s tt

return_apart : Apart mark.Return PlainShape any
unfolding same_mark
return_apart = plain_apart mark.Return (record { star = refl; bracket = refl; brace = refl })

continue_apart : Apart mark.Continue ReturningShape any
unfolding same_mark
continue_apart = returning_apart mark.Continue (record { star = refl; bracket = refl; brace = refl }) refl

break_apart : Apart mark.Break ContinuingShape any
unfolding same_mark
break_apart = continuing_apart mark.Break (record { star = refl; bracket = refl; brace = refl }) refl refl

no_brace : Apart mark.LeftBrace IsEffect any
unfolding same_mark
no_brace = effect_apart mark.LeftBrace refl refl

after_tells : {B : Type 0} (k : Mark) (U : Spelling B) (F : Follow) → Tells (sees k) true (After k U) F
after_tells k U F _ _ rest (after b ys u) f = sees_there k (ys ++ rest)

-- behind a word one token less stands
next_at : {B : Type 0} (k : Mark) (U V : Spelling B) (F : Follow) (m n : ℕ) (p q : Parse B) → n ≤ suc m → Apart k V F → Decides U F m p → Decides V F n q
    → Decides (Either (After k U) V) F n (if_next k p q)
next_at k U V F m n p q small apart du dv =
    decides_if (sees k) (sees_same k) (After k U) V F (after_tells k U F) apart n (past p) q (λ ts short is. decides_past k U F m p du ts (omega (arith, short, small)) is) dv

decides_leaves : (n : ℕ) → Decides BreakShape any n leaves
unfolding leaves
decides_leaves n = decides_sign mark.Semicolon (Done statement.Break) any n (λ u. pure statement.Break) (decides_pure any n statement.Break)

decides_continues : (n : ℕ) → Decides ContinueShape any n continues
unfolding continues
decides_continues n = decides_sign mark.Semicolon (Done statement.Continue) any n (λ u. pure statement.Continue) (decides_pure any n statement.Continue)

module _ (m n : ℕ) (most : n ≤ suc m) (least : m ≤ n) (ex : Parse CExpression) (dx : Decides Whole ends n ex) (bo : Parse CBody) (db : Decides SpellsBody any (suc m) bo)
    (st : Parse CStatement) (ds : Decides SpellsStatement no_else m st) where
  inner_expression : Decides Whole ends m ex
  inner_expression = decides_less Whole ends n m ex least dx

  inner_body : Decides SpellsBody any m bo
  inner_body = decides_less SpellsBody any (suc m) m bo (omega arith) db

  decides_plain : Decides PlainShape any n (plain ex bo)
  unfolding plain block
  decides_plain =
      decides_if (sees mark.LeftBrace) (sees_same mark.LeftBrace) (Made statement.Block SpellsBody) IsEffect any brace_there no_brace n (block bo) (effect ex)
      (λ ts small is. decides_made statement.Block SpellsBody any (suc m) bo db ts (omega (arith, small, most))) (decides_effects n ex dx)

  decides_leaving : Decides LeavingShape any n (leaving ex bo)
  unfolding leaving
  decides_leaving =
      decides_sight mark.Break BreakShape ContinuingShape any n leaves _ break_apart (decides_leaves n)
      (decides_sight mark.Continue ContinueShape ReturningShape any n continues _ continue_apart (decides_continues n)
      (decides_sight mark.Return ReturnShape PlainShape any n (returned ex) (plain ex bo) return_apart (decides_returned n ex dx) decides_plain))

  decides_conditional : Decides IfShape no_else m (conditional ex bo)
  unfolding conditional
  decides_conditional =
      decides_then IsCondition any BranchShape no_else (λ e b ys rest u f. tt) m (condition ex) (λ e. branches bo e) (decides_condition m ex inner_expression)
      (λ e xs d. decides_branches m bo inner_body e)

  decides_switch : Decides SwitchShape any m (switch all_kept ex st)
  unfolding switch
  decides_switch =
      decides_then IsCondition any CasesShape any (λ e b ys rest u f. tt) m (condition ex) (λ e. cases all_kept st e) (decides_condition m ex inner_expression)
      (λ e xs d. decides_cases m st ds e)

  decides_by : Decides SpellsStatement no_else n (statement_by all_kept ex bo st)
  unfolding statement_by
  decides_by =
      decides_as StatementShape SpellsStatement no_else n (statement_by all_kept ex bo st) statement_shape of_statement
      (next_at mark.If IfShape LoopingShape no_else m n (conditional ex bo) _ most if_apart decides_conditional
      (next_at mark.For ForShape SwitchingShape no_else m n (forever bo) _ most for_apart
      (decides_follow ForShape any no_else m (forever bo) (λ ts f. tt) (decides_forever m bo inner_body))
      (next_at mark.Switch SwitchShape LeavingShape no_else m n (switch all_kept ex st) (leaving ex bo) most switch_apart
      (decides_follow SwitchShape any no_else m (switch all_kept ex st) (λ ts f. tt) decides_switch)
      (decides_follow LeavingShape any no_else n (leaving ex bo) (λ ts f. tt) decides_leaving))))

a_statement : Example SpellsStatement
a_statement = record { tree = _; tokens = _; spells = g.SpellsStatement.returns }

-- what stands deepest has one token less than the number
pub decides_statement : (k m : ℕ) → m ≤ k - 1 → Decides SpellsStatement no_else m (one_statement all_kept k)
unfolding one_statement
decides_statement zero m small ts short = decides_none SpellsStatement no_else a_statement (λ b xs s. statement_some s) ts (omega (arith, small, short))
decides_statement (suc k) m small ts short =
    let ds = decides_statement k (k - 1) (omega arith) in
    decides_by (k - 1) k (omega arith) (omega arith) (expression all_kept k) (decides_expression k) (body all_kept k) (decides_body_by (k - 1) (one_statement all_kept k) ds)
    (one_statement all_kept k) ds ts (omega (arith, small, short))

pub decides_body : (n : ℕ) → Decides SpellsBody any n (body all_kept n)
decides_body n =
    decides_less SpellsBody any (suc (n - 1)) n (body all_kept n) (omega arith)
    (decides_body_by (n - 1) (one_statement all_kept n) (decides_statement n (n - 1) (omega arith)))
