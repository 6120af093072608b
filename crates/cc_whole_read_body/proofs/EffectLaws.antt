-- Reading an assignment or a call decides how they are spelled.
use Rattle.std.proofs.Common.{◌≡◌, ℕ, List, ◌∷◌, ◌++◌, Option, Some, None, refl, ap, sym, ◌∙◌, subst, append_assoc}
use Rattle.cc_whole_tokens.specs.declared.mark.Mark.TheVariants as mark
use Rattle.cc_whole_tokens.specs.declared.token.Token.{Token}
use Rattle.cc_whole_tokens.specs.declared.token.Token.TheVariants as token
use Rattle.cc_whole.specs.declared.types.CSignature.{CSignature}
use Rattle.cc_whole.specs.declared.expression.CPlace.{CPlace}
use Rattle.cc_whole.specs.declared.expression.CExpression.{CExpression}
use Rattle.cc_whole.specs.declared.statement.CCallee.{CCallee}
use Rattle.cc_whole.specs.declared.statement.CStatement.{CStatement}
use Rattle.cc_whole.specs.declared.statement.CStatement.TheVariants as statement
use Rattle.cc_whole.specs.SpellsTypes.{sign, result_tokens, types_tokens, signature_tokens}
use Rattle.cc_whole.specs.Spells.{SpellsPlace, SpellsExpression, SpellsArguments, SpellsCallee, SpellsTarget, SpellsStatement, bracketed}
use Rattle.cc_whole.specs.Spells as g
use Rattle.cc_whole_reading.specs.Parse.{Parse, ◌>>=◌, pure, expect}
use Rattle.cc_whole_reading.proofs.Decides.{Spelling, any, Decides, decides_as, Done, done, decides_pure}
use Rattle.cc_whole_reading.proofs.Shapes.{Seq, seq, After, after, Made, made, Either, one, other, decides_then, decides_made}
use Rattle.cc_whole_reading.proofs.Choices.{decides_sign}
use Rattle.cc_whole_reading.proofs.Ways.{Differ, decides_either}
use Rattle.cc_whole_read_expr.specs.ReadExpr.{one_place, arguments, callee}
use Rattle.cc_whole_read_expr.proofs.OperatorLaws.{ends}
use Rattle.cc_whole_read_expr.proofs.OperandLaws.{Whole}
use Rattle.cc_whole_read_expr.proofs.ExpressionLaws.{decides_place, closes, decides_arguments, decides_callee}
use Rattle.cc_whole_read_body.specs.declared.effects.CallParts.{CallParts}
use Rattle.cc_whole_read_body.specs.declared.effects.Right.{Right}
use Rattle.cc_whole_read_body.specs.declared.effects.Right.TheVariants as right
use Rattle.cc_whole_read_body.specs.ReadBody as spec
use Rattle.cc_whole_read_body.specs.ReadBody.{called_of, right_call, value, right_side, stored, store_to, store, unstored, call, effect}
use Rattle.cc_whole_read_body.proofs.Differs.{called, no_named_call, no_pointer_call}

abbrev parts_of : CCallee → List CExpression → CallParts
parts_of c es = record { callee = c; arguments = es }

abbrev CallEnd : CCallee → List CExpression → Spelling CallParts
CallEnd c es = After mark.RightParen (After mark.Semicolon (Done (parts_of c es)))

abbrev CallTail : CCallee → Spelling CallParts
CallTail c = After mark.LeftParen (Seq SpellsArguments (CallEnd c))

abbrev CallShape : Spelling CallParts
CallShape = Seq SpellsCallee CallTail

abbrev ValueShape : Spelling Right
ValueShape = Seq Whole (λ e. After mark.Semicolon (Done (right.Value e)))

abbrev RightShape : Spelling Right
RightShape = Either ValueShape (Made right.Call CallShape)

abbrev StoreTail : CPlace → Spelling CStatement
StoreTail p = After mark.Assign (Made (stored p) RightShape)

abbrev StoreShape : Spelling CStatement
StoreShape = Seq SpellsPlace StoreTail

abbrev pub EffectShape : Spelling CStatement
EffectShape = Either StoreShape (Made unstored CallShape)

end_closes : (c : CCallee) (es : List CExpression) (b : CallParts) (ys rest : List Token) → CallEnd c es b ys → closes (ys ++ rest)
end_closes c es _ _ rest (after b ys u) = (ys ++ rest, refl)

semicolon_ends : {B : Type 0} (U : Spelling B) (b : B) (ys rest : List Token) → After mark.Semicolon U b ys → ends (ys ++ rest)
semicolon_ends U _ _ rest (after b ys u) j = refl

-- ---- how a call begins

data CallFront : List Token → Type 0 where
  by_name : (word : List ℕ) (us : List Token) → CallFront (token.Name word ∷ token.Mark mark.LeftParen ∷ us)
  by_pointer : (r : Option _) (zs : List Token) → CallFront (token.Mark mark.LeftParen ∷ token.Mark mark.LeftParen ∷ called r zs)

pointer_front : (s : CSignature) (xs us : List Token) → CallFront (bracketed (signature_tokens s ++ xs) ++ us)
pointer_front s xs us =
    let more = token.Mark mark.Star ∷ token.Mark mark.RightParen ∷ token.Mark mark.LeftParen ∷ (types_tokens s.parameters ++ (token.Mark mark.RightParen ∷ sign mark.RightParen)) in
    let inner = ((more ++ xs) ++ sign mark.RightParen) ++ us in
    let e : ((((result_tokens s.result ++ (token.Mark mark.LeftParen ∷ more)) ++ xs) ++ sign mark.RightParen) ++ us) ≡ called s.result inner =
    ap (λ l. (l ++ sign mark.RightParen) ++ us) (append_assoc (result_tokens s.result) (token.Mark mark.LeftParen ∷ more) xs)
    ∙ ap (λ l. l ++ us) (append_assoc (result_tokens s.result) (token.Mark mark.LeftParen ∷ (more ++ xs)) (sign mark.RightParen))
    ∙ append_assoc (result_tokens s.result) (token.Mark mark.LeftParen ∷ ((more ++ xs) ++ sign mark.RightParen)) us in
    subst (λ l. CallFront (token.Mark mark.LeftParen ∷ token.Mark mark.LeftParen ∷ l)) (sym e) (by_pointer s.result inner)

callee_front : (c : CCallee) (xs us : List Token) → SpellsCallee c xs → CallFront (xs ++ (token.Mark mark.LeftParen ∷ us))
callee_front _ _ us (g.SpellsCallee.name word) = by_name word us
callee_front _ _ us (g.SpellsCallee.pointer s e xs d) = pointer_front s (bracketed xs) (token.Mark mark.LeftParen ∷ us)

tail_front : (c : CCallee) (xs : List Token) → SpellsCallee c xs → (k : CallParts) (ys us : List Token) → CallTail c k ys → CallFront (xs ++ (ys ++ us))
tail_front c xs s _ _ us (after k ys u) = callee_front c xs (ys ++ us) s

call_front : (k : CallParts) (ys us : List Token) → CallShape k ys → CallFront (ys ++ us)
call_front _ _ us (seq c xs k ys s u) = subst CallFront (sym (append_assoc xs ys us)) (tail_front c xs s k ys us u)

no_call_value : (e : CExpression) (xs rest ts : List Token) → Whole e xs → CallFront ts → xs ++ (token.Mark mark.Semicolon ∷ rest) ≡ ts → ⊥
no_call_value e xs rest _ d (by_name word us) q = no_named_call d rest us word q
no_call_value e xs rest _ d (by_pointer r zs) q = no_pointer_call d (token.Mark mark.Semicolon ∷ rest) r zs q

value_rest : (e : CExpression) (xs : List Token) → Whole e xs → (b : Right) (ys rest ts : List Token) → After mark.Semicolon (Done (right.Value e)) b ys → CallFront ts
    → xs ++ (ys ++ rest) ≡ ts → ⊥
value_rest e xs d _ _ rest ts (after b ys u) f q = no_call_value e xs (ys ++ rest) ts d f q

value_differs : (b : Right) (xs rest ts : List Token) → ValueShape b xs → CallFront ts → xs ++ rest ≡ ts → ⊥
value_differs _ _ rest ts (seq e xs b ys d u) f q = value_rest e xs d b ys rest ts u f (sym (append_assoc xs ys rest) ∙ q)

made_front : {B : Type 0} (h : CallParts → B) (b : B) (ys us : List Token) → Made h CallShape b ys → CallFront (ys ++ us)
made_front h _ _ us (made k ys s) = call_front k ys us s

right_differs : Differ ValueShape (Made right.Call CallShape)
right_differs a b xs ys rest others s t q = value_differs a xs rest (ys ++ others) s (made_front right.Call b ys others t) q

no_call_place : (p : CPlace) (xs us ts : List Token) → SpellsPlace p xs → CallFront ts → xs ++ (token.Mark mark.Assign ∷ us) ≡ ts → ⊥
no_call_place _ _ us _ (g.SpellsPlace.name word) (by_name w vs) q = absurd (cc)
no_call_place _ _ us _ (g.SpellsPlace.name word) (by_pointer r zs) q = absurd (cc)
no_call_place _ _ us _ (g.SpellsPlace.pointed t e xs d) (by_name w vs) q = absurd (cc)
no_call_place _ _ us _ (g.SpellsPlace.pointed t e xs d) (by_pointer r zs) q = absurd (cc)

store_rest : (p : CPlace) (xs : List Token) → SpellsPlace p xs → (b : CStatement) (ys rest ts : List Token) → StoreTail p b ys → CallFront ts → xs ++ (ys ++ rest) ≡ ts → ⊥
store_rest p xs s _ _ rest ts (after b ys u) f q = no_call_place p xs (ys ++ rest) ts s f q

store_differs : (b : CStatement) (xs rest ts : List Token) → StoreShape b xs → CallFront ts → xs ++ rest ≡ ts → ⊥
store_differs _ _ rest ts (seq p xs b ys s u) f q = store_rest p xs s b ys rest ts u f (sym (append_assoc xs ys rest) ∙ q)

effects_differ : Differ StoreShape (Made unstored CallShape)
effects_differ a b xs ys rest others s t q = store_differs a xs rest (ys ++ others) s (made_front unstored b ys others t) q

module _ (n : ℕ) (ex : Parse CExpression) (dx : Decides Whole ends n ex) where
  decides_called_of : (c : CCallee) → Decides (CallTail c) any n (called_of ex c)
  unfolding called_of
  decides_called_of c =
      decides_sign mark.LeftParen (Seq SpellsArguments (CallEnd c)) any n _
      (decides_then SpellsArguments closes (CallEnd c) any (λ es b ys rest u f. end_closes c es b ys rest u) n (arguments ex)
      (λ es. expect mark.RightParen >>= (λ u. expect mark.Semicolon >>= (λ v. pure (parts_of c es)))) (decides_arguments n ex dx)
      (λ es xs s. decides_sign mark.RightParen (After mark.Semicolon (Done (parts_of c es))) any n (λ u. expect mark.Semicolon >>= (λ v. pure (parts_of c es)))
      (decides_sign mark.Semicolon (Done (parts_of c es)) any n (λ v. pure (parts_of c es)) (decides_pure any n (parts_of c es)))))

  decides_called : Decides CallShape any n (spec.called ex)
  unfolding spec.called
  decides_called = decides_then SpellsCallee any CallTail any (λ c b ys rest u f. tt) n (callee ex) (λ c. called_of ex c) (decides_callee n ex dx) (λ c xs s. decides_called_of c)

  decides_value : Decides ValueShape any n (value ex)
  unfolding value
  decides_value =
      decides_then Whole ends (λ e. After mark.Semicolon (Done (right.Value e))) any (λ e b ys rest u f. semicolon_ends (Done (right.Value e)) b ys rest u) n ex
      (λ e. expect mark.Semicolon >>= (λ u. pure (right.Value e))) dx
      (λ e xs s. decides_sign mark.Semicolon (Done (right.Value e)) any n (λ u. pure (right.Value e)) (decides_pure any n (right.Value e)))

  decides_right : Decides RightShape any n (right_side ex)
  unfolding right_side right_call
  decides_right =
      decides_either ValueShape (Made right.Call CallShape) n (value ex) (right_call ex) right_differs decides_value (decides_made right.Call CallShape any n (spec.called ex) decides_called)

  decides_store_to : (p : CPlace) → Decides (StoreTail p) any n (store_to ex p)
  unfolding store_to
  decides_store_to p =
      decides_sign mark.Assign (Made (stored p) RightShape) any n (λ u. right_side ex >>= (λ r. pure (stored p r))) (decides_made (stored p) RightShape any n (right_side ex) decides_right)

  decides_store : Decides StoreShape any n (store ex)
  unfolding store
  decides_store = decides_then SpellsPlace any StoreTail any (λ p b ys rest u f. tt) n (one_place ex) (λ p. store_to ex p) (decides_place n ex dx) (λ p xs s. decides_store_to p)

  pub decides_effect : Decides EffectShape any n (effect ex)
  unfolding effect call
  decides_effect =
      decides_either StoreShape (Made unstored CallShape) n (store ex) (call ex) effects_differ decides_store (decides_made unstored CallShape any n (spec.called ex) decides_called)

-- ---- what these are in the grammar

-- an assignment or a call
pub data IsEffect : CStatement → List Token → Type 0 where
  assigns : (p : CPlace) (ps : List Token) (e : CExpression) (xs : List Token) → SpellsPlace p ps → Whole e xs
      → IsEffect (statement.Assign p e) (ps ++ (token.Mark mark.Assign ∷ (xs ++ sign mark.Semicolon)))
  stores : (p : CPlace) (ps : List Token) (c : CCallee) (cs : List Token) (es : List CExpression) (xs : List Token) → SpellsPlace p ps → SpellsCallee c cs → SpellsArguments es xs
      → IsEffect (statement.Call (Some p) c es) (ps ++ (token.Mark mark.Assign ∷ (cs ++ (bracketed xs ++ sign mark.Semicolon))))
  calls : (c : CCallee) (cs : List Token) (es : List CExpression) (xs : List Token) → SpellsCallee c cs → SpellsArguments es xs
      → IsEffect (statement.Call None c es) (cs ++ (bracketed xs ++ sign mark.Semicolon))

-- the tokens of arguments with what closes the call
call_parts : (xs : List Token) → bracketed xs ++ sign mark.Semicolon ≡ token.Mark mark.LeftParen ∷ (xs ++ (token.Mark mark.RightParen ∷ sign mark.Semicolon))
call_parts xs = ap (λ l. token.Mark mark.LeftParen ∷ l) (append_assoc xs (sign mark.RightParen) (sign mark.Semicolon))

call_shape : (c : CCallee) (cs : List Token) (es : List CExpression) (xs : List Token) → SpellsCallee c cs → SpellsArguments es xs
    → CallShape (parts_of c es) (cs ++ (bracketed xs ++ sign mark.Semicolon))
call_shape c cs es xs s t =
    subst (λ l. CallShape (parts_of c es) (cs ++ l)) (sym (call_parts xs))
    (seq c cs (parts_of c es) _ s (after _ _ (seq es xs (parts_of c es) _ t (after _ _ (after _ _ done)))))

-- a call, from its shape
data IsCall : CallParts → List Token → Type 0 where
  is_call : (c : CCallee) (cs : List Token) (es : List CExpression) (xs : List Token) → SpellsCallee c cs → SpellsArguments es xs → IsCall (parts_of c es) (cs ++ (bracketed xs ++ sign mark.Semicolon))

of_call_end : (c : CCallee) (cs : List Token) → SpellsCallee c cs → (es : List CExpression) (xs : List Token) → SpellsArguments es xs → (k : CallParts) (ys : List Token) → CallEnd c es k ys
    → IsCall k (cs ++ (token.Mark mark.LeftParen ∷ (xs ++ ys)))
of_call_end c cs s es xs t _ _ (after _ _ (after _ _ done)) = subst (λ l. IsCall (parts_of c es) (cs ++ l)) (call_parts xs) (is_call c cs es xs s t)

of_call_tail : (c : CCallee) (cs : List Token) → SpellsCallee c cs → (k : CallParts) (ys : List Token) → CallTail c k ys → IsCall k (cs ++ ys)
of_call_tail c cs s _ _ (after _ _ (seq es xs k ys t u)) = of_call_end c cs s es xs t k ys u

of_call : (k : CallParts) (xs : List Token) → CallShape k xs → IsCall k xs
of_call _ _ (seq c cs k ys s u) = of_call_tail c cs s k ys u

effect_shape : (b : CStatement) (xs : List Token) → IsEffect b xs → EffectShape b xs
effect_shape _ _ (assigns p ps e xs s d) =
    one _ _ (seq p ps (statement.Assign p e) _ s (after _ _ (made (right.Value e) (xs ++ sign mark.Semicolon) (one _ _ (seq e xs (right.Value e) (sign mark.Semicolon) d (after _ _ done))))))
effect_shape _ _ (stores p ps c cs es xs s t a) =
    one _ _ (seq p ps (statement.Call (Some p) c es) _ s (after _ _ (made (right.Call (parts_of c es)) _ (other _ _ (made (parts_of c es) _ (call_shape c cs es xs t a))))))
effect_shape _ _ (calls c cs es xs t a) = other _ _ (made (parts_of c es) _ (call_shape c cs es xs t a))

call_stored : (p : CPlace) (ps : List Token) → SpellsPlace p ps → (k : CallParts) (ys : List Token) → IsCall k ys → IsEffect (stored p (right.Call k)) (ps ++ (token.Mark mark.Assign ∷ ys))
call_stored p ps s _ _ (is_call c cs es xs t a) = stores p ps c cs es xs s t a

value_stored : (p : CPlace) (ps : List Token) → SpellsPlace p ps → (e : CExpression) (xs : List Token) → Whole e xs → (r : Right) (ys : List Token) → After mark.Semicolon (Done (right.Value e)) r ys
    → IsEffect (stored p r) (ps ++ (token.Mark mark.Assign ∷ (xs ++ ys)))
value_stored p ps s e xs d _ _ (after _ _ done) = assigns p ps e xs s d

of_right : (p : CPlace) (ps : List Token) → SpellsPlace p ps → (r : Right) (ys : List Token) → RightShape r ys → IsEffect (stored p r) (ps ++ (token.Mark mark.Assign ∷ ys))
of_right p ps s _ _ (one _ _ (seq e xs r ys d u)) = value_stored p ps s e xs d r ys u
of_right p ps s _ _ (other _ _ (made k ys t)) = call_stored p ps s k ys (of_call k ys t)

of_store : (p : CPlace) (ps : List Token) → SpellsPlace p ps → (b : CStatement) (ys : List Token) → StoreTail p b ys → IsEffect b (ps ++ ys)
of_store p ps s _ _ (after _ _ (made r ys t)) = of_right p ps s r ys t

call_alone : (k : CallParts) (ys : List Token) → IsCall k ys → IsEffect (unstored k) ys
call_alone _ _ (is_call c cs es xs t a) = calls c cs es xs t a

of_effect : (b : CStatement) (xs : List Token) → EffectShape b xs → IsEffect b xs
of_effect _ _ (one _ _ (seq p ps b ys s u)) = of_store p ps s b ys u
of_effect _ _ (other _ _ (made k ys t)) = call_alone k ys (of_call k ys t)

pub decides_effects : (n : ℕ) (ex : Parse CExpression) → Decides Whole ends n ex → Decides IsEffect any n (effect ex)
decides_effects n ex dx = decides_as EffectShape IsEffect any n (effect ex) effect_shape of_effect (decides_effect n ex dx)
