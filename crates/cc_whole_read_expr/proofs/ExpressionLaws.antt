-- Reading expressions, places, arguments and callees decides how they are spelled.
use Rattle.std.proofs.Common.{◌≡◌, ℕ, zero, suc, true, false, List, [], ◌∷◌, ◌++◌, refl, ap, sym, ◌∙◌, subst, append_assoc}
use Rattle.cc_whole_tokens.specs.declared.mark.Mark.TheVariants as mark
use Rattle.cc_whole_tokens.specs.declared.token.Token.{Token}
use Rattle.cc_whole_tokens.specs.declared.token.Token.TheVariants as token
use Rattle.cc_whole_tokens.specs.Mark.{same_mark}
use Rattle.cc_whole.specs.declared.types.CSignature.{CSignature}
use Rattle.cc_whole.specs.declared.expression.CPlace.{CPlace}
use Rattle.cc_whole.specs.declared.expression.CPlace.TheVariants as place
use Rattle.cc_whole.specs.declared.expression.CExpression.{CExpression}
use Rattle.cc_whole.specs.declared.statement.CCallee.{CCallee}
use Rattle.cc_whole.specs.declared.statement.CCallee.TheVariants as to
use Rattle.cc_whole.specs.Operators.{loosest}
use Rattle.cc_whole.specs.SpellsTypes.{sign, signature_tokens}
use Rattle.cc_whole.specs.SpellsTypes as c
use Rattle.cc_whole.specs.Spells.{SpellsPlace, SpellsExpression, SpellsSome, SpellsArguments, SpellsCallee, bracketed}
use Rattle.cc_whole.specs.Spells as g
use Rattle.cc_whole_reading.specs.Parse.{Parse, ◌>>=◌, pure, sees, expect}
use Rattle.cc_whole_reading.proofs.Decides.{Spelling, Follow, any, Decides, Example, decides_as, decides_follow, decides_none, Done, done, decides_pure}
use Rattle.cc_whole_reading.proofs.Shapes.{Seq, seq, After, after, Named, named, Either, one, other, decides_then}
use Rattle.cc_whole_reading.proofs.Choices.{decides_sign, decides_word, sees_same}
use Rattle.cc_whole_reading.proofs.Ways.{Tells, decides_if, decides_sight, apart_named}
use Rattle.cc_whole_reading.proofs.Chains.{Separated, last, more, decides_separated}
use Rattle.cc_whole_reading.proofs.ConstantLaws.{all_kept}
use Rattle.cc_whole_read_types.specs.ReadTypes.{signature}
use Rattle.cc_whole_read_types.proofs.SignatureLaws.{IsSignature, is_signature, decides_signature}
use Rattle.cc_whole_read_expr.specs.ReadExpr as spec
use Rattle.cc_whole_read_expr.specs.ReadExpr.{operand, expression, named_place, one_place, some_arguments, arguments, called_name, called_with, called_pointer, callee}
use Rattle.cc_whole_read_expr.proofs.Firsts.{front, some}
use Rattle.cc_whole_read_expr.proofs.OperatorLaws.{ends, stops, decides_binary}
use Rattle.cc_whole_read_expr.proofs.OperandLaws.{Whole, Small, PlaceTail, place_tail, pointed_place, decides_tail, ends_close, close_follows}
use Rattle.cc_whole_read_expr.proofs.OperandReads.{decides_operand_by}

-- ---- expressions

a_number : Example Small
a_number = record { tree = _; tokens = _; spells = g.SpellsExpression.number _ _ (c.SpellsConstant.signed (48 ∷ [])) }

whole_of : (n : ℕ) → Decides Small any n (operand all_kept n) → Decides Whole ends n (expression all_kept n)
whole_of n d = decides_follow Whole (stops loosest) ends n (expression all_kept n) (λ ts f j lower. f j) (decides_binary n (operand all_kept n) d loosest)

pub decides_operand : (n : ℕ) → Decides Small any n (operand all_kept n)
unfolding operand
decides_operand zero ts small = decides_none Small any a_number (λ b xs s. some s) ts small
decides_operand (suc n) ts small =
    let inner = decides_operand n in
    decides_operand_by n (expression all_kept n) (operand all_kept n) (whole_of n inner) inner ts small

pub decides_expression : (n : ℕ) → Decides Whole ends n (expression all_kept n)
decides_expression n = whole_of n (decides_operand n)

-- ---- places

abbrev NamedPlace : Spelling CPlace
NamedPlace = Named (λ word. Done (place.Name word))

place_shape : (p : CPlace) (xs : List Token) → SpellsPlace p xs → Either (After mark.Star PlaceTail) NamedPlace p xs
place_shape _ _ (g.SpellsPlace.name word) = other _ _ (named word (place.Name word) [] done)
place_shape _ _ (g.SpellsPlace.pointed t e xs d) = one _ _ (after _ _ (place_tail t e xs d))

of_place : (p : CPlace) (xs : List Token) → Either (After mark.Star PlaceTail) NamedPlace p xs → SpellsPlace p xs
of_place _ _ (one _ _ (after b ys u)) = pointed_place b ys u
of_place _ _ (other _ _ (named word _ _ done)) = g.SpellsPlace.name word

module _ (n : ℕ) (ex : Parse CExpression) (dx : Decides Whole ends n ex) where
  decides_named : Decides NamedPlace any n named_place
  unfolding named_place
  decides_named = decides_word (λ word. Done (place.Name word)) any n (λ word. pure (place.Name word)) (λ word. decides_pure any n (place.Name word))

  pub decides_place : Decides SpellsPlace any n (one_place ex)
  unfolding one_place
  decides_place =
      decides_as (Either (After mark.Star PlaceTail) NamedPlace) SpellsPlace any n (one_place ex) place_shape of_place
      (decides_sight mark.Star PlaceTail NamedPlace any n (spec.pointed ex) named_place (apart_named mark.Star (λ word. Done (place.Name word)) any) (decides_tail n ex dx) decides_named)

-- ---- arguments

-- a closing bracket follows
abbrev pub closes : Follow
closes ts = (us : List Token) × (ts ≡ token.Mark mark.RightParen ∷ us)

separated_of : (es : List CExpression) (xs : List Token) → SpellsSome es xs → Separated Whole es xs
separated_of _ _ (g.SpellsSome.last e xs d) = last e xs d
separated_of _ _ (g.SpellsSome.more e xs es ys d s) = more e xs es ys d (separated_of es ys s)

of_separated : (es : List CExpression) (xs : List Token) → Separated Whole es xs → SpellsSome es xs
of_separated _ _ (last e xs d) = g.SpellsSome.last e xs d
of_separated _ _ (more e xs es ys d s) = g.SpellsSome.more e xs es ys d (of_separated es ys s)

abbrev ArgumentShape : Spelling (List CExpression)
ArgumentShape = Either (Done []) (Separated Whole)

argument_shape : (es : List CExpression) (xs : List Token) → SpellsArguments es xs → ArgumentShape es xs
argument_shape _ _ g.SpellsArguments.none = one _ _ done
argument_shape es xs (g.SpellsArguments.some _ _ s) = other _ _ (separated_of es xs s)

of_arguments : (es : List CExpression) (xs : List Token) → ArgumentShape es xs → SpellsArguments es xs
of_arguments _ _ (one _ _ done) = g.SpellsArguments.none
of_arguments es xs (other _ _ s) = g.SpellsArguments.some es xs (of_separated es xs s)

ends_comma : (ts : List Token) → ends (token.Mark mark.Comma ∷ ts)
ends_comma ts j = refl

closed : (ts : List Token) → closes ts → ends ts
closed ts (us, e) = subst ends (sym e) (ends_close us)

no_comma : (ts : List Token) → closes ts → sees mark.Comma ts ≡ false
unfolding same_mark
no_comma ts (us, e) = ap (sees mark.Comma) e

closes_there : Tells (sees mark.RightParen) true (Done {A = List CExpression} []) closes
unfolding same_mark
closes_there _ _ rest done (us, e) = ap (sees mark.RightParen) e

no_close : Tells (sees mark.RightParen) false (Separated Whole) closes
no_close _ _ rest (last e xs d) f = (front d rest).no_close
no_close _ _ rest (more e xs es ys d s) f = ap (sees mark.RightParen) (append_assoc xs (token.Mark mark.Comma ∷ ys) rest) ∙ (front d (token.Mark mark.Comma ∷ (ys ++ rest))).no_close

module _ (n : ℕ) (ex : Parse CExpression) (dx : Decides Whole ends n ex) where
  pub decides_arguments : Decides SpellsArguments closes n (arguments ex)
  unfolding arguments some_arguments
  decides_arguments =
      decides_as ArgumentShape SpellsArguments closes n (arguments ex) argument_shape of_arguments
      (decides_if (sees mark.RightParen) (sees_same mark.RightParen) (Done []) (Separated Whole) closes closes_there no_close n (pure []) (some_arguments ex)
      (λ ts small is. decides_pure closes n [] ts small) (decides_separated Whole ends closes ends_comma closed no_comma n ex dx))

-- ---- callees

abbrev PointerEnd : CSignature → CExpression → Spelling CCallee
PointerEnd s e = After mark.RightParen (After mark.RightParen (Done (to.Pointer s e)))

abbrev PointerCall : CSignature → Spelling CCallee
PointerCall s = After mark.LeftParen (Seq Whole (PointerEnd s))

abbrev pub CalledPointer : Spelling CCallee
CalledPointer = Seq IsSignature PointerCall

abbrev CalledName : Spelling CCallee
CalledName = Named (λ word. Done (to.Name word))

abbrev CalleeShape : Spelling CCallee
CalleeShape = Either (After mark.LeftParen CalledPointer) CalledName

pointer_parts : (s : CSignature) (xs : List Token) → bracketed (signature_tokens s ++ bracketed xs)
    ≡ token.Mark mark.LeftParen ∷ (signature_tokens s ++ (token.Mark mark.LeftParen ∷ (xs ++ (token.Mark mark.RightParen ∷ sign mark.RightParen))))
pointer_parts s xs =
    ap (λ l. token.Mark mark.LeftParen ∷ l) (append_assoc (signature_tokens s) (bracketed xs) (sign mark.RightParen)
    ∙ ap (λ l. signature_tokens s ++ (token.Mark mark.LeftParen ∷ l)) (append_assoc xs (sign mark.RightParen) (sign mark.RightParen)))

callee_shape : (b : CCallee) (xs : List Token) → SpellsCallee b xs → CalleeShape b xs
callee_shape _ _ (g.SpellsCallee.name word) = other _ _ (named word (to.Name word) [] done)
callee_shape _ _ (g.SpellsCallee.pointer s e xs d) =
    subst (CalleeShape (to.Pointer s e)) (sym (pointer_parts s xs))
    (one _ _ (after _ _ (seq s (signature_tokens s) (to.Pointer s e) _ (is_signature s) (after _ _ (seq e xs (to.Pointer s e) _ d (after _ _ (after _ _ done)))))))

of_end : (s : CSignature) (e : CExpression) (xs : List Token) → Whole e xs → (b : CCallee) (ys : List Token) → PointerEnd s e b ys
    → SpellsCallee b (token.Mark mark.LeftParen ∷ (signature_tokens s ++ (token.Mark mark.LeftParen ∷ (xs ++ ys))))
of_end s e xs d _ _ (after _ _ (after _ _ done)) = subst (SpellsCallee (to.Pointer s e)) (pointer_parts s xs) (g.SpellsCallee.pointer s e xs d)

of_pointer : (s : CSignature) (ts : List Token) → IsSignature s ts → (b : CCallee) (ys : List Token) → PointerCall s b ys → SpellsCallee b (token.Mark mark.LeftParen ∷ (ts ++ ys))
of_pointer _ _ (is_signature s) _ _ (after _ _ (seq e xs b ys d u)) = of_end s e xs d b ys u

of_callee : (b : CCallee) (xs : List Token) → CalleeShape b xs → SpellsCallee b xs
of_callee _ _ (one _ _ (after _ _ (seq s ts b ys i u))) = of_pointer s ts i b ys u
of_callee _ _ (other _ _ (named word _ _ done)) = g.SpellsCallee.name word

module _ (n : ℕ) (ex : Parse CExpression) (dx : Decides Whole ends n ex) where
  decides_with : (s : CSignature) → Decides (PointerCall s) any n (called_with ex s)
  unfolding called_with
  decides_with s =
      decides_sign mark.LeftParen (Seq Whole (PointerEnd s)) any n _
      (decides_then Whole ends (PointerEnd s) any (λ e b ys rest u f. close_follows (After mark.RightParen (Done (to.Pointer s e))) b ys rest u) n ex
      (λ e. expect mark.RightParen >>= (λ u. expect mark.RightParen >>= (λ v. pure (to.Pointer s e)))) dx
      (λ e xs d. decides_sign mark.RightParen (After mark.RightParen (Done (to.Pointer s e))) any n (λ u. expect mark.RightParen >>= (λ v. pure (to.Pointer s e)))
      (decides_sign mark.RightParen (Done (to.Pointer s e)) any n (λ v. pure (to.Pointer s e)) (decides_pure any n (to.Pointer s e)))))

  pub decides_callee : Decides SpellsCallee any n (callee ex)
  unfolding callee called_pointer called_name
  decides_callee =
      decides_as CalleeShape SpellsCallee any n (callee ex) callee_shape of_callee
      (decides_sight mark.LeftParen CalledPointer CalledName any n (called_pointer ex) called_name (apart_named mark.LeftParen (λ word. Done (to.Name word)) any)
      (decides_then IsSignature any PointerCall any (λ s b ys rest u f. tt) n signature (λ s. called_with ex s) (decides_signature n) (λ s xs i. decides_with s))
      (decides_word (λ word. Done (to.Name word)) any n (λ word. pure (to.Name word)) (λ word. decides_pure any n (to.Name word))))
