-- What expressions begin with.
use Rattle.std.proofs.Common.{◌≡◌, ℕ, ◌<◌, false, List, ◌∷◌, ◌++◌, length, refl, sym, subst, arith, append_assoc, length-append}
use Rattle.cc_whole_tokens.specs.declared.mark.Mark.TheVariants as mark
use Rattle.cc_whole_tokens.specs.declared.token.Token.{Token}
use Rattle.cc_whole_tokens.specs.Mark.{same_mark}
use Rattle.cc_whole.specs.declared.expression.Prefix.TheVariants as prefix
use Rattle.cc_whole.specs.declared.expression.CExpression.{CExpression}
use Rattle.cc_whole.specs.SpellsTypes as c
use Rattle.cc_whole.specs.Spells.{SpellsPlace, SpellsExpression}
use Rattle.cc_whole.specs.Spells as g
use Rattle.cc_whole_reading.specs.Parse.{sees}
use Rattle.cc_whole_read_types.specs.ReadTypes.{sees_type}

-- an expression takes a token
pub some : {level : ℕ} {x : CExpression} {xs : List Token} → SpellsExpression level x xs → 0 < length xs
some (g.SpellsExpression.number _ _ (c.SpellsConstant.signed ds)) = omega arith
some (g.SpellsExpression.number _ _ (c.SpellsConstant.negative ds)) = omega arith
some (g.SpellsExpression.number _ _ (c.SpellsConstant.unsigned ds)) = omega arith
some (g.SpellsExpression.load _ _ (g.SpellsPlace.name word)) = omega arith
some (g.SpellsExpression.load _ _ (g.SpellsPlace.pointed t e xs d)) = omega arith
some (g.SpellsExpression.prefixed o e xs d) = omega arith
some (g.SpellsExpression.cast t e xs d) = omega arith
some (g.SpellsExpression.address word) = omega arith
some (g.SpellsExpression.brackets e xs d) = omega arith
some (g.SpellsExpression.tighter level e xs d) = some d
some (g.SpellsExpression.joined level t o a b xs ys j d f) = let lengths = length-append xs (t ∷ ys) in let l = some d in omega (arith, lengths, l)

pub record Front (ts : List Token) : Type 0 where
  pub no_type : sees_type ts ≡ false
  pub no_close : sees mark.RightParen ts ≡ false
  pub no_semicolon : sees mark.Semicolon ts ≡ false
  pub no_and : sees mark.And ts ≡ false

pub front : {level : ℕ} {x : CExpression} {xs : List Token} → SpellsExpression level x xs → (rest : List Token) → Front (xs ++ rest)
unfolding same_mark
front (g.SpellsExpression.number _ _ (c.SpellsConstant.signed ds)) rest = record { no_type = refl; no_close = refl; no_semicolon = refl; no_and = refl }
front (g.SpellsExpression.number _ _ (c.SpellsConstant.negative ds)) rest = record { no_type = refl; no_close = refl; no_semicolon = refl; no_and = refl }
front (g.SpellsExpression.number _ _ (c.SpellsConstant.unsigned ds)) rest = record { no_type = refl; no_close = refl; no_semicolon = refl; no_and = refl }
front (g.SpellsExpression.load _ _ (g.SpellsPlace.name word)) rest = record { no_type = refl; no_close = refl; no_semicolon = refl; no_and = refl }
front (g.SpellsExpression.load _ _ (g.SpellsPlace.pointed t e xs d)) rest = record { no_type = refl; no_close = refl; no_semicolon = refl; no_and = refl }
front (g.SpellsExpression.prefixed prefix.Negate e xs d) rest = record { no_type = refl; no_close = refl; no_semicolon = refl; no_and = refl }
front (g.SpellsExpression.prefixed prefix.Complement e xs d) rest = record { no_type = refl; no_close = refl; no_semicolon = refl; no_and = refl }
front (g.SpellsExpression.prefixed prefix.Not e xs d) rest = record { no_type = refl; no_close = refl; no_semicolon = refl; no_and = refl }
front (g.SpellsExpression.cast t e xs d) rest = record { no_type = refl; no_close = refl; no_semicolon = refl; no_and = refl }
front (g.SpellsExpression.address word) rest = record { no_type = refl; no_close = refl; no_semicolon = refl; no_and = refl }
front (g.SpellsExpression.brackets e xs d) rest = record { no_type = refl; no_close = refl; no_semicolon = refl; no_and = refl }
front (g.SpellsExpression.tighter level e xs d) rest = front d rest
front (g.SpellsExpression.joined level t o a b xs ys j d f) rest = subst Front (sym (append_assoc xs (t ∷ ys) rest)) (front d (t ∷ (ys ++ rest)))
