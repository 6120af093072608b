-- Reading expressions with some constants, and with all, is alike.
use Rattle.std.proofs.Common.{◌≡◌, ℕ, zero, suc, [], length, Option, Some, None, Ok, refl, ap, ◌∙◌}
use Rattle.cf_base.specs.declared.arith.Arith.{Arith}
use Rattle.cc_whole_tokens.specs.declared.mark.Mark.TheVariants as mark
use Rattle.cc_whole.specs.declared.types.CType.{CType}
use Rattle.cc_whole.specs.declared.types.CSignature.{CSignature}
use Rattle.cc_whole.specs.declared.expression.Prefix.{Prefix}
use Rattle.cc_whole.specs.declared.expression.Prefix.TheVariants as prefix
use Rattle.cc_whole.specs.declared.expression.CPlace.TheVariants as place
use Rattle.cc_whole.specs.declared.expression.CExpression.{CExpression}
use Rattle.cc_whole.specs.declared.expression.CExpression.TheVariants as tree
use Rattle.cc_whole.specs.declared.statement.CCallee.TheVariants as to
use Rattle.cc_whole.specs.Operators.{loosest}
use Rattle.cc_whole_reading.specs.declared.constants.Constants.{Constants}
use Rattle.cc_whole_reading.specs.Parse.{Parse, and_then, pure, past, behind, expect}
use Rattle.cc_whole_reading.specs.Constants.{keeps, constant}
use Rattle.cc_whole_reading.proofs.ConstantLaws.{all_kept}
use Rattle.cc_whole_reading.proofs.Alike.{Alike, SameResult, AsTheyStand, alike_pure, alike_itself, alike_then, alike_next, alike_made, alike_if, alike_sight, alike_separated, alike_constant}
use Rattle.cc_whole_read_types.specs.ReadTypes.{type_name, pointed_type, sees_type, signature}
use Rattle.cc_whole_read_expr.specs.ReadExpr as spec
use Rattle.cc_whole_read_expr.specs.ReadExpr.{prefixed, casted, address, typed_operand, cast, enclosed, brackets, place_at, loaded, variable, number, leaf, signed, operand_by, operator_above, if_some, more_operands, binary, operand, expression, named_place, one_place, some_arguments, arguments, called_name, called_with, called_pointer, callee}

module _ (wanted : Constants) where
  abbrev E : Type 0
  E = AsTheyStand wanted

  alike_leaf : Alike E (leaf (keeps wanted)) (leaf all_kept)
  unfolding leaf number
  alike_leaf =
      alike_if E _ variable variable (number (keeps wanted)) (number all_kept) (alike_itself E variable)
      (alike_made E tree.Constant (constant (keeps wanted)) (constant all_kept) (alike_constant wanted))

  module _ (ex fx un vn : Parse CExpression) (dx : Alike E ex fx) (du : Alike E un vn) where
    alike_at : (t : CType) → Alike E (place_at ex t) (place_at fx t)
    unfolding place_at
    alike_at t =
        alike_next E (expect mark.RightParen) _ _ (λ u. alike_next E (expect mark.LeftParen) _ _ (λ v.
        alike_then E ex fx _ _ dx (λ a b e. alike_next E (expect mark.RightParen) (λ w. pure (place.At t a)) (λ w. pure (place.At t b))
        (λ w. alike_pure E (place.At t a) (place.At t b) (λ x. ap (place.At t) (e x))))))

    alike_pointed : Alike E (spec.pointed ex) (spec.pointed fx)
    unfolding spec.pointed
    alike_pointed = alike_next E (expect mark.LeftParen) _ _ (λ u. alike_next E pointed_type (place_at ex) (place_at fx) alike_at)

    alike_prefixed : (o : Prefix) → Alike E (prefixed un o) (prefixed vn o)
    unfolding prefixed
    alike_prefixed o = alike_made E (tree.Unary o) un vn du

    alike_signed : Alike E (signed (keeps wanted) un) (signed all_kept vn)
    unfolding signed
    alike_signed =
        alike_sight E mark.Minus (prefixed un prefix.Negate) (prefixed vn prefix.Negate) _ _ (alike_prefixed prefix.Negate)
        (alike_sight E mark.Complement (prefixed un prefix.Complement) (prefixed vn prefix.Complement) _ _ (alike_prefixed prefix.Complement)
        (alike_sight E mark.Not (prefixed un prefix.Not) (prefixed vn prefix.Not) (leaf (keeps wanted)) (leaf all_kept) (alike_prefixed prefix.Not) alike_leaf))

    alike_typed : (t : CType) → Alike E (typed_operand un t) (typed_operand vn t)
    unfolding typed_operand casted
    alike_typed t = alike_if E _ (past address) (past address) (casted un t) (casted vn t) (alike_itself E (past address)) (alike_made E (tree.Cast t) un vn du)

    alike_brackets : Alike E (brackets ex un) (brackets fx vn)
    unfolding brackets cast enclosed
    alike_brackets =
        alike_if E sees_type (cast un) (cast vn) (enclosed ex) (enclosed fx)
        (alike_next E type_name _ _ (λ t. alike_next E (expect mark.RightParen) _ _ (λ u. alike_typed t)))
        (alike_then E ex fx _ _ dx (λ a b e. alike_next E (expect mark.RightParen) (λ u. pure a) (λ u. pure b) (λ u. alike_pure E a b e)))

    alike_operand_by : Alike E (operand_by (keeps wanted) ex un) (operand_by all_kept fx vn)
    unfolding operand_by loaded
    alike_operand_by =
        alike_sight E mark.LeftParen (brackets ex un) (brackets fx vn) _ _ alike_brackets
        (alike_sight E mark.Star (loaded ex) (loaded fx) (signed (keeps wanted) un) (signed all_kept vn) (alike_made E tree.Load (spec.pointed ex) (spec.pointed fx) alike_pointed) alike_signed)

  alike_more : (p q : Parse CExpression) → Alike E p q → (level n : ℕ) (a b : CExpression) → (E → b ≡ a) → Alike E (more_operands p level n a) (more_operands q level n b)
  unfolding more_operands
  alike_more p q each level zero a b e ts = record { rest = refl; tree = e }
  alike_more p q each level (suc n) a b e ts = go (alike_more p q each level n) (operator_above level ts)
    where
      go : ((c d : CExpression) → (E → d ≡ c) → Alike E (more_operands p level n c) (more_operands q level n d)) → (o : Option Arith)
          → SameResult E (if_some o (λ op. and_then (p (behind ts)) (λ c. more_operands p level n (tree.Binary op a c))) (Ok (a, ts)))
          (if_some o (λ op. and_then (q (behind ts)) (λ c. more_operands q level n (tree.Binary op b c))) (Ok (b, ts)))
      go again None = record { rest = refl; tree = e }
      go again (Some op) =
          alike_then E p q (λ c. more_operands p level n (tree.Binary op a c)) (λ c. more_operands q level n (tree.Binary op b c)) each
          (λ c d f. again (tree.Binary op a c) (tree.Binary op b d) (λ x. ap (λ y. tree.Binary op y d) (e x) ∙ ap (tree.Binary op a) (f x))) (behind ts)

  alike_binary : (p q : Parse CExpression) → Alike E p q → (level : ℕ) → Alike E (binary p level) (binary q level)
  unfolding binary
  alike_binary p q each zero ts = each ts
  alike_binary p q each (suc level) ts =
      let tighter = alike_binary p q each level in
      alike_then E (binary p level) (binary q level) (λ a us. more_operands (binary p level) level (length us) a us) (λ a us. more_operands (binary q level) level (length us) a us) tighter
      (λ a b e us. alike_more (binary p level) (binary q level) tighter level (length us) a b e us) ts

  alike_operand : (n : ℕ) → Alike E (operand (keeps wanted) n) (operand all_kept n)
  unfolding operand
  alike_operand zero ts = refl
  alike_operand (suc n) ts =
      let inner = alike_operand n in
      alike_operand_by (expression (keeps wanted) n) (expression all_kept n) (operand (keeps wanted) n) (operand all_kept n)
      (alike_binary (operand (keeps wanted) n) (operand all_kept n) inner loosest) inner ts

  pub alike_expression : (n : ℕ) → Alike E (expression (keeps wanted) n) (expression all_kept n)
  alike_expression n = alike_binary (operand (keeps wanted) n) (operand all_kept n) (alike_operand n) loosest

  module _ (ex fx : Parse CExpression) (dx : Alike E ex fx) where
    pub alike_place : Alike E (one_place ex) (one_place fx)
    unfolding one_place
    alike_place = alike_sight E mark.Star (spec.pointed ex) (spec.pointed fx) named_place named_place (alike_pointed ex fx ex fx dx dx) (alike_itself E named_place)

    pub alike_arguments : Alike E (arguments ex) (arguments fx)
    unfolding arguments some_arguments
    alike_arguments = alike_if E _ (pure []) (pure []) (some_arguments ex) (some_arguments fx) (alike_itself E (pure [])) (alike_separated E ex fx dx)

    alike_with : (s : CSignature) → Alike E (called_with ex s) (called_with fx s)
    unfolding called_with
    alike_with s =
        alike_next E (expect mark.LeftParen) _ _ (λ u. alike_then E ex fx _ _ dx (λ a b e. alike_next E (expect mark.RightParen) _ _ (λ v. alike_next E (expect mark.RightParen)
        (λ w. pure (to.Pointer s a)) (λ w. pure (to.Pointer s b)) (λ w. alike_pure E (to.Pointer s a) (to.Pointer s b) (λ x. ap (to.Pointer s) (e x))))))

    pub alike_callee : Alike E (callee ex) (callee fx)
    unfolding callee called_pointer
    alike_callee =
        alike_sight E mark.LeftParen (called_pointer ex) (called_pointer fx) called_name called_name (alike_next E signature (called_with ex) (called_with fx) alike_with) (alike_itself E called_name)
