-- One step of each loop and of each recursion of reading expressions.
use Rattle.std.proofs.Common.{◌≡◌, ℕ, zero, suc, ◌+◌, ◌-◌, ◌<◌, ◌≤◌, arith, List, length, Some, None, Ok, Err, refl, ap, sym, ◌∙◌, subst}
use Rattle.cf_base.specs.declared.arith.Arith.{Arith}
use Rattle.cc_whole_tokens.specs.declared.token.Token.{Token}
use Rattle.cc_whole.specs.declared.expression.CExpression.{CExpression}
use Rattle.cc_whole.specs.declared.expression.CExpression.TheVariants as tree
use Rattle.cc_whole_reading.specs.declared.stop.Stop.{Stop}
use Rattle.cc_whole_reading.specs.declared.stop.Stop.TheVariants as stop
use Rattle.cc_whole_reading.specs.Parse.{Parse, and_then, Fails, behind}
use Rattle.cc_whole_reading.specs.Constants.{Keep}
use Rattle.cc_whole_reading.proofs.Steps.{fails_then}
use Rattle.cc_whole_read_expr.specs.ReadExpr.{operand_by, operand, binary, expression, more_operands, operator_above}

pub operands_zero : (tighter : Parse CExpression) (level n : ℕ) (a : CExpression) (ts : List Token) → n ≡ zero → more_operands tighter level n a ts ≡ Ok (a, ts)
unfolding more_operands
operands_zero tighter level zero a ts e = refl
operands_zero tighter level (suc n) a ts e = absurd (cc)

pub operands_stop : (tighter : Parse CExpression) (level n : ℕ) (a : CExpression) (ts : List Token) → operator_above level ts ≡ None → more_operands tighter level n a ts ≡ Ok (a, ts)
unfolding more_operands
operands_stop tighter level zero a ts e = refl
operands_stop tighter level (suc n) a ts e = rw e refl

pub operands_turn : (tighter : Parse CExpression) (level n k : ℕ) (a : CExpression) (op : Arith) (ts : List Token) → n ≡ suc k → operator_above level ts ≡ Some op
    → more_operands tighter level n a ts ≡ and_then (tighter (behind ts)) (λ b. more_operands tighter level k (tree.Binary op a b))
unfolding more_operands
operands_turn tighter level zero k a op ts e g = absurd (cc)
operands_turn tighter level (suc n) k a op ts e g =
    let same : n ≡ k = cc in
    rw g (ap (λ m. and_then (tighter (behind ts)) (λ b. more_operands tighter level m (tree.Binary op a b))) same)

pub operands_next : (tighter : Parse CExpression) (level n k : ℕ) (a b : CExpression) (op : Arith) (ts mid : List Token) → n ≡ suc k → operator_above level ts ≡ Some op
    → tighter (behind ts) ≡ Ok (b, mid) → more_operands tighter level n a ts ≡ more_operands tighter level k (tree.Binary op a b) mid
operands_next tighter level n k a b op ts mid e g read =
    operands_turn tighter level n k a op ts e g ∙ ap (λ r. and_then r (λ y. more_operands tighter level k (tree.Binary op a y))) read

pub operands_fail : (tighter : Parse CExpression) (level n k : ℕ) (a : CExpression) (op : Arith) (ts : List Token) (err : Stop) → n ≡ suc k → operator_above level ts ≡ Some op
    → Fails (tighter (behind ts)) err → Fails (more_operands tighter level n a ts) err
operands_fail tighter level n k a op ts err e g fails =
    subst (λ r. Fails r err) (sym (operands_turn tighter level n k a op ts e g)) (fails_then (tighter (behind ts)) (λ b. more_operands tighter level k (tree.Binary op a b)) err fails)

pub binary_zero : (prim : Parse CExpression) (n : ℕ) (ts : List Token) → n ≡ zero → binary prim n ts ≡ prim ts
unfolding binary
binary_zero prim zero ts e = refl
binary_zero prim (suc n) ts e = absurd (cc)

pub binary_step : (prim : Parse CExpression) (n k : ℕ) (ts : List Token) → n ≡ suc k
    → binary prim n ts ≡ and_then (binary prim k ts) (λ a us. more_operands (binary prim k) k (length us) a us)
unfolding binary
binary_step prim zero k ts e = absurd (cc)
binary_step prim (suc n) k ts e =
    let same : n ≡ k = cc in
    ap (λ m. and_then (binary prim m ts) (λ a us. more_operands (binary prim m) m (length us) a us)) same

pub operand_zero : (keep : Keep) (n : ℕ) (ts : List Token) → n ≡ zero → operand keep n ts ≡ Err (stop.NotC (length ts))
unfolding operand
operand_zero keep zero ts e = refl
operand_zero keep (suc n) ts e = absurd (cc)

pub operand_step : (keep : Keep) (n k : ℕ) (ts : List Token) → n ≡ suc k → operand keep n ts ≡ operand_by keep (expression keep k) (operand keep k) ts
unfolding operand
operand_step keep zero k ts e = absurd (cc)
operand_step keep (suc n) k ts e =
    let same : n ≡ k = cc in
    ap (λ m. operand_by keep (expression keep m) (operand keep m) ts) same

module _ (tighter : Parse CExpression) (level : ℕ) (first found : CExpression) (all ts : List Token) (last turn len : ℕ)
    (so_far : more_operands tighter level (last - turn) found ts ≡ more_operands tighter level last first all) (same : last ≡ len) where
  pub operands_stop_loop : operator_above level ts ≡ None → more_operands tighter level len first all ≡ Ok (found, ts)
  operands_stop_loop halts =
      subst (λ n. more_operands tighter level n first all ≡ Ok (found, ts)) same (sym so_far ∙ operands_stop tighter level (last - turn) found ts halts)

  pub operands_end_loop : last ≤ turn → more_operands tighter level len first all ≡ Ok (found, ts)
  operands_end_loop over =
      let none : last - turn ≡ zero = omega arith in
      subst (λ n. more_operands tighter level n first all ≡ Ok (found, ts)) same (sym so_far ∙ operands_zero tighter level (last - turn) found ts none)

  pub operands_fail_loop : (op : Arith) (err : Stop) → turn < last → operator_above level ts ≡ Some op → Fails (tighter (behind ts)) err
      → Fails (more_operands tighter level len first all) err
  operands_fail_loop op err more turns fails =
      let some : last - turn ≡ suc (last - (turn + 1)) = omega arith in
      subst (λ n. Fails (more_operands tighter level n first all) err) same
      (subst (λ r. Fails r err) so_far (operands_fail tighter level (last - turn) (last - (turn + 1)) found op ts err some turns fails))

  pub operands_next_loop : (op : Arith) (b : CExpression) (mid : List Token) (next : CExpression) → turn < last → operator_above level ts ≡ Some op
      → tighter (behind ts) ≡ Ok (b, mid) → next ≡ tree.Binary op found b
      → more_operands tighter level (last - (turn + 1)) next mid ≡ more_operands tighter level last first all
  operands_next_loop op b mid next more turns read is =
      let some : last - turn ≡ suc (last - (turn + 1)) = omega arith in
      ap (λ a. more_operands tighter level (last - (turn + 1)) a mid) is
      ∙ sym (operands_next tighter level (last - turn) (last - (turn + 1)) found b op ts mid some turns read) ∙ so_far

pub binary_reads : (prim : Parse CExpression) (n k : ℕ) (ts : List Token) (a : CExpression) (mid : List Token) → n ≡ suc k → binary prim k ts ≡ Ok (a, mid)
    → binary prim n ts ≡ more_operands (binary prim k) k (length mid) a mid
binary_reads prim n k ts a mid e read = binary_step prim n k ts e ∙ ap (λ r. and_then r (λ x us. more_operands (binary prim k) k (length us) x us)) read

pub binary_fails : (prim : Parse CExpression) (n k : ℕ) (ts : List Token) (err : Stop) → n ≡ suc k → Fails (binary prim k ts) err → Fails (binary prim n ts) err
binary_fails prim n k ts err e fails =
    subst (λ r. Fails r err) (sym (binary_step prim n k ts e)) (fails_then (binary prim k ts) (λ x us. more_operands (binary prim k) k (length us) x us) err fails)
