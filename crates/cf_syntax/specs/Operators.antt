-- Operators by the codes of their words (5.3 to 5.17).
use Rattle.std.specs.Prelude.{ℕ, zero, suc, Bool, true, false, cond, List, [], ◌∷◌, drop, Option, Some, None, nat_eq}
use Rattle.cf_tokens.specs.declared.token.Token.{Token}
use Rattle.cf_syntax.specs.declared.operator.AssignOp.{AssignOp}
use Rattle.cf_syntax.specs.declared.operator.AssignOp.TheVariants as assign
use Rattle.cf_syntax.specs.declared.operator.BinaryOp.{BinaryOp}
use Rattle.cf_syntax.specs.declared.operator.BinaryOp.TheVariants as binary
use Rattle.cf_syntax.specs.declared.operator.PrefixOp.{PrefixOp}
use Rattle.cf_syntax.specs.declared.operator.PrefixOp.TheVariants as prefix
use Rattle.cf_syntax.specs.declared.operator.StepOp.{StepOp}
use Rattle.cf_syntax.specs.declared.operator.StepOp.TheVariants as step
use Rattle.cf_syntax.specs.Parse.{Parse}
use Rattle.cf_syntax.specs.Words.{front, place}

-- the operator of this word in a list of words with operators
abbrev pub operator_of : {A : Type 0} → List (ℕ × A) → ℕ → Option A
operator_of [] n = None
operator_of (row ∷ rows) n = cond (nat_eq n row.0) (Some row.1) (operator_of rows n)

-- the binary operators of a level, counted from the tightest
abbrev pub level : ℕ → List (ℕ × BinaryOp)
level zero = (12, binary.DotStar) ∷ (14, binary.ArrowStar) ∷ []
level (suc zero) = (20, binary.Multiply) ∷ (21, binary.Divide) ∷ (22, binary.Remainder) ∷ []
level (suc (suc zero)) = (18, binary.Add) ∷ (19, binary.Subtract) ∷ []
level (suc (suc (suc zero))) = (35, binary.ShiftLeft) ∷ (36, binary.ShiftRight) ∷ []
level (suc (suc (suc (suc zero)))) = (26, binary.Less) ∷ (27, binary.Greater) ∷ (31, binary.LessEqual) ∷ (32, binary.GreaterEqual) ∷ []
level (suc (suc (suc (suc (suc zero))))) = (29, binary.Equal) ∷ (30, binary.NotEqual) ∷ []
level (suc (suc (suc (suc (suc (suc zero)))))) = (23, binary.BitAnd) ∷ []
level (suc (suc (suc (suc (suc (suc (suc zero))))))) = (25, binary.BitXor) ∷ []
level (suc (suc (suc (suc (suc (suc (suc (suc zero)))))))) = (24, binary.BitOr) ∷ []
level (suc (suc (suc (suc (suc (suc (suc (suc (suc zero))))))))) = (33, binary.LogicalAnd) ∷ []
level (suc (suc (suc (suc (suc (suc (suc (suc (suc (suc n)))))))))) = (34, binary.LogicalOr) ∷ []

abbrev pub assigning : List (ℕ × AssignOp)
assigning =
    (28, assign.Assign) ∷ (39, assign.Add) ∷ (40, assign.Subtract) ∷ (41, assign.Multiply) ∷ (42, assign.Divide) ∷ (43, assign.Remainder)
    ∷ (44, assign.BitAnd) ∷ (45, assign.BitOr) ∷ (46, assign.BitXor) ∷ (47, assign.ShiftLeft) ∷ (48, assign.ShiftRight) ∷ []

abbrev pub prefixing : List (ℕ × PrefixOp)
prefixing =
    (20, prefix.Dereference) ∷ (23, prefix.AddressOf) ∷ (18, prefix.Plus) ∷ (19, prefix.Minus) ∷ (17, prefix.Not) ∷ (16, prefix.Complement) ∷ []

abbrev pub stepping : List (ℕ × StepOp)
stepping = (37, step.Increment) ∷ (38, step.Decrement) ∷ []

-- an operator that was found, with its place
abbrev pub found : {A : Type 0} → Option A → ℕ → Parse (ℕ × A)
found None at ts = None
found (Some op) at ts = Some ((at, op), ts)

-- an operator of these, with its place
abbrev pub operator : {A : Type 0} → List (ℕ × A) → Parse (ℕ × A)
operator rows ts = found (operator_of rows (front ts)) (place ts) (drop 1 ts)

-- whether the first word is one of these operators
abbrev pub heads : {A : Type 0} → List (ℕ × A) → List Token → Bool
heads [] ts = false
heads (row ∷ rows) ts = cond (nat_eq (front ts) row.0) true (heads rows ts)
