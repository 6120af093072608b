-- Binary expressions, choices, assignments and comma expressions are read as their longest phrases.
use Rattle.std.proofs.Common.{◌≡◌, ℕ, zero, suc, ◌≤◌, Bool, true, false, cond, ◌⊎◌, inl, inr, List, [], ◌∷◌, ◌++◌, length, Option, Some, nat_eq, refl, sym, ◌∙◌, ap, subst, arith}
use Rattle.cf_tokens.specs.declared.token.Token.{Token}
use Rattle.cf_syntax.specs.declared.expression.Expr.{Expr}
use Rattle.cf_syntax.specs.declared.expression.Expr.TheVariants as tree
use Rattle.cf_syntax.specs.declared.operator.AssignOp.{AssignOp}
use Rattle.cf_syntax.specs.declared.operator.BinaryOp.{BinaryOp}
use Rattle.cf_syntax.specs.NamesData.{Names}
use Rattle.cf_syntax.specs.Words.{front, comma, colon, question}
use Rattle.cf_syntax.specs.Operators.{level, assigning, operator, heads}
use Rattle.cf_syntax.specs.Parse.{pure, then, option, repeat}
use Rattle.cf_syntax.specs.Language.{Language, Empty, Exactly, Word, Then, Either, Made, Maybe, Many, Rather, ended}
use Rattle.cf_syntax.specs.Grammar.{Inside, HoldsType, NextAssign, MoreAssigns, Unary, Cast, Joined, Choice, Condition, Assigned, Assign, Commas}
use Rattle.cf_syntax.specs.Reading.{Readers, holds_type, next_assign, unary, cast_only, cast, right_side, joined_from, choice, condition_from, condition, assigned, assign_from, assign, commas}
use Rattle.cf_syntax.proofs.Good.{among, disjoint, within, Meets, Good, Starts, Eats, good-wider, good-then, good-made, good-empty, apart-at, within-at, both-ways, cond-cases, starts-word}
use Rattle.cf_syntax.proofs.Tails.{Tail, tail-option, tail-made, good-where}
use Rattle.cf_syntax.proofs.Repeats.{tail-repeat, good-tail, tail-then, good-same}
use Rattle.cf_syntax.proofs.Keeps.{Keeps, codes_of, keeps-exactly, keeps-then, keeps-made, keeps-either, keeps-where, keeps-maybe, keeps-many, keeps-eats, eats-word, eats-then, starts-then, eats-made, starts-made, starts-operator, eats-operator}
use Rattle.cf_syntax.proofs.Under.{under-operator}
use Rattle.cf_syntax.proofs.Inner.{Inner, suffixes, operators, behind_binary, behind_condition, behind_assign, behind_commas}
use Rattle.cf_syntax.proofs.Operands.{good-after, good-behind, good-next_assign, eats-next_assign, tail-more_assigns, keeps-more_assigns, type-held, type-decides}
use Rattle.cf_syntax.proofs.Unaries.{CastOnly, good-unary, keeps-unary, good-cast_only, good-cast, keeps-cast}

-- ---- the sets of the levels

level-apart : (n : ℕ) → n ≤ 10 → disjoint (codes_of (level n)) (operators n ++ behind_binary n) ≡ true
level-apart zero h = refl
level-apart (suc zero) h = refl
level-apart (suc (suc zero)) h = refl
level-apart (suc (suc (suc zero))) h = refl
level-apart (suc (suc (suc (suc zero)))) h = refl
level-apart (suc (suc (suc (suc (suc zero))))) h = refl
level-apart (suc (suc (suc (suc (suc (suc zero)))))) h = refl
level-apart (suc (suc (suc (suc (suc (suc (suc zero))))))) h = refl
level-apart (suc (suc (suc (suc (suc (suc (suc (suc zero)))))))) h = refl
level-apart (suc (suc (suc (suc (suc (suc (suc (suc (suc zero))))))))) h = refl
level-apart (suc (suc (suc (suc (suc (suc (suc (suc (suc (suc zero)))))))))) h = refl
level-apart (suc (suc (suc (suc (suc (suc (suc (suc (suc (suc (suc n))))))))))) h = absurd (omega arith)

level-apart-right : (n : ℕ) → n ≤ 10 → disjoint (codes_of (level n)) (behind_binary n) ≡ true
level-apart-right zero h = refl
level-apart-right (suc zero) h = refl
level-apart-right (suc (suc zero)) h = refl
level-apart-right (suc (suc (suc zero))) h = refl
level-apart-right (suc (suc (suc (suc zero)))) h = refl
level-apart-right (suc (suc (suc (suc (suc zero))))) h = refl
level-apart-right (suc (suc (suc (suc (suc (suc zero)))))) h = refl
level-apart-right (suc (suc (suc (suc (suc (suc (suc zero))))))) h = refl
level-apart-right (suc (suc (suc (suc (suc (suc (suc (suc zero)))))))) h = refl
level-apart-right (suc (suc (suc (suc (suc (suc (suc (suc (suc zero))))))))) h = refl
level-apart-right (suc (suc (suc (suc (suc (suc (suc (suc (suc (suc zero)))))))))) h = refl
level-apart-right (suc (suc (suc (suc (suc (suc (suc (suc (suc (suc (suc n))))))))))) h = absurd (omega arith)

level-within : (n : ℕ) → n ≤ 10 → within ((operators n ++ behind_binary n) ++ (codes_of (level n) ++ behind_binary n)) (operators (suc n) ++ behind_binary (suc n)) ≡ true
level-within zero h = refl
level-within (suc zero) h = refl
level-within (suc (suc zero)) h = refl
level-within (suc (suc (suc zero))) h = refl
level-within (suc (suc (suc (suc zero)))) h = refl
level-within (suc (suc (suc (suc (suc zero))))) h = refl
level-within (suc (suc (suc (suc (suc (suc zero)))))) h = refl
level-within (suc (suc (suc (suc (suc (suc (suc zero))))))) h = refl
level-within (suc (suc (suc (suc (suc (suc (suc (suc zero)))))))) h = refl
level-within (suc (suc (suc (suc (suc (suc (suc (suc (suc zero))))))))) h = refl
level-within (suc (suc (suc (suc (suc (suc (suc (suc (suc (suc zero)))))))))) h = refl
level-within (suc (suc (suc (suc (suc (suc (suc (suc (suc (suc (suc n))))))))))) h = absurd (omega arith)

level-lower : (n : ℕ) → n ≤ 10 → within (operators n) (operators (suc n)) ≡ true
level-lower zero h = refl
level-lower (suc zero) h = refl
level-lower (suc (suc zero)) h = refl
level-lower (suc (suc (suc zero))) h = refl
level-lower (suc (suc (suc (suc zero)))) h = refl
level-lower (suc (suc (suc (suc (suc zero))))) h = refl
level-lower (suc (suc (suc (suc (suc (suc zero)))))) h = refl
level-lower (suc (suc (suc (suc (suc (suc (suc zero))))))) h = refl
level-lower (suc (suc (suc (suc (suc (suc (suc (suc zero)))))))) h = refl
level-lower (suc (suc (suc (suc (suc (suc (suc (suc (suc zero))))))))) h = refl
level-lower (suc (suc (suc (suc (suc (suc (suc (suc (suc (suc zero)))))))))) h = refl
level-lower (suc (suc (suc (suc (suc (suc (suc (suc (suc (suc (suc n))))))))))) h = absurd (omega arith)

level-own : (n : ℕ) → n ≤ 10 → within (codes_of (level n)) (operators (suc n)) ≡ true
level-own zero h = refl
level-own (suc zero) h = refl
level-own (suc (suc zero)) h = refl
level-own (suc (suc (suc zero))) h = refl
level-own (suc (suc (suc (suc zero)))) h = refl
level-own (suc (suc (suc (suc (suc zero))))) h = refl
level-own (suc (suc (suc (suc (suc (suc zero)))))) h = refl
level-own (suc (suc (suc (suc (suc (suc (suc zero))))))) h = refl
level-own (suc (suc (suc (suc (suc (suc (suc (suc zero)))))))) h = refl
level-own (suc (suc (suc (suc (suc (suc (suc (suc (suc zero))))))))) h = refl
level-own (suc (suc (suc (suc (suc (suc (suc (suc (suc (suc zero)))))))))) h = refl
level-own (suc (suc (suc (suc (suc (suc (suc (suc (suc (suc (suc n))))))))))) h = absurd (omega arith)

level-ends : (n : ℕ) → n ≤ 10 → among (codes_of (level n)) 255 ≡ false
level-ends zero h = refl
level-ends (suc zero) h = refl
level-ends (suc (suc zero)) h = refl
level-ends (suc (suc (suc zero))) h = refl
level-ends (suc (suc (suc (suc zero)))) h = refl
level-ends (suc (suc (suc (suc (suc zero))))) h = refl
level-ends (suc (suc (suc (suc (suc (suc zero)))))) h = refl
level-ends (suc (suc (suc (suc (suc (suc (suc zero))))))) h = refl
level-ends (suc (suc (suc (suc (suc (suc (suc (suc zero)))))))) h = refl
level-ends (suc (suc (suc (suc (suc (suc (suc (suc (suc zero))))))))) h = refl
level-ends (suc (suc (suc (suc (suc (suc (suc (suc (suc (suc zero)))))))))) h = refl
level-ends (suc (suc (suc (suc (suc (suc (suc (suc (suc (suc (suc n))))))))))) h = absurd (omega arith)

operand-apart : (n : ℕ) → n ≤ 11 → disjoint (operators n) suffixes ≡ true
operand-apart zero h = refl
operand-apart (suc zero) h = refl
operand-apart (suc (suc zero)) h = refl
operand-apart (suc (suc (suc zero))) h = refl
operand-apart (suc (suc (suc (suc zero)))) h = refl
operand-apart (suc (suc (suc (suc (suc zero))))) h = refl
operand-apart (suc (suc (suc (suc (suc (suc zero)))))) h = refl
operand-apart (suc (suc (suc (suc (suc (suc (suc zero))))))) h = refl
operand-apart (suc (suc (suc (suc (suc (suc (suc (suc zero)))))))) h = refl
operand-apart (suc (suc (suc (suc (suc (suc (suc (suc (suc zero))))))))) h = refl
operand-apart (suc (suc (suc (suc (suc (suc (suc (suc (suc (suc zero)))))))))) h = refl
operand-apart (suc (suc (suc (suc (suc (suc (suc (suc (suc (suc (suc zero))))))))))) h = refl
operand-apart (suc (suc (suc (suc (suc (suc (suc (suc (suc (suc (suc (suc n)))))))))))) h = absurd (omega arith)

operand-within : (n : ℕ) → n ≤ 11 → within (suffixes ++ (operators n ++ behind_binary n)) (behind_binary n) ≡ true
operand-within zero h = refl
operand-within (suc zero) h = refl
operand-within (suc (suc zero)) h = refl
operand-within (suc (suc (suc zero))) h = refl
operand-within (suc (suc (suc (suc zero)))) h = refl
operand-within (suc (suc (suc (suc (suc zero))))) h = refl
operand-within (suc (suc (suc (suc (suc (suc zero)))))) h = refl
operand-within (suc (suc (suc (suc (suc (suc (suc zero))))))) h = refl
operand-within (suc (suc (suc (suc (suc (suc (suc (suc zero)))))))) h = refl
operand-within (suc (suc (suc (suc (suc (suc (suc (suc (suc zero))))))))) h = refl
operand-within (suc (suc (suc (suc (suc (suc (suc (suc (suc (suc zero)))))))))) h = refl
operand-within (suc (suc (suc (suc (suc (suc (suc (suc (suc (suc (suc zero))))))))))) h = refl
operand-within (suc (suc (suc (suc (suc (suc (suc (suc (suc (suc (suc (suc n)))))))))))) h = absurd (omega arith)

module _ («in» : Inside) (r : Readers) (ok : Inner «in» r) where
  -- ---- binary

  abbrev RightSide : Names → ℕ → Language ((ℕ × BinaryOp) × Expr)
  RightSide names n = Then (Exactly (operator (level n))) (λ op. Made (λ y. (op, y)) (Joined «in» names n))

  abbrev Goes : Names → ℕ → Expr → Language Expr
  Goes names n a = Made {A = (ℕ × BinaryOp) × Expr} (λ s. tree.Binary s.0.0 s.0.1 a s.1) (RightSide names n)

  -- what follows the first operand
  abbrev JoinedFrom : Names → ℕ → Expr → Language Expr
  JoinedFrom names zero a = Empty a
  JoinedFrom names (suc n) a = Then (JoinedFrom names n a) (Many (Goes names n))

  from-first : (names : Names) (n : ℕ) (ts : List Token) (x : Expr) (rest : List Token) → Then (Cast «in» names) (JoinedFrom names n) ts x rest → Joined «in» names n ts x rest
  from-first names zero ts x rest (a, mid, l, e) = subst (λ v. Cast «in» names ts v rest) (sym e.0) (subst (λ us. Cast «in» names ts a us) (sym e.1) l)
  from-first names (suc n) ts x rest (a, mid, l, (b, mid2, j, m)) = (b, mid2, from-first names n ts b mid2 (a, mid, l, j), m)

  to-first : (names : Names) (n : ℕ) (ts : List Token) (x : Expr) (rest : List Token) → Joined «in» names n ts x rest → Then (Cast «in» names) (JoinedFrom names n) ts x rest
  to-first names zero ts x rest l = (x, rest, l, (refl, refl))
  to-first names (suc n) ts x rest (b, mid2, j, m) = let f = to-first names n ts b mid2 j in (f.0, f.1, f.2, (b, mid2, f.3, m))

  keeps-joined : (names : Names) (n : ℕ) → Keeps (Joined «in» names n)
  keeps-joined names zero = keeps-cast «in» r ok names
  keeps-joined names (suc n) = keeps-then _ _ (keeps-joined names n) (keeps-many _ (λ a. keeps-made _ (RightSide names n)
      (keeps-then (Exactly (operator (level n))) _ (keeps-exactly (operator (level n)) (λ ts. under-operator (level n) (length ts) ts (omega arith))) (λ op. keeps-made _ _ (keeps-joined names n)))))

  good-joined-of : (names : Names) (n : ℕ) → n ≤ 11 → Tail (λ a. a) (operators n) (behind_binary n) (joined_from r names n) (JoinedFrom names n)
      → Good (behind_binary n) (then (cast r names) (joined_from r names n)) (Joined «in» names n)
  good-joined-of names n h tail = good-same (behind_binary n) _ _ _ (from-first names n) (to-first names n)
      (good-wider (suffixes ++ (operators n ++ behind_binary n)) (behind_binary n) _ _ (operand-within n h)
      (good-tail (λ a. a) suffixes (operators n) (behind_binary n) (cast r names) (Cast «in» names) _ _ (good-cast «in» r ok names) tail (operand-apart n h)))

  tail-level : (names : Names) (n : ℕ) → n ≤ 10 → Good (behind_binary n) (then (cast r names) (joined_from r names n)) (Joined «in» names n)
      → Tail (λ a. a) (codes_of (level n)) (behind_binary n) (repeat (λ b. then (right_side r names n (joined_from r names n)) (λ s. pure (tree.Binary s.0.0 s.0.1 b s.1)))) (Many (Goes names n))
  tail-level names n h operand = tail-repeat (codes_of (level n)) (behind_binary n) _ _
      (λ b. good-made (behind_binary n) (λ s. tree.Binary s.0.0 s.0.1 b s.1) (right_side r names n (joined_from r names n)) (RightSide names n)
      (good-behind «in» r ok (behind_binary n) (operator (level n)) _ _ (λ op. good-made (behind_binary n) (λ y. (op, y)) _ (Joined «in» names n) operand)))
      (λ b. starts-made (codes_of (level n)) _ (RightSide names n) (starts-then (codes_of (level n)) _ _ (starts-operator (level n))))
      (λ b. eats-made _ (RightSide names n) (eats-then _ _ (eats-operator (level n) (level-ends n h)) (λ op. keeps-made _ _ (keeps-joined names n))))
      (level-apart-right n h)

  tail-joined : (names : Names) (n : ℕ) → n ≤ 11 → Tail (λ a. a) (operators n) (behind_binary n) (joined_from r names n) (JoinedFrom names n)
  tail-joined names zero h = record {
    good = λ a. good-wider [] suffixes (pure a) (Empty a) refl (good-empty a);
    total = λ a ts. ((a, ts), refl, omega arith);
    starts = λ a ts b rest e. inl e;
  }
  tail-joined names (suc n) h = with_lower (tail-joined names n (omega arith))
    where
      with_lower : Tail (λ a. a) (operators n) (behind_binary n) (joined_from r names n) (JoinedFrom names n)
          → Tail (λ a. a) (operators (suc n)) (behind_binary (suc n)) (joined_from r names (suc n)) (JoinedFrom names (suc n))
      with_lower lower = tail-then (λ a. a) (λ a. a) (operators n) (behind_binary n) (codes_of (level n)) (behind_binary n) (operators (suc n)) (behind_binary (suc n))
          (joined_from r names n) (JoinedFrom names n) _ _ lower (tail-level names n (omega arith) (good-joined-of names n (omega arith) lower))
          (level-apart n (omega arith)) (level-within n (omega arith)) (level-lower n (omega arith)) (level-own n (omega arith))

  -- ---- cond

  good-choice : (names : Names) → Good behind_condition (choice r names) (Choice «in» names)
  good-choice names = good-after «in» r ok behind_condition question _ _ (λ at.
      good-then behind_commas behind_condition (r.commas names) _ («in».commas names) _ (ok.commas names)
      (λ a. good-after «in» r ok behind_condition colon _ _ (λ _. good-made behind_condition (λ b. (at, a, b)) (r.condition names) («in».condition names) (ok.condition names)))
      (λ a ts b rest m. apart-at (colon ∷ []) behind_commas (front ts) refl (starts-word colon ts m.0 m.1 m.2)))

  eats-choice : (names : Names) → Eats (Choice «in» names)
  eats-choice names = eats-then (Word question) _ (eats-word question) (λ at. keeps-then _ _ (ok.keeps_commas names) (λ a. keeps-then _ _ (keeps-eats _ (eats-word colon)) (λ _. keeps-made _ _ (ok.keeps_condition names))))

  abbrev Chosen : Names → Expr → Language Expr
  Chosen names c = Made {A = ℕ × Expr × Expr} (λ s. tree.Conditional s.0 c s.1 s.2) (Choice «in» names)

  tail-choice : (names : Names) → Tail (λ a. a) (question ∷ []) behind_condition (option (λ c. then (choice r names) (λ s. pure (tree.Conditional s.0 c s.1 s.2)))) (Maybe (Chosen names))
  tail-choice names = tail-option (question ∷ []) behind_condition _ _
      (λ c. good-made behind_condition (λ s. tree.Conditional s.0 c s.1 s.2) (choice r names) (Choice «in» names) (good-choice names))
      (λ c. starts-made (question ∷ []) _ (Choice «in» names) (starts-then (question ∷ []) (Word question) _ (starts-word question)))
      (λ c. eats-made _ (Choice «in» names) (eats-choice names))

  abbrev ConditionFrom : Names → Expr → Language Expr
  ConditionFrom names a = Then (JoinedFrom names 11 a) (Maybe (Chosen names))

  abbrev condition_words : List ℕ
  condition_words = question ∷ operators 11

  tail-condition : (names : Names) → Tail (λ a. a) condition_words behind_condition (condition_from r names) (ConditionFrom names)
  tail-condition names = tail-then (λ a. a) (λ a. a) (operators 11) (behind_binary 11) (question ∷ []) behind_condition condition_words behind_condition
      (joined_from r names 11) (JoinedFrom names 11) _ _ (tail-joined names 11 (omega arith)) (tail-choice names) refl refl refl refl

  from-operand : (names : Names) (ts : List Token) (x : Expr) (rest : List Token) → Then (Cast «in» names) (ConditionFrom names) ts x rest → Condition «in» names ts x rest
  from-operand names ts x rest (a, mid, l, (b, mid2, j, m)) = (b, mid2, from-first names 11 ts b mid2 (a, mid, l, j), m)

  to-operand : (names : Names) (ts : List Token) (x : Expr) (rest : List Token) → Condition «in» names ts x rest → Then (Cast «in» names) (ConditionFrom names) ts x rest
  to-operand names ts x rest (b, mid2, j, m) = let f = to-first names 11 ts b mid2 j in (f.0, f.1, f.2, (b, mid2, f.3, m))

  pub good-condition : (names : Names) → Good behind_condition (condition r names) (Condition «in» names)
  good-condition names = good-same behind_condition _ _ _ (from-operand names) (to-operand names)
      (good-wider (suffixes ++ (condition_words ++ behind_condition)) behind_condition _ _ refl
      (good-tail (λ a. a) suffixes condition_words behind_condition (cast r names) (Cast «in» names) _ _ (good-cast «in» r ok names) (tail-condition names) refl))

  pub keeps-condition : (names : Names) → Keeps (Condition «in» names)
  keeps-condition names = keeps-then _ _ (keeps-joined names 11) (λ a. keeps-maybe (Chosen names) a (λ c. keeps-made _ _ (keeps-eats _ (eats-choice names))))

  -- ---- assign

  abbrev AssignedTo : Names → Expr → Language Expr
  AssignedTo names a = Made {A = (ℕ × AssignOp) × Expr} (λ s. tree.Assign s.0.0 s.0.1 a s.1) (Assigned «in» names)

  good-assigned : (names : Names) → Good behind_assign (assigned r names) (Assigned «in» names)
  good-assigned names = good-behind «in» r ok behind_assign (operator assigning) _ _ (λ op. good-made behind_assign (λ y. (op, y)) (r.assign names) («in».assign names) (ok.assign names))

  eats-assigned : (names : Names) → Eats (Assigned «in» names)
  eats-assigned names = eats-then _ _ (eats-operator assigning refl) (λ op. keeps-made _ _ (ok.keeps_assign names))

  starts-assigned : (names : Names) (a : Expr) → Starts (codes_of assigning) (AssignedTo names a)
  starts-assigned names a = starts-made (codes_of assigning) _ (Assigned «in» names) (starts-then (codes_of assigning) _ _ (starts-operator assigning))

  tail-assigned : (names : Names) → Tail (λ a. a) (codes_of assigning) behind_assign (option (λ b. then (assigned r names) (λ s. pure (tree.Assign s.0.0 s.0.1 b s.1)))) (Maybe (AssignedTo names))
  tail-assigned names = tail-option (codes_of assigning) behind_assign _ _
      (λ a. good-made behind_assign (λ s. tree.Assign s.0.0 s.0.1 a s.1) (assigned r names) (Assigned «in» names) (good-assigned names))
      (starts-assigned names) (λ a. eats-made _ (Assigned «in» names) (eats-assigned names))

  -- what follows a unary expression on the left
  abbrev AssignFrom : Names → Expr → Language Expr
  AssignFrom names a = Either (ConditionFrom names a) (AssignedTo names a)

  nothing-joined : (names : Names) (n : ℕ) (a : Expr) (ts : List Token) → JoinedFrom names n a ts a ts
  nothing-joined names zero a ts = (refl, refl)
  nothing-joined names (suc n) a ts = (a, ts, nothing-joined names n a ts, ended a ts)

  heads-among : {A : Type 0} (rows : List (ℕ × A)) (ts : List Token) → heads rows ts ≡ among (codes_of rows) (front ts)
  heads-among [] ts = refl
  heads-among (row ∷ rows) ts = ap (λ b. cond (nat_eq (front ts) row.0) true b) (heads-among rows ts)

  abbrev assign_words : List ℕ
  assign_words = codes_of assigning ++ condition_words

  tail-assign : (names : Names) → Tail (λ a. a) assign_words behind_assign (assign_from r names) (AssignFrom names)
  tail-assign names = record {
    good = λ a. record { sound = λ ts x rest e. sound a ts x rest e; meets = λ ts x rest l. meets a ts x rest l };
    total = λ a ts. total a ts (heads assigning ts) refl;
    starts = λ a ts b rest m. begins a ts b rest m;
  }
    where
      one : Tail (λ a. a) (codes_of assigning) behind_assign (option (λ b. then (assigned r names) (λ s. pure (tree.Assign s.0.0 s.0.1 b s.1)))) (Maybe (AssignedTo names))
      one = tail-assigned names

      two : Tail (λ a. a) condition_words behind_condition (condition_from r names) (ConditionFrom names)
      two = tail-condition names

      stays : (a : Expr) (ts : List Token) (x : Expr) (rest : List Token) → Maybe (AssignedTo names) a ts x rest → AssignFrom names a ts x rest
      stays a ts x rest (inl e) = inl (subst (λ v. ConditionFrom names a ts v rest) (sym e.0) (subst (λ us. ConditionFrom names a ts a us) (sym e.1) (a, ts, nothing-joined names 11 a ts, inl (refl, refl))))
      stays a ts x rest (inr m) = inr m

      sound : (a : Expr) (ts : List Token) (x : Expr) (rest : List Token) → assign_from r names a ts ≡ Some (x, rest) → AssignFrom names a ts x rest
      sound a ts x rest e = cond-cases (heads assigning ts) _ _ _ e (λ _ h. stays a ts x rest ((one.good a).sound ts x rest h)) (λ _ h. inl ((two.good a).sound ts x rest h))

      idle : (a : Expr) (ts : List Token) (x : Expr) (rest : List Token) → heads assigning ts ≡ true → ConditionFrom names a ts x rest → (x ≡ a) × (rest ≡ ts)
      idle a ts x rest h l = by_start (two.starts a ts x rest l)
        where
          by_start : ((x ≡ a) × (rest ≡ ts)) ⊎ (among condition_words (front ts) ≡ true) → (x ≡ a) × (rest ≡ ts)
          by_start (inl z) = z
          by_start (inr first) = both-ways (among condition_words (front ts)) first (apart-at (codes_of assigning) condition_words (front ts) refl (sym (heads-among assigning ts) ∙ h))

      raised : (q : Option (Expr × List Token)) (x : Expr) (rest : List Token) → Meets (condition_words ++ behind_condition) q x rest → Meets (assign_words ++ behind_assign) q x rest
      raised q x rest (inl e) = inl e
      raised q x rest (inr y) = inr (record { value = y.value; after = y.after; is = y.is; less = y.less; on = within-at (condition_words ++ behind_condition) (assign_words ++ behind_assign) (front rest) refl y.on })

      lifted : (q : Option (Expr × List Token)) (x : Expr) (rest : List Token) → Meets (codes_of assigning ++ behind_assign) q x rest → Meets (assign_words ++ behind_assign) q x rest
      lifted q x rest (inl e) = inl e
      lifted q x rest (inr y) = inr (record { value = y.value; after = y.after; is = y.is; less = y.less; on = within-at (codes_of assigning ++ behind_assign) (assign_words ++ behind_assign) (front rest) refl y.on })

      meets : (a : Expr) (ts : List Token) (x : Expr) (rest : List Token) → AssignFrom names a ts x rest → Meets (assign_words ++ behind_assign) (assign_from r names a ts) x rest
      meets a ts x rest l = by_head (heads assigning ts) refl l
        where
          by_head : (b : Bool) → heads assigning ts ≡ b → AssignFrom names a ts x rest → Meets (assign_words ++ behind_assign) (assign_from r names a ts) x rest
          by_head true h (inl c) = subst (λ b. Meets (assign_words ++ behind_assign) (cond b (option (λ y. then (assigned r names) (λ s. pure (tree.Assign s.0.0 s.0.1 y s.1))) a ts) (condition_from r names a ts)) x rest) (sym h)
              (lifted _ x rest ((one.good a).meets ts x rest (inl (idle a ts x rest h c))))
          by_head true h (inr m) = subst (λ b. Meets (assign_words ++ behind_assign) (cond b (option (λ y. then (assigned r names) (λ s. pure (tree.Assign s.0.0 s.0.1 y s.1))) a ts) (condition_from r names a ts)) x rest) (sym h)
              (lifted _ x rest ((one.good a).meets ts x rest (inr m)))
          by_head false h (inl c) = subst (λ b. Meets (assign_words ++ behind_assign) (cond b (option (λ y. then (assigned r names) (λ s. pure (tree.Assign s.0.0 s.0.1 y s.1))) a ts) (condition_from r names a ts)) x rest) (sym h)
              (raised _ x rest ((two.good a).meets ts x rest c))
          by_head false h (inr m) = both-ways (heads assigning ts) (heads-among assigning ts ∙ starts-assigned names a ts x rest m) h

      total : (a : Expr) (ts : List Token) (b : Bool) → heads assigning ts ≡ b → (z : Expr × List Token) × (assign_from r names a ts ≡ Some z) × (length z.1 ≤ length ts)
      total a ts true h = let t = one.total a ts in (t.0, ap (λ b. cond b (option (λ b. then (assigned r names) (λ s. pure (tree.Assign s.0.0 s.0.1 b s.1))) a ts) (condition_from r names a ts)) h ∙ t.1, t.2)
      total a ts false h = let t = two.total a ts in (t.0, ap (λ b. cond b (option (λ b. then (assigned r names) (λ s. pure (tree.Assign s.0.0 s.0.1 b s.1))) a ts) (condition_from r names a ts)) h ∙ t.1, t.2)

      begins : (a : Expr) (ts : List Token) (b : Expr) (rest : List Token) → AssignFrom names a ts b rest → ((b ≡ a) × (rest ≡ ts)) ⊎ (among assign_words (front ts) ≡ true)
      begins a ts b rest (inl c) = by_start (two.starts a ts b rest c)
        where
          by_start : ((b ≡ a) × (rest ≡ ts)) ⊎ (among condition_words (front ts) ≡ true) → ((b ≡ a) × (rest ≡ ts)) ⊎ (among assign_words (front ts) ≡ true)
          by_start (inl z) = inl z
          by_start (inr first) = inr (within-at condition_words assign_words (front ts) refl first)
      begins a ts b rest (inr m) = inr (within-at (codes_of assigning) assign_words (front ts) refl (starts-assigned names a ts b rest m))

  abbrev AssignByHead : Names → Language Expr
  AssignByHead names = Rather (HoldsType «in» names) (Then (CastOnly «in» r ok names) (ConditionFrom names)) (Then (Unary «in» names) (AssignFrom names))

  from-head : (names : Names) (ts : List Token) (x : Expr) (rest : List Token) → AssignByHead names ts x rest → Assign «in» names ts x rest
  from-head names ts x rest (inl (h, (a, mid, l, c))) = inl (from-operand names ts x rest (a, mid, inl (h, l), c))
  from-head names ts x rest (inr (h, (a, mid, l, inl c))) = inl (from-operand names ts x rest (a, mid, inr (h, l), c))
  from-head names ts x rest (inr (h, (a, mid, l, inr m))) = inr (h, (a, mid, l, m))

  by-cast : (names : Names) (ts : List Token) (x : Expr) (rest : List Token) (a : Expr) (mid : List Token) → Cast «in» names ts a mid → ConditionFrom names a mid x rest → AssignByHead names ts x rest
  by-cast names ts x rest a mid (inl (h, l)) c = inl (h, (a, mid, l, c))
  by-cast names ts x rest a mid (inr (h, l)) c = inr (h, (a, mid, l, inl c))

  to-head : (names : Names) (ts : List Token) (x : Expr) (rest : List Token) → Assign «in» names ts x rest → AssignByHead names ts x rest
  to-head names ts x rest (inl c) = let f = to-operand names ts x rest c in by-cast names ts x rest f.0 f.1 f.2 f.3
  to-head names ts x rest (inr (h, (a, mid, l, m))) = inr (h, (a, mid, l, inr m))

  pub good-assign : (names : Names) → Good behind_assign (assign r names) (Assign «in» names)
  good-assign names = good-same behind_assign _ _ _ (from-head names) (to-head names)
      (good-where behind_assign (HoldsType «in» names) (holds_type r names) _ _ _ _
      (good-wider (suffixes ++ (condition_words ++ behind_condition)) behind_assign _ _ refl
      (good-tail (λ a. a) suffixes condition_words behind_condition (cast_only r names) (CastOnly «in» r ok names) _ _ (good-cast_only «in» r ok names) (tail-condition names) refl))
      (good-wider (suffixes ++ (assign_words ++ behind_assign)) behind_assign _ _ refl
      (good-tail (λ a. a) suffixes assign_words behind_assign (unary r names) (Unary «in» names) _ _ (good-unary «in» r ok names) (tail-assign names) refl))
      (type-held «in» r ok names) (type-decides «in» r ok names))

  pub keeps-assign : (names : Names) → Keeps (Assign «in» names)
  keeps-assign names = keeps-either _ _ (keeps-condition names) (keeps-where _ _ (keeps-then _ _ (keeps-unary «in» r ok names) (λ a. keeps-made _ _ (keeps-eats _ (eats-assigned names)))))

  -- ---- comma

  abbrev CommasFrom : Names → Expr → Language Expr
  CommasFrom names x = Then (NextAssign «in» names) (λ next. Made (tree.Comma next.0) (MoreAssigns «in» names (x ∷ next.1 ∷ [])))

  eats-commas : (names : Names) (x : Expr) → Eats (CommasFrom names x)
  eats-commas names x = eats-then _ _ (eats-next_assign «in» r ok names) (λ next. keeps-made _ _ (keeps-more_assigns «in» r ok names (x ∷ next.1 ∷ [])))

  pub good-commas : (names : Names) → Good behind_commas (commas r names) (Commas «in» names)
  good-commas names = good-wider (behind_assign ++ (comma ∷ [] ++ (behind_assign ++ (comma ∷ [] ++ behind_assign)))) behind_commas _ _ refl
      (good-tail (λ a. a) behind_assign (comma ∷ []) (behind_assign ++ (comma ∷ [] ++ behind_assign)) (assign r names) (Assign «in» names) _ _ (good-assign names)
      (tail-option (comma ∷ []) (behind_assign ++ (comma ∷ [] ++ behind_assign)) _ _
      (λ x. good-tail _ behind_assign (comma ∷ []) behind_assign (next_assign r names) (NextAssign «in» names) _ _ (good-next_assign «in» r ok names)
      (tail-made (λ a. a) (comma ∷ []) behind_assign (λ next. x ∷ next.1 ∷ []) (λ next all. tree.Comma next.0 all) _ _ (tail-more_assigns «in» r ok names)) refl)
      (λ x. starts-then (comma ∷ []) _ _ (starts-then (comma ∷ []) (Word comma) _ (starts-word comma)))
      (eats-commas names))
      refl)

  pub keeps-commas : (names : Names) → Keeps (Commas «in» names)
  keeps-commas names = keeps-then _ _ (keeps-assign names) (λ a. keeps-maybe (CommasFrom names) a (λ x. keeps-eats _ (eats-commas names x)))
