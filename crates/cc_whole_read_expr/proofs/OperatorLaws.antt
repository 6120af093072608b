-- Reading operands with operators between them decides each level of expressions, where reading an operand decides operands.
use Rattle.std.proofs.Common.{◌≡◌, ℕ, zero, suc, ◌+◌, ◌<◌, ◌≤◌, Bool, true, false, List, [], ◌∷◌, ◌++◌, length, Option, Some, None, Ok, refl, ap, sym, ◌∙◌, subst, arith, append-nil, append_assoc}
use Rattle.std.specs.Prelude.{if◌then◌else◌, ◌==◌}
use Rattle.std.proofs.lemmas.Bool.{eqb-true}
use Rattle.std.proofs.lemmas.Bool.Decides.{nat_tests}
use Rattle.cf_base.specs.declared.arith.Arith.{Arith}
use Rattle.cc_whole_tokens.specs.declared.token.Token.{Token}
use Rattle.cc_whole.specs.declared.expression.CExpression.{CExpression}
use Rattle.cc_whole.specs.declared.expression.CExpression.TheVariants as tree
use Rattle.cc_whole.specs.Operators.{joins}
use Rattle.cc_whole.specs.Spells.{SpellsExpression}
use Rattle.cc_whole.specs.Spells as g
use Rattle.cc_whole_reading.specs.Parse.{Parse, and_then, ◌>>=◌, behind}
use Rattle.cc_whole_reading.proofs.Decides.{SameFront, Spelling, Follow, any, SameReading, Took, Answer, Decides, decides_as, decides_follow, decides_less}
use Rattle.cc_whole_reading.proofs.Shapes.{Seq, seq, decides_then}
use Rattle.cc_whole_reading.proofs.Choices.{answer_front}
use Rattle.cc_whole_read_expr.specs.ReadExpr.{above, operator_above, if_some, more_operands, binary}

-- ---- what may follow

-- no operator below a level comes next
abbrev pub stops : ℕ → Follow
stops level ts = (j : ℕ) → j < level → operator_above j ts ≡ None

-- no operator comes next
abbrev pub ends : Follow
ends ts = (j : ℕ) → operator_above j ts ≡ None

operator_there : (level : ℕ) (t : Token) (op : Arith) (ts : List Token) → joins t ≡ Some (suc level, op) → operator_above level (t ∷ ts) ≡ Some op
operator_there level t op ts e =
    let same : (suc level == level + 1) ≡ true = grind (arith, nat_tests) in
    ap (above level) e ∙ ap (λ c. if c then Some op else None) same

operator_looser : (level j : ℕ) (t : Token) (op : Arith) (ts : List Token) → joins t ≡ Some (suc level, op) → j < level → operator_above j (t ∷ ts) ≡ None
operator_looser level j t op ts e lower =
    let differ : (suc level == j + 1) ≡ false = grind (arith, nat_tests) in
    ap (above j) e ∙ ap (λ c. if c then Some op else None) differ

operator_same : (level : ℕ) (xs ys : List Token) → SameFront xs ys → operator_above level xs ≡ operator_above level ys
operator_same level [] [] same = refl
operator_same level [] (y ∷ ys) same = absurd same
operator_same level (x ∷ xs) [] same = absurd same
operator_same level (x ∷ xs) (y ∷ ys) same = ap (λ t. above level (joins t)) same

record Operator (level : ℕ) (op : Arith) (ts : List Token) : Type 0 where
  token : Token
  is : ts ≡ token ∷ behind ts
  joins_there : joins token ≡ Some (suc level, op)

above_is : (level : ℕ) (o : Option (ℕ × Arith)) (op : Arith) → above level o ≡ Some op → o ≡ Some (suc level, op)
above_is level None op e = absurd (cc)
above_is level (Some p) op e = go (p.0 == level + 1) refl e
  where
    go : (c : Bool) → (p.0 == level + 1) ≡ c → (if c then Some p.1 else None) ≡ Some op → Some p ≡ Some (suc level, op)
    go true is f =
        let at : p.0 ≡ suc level = eqb-true p.0 (level + 1) is ∙ omega arith in
        let same : p.1 ≡ op = cc in
        ap (λ k. Some (k, p.1)) at ∙ ap (λ o. Some (suc level, o)) same
    go false is f = absurd (cc)

operator_is : (level : ℕ) (op : Arith) (ts : List Token) → operator_above level ts ≡ Some op → Operator level op ts
operator_is level op [] e = absurd (cc)
operator_is level op (t ∷ ts) e = record { token = t; is = refl; joins_there = above_is level (joins t) op e }

-- ---- operands behind a tree

pub data Chain (level : ℕ) : CExpression → CExpression → List Token → Type 0 where
  ended : (a : CExpression) → Chain level a a []
  joined : (a : CExpression) (t : Token) (o : Arith) (b : CExpression) (xs : List Token) (c : CExpression) (zs : List Token) → joins t ≡ Some (suc level, o)
      → SpellsExpression level b xs → Chain level (tree.Binary o a b) c zs → Chain level a c (t ∷ (xs ++ zs))

one_later : (level : ℕ) {a b : CExpression} {xs : List Token} → Chain level a b xs → (t : Token) (o : Arith) (c : CExpression) (ys : List Token) → joins t ≡ Some (suc level, o)
    → SpellsExpression level c ys → Chain level a (tree.Binary o b c) (xs ++ (t ∷ ys))
one_later level (ended a) t o c ys j d = subst (Chain level a (tree.Binary o a c)) (ap (λ l. t ∷ l) (append-nil ys)) (joined a t o c ys (tree.Binary o a c) [] j d (ended (tree.Binary o a c)))
one_later level (joined a s p b xs e zs i f chain) t o c ys j d =
    subst (Chain level a (tree.Binary o e c)) (ap (λ l. s ∷ l) (sym (append_assoc xs zs (t ∷ ys))))
    (joined a s p b xs (tree.Binary o e c) (zs ++ (t ∷ ys)) i f (one_later level chain t o c ys j d))

chain_on : (level : ℕ) {a b : CExpression} {zs : List Token} → Chain level a b zs → (xs : List Token) → SpellsExpression (suc level) a xs → SpellsExpression (suc level) b (xs ++ zs)
chain_on level (ended a) xs d = subst (SpellsExpression (suc level) a) (sym (append-nil xs)) d
chain_on level (joined a t o b ys c zs j f chain) xs d =
    subst (SpellsExpression (suc level) c) (append_assoc xs (t ∷ ys) zs) (chain_on level chain (xs ++ (t ∷ ys)) (g.SpellsExpression.joined level t o a b xs ys j d f))

abbrev LevelShape : ℕ → Spelling CExpression
LevelShape level = Seq (SpellsExpression level) (Chain level)

later_in : (level : ℕ) (a : CExpression) (xs : List Token) → LevelShape level a xs → (t : Token) (o : Arith) (b : CExpression) (ys : List Token) → joins t ≡ Some (suc level, o)
    → SpellsExpression level b ys → LevelShape level (tree.Binary o a b) (xs ++ (t ∷ ys))
later_in level _ _ (seq a0 xs a zs d chain) t o b ys j f =
    subst (LevelShape level (tree.Binary o a b)) (sym (append_assoc xs zs (t ∷ ys))) (seq a0 xs (tree.Binary o a b) (zs ++ (t ∷ ys)) d (one_later level chain t o b ys j f))

level_shape : (level : ℕ) (x : CExpression) (xs : List Token) → SpellsExpression (suc level) x xs → LevelShape level x xs
level_shape level _ _ (g.SpellsExpression.tighter _ e xs d) = subst (LevelShape level e) (append-nil xs) (seq e xs e [] d (ended e))
level_shape level _ _ (g.SpellsExpression.joined _ t o a b xs ys j d f) = later_in level a xs (level_shape level a xs d) t o b ys j f

of_level : (level : ℕ) (x : CExpression) (xs : List Token) → LevelShape level x xs → SpellsExpression (suc level) x xs
of_level level _ _ (seq a xs b zs d chain) = chain_on level chain xs (g.SpellsExpression.tighter level a xs d)

chain_stops : (level : ℕ) {a b : CExpression} {ys : List Token} → Chain level a b ys → (rest : List Token) → stops (suc level) rest → stops level (ys ++ rest)
chain_stops level (ended a) rest f = λ j lower. f j (omega (arith, lower))
chain_stops level (joined a t o b xs c zs j d chain) rest f = λ i lower. operator_looser level i t o ((xs ++ zs) ++ rest) j lower

-- behind an operator
abbrev Operand : ℕ → CExpression → Arith → Spelling CExpression
Operand level a op = Seq (SpellsExpression level) (λ b. Chain level (tree.Binary op a b))

put_operator : (level : ℕ) (a : CExpression) (t : Token) (op : Arith) → joins t ≡ Some (suc level, op) → (c : CExpression) (ys : List Token) → Operand level a op c ys → Chain level a c (t ∷ ys)
put_operator level a t op j _ _ (seq b xs c zs d chain) = joined a t op b xs c zs j d chain

abbrev operator_in : Option (ℕ × Arith) → Arith → Arith
operator_in None o = o
operator_in (Some p) o = p.1

same_operator : (level : ℕ) (t s : Token) (op o : Arith) → joins t ≡ Some (suc level, op) → joins s ≡ Some (suc level, o) → s ≡ t → o ≡ op
same_operator level t s op o j i e =
    let same : Some (suc level, o) ≡ Some (suc level, op) = sym i ∙ ap joins e ∙ j in
    ap (λ q. operator_in q op) same

take_operator : (level : ℕ) (a : CExpression) (t : Token) (op : Arith) → joins t ≡ Some (suc level, op) → (c : CExpression) (xs rest us : List Token) → Chain level a c xs
    → stops (suc level) rest → xs ++ rest ≡ t ∷ us → (ys : List Token) × Operand level a op c ys × (ys ++ rest ≡ us)
take_operator level a t op j _ _ rest us (ended _) f e =
    let here : operator_above level rest ≡ Some op = ap (operator_above level) e ∙ operator_there level t op us j in
    let none : operator_above level rest ≡ None = f level (omega arith) in
    absurd (cc)
take_operator level a t op j _ _ rest us (joined _ s o b xs c zs i d chain) f e =
    let head : s ≡ t = cc in
    let left : (xs ++ zs) ++ rest ≡ us = cc in
    let same = same_operator level t s op o j i head in
    (xs ++ zs, seq b xs c zs d (subst (λ q. Chain level (tree.Binary q a b) c zs) same chain), left)

only_ended : (level : ℕ) (a c : CExpression) (xs rest us : List Token) → Chain level a c xs → xs ++ rest ≡ us → operator_above level us ≡ None → SameReading a us c rest
only_ended level a _ _ rest us (ended _) e halts = record { tree = refl; left = e }
only_ended level a _ _ rest us (joined _ t o b xs c zs j d chain) e halts =
    let there : operator_above level us ≡ Some o = ap (operator_above level) (sym e) ∙ operator_there level t o ((xs ++ zs) ++ rest) j in
    absurd (cc)

stay : (level : ℕ) (a : CExpression) (ts : List Token) → operator_above level ts ≡ None → Took (Chain level a) (stops (suc level)) ts a ts
stay level a ts halts = record {
  front = [];
  spells = ended a;
  parts = refl;
  only = λ c xs rest us s f e same. only_ended level a c xs rest us s e (sym (operator_same level ts us same) ∙ halts);
}

nothing_above : (level : ℕ) (ts : List Token) → length ts ≤ 0 → operator_above level ts ≡ None
nothing_above level [] small = refl
nothing_above level (t ∷ ts) small = absurd (omega (arith, small))

behind_shorter : (k : ℕ) (t : Token) (ts : List Token) → ts ≡ t ∷ behind ts → length ts ≤ suc k → length (behind ts) ≤ k
behind_shorter k t ts is small =
    let lengths : length ts ≡ suc (length (behind ts)) = ap length is in
    omega (arith, lengths, small)

module _ (level n : ℕ) (p : Parse CExpression) (d : Decides (SpellsExpression level) (stops level) n p) where
  pub decides_operands : (k : ℕ) → k ≤ n → (a : CExpression) → Decides (Chain level a) (stops (suc level)) k (more_operands p level k a)
  unfolding more_operands
  decides_operands zero less a ts small = stay level a ts (nothing_above level ts small)
  decides_operands (suc k) less a ts small = go (decides_operands k (omega (arith, less))) (operator_above level ts) refl
    where
      next : ((b : CExpression) → Decides (Chain level b) (stops (suc level)) k (more_operands p level k b)) → (op : Arith) → Decides (Operand level a op) (stops (suc level)) k (p >>= (λ b. more_operands p level k (tree.Binary op a b)))
      next again op =
          decides_then (SpellsExpression level) (stops level) (λ b. Chain level (tree.Binary op a b)) (stops (suc level)) (λ b c ys rest u f. chain_stops level u rest f) k p
          (λ b. more_operands p level k (tree.Binary op a b)) (decides_less (SpellsExpression level) (stops level) n k p (omega (arith, less)) d)
          (λ b xs s. again (tree.Binary op a b))

      go : ((b : CExpression) → Decides (Chain level b) (stops (suc level)) k (more_operands p level k b)) → (o : Option Arith) → operator_above level ts ≡ o
          → Answer (Chain level a) (stops (suc level)) ts (if_some o (λ op. and_then (p (behind ts)) (λ b. more_operands p level k (tree.Binary op a b))) (Ok (a, ts)))
      go again None is = stay level a ts is
      go again (Some op) is =
          let o = operator_is level op ts is in
          let r = and_then (p (behind ts)) (λ b. more_operands p level k (tree.Binary op a b)) in
          subst (λ l. Answer (Chain level a) (stops (suc level)) l r) (sym o.is)
          (answer_front o.token (Operand level a op) (Chain level a) (stops (suc level)) (put_operator level a o.token op o.joins_there)
          (take_operator level a o.token op o.joins_there) (behind ts) r (next again op (behind ts) (behind_shorter k o.token ts o.is small)))

pub decides_binary : (n : ℕ) (un : Parse CExpression) → Decides (SpellsExpression 0) any n un → (level : ℕ) → Decides (SpellsExpression level) (stops level) n (binary un level)
unfolding binary
decides_binary n un d zero ts small = decides_follow (SpellsExpression 0) any (stops 0) n un (λ us f. tt) d ts small
decides_binary n un d (suc level) ts small =
    let tighter = decides_binary n un d level in
    decides_as (LevelShape level) (SpellsExpression (suc level)) (stops (suc level)) n (binary un (suc level)) (level_shape level) (of_level level)
    (decides_then (SpellsExpression level) (stops level) (Chain level) (stops (suc level)) (λ a b ys rest u f. chain_stops level u rest f) n (binary un level)
    (λ a us. more_operands (binary un level) level (length us) a us) tighter
    (λ a xs s us short. decides_operands level n (binary un level) tighter (length us) short a us (omega arith))) ts small
