-- A text is cut in one way.
use Rattle.std.proofs.Common.{◌≡◌, ℕ, ◌+◌, List, length, Result, Ok, Err, refl, arith, ◌∙◌, sym, ap, subst}
use Rattle.cf_base.specs.declared.rule.Broken.{Broken}
use Rattle.cf_tokens.specs.Laws.{HasOneAnswer}
use Rattle.cf_tokens.specs.Lex.{Cut, at_end, at_gap, at_token, at_flaw, joined, put_before, token_at, too_long, broken, too_many, listed}
use Rattle.cf_tokens.specs.declared.fault.LexFault.TheVariants as fault
use Rattle.cf_tokens.specs.declared.piece.Piece.{Piece}
use Rattle.cf_tokens.specs.declared.piece.Piece.TheVariants.{Gap, Whole, Flaw}
use Rattle.cf_tokens.specs.declared.token.Token.{Token}
use Rattle.cf_tokens.specs.declared.token.Word.{Word}

same_gap : (p : Piece) (n m : ℕ) → p ≡ Gap n → p ≡ Gap m → n ≡ m
same_gap p n m e f = let same : Gap n ≡ Gap m = sym e ∙ f in cc

pub same_length : (p : Piece) (v w : Word) (n m : ℕ) → p ≡ Whole v n → p ≡ Whole w m → n ≡ m
same_length p v w n m e f = let same : Whole v n ≡ Whole w m = sym e ∙ f in cc

same_word : (p : Piece) (v w : Word) (n m : ℕ) → p ≡ Whole v n → p ≡ Whole w m → v ≡ w
same_word p v w n m e f = let same : Whole v n ≡ Whole w m = sym e ∙ f in cc

same_rule : (p : Piece) (n m : ℕ) → p ≡ Flaw n → p ≡ Flaw m → n ≡ m
same_rule p n m e f = let same : Flaw n ≡ Flaw m = sym e ∙ f in cc

gap_no_word : (p : Piece) (n m : ℕ) (w : Word) → p ≡ Gap n → p ≡ Whole w m → ⊥
gap_no_word p n m w e f = let same : Gap n ≡ Whole w m = sym e ∙ f in cc

gap_no_flaw : (p : Piece) (n m : ℕ) → p ≡ Gap n → p ≡ Flaw m → ⊥
gap_no_flaw p n m e f = let same : Gap n ≡ Flaw m = sym e ∙ f in cc

word_no_flaw : (p : Piece) (w : Word) (n m : ℕ) → p ≡ Whole w n → p ≡ Flaw m → ⊥
word_no_flaw p w n m e f = let same : Whole w n ≡ Flaw m = sym e ∙ f in cc

same_token : (at n m : ℕ) (v w : Word) (r s : Result (List Token) Broken) → v ≡ w → n ≡ m → r ≡ s
    → put_before (token_at v at n) r ≡ put_before (token_at w at m) s
same_token at n m v w r s e f h =
    ap (λ u. put_before (token_at u at n) r) e ∙ (ap (λ k. put_before (token_at w at k) r) f ∙ ap (put_before (token_at w at m)) h)

pub one_cut : (text : List ℕ) (at : ℕ) (r s : Result (List Token) Broken) → Cut text at r → Cut text at s → r ≡ s
one_cut text at r s (at_end _ e) (at_end _ e2) = refl
one_cut text at r s (at_end _ e) (at_gap _ n _ inside p c) = absurd (omega arith)
one_cut text at r s (at_end _ e) (at_token _ n w rest inside p c) = absurd (omega arith)
one_cut text at r s (at_end _ e) (at_flaw _ k inside p) = absurd (omega arith)
one_cut text at r s (at_gap _ n _ inside p c) (at_end _ e) = absurd (omega arith)
one_cut text at r s (at_gap _ n _ inside p c) (at_gap _ m _ inside2 q d) =
    one_cut text (at + n) r s c (subst (λ k. Cut text (at + k) s) (sym (same_gap _ n m p q)) d)
one_cut text at r s (at_gap _ n _ inside p c) (at_token _ m w rest inside2 q d) = absurd (gap_no_word _ n m w p q)
one_cut text at r s (at_gap _ n _ inside p c) (at_flaw _ k inside2 q) = absurd (gap_no_flaw _ n k p q)
one_cut text at r s (at_token _ n w rest inside p c) (at_end _ e) = absurd (omega arith)
one_cut text at r s (at_token _ n w rest inside p c) (at_gap _ m _ inside2 q d) = absurd (gap_no_word _ m n w q p)
one_cut text at r s (at_token _ n w rest inside p c) (at_token _ m v rest2 inside2 q d) =
    same_token at n m w v rest rest2 (same_word _ w v n m p q) (same_length _ w v n m p q)
    (one_cut text (at + n) rest rest2 c (subst (λ k. Cut text (at + k) rest2) (sym (same_length _ w v n m p q)) d))
one_cut text at r s (at_token _ n w rest inside p c) (at_flaw _ k inside2 q) = absurd (word_no_flaw _ w n k p q)
one_cut text at r s (at_flaw _ k inside p) (at_end _ e) = absurd (omega arith)
one_cut text at r s (at_flaw _ k inside p) (at_gap _ m _ inside2 q d) = absurd (gap_no_flaw _ m k q p)
one_cut text at r s (at_flaw _ k inside p) (at_token _ m v rest2 inside2 q d) = absurd (word_no_flaw _ v m k q p)
one_cut text at r s (at_flaw _ k inside p) (at_flaw _ j inside2 q) =
    ap (λ rule. Err (record { rule = rule; at = at })) (same_rule _ k j p q)

abbrev Cutting : Type 0
Cutting = Result (List Token) Broken

same_tokens : (xs ys : List Token) → ◌≡◌ {A = Cutting} (Ok xs) (Ok ys) → xs ≡ ys
same_tokens xs ys e = cc

same_first : (x y : Broken) → ◌≡◌ {A = Cutting} (Err x) (Err y) → x ≡ y
same_first x y e = cc

tokens_no_fault : (xs : List Token) (y : Broken) → ◌≡◌ {A = Cutting} (Ok xs) (Err y) → ⊥
tokens_no_fault xs y e = cc

one_list : (text : List ℕ) (xs ys : List Token) → Cut text 0 (Ok xs) → Cut text 0 (Ok ys) → xs ≡ ys
one_list text xs ys c d = same_tokens xs ys (one_cut text 0 (Ok xs) (Ok ys) c d)

pub one_answer_each : HasOneAnswer
one_answer_each text a b (too_long l) (too_long m) = refl
one_answer_each text a b (too_long l) (broken first s c) = absurd (omega arith)
one_answer_each text a b (too_long l) (too_many xs s c m) = absurd (omega arith)
one_answer_each text a b (too_long l) (listed xs s c m) = absurd (omega arith)
one_answer_each text a b (broken first s c) (too_long l) = absurd (omega arith)
one_answer_each text a b (broken first s c) (broken first2 s2 d) =
    ap (λ first. Err (fault.Broken first)) (same_first first first2 (one_cut text 0 (Err first) (Err first2) c d))
one_answer_each text a b (broken first s c) (too_many xs s2 d m) = absurd (tokens_no_fault xs first (one_cut text 0 (Ok xs) (Err first) d c))
one_answer_each text a b (broken first s c) (listed xs s2 d m) = absurd (tokens_no_fault xs first (one_cut text 0 (Ok xs) (Err first) d c))
one_answer_each text a b (too_many xs s c m) (too_long l) = absurd (omega arith)
one_answer_each text a b (too_many xs s c m) (broken first s2 d) = absurd (tokens_no_fault xs first (one_cut text 0 (Ok xs) (Err first) c d))
one_answer_each text a b (too_many xs s c m) (too_many ys s2 d m2) = refl
one_answer_each text a b (too_many xs s c m) (listed ys s2 d m2) =
    let same : length (joined xs) ≡ length (joined ys) = ap (λ zs. length (joined zs)) (one_list text xs ys c d) in
    absurd (omega arith)
one_answer_each text a b (listed xs s c m) (too_long l) = absurd (omega arith)
one_answer_each text a b (listed xs s c m) (broken first s2 d) = absurd (tokens_no_fault xs first (one_cut text 0 (Ok xs) (Err first) c d))
one_answer_each text a b (listed xs s c m) (too_many ys s2 d m2) =
    let same : length (joined xs) ≡ length (joined ys) = ap (λ zs. length (joined zs)) (one_list text xs ys c d) in
    absurd (omega arith)
one_answer_each text a b (listed xs s c m) (listed ys s2 d m2) = ap (λ zs. Ok (joined zs)) (one_list text xs ys c d)
