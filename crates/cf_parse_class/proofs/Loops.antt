-- Words before a base, read one after another.
use Rattle.std.proofs.Common.{◌≡◌, ℕ, zero, suc, ◌<◌, List, [], ◌∷◌, ◌++◌, length, drop, Option, Some, None, refl, sym, ◌∙◌, ap, arith}
use Rattle.cf_tokens.specs.declared.token.Token.{Token}
use Rattle.cf_syntax.specs.Words.{front, place}
use Rattle.cf_unit.specs.declared.class.BaseWord.{BaseWord}
use Rattle.cf_unit.specs.Read.{kept, taking, turn, row}
use Rattle.cf_syntax.specs.Grammar.{taken}
use Rattle.cf_unit.specs.Members.{placed, base_word_of, next_base_word}
use Rattle.cf_unit.proofs.Exact.{less-test}

abbrev step : List (ℕ × BaseWord) → List Token → Option (List (ℕ × BaseWord) × List Token)
step b us = taking (next_base_word b us) us

step_there : (all : List (ℕ × BaseWord)) (ts : List Token) (w : BaseWord) → base_word_of (front ts) ≡ Some w → 0 < length ts
    → step all ts ≡ Some (all ++ (place ts, w) ∷ [], drop 1 ts)
step_there all [] w e some = absurd (omega (arith, some))
step_there all (t ∷ ts) w e some = ap (λ o. with_word o) e ∙ ap (λ b. kept b (all ++ (place (t ∷ ts), w) ∷ [], ts)) (less-test (length ts) (length (t ∷ ts)) (omega arith))
  where
    more : Option (ℕ × BaseWord) → Option (List (ℕ × BaseWord))
    more None = None
    more (Some v) = Some (all ++ v ∷ [])

    with_word : Option BaseWord → Option (List (ℕ × BaseWord) × List Token)
    with_word o = taking (taken (more (placed (place (t ∷ ts)) o)) ts) (t ∷ ts)

pub step_more : (m n : ℕ) (all : List (ℕ × BaseWord)) (ts : List Token) (w : BaseWord) → base_word_of (front ts) ≡ Some w → length ts ≡ n → n ≡ suc m
    → row step m (all ++ (place ts, w) ∷ []) (drop 1 ts) ≡ row step n all ts
step_more m n all ts w e l next = sym (ap (λ k. row step k all ts) next ∙ ap (λ r. turn r all ts (row step m)) (step_there all ts w e (omega (arith, l, next))))

step_gone : (all : List (ℕ × BaseWord)) (ts : List Token) → base_word_of (front ts) ≡ None → step all ts ≡ None
step_gone all [] e = refl
step_gone all (t ∷ ts) e = ap (λ o. with_word o) e
  where
    more : Option (ℕ × BaseWord) → Option (List (ℕ × BaseWord))
    more None = None
    more (Some v) = Some (all ++ v ∷ [])

    with_word : Option BaseWord → Option (List (ℕ × BaseWord) × List Token)
    with_word o = taking (taken (more (placed (place (t ∷ ts)) o)) ts) (t ∷ ts)

pub step_none : (n : ℕ) (all : List (ℕ × BaseWord)) (ts : List Token) → base_word_of (front ts) ≡ None → row step n all ts ≡ Some (all, ts)
step_none zero all ts e = refl
step_none (suc n) all ts e = ap (λ r. turn r all ts (row step n)) (step_gone all ts e)
