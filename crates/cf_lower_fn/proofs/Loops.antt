-- Loops by whether their turns end in a step.
use Rattle.std.proofs.Common.{◌≡◌, ℕ, suc, ◌+◌, max, List, [], ◌∷◌, refl, sym, ap, ◌∙◌, arith}
use Rattle.cf_core.specs.FromTypes.{Tables}
use Rattle.cf_plain.specs.declared.statement.Plain.{Plain as CodePlain}
use Rattle.cf_plain.specs.Plain.{Plains, loop}
use Rattle.cf_lower.specs.Functions.{nesting, all_nesting}
use Rattle.cf_lower_fn.specs.Walks.{loop_nesting, statements_at}

pub without_step : (ts : List CodePlain) (n m : ℕ) → ts ≡ [] → n ≡ loop_nesting ts n m
without_step ts n m e = ap (λ l. loop_nesting l n m) (sym e)

pub with_step : (ts : List CodePlain) (n m k : ℕ) → (ts ≡ [] → ⊥) → k ≡ n + 1 → max k m ≡ loop_nesting ts n m
with_step [] n m k some e = absurd (some refl)
with_step (t ∷ ts) n m k some e = ap (λ i. max i m) (e ∙ (let more : n + 1 ≡ suc n = omega arith in more))

-- in plain data
pub loop_is : (tables : Tables) (ss : Plains) (ts : List CodePlain) → loop_nesting ts (all_nesting ss) (all_nesting (statements_at tables ts)) ≡ nesting (loop ss (statements_at tables ts))
loop_is tables ss [] = refl
loop_is tables ss (t ∷ ts) = refl
