-- What is read is the longest phrase of the grammar, and where nothing is read none begins.
use Rattle.std.proofs.Common.{◌≡◌, ℕ, suc, inl, inr, List, length, Some, Result, Ok, Err, subst}
use Rattle.cf_tokens.specs.declared.token.Token.{Token}
use Rattle.cf_syntax.specs.Language.{Language}
use Rattle.cf_syntax.specs.Parse.{Parse}
use Rattle.cf_syntax.proofs.Good.{Meets, Good, some-is-not-none}
use Rattle.cf_syntax.proofs.Whole.{longest-read}
use Rattle.cf_parse_expr.specs.declared.stop.Stop.{Stop}
use Rattle.cf_parse_expr.specs.declared.stop.Stop.TheVariants as stop
use Rattle.cf_parse_expr.specs.Reads.{Reads, StopsAs}
use Rattle.cf_parse_expr.specs.Answers.{TakesLongest, StopsWhere}

stops-where : {A : Type 0} (g : List ℕ) (p : Parse A) (L : Language A) → Good g p L → (ts : List Token) (e : Stop) → StopsAs (p ts) e → StopsWhere L ts e
stops-where {A = A} g p L good ts stop.Nothing none = record { none = λ x rest l. by_meets x rest (good.meets ts x rest l) }
  where
    by_meets : (x : A) (rest : List Token) → Meets g (p ts) x rest → ⊥
    by_meets x rest (inl e) = some-is-not-none (p ts) (x, rest) none e
    by_meets x rest (inr y) = some-is-not-none (p ts) (y.value, y.after) none y.is
stops-where g p L good ts stop.Memory none = tt

takes-longest : {A : Type 0} (g : List ℕ) (p : Parse A) (L : Language A) → Good g p L → (ts : List Token) (result : Result A Stop) (new : List Token)
    → Reads (p ts) result new → TakesLongest L ts result new
takes-longest g p L good ts (Ok x) new e = record { spells = good.sound ts x new e; longest = longest-read g p L good ts x new e }
takes-longest g p L good ts (Err e) new h = stops-where g p L good ts e h

-- more depth than tokens is enough
pub takes : {A : Type 0} (g : List ℕ) (p : ℕ → Parse A) (L : ℕ → Language A) → ((n : ℕ) → Good g (p n) (L n)) → (n : ℕ) (ts : List Token)
    → n ≡ suc (length ts) → (result : Result A Stop) (new : List Token) → Reads (p n ts) result new
    → TakesLongest (λ us x rest. L (suc (length us)) us x rest) ts result new
takes g p L good n ts deep (Ok x) new e =
    let m = suc (length ts) in
    let read = subst (λ k. p k ts ≡ Some (x, new)) deep e in
    record { spells = (good m).sound ts x new read; longest = longest-read g (p m) (L m) (good m) ts x new read }
takes g p L good n ts deep (Err e) new h =
    stops-err (subst (λ k. StopsAs (p k ts) e) deep h)
  where
    stops-err : StopsAs (p (suc (length ts)) ts) e → StopsWhere (λ us x rest. L (suc (length us)) us x rest) ts e
    stops-err k = by-stop e k
      where
        by-stop : (f : Stop) → StopsAs (p (suc (length ts)) ts) f → StopsWhere (λ us x rest. L (suc (length us)) us x rest) ts f
        by-stop stop.Nothing none = record { none = (stops-where g (p (suc (length ts))) (L (suc (length ts))) (good (suc (length ts))) ts stop.Nothing none).none }
        by-stop stop.Memory none = tt

-- what is read to a depth of one more than the tokens
pub at-depth : {A : Type 0} (p : ℕ → Parse A) (n : ℕ) (ts : List Token) → n ≡ suc (length ts) → (result : Result A Stop) (new : List Token)
    → Reads (p n ts) result new → Reads (p (suc (length ts)) ts) result new
at-depth p n ts deep result new h = subst (λ k. Reads (p k ts) result new) deep h
