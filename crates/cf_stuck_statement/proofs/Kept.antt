-- Rows of elements whose values are kept, beside rows for what is known alone.
use Rattle.std.proofs.Common.{◌≡◌, ℕ, zero, suc, Bool, true, false, List, [], ◌∷◌, ◌++◌, length, Option, Some, None, refl, sym, ◌∙◌, ap, nat_lt}
use Rattle.cf_tokens.specs.declared.token.Token.{Token}
use Rattle.cf_syntax.specs.Parse.{Parse, pure, with_rest}
use Rattle.cf_unit.specs.Known.{Known}
use Rattle.cf_unit.specs.Read.{chosen, kept, taking, element, turn, row, reading, or_spot, spot_if, spot_by, stuck_at}
use Rattle.cf_unit.specs.Rule.{Rule, until, made}
use Rattle.cf_unit.specs.Statements.{names_behind}
use Rattle.cf_stuck_statement.specs.Parts.{Places, known_at, its_own, unended, row_spot}
use Rattle.cf_stuck_statement.proofs.Quiet.{Is, by-same, or-same, if-same, is-made}

module _ {A : Type 0} (ends : List Token → Bool) (elem : Known → Rule (A × Known)) where
  -- the next element, behind those so far
  abbrev pub next : List A × Known → Rule (List A × Known)
  next s = made (λ x. (s.0 ++ x.0 ∷ [], x.1)) (elem s.1)

  abbrev pub kept-step : List A × Known → Parse (List A × Known)
  kept-step s = reading (next s)

  abbrev pub known-step : Known → Parse Known
  known-step k = known_at (reading (elem k))

  abbrev pub forgotten : Option ((List A × Known) × List Token) → Option (Known × List Token)
  forgotten o = with_rest o (λ s. pure s.1)

  abbrev pub kept-rows : ℕ → List A × Known → Parse (List A × Known)
  kept-rows n = row (λ s. element ends (kept-step s)) n

  abbrev pub known-rows : ℕ → Known → Parse Known
  known-rows n = row (λ b. element ends (known-step b)) n

  abbrev pub Same : ℕ → Type 0
  Same n = (xs : List A) (k : Known) (ts : List Token) → forgotten (kept-rows n (xs, k) ts) ≡ known-rows n k ts

  -- a turn
  by-kept : (n : ℕ) → Same n → (xs : List A) (k : Known) (ts : List Token) (x : A) (m : Known) (us : List Token) (b : Bool)
      → forgotten (turn (kept b ((xs ++ x ∷ [], m), us)) (xs, k) ts (kept-rows n)) ≡ turn (kept b (m, us)) k ts (known-rows n)
  by-kept n ih xs k ts x m us false = refl
  by-kept n ih xs k ts x m us true = ih (xs ++ x ∷ []) m us

  by-read : (n : ℕ) → Same n → (xs : List A) (k : Known) (ts : List Token) (o : Option ((A × Known) × List Token))
      → forgotten (turn (taking (with_rest o (λ x us. Some ((xs ++ x.0 ∷ [], x.1), us))) ts) (xs, k) ts (kept-rows n))
      ≡ turn (taking (with_rest o (λ x us. Some (x.1, us))) ts) k ts (known-rows n)
  by-read n ih xs k ts None = refl
  by-read n ih xs k ts (Some q) = by-kept n ih xs k ts q.0.0 q.0.1 q.1 (nat_lt (length q.1) (length ts))

  by-end : (n : ℕ) → Same n → (xs : List A) (k : Known) (ts : List Token) (b : Bool)
      → forgotten (turn (chosen b (λ us. None) (λ us. taking (kept-step (xs, k) us) us) ts) (xs, k) ts (kept-rows n))
      ≡ turn (chosen b (λ us. None) (λ us. taking (known-step k us) us) ts) k ts (known-rows n)
  by-end n ih xs k ts true = refl
  by-end n ih xs k ts false = by-read n ih xs k ts (reading (elem k) ts)

  -- rows are the same, for what is known behind them
  pub rows-same : (n : ℕ) → Same n
  rows-same zero xs k ts = refl
  rows-same (suc n) xs k ts = by-end n (rows-same n) xs k ts (ends ts)

  by-forgotten : (o : Option ((List A × Known) × List Token)) (f : Known → Places) → spot_by o (λ s mid. f s.1 mid) None ≡ spot_by (forgotten o) f None
  by-forgotten None f = refl
  by-forgotten (Some q) f = refl

  -- where the elements up to the end are stuck
  pub until-is : (inside : Known → Places) → ((k : Known) → Is (elem k) (inside k)) → (k : Known) → Is (until ends names_behind next ([], k)) (row_spot ends known-step inside k)
  until-is inside each k = record {
    same = λ ts. sym (by-same (kept-rows (length ts) ([], k) ts) (λ s mid. spot_if (ends mid) None (or_spot (stuck_at (next s) mid) (its_own s.1 mid))) (λ s mid. unended ends inside s.1 mid) None
        (λ s mid. if-same (ends mid) None (or_spot (stuck_at (next s) mid) (its_own s.1 mid)) None (or_spot (inside s.1 mid) (its_own s.1 mid)) refl
        (or-same (stuck_at (next s) mid) (its_own s.1 mid) (inside s.1 mid) (its_own s.1 mid) (sym ((next-is s).same mid)) refl))
        ∙ by-forgotten (kept-rows (length ts) ([], k) ts) (unended ends inside)
        ∙ ap (λ o. spot_by o (unended ends inside) None) (rows-same (length ts) [] k ts));
  }
    where
      next-is : (s : List A × Known) → Is (next s) (inside s.1)
      next-is s = is-made (each s.1)
