-- One step of each loop of the reader.
use Rattle.std.proofs.Common.{◌≡◌, ℕ, zero, suc, ◌+◌, ◌-◌, ◌<◌, ◌≤◌, arith, Bool, true, false, List, [], ◌∷◌, ◌++◌, Result, Ok, refl, ap, sym, ◌∙◌, subst}
use Rattle.cc_whole_tokens.specs.declared.token.Token.{Token}
use Rattle.cc_whole_reading.specs.declared.stop.Stop.{Stop}
use Rattle.cc_whole_reading.specs.declared.stop.Stop.TheVariants as stop
use Rattle.cc_whole_reading.specs.Parse.{Parse, and_then, Fails, many}

-- a refusal goes through what follows
pub fails_then : {A B : Type 0} (r : Result (A × List Token) Stop) (f : A → Parse B) (e : Stop) → Fails r e → Fails (and_then r f) e
fails_then r f (stop.NotC left) h = ap (λ x. and_then x f) h
fails_then r f (stop.Unfit left) h = ap (λ x. and_then x f) h
fails_then r f stop.Memory h = tt

pub many_zero : {A : Type 0} (goes : List Token → Bool) (one : Parse A) (n : ℕ) (found : List A) (ts : List Token) → n ≡ zero → many goes one n found ts ≡ Ok (found, ts)
unfolding many
many_zero goes one zero found ts e = refl
many_zero goes one (suc n) found ts e = absurd (cc)

pub many_stops : {A : Type 0} (goes : List Token → Bool) (one : Parse A) (n : ℕ) (found : List A) (ts : List Token) → goes ts ≡ false → many goes one n found ts ≡ Ok (found, ts)
unfolding many
many_stops goes one zero found ts e = refl
many_stops goes one (suc n) found ts e = rw e refl

pub many_turn : {A : Type 0} (goes : List Token → Bool) (one : Parse A) (n k : ℕ) (found : List A) (ts : List Token) → n ≡ suc k → goes ts ≡ true
    → many goes one n found ts ≡ and_then (one ts) (λ x. many goes one k (found ++ x ∷ []))
unfolding many
many_turn goes one zero k found ts e g = absurd (cc)
many_turn goes one (suc n) k found ts e g =
    let same : n ≡ k = cc in
    rw g (ap (λ m. and_then (one ts) (λ x. many goes one m (found ++ x ∷ []))) same)

pub many_next : {A : Type 0} (goes : List Token → Bool) (one : Parse A) (n k : ℕ) (found : List A) (ts mid : List Token) (x : A) → n ≡ suc k → goes ts ≡ true
    → one ts ≡ Ok (x, mid) → many goes one n found ts ≡ many goes one k (found ++ x ∷ []) mid
many_next goes one n k found ts mid x e g read =
    many_turn goes one n k found ts e g ∙ ap (λ r. and_then r (λ y. many goes one k (found ++ y ∷ []))) read

pub many_fails : {A : Type 0} (goes : List Token → Bool) (one : Parse A) (n k : ℕ) (found : List A) (ts : List Token) (err : Stop) → n ≡ suc k → goes ts ≡ true
    → Fails (one ts) err → Fails (many goes one n found ts) err
many_fails goes one n k found ts err e g fails =
    subst (λ r. Fails r err) (sym (many_turn goes one n k found ts e g)) (fails_then (one ts) (λ x. many goes one k (found ++ x ∷ [])) err fails)

-- ---- the loops of the code, by what holds at the head of each turn

module _ {A : Type 0} (goes : List Token → Bool) (one : Parse A) (first start found : List A) (all ts : List Token) (last turn len : ℕ)
    (so_far : many goes one (last - turn) found ts ≡ many goes one last first all) (same : last ≡ len) (begins : first ≡ start) where
  ends : many goes one last first all ≡ Ok (found, ts) → many goes one len start all ≡ Ok (found, ts)
  ends e = subst (λ n. many goes one n start all ≡ Ok (found, ts)) same (subst (λ f. many goes one last f all ≡ Ok (found, ts)) begins e)

  pub loop_stops : goes ts ≡ false → many goes one len start all ≡ Ok (found, ts)
  loop_stops halts = ends (sym so_far ∙ many_stops goes one (last - turn) found ts halts)

  pub loop_ends : last ≤ turn → many goes one len start all ≡ Ok (found, ts)
  loop_ends over =
      let none : last - turn ≡ zero = omega arith in
      ends (sym so_far ∙ many_zero goes one (last - turn) found ts none)

  pub loop_fails : (err : Stop) → turn < last → goes ts ≡ true → Fails (one ts) err → Fails (many goes one len start all) err
  loop_fails err more turns fails =
      let some : last - turn ≡ suc (last - (turn + 1)) = omega arith in
      subst (λ n. Fails (many goes one n start all) err) same (subst (λ f. Fails (many goes one last f all) err) begins
      (subst (λ r. Fails r err) so_far (many_fails goes one (last - turn) (last - (turn + 1)) found ts err some turns fails)))

  pub loop_next : (x : A) (mid : List Token) (next : List A) → turn < last → goes ts ≡ true → one ts ≡ Ok (x, mid) → next ≡ found ++ x ∷ []
      → many goes one (last - (turn + 1)) next mid ≡ many goes one last first all
  loop_next x mid next more turns read is =
      let some : last - turn ≡ suc (last - (turn + 1)) = omega arith in
      ap (λ l. many goes one (last - (turn + 1)) l mid) is ∙ sym (many_next goes one (last - turn) (last - (turn + 1)) found ts mid x some turns read) ∙ so_far
