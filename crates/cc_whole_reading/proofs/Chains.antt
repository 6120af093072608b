-- Reading one thing after another, or with commas between, decides lists.
use Rattle.std.proofs.Common.{◌≡◌, ℕ, zero, suc, ◌≤◌, ◌<◌, ◌+◌, Bool, true, false, List, [], ◌∷◌, ◌++◌, length, refl, ap, sym, ◌∙◌, subst, arith, append-nil, append_assoc}
use Rattle.cc_whole_tokens.specs.declared.mark.Mark.TheVariants as mark
use Rattle.cc_whole_tokens.specs.declared.token.Token.{Token}
use Rattle.cc_whole_tokens.specs.declared.token.Token.TheVariants as token
use Rattle.cc_whole_reading.specs.Parse.{Parse, ◌>>=◌, pure, sees, past, many, all_of}
use Rattle.cc_whole_reading.proofs.Decides.{SameFront, Spelling, Follow, SameReading, Took, Decides, DecidesIf, decides_as, Done, done, decides_pure, none_left}
use Rattle.cc_whole_reading.proofs.Shapes.{Seq, seq, After, after, Either, one, other, decides_then, decides_then_if}
use Rattle.cc_whole_reading.proofs.Choices.{decides_past, sees_same, sees_there}
use Rattle.cc_whole_reading.proofs.Ways.{Tells, decides_if}

-- one after another
pub data Many {A : Type 0} (S : Spelling A) : List A → List Token → Type 0 where
  none : Many S [] []
  more : (x : A) (xs : List Token) (all : List A) (ys : List Token) → S x xs → Many S all ys → Many S (x ∷ all) (xs ++ ys)

-- the same behind those that are found
pub data ManyOn {A : Type 0} (S : Spelling A) (found : List A) : List A → List Token → Type 0 where
  on : (all : List A) (zs : List Token) → Many S all zs → ManyOn S found (found ++ all) zs

module _ {A : Type 0} (S : Spelling A) (found : List A) where
  abbrev Step : Spelling (List A)
  Step = Either (Seq S (λ x. ManyOn S (found ++ x ∷ []))) (Done found)

  step_of : (b : List A) (zs : List Token) → ManyOn S found b zs → Step b zs
  step_of _ _ (on _ _ none) = subst (λ l. Step l []) (sym (append-nil found)) (other found [] done)
  step_of _ _ (on _ _ (more x xs all ys s m)) =
      let next : ManyOn S (found ++ x ∷ []) (found ++ (x ∷ all)) ys = subst (λ l. ManyOn S (found ++ x ∷ []) l ys) (append_assoc found (x ∷ []) all) (on all ys m) in
      one (found ++ (x ∷ all)) (xs ++ ys) (seq x xs (found ++ (x ∷ all)) ys s next)

  first_of : (x : A) (xs : List Token) → S x xs → (b : List A) (ys : List Token) → ManyOn S (found ++ x ∷ []) b ys → ManyOn S found b (xs ++ ys)
  first_of x xs s _ _ (on all ys m) =
      subst (λ l. ManyOn S found l (xs ++ ys)) (sym (append_assoc found (x ∷ []) all)) (on (x ∷ all) (xs ++ ys) (more x xs all ys s m))

  of_step : (b : List A) (zs : List Token) → Step b zs → ManyOn S found b zs
  of_step _ _ (other _ _ done) = subst (λ l. ManyOn S found l []) (append-nil found) (on [] [] none)
  of_step _ _ (one _ _ (seq x xs b ys s m)) = first_of x xs s b ys m

module _ {A : Type 0} (goes : List Token → Bool) (looks : (xs ys : List Token) → SameFront xs ys → goes xs ≡ goes ys) (S : Spelling A) (G F : Follow)
    (begins : (x : A) (xs rest : List Token) → S x xs → goes (xs ++ rest) ≡ true) (some : (x : A) (xs : List Token) → S x xs → 0 < length xs)
    (halts : (rest : List Token) → F rest → goes rest ≡ false) (follows : (x : A) (xs rest : List Token) → S x xs → G (xs ++ rest)) (ends : (rest : List Token) → F rest → G rest) where
  follow_many : {all : List A} {ys : List Token} → Many S all ys → (rest : List Token) → F rest → G (ys ++ rest)
  follow_many none rest f = ends rest f
  follow_many (more x xs all ys s m) rest f = subst G (sym (append_assoc xs ys rest)) (follows x xs (ys ++ rest) s)

  follow_on : (found : List A) (b : List A) (ys rest : List Token) → ManyOn S found b ys → F rest → G (ys ++ rest)
  follow_on found _ ys rest (on all _ m) f = follow_many m rest f

  goes_there : (found : List A) → Tells goes true (Seq S (λ x. ManyOn S (found ++ x ∷ []))) F
  goes_there found _ _ rest (seq x xs b ys s u) f = ap goes (append_assoc xs ys rest) ∙ begins x xs (ys ++ rest) s

  halts_there : (found : List A) → Tells goes false (Done found) F
  halts_there found _ _ rest done f = halts rest f

  only_none : (found : List A) (b : List A) (xs rest us : List Token) → ManyOn S found b xs → xs ++ rest ≡ us → SameFront [] us → SameReading found us b rest
  only_none found _ _ rest us (on _ _ none) e same = record { tree = append-nil found; left = e }
  only_none found _ _ rest us (on _ _ (more x xs all ys s m)) e same =
      absurd (none_left xs (ys ++ rest) us (some x xs s) (sym (append_assoc xs ys rest) ∙ e) same)

  at_end : (found : List A) (ts : List Token) → length ts ≤ 0 → Took (ManyOn S found) F ts found ts
  at_end found [] small = record {
    front = [];
    spells = subst (λ l. ManyOn S found l []) (append-nil found) (on [] [] none);
    parts = refl;
    only = λ b xs rest us s f e same. only_none found b xs rest us s e same;
  }
  at_end found (t ∷ ts) small = absurd (omega (arith, small))

  pub decides_many : (n k : ℕ) (p : Parse A) → DecidesIf goes S G n p → k ≤ n → (found : List A) → Decides (ManyOn S found) F k (many goes p k found)
  unfolding many
  decides_many n zero p d small found ts short = at_end found ts short
  decides_many n (suc k) p d small found ts short =
      let each : DecidesIf goes S G (suc k) p = λ us fits is. d us (omega (arith, fits, small)) is in
      let later : (x : A) (xs : List Token) → S x xs → Decides (ManyOn S (found ++ x ∷ [])) F k (many goes p k (found ++ x ∷ [])) =
      λ x xs s. decides_many n k p d (omega (arith, small)) (found ++ x ∷ []) in
      let shrinks : (x : A) (xs : List Token) → S x xs → suc k ≤ length xs + k = λ x xs s. let l = some x xs s in omega (arith, l) in
      decides_as (Step S found) (ManyOn S found) F (suc k) (many goes p (suc k) found) (step_of S found) (of_step S found)
      (decides_if goes looks (Seq S (λ x. ManyOn S (found ++ x ∷ []))) (Done found) F (goes_there found) (halts_there found) (suc k)
      (p >>= (λ x. many goes p k (found ++ x ∷ []))) (pure found)
      (decides_then_if S G (λ x. ManyOn S (found ++ x ∷ [])) F (λ x b ys rest u f. follow_on (found ++ x ∷ []) b ys rest u f) goes (suc k) k p
      (λ x. many goes p k (found ++ x ∷ [])) each later shrinks)
      (decides_pure F (suc k) found)) ts short

  pub decides_more : (n : ℕ) (p : Parse A) → DecidesIf goes S G n p → (found : List A) → Decides (ManyOn S found) F n (all_of goes p found)
  decides_more n p d found ts small = decides_many n (length ts) p d small found ts (omega arith)

  many_of : (b : List A) (zs : List Token) → ManyOn S [] b zs → Many S b zs
  many_of _ _ (on all zs m) = m

  pub decides_all : (n : ℕ) (p : Parse A) → DecidesIf goes S G n p → Decides (Many S) F n (all_of goes p [])
  decides_all n p d = decides_as (ManyOn S []) (Many S) F n (all_of goes p []) (λ b zs m. on b zs m) many_of (decides_more n p d [])

-- ---- with commas between

pub data Separated {A : Type 0} (S : Spelling A) : List A → List Token → Type 0 where
  last : (x : A) (xs : List Token) → S x xs → Separated S (x ∷ []) xs
  more : (x : A) (xs : List Token) (all : List A) (ys : List Token) → S x xs → Separated S all ys → Separated S (x ∷ all) (xs ++ (token.Mark mark.Comma ∷ ys))

abbrev pub separated : {A : Type 0} → Parse A → Parse (List A)
separated p = p >>= (λ x. all_of (sees mark.Comma) (past p) (x ∷ []))

module _ {A : Type 0} (S : Spelling A) where
  abbrev Commas : Spelling A
  Commas = After mark.Comma S

  abbrev Parts : Spelling (List A)
  Parts = Seq S (λ x. ManyOn Commas (x ∷ []))

  joined : {all : List A} {zs : List Token} → Many Commas all zs → (x : A) (xs : List Token) → S x xs → Separated S (x ∷ all) (xs ++ zs)
  joined none x xs s = subst (Separated S (x ∷ [])) (sym (append-nil xs)) (last x xs s)
  joined (more y _ all zs (after _ ys t) m) x xs s = more x xs (y ∷ all) (ys ++ zs) s (joined m y ys t)

  joined_on : (x : A) (xs : List Token) → S x xs → (b : List A) (zs : List Token) → ManyOn Commas (x ∷ []) b zs → Separated S b (xs ++ zs)
  joined_on x xs s _ _ (on all zs m) = joined m x xs s

  of_parts : (b : List A) (zs : List Token) → Parts b zs → Separated S b zs
  of_parts _ _ (seq x xs b zs s m) = joined_on x xs s b zs m

  one_on : (x : A) (xs : List Token) → S x xs → (y : A) (ys : List Token) → S y ys → (all : List A) (zs : List Token) → ManyOn Commas (y ∷ []) all zs
      → Parts (x ∷ all) (xs ++ (token.Mark mark.Comma ∷ (ys ++ zs)))
  one_on x xs s y ys t _ _ (on all zs m) =
      seq x xs (x ∷ (y ∷ all)) (token.Mark mark.Comma ∷ (ys ++ zs)) s (on (y ∷ all) (token.Mark mark.Comma ∷ (ys ++ zs)) (more y (token.Mark mark.Comma ∷ ys) all zs (after y ys t) m))

  one_more : (x : A) (xs : List Token) → S x xs → (all : List A) (ys : List Token) → Parts all ys → Parts (x ∷ all) (xs ++ (token.Mark mark.Comma ∷ ys))
  one_more x xs s _ _ (seq y ys all zs t m) = one_on x xs s y ys t all zs m

  parts_of : (b : List A) (zs : List Token) → Separated S b zs → Parts b zs
  parts_of _ _ (last x xs s) = subst (Parts (x ∷ [])) (append-nil xs) (seq x xs (x ∷ []) [] s (on [] [] none))
  parts_of _ _ (more x xs all ys s d) = one_more x xs s all ys (parts_of all ys d)

comma_first : {A : Type 0} (S : Spelling A) (x : A) (xs rest : List Token) → After mark.Comma S x xs → sees mark.Comma (xs ++ rest) ≡ true
comma_first S _ _ rest (after x xs s) = sees_there mark.Comma (xs ++ rest)

comma_some : {A : Type 0} (S : Spelling A) (x : A) (xs : List Token) → After mark.Comma S x xs → 0 < length xs
comma_some S _ _ (after x xs s) = omega arith

module _ {A : Type 0} (S : Spelling A) (G F : Follow) (comma_follows : (ts : List Token) → G (token.Mark mark.Comma ∷ ts)) (ends : (rest : List Token) → F rest → G rest)
    (halts : (rest : List Token) → F rest → sees mark.Comma rest ≡ false) where
  comma_on : (x : A) (xs rest : List Token) → After mark.Comma S x xs → G (xs ++ rest)
  comma_on _ _ rest (after x xs s) = comma_follows (xs ++ rest)

  behind_one : (x : A) (b : List A) (ys rest : List Token) → ManyOn (After mark.Comma S) (x ∷ []) b ys → F rest → G (ys ++ rest)
  behind_one x _ _ rest (on _ _ none) f = ends rest f
  behind_one x _ _ rest (on _ _ (more y _ all zs (after _ ys t) m)) f = comma_follows ((ys ++ zs) ++ rest)

  pub decides_separated : (n : ℕ) (p : Parse A) → Decides S G n p → Decides (Separated S) F n (separated p)
  decides_separated n p d =
      decides_as (Parts S) (Separated S) F n (separated p) (parts_of S) (of_parts S)
      (decides_then S G (λ x. ManyOn (After mark.Comma S) (x ∷ [])) F behind_one n p (λ x. all_of (sees mark.Comma) (past p) (x ∷ [])) d
      (λ x xs s. decides_more (sees mark.Comma) (sees_same mark.Comma) (After mark.Comma S) G F (comma_first S) (comma_some S) halts comma_on ends n (past p)
      (λ ts small is. decides_past mark.Comma S G n p d ts (omega (arith, small)) is) (x ∷ [])))
