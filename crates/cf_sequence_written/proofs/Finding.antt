-- The temporaries that the code finds in an expression are the definition's.
use Rattle.std.proofs.Common.{◌≡◌, ℕ, suc, ◌+◌, Bool, false, List, [], ◌∷◌, ◌++◌, map, refl, ap, sym, ◌∙◌, append_assoc, arith}
use Rattle.std.proofs.lemmas.List.{map-append, append-nil}
use Rattle.cf_core.specs.FromTypes.{Tables, type_of}
use Rattle.cf_sequence.specs.Made.{Temporary}
use Rattle.cf_sequence_expr.specs.declared.temporaries.Found.{Found}
use Rattle.cf_sequence_expr.specs.declared.temporaries.Temporary.{Temporary as FoundOne}
use Rattle.cf_sequence_expr.specs.Finds.{skipped, listed}
use Rattle.cf_sequence_expr.specs.Pieces.{Piece, found_in}

module _ (tables : Tables) where
  abbrev pub one_of : FoundOne → Temporary
  one_of t = record { local = record { number = t.local; type = type_of tables t.ty }; in_branch = t.in_branch }

  abbrev pub all_of : List FoundOne → List Temporary
  all_of = map one_of

  -- these are found behind those so far, and so many locals are passed
  pub record Finds (f : Found → Found) (g : ℕ → List Temporary) (count : ℕ) : Type 0 where
    pub made : (x : Found) → all_of (Found.made (f x)) ≡ all_of x.made ++ g x.next
    pub next : (x : Found) → Found.next (f x) ≡ x.next + count

  pub finds-none : Finds (λ x. x) (λ k. []) 0
  finds-none = record { made = λ x. sym (append-nil (all_of x.made)); next = λ x. omega arith }

  pub finds-skipped : (count : ℕ) → Finds (skipped count) (λ k. []) count
  unfolding skipped
  finds-skipped count = record { made = λ x. sym (append-nil (all_of x.made)); next = λ x. refl }

  pub finds-as : {f : Found → Found} {g h : ℕ → List Temporary} {m n : ℕ} → Finds f g m → ((k : ℕ) → g k ≡ h k) → m ≡ n → Finds f h n
  finds-as p same count = record {
    made = λ x. p.made x ∙ ap (λ l. all_of x.made ++ l) (same x.next);
    next = λ x. p.next x ∙ ap (λ m. x.next + m) count;
  }

  pub finds-wide : {f : Found → Found} {g : ℕ → List Temporary} {m n : ℕ} → Finds f g m → m ≡ n → Finds f g n
  finds-wide p count = finds-as p (λ k. refl) count

  pub finds-then : {f h : Found → Found} {g j : ℕ → List Temporary} {m n : ℕ} → Finds f g m → Finds h j n → Finds (λ x. h (f x)) (λ k. g k ++ j (k + m)) (m + n)
  finds-then {f} {h} {g} {j} {m} {n} p q = record {
    made = λ x.
        q.made (f x) ∙ ap (λ l. l ++ j (Found.next (f x))) (p.made x) ∙ append_assoc (all_of x.made) (g x.next) (j (Found.next (f x)))
        ∙ ap (λ i. all_of x.made ++ (g x.next ++ j i)) (p.next x);
    next = λ x. let first = p.next x in let second = q.next (f x) in omega (arith, first, second);
  }

  -- a temporary behind those of its own initialiser
  pub finds-temporary : (p : Piece) {g : ℕ → List Temporary} {m : ℕ} (t : ℕ) (b : Bool) → Finds (p.finds b) g m
      → Finds (λ x. listed x.next t b (p.finds b (skipped 1 x))) (λ k. g (suc k) ++ record { local = record { number = k; type = type_of tables t }; in_branch = b } ∷ []) (suc m)
  unfolding listed
  finds-temporary p {g} {m} t b w =
      let both : Finds (λ x. p.finds b (skipped 1 x)) (λ k. g (k + 1)) (1 + m) = finds-then (finds-skipped 1) w in
      record {
        made = λ x.
            let behind : x.next + 1 ≡ suc x.next = omega arith in
            let own : Temporary = record { local = record { number = x.next; type = type_of tables t }; in_branch = b } in
            map-append one_of (Found.made (p.finds b (skipped 1 x))) (record { local = x.next; ty = t; in_branch = b } ∷ [])
            ∙ ap (λ l. l ++ own ∷ []) (both.made x ∙ ap (λ i. all_of x.made ++ g i) behind)
            ∙ append_assoc (all_of x.made) (g (suc x.next)) (own ∷ []);
        next = λ x. let wide : 1 + m ≡ suc m = omega arith in both.next x ∙ ap (λ i. x.next + i) wide;
      }

  -- those of a full expression
  pub found-are : (p : Piece) {g : Bool → ℕ → List Temporary} {m : ℕ} → ((b : Bool) → Finds (p.finds b) (g b) m) → (k : ℕ) → all_of (found_in p k) ≡ g false k
  found-are p w k = Finds.made (w false) (record { next = k; made = [] })
