-- What a tree of values has at an index, by its root.
use Rattle.std.proofs.Common.{◌≡◌, ℕ, zero, suc, ◌<◌, ◌-◌, ◌/◌, ◌%◌, Bool, true, false, cond, Option, Some, None, nat_eq, refl, sym, ◌∙◌, ap, subst, arith}
use Rattle.std.specs.Prelude.{◌≢◌}
use Rattle.cf_shared.specs.declared.tree.Fork.{Fork, Fork-F, fold-Fork, fold_out-Fork}
use Rattle.cf_shared.specs.declared.tree.Tree.{Tree, Tree-F, fold-Tree, fold_out-Tree, out-Tree, map-Tree}
use Rattle.cf_shared.specs.declared.tree.Tree.TheOpen as layer
use Rattle.cf_shared.specs.declared.tree.Tree.TheVariants as tree
use Rattle.cf_shared.specs.At.{at, at_tree, at_fork, opening, opened, Puts}

abbrev pub answers : {T : Type 0} → Fork T → Fork-F T (ℕ → Option T) (ℕ → Option T)
answers f = record { here = f.here; odd = at f.odd; even = at f.even }

pub at-empty : {T : Type 0} (i : ℕ) → at {T = T} tree.Empty i ≡ None
unfolding at
at-empty {T = T} i = ap (λ f. f i) (fold_out-Tree T (ℕ → Option T) (ℕ → Option T) at_tree at_fork tree.Empty)
    ∙ ap (λ l. at_tree (map-Tree T (Tree T) (Fork T) (ℕ → Option T) (ℕ → Option T) at (fold-Fork T (ℕ → Option T) (ℕ → Option T) at_tree at_fork) l) i) tree.outs-Empty

none-either : {A : Type 0} (b : Bool) (x y : Option A) → x ≡ None → y ≡ None → None ≡ cond b x y
none-either true x y p q = sym p
none-either false x y p q = sym q

at-root : {T : Type 0} (l : Tree-F T (Tree T) (Fork T)) (i : ℕ)
    → at_tree (map-Tree T (Tree T) (Fork T) (ℕ → Option T) (ℕ → Option T) at (fold-Fork T (ℕ → Option T) (ℕ → Option T) at_tree at_fork) l) i ≡ at_fork (answers (opening l)) i
unfolding at
at-root layer.Empty zero = refl
at-root layer.Empty (suc k) = none-either (nat_eq (k % 2) 0) (at tree.Empty (k / 2)) (at tree.Empty (k / 2)) (at-empty (k / 2)) (at-empty (k / 2))
at-root {T = T} (layer.Fork f) i = ap (λ g. g i) (fold_out-Fork T (ℕ → Option T) (ℕ → Option T) at_tree at_fork f)

pub at-opened : {T : Type 0} (t : Tree T) (i : ℕ) → at t i ≡ at_fork (answers (opened t)) i
unfolding at
at-opened {T = T} t i = ap (λ f. f i) (fold_out-Tree T (ℕ → Option T) (ℕ → Option T) at_tree at_fork t) ∙ at-root (out-Tree T t) i

-- a tree that was opened
pub opened-fork : {T : Type 0} (t : Tree T) (f g : Fork T) → t ≡ tree.Fork f → g ≡ f → opened t ≡ g
opened-fork t f g is same = ap opened is ∙ ap opening (tree.outs-Fork f) ∙ sym same

-- an index is at the root, in the one branch or in the other
module _ {T : Type 0} (t : Tree T) (f : Fork T) (root : opened t ≡ f) where
  at-fork : (i : ℕ) → at t i ≡ at_fork (answers f) i
  at-fork i = at-opened t i ∙ ap (λ g. at_fork (answers g) i) root

  pub at-here : (i : ℕ) → i ≡ 0 → at t i ≡ f.here
  at-here i here = ap (at t) here ∙ at-fork 0

  pub at-odd : (i k : ℕ) → i ≡ suc k → k % 2 ≡ 0 → at t i ≡ at f.odd (k / 2)
  at-odd i k beyond parity = ap (at t) beyond ∙ at-fork (suc k) ∙ ap (λ r. cond (nat_eq r 0) (at f.odd (k / 2)) (at f.even (k / 2))) parity

  pub at-even : (i k : ℕ) → i ≡ suc k → k % 2 ≡ 1 → at t i ≡ at f.even (k / 2)
  at-even i k beyond parity = ap (at t) beyond ∙ at-fork (suc k) ∙ ap (λ r. cond (nat_eq r 0) (at f.odd (k / 2)) (at f.even (k / 2))) parity

-- a value put at the root, or in a branch
module _ {T : Type 0} (old new : Tree T) (f : Fork T) (before : opened old ≡ f) (i : ℕ) (x : T) where
  pub puts-here : (h : Option T) → opened new ≡ record { here = h; odd = f.odd; even = f.even } → i ≡ 0 → h ≡ Some x → Puts old i x new
  puts-here h after zeroth is = record { here = at-here new _ after i zeroth ∙ is; elsewhere = λ j apart. go j (λ e. apart (e ∙ sym zeroth)) }
    where
      by-parity : (k r : ℕ) → k % 2 ≡ r → at new (suc k) ≡ at old (suc k)
      by-parity k zero p = at-odd new _ after (suc k) k refl p ∙ sym (at-odd old f before (suc k) k refl p)
      by-parity k (suc r) p =
          let one : k % 2 ≡ 1 = omega (arith, p) in
          at-even new _ after (suc k) k refl one ∙ sym (at-even old f before (suc k) k refl one)

      go : (j : ℕ) → (j ≡ 0 → ⊥) → at new j ≡ at old j
      go zero apart = absurd (apart refl)
      go (suc k) apart = by-parity k (k % 2) refl

  pub puts-odd : (t : Tree T) → opened new ≡ record { here = f.here; odd = t; even = f.even } → (k : ℕ) → i ≡ suc k → k % 2 ≡ 0 → Puts f.odd (k / 2) x t → Puts old i x new
  puts-odd t after k beyond parity odd =
      record { here = at-odd new _ after i k beyond parity ∙ odd.here; elsewhere = λ j apart. go j (λ e. apart (e ∙ sym beyond)) }
    where
      by-parity : (m r : ℕ) → m % 2 ≡ r → (suc m ≡ suc k → ⊥) → at new (suc m) ≡ at old (suc m)
      by-parity m zero p apart =
          at-odd new _ after (suc m) m refl p ∙ odd.elsewhere (m / 2) (λ e. apart (omega (arith, e, p, parity))) ∙ sym (at-odd old f before (suc m) m refl p)
      by-parity m (suc r) p apart =
          let one : m % 2 ≡ 1 = omega (arith, p) in
          at-even new _ after (suc m) m refl one ∙ sym (at-even old f before (suc m) m refl one)

      go : (j : ℕ) → (j ≡ suc k → ⊥) → at new j ≡ at old j
      go zero apart = at-here new _ after 0 refl ∙ sym (at-here old f before 0 refl)
      go (suc m) apart = by-parity m (m % 2) refl apart

  pub puts-even : (t : Tree T) → opened new ≡ record { here = f.here; odd = f.odd; even = t } → (k : ℕ) → i ≡ suc k → k % 2 ≡ 1 → Puts f.even (k / 2) x t → Puts old i x new
  puts-even t after k beyond parity even =
      record { here = at-even new _ after i k beyond parity ∙ even.here; elsewhere = λ j apart. go j (λ e. apart (e ∙ sym beyond)) }
    where
      by-parity : (m r : ℕ) → m % 2 ≡ r → (suc m ≡ suc k → ⊥) → at new (suc m) ≡ at old (suc m)
      by-parity m zero p apart =
          at-odd new _ after (suc m) m refl p ∙ sym (at-odd old f before (suc m) m refl p)
      by-parity m (suc r) p apart =
          let one : m % 2 ≡ 1 = omega (arith, p) in
          at-even new _ after (suc m) m refl one ∙ even.elsewhere (m / 2) (λ e. apart (omega (arith, e, one, parity))) ∙ sym (at-even old f before (suc m) m refl one)

      go : (j : ℕ) → (j ≡ suc k → ⊥) → at new j ≡ at old j
      go zero apart = at-here new _ after 0 refl ∙ sym (at-here old f before 0 refl)
      go (suc m) apart = by-parity m (m % 2) refl apart
