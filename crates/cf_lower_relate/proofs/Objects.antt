-- Changes of objects, and of blocks in which none stands.
use Rattle.std.proofs.Common.{◌≡◌, ℕ, ◌+◌, ◌≤◌, ◌<◌, Bool, true, false, ◌==◌, if◌then◌else◌, Option, refl, sym, ◌∙◌, ap, subst, arith}
use Rattle.std.proofs.lemmas.Bool.Decides.{nat_tests}
use Rattle.cf_core.specs.Store as source
use Rattle.cf_core.specs.Store.{Object}
use Rattle.cf_core.specs.Run.{State, upd}
use Rattle.cf_core.specs.Size.{size}
use Rattle.cf_lower_layout.specs.Layout.{offset}
use Rattle.cc_whole_memory.specs.Cells.{Cells, load}
use Rattle.cc_whole_memory.specs.Blocks.{Block, Memory, put_block}
use Rattle.cf_lower_layout.specs.Sorts.{Sort}
use Rattle.cf_lower_relate.specs.Scalars.{c_scalar}
use Rattle.cf_lower_relate.specs.Map.{Fixed, Map, is_ended, Grows}
use Rattle.cf_lower_relate.specs.Relation.{Loads, InCells, Stands, Rel}
use Rattle.cf_lower_relate.proofs.Values.{is-grows}

-- ---- functions changed at one number

-- what holds of the new value at the number, and of the old ones elsewhere
pub upd-cases : {A : Type 0} (P : A → Type 0) (o p : ℕ) (y : A) (f : ℕ → A) → (p ≡ o → P y) → (p == o ≡ false → P (f p)) → P (upd o y f p)
upd-cases P o p y f same other = by_test (p == o) refl
  where
    by_test : (b : Bool) → p == o ≡ b → P (if b then y else f p)
    by_test true e = same (grind (arith, nat_tests, e))
    by_test false e = other e

pub upd-same : {A : Type 0} (o : ℕ) (y : A) (f : ℕ → A) → upd o y f o ≡ y
upd-same o y f = ap (λ b. if b then y else f o) (let e : o == o ≡ true = grind (arith, nat_tests) in e)

pub upd-other : {A : Type 0} (o p : ℕ) (y : A) (f : ℕ → A) → p == o ≡ false → upd o y f p ≡ f p
upd-other o p y f e = ap (λ b. if b then y else f p) e

pub block-same : (b : ℕ) (x : Option Block) (blocks : ℕ → Option Block) → put_block b x blocks b ≡ x
block-same b x blocks = ap (λ t. if t then x else blocks b) (let e : b == b ≡ true = grind (arith, nat_tests) in e)

pub block-other : (b c : ℕ) (x : Option Block) (blocks : ℕ → Option Block) → c == b ≡ false → put_block b x blocks c ≡ blocks c
block-other b c x blocks e = ap (λ t. if t then x else blocks c) e

pub below-apart : (o p : ℕ) → p < o → p == o ≡ false
below-apart o p lt = grind (arith, nat_tests, lt)

module _ (K : Fixed) where
  pub loads-grows : (F G : Map) → Grows F G → (t : Sort) (v : source.Value) (found : Option _) → Loads K F t v found → Loads K G t v found
  loads-grows F G g t v found h = record { value = h.value; is = h.is; same = is-grows K F G g t v h.value h.same }

  pub cells-grow : (F G : Map) → Grows F G → (x : Object) (n : ℕ) (cells : Cells) → InCells K F x n cells → InCells K G x n cells
  cells-grow F G g x n cells h = λ π t v l s e. loads-grows F G g t v (load (c_scalar t) cells (n + offset K.classes x.type π)) (h π t v l s e)

  -- an object that keeps its block, in a later map and memory
  pub stands-kept : (F G : Map) → Grows F G → (o : ℕ) (x : Object) (m m' : Memory) → G.block o ≡ F.block o → G.base o ≡ F.base o
      → m'.block (F.block o) ≡ m.block (F.block o) → Stands K F o x m → Stands K G o x m'
  stands-kept F G g o x m m' block base same h = record {
    block = h.block;
    there = ap m'.block block ∙ same ∙ h.there;
    size = subst (λ n. n + size K.classes x.type ≤ h.block.size) (sym base) h.size;
    cells = subst (λ n. InCells K G x n h.block.cells) (sym base) (cells-grow F G g x (F.base o) h.block.cells h.cells);
  }

  module _ (F : Map) (s : State) (m : Memory) (r : Rel K F s m) where
    -- ---- blocks of the C's own

    pub rel-other : (m' : Memory) → m.next ≤ m'.next → ((o : ℕ) → o < F.count → is_ended (F.stage o) ≡ false → m'.block (F.block o) ≡ m.block (F.block o))
        → Rel K F s m'
    rel-other m' le same = record {
      count = r.count;
      type = r.type;
      laid = r.laid;
      gone = r.gone;
      stands = λ o lt e. let h = r.stands o lt e in record { block = h.block; there = same o lt e ∙ h.there; size = h.size; cells = h.cells };
      below = λ o lt e. let b = r.below o lt e in omega (arith, b, le);
      apart = r.apart;
    }

    -- ---- an object changes in its block

    pub rel-changed : (o : ℕ) (y : Object) (x : Option Block) → o < F.count → is_ended (F.stage o) ≡ false → y.type ≡ F.type o → y.is_gone ≡ false
        → Stands K F o y (record m { block = put_block (F.block o) x m.block })
        → Rel K F (record s { object = upd o y s.object }) (record m { block = put_block (F.block o) x m.block })
    rel-changed o y x lo eo type live h = record {
      count = r.count;
      type = λ p lt. upd-cases (λ (z : Object). z.type ≡ F.type p) o p y s.object (λ e. type ∙ ap F.type (sym e)) (λ ne. r.type p lt);
      laid = r.laid;
      gone = λ p lt. upd-cases (λ (z : Object). z.is_gone ≡ is_ended (F.stage p)) o p y s.object
          (λ e. live ∙ sym eo ∙ ap (λ q. is_ended (F.stage q)) (sym e)) (λ ne. r.gone p lt);
      stands = λ p lt e. upd-cases (λ (z : Object). Stands K F p z (record m { block = put_block (F.block o) x m.block })) o p y s.object
          (λ same. subst (λ q. Stands K F q y (record m { block = put_block (F.block o) x m.block })) (sym same) h)
          (λ ne. elsewhere p lt e ne);
      below = r.below;
      apart = r.apart;
    }
      where
        other_block : (p : ℕ) → p < F.count → is_ended (F.stage p) ≡ false → p == o ≡ false → F.block p == F.block o ≡ false
        other_block p lt e ne = by_test (F.block p == F.block o) refl
          where
            by_test : (b : Bool) → F.block p == F.block o ≡ b → F.block p == F.block o ≡ false
            by_test false k = k
            by_test true k =
                let same : F.block p ≡ F.block o = grind (arith, nat_tests, k) in
                let one : p ≡ o = r.apart p o lt lo e eo same in
                absurd (grind (arith, nat_tests, ne, one))

        elsewhere : (p : ℕ) → p < F.count → is_ended (F.stage p) ≡ false → p == o ≡ false
            → Stands K F p (s.object p) (record m { block = put_block (F.block o) x m.block })
        elsewhere p lt e ne =
            let h = r.stands p lt e in
            record {
              block = h.block;
              there = block-other (F.block o) (F.block p) x m.block (other_block p lt e ne) ∙ h.there;
              size = h.size;
              cells = h.cells;
            }
