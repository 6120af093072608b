-- An assignment of the C changes one block, which keeps its size.
use Rattle.std.proofs.Common.{◌≡◌, ℕ, ◌+◌, ◌≤◌, nat_le, Bool, true, false, ◌==◌, if◌then◌else◌, refl, sym, ◌∙◌, ap, subst, arith}
use Rattle.std.specs.Prelude.{Option, Some, None, Result, Ok, Err}
use Rattle.std.proofs.lemmas.Bool.Decides.{nat_tests}
use Rattle.cc_whole.specs.Plain.{Expression, named, pointed}
use Rattle.cc_whole.specs.Plain as c_tree
use Rattle.cc_whole_memory.specs.declared.value.Pointer.{Pointer}
use Rattle.cc_whole_memory.specs.declared.value.Pointer.TheVariants as pointer
use Rattle.cc_whole_memory.specs.declared.value.Value.{Value}
use Rattle.cc_whole_memory.specs.Values.{size_of, bytes_of}
use Rattle.cc_whole_memory.specs.Cells.{Cells, put, placed, taken}
use Rattle.cc_whole_memory.specs.Blocks as blocks
use Rattle.cc_whole_memory.specs.Blocks.{Block, Memory, Place, put_block, inside, reached, on_ok, write, laid, carry, with_cells}
use Rattle.cc_whole_mean.specs.declared.named.Target.{Target}
use Rattle.cc_whole_mean.specs.Scope.{Scope}
use Rattle.cc_whole_mean.specs.Values.{value_of, target_of, fitted, stored, assigned, assigned_to, by_source, source_of}
use Rattle.cf_lower_turns.specs.Here.{Remains}

-- blocks are still there, and no block has come
pub record Keeps (m k : Memory) : Type 0 where
  pub remains : (b : ℕ) (x : Block) → m.block b ≡ Some x → Remains x (k.block b)
  pub next : k.next ≡ m.next

abbrev KeepsIf : Memory → Result Memory ℕ → Type 0
KeepsIf m (Ok k) = Keeps m k
KeepsIf m (Err act) = Unit {0}

some-block : {x y : Block} → Some x ≡ Some y → x ≡ y
some-block e = cc

-- a block that is there gets other cells
pub changed-keeps : (m : Memory) (b : ℕ) (old : Block) → m.block b ≡ Some old → (cells : Cells) → Keeps m (record m { block = put_block b (Some (record old { cells = cells })) m.block })
changed-keeps m b old there cells = record { remains = λ c x e. by_test c x e (c == b) refl; next = refl }
  where
    by_test : (c : ℕ) (x : Block) → m.block c ≡ Some x → (t : Bool) → c == b ≡ t → Remains x (put_block b (Some (record old { cells = cells })) m.block c)
    by_test c x e true q =
        let same : c ≡ b = grind (arith, nat_tests, q) in
        let block : x ≡ old = some-block (sym e ∙ ap m.block same ∙ there) in
        record {
          block = record old { cells = cells };
          there = ap (λ (t : Bool). if t then Some (record old { cells = cells }) else m.block c) q;
          size = let s : x.size ≡ old.size = ap (λ (y : Block). y.size) block in omega (arith, s);
        }
    by_test c x e false q =
        record { block = x; there = ap (λ (t : Bool). if t then Some (record old { cells = cells }) else m.block c) q ∙ e; size = omega arith }

placed-keeps : (m : Memory) (p : Pointer) (n : ℕ) (cells : Place → Cells) → KeepsIf m (on_ok (reached p n m) (λ at. Ok (with_cells at (cells at) m)))
placed-keeps m pointer.Null n cells = tt
placed-keeps m (pointer.At b q) n cells = by_block (m.block b) refl
  where
    by_block : (x : Option Block) → m.block b ≡ x → KeepsIf m (on_ok (inside b q n x) (λ at. Ok (with_cells at (cells at) m)))
    by_block None e = tt
    by_block (Some x) e = by_size (nat_le (q + n) x.size)
      where
        by_size : (t : Bool) → KeepsIf m (on_ok (if t then Ok (record { number = b; offset = q; block = x }) else Err blocks.outside) (λ at. Ok (with_cells at (cells at) m)))
        by_size true = changed-keeps m b x e (cells (record { number = b; offset = q; block = x }))
        by_size false = tt

write-keeps : (m : Memory) (p : Pointer) (v : Value) → KeepsIf m (write p v m)
write-keeps m p v = placed-keeps m p (size_of v) (λ at. put v at.offset at.block.cells)

laid-keeps : (m : Memory) (n : ℕ) (found : Cells) (p : Pointer) → KeepsIf m (laid n found p m)
laid-keeps m n found p = placed-keeps m p n (λ at. placed n found at.offset at.block.cells)

then-keeps : {A : Type 0} (m : Memory) (r : Result A ℕ) (go : A → Result Memory ℕ) → ((a : A) → KeepsIf m (go a)) → KeepsIf m (on_ok r go)
then-keeps m (Ok a) go h = h a
then-keeps m (Err act) go h = tt

stored-keeps : (m : Memory) (at : Target) (v : Value) → KeepsIf m (stored at v m)
stored-keeps m at v = then-keeps m (fitted at.scalar v) (λ v. write at.pointer v m) (λ v. write-keeps m at.pointer v)

carried-keeps : (m : Memory) (n : ℕ) (from to : Pointer) → KeepsIf m (carry n from to m)
carried-keeps m n from to = then-keeps m (reached from n m) (λ at. laid n (taken n at.block.cells at.offset) to m) (λ at. laid-keeps m n (taken n at.block.cells at.offset) to)

source-keeps : (m : Memory) (scope : Scope) (e : Expression) (at : Target) (from : Option (Result Pointer ℕ)) → KeepsIf m (by_source from e at scope m)
source-keeps m scope e at None = then-keeps m (value_of e scope m) (λ v. stored at v m) (λ v. stored-keeps m at v)
source-keeps m scope e at (Some from) = then-keeps m from (λ p. carry (bytes_of at.scalar) p at.pointer m) (λ p. carried-keeps m (bytes_of at.scalar) p at.pointer)

assigned-keeps-if : (m : Memory) (scope : Scope) (place : c_tree.Place) (e : Expression) → KeepsIf m (assigned place e scope m)
assigned-keeps-if m scope place e = then-keeps m (target_of place scope m) (λ at. assigned_to at e scope m) (λ at. source-keeps m scope e at (source_of e scope m))

pub assigned-keeps : (m k : Memory) (scope : Scope) (place : c_tree.Place) (e : Expression) → assigned place e scope m ≡ Ok k → Keeps m k
assigned-keeps m k scope place e is = subst (KeepsIf m) is (assigned-keeps-if m scope place e)
