-- Scalars of a block that are filled by stores of the C, one after the other: each holds 0 or null then, and what lies apart is as before.
use Rattle.std.proofs.Common.{◌≡◌, ℕ, zero, suc, ◌+◌, ◌*◌, ◌<◌, ◌≤◌, nat_le, nat_lt, Bool, true, false, ◌==◌, if◌then◌else◌, List, [], ◌∷◌, ◌++◌, refl, sym, ◌∙◌, ap, subst, arith, ◌⊎◌, inl, inr}
use Rattle.std.proofs.Math.Nat.{suc-mul, mul-le-mul_right}
use Rattle.std.specs.Prelude.{Option, Some, None, Result, Ok, Err, pos, ◌+ℤ◌}
use Rattle.std.proofs.lemmas.Bool.Decides.{nat_tests}
use Rattle.cf_base.specs.declared.kind.Kind.TheVariants.{Int}
use Rattle.cf_base.specs.declared.arith.Arith.TheVariants as op
use Rattle.cf_base.specs.World.{World, Ran, Went, and_then}
use Rattle.cf_core.specs.Types.{SourceType, array, const}
use Rattle.cf_core.specs.Classes.{Class}
use Rattle.cf_core.specs.Size.{size}
use Rattle.cf_lower_layout.specs.Layout.{Apart}
use Rattle.cf_lower_layout.specs.Sorts.{Sort, sort_of}
use Rattle.cc_whole.specs.Plain.{Expression, Statement, pointed}
use Rattle.cc_whole_memory.specs.declared.value.Pointer.TheVariants as pointer
use Rattle.cc_whole_memory.specs.declared.value.Scalar.{Scalar}
use Rattle.cc_whole_memory.specs.declared.value.Value.{Value}
use Rattle.cc_whole_memory.specs.declared.value.Value.TheVariants as value
use Rattle.cc_whole_memory.specs.Values.{bytes_of, size_of, as_scalar, zero_of}
use Rattle.cc_whole_memory.specs.Cells as cells_of
use Rattle.cc_whole_memory.specs.Cells.{Cells, load}
use Rattle.cc_whole_memory.specs.Blocks as blocks
use Rattle.cc_whole_memory.specs.Blocks.{Block, Memory, on_ok, inside, write, with_cells, put_block}
use Rattle.cc_whole_memory.specs.Pointers.{moved_in}
use Rattle.cc_whole_mean.specs.Flow as c
use Rattle.cc_whole_mean.specs.Flow.{in_memory, tried, falling}
use Rattle.cc_whole_mean.specs.Mean as mean
use Rattle.cc_whole_mean.specs.Scope.{Scope}
use Rattle.cc_whole_mean.specs.Types.{scalar_of}
use Rattle.cc_whole_mean.specs.Values.{value_of, fitted, addressed, applied, address_value, target_of, assigned, assigned_to, stored}
use Rattle.cf_lower.specs.Written.{if_scalar, c_type}
use Rattle.cf_lower.specs.Expressions.{zero as nought, as_stored}
use Rattle.cf_lower.specs.Statements.{put, behind, for_each, zeros}
use Rattle.cf_lower_relate.specs.Scalars.{c_scalar}
use Rattle.cf_lower_relate.proofs.Cells.{load-same, load-apart}
use Rattle.cf_lower_relate.proofs.Objects.{block-same, block-other}
use Rattle.cf_lower_relate.proofs.Sorts.{bytes-some, sort-bytes}
use Rattle.cf_lower_steps.specs.Lowering.{runs}
use Rattle.cf_lower_steps.proofs.Statements.{runs-join, runs-one}
use Rattle.cf_lower_actions.proofs.Noughts.{nought-fits, nought-stays, nought-size, nought-same}

-- what stands so many bytes behind is 0 or null
abbrev pub ZeroIf : Option Sort → ℕ → Cells → Type 0
ZeroIf None q cells = Unit {0}
ZeroIf (Some u) q cells = load (c_scalar u) cells q ≡ Some (zero_of (c_scalar u))

-- and so is each scalar of an object of this type
abbrev pub Zeroed : List Class → SourceType → ℕ → Cells → Type 0
Zeroed classes (array t n) q cells = (i : ℕ) → i < n → Zeroed classes t (q + i * size classes t) cells
Zeroed classes (const t) q cells = Zeroed classes t q cells
Zeroed classes t q cells = ZeroIf (sort_of t) q cells

-- ---- what stays

module _ (classes : List Class) (old now : Cells) where
  abbrev Same : ℕ → ℕ → Type 0
  Same x n = (a : Scalar) (k : ℕ) → 0 < bytes_of a → x ≤ k → k + bytes_of a ≤ x + n → load a now k ≡ load a old k

  scalar-kept : (y : SourceType) (o : Option Sort) → sort_of y ≡ o → (x : ℕ) → Same x (size classes y) → ZeroIf o x old → ZeroIf o x now
  scalar-kept y None e x same z = tt
  scalar-kept y (Some u) e x same z =
      same (c_scalar u) x (bytes-some u) (omega arith) (let b = sort-bytes classes y u e in omega (arith, b)) ∙ z

  zeroed-kept : (y : SourceType) (x : ℕ) → Same x (size classes y) → Zeroed classes y x old → Zeroed classes y x now
  zeroed-kept (array y n) x same z = λ i lt.
      zeroed-kept y (x + i * size classes y)
      (λ a k some lo hi. same a k some (omega (arith, lo))
      (let le : suc i * size classes y ≤ n * size classes y = mul-le-mul_right (size classes y) lt in
      let e = suc-mul i (size classes y) in
      omega (arith, hi, le, e)))
      (z i lt)
  zeroed-kept (const y) x same z = zeroed-kept y x same z
  zeroed-kept y x same z = scalar-kept y (sort_of y) refl x same z

-- ---- the C's stores

module _ (again helps : mean.Again) (program : mean.Program) (helper : Bool) (scope : Scope) (depth : ℕ) (w : World) (t : c.State)
    (P : Expression) (b q : ℕ) (blk : Block) (m : Memory)
    (stays : (k : Memory) → ((x : ℕ) → x == b ≡ false → k.block x ≡ m.block x) → value_of P scope k ≡ Ok (value.Address (pointer.At b q))) where
  abbrev pub list : List Statement → Memory → Ran c.Flow
  list ss k = runs again helps program helper scope depth ss (in_memory t k) w

  -- the block has other cells, and nothing else has changed
  pub record Changed (k : Memory) (cells : Cells) : Type 0 where
    pub next : k.next ≡ m.next
    pub there : k.block b ≡ Some (record blk { cells = cells })
    pub elsewhere : (x : ℕ) → x == b ≡ false → k.block x ≡ m.block x

  -- statements that change so many bytes of it
  pub record Filled (ss : List Statement) (k : Memory) (at n : ℕ) (cells : Cells) (Done : Cells → Type 0) : Type 0 where
    pub after : Memory
    pub now : Cells
    pub run : list ss k ≡ Went (c.Falls (in_memory t after)) w
    pub changed : Changed after now
    pub done : Done now
    pub apart : (a : Scalar) (x : ℕ) → 0 < bytes_of a → Apart x (bytes_of a) at n → load a now x ≡ load a cells x

  -- a value is stored in a scalar
  module _ (u : Sort) (e : Expression) (v : Value) (is : (k : Memory) → value_of (as_stored u e) scope k ≡ Ok v) (fit : fitted (scalar_of (c_type u)) v ≡ Ok v)
      (bytes : size_of v ≡ bytes_of (c_scalar u)) (same : as_scalar (c_scalar u) v ≡ Some v) (n : ℕ) (k : Memory) (cells : Cells) (before : Changed k cells)
      (room : q + n + bytes_of (c_scalar u) ≤ blk.size) where
    abbrev pub place : blocks.Place
    place = record { number = b; offset = q + n; block = record blk { cells = cells } }

    abbrev pub behind_it : Memory
    behind_it = with_cells place (cells_of.put v (q + n) cells) k

    pub target : target_of (pointed (c_type u) (behind P n)) scope k ≡ Ok (record { pointer = pointer.At b (q + n); scalar = scalar_of (c_type u) })
    target =
        ap (λ a. on_ok (on_ok a (λ x. on_ok (Ok (value.Number Int (pos n))) (λ y. applied op.Add x y k))) (λ v. addressed v (λ p. Ok (record { pointer = p; scalar = scalar_of (c_type u) }))))
        (stays k before.elsewhere)
        ∙ ap (λ x. on_ok (address_value (moved_in b (pos q +ℤ pos n) x)) (λ v. addressed v (λ p. Ok (record { pointer = p; scalar = scalar_of (c_type u) })))) before.there
        ∙ ap (λ a. on_ok (address_value (if a then Ok (pointer.At b (q + n)) else Err blocks.outside)) (λ v. addressed v (λ p. Ok (record { pointer = p; scalar = scalar_of (c_type u) }))))
        (let h : nat_le (q + n) blk.size ≡ true = grind (arith, nat_tests, room) in h)

    pub written : write (pointer.At b (q + n)) v k ≡ Ok behind_it
    written =
        ap (λ x. on_ok (inside b (q + n) (size_of v) x) (λ at. Ok (with_cells at (cells_of.put v at.offset at.block.cells) k))) before.there
        ∙ ap (λ a. on_ok (if a then Ok place else Err blocks.outside) (λ at. Ok (with_cells at (cells_of.put v at.offset at.block.cells) k)))
        (let h : nat_le (q + n + size_of v) blk.size ≡ true = grind (arith, nat_tests, room, bytes) in h)

    pub does : assigned (pointed (c_type u) (behind P n)) (as_stored u e) scope k ≡ Ok behind_it
    does =
        ap (λ a. on_ok a (λ at. assigned_to at (as_stored u e) scope k)) target
        ∙ ap (λ a. on_ok a (λ v. stored (record { pointer = pointer.At b (q + n); scalar = scalar_of (c_type u) }) v k)) (is k)
        ∙ ap (λ a. on_ok a (λ v. write (pointer.At b (q + n)) v k)) fit
        ∙ written

    abbrev pub put-filled : Filled (put u (behind P n) e ∷ []) k (q + n) (bytes_of (c_scalar u)) cells (λ now. load (c_scalar u) now (q + n) ≡ Some v)
    put-filled = record {
      after = behind_it;
      now = cells_of.put v (q + n) cells;
      run = runs-one again helps program helper scope depth (put u (behind P n) e) (in_memory t k) w (in_memory t behind_it)
          (ap (λ x. tried x w (λ a. Went (c.Falls (in_memory (in_memory t k) a)) w)) does);
      changed = record {
        next = before.next;
        there = block-same b (Some (record blk { cells = cells_of.put v (q + n) cells })) k.block;
        elsewhere = λ x ne. block-other b x (Some (record blk { cells = cells_of.put v (q + n) cells })) k.block ne ∙ before.elsewhere x ne;
      };
      done = load-same (c_scalar u) v (q + n) cells bytes ∙ same;
      apart = λ a x some far.
          load-apart a v (q + n) x cells (let one = bytes-some u in omega (arith, one, bytes)) some (subst (λ z. Apart x (bytes_of a) (q + n) z) (sym bytes) far);
    }

  -- ---- an object of a type

  module _ (classes : List Class) where
    abbrev Zeros : SourceType → Type 0
    Zeros y = (n : ℕ) (k : Memory) (cells : Cells) → Changed k cells → q + n + size classes y ≤ blk.size
        → Filled (zeros classes y P n) k (q + n) (size classes y) cells (Zeroed classes y (q + n))

    scalar-zeros : (y : SourceType) (o : Option Sort) → sort_of y ≡ o → (n : ℕ) (k : Memory) (cells : Cells) → Changed k cells → q + n + size classes y ≤ blk.size
        → Filled (if_scalar o [] (λ s. put s (behind P n) nought ∷ [])) k (q + n) (size classes y) cells (ZeroIf o (q + n))
    scalar-zeros y None e n k cells before room = record { after = k; now = cells; run = refl; changed = before; done = tt; apart = λ a x some far. refl }
    scalar-zeros y (Some u) e n k cells before room =
        let bytes = sort-bytes classes y u e in
        subst (λ s. Filled (put u (behind P n) nought ∷ []) k (q + n) s cells (ZeroIf (Some u) (q + n))) (sym bytes)
        (put-filled u nought (zero_of (c_scalar u)) (λ k. nought-fits u) (nought-stays u) (nought-size u) (nought-same u) n k cells before (omega (arith, room, bytes)))

    module _ (y : SourceType) (one : Zeros y) (n : ℕ) where
      abbrev S : ℕ
      S = size classes y

      abbrev Elements : ℕ → ℕ → Cells → Type 0
      Elements i count now = (j : ℕ) → i ≤ j → j < i + count → Zeroed classes y (q + (n + j * S)) now

      elements : (count i : ℕ) (k : Memory) (cells : Cells) → Changed k cells → q + (n + i * S) + count * S ≤ blk.size
          → Filled (for_each i count (λ j. zeros classes y P (n + j * S))) k (q + (n + i * S)) (count * S) cells (Elements i count)
      elements zero i k cells before room =
          record { after = k; now = cells; run = refl; changed = before; done = λ j lo hi. absurd (let n : ⊥ = omega (arith, lo, hi) in n); apart = λ a x some far. refl }
      elements (suc count) i k cells before room =
          let more = suc-mul count S in
          let next = suc-mul i S in
          let first = one (n + i * S) k cells before (omega (arith, room, more)) in
          let rest = elements count (suc i) first.after first.now first.changed (omega (arith, room, more, next)) in
          record {
            after = rest.after;
            now = rest.now;
            run = runs-join again helps program helper scope depth (zeros classes y P (n + i * S)) (for_each (suc i) count (λ j. zeros classes y P (n + j * S))) (in_memory t k) w
                ∙ ap (λ r. and_then r (falling (λ t w. runs again helps program helper scope depth (for_each (suc i) count (λ j. zeros classes y P (n + j * S))) t w))) first.run
                ∙ rest.run;
            changed = rest.changed;
            done = λ j lo hi. by_number j lo hi (nat_lt i j) refl first.now rest.now first.done rest.done
                (zeroed-kept classes first.now rest.now y (q + (n + i * S)) (λ a x some from to. rest.apart a x some (inl (omega (arith, to, next)))));
            apart = λ a x some far. rest.apart a x some (behind_first a x far more next) ∙ first.apart a x some (in_first a x far more);
          }
        where
          by_number : (j : ℕ) → i ≤ j → j < i + suc count → (b : Bool) → nat_lt i j ≡ b → (old now : Cells) → Zeroed classes y (q + (n + i * S)) old → Elements (suc i) count now
              → (Zeroed classes y (q + (n + i * S)) old → Zeroed classes y (q + (n + i * S)) now) → Zeroed classes y (q + (n + j * S)) now
          by_number j lo hi true e old now here later keep = later j (grind (arith, nat_tests, e)) (omega (arith, hi))
          by_number j lo hi false e old now here later keep =
              subst (λ x. Zeroed classes y (q + (n + x * S)) now) (let same : i ≡ j = grind (arith, nat_tests, e, lo) in same) (keep here)

          in_first : (a : Scalar) (x : ℕ) → Apart x (bytes_of a) (q + (n + i * S)) (suc count * S) → suc count * S ≡ count * S + S → Apart x (bytes_of a) (q + (n + i * S)) S
          in_first a x (inl le) more = inl le
          in_first a x (inr le) more = inr (omega (arith, le, more))

          behind_first : (a : Scalar) (x : ℕ) → Apart x (bytes_of a) (q + (n + i * S)) (suc count * S) → suc count * S ≡ count * S + S → suc i * S ≡ i * S + S
              → Apart x (bytes_of a) (q + (n + suc i * S)) (count * S)
          behind_first a x (inl le) more next = inl (omega (arith, le, next))
          behind_first a x (inr le) more next = inr (omega (arith, le, more, next))

    pub zeros-filled : (y : SourceType) → Zeros y
    zeros-filled (array y len) n k cells before room =
        let none : 0 * size classes y ≡ 0 = omega arith in
        let all = elements y (λ n k cells before room. zeros-filled y n k cells before room) n len 0 k cells before (omega (arith, room, none)) in
        let start : q + (n + 0 * size classes y) ≡ q + n = omega (arith, none) in
        record {
          after = all.after;
          now = all.now;
          run = all.run;
          changed = all.changed;
          done = λ i lt. subst (λ x. Zeroed classes y x all.now) (let e : q + (n + i * size classes y) ≡ q + n + i * size classes y = omega arith in e) (all.done i (omega arith) (omega (arith, lt)));
          apart = λ a x some far. all.apart a x some (subst (λ s. Apart x (bytes_of a) s (len * size classes y)) (sym start) far);
        }
    zeros-filled (const y) n k cells before room = zeros-filled y n k cells before room
    zeros-filled y n k cells before room = scalar-zeros y (sort_of y) refl n k cells before room
