-- New blocks, one by one, and their ends.
use Rattle.std.proofs.Common.{◌≡◌, ℕ, suc, ◌+◌, ◌-◌, ◌<◌, nat_lt, nat_le, ◌==◌, cond, Bool, true, false, Some, Option, Result, Ok, Err, refl, ap, sym, ◌∙◌, arith}
use Rattle.std.specs.Prelude.{IfErr, OnOk, is_ok}
use Rattle.std.specs.Result.{IsOk}
use Rattle.std.proofs.lemmas.Bool.Decides.{nat_tests}
use Rattle.cc_whole_memory.specs.declared.value.Pointer.TheVariants as pointer
use Rattle.cc_whole_memory.specs.declared.value.Value.{Value}
use Rattle.cc_whole_memory.specs.declared.cells.Cell.TheVariants as cell
use Rattle.cc_whole_memory.specs.declared.store.Storage.TheVariants as storage
use Rattle.cc_whole_memory.specs.declared.act.Act.{Act}
use Rattle.cc_whole_memory.specs.Store.{act_number}
use Rattle.cc_whole_memory.specs.Values.{size_of}
use Rattle.cc_whole_memory.specs.Cells.{Cells, put}
use Rattle.cc_whole_memory.specs.Blocks.{Block, Memory, Place, put_block, new_block, born, ended, write, inside, on_ok, with_cells}
use Rattle.cc_whole_mean.specs.Flow.{born_holding, ended_from}
use Rattle.cc_whole_mean.specs.Start.{kept}

pub ended_from-step : (count index first : ℕ) (m : Memory) → index < count
    → ended_from (count - index) (first + index) m ≡ ended_from (count - (index + 1)) (first + (index + 1)) (ended (first + index) m)
ended_from-step count index first m within =
    ap (λ k. ended_from k (first + index) m) (let h : count - index ≡ suc (count - (index + 1)) = omega arith in h)
    ∙ ap (λ b. ended_from (count - (index + 1)) b (ended (first + index) m)) (let h : suc (first + index) ≡ first + (index + 1) = omega arith in h)

-- ---- a block that holds a value

itself : (b : ℕ) → (b == b) ≡ true
itself b = grind (arith, nat_tests)

fits-whole : (n : ℕ) → nat_le (0 + n) n ≡ true
fits-whole n = grind (arith, nat_tests)

either : {A : Type 0} (t : Bool) (c : A) → cond t c c ≡ c
either true c = refl
either false c = refl

put_twice : (b : ℕ) (x y : Option Block) (f : ℕ → Option Block) (c : ℕ) → put_block b x (put_block b y f) c ≡ put_block b x f c
put_twice b x y f c = by (c == b)
  where
    by : (t : Bool) → cond t x (cond t y (f c)) ≡ cond t x (f c)
    by true = refl
    by false = refl

-- the first store in a new block of the value's size
write-born : (v : Value) (m : Memory) → write (pointer.At m.next 0) v (born storage.Local (size_of v) m) ≡ Ok (born_holding v m)
write-born v m =
    let b = m.next in
    let n = size_of v in
    let x : Block = new_block storage.Local n in
    let store : Place → Result Memory ℕ = λ at. Ok (with_cells at (put v at.offset at.block.cells) (born storage.Local n m)) in
    ap (λ t. on_ok (inside b 0 n (cond t (Some x) (m.block b))) store) (itself b)
    ∙ ap (λ t. on_ok (cond t (Ok (record { number = b; offset = 0; block = x })) (Err 6)) store) (fits-whole n)
    ∙ ap (λ (f : ℕ → Option Block). Ok (record { next = suc b; block = f }))
    (λ j c. put_twice b (Some (record { storage = storage.Local; size = n; cells = put v 0 x.cells })) (Some x) m.block c j)
    ∙ ap (λ (f : Cells). Ok (record { next = suc b; block = put_block b (Some (record { storage = storage.Local; size = n; cells = put v 0 f })) m.block }))
    (λ j i. either (nat_lt i n) cell.Gone j)

holding : (v : Value) (b : ℕ) (m new after : Memory) → b ≡ m.next → new ≡ born storage.Local (size_of v) m → write (pointer.At b 0) v new ≡ Ok after
    → after ≡ born_holding v m
holding v b m new after at is e =
    ap (kept m) (sym e ∙ ap (λ k. write (pointer.At k 0) v new) at ∙ ap (write (pointer.At m.next 0) v) is ∙ write-born v m)

never_refused : (v : Value) (b act : ℕ) (m new : Memory) → b ≡ m.next → new ≡ born storage.Local (size_of v) m → write (pointer.At b 0) v new ≡ Err act → ⊥
never_refused v b act m new at is e =
    let bad : true ≡ false =
    ap is_ok (sym (write-born v m) ∙ sym (ap (write (pointer.At m.next 0) v) is) ∙ sym (ap (λ k. write (pointer.At k 0) v new) at) ∙ e) in cc

-- the answer of a store of a value in a new block of its size
module _ {A : Type 0} (v : Value) (b : ℕ) (m new : Memory) (at : b ≡ m.next) (is : new ≡ born storage.Local (size_of v) m) where
  pub is-stored : (r : Result A Act) → IfErr r (λ act. write (pointer.At b 0) v new ≡ Err (act_number act)) → IsOk r
  is-stored (Ok a) e = refl
  is-stored (Err act) e = absurd (never_refused v b (act_number act) m new at is e)

  pub stored-is : (after : Memory) (r : Result A Act) → OnOk r (write (pointer.At b 0) v new ≡ Ok after) → IfErr r (λ act. write (pointer.At b 0) v new ≡ Err (act_number act))
      → after ≡ born_holding v m
  stored-is after (Ok a) ok e = holding v b m new after at is ok
  stored-is after (Err act) ok e = absurd (never_refused v b (act_number act) m new at is e)
