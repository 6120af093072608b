-- Lists of blocks as memories.
use Rattle.std.proofs.Common.{◌≡◌, ℕ, zero, suc, ◌+◌, ◌-◌, ◌<◌, nat_lt, ◌&&◌, Bool, true, false, if◌then◌else◌, List, [], ◌∷◌, ◌++◌, length, replicate, Option, Some, None, slice_get, length-append, refl, nat_le, ◌≤◌, Ok, Err, ap, sym, ◌∙◌, arith}
use Rattle.std.proofs.lemmas.Bool.Decides.{nat_tests}
use Rattle.std.proofs.lemmas.List.{length-replicate}
use Rattle.cc_whole_memory.specs.declared.cells.Cell.{Cell}
use Rattle.cc_whole_memory.specs.declared.cells.Cell.TheVariants as cell
use Rattle.cc_whole_memory.specs.declared.store.Block.{Block as Held}
use Rattle.cc_whole_memory.specs.declared.store.Storage.{Storage}
use Rattle.cc_whole_memory.specs.Cells.{Cells, placed, cleared, taken}
use Rattle.cc_whole_memory.specs.declared.value.Pointer.{Pointer}
use Rattle.cc_whole_memory.specs.declared.value.Pointer.TheVariants as pointer
use Rattle.cc_whole_memory.specs.Blocks.{Block, Memory, put_block, first_cell, new_block, born, reached, inside, on_ok, laid, carry, with_cells}
use Rattle.cc_whole_memory.specs.Lists.{cell_at}
use Rattle.cc_whole_memory.specs.Store.{held_block, block_of, memory_in, Reaches, Takes}

push_block : (xs : List Held) (x : Held) (b : ℕ)
    → block_of (slice_get (xs ++ x ∷ []) b) ≡ put_block (length xs) (block_of (Some x)) (λ c. block_of (slice_get xs c)) b
push_block [] x zero = refl
push_block [] x (suc b) = grind (arith, nat_tests)
push_block (y ∷ xs) x zero = grind (arith, nat_tests)
push_block (y ∷ xs) x (suc b) = push_block xs x b ∙ grind (arith, nat_tests)

-- a block put at the end of the list is a new block
memory-push : (xs : List Held) (x : Held) → memory_in (xs ++ x ∷ [])
    ≡ record { next = suc (length xs); block = put_block (length xs) (block_of (Some x)) (λ c. block_of (slice_get xs c)) }
memory-push xs x =
    ap (λ n. record { next = n; block = λ b. block_of (slice_get (xs ++ x ∷ []) b) })
    (length-append xs (x ∷ []) ∙ let h : length xs + 1 ≡ suc (length xs) = omega arith in h)
    ∙ ap (λ (f : ℕ → Option Block). record { next = suc (length xs); block = f }) (λ j b. push_block xs x b j)

replicated : (n : ℕ) (c : Cell) (i : ℕ) → cell_at (replicate n c) i ≡ (if nat_lt i n then c else cell.Gone)
replicated zero c i = grind (arith, nat_tests)
replicated (suc n) c zero = grind (arith, nat_tests)
replicated (suc n) c (suc i) = replicated n c i ∙ grind (arith, nat_tests)

cells-born : (s : Storage) (n : ℕ) (cells : List Cell) → cells ≡ replicate n (first_cell s)
    → Some (record { storage = s; size = length cells; cells = cell_at cells }) ≡ Some (new_block s n)
cells-born s n cells is =
    ap (λ l. Some (record { storage = s; size = length l; cells = cell_at l })) is
    ∙ ap (λ k. Some (record { storage = s; size = k; cells = cell_at (replicate n (first_cell s)) })) (length-replicate n (first_cell s))
    ∙ ap (λ (f : Cells). Some (record { storage = s; size = n; cells = f })) (λ j i. replicated n (first_cell s) i j)

-- a live block of cells that all read as the first one is a new block
pub born-push : (xs : List Held) (x : Held) (s : Storage) (n : ℕ) → x.is_live ≡ true → x.storage ≡ s → x.cells.items ≡ replicate n (first_cell s)
    → memory_in (xs ++ x ∷ []) ≡ born s n (memory_in xs)
born-push xs x s n live storage cells =
    memory-push xs x
    ∙ ap (λ (o : Option Block). record { next = suc (length xs); block = put_block (length xs) o (λ c. block_of (slice_get xs c)) })
    (ap (λ t. if t then Some (record { storage = x.storage; size = length x.cells.items; cells = cell_at x.cells.items }) else None) live
    ∙ ap (λ t. Some (record { storage = t; size = length x.cells.items; cells = cell_at x.cells.items })) storage
    ∙ cells-born s n x.cells.items cells)

live_block : (blocks : List Held) (b : ℕ) (x : Held) → slice_get blocks b ≡ Some x → x.is_live ≡ true → block_of (slice_get blocks b) ≡ Some (held_block x)
live_block blocks b x there live = ap block_of there ∙ ap (λ t. if t then Some (held_block x) else None) live

within-size : (q n size : ℕ) → nat_le (q + n) size ≡ true → q + n ≤ size
within-size q n size e = grind (arith, nat_tests, e)

-- bytes inside a live block are reached
pub reaches : (p : Pointer) (n : ℕ) (blocks : List Held) (b q : ℕ) (x : Held) → p ≡ pointer.At b q → slice_get blocks b ≡ Some x → x.is_live ≡ true
    → nat_le (q + n) (length x.cells.items) ≡ true → Reaches p n blocks b q
reaches p n blocks b q x is there live test = record {
  held = x;
  there = there;
  live = live;
  inside = within-size q n (length x.cells.items) test;
  same = ap (λ a. reached a n (memory_in blocks)) is ∙ ap (inside b q n) (live_block blocks b x there live)
      ∙ ap (λ t. if t then Ok (record { number = b; offset = q; block = held_block x }) else Err 6) test;
}

-- bytes outside a live block are not
pub outside-live : (p : Pointer) (n : ℕ) (blocks : List Held) (b q : ℕ) (x : Held) → p ≡ pointer.At b q → slice_get blocks b ≡ Some x → x.is_live ≡ true
    → nat_le (q + n) (length x.cells.items) ≡ false → reached p n (memory_in blocks) ≡ Err 6
outside-live p n blocks b q x is there live test =
    ap (λ a. reached a n (memory_in blocks)) is ∙ ap (inside b q n) (live_block blocks b x there live)
    ∙ ap (λ t. if t then Ok (record { number = b; offset = q; block = held_block x }) else Err 6) test

-- only the pieces that are placed count
pub placed-same : (k q : ℕ) (f g to : Cells) → ((j : ℕ) → j < k → f j ≡ g j) → placed k f q to ≡ placed k g q to
placed-same k q f g to same = λ j i. path i j
  where
    by_test : (i : ℕ) (t : Bool) → (nat_le q i && nat_lt i (q + k)) ≡ t → (if t then f (i - q) else cleared q k to i) ≡ (if t then g (i - q) else cleared q k to i)
    by_test i true e = let lt : i - q < k = grind (arith, nat_tests, e) in same (i - q) lt
    by_test i false e = refl

    path : (i : ℕ) → placed k f q to i ≡ placed k g q to i
    path i = by_test i (nat_le q i && nat_lt i (q + k)) refl

pub laid-same : (n : ℕ) (f g : Cells) (to : Pointer) (m : Memory) → ((j : ℕ) → j < n → f j ≡ g j) → laid n f to m ≡ laid n g to m
laid-same n f g to m same = ap (on_ok (reached to n m)) (λ i at. Ok (with_cells at (placed-same n at.offset f g at.block.cells same i) m))

-- a move of what was taken
pub carry-taken : (n : ℕ) (from to : Pointer) (blocks : List Held) (found : List Cell) → Takes from n blocks found
    → carry n from to (memory_in blocks) ≡ laid n (cell_at found) to (memory_in blocks)
carry-taken n from to blocks found t =
    ap (λ r. on_ok r (λ at. laid n (taken n at.block.cells at.offset) to (memory_in blocks))) t.same
    ∙ laid-same n (taken n t.place.block.cells t.place.offset) (cell_at found) to (memory_in blocks) (λ j lt. sym (t.pieces j lt))

pub carry-untaken : (n act : ℕ) (from to : Pointer) (blocks : List Held) → reached from n (memory_in blocks) ≡ Err act → carry n from to (memory_in blocks) ≡ Err act
carry-untaken n act from to blocks e = ap (λ r. on_ok r (λ at. laid n (taken n at.block.cells at.offset) to (memory_in blocks))) e
