-- Arithmetic and comparison of pointers (5.7, 5.9, 5.10).
use Rattle.std.specs.Prelude.{ℕ, nat_lt, nat_le, Bool, true, false, ◌&&◌, ◌==◌, if◌then◌else◌, ℤ, pos, negsuc, ◌+ℤ◌, ◌-ℤ◌, Option, Some, None, Result, Ok, Err}
use Rattle.cf_base.specs.declared.kind.Kind.TheVariants.{Int}
use Rattle.cf_base.specs.declared.arith.Arith.{Arith}
use Rattle.cf_base.specs.declared.arith.Arith.TheVariants as op
use Rattle.cf_base.specs.Integers.{ranged, truth}
use Rattle.cc_whole_memory.specs.declared.value.Pointer.{Pointer}
use Rattle.cc_whole_memory.specs.declared.value.Pointer.TheVariants as pointer
use Rattle.cc_whole_memory.specs.Blocks.{Block, Memory, null_used, not_live, outside, no_value, different_blocks}

abbrev pub in_range : ℕ → ℕ → ℤ → Result Pointer ℕ
in_range b size (pos q) = if nat_le q size then Ok (pointer.At b q) else Err outside
in_range b size (negsuc q) = Err outside

abbrev pub moved_in : ℕ → ℤ → Option Block → Result Pointer ℕ
moved_in b q None = Err not_live
moved_in b q (Some x) = in_range b x.size q

-- a pointer moved by so many bytes, within its block or to its end
abbrev pub moved : Pointer → ℤ → Memory → Result Pointer ℕ
moved pointer.Null z m = Err null_used
moved (pointer.At b q) z m = moved_in b (pos q +ℤ z) (m.block b)

abbrev pub moved_back : Pointer → ℤ → Memory → Result Pointer ℕ
moved_back pointer.Null z m = Err null_used
moved_back (pointer.At b q) z m = moved_in b (pos q -ℤ z) (m.block b)

abbrev pub if_live : {A : Type 0} → Option Block → Result A ℕ → Result A ℕ
if_live None r = Err not_live
if_live (Some x) r = r

-- two pointers into one block, by their offsets
abbrev pub in_one_block : {A : Type 0} → Pointer → Pointer → Memory → (ℕ → ℕ → Result A ℕ) → Result A ℕ
in_one_block pointer.Null q m go = Err null_used
in_one_block (pointer.At b i) pointer.Null m go = Err null_used
in_one_block (pointer.At b i) (pointer.At c j) m go = if b == c then if_live (m.block b) (go i j) else Err different_blocks

-- the difference of two offsets is an int, and so is their order; no other operator takes two pointers into one block
abbrev pub of_offsets : Arith → ℕ → ℕ → Result ℤ ℕ
of_offsets op.Subtract i j = ranged Int (pos i -ℤ pos j)
of_offsets op.Less i j = truth (nat_lt i j)
of_offsets op.Greater i j = truth (nat_lt j i)
of_offsets op.LessEqual i j = truth (nat_le i j)
of_offsets op.GreaterEqual i j = truth (nat_le j i)
of_offsets o i j = Err no_value

-- the difference or the order of two pointers is that of their offsets
abbrev pub of_pointers : Arith → Pointer → Pointer → Memory → Result ℤ ℕ
of_pointers o p q m = in_one_block p q m (λ i j. of_offsets o i j)

-- whether two pointers are equal, which is never an act
abbrev pub same_pointer : Pointer → Pointer → Bool
same_pointer pointer.Null pointer.Null = true
same_pointer pointer.Null (pointer.At c j) = false
same_pointer (pointer.At b i) pointer.Null = false
same_pointer (pointer.At b i) (pointer.At c j) = b == c && i == j
