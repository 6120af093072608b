-- What stands in a block: at each offset a value that begins there, nothing, or a byte of a static block that nothing has written.
use Rattle.std.specs.Prelude.{ℕ, zero, suc, ◌+◌, ◌-◌, nat_lt, nat_le, Bool, true, false, ◌&&◌, ◌==◌, if◌then◌else◌, Option, Some, None}
use Rattle.cc_whole_memory.specs.declared.value.Value.{Value}
use Rattle.cc_whole_memory.specs.declared.value.Scalar.{Scalar}
use Rattle.cc_whole_memory.specs.declared.cells.Cell.{Cell}
use Rattle.cc_whole_memory.specs.declared.cells.Cell.TheVariants as cell
use Rattle.cc_whole_memory.specs.Values.{bytes_of, size_of, as_scalar, zero_of}

-- the cells of a block, by offset
abbrev pub Cells : Type 0
Cells = ℕ → Cell

-- how many bytes a cell takes
abbrev pub span : Cell → ℕ
span cell.Zero = 1
span cell.Gone = 1
span (cell.Stored v) = size_of v

-- whether n bytes from i on and k bytes from q on have one in common
abbrev pub overlap : ℕ → ℕ → ℕ → ℕ → Bool
overlap i n q k = nat_lt i (q + k) && nat_lt q (i + n)

-- what is left of a cell at i once k bytes from q on are written
abbrev pub left : ℕ → ℕ → ℕ → Cell → Cell
left q k i c = if overlap i (span c) q k then cell.Gone else c

-- k bytes from q on hold no value
abbrev pub cleared : ℕ → ℕ → Cells → Cells
cleared q k f i = left q k i (f i)

-- a store ends every value that it overlaps
abbrev pub put : Value → ℕ → Cells → Cells
put v q f i = if i == q then cell.Stored v else cleared q (size_of v) f i

abbrev pub is_zero : Cell → Bool
is_zero cell.Zero = true
is_zero cell.Gone = false
is_zero (cell.Stored v) = false

-- whether nothing has written k bytes from q on
abbrev pub zeros : Cells → ℕ → ℕ → Bool
zeros f q zero = true
zeros f q (suc k) = is_zero (f q) && zeros f (suc q) k

abbrev pub load_from : Scalar → Cells → ℕ → Cell → Option Value
load_from t f q cell.Zero = if zeros f q (bytes_of t) then Some (zero_of t) else None
load_from t f q cell.Gone = None
load_from t f q (cell.Stored v) = if size_of v == bytes_of t then as_scalar t v else None

-- a load gives the value of the last store at that offset with that width, if no later store overlapped it and it is of that kind
abbrev pub load : Scalar → Cells → ℕ → Option Value
load t f q = load_from t f q (f q)

-- what a move of k bytes takes from the cell at the j-th of them: whole values, and bytes that nothing has written
abbrev pub whole : ℕ → ℕ → Cell → Cell
whole k j cell.Zero = cell.Zero
whole k j cell.Gone = cell.Gone
whole k j (cell.Stored v) = if nat_le (j + size_of v) k then cell.Stored v else cell.Gone

-- k cells are placed from q on
abbrev pub placed : ℕ → Cells → ℕ → Cells → Cells
placed k pieces q to i = if nat_le q i && nat_lt i (q + k) then pieces (i - q) else cleared q k to i

-- what a move of k bytes from p on takes
abbrev pub taken : ℕ → Cells → ℕ → Cells
taken k from p j = whole k j (from (p + j))
