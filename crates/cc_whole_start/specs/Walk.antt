-- What one item of a program adds to its names, its memory, and the bytes of its variables.
use Rattle.std.specs.Prelude.{ℕ, suc, ◌+◌, ◌-◌, nat_lt, if◌then◌else◌, List, [], ◌∷◌, pos, Option, Some, None}
use Rattle.cf_base.specs.declared.kind.Kind.TheVariants as kind
use Rattle.cf_base.specs.Integers.{convert}
use Rattle.cc_whole.specs.declared.unit.CPair.{CPair}
use Rattle.cc_whole.specs.declared.unit.CVariable.{CVariable}
use Rattle.cc_whole.specs.Plain.{Item, declares, declares_variable, defines, defines_variable}
use Rattle.cc_whole_link.specs.Static.{rounded, variable_bytes}
use Rattle.cc_whole_memory.specs.declared.value.Value.{Value}
use Rattle.cc_whole_memory.specs.declared.value.Value.TheVariants as value
use Rattle.cc_whole_memory.specs.declared.store.Storage.TheVariants as storage
use Rattle.cc_whole_memory.specs.Blocks.{Memory, born}
use Rattle.cc_whole_mean.specs.declared.named.Named.TheVariants.{Variable as variable, Function as function}
use Rattle.cc_whole_mean.specs.Types.{constant_value, variable_shape, variable_size}
use Rattle.cc_whole_mean.specs.Scope.{Scope, bind}
use Rattle.cc_whole_mean.specs.Start.{put_static, pair_function, initialised}

-- ---- names

-- a variable's name stands for its block
abbrev pub variable_bound : Item → ℕ → Scope → Scope
variable_bound (declares p) b scope = scope
variable_bound (declares_variable t name) b scope = scope
variable_bound (defines f) b scope = scope
variable_bound (defines_variable x) b scope = bind x.name (variable b (variable_shape x.ty)) scope

abbrev pub blocks_of : Item → ℕ
blocks_of (declares p) = 0
blocks_of (declares_variable t name) = 0
blocks_of (defines f) = 0
blocks_of (defines_variable x) = 1

-- the number of the next block
abbrev pub block_behind : Item → ℕ → ℕ
block_behind (declares p) b = b
block_behind (declares_variable t name) b = b
block_behind (defines f) b = b
block_behind (defines_variable x) b = suc b

-- a function's name stands for its number
abbrev pub function_bound : Item → ℕ → Scope → Scope
function_bound (declares p) n scope = scope
function_bound (declares_variable t name) n scope = scope
function_bound (defines f) n scope = bind f.prototype.name (function n) scope
function_bound (defines_variable x) n scope = scope

-- the next function's number
abbrev pub number_behind : Item → ℕ → ℕ
number_behind (declares p) n = n
number_behind (declares_variable t name) n = n
number_behind (defines f) n = suc n
number_behind (defines_variable x) n = n

abbrev pub numbers_behind : List Item → ℕ → ℕ
numbers_behind [] n = n
numbers_behind (i ∷ rest) n = numbers_behind rest (number_behind i n)

-- ---- memory

abbrev pub char_of : ℕ → Value
char_of byte = value.Number kind.Char (convert kind.Char (pos byte))

-- a pair at an offset of a block
abbrev pub put_pair : Scope → CPair → ℕ → ℕ → Memory → Memory
put_pair names x b q m = put_static b (q + 4) (value.Function (pair_function names x.function)) (put_static b q (constant_value x.number) m)

abbrev pub laid_variable : Scope → CVariable → Memory → Memory
laid_variable names x m = initialised names x.initialiser m.next (born storage.Static (variable_size x.ty) m)

abbrev pub laid_item : Scope → Item → Memory → Memory
laid_item names (declares p) m = m
laid_item names (declares_variable t name) m = m
laid_item names (defines f) m = m
laid_item names (defines_variable x) m = laid_variable names x m

-- ---- the limit on the bytes of variables

abbrev pub bytes_taken : Item → ℕ
bytes_taken (declares p) = 0
bytes_taken (declares_variable t name) = 0
bytes_taken (defines f) = 0
bytes_taken (defines_variable x) = rounded (variable_bytes x.ty)

-- what is left once so many are taken, if there are as many
abbrev pub left_behind : ℕ → ℕ → Option ℕ
left_behind left n = if nat_lt left n then None else Some (left - n)
