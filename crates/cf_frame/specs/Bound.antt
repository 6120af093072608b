-- The frame bound of a file's function by its number.
use Rattle.std.specs.Prelude.{◌≡◌, ◌∷◌, ◌++◌, ◌+◌, Bool, not, max, is_some, if◌then◌else◌, ℕ, ◌<◌, ◌≤◌, ◌^◌, List, [], Option, Some, None, length, map, slice_get, ◌/◌}
use Rattle.std.specs.List.{flat_map, sum_by}
use Rattle.cf_base.specs.Integers.{width}
use Rattle.cf_types.specs.declared.ty.Ty.{Ty}
use Rattle.cf_types.specs.declared.ty.Ty.TheVariants as ty
use Rattle.cf_core.specs.Core.{Core, Function, Static, CoreFile}
use Rattle.cf_core.specs.Nodes.{nodes}
use Rattle.cf_core.specs.FromTypes.{type_of}
use Rattle.cf_core.specs.FromUnit.{Unit, tables_of, file_of}
use Rattle.cf_core.specs.Size.{size}
use Rattle.cf_core.specs.Frame.{made_by, slot, is_owned_by, frame_bound, initialiser_bound}
use Rattle.cf_core.specs.Types.{Name}
use Rattle.cf_core.specs.declared.unit.CoreFn.{CoreFn}
use Rattle.cf_core.specs.declared.unit.CoreStatic.{CoreStatic}
use Rattle.cf_frame.specs.Costed.{up_to_most, costed}

-- of a function, or of the file's initialising function
abbrev pub bound_of_found : Unit → Option Function → ℕ
bound_of_found unit None = initialiser_bound (file_of unit).classes (file_of unit).statics
bound_of_found unit (Some f) = frame_bound (file_of unit).classes (file_of unit).statics f

-- of the function of this number; the number after the last stands for the file's initialising function
abbrev pub frame_of : Unit → ℕ → ℕ
frame_of unit i = bound_of_found unit (slice_get (file_of unit).functions i)

-- nodes that make no class object
abbrev pub makes_none : List Core → Type 0
makes_none xs = flat_map (made_by []) xs ≡ []

-- all nodes of a file
abbrev pub nodes_of : CoreFile → List Core
nodes_of file = flat_map (λ (f : Function). nodes f.body) file.functions ++ flat_map (λ (x : Static). nodes x.start) file.statics

-- of each function in order, and behind them that of the file's initialising function
abbrev pub frames_of : CoreFile → List ℕ
frames_of file =
    map (λ f. up_to_most (frame_bound file.classes file.statics f)) file.functions ++ up_to_most (initialiser_bound file.classes file.statics) ∷ []

-- each type has a size that is accepted; no class is there
abbrev pub AreSmall : Unit → Type 0
AreSmall unit = (t : ℕ) → t < length unit.types.types → size [] (type_of (tables_of unit) t) ≤ 2 ^ 22

-- what parameters or locals of these types add
abbrev pub slots_of : Unit → List ℕ → ℕ
slots_of unit types = sum_by (λ t. slot [] (type_of (tables_of unit) t)) types

-- the bytes of what is no array and not const; void, functions and classes count as 1
abbrev pub single_bytes : Ty → ℕ
single_bytes ty.Void = 1
single_bytes (ty.Int k) = width k / 8
single_bytes (ty.Enum e) = 4
single_bytes (ty.Class c) = 1
single_bytes (ty.Ptr t) = 4
single_bytes (ty.Ref t) = 4
single_bytes (ty.Array t n) = 1
single_bytes (ty.Fun f) = 1
single_bytes (ty.MemData c t) = 4
single_bytes (ty.MemFun c f) = 12
single_bytes (ty.Const t) = 1

-- Sums that end at the greatest number of 64 bits, item by item.

abbrev pub slots_after : Unit → ℕ → List ℕ → ℕ
slots_after unit total [] = total
slots_after unit total (t ∷ ts) = slots_after unit (up_to_most (total + slot [] (type_of (tables_of unit) t))) ts

-- the costliest initialiser among the static objects that are locals of a function, or no locals
abbrev pub costliest_after : (CoreStatic → Bool) → ℕ → List CoreStatic → ℕ
costliest_after counts cost [] = cost
costliest_after counts cost (x ∷ xs) = costliest_after counts (if counts x then max cost (costed x.start).start else cost) xs

abbrev pub is_local_of : Name → CoreStatic → Bool
is_local_of name x = is_owned_by name x.owner

abbrev pub is_of_file : CoreStatic → Bool
is_of_file x = not (is_some x.owner)

abbrev pub function_total : Unit → CoreFn → ℕ
function_total unit f =
    let objects = up_to_most (slots_after unit 0 f.params + slots_after unit 0 f.locals) in
    let inner = costed f.body in
    up_to_most (up_to_most (up_to_most (objects + 64) + inner.loops) + max inner.dearest (costliest_after (is_local_of f.name) 0 unit.statics))

abbrev pub initialiser_total : Unit → ℕ
initialiser_total unit = up_to_most (costliest_after is_of_file 0 unit.statics + 64)
