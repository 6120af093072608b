-- Sizes, alignments and offsets, in bytes.
use Rattle.std.specs.Prelude.{ℕ, ◌+◌, ◌-◌, ◌*◌, ◌/◌, ◌^◌, Bool, true, false, not, nat_le, is_some, ◌==◌, min, max, if◌then◌else◌, List, [], ◌∷◌, ◌++◌, map, filter, fold, Option, None, Some, slice_get}
use Rattle.std.specs.Option.{option_map_or}
use Rattle.cf_base.specs.Integers.{width}
use Rattle.cf_types.specs.declared.ty.Ty.{Ty}
use Rattle.cf_types.specs.declared.ty.Ty.TheVariants as ty
use Rattle.cf_types.specs.Table.{Table}
use Rattle.cf_classes.specs.declared.path.Step.{Step}
use Rattle.cf_classes.specs.declared.path.Step.TheVariants.{Base, VBase}
use Rattle.cf_classes.specs.declared.class.ClassDef.{ClassDef}
use Rattle.cf_classes.specs.declared.class.BaseDef.{BaseDef}
use Rattle.cf_classes.specs.declared.class.MemberDef.{MemberDef}
use Rattle.cf_classes.specs.declared.class.What.{What}
use Rattle.cf_classes.specs.declared.class.What.TheVariants as what
use Rattle.cf_classes.specs.ClassTable.{bases_of, definition}
use Rattle.cf_classes.specs.Subobject.{virtual_bases}
use Rattle.cf_classes.specs.Overrider.{owns_table}
use Rattle.cf_classes.specs.TypeTree.{of_type}

-- how many bytes something takes, and of what number its offset is a multiple
pub record Extent : Type 0 where
  pub size : ℕ
  pub align : ℕ

-- the least multiple of the alignment from n on
abbrev pub aligned : ℕ → ℕ → ℕ
aligned n align = (n + (align - 1)) / align * align

-- a scalar is aligned to its size, but at most to 4
abbrev pub scalar : ℕ → Extent
scalar n = record { size = n; align = min n 4 }

-- what an object of a class has: a direct base that is not virtual, by its number; the pointer to its table; a pointer to a direct
-- virtual base; a data member, by its place; and at the end of a complete object its virtual bases
pub data Item : Type 0 where
  BasePart : ℕ → Item
  TablePointer : Item
  BasePointer : ℕ → Item
  Field : ℕ → Item
  VirtualPart : ℕ → Item

-- an item at its offset
pub record Placed : Type 0 where
  pub item : Item
  pub offset : ℕ

-- a class without its virtual bases, and the complete object
pub record ClassLayout : Type 0 where
  pub part : Extent
  pub whole : Extent
  pub items : List Placed

abbrev pub no_layout : ClassLayout
no_layout = record { part = scalar 0; whole = scalar 0; items = [] }

-- each item at the next offset that its alignment allows
abbrev pub laid_out : ℕ → List (Item × Extent) → List Placed
laid_out at [] = []
laid_out at (x ∷ xs) = record { item = x.0; offset = aligned at x.1.align } ∷ laid_out (aligned at x.1.align + x.1.size) xs

-- where the last item ends
abbrev pub end_of : ℕ → List (Item × Extent) → ℕ
end_of at [] = at
end_of at (x ∷ xs) = end_of (aligned at x.1.align + x.1.size) xs

abbrev greatest : List (Item × Extent) → ℕ
greatest xs = fold (λ n x. max n x.1.align) 1 xs

-- the extent of a type, by those of classes; void and functions have none
abbrev pub size_step : (ℕ → Extent) → (ℕ → Extent) → Ty → Extent
size_step classes rec ty.Void = scalar 0
size_step classes rec (ty.Int kind) = scalar (width kind / 8)
size_step classes rec (ty.Enum e) = scalar 4
size_step classes rec (ty.Class c) = classes c
size_step classes rec (ty.Ptr t) = scalar 4
size_step classes rec (ty.Ref t) = scalar 4
size_step classes rec (ty.Array t n) = record { size = (rec t).size * n; align = (rec t).align }
size_step classes rec (ty.Fun f) = scalar 0
size_step classes rec (ty.MemData c t) = scalar 4
size_step classes rec (ty.MemFun c f) = scalar 12
size_step classes rec (ty.Const t) = rec t

abbrev pub extent_by : Table → (ℕ → Extent) → ℕ → Extent
extent_by types classes t = of_type (scalar 0) (size_step classes) types t

abbrev base_items : (ℕ → ClassLayout) → ℕ → List BaseDef → List (Item × Extent)
base_items rec i [] = []
base_items rec i (b ∷ bs) = (if b.is_virtual then [] else (BasePart i, (rec b.class).part) ∷ []) ++ base_items rec (i + 1) bs

abbrev is_data : What → Bool → Bool
is_data what.Field static = not static
is_data other static = false

abbrev field_items : (ℕ → Extent) → ℕ → List MemberDef → List (Item × Extent)
field_items sizes i [] = []
field_items sizes i (m ∷ ms) = (if is_data m.what m.is_static then (Field i, sizes m.ty) ∷ [] else []) ++ field_items sizes (i + 1) ms

-- the items of a part, in order: bases, table pointer, pointers to direct virtual bases, data members
abbrev part_items : Table → List (ℕ × ClassDef) → ℕ → (ℕ → ClassLayout) → ClassDef → List (Item × Extent)
part_items types defs c rec def =
    base_items rec 0 def.bases
    ++ (if owns_table types defs c then (TablePointer, scalar 4) ∷ [] else [])
    ++ map (λ b. (BasePointer b.class, scalar 4)) (filter (λ b. b.is_virtual) def.bases)
    ++ field_items (extent_by types (λ d. (rec d).whole)) 0 def.members

-- the part is rounded up to its alignment and has 1 byte where it is empty; then come the parts of all virtual bases
abbrev layout_in : Table → List (ℕ × ClassDef) → ℕ → (ℕ → ClassLayout) → ClassDef → ClassLayout
layout_in types defs c rec def =
    let own = part_items types defs c rec def in
    let part = aligned (max (end_of 0 own) 1) (greatest own) in
    let shared = map (λ v. (VirtualPart v, (rec v).part)) (virtual_bases defs c) in
    let align = greatest (own ++ shared) in
    record {
      part = record { size = part; align = greatest own };
      whole = record { size = aligned (end_of part shared) align; align = align };
      items = laid_out 0 own ++ laid_out part shared;
    }

-- of the defined classes, latest first
abbrev pub layout : Table → List (ℕ × ClassDef) → ℕ → ClassLayout
layout types [] c = no_layout
layout types (d ∷ older) c =
    elim (c == d.0) as (λ _. ClassLayout) [ true ↦ layout_in types (d ∷ older) c (layout types older) d.1 | false ↦ layout types older c ]

-- the size and the alignment of a type
abbrev pub extent : Table → List (ℕ × ClassDef) → ℕ → Extent
extent types defs t = extent_by types (λ c. (layout types defs c).whole) t

abbrev same_item : Item → Item → Bool
same_item (BasePart i) (BasePart j) = i == j
same_item (VirtualPart v) (VirtualPart w) = v == w
same_item x y = false

abbrev offset_of : List Placed → Item → ℕ
offset_of [] x = 0
offset_of (p ∷ ps) x = if same_item p.item x then p.offset else offset_of ps x

-- the offset of the subobject at a path of an object of class c
abbrev pub offset : Table → List (ℕ × ClassDef) → ℕ → List Step → ℕ
offset types defs c [] = 0
offset types defs c (Base i ∷ p) =
    offset_of (layout types defs c).items (BasePart i) + offset types defs (option_map_or (λ b. b.class) (slice_get (bases_of defs c) i) c) p
offset types defs c (VBase v ∷ p) = offset_of (layout types defs c).items (VirtualPart v) + offset types defs v p

-- whether objects of a type can be made: a class has to be defined, and `void` and functions have none
abbrev pub complete_step : List (ℕ × ClassDef) → (ℕ → Bool) → Ty → Bool
complete_step defs rec ty.Void = false
complete_step defs rec (ty.Class c) = is_some (definition defs c)
complete_step defs rec (ty.Array t n) = rec t
complete_step defs rec (ty.Fun f) = false
complete_step defs rec (ty.Const t) = rec t
complete_step defs rec other = true

abbrev pub is_complete : Table → List (ℕ × ClassDef) → ℕ → Bool
is_complete types defs t = of_type false (complete_step defs) types t

-- a type has at most 2 ^ 22 bytes
abbrev pub accepted_size : ℕ → Option ℕ
accepted_size n = if nat_le n (2 ^ 22) then Some n else None

-- an array of elements of an accepted size or not, and this many
abbrev pub array_bytes : Option ℕ → ℕ → Option ℕ
array_bytes (Some size) count = accepted_size (size * count)
array_bytes None count = if count == 0 then Some 0 else None

-- the type and the number of the objects that an array has; a const object is one of its type
abbrev pub repeated_in : Ty → Option (ℕ × ℕ)
repeated_in (ty.Array t n) = Some (t, n)
repeated_in (ty.Const t) = Some (t, 1)
repeated_in other = None

-- the bytes of a scalar
abbrev pub scalar_bytes : Ty → ℕ
scalar_bytes t = (size_step (λ c. scalar 0) (λ u. scalar 0) t).size
