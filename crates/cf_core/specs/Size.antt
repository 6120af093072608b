-- How many bytes a type has (5.3.2; classes by the layout of their bases and members, 10). The meaning uses it for charges alone.
use Rattle.std.specs.Prelude.{ℕ, zero, suc, ◌+◌, ◌-◌, ◌*◌, ◌/◌, max, Bool, false, ◌&&◌, ◌||◌, not, ◌==◌, if◌then◌else◌, List, [], ◌∷◌, ◌++◌, map, filter, length, bytes_eq}
use Rattle.std.specs.List.{list_any}
use Rattle.cf_base.specs.Integers.{width}
use Rattle.cf_core.specs.Types.{Name, SourceType, void, integer, enumeration, class, pointer, reference, array, takes, gives, data_member, function_member, const}
use Rattle.cf_core.specs.Classes.{Base, Class, MemberFunction, class_named, bases_of, fields_of, functions_in}
use Rattle.cf_core.specs.Subobjects.{Subobject, subobjects, virtual_bases}

-- size and alignment, in bytes
pub record Extent : Type 0 where
  pub size : ℕ
  pub align : ℕ

abbrev pub extent : ℕ → Extent
extent n = record { size = n; align = n }

-- a pointer
abbrev pub word : Extent
word = extent 4

-- the next multiple of an alignment from 1
abbrev pub rounded : ℕ → ℕ → ℕ
rounded n align = (n + align - 1) / align * align

-- items one after the other, each at the next offset that its alignment allows
abbrev pub placed : Extent → List Extent → Extent
placed so_far [] = so_far
placed so_far (item ∷ rest) =
    placed (record { size = rounded so_far.size item.align + item.size; align = max so_far.align item.align }) rest

abbrev pub rounded_up : Extent → Extent
rounded_up e = record e { size = rounded e.size e.align }

-- an empty part has one byte
abbrev pub part_of : Extent → Extent
part_of e = if e.size == 0 then extent 1 else rounded_up e

-- whether one of these subobjects, other than the class itself, has a virtual function of this signature
abbrev pub inherited : List Class → Name → List Subobject → Bool
inherited classes signature [] = false
inherited classes signature (s ∷ rest) =
    list_any (λ (f : MemberFunction). f.is_virtual && bytes_eq f.signature signature) (functions_in (class_named classes s.class))
    || inherited classes signature rest

abbrev pub proper : List Subobject → List Subobject
proper [] = []
proper (s ∷ rest) = rest

-- whether a class introduces a virtual function: one that overrides none of a base (10.2)
abbrev pub introduces : List Class → Name → Bool
introduces classes c =
    list_any (λ (f : MemberFunction). f.is_virtual && not (inherited classes f.signature (proper (subobjects classes c))))
    (functions_in (class_named classes c))

abbrev pub direct : List Base → List Base
direct bases = filter (λ (b : Base). not b.is_virtual) bases

abbrev pub shared : List Base → List Base
shared bases = filter (λ (b : Base). b.is_virtual) bases

-- whether a class has a table pointer, its own or that of a direct nonvirtual base
abbrev pub has_table_within : ℕ → List Class → Name → Bool
has_table_within zero classes c = false
has_table_within (suc n) classes c =
    list_any (λ (b : Base). has_table_within n classes b.class) (direct (bases_of classes c)) || introduces classes c

abbrev pub has_table : List Class → Name → Bool
has_table classes c = has_table_within (length classes) classes c

-- whether it has one of its own
abbrev pub owns_table : List Class → Name → Bool
owns_table classes c = introduces classes c && not (list_any (λ (b : Base). has_table classes b.class) (direct (bases_of classes c)))

-- a type's extent, given that of each class as a whole object
abbrev pub extent_with : (Name → Extent) → SourceType → Extent
extent_with whole void = extent 1
extent_with whole (integer k) = extent (width k / 8)
extent_with whole (enumeration e) = word
extent_with whole (class c) = whole c
extent_with whole (pointer t) = word
extent_with whole (reference t) = word
extent_with whole (array t n) = let e = extent_with whole t in record e { size = n * e.size }
extent_with whole (takes p t) = extent 1
extent_with whole (gives t c) = extent 1
extent_with whole (data_member c t) = word
extent_with whole (function_member c t) = record { size = 12; align = 4 }
extent_with whole (const t) = extent_with whole t

-- A class's part: the parts of its direct nonvirtual bases, a table pointer of its own, a pointer for each direct virtual base, its
-- data members. Its whole object has the parts of all its virtual bases behind. The count bounds the nesting of classes.
abbrev mutual
  pub part_within : ℕ → List Class → Name → Extent
  part_within zero classes c = extent 1
  part_within (suc n) classes c =
      part_of (placed (record { size = 0; align = 1 })
      (map (λ (b : Base). part_within n classes b.class) (direct (bases_of classes c))
      ++ (if owns_table classes c then word ∷ [] else [])
      ++ map (λ (b : Base). word) (shared (bases_of classes c))
      ++ map (extent_with (whole_within n classes)) (fields_of classes c)))

  pub whole_within : ℕ → List Class → Name → Extent
  whole_within zero classes c = extent 1
  whole_within (suc n) classes c =
      rounded_up (placed (part_within n classes c) (map (λ v. part_within n classes v) (virtual_bases classes c)))

-- the bytes of a type
abbrev pub size : List Class → SourceType → ℕ
size classes t = (extent_with (whole_within (suc (suc (2 * length classes))) classes) t).size
