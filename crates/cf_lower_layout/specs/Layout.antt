-- Where the parts of an object lie in its bytes (8.2.4). Routes have their last step first. Of arrays alone: classes have no parts here yet.
use Rattle.std.specs.Prelude.{◌≡◌, ℕ, ◌+◌, ◌*◌, ◌^◌, ◌≤◌, Bool, true, false, not, ◌&&◌, ◌||◌, ◌==◌, nat_lt, List, [], ◌∷◌, ◌⊎◌}
use Rattle.cf_core.specs.Types.{SourceType, class, array, const, plain, element}
use Rattle.cf_core.specs.Classes.{Class}
use Rattle.cf_core.specs.Core.{Part, item, past, field, within}
use Rattle.cf_core.specs.Places.{Route, type_at, is_const}
use Rattle.cf_core.specs.Size.{size}

-- the element of this number, of an array
abbrev pub has_item : SourceType → ℕ → Bool
has_item (array t n) i = nat_lt i n
has_item t i = false

-- whether an object of this type has the part; the end of an array is none
abbrev pub has : SourceType → Part → Bool
has t (item i) = has_item (plain t) i
has t past = false
has t (field i) = false
has t (within s) = false

-- how many bytes lie before a part of an object of this type; the end of a lone object lies behind it
abbrev pub before : List Class → SourceType → Part → ℕ
before classes t (item i) = i * size classes (element (plain t))
before classes t past = size classes t
before classes t (field i) = 0
before classes t (within s) = 0

-- how many bytes of an object of this type lie before the place at a route
abbrev pub offset : List Class → SourceType → Route → ℕ
offset classes t [] = 0
offset classes t (s ∷ π) = offset classes t π + before classes (type_at classes t π) s

-- whether a route leads to a part of an object of this type
abbrev pub leads : List Class → SourceType → Route → Bool
leads classes t [] = true
leads classes t (s ∷ π) = leads classes t π && has (type_at classes t π) s

-- the end of an array, as the element of its number of elements
abbrev pub ends_item : SourceType → ℕ → Bool
ends_item (array t n) i = i == n
ends_item t i = false

-- whether an object counts as an array of one: it is no element, and no base part (5.7)
abbrev pub is_lone : Route → Bool
is_lone [] = true
is_lone (item i ∷ π) = false
is_lone (past ∷ π) = false
is_lone (field i ∷ π) = true
is_lone (within s ∷ π) = false

-- whether a route is the end of an array that is a part of the object
abbrev pub ends : List Class → SourceType → Route → Bool
ends classes t [] = false
ends classes t (item i ∷ π) = leads classes t π && ends_item (plain (type_at classes t π)) i
ends classes t (past ∷ π) = leads classes t π && is_lone π
ends classes t (field i ∷ π) = false
ends classes t (within s ∷ π) = false

-- where a pointer may point to: a part, or the end of an array
abbrev pub points : List Class → SourceType → Route → Bool
points classes t π = leads classes t π || ends classes t π

-- whether an object of this type takes bytes: no array has no element; of classes this isn't said yet
abbrev pub has_bytes : SourceType → Bool
has_bytes (class c) = false
has_bytes (array t n) = nat_lt 0 n && has_bytes t
has_bytes (const t) = has_bytes t
has_bytes t = true

-- whether no const stands directly on const in an object's type, nor in that of its elements
abbrev pub const_once : SourceType → Bool
const_once (const t) = not (is_const t) && const_once t
const_once (array t n) = const_once t
const_once t = true

-- a type whose objects are laid out here, of so many bytes at most
pub record LaidOut (classes : List Class) (t : SourceType) : Type 0 where
  pub small : size classes t ≤ 2 ^ 22
  pub some : has_bytes t ≡ true
  pub once : const_once t ≡ true

-- n bytes from p on and k bytes from q on have none in common
abbrev pub Apart : ℕ → ℕ → ℕ → ℕ → Type 0
Apart p n q k = (p + n ≤ q) ⊎ (q + k ≤ p)
