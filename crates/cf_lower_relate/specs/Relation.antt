-- When the objects of the source stand in the memory of the small C.
use Rattle.std.specs.Prelude.{◌≡◌, ℕ, ◌+◌, ◌≤◌, ◌<◌, true, false, ◌==◌, Option, Some, Result, Ok}
use Rattle.cf_core.specs.Places.{Route, type_at}
use Rattle.cf_core.specs.Store as source
use Rattle.cf_core.specs.Store.{Object}
use Rattle.cf_core.specs.Run.{State}
use Rattle.cf_core.specs.Size.{size}
use Rattle.cf_lower_layout.specs.Layout.{offset, leads, LaidOut}
use Rattle.cc_whole_memory.specs.declared.value.Value.{Value}
use Rattle.cc_whole_memory.specs.Cells.{Cells, load}
use Rattle.cc_whole_memory.specs.Blocks.{Block, Memory}
use Rattle.cf_lower_layout.specs.Sorts.{Sort, sort_of}
use Rattle.cf_lower_relate.specs.Scalars.{c_scalar}
use Rattle.cf_lower_relate.specs.Map.{Fixed, Map, Is, is_ended}

module _ (K : Fixed) where
  -- a load gives what a scalar holds
  pub record Loads (F : Map) (t : Sort) (v : source.Value) (found : Option Value) : Type 0 where
    pub value : Value
    pub is : found ≡ Some value
    pub same : Is K F t v value

  -- Each scalar of an object that holds a value stands at its offset in the cells, behind so many bytes.
  abbrev pub InCells : Map → Object → ℕ → Cells → Type 0
  InCells F x base cells = (π : Route) (t : Sort) (v : source.Value) → leads K.classes x.type π ≡ true → sort_of (type_at K.classes x.type π) ≡ Some t
      → x.held π ≡ Some v → Loads F t v (load (c_scalar t) cells (base + offset K.classes x.type π))

  -- An object stands in a live block that is large enough.
  pub record Stands (F : Map) (o : ℕ) (x : Object) (m : Memory) : Type 0 where
    pub block : Block
    pub there : m.block (F.block o) ≡ Some block
    pub size : F.base o + size K.classes x.type ≤ block.size
    pub cells : InCells F x (F.base o) block.cells

  -- The objects of a state and a memory: each object is of a type that is laid out, and stands in a block of its own
  -- until its storage ends.
  pub record Rel (F : Map) (s : State) (m : Memory) : Type 0 where
    pub count : F.count ≡ s.next
    pub type : (o : ℕ) → o < F.count → (s.object o).type ≡ F.type o
    pub laid : (o : ℕ) → o < F.count → LaidOut K.classes (F.type o)
    pub gone : (o : ℕ) → o < F.count → (s.object o).is_gone ≡ is_ended (F.stage o)
    pub stands : (o : ℕ) → o < F.count → is_ended (F.stage o) ≡ false → Stands F o (s.object o) m
    pub below : (o : ℕ) → o < F.count → is_ended (F.stage o) ≡ false → F.block o < m.next
    pub apart : (o p : ℕ) → o < F.count → p < F.count → is_ended (F.stage o) ≡ false → is_ended (F.stage p) ≡ false → F.block o ≡ F.block p → o ≡ p

-- a read gives what a scalar holds
pub record Reads (K : Fixed) (F : Map) (t : Sort) (v : source.Value) (found : Result Value ℕ) : Type 0 where
  pub value : Value
  pub is : found ≡ Ok value
  pub same : Is K F t v value

-- a write has put a value where an object holds it
pub record Writes (K : Fixed) (F : Map) (s : State) (b : ℕ) (m : Memory) (written : Result Memory ℕ) : Type 0 where
  pub after : Memory
  pub is : written ≡ Ok after
  pub rel : Rel K F s after
  pub next : after.next ≡ m.next
  pub elsewhere : (c : ℕ) → c == b ≡ false → after.block c ≡ m.block c
