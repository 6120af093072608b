-- Which block each object of the source stands in, and what values of the source are in the small C.
use Rattle.std.specs.Prelude.{◌≡◌, ℕ, suc, ◌+◌, ◌<◌, ◌≤◌, Bool, true, false, ◌||◌, ◌==◌, List, ℤ, ◌⊎◌}
use Rattle.cf_base.specs.declared.kind.Kind.TheVariants.{Int, UInt}
use Rattle.cf_base.specs.Integers.{fits}
use Rattle.cf_core.specs.Types.{Name, SourceType, void, without_const}
use Rattle.cf_core.specs.Classes.{Class}
use Rattle.cf_core.specs.Places.{Place, type_at}
use Rattle.cf_core.specs.Store as source
use Rattle.cf_core.specs.Run.{upd}
use Rattle.cf_lower_layout.specs.Layout.{offset, points}
use Rattle.cc_whole_memory.specs.declared.value.Pointer.{Pointer}
use Rattle.cc_whole_memory.specs.declared.value.Pointer.TheVariants as pointer
use Rattle.cc_whole_memory.specs.declared.value.Value.{Value}
use Rattle.cc_whole_memory.specs.declared.value.Value.TheVariants as value
use Rattle.cf_lower_layout.specs.Sorts.{Sort, number, address, code, c_kind}

-- a pointer that isn't null
abbrev pub IsSome : Pointer → Type 0
IsSome pointer.Null = ⊥
IsSome (pointer.At b q) = Unit {0}

-- How an object stands to its values: it is the object of a parameter whose function isn't entered yet, and no value points to it; or its place is its
-- block's; or its storage has ended, and its block may be another's.
pub data Stage : Type 0 where
  hidden : Stage
  shown : Stage
  ended : Stage

abbrev pub is_ended : Stage → Bool
is_ended hidden = false
is_ended shown = false
is_ended ended = true

abbrev pub is_shown : Stage → Bool
is_shown hidden = false
is_shown shown = true
is_shown ended = false

abbrev pub is_hidden : Stage → Bool
is_hidden hidden = true
is_hidden shown = false
is_hidden ended = false

-- what doesn't change in a run: the classes, which names are functions, and the number and the type of each
pub record Fixed : Type 0 where
  pub classes : List Class
  pub is_function : Name → Bool
  pub function : Name → ℕ
  pub signature : Name → SourceType

-- each function has a number of its own, from 1 on
pub record Numbered (K : Fixed) : Type 0 where
  pub some : (f : Name) → K.is_function f ≡ true → K.function f == 0 ≡ false
  pub apart : (f g : Name) → K.is_function f ≡ true → K.is_function g ≡ true → K.function f ≡ K.function g → f ≡ g

-- The objects below a number, each with its block, how many bytes it stands behind the block's start, and its type.
pub record Map : Type 0 where
  pub count : ℕ
  pub block : ℕ → ℕ
  pub base : ℕ → ℕ
  pub type : ℕ → SourceType
  pub stage : ℕ → Stage

-- one more object, of this number and type, in a block behind so many bytes
abbrev pub extended : ℕ → SourceType → ℕ → ℕ → Stage → Map → Map
extended o t b n st F = record {
  count = suc o;
  block = upd o b F.block;
  base = upd o n F.base;
  type = upd o t F.type;
  stage = upd o st F.stage;
}

-- the object of a parameter has come into this block
abbrev pub entered : ℕ → ℕ → Map → Map
entered o b F = record F { block = upd o b F.block; base = upd o 0 F.base; stage = upd o shown F.stage }

-- the storage of an object has ended
abbrev pub without : ℕ → Map → Map
without o F = record F { stage = upd o ended F.stage }

pub record IsNumber (c wanted : Value) (fit : Bool) : Type 0 where
  pub is : c ≡ wanted
  pub fits : fit ≡ true

-- a value of int or of unsigned int
abbrev pub is_word : ℤ → Bool
is_word z = fits Int z || fits UInt z

-- A later map: objects keep their types; no object is hidden again; what has ended stays so; and what stands in a block that values point to stays there.
pub record Grows (F G : Map) : Type 0 where
  pub count : F.count ≤ G.count
  pub type : (o : ℕ) → o < F.count → G.type o ≡ F.type o
  pub visible : (o : ℕ) → o < F.count → is_hidden (F.stage o) ≡ false → is_hidden (G.stage o) ≡ false
  pub shown : (o : ℕ) → o < F.count → is_hidden (F.stage o) ≡ false → is_shown (G.stage o) ≡ true → is_shown (F.stage o) ≡ true
  pub block : (o : ℕ) → o < F.count → is_hidden (F.stage o) ≡ false → is_shown (G.stage o) ≡ true → G.block o ≡ F.block o
  pub base : (o : ℕ) → o < F.count → is_hidden (F.stage o) ≡ false → is_shown (G.stage o) ≡ true → G.base o ≡ F.base o

module _ (K : Fixed) where
  -- where a place stands
  abbrev pub offset_of : Map → Place → ℕ
  offset_of F p = F.base p.object + offset K.classes (F.type p.object) p.route

  abbrev pub pointer_to : Map → Place → Pointer
  pointer_to F p = pointer.At (F.block p.object) (offset_of F p)

  abbrev pub type_of_place : Map → Place → SourceType
  type_of_place F p = type_at K.classes (F.type p.object) p.route

  -- A pointer to a place of this type, or of any where that is void: it is the place's, if the object stands, and else any that isn't null.
  pub record PointsTo (F : Map) (t : SourceType) (p : Place) (c : Value) : Type 0 where
    pub known : p.object < F.count
    pub visible : is_hidden (F.stage p.object) ≡ false
    pub inside : points K.classes (F.type p.object) p.route ≡ true
    pub type : (t ≡ void) ⊎ (without_const (type_of_place F p) ≡ t)
    pub pointer : Pointer
    pub some : IsSome pointer
    pub is : c ≡ value.Address pointer
    pub there : is_shown (F.stage p.object) ≡ true → pointer ≡ pointer_to F p

  -- a function of this type, by its number
  pub record Calls (t : SourceType) (name : Name) (c : Value) : Type 0 where
    pub is : c ≡ value.Function (K.function name)
    pub known : K.is_function name ≡ true
    pub type : without_const (K.signature name) ≡ t

  -- A value of the source that a scalar holds, and its value in a scalar of the C's memory.
  abbrev pub Is : Map → Sort → source.Value → Value → Type 0
  Is F (number k) (source.Number z) c = IsNumber c (value.Number (c_kind k) z) (fits k z)
  Is F (address t) source.Null c = c ≡ value.Address pointer.Null
  Is F (address t) (source.At p) c = PointsTo F t p c
  Is F (code t) source.Null c = c ≡ value.Function 0
  Is F (code t) (source.Code f) c = Calls t f c
  Is F t v c = ⊥
