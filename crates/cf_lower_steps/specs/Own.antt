-- The C's own blocks in a function: the C locals of its registers, in which no object stands, and those of its parameters and locals.
use Rattle.std.specs.Prelude.{◌≡◌, ℕ, ◌<◌, ◌≤◌, false, ◌&&◌, Some, length}
use Rattle.cf_core.specs.Types.{without_const}
use Rattle.cf_core.specs.Places.{is_scalar}
use Rattle.cf_core.specs.Run.{State}
use Rattle.cf_core.specs.Size as source
use Rattle.cf_lower_layout.specs.Sorts.{Sort, number, address, code}
use Rattle.cf_plain.specs.Plain.{Register}
use Rattle.cc_whole_memory.specs.Blocks.{Block, Memory}
use Rattle.cc_whole_mean.specs.declared.named.Named.TheVariants as named
use Rattle.cc_whole_mean.specs.declared.named.Shape.{Shape}
use Rattle.cc_whole_mean.specs.declared.named.Shape.TheVariants.{Single as single}
use Rattle.cc_whole_mean.specs.Scope.{Scope}
use Rattle.cc_whole_mean.specs.Types.{scalar_of}
use Rattle.cf_lower_relate.specs.Map.{Fixed, Map, is_ended, is_hidden}
use Rattle.cf_lower.specs.Kept.{Locals, type_of_local, is_argument}
use Rattle.cf_lower.specs.Written.{register_type, register_name, local_name}

-- Registers below a number have C locals, in these blocks, and so have the parameters and locals.
pub record Own : Type 0 where
  pub bound : Register
  pub block : Sort → Register → ℕ
  pub locals : Locals
  pub local : ℕ → ℕ

-- integers, pointers to objects and pointers to functions have locals of their own
abbrev pub class_of : Sort → ℕ
class_of (number k) = 0
class_of (address t) = 1
class_of (code t) = 2

-- a block that lives, with room for a scalar
pub record Lives (m : Memory) (b : ℕ) : Type 0 where
  pub block : Block
  pub there : m.block b ≡ Some block
  pub size : 4 ≤ block.size

pub record OwnBlocks (own : Own) (F : Map) (scope : Scope) (m : Memory) : Type 0 where
  pub named : (t : Sort) (r : Register) → r < own.bound → scope (register_name t r) ≡ Some (named.Variable (own.block t r) (single (scalar_of (register_type t))))
  pub lives : (t : Sort) (r : Register) → r < own.bound → Lives m (own.block t r)
  pub apart : (t u : Sort) (r q : Register) → r < own.bound → q < own.bound → own.block t r ≡ own.block u q → (r ≡ q) × (class_of t ≡ class_of u)
  pub free : (t : Sort) (r : Register) → r < own.bound → (o : ℕ) → o < F.count → is_ended (F.stage o) ≡ false → F.block o ≡ own.block t r → ⊥

-- the C local of a parameter or local lives, with room for an object of its type, apart from the others
pub record LocalBlock (K : Fixed) (own : Own) (scope : Scope) (m : Memory) (i : ℕ) : Type 0 where
  pub shape : Shape
  pub named : scope (local_name i) ≡ Some (named.Variable (own.local i) shape)
  pub block : Block
  pub there : m.block (own.local i) ≡ Some block
  pub size : source.size K.classes (type_of_local own.locals i) ≤ block.size
  pub below : own.local i < m.next
  pub apart : (t : Sort) (r : Register) → r < own.bound → own.block t r ≡ own.local i → ⊥
  pub alone : (j : ℕ) → j < length own.locals.types → own.local i ≡ own.local j → i ≡ j

-- The object of a parameter or local, until its storage ends, is the C local; one that is to be a parameter's of a call is not pointed to before.
pub record LocalObject (own : Own) (F : Map) (i o : ℕ) : Type 0 where
  pub known : o < F.count
  pub type : without_const (F.type o) ≡ without_const (type_of_local own.locals i)
  pub visible : is_argument own.locals i && is_scalar (type_of_local own.locals i) ≡ false → is_hidden (F.stage o) ≡ false
  pub block : is_ended (F.stage o) ≡ false → F.block o ≡ own.local i
  pub base : is_ended (F.stage o) ≡ false → F.base o ≡ 0

-- the parameters and locals of the function, and no other object in their C locals
pub record InLocals (K : Fixed) (own : Own) (F : Map) (scope : Scope) (s : State) (m : Memory) : Type 0 where
  pub blocks : (i : ℕ) → i < length own.locals.types → LocalBlock K own scope m i
  pub objects : (i o : ℕ) → i < length own.locals.types → s.frame.locals i ≡ Some o → LocalObject own F i o
  pub only : (i o : ℕ) → i < length own.locals.types → o < F.count → is_ended (F.stage o) ≡ false → F.block o ≡ own.local i → s.frame.locals i ≡ Some o
