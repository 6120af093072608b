-- What is so between two statements of a function, since it was entered.
use Rattle.std.specs.Prelude.{◌≡◌, ℕ, ◌≤◌, ◌<◌, true, false, ◌&&◌, Option, Some, length, ◌⊎◌}
use Rattle.cf_core.specs.Places.{is_scalar}
use Rattle.cf_core.specs.Run.{State}
use Rattle.cf_lower_layout.specs.Sorts.{Sort}
use Rattle.cf_plain.specs.Plain.{Register}
use Rattle.cf_plain.specs.Acts.{Registers}
use Rattle.cc_whole.specs.declared.types.CType.{CType}
use Rattle.cc_whole_memory.specs.Values.{bytes_of}
use Rattle.cc_whole_memory.specs.Blocks.{Block, Memory}
use Rattle.cc_whole_mean.specs.declared.named.Named.TheVariants as meant
use Rattle.cc_whole_mean.specs.declared.named.Shape.TheVariants.{Single as single}
use Rattle.cc_whole_mean.specs.Types.{scalar_of}
use Rattle.cc_whole_mean.specs.Scope.{Scope}
use Rattle.cc_whole_mean.specs.Flow as c
use Rattle.cf_lower_relate.specs.Map.{Fixed, Map, Grows, is_ended, is_hidden}
use Rattle.cf_lower_control.specs.LowerKept.{Keeping, is_argument, type_of_local}
use Rattle.cf_lower_control.specs.LowerWritten.{result_name}
use Rattle.cf_lower_control.specs.Loops.{Weaker}
use Rattle.cf_lower_control.specs.StepsOwn.{Own}
use Rattle.cf_lower_control.specs.StepsFlows.{Between}
use Rattle.cf_lower_control.specs.StepsLowering.{Below}
use Rattle.cf_lower_turns.specs.Flags.{Flags, InFlags, Shows}
use Rattle.cf_lower_turns.specs.Texts.{Texts, NoText, Free, TextsLaid, InTexts}

-- A function's C blocks and names, and where the objects stood and what the memory was as it was entered: the arguments have come into their blocks, which were
-- born since.
pub record Body : Type 0 where
  pub own : Own
  pub flags : Flags
  pub scope : Scope
  pub texts : Texts
  pub start : Map
  pub first : Memory

-- a block is still there
pub record Remains (x : Block) (now : Option Block) : Type 0 where
  pub block : Block
  pub there : now ≡ Some block
  pub size : x.size ≤ block.size

-- an object stands as it did
pub record Still (E F : Map) (o : ℕ) : Type 0 where
  pub stage : F.stage o ≡ E.stage o
  pub block : F.block o ≡ E.block o
  pub base : F.base o ≡ E.base o

-- The blocks of before are there, and those in which no object stood, nor comes to stand as that of a literal, are left alone; objects that nothing pointed to
-- stand as they did.
pub record Outer (texts : Texts) (E F : Map) (first m : Memory) : Type 0 where
  pub next : first.next ≤ m.next
  pub remains : (b : ℕ) (x : Block) → b < first.next → first.block b ≡ Some x → Remains x (m.block b)
  pub same : (b : ℕ) → b < first.next → NoText texts b → Free E b → m.block b ≡ first.block b
  pub free : (b : ℕ) → b < first.next → NoText texts b → Free E b → Free F b
  pub hidden : (o : ℕ) → o < E.count → is_hidden (E.stage o) ≡ true → Still E F o
  pub before : (o : ℕ) → o < E.count → is_hidden (E.stage o) ≡ true → E.block o < first.next

-- a block lives, with room for so many bytes
pub record HasRoom (m : Memory) (b n : ℕ) : Type 0 where
  pub block : Block
  pub there : m.block b ≡ Some block
  pub size : n ≤ block.size
  pub below : b < m.next

-- the C locals of registers, flags and results are there
pub record Placed (at : Body) (m : Memory) : Type 0 where
  pub registers : (t : Sort) (r : Register) → r < at.own.bound → at.own.block t r < m.next
  pub flags : (d : ℕ) → d < at.flags.bound → at.flags.block d < m.next
  pub results : (t : CType) (b : ℕ) → at.flags.result t ≡ Some b → HasRoom m b (bytes_of (scalar_of t))

-- an object that stands is in a block of before, or in the C local of a parameter or local
pub record InLocal (at : Body) (b : ℕ) : Type 0 where
  pub local : ℕ
  pub there : local < length at.own.locals.types
  pub is : b ≡ at.own.local local

abbrev pub Homes : Body → Map → Type 0
Homes at F = (o : ℕ) → o < F.count → is_ended (F.stage o) ≡ false → (F.block o < at.first.next) ⊎ InLocal at (F.block o)

-- the object of a parameter of a call, while it stands, is one that nothing points to
abbrev pub HiddenArguments : Own → Map → State → Type 0
HiddenArguments own F s =
    (i o : ℕ) → i < length own.locals.types → is_argument own.locals i && is_scalar (type_of_local own.locals i) ≡ true → s.frame.locals i ≡ Some o
    → is_ended (F.stage o) ≡ false → is_hidden (F.stage o) ≡ true

-- the C local that results of this type go through is none of those, and the function's own
pub record ResultLocal (at : Body) (t : CType) (b : ℕ) : Type 0 where
  pub named : at.scope (result_name t) ≡ Some (meant.Variable b (single (scalar_of t)))
  pub later : at.first.next ≤ b
  pub registers : (u : Sort) (r : Register) → r < at.own.bound → at.own.block u r ≡ b → ⊥
  pub locals : (i : ℕ) → i < length at.own.locals.types → at.own.local i ≡ b → ⊥
  pub flags : (d : ℕ) → d < at.flags.bound → at.flags.block d ≡ b → ⊥

-- the function's own blocks are later
pub record Later (at : Body) : Type 0 where
  pub registers : (t : Sort) (r : Register) → r < at.own.bound → at.first.next ≤ at.own.block t r
  pub locals : (i : ℕ) → i < length at.own.locals.types → at.first.next ≤ at.own.local i
  pub flags : (d : ℕ) → d < at.flags.bound → at.first.next ≤ at.flags.block d
  pub results : (t : CType) (b : ℕ) → at.flags.result t ≡ Some b → ResultLocal at t b

-- The objects stand in the memory, the registers in their C locals, and so many flags are 0.
pub record Here (K : Fixed) (at : Body) (kept : Keeping) (d : ℕ) (g : Registers) (s : State) (t : c.State) : Type 0 where
  pub map : Map
  pub grows : Grows at.start map
  pub between : Between K at.own at.scope map kept g s t.memory
  pub below : Below at.own kept
  pub flags_there : InFlags at.own at.flags map at.scope t.memory
  pub bounded : d ≤ at.flags.bound
  pub unset : (e : ℕ) → e < d → Shows at.scope e 0 t.memory
  pub outer : Outer at.texts at.start map at.first t.memory
  pub placed : Placed at t.memory
  pub homes : Homes at map
  pub arguments : HiddenArguments at.own map s
  pub texts_laid : TextsLaid K at.texts at.first.next
  pub texts : InTexts K at.texts map s t.memory
  pub later : Later at

-- What is so of the registers by the first is so by the second, and the C locals that it speaks of are there.
pub record Narrows (K : Fixed) (at : Body) (one two : Keeping) : Type 0 where
  pub weaker : Weaker K at.scope one two
  pub below : Below at.own one → Below at.own two
