-- The string literals of a program: each has a block of its own from the start, in which its object comes to stand when it is first named (2.5.4).
use Rattle.std.specs.Prelude.{◌≡◌, ℕ, ◌<◌, ◌≤◌, false, true, ◌&&◌, ◌==◌, List, length, Option, Some, None, find, bytes_eq}
use Rattle.cf_base.specs.declared.kind.Kind.TheVariants.{Char}
use Rattle.cf_core.specs.Types.{Name, SourceType, integer, array}
use Rattle.cf_core.specs.Run.{Literal, State}
use Rattle.cf_core.specs.Objects.{literal_of, found_literal}
use Rattle.cf_core.specs.Size.{size}
use Rattle.cf_lower_layout.specs.Layout.{LaidOut}
use Rattle.cc_whole_memory.specs.Blocks.{Block, Memory}
use Rattle.cf_lower_relate.specs.Map.{Fixed, Map, is_ended, is_hidden, is_shown}
use Rattle.cf_lower_relate.specs.Relation.{InCells}

-- a literal's block, and its bytes with the 0 behind
pub record Text : Type 0 where
  pub block : ℕ
  pub bytes : List ℕ

-- by the function and the number in it
abbrev pub Texts : Type 0
Texts = Name → ℕ → Option Text

-- the block is no literal's
abbrev pub NoText : Texts → ℕ → Type 0
NoText texts b = (f : Name) (j : ℕ) (x : Text) → texts f j ≡ Some x → x.block ≡ b → ⊥

abbrev pub text_type : Text → SourceType
text_type x = array (integer Char) (length x.bytes)

-- no object stands in a block
abbrev pub Free : Map → ℕ → Type 0
Free F b = (o : ℕ) → o < F.count → is_ended (F.stage o) ≡ false → F.block o ≡ b → ⊥

-- not named yet: the block has the bytes
pub record NewText (K : Fixed) (F : Map) (m : Memory) (x : Text) : Type 0 where
  pub free : Free F x.block
  pub block : Block
  pub there : m.block x.block ≡ Some block
  pub size : size K.classes (text_type x) ≤ block.size
  pub cells : InCells K F (literal_of x.bytes) 0 block.cells

-- its object stands in the block
pub record MadeText (F : Map) (x : Text) (o : ℕ) : Type 0 where
  pub known : o < F.count
  pub type : F.type o ≡ text_type x
  pub visible : is_hidden (F.stage o) ≡ false
  pub block : is_shown (F.stage o) ≡ true → F.block o ≡ x.block
  pub base : is_shown (F.stage o) ≡ true → F.base o ≡ 0

abbrev pub TextAs : Fixed → Map → Memory → Text → Option ℕ → Type 0
TextAs K F m x None = NewText K F m x
TextAs K F m x (Some o) = MadeText F x o

-- the object of a literal, once it was named
abbrev pub object_of_text : Name → ℕ → State → Option ℕ
object_of_text f j s = found_literal (find (λ (l : Literal). bytes_eq l.function f && (l.number == j)) s.literals)

-- what does not change: the blocks are below a number, and apart
pub record TextsLaid (K : Fixed) (texts : Texts) (first : ℕ) : Type 0 where
  pub below : (f : Name) (j : ℕ) (x : Text) → texts f j ≡ Some x → x.block < first
  pub laid : (f : Name) (j : ℕ) (x : Text) → texts f j ≡ Some x → LaidOut K.classes (text_type x)
  pub apart : (f g : Name) (i j : ℕ) (x y : Text) → texts f i ≡ Some x → texts g j ≡ Some y → x.block ≡ y.block → (f ≡ g) × (i ≡ j)

-- all literals stand so
abbrev pub InTexts : Fixed → Texts → Map → State → Memory → Type 0
InTexts K texts F s m = (f : Name) (j : ℕ) (x : Text) → texts f j ≡ Some x → TextAs K F m x (object_of_text f j s)
