-- Where both programs call the source's `main`, and how the C's own `main` ends.
use Rattle.std.specs.Prelude.{◌≡◌, ℕ, ◌<◌, false, List, [], ◌∷◌, ℤ, Some, codes}
use Rattle.cf_base.specs.declared.kind.Kind.TheVariants.{Int}
use Rattle.cf_base.specs.World.{World}
use Rattle.cf_core.specs.Types.{Name}
use Rattle.cf_core.specs.Objects.{static_number}
use Rattle.cf_core.specs.Run.{State, for_all}
use Rattle.cf_core.specs.Program.{first_state}
use Rattle.cf_plain.specs.Program.{PlainSetting, set_constant}
use Rattle.cf_plain.specs.Running as plain
use Rattle.cf_plain_finished.specs.Finished.{Always, NoneFinished}
use Rattle.cc_whole.specs.Plain.{Statement, in_order, call, by_name, named, load, give}
use Rattle.cc_whole_memory.specs.declared.store.Storage.TheVariants as storage
use Rattle.cc_whole_memory.specs.declared.value.Value.TheVariants as value
use Rattle.cc_whole_memory.specs.declared.value.Scalar.TheVariants as scalar
use Rattle.cc_whole_memory.specs.Blocks.{Block, Memory, new_block, born}
use Rattle.cc_whole_mean.specs.declared.named.Named.TheVariants as meant
use Rattle.cc_whole_mean.specs.declared.named.Shape.TheVariants.{Single as single}
use Rattle.cc_whole_mean.specs.Flow as c
use Rattle.cc_whole_mean.specs.Flow.{in_memory}
use Rattle.cc_whole_mean.specs.Mean as mean
use Rattle.cc_whole_mean.specs.Mean.{helps_in}
use Rattle.cc_whole_mean.specs.Scope.{Scope, bind}
use Rattle.cf_lower_relate.specs.Map.{Map, is_hidden}
use Rattle.cf_lower_relate.specs.Relation.{Rel}
use Rattle.cf_lower_steps.specs.Flows.{Simulates}
use Rattle.cf_lower_place.specs.Input.{IsInput}
use Rattle.cf_lower_turns.specs.Texts.{NoText, Free, TextsLaid, InTexts}
use Rattle.cf_lower_calls.specs.Returns.Called.{Programs, fixed, StaticThere}

-- the C's `main` returns what it keeps in `status`: `status = __main(); return status;`
abbrev pub main_name : Name
main_name = codes "__main"

abbrev pub status : Name
status = codes "status"

abbrev pub last_statements : List Statement
last_statements = call (Some (named status)) (by_name main_name) [] ∷ give (Some (load (named status))) ∷ []

-- the names in it, where its local stands in this block
abbrev pub main_scope : Scope → ℕ → Scope
main_scope names b = bind status (meant.Variable b (single (scalar.Integer Int))) names

abbrev pub status_block : Block
status_block = new_block storage.Local 4

-- the C returns the status of the source
pub record MainEnds (z : ℤ) (s : State) (flow : c.Flow) : Type 0 where
  pub after : c.State
  pub is : flow ≡ c.Returns (Some (value.Number Int z)) after

-- Objects stand in the memory, none is an argument's, static objects in the variables of their names, and literals have their bytes where no object stands yet.
pub record Ready (B : Programs) (F : Map) (s : State) (memory : Memory) : Type 0 where
  pub rel : Rel (fixed B) F s memory
  pub shown : (o : ℕ) → o < F.count → is_hidden (F.stage o) ≡ false
  pub texts_laid : TextsLaid (fixed B) B.texts memory.next
  pub texts : InTexts (fixed B) B.texts F s memory
  pub statics : (name : Name) (o : ℕ) → static_number B.program name ≡ Some o → StaticThere B F name o

-- the block of `status`, which is no object's
pub record StatusThere (B : Programs) (F : Map) (memory : Memory) (b : ℕ) : Type 0 where
  pub block : memory.block b ≡ Some status_block
  pub below : b < memory.next
  pub no_text : NoText B.texts b
  pub free : Free F b

-- both are there behind what runs before `main`, with so many levels of depth, and nothing is to be destroyed
pub record ReadyBehind (B : Programs) (depth b : ℕ) (s : State) (flow : c.Flow) : Type 0 where
  pub after : c.State
  pub is : flow ≡ c.Falls after
  pub map : Map
  pub ready : Ready B map s after.memory
  pub place : StatusThere B map after.memory b
  pub levels : s.frame.depth ≡ depth
  pub finished : s.finished ≡ []

-- What sets constants in both programs does the same, from where the program starts with the C local of `main`: behind it the source's `main` may be called.
pub record ConstantsAlike (B : Programs) (settings : List PlainSetting) (before : List Statement) (first : c.State) : Type 0 where
  pub alike : (n depth : ℕ) (w : World) → IsInput w.input
      → Simulates (λ a s flow. ReadyBehind B depth first.memory.next s flow)
      (for_all settings (set_constant (plain.runs B.program B.functions n) B.program) (first_state B.program depth) w)
      (mean.does_all (mean.runs B.c_program n) (helps_in (mean.runs B.c_program n) B.c_program false) B.c_program false (in_order before)
      (main_scope B.c_program.names first.memory.next) depth (in_memory first (born storage.Local 4 first.memory)) w)
  pub kept : (n depth : ℕ) (w : World)
      → Always NoneFinished (for_all settings (set_constant (plain.runs B.program B.functions n) B.program) (first_state B.program depth) w)
