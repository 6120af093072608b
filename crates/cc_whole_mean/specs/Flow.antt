-- How a statement ends, and in which state.
use Rattle.std.specs.Prelude.{ℕ, suc, zero, List, [], ◌∷◌, ℤ, Option, Some, None, Result, Ok, Err}
use Rattle.cf_base.specs.Event.{Undefined}
use Rattle.cf_base.specs.World.{World, Ran, Went, Stops}
use Rattle.cc_whole_memory.specs.declared.value.Value.{Value}
use Rattle.cc_whole_memory.specs.declared.store.Storage.TheVariants as storage
use Rattle.cc_whole_memory.specs.Values.{size_of}
use Rattle.cc_whole_memory.specs.declared.cells.Cell.TheVariants as cell
use Rattle.cc_whole_memory.specs.Cells.{put}
use Rattle.cc_whole_memory.specs.Blocks.{Memory, put_block, born, ended}
use Rattle.cc_whole.specs.declared.statement.CLocal.{CLocal}
use Rattle.cc_whole_mean.specs.Types.{local_size}

-- the memory, and the functions that `atexit` registered, by number, the newest first
pub record State : Type 0 where
  pub memory : Memory
  pub registered : List ℕ

abbrev pub in_memory : State → Memory → State
in_memory s m = record s { memory = m }

-- A statement falls to the next one, breaks from a loop or a `switch`, goes on with the next turn of a loop, returns, or has called `exit`.
pub data Flow : Type 0 where
  Falls : State → Flow
  Breaks : State → Flow
  Continues : State → Flow
  Returns : Option Value → State → Flow
  Exits : ℤ → State → Flow

-- a run goes on from an answer, or ends in the act
abbrev pub tried : {A B : Type 0} → Result A ℕ → World → (A → Ran B) → Ran B
tried (Ok a) w go = go a
tried (Err act) w go = Stops (Undefined act) w.trace

-- the next statement runs where the one before it falls
abbrev pub falling : (State → World → Ran Flow) → Flow → World → Ran Flow
falling go (Falls s) w = go s w
falling go (Breaks s) w = Went (Breaks s) w
falling go (Continues s) w = Went (Continues s) w
falling go (Returns v s) w = Went (Returns v s) w
falling go (Exits z s) w = Went (Exits z s) w

-- the next turn of a loop
abbrev pub turning : (State → World → Ran Flow) → Flow → World → Ran Flow
turning go (Falls s) w = go s w
turning go (Breaks s) w = Went (Falls s) w
turning go (Continues s) w = go s w
turning go (Returns v s) w = Went (Returns v s) w
turning go (Exits z s) w = Went (Exits z s) w

-- the end of a `switch`
abbrev pub switching : Flow → Flow
switching (Falls s) = Falls s
switching (Breaks s) = Falls s
switching (Continues s) = Continues s
switching (Returns v s) = Returns v s
switching (Exits z s) = Exits z s

-- so many blocks end, from this number on
abbrev pub ended_from : ℕ → ℕ → Memory → Memory
ended_from zero b m = m
ended_from (suc k) b m = ended_from k (suc b) (ended b m)

abbrev pub ending_state : ℕ → ℕ → State → State
ending_state k b s = in_memory s (ended_from k b s.memory)

-- the blocks of a body's locals, or of a function's parameters, end however it ends
abbrev pub ending : ℕ → ℕ → Flow → Flow
ending k b (Falls s) = Falls (ending_state k b s)
ending k b (Breaks s) = Breaks (ending_state k b s)
ending k b (Continues s) = Continues (ending_state k b s)
ending k b (Returns v s) = Returns v (ending_state k b s)
ending k b (Exits z s) = Exits z (ending_state k b s)

-- new blocks for locals, without values
abbrev pub born_locals : List CLocal → Memory → Memory
born_locals [] m = m
born_locals (x ∷ xs) m = born_locals xs (born storage.Local (local_size x.ty) m)

-- a new block that holds this value
abbrev pub born_holding : Value → Memory → Memory
born_holding v m = record {
  next = suc m.next;
  block = put_block m.next (Some (record { storage = storage.Local; size = size_of v; cells = put v 0 (λ i. cell.Gone) })) m.block;
}

-- new blocks for parameters, which hold the arguments
abbrev pub born_arguments : List Value → Memory → Memory
born_arguments [] m = m
born_arguments (v ∷ vs) m = born_arguments vs (born_holding v m)

-- a function has come back, with a result or without one, or `exit` was called with this status
pub data Called : Type 0 where
  Back : Option Value → State → Called
  Gone : ℤ → State → Called

abbrev pub called_back : Flow → Called
called_back (Falls s) = Back None s
called_back (Breaks s) = Back None s
called_back (Continues s) = Back None s
called_back (Returns v s) = Back v s
called_back (Exits z s) = Gone z s
