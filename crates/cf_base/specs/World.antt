-- The world of a run, and how one step leads on to the next. The meanings of the source and of the small C are written in these words.
use Rattle.std.specs.Prelude.{ℕ, zero, suc, List, [], ◌∷◌, ◌++◌, ℤ, Option, Some, None}
use Rattle.cf_base.specs.Event.{Event, In, End, Ended, Ticks, Depth}

-- what both meanings have in common at a moment of a run
pub record World : Type 0 where
  pub ticks : ℕ  -- left
  pub input : List ℕ  -- bytes left
  pub heap : ℕ  -- bytes of the heap limit that no live charge takes
  pub trace : List Event  -- so far, oldest first

-- a run goes on with a value in a world, or has ended with its whole trace
pub data Ran (A : Type 0) : Type 0 where
  Went : A → World → Ran A
  Stops : End → List Event → Ran A

abbrev pub and_then : {A B : Type 0} → Ran A → (A → World → Ran B) → Ran B
and_then (Went a w) go = go a w
and_then (Stops end trace) go = Stops end trace

-- the trace so far, or in the end
abbrev pub shown : {A : Type 0} → Ran A → List Event
shown (Went a w) = w.trace
shown (Stops end trace) = trace

-- a run begins with a bound, an input and a heap limit
abbrev pub world_at : ℕ → List ℕ → ℕ → World
world_at ticks input heap = record { ticks = ticks; input = input; heap = heap; trace = [] }

abbrev pub spend_of : {A : Type 0} → ℕ → World → (World → Ran A) → Ran A
spend_of zero w go = Stops Ticks w.trace
spend_of (suc left) w go = go (record w { ticks = left })

-- one tick is spent before the act; where none is left the run ends
abbrev pub spend : {A : Type 0} → World → (World → Ran A) → Ran A
spend w go = spend_of w.ticks w go

-- one level of depth is taken, of those that are left
abbrev pub deeper : {A : Type 0} → ℕ → World → (ℕ → Ran A) → Ran A
deeper zero w go = Stops Depth w.trace
deeper (suc depth) w go = go depth

abbrev pub show : Event → World → World
show event w = record w { trace = w.trace ++ event ∷ [] }

abbrev pub next_of : {A : Type 0} → List ℕ → World → (Option ℕ → World → Ran A) → Ran A
next_of [] w go = go None (show (In None) w)
next_of (byte ∷ rest) w go = go (Some byte) (show (In (Some byte)) (record w { input = rest }))

-- the next byte of the input is taken, or its end is met
abbrev pub next_byte : {A : Type 0} → World → (Option ℕ → World → Ran A) → Ran A
next_byte w go = next_of w.input w go

-- the trace and the end of a whole run
pub record Outcome : Type 0 where
  pub end : End
  pub trace : List Event

-- a run that gives a status has ended with it
abbrev pub outcome : Ran ℤ → Outcome
outcome (Went status w) = record { end = Ended status; trace = w.trace }
outcome (Stops end trace) = record { end = end; trace = trace }
