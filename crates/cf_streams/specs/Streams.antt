-- What a run does to its input and its output.
use Rattle.std.specs.Prelude.{◌≡◌, ℕ, ◌-◌, ◌^◌, min, List, ◌++◌, IsTrue}
use Rattle.cf_base.specs.Stream.{Stream}
use Rattle.cf_base.specs.Event.{Event, in_bytes, out_bytes, entered}

-- the streams of a run
pub record Streams : Type 0 where
  pub input : Stream
  pub out : Stream

abbrev pub streams : Stream → Stream → Streams
streams input out = record { input = input; out = out }

-- A source that told its bytes still tells them, and a sink that tells its bytes told them before.
pub record StillTold (old new : Streams) : Type 0 where
  pub input : IsTrue old.input.told → IsTrue new.input.told
  pub out : IsTrue new.out.told → IsTrue old.out.told

-- These events were carried out: their bytes were taken from the input and put on the output. `input` is what the input held.
pub record Carried (events : List Event) (input : List ℕ) (old new : Streams) : Type 0 where
  pub held : IsTrue old.input.told → old.input.bytes ≡ input
  pub taken : IsTrue old.input.told → input ≡ in_bytes events ++ new.input.bytes
  pub put : IsTrue new.out.told → new.out.bytes ≡ old.out.bytes ++ out_bytes events
  pub told : StillTold old new

-- how many functions these events enter, as a number of 64 bits that stays at its greatest
abbrev pub entered_count : List Event → ℕ
entered_count events = min (entered events) (2 ^ 64 - 1)

-- no call on these streams failed
pub record SameCounts (old new : Streams) : Type 0 where
  pub input : new.input.faults ≡ old.input.faults
  pub out : new.out.faults ≡ old.out.faults
