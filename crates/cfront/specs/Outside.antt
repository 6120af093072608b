-- What lies outside the program: files, the input, and two sinks.
use Rattle.std.specs.Prelude.{◌≡◌, IsTrue}
use Rattle.cf_base.specs.Disk.{Disk}
use Rattle.cf_base.specs.Stream.{Stream}
use Rattle.cf_streams.specs.Streams.{Streams, streams}

pub record Outside : Type 0 where
  pub files : Disk
  pub input : Stream
  pub out : Stream
  pub err : Stream

abbrev pub outside : Disk → Stream → Stream → Stream → Outside
outside files input out err = record { files = files; input = input; out = out; err = err }

-- the same, with this on `err`
abbrev pub with_err : Outside → Stream → Outside
with_err w err = record { files = w.files; input = w.input; out = w.out; err = err }

-- the streams that a run of a program has
abbrev pub streams_of : Outside → Streams
streams_of w = streams w.input w.out

-- input and sinks are as they were
pub record StreamsStand (old new : Outside) : Type 0 where
  pub input : new.input ≡ old.input
  pub out : new.out ≡ old.out
  pub err : new.err ≡ old.err

-- What was told stays told: what the files hold, and what the input has left; and a sink that tells its bytes told them before.
pub record KeepTelling (old new : Outside) : Type 0 where
  pub files : IsTrue old.files.told → IsTrue new.files.told
  pub input : IsTrue old.input.told → IsTrue new.input.told
  pub out : IsTrue new.out.told → IsTrue old.out.told
  pub err : IsTrue new.err.told → IsTrue old.err.told

-- no call on the outside failed
pub record CountsStand (old new : Outside) : Type 0 where
  pub reads : new.files.read_faults ≡ old.files.read_faults
  pub writes : new.files.write_faults ≡ old.files.write_faults
  pub input : new.input.faults ≡ old.input.faults
  pub out : new.out.faults ≡ old.out.faults
  pub err : new.err.faults ≡ old.err.faults
