-- What a run shows, and how it ends.
use Rattle.std.specs.Prelude.{ℕ, ◌+◌, List, [], ◌∷◌, ◌++◌, ℤ, Option, Some, None, codes, decimal}

-- a function is entered, a byte or the end is taken from the input, a byte is put on the output
pub data Event : Type 0 where
  Enter : List ℕ → Event
  In : Option ℕ → Event
  Out : ℕ → Event

-- a status, no tick left, no depth left, or an act without a meaning: 1 to 16 are the source's, 1 to 11 the small C's
pub data End : Type 0 where
  Ended : ℤ → End
  Ticks : End
  Depth : End
  Undefined : ℕ → End

-- the bytes that the output gets
abbrev pub out_bytes : List Event → List ℕ
out_bytes [] = []
out_bytes (Enter name ∷ rest) = out_bytes rest
out_bytes (In byte ∷ rest) = out_bytes rest
out_bytes (Out byte ∷ rest) = byte ∷ out_bytes rest

-- the bytes that the input gave
abbrev pub in_bytes : List Event → List ℕ
in_bytes [] = []
in_bytes (Enter name ∷ rest) = in_bytes rest
in_bytes (In None ∷ rest) = in_bytes rest
in_bytes (In (Some byte) ∷ rest) = byte ∷ in_bytes rest
in_bytes (Out byte ∷ rest) = in_bytes rest

-- how many functions were entered
abbrev pub entered : List Event → ℕ
entered [] = 0
entered (Enter name ∷ rest) = 1 + entered rest
entered (In byte ∷ rest) = entered rest
entered (Out byte ∷ rest) = entered rest

-- the line that shows an event, without its newline
abbrev pub event_line : Event → List ℕ
event_line (Enter name) = codes "enter " ++ name
event_line (In None) = codes "in end"
event_line (In (Some byte)) = codes "in " ++ decimal byte
event_line (Out byte) = codes "out " ++ decimal byte

-- each event on a line of its own
abbrev pub event_lines : List Event → List ℕ
event_lines [] = []
event_lines (event ∷ rest) = event_line event ++ (10 ∷ event_lines rest)
