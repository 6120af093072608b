-- What a source has left, and what a sink took.
use Rattle.std.specs.Prelude.{◌≡◌, ℕ, Bool, true, List, [], ◌∷◌, ◌++◌, length, Option, Some, None, Result, Ok, Err}
use Rattle.cf_base.specs.declared.memory.Failed.{Failed}

-- Of a source the bytes left, of a sink the bytes written and how many of them were handed on, where it tells them; and how many of
-- its calls failed. A source hands on none.
pub record Stream : Type 0 where
  pub told : Bool
  pub bytes : List ℕ
  pub handed_on : ℕ
  pub faults : ℕ

-- these bytes, told, none of them handed on, with no failures so far
abbrev pub stream_without_faults : List ℕ → Stream
stream_without_faults bytes = record { told = true; bytes = bytes; handed_on = 0; faults = 0 }

-- The first of two lists begins the second.
pub record IsFront {A : Type 0} (front whole : List A) : Type 0 where
  pub rest : List A
  pub joined : whole ≡ front ++ rest

-- A source with the bytes `old` gave this answer and has the bytes `new` left: none exactly at the end,
-- and all of them after a failure.
abbrev pub Gives : List ℕ → List ℕ → Result (Option ℕ) Failed → Type 0
Gives old new (Ok None) = (old ≡ []) × (new ≡ [])
Gives old new (Ok (Some byte)) = old ≡ byte ∷ new
Gives old new (Err error) = new ≡ old

-- A piece was added to what stood: whole, and after a failure a front of it.
pub record AddsFront (piece old new : List ℕ) : Type 0 where
  pub front : List ℕ
  pub is_front : IsFront front piece
  pub added : new ≡ old ++ front

abbrev pub Puts : {T : Type 0} → List ℕ → List ℕ → List ℕ → Result T Failed → Type 0
Puts piece old new (Ok value) = new ≡ old ++ piece
Puts piece old new (Err error) = AddsFront piece old new

-- all bytes of a sink were handed on
abbrev pub HandedOn : Stream → Type 0
HandedOn sink = sink.handed_on ≡ length sink.bytes

-- A flush handed on all bytes, and after a failure no more than before.
abbrev pub HandsOn : {T : Type 0} → Stream → Stream → Result T Failed → Type 0
HandsOn old new (Ok value) = HandedOn new
HandsOn old new (Err error) = new.handed_on ≡ old.handed_on
