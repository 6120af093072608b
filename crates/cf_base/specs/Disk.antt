-- Named files: their content where it is told, and how many calls failed on each name.
use Rattle.std.specs.Prelude.{◌≡◌, ◌≢◌, ℕ, ◌<◌, Bool, true, List, length, Option, Some, Result, Ok, Err, IsSomeAnd}
use Rattle.cf_base.specs.declared.files.ReadErr.{ReadErr}
use Rattle.cf_base.specs.declared.files.ReadErr.TheVariants as read
use Rattle.cf_base.specs.declared.files.WriteErr.{WriteErr}
use Rattle.cf_base.specs.declared.files.WriteErr.TheVariants as write
use Rattle.cf_base.specs.Rose.{Rose}

-- what each name holds, if there is a file of that name
abbrev pub Names : Type 0
Names = List ℕ → Option (List ℕ)

-- a number for each name
abbrev pub Counts : Type 0
Counts = List ℕ → ℕ

pub record Disk : Type 0 where
  pub told : Bool
  pub content : Names
  pub read_faults : Counts
  pub write_faults : Counts

-- these names, told, with no failures so far
abbrev pub disk_without_faults : Names → Disk
disk_without_faults content = record { told = true; content = content; read_faults = λ _. 0; write_faults = λ _. 0 }

-- every name but this one has what it had
abbrev pub SameElsewhere : {T : Type 0} → List ℕ → (List ℕ → T) → (List ℕ → T) → Type 0
SameElsewhere name old new = (other : List ℕ) → other ≢ name → new other ≡ old other

-- the count of this name rose, and no other count changed
pub record Rises (name : List ℕ) (old new : Counts) : Type 0 where
  pub here : Rose (old name) (new name)
  pub elsewhere : SameElsewhere name old new

-- What a read answers where the name holds `held` and at most `cap` bytes are wanted: all of them,
-- or that there are more. `view` is the list in the answer.
abbrev pub Reads : {T : Type 0} → (T → List ℕ) → Option (List ℕ) → ℕ → Result T ReadErr → Type 0
Reads view held cap (Ok bytes) = held ≡ Some (view bytes)
Reads view held cap (Err read.Failed) = Unit {0}
Reads view held cap (Err read.TooLong) = IsSomeAnd held (λ bytes. cap < length bytes)
Reads view held cap (Err read.Memory) = Unit {0}

-- What a write leaves: the bytes under the name; after a failure the name alone is open; for want of memory all
-- is as before.
abbrev pub Writes : {T : Type 0} → List ℕ → List ℕ → Names → Names → Result T WriteErr → Type 0
Writes name bytes old new (Ok value) = (new name ≡ Some bytes) × SameElsewhere name old new
Writes name bytes old new (Err write.Failed) = SameElsewhere name old new
Writes name bytes old new (Err write.Memory) = new ≡ old

-- A failure raised the count of its name alone, and every other answer left all counts as they were.
abbrev pub CountsReads : {T : Type 0} → List ℕ → Counts → Counts → Result T ReadErr → Type 0
CountsReads name old new (Ok bytes) = new ≡ old
CountsReads name old new (Err read.Failed) = Rises name old new
CountsReads name old new (Err read.TooLong) = new ≡ old
CountsReads name old new (Err read.Memory) = new ≡ old

abbrev pub CountsWrites : {T : Type 0} → List ℕ → Counts → Counts → Result T WriteErr → Type 0
CountsWrites name old new (Ok value) = new ≡ old
CountsWrites name old new (Err write.Failed) = Rises name old new
CountsWrites name old new (Err write.Memory) = new ≡ old
