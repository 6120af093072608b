-- What taking the next byte of an input comes to, before and after which its end was met or not.
use Rattle.std.specs.Prelude.{◌≡◌, ℕ, Bool, true, false, [], ◌∷◌, IsTrue, Option, Some, None, Result, Ok, Err}
use Rattle.cf_base.specs.declared.memory.Failed.{Failed}
use Rattle.cf_base.specs.Rose.{Rose}
use Rattle.cf_base.specs.Stream.{Stream}

-- a byte was taken
pub record Took (a b : Stream) (byte : ℕ) (before now : Bool) : Type 0 where
  pub unmet : before ≡ false
  pub still : now ≡ false
  pub bytes : IsTrue a.told → a.bytes ≡ byte ∷ b.bytes
  pub told : IsTrue a.told → IsTrue b.told
  pub faults : b.faults ≡ a.faults

-- the end was met before or now
pub record MetEnd (a b : Stream) (before now : Bool) : Type 0 where
  pub met : now ≡ true
  pub left : IsTrue before → b ≡ a
  pub none : before ≡ false → IsTrue a.told → (a.bytes ≡ []) × (b.bytes ≡ [])
  pub told : IsTrue a.told → IsTrue b.told
  pub faults : b.faults ≡ a.faults

-- the call failed
pub record TookNot (a b : Stream) (before now : Bool) : Type 0 where
  pub unmet : before ≡ false
  pub still : now ≡ before
  pub bytes : IsTrue a.told → b.bytes ≡ a.bytes
  pub told : IsTrue a.told → IsTrue b.told
  pub rose : Rose a.faults b.faults

abbrev pub Answers : Stream → Stream → Bool → Bool → Result (Option ℕ) Failed → Type 0
Answers a b before now (Ok (Some byte)) = Took a b byte before now
Answers a b before now (Ok None) = MetEnd a b before now
Answers a b before now (Err failed) = TookNot a b before now
