-- What the words behind the program's name ask for.
use Rattle.std.specs.Prelude.{◌≡◌, ℕ, Bool, true, false, not, ◌==◌, List, [], ◌∷◌, ◌++◌, codes, drop, IsTrue}
use Rattle.cc_whole_run.specs.declared.types.Limits.{Limits}

-- the limits of a run that no option changes: ticks, entered functions, bytes of heap
abbrev pub default_limits : Limits
default_limits = record { ticks = 10000000; depth = 1024; heap = 1048576 }

-- not empty, and no option
abbrev pub is_file_name : List ℕ → Bool
is_file_name [] = false
is_file_name (byte ∷ bytes) = not (byte == 45)

-- `go FILE`
pub record IsGo (words : List (List ℕ)) (file : List ℕ) : Type 0 where
  pub spelled : words ≡ codes "go" ∷ file ∷ []
  pub named : is_file_name file ≡ true

-- the FILEs of a job
abbrev pub files_of : List (List ℕ) → List (List ℕ)
files_of words = drop 1 words

-- where the C text of a file stands
abbrev pub text_name : List ℕ → List ℕ
text_name file = file ++ codes ".c"
