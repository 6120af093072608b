-- The rows of the begin and the end of a file and of linkage specifications, each under a name of its own that does not unfold.
-- `Rattle.cf_elab_file.proofs` says what each is.
use Rattle.std.specs.Prelude.{ℕ, Bool, ◌&&◌, List, [], ◌∷◌, codes, bytes_eq}
use Rattle.std.specs.List.{list_all}
use Rattle.cf_unit.specs.declared.file.Linkage.{Linkage}
use Rattle.cf_elab.specs.Answer.{Elab, ◌>>=◌, ◌>>◌, known, need}
use Rattle.cf_elab.specs.Env.{Env, Name}
use Rattle.cf_elab.specs.File as file
use Rattle.cf_elab.specs.Made as made

-- ---- the begin of a file

unfoldable pub library : Name → ℕ → List ℕ → Elab (Unit {0})
library = file.library

-- the three functions, where the type `int` has this number
unfoldable pub library_all : ℕ → Elab (Unit {0})
library_all i = do
  v ← made.void
  file.library (codes "putchar") i (i ∷ [])
  file.library (codes "getchar") i []
  file.library (codes "exit") v (i ∷ [])

unfoldable pub beginning : Elab (Unit {0})
beginning = file.beginning

-- ---- the end of a file

unfoldable pub all_defined : Elab (Unit {0})
all_defined = file.all_defined

-- ---- linkage specifications

abbrev pub is_built : Env → Linkage → Bool
is_built env l = bytes_eq l.language.1 (codes "C") && list_all (file.all_library env) l.declarations

-- what is looked at behind the declarations
unfoldable pub linkage_checked : Linkage → Elab (Unit {0})
linkage_checked l = known >>= (λ env. need (is_built env l) 48 l.at)
