-- What entries say of a name: the newest one of that name answers.
use Rattle.std.specs.Prelude.{ℕ, cond, List, [], ◌∷◌, bytes_eq, Option, Some, None}
use Rattle.cf_syntax.specs.declared.type_names.Entry.{Entry}
use Rattle.cf_syntax.specs.declared.type_names.NameKind.{NameKind}

-- the first of two answers that is there
abbrev pub or_else : {A : Type 0} → Option A → Option A → Option A
or_else (Some x) later = Some x
or_else None later = later

-- what the last item that answers says
abbrev pub newest : {A B : Type 0} → (A → Option B) → List A → Option B
newest ask [] = None
newest ask (x ∷ xs) = or_else (newest ask xs) (ask x)

-- what an entry says of a name
abbrev pub says : List ℕ → Entry → Option NameKind
says name e = cond (bytes_eq e.name name) (Some e.kind) None

-- what a scope's own entries say of a name
abbrev pub kind_of : List Entry → List ℕ → Option NameKind
kind_of entries name = newest (says name) entries
