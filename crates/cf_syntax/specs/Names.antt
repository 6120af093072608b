-- Which names are types in the scopes that are open (3.2), and how the scopes change.
use Rattle.std.specs.Prelude.{ℕ, zero, suc, ◌-◌, Bool, true, false, cond, List, [], ◌∷◌, ◌++◌, length, take, get_or, slice_set, bytes_eq, Option, Some, None}
use Rattle.cf_syntax.specs.declared.type_names.ClassNames.{ClassNames}
use Rattle.cf_syntax.specs.declared.type_names.Entry.{Entry}
use Rattle.cf_syntax.specs.declared.type_names.NameKind.{NameKind}
use Rattle.cf_syntax.specs.declared.type_names.Scope.{Scope}
use Rattle.cf_syntax.specs.declared.type_names.Scope.TheVariants.{Block, Class}
use Rattle.cf_syntax.specs.NamesData.{Names}
pub use Rattle.cf_syntax.specs.Kinds.{or_else, newest, says, kind_of}

-- what the first item that answers says
abbrev pub oldest : {A B : Type 0} → (A → Option B) → List A → Option B
oldest ask [] = None
oldest ask (x ∷ xs) = or_else (ask x) (oldest ask xs)

abbrev pub no_class : ClassNames
no_class = record { entries = []; bases = []; is_defined = false }

abbrev pub class_at : List ClassNames → ℕ → ClassNames
class_at classes class = get_or classes class no_class

-- a class has its own names, then those of its bases, in order and depth first; `depth` classes lie above
-- one another at most
abbrev pub in_class_to : ℕ → List ClassNames → List ℕ → ℕ → Option NameKind
in_class_to zero classes name class = None
in_class_to (suc depth) classes name class =
    or_else (kind_of (class_at classes class).entries name) (oldest (in_class_to depth classes name) (class_at classes class).bases)

-- the bases of a class were defined before it, so no more classes lie above one another than there are
abbrev pub in_class : List ClassNames → List ℕ → ℕ → Option NameKind
in_class classes name class = in_class_to (length classes) classes name class

abbrev pub in_scope : List ClassNames → List ℕ → Scope → Option NameKind
in_scope classes name (Block entries) = kind_of entries name
in_scope classes name (Class class) = in_class classes name class

-- ---- what is asked

-- the innermost open scope that has the name answers
abbrev pub find : Names → List ℕ → Option NameKind
find names name = or_else (newest (in_scope names.classes name) names.inner) (kind_of names.file name)

abbrev pub find_in_file : Names → List ℕ → Option NameKind
find_in_file names name = kind_of names.file name

abbrev pub find_in : Names → ℕ → List ℕ → Option NameKind
find_in names class name = in_class names.classes name class

-- the innermost of the open scopes: the last one, or the file's where there is none
abbrev pub innermost : Names → Scope
innermost names = get_or names.inner (length names.inner - 1) (Block names.file)

abbrev pub find_here : Names → List ℕ → Option NameKind
find_here names name = in_scope names.classes name (innermost names)

abbrev pub is_defined : Names → ℕ → Bool
is_defined names class = (class_at names.classes class).is_defined

-- ---- how the names change

abbrev pub no_names : Names
no_names = record { classes = []; file = []; inner = [] }

abbrev pub with_class : Names → Names
with_class names = record { classes = names.classes ++ no_class ∷ []; file = names.file; inner = names.inner }

abbrev pub based : ClassNames → List ℕ → ClassNames
based c bases = record { entries = c.entries; bases = bases; is_defined = true }

abbrev pub with_bases : Names → ℕ → List ℕ → Names
with_bases names class bases =
    record { classes = slice_set names.classes class (based (class_at names.classes class) bases); file = names.file; inner = names.inner }

abbrev pub with_scope : Names → Scope → Names
with_scope names scope = record { classes = names.classes; file = names.file; inner = names.inner ++ scope ∷ [] }

abbrev pub without_scope : Names → Names
without_scope names = record { classes = names.classes; file = names.file; inner = take (length names.inner - 1) names.inner }

abbrev pub grown : ClassNames → Entry → ClassNames
grown c e = record { entries = c.entries ++ e ∷ []; bases = c.bases; is_defined = c.is_defined }

-- an entry in the open scope of this number, counted from 0
abbrev pub declared_at : Scope → ℕ → Names → Entry → Names
declared_at (Block entries) n names e =
    record { classes = names.classes; file = names.file; inner = slice_set names.inner n (Block (entries ++ e ∷ [])) }
declared_at (Class class) n names e =
    record { classes = slice_set names.classes class (grown (class_at names.classes class) e); file = names.file; inner = names.inner }

-- an entry in the last of so many open scopes, and in the file's where there is none
abbrev pub declared_in : ℕ → Names → Entry → Names
declared_in zero names e = record { classes = names.classes; file = names.file ++ e ∷ []; inner = names.inner }
declared_in (suc n) names e = declared_at (get_or names.inner n (Block names.file)) n names e

-- an entry in the innermost scope
abbrev pub declared : Names → List ℕ → NameKind → Names
declared names name kind = declared_in (length names.inner) names (record { name = name; kind = kind })
