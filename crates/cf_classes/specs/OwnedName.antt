-- Link names of what belongs to a function, a unit or a class.
use Rattle.std.specs.Prelude.{ℕ, List, ◌++◌, codes, decimal}
use Rattle.cf_classes.specs.LinkName.{scope_code}

-- the string literal of this number in a function; in the initialisers of a unit the function is `__sti`
abbrev pub literal_name : ℕ → List ℕ → List ℕ
literal_name number function = codes "__s" ++ decimal number ++ codes "__" ++ function

-- a static object of this name in a function, by its number there
abbrev pub local_static_name : List ℕ → ℕ → List ℕ → List ℕ
local_static_name name number function = name ++ codes "__L" ++ decimal number ++ codes "__" ++ function

-- the flag that tells whether it was reached
abbrev pub flag_name : List ℕ → List ℕ
flag_name object = object ++ codes "__i"

-- the temporary that a static reference binds
abbrev pub temporary_name : List ℕ → List ℕ
temporary_name reference = reference ++ codes "__t"

-- the virtual tables of a class, by the names that lead to it
abbrev pub tables_name : List (List ℕ) → List ℕ
tables_name names = codes "__vt__" ++ scope_code names

-- its description
abbrev pub description_name : List (List ℕ) → List ℕ
description_name names = codes "__ds__" ++ scope_code names
