-- What initialises what, each step under a name of its own that does not unfold. `Rattle.cf_elab_initial.proofs.ListsLaws` says what each is.
use Rattle.std.specs.Prelude.{ℕ, List}
use Rattle.cf_types.specs.Table.{Table}
use Rattle.cf_elab.specs.Lists as lists
use Rattle.cf_elab.specs.Lists.{Tree, Plan}
use Rattle.cf_elab_initial.specs.declared.lists.form.Row.{Row}

-- an object of a type by one initialiser, and from the front of a list
unfoldable pub by_one : Table → ℕ → ℕ → Tree → Plan
by_one types t = (lists.planner types t).by_one

unfoldable pub from_front : Table → ℕ → List Tree → Plan × List Tree
from_front types t = (lists.planner types t).from_front

-- so many elements at most from the front of a list
unfoldable pub elements : Table → ℕ → ℕ → List Tree → List Plan × List Tree
elements types t = lists.elements (lists.planner types t)

-- ---- an array

unfoldable pub array_by_one : Table → Row → ℕ → Tree → Plan
array_by_one types r = lists.array_by_one r.is_char r.count (lists.planner types r.element)

unfoldable pub array_front : Table → Row → List Tree → Plan × List Tree
array_front types r = lists.array_from_front r.is_char r.count (lists.planner types r.element)

unfoldable pub braced : Table → Row → ℕ → List Tree → Plan
braced types r at ts = lists.braced r.is_char at r.count (lists.planner types r.element) ts

unfoldable pub full_list : Table → Row → ℕ → List Tree → Plan
full_list types r at ts = lists.full_list at (elements types r.element (lists.at_most r.count ts) ts)

-- ---- how many elements an initialiser gives

unfoldable pub count_in : Table → ℕ → Tree → ℕ
count_in = lists.count_in

unfoldable pub list_count : Table → ℕ → List Tree → ℕ
list_count types t ts = lists.count_in types t (lists.branch 0 (lists.listed ts))
