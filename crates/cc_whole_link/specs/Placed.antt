-- The items of units in order, with the names that they get in the program.
use Rattle.std.specs.Prelude.{ℕ, suc, Bool, false, ◌&&◌, if◌then◌else◌, List, [], ◌∷◌, ◌++◌, codes, decimal, bytes_eq, map}
use Rattle.cc_whole.specs.declared.unit.CItem.{CItem}
use Rattle.cc_whole.specs.declared.unit.CUnit.{CUnit}
use Rattle.cc_whole.specs.Plain.{Statement, assign, call, block, leave, next, choose, loop, select, give, Statements, done, followed, SwitchItems, closed, labelled, otherwise, stated, Body, body, Item, declares, declares_variable, defines, defines_variable, item_of, items_of, name_of}
use Rattle.cc_whole.specs.Known.{is_in}
use Rattle.cc_whole.specs.Uses.{local_names, parameter_names, uses_of_item}
use Rattle.cc_whole.specs.Valid.{is_definition}
use Rattle.cc_whole.specs.ValidUnit.{is_static}
use Rattle.cc_whole_link.specs.Rename.{Renaming, item_renamed}

-- the names that some item declares `static`
abbrev pub statics : List Item → List (List ℕ)
statics [] = []
statics (i ∷ rest) = if is_static i then name_of i ∷ statics rest else statics rest

-- a static name of the unit of this number
abbrev pub longer : ℕ → List ℕ → List ℕ
longer unit name = name ++ (codes "__u" ++ decimal unit)

abbrev pub static_renaming : ℕ → List (List ℕ) → Renaming
static_renaming unit names name = if is_in names name then longer unit name else name

-- an item, the number of its unit, as it stands there, and as it stands in the program; the names that it uses, as they are in the program;
-- whether its name is static, and the longer names of all static names of its unit
pub record Placed : Type 0 where
  pub unit : ℕ
  pub was : CItem
  pub now : CItem
  pub uses : List (List ℕ)
  pub is_static : Bool
  pub longer_names : List (List ℕ)

abbrev pub placed : ℕ → List (List ℕ) → CItem → Placed
placed unit names i = record {
  unit = unit;
  was = i;
  now = item_renamed i (static_renaming unit names);
  uses = map (static_renaming unit names) (uses_of_item (item_of i));
  is_static = is_in names (name_of (item_of i));
  longer_names = map (longer unit) names;
}

abbrev pub placed_items : ℕ → List CItem → List Placed
placed_items unit items = map (placed unit (statics (items_of items))) items

-- the items of all units, which are numbered from this number on
abbrev pub placed_units : ℕ → List CUnit → List Placed
placed_units unit [] = []
placed_units unit (u ∷ rest) = placed_items unit u.items ++ placed_units (suc unit) rest

-- the name in the program
abbrev pub its_name : Placed → List ℕ
its_name p = name_of (item_of p.now)

-- the name in the unit
abbrev pub old_name : Placed → List ℕ
old_name p = name_of (item_of p.was)

abbrev pub defines_it : Placed → Bool
defines_it p = is_definition (item_of p.now)

abbrev pub is_shared_item : Item → Bool
is_shared_item (declares p) = false
is_shared_item (declares_variable t name) = false
is_shared_item (defines f) = f.is_shared
is_shared_item (defines_variable v) = v.is_shared

abbrev pub is_shared : Placed → Bool
is_shared p = is_shared_item (item_of p.now)

abbrev pub defines_named : List ℕ → Placed → Bool
defines_named name p = defines_it p && bytes_eq (its_name p) name

-- ---- parameters and locals, in the order of the text

abbrev mutual
  pub locals_of : Statement → List (List ℕ)
  locals_of (assign p e) = []
  locals_of (call p c es) = []
  locals_of (block b) = locals_of_body b
  locals_of leave = []
  locals_of next = []
  locals_of (choose e b other) = locals_of_body b ++ locals_of_body other
  locals_of (loop b) = locals_of_body b
  locals_of (select e items) = locals_of_switch items
  locals_of (give e) = []

  pub locals_of_all : Statements → List (List ℕ)
  locals_of_all done = []
  locals_of_all (followed s rest) = locals_of s ++ locals_of_all rest

  pub locals_of_switch : SwitchItems → List (List ℕ)
  locals_of_switch closed = []
  locals_of_switch (labelled c rest) = locals_of_switch rest
  locals_of_switch (otherwise rest) = locals_of_switch rest
  locals_of_switch (stated s rest) = locals_of s ++ locals_of_switch rest

  pub locals_of_body : Body → List (List ℕ)
  locals_of_body (body locals all) = local_names locals ++ locals_of_all all

abbrev pub inner_names : Item → List (List ℕ)
inner_names (declares p) = parameter_names p.parameters
inner_names (declares_variable t name) = []
inner_names (defines f) = parameter_names f.prototype.parameters ++ locals_of_body f.body
inner_names (defines_variable v) = []
