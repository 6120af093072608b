-- The rows of a file's items, each under a name of its own that does not unfold. `Rattle.cf_elab_unit.proofs.UnitLaws` says what each is.
use Rattle.std.specs.Prelude.{◌≡◌, List, map, None}
use Rattle.cf_unit.specs.declared.file.Item.{Item}
use Rattle.cf_unit.specs.declared.file.Unit.{Unit as FileTree}
use Rattle.cf_elab.specs.Answer.{Answer, Elab, ◌>>◌, for_each}
use Rattle.cf_elab.specs.Built as built
use Rattle.cf_elab.specs.Built.{first_of}
use Rattle.cf_elab.specs.File as file
use Rattle.cf_elab.specs.Scan.{defined_names}

unfoldable pub item : Item → Elab (Unit {0})
item = file.item_row

-- in order
unfoldable pub items : List Item → Elab (Unit {0})
items is = for_each (λ (run : Elab (Unit {0})). run) (map file.item_row is)

-- and then the end of the file
unfoldable pub whole : List Item → Elab (Unit {0})
whole is = items is >> file.all_defined

-- the items of a file, from its begin to its end
unfoldable pub in_turn : FileTree → Answer (Unit {0})
in_turn u = file.in_turn (map file.item_row u.items) (file.first_env built.built_so_far (defined_names u))

-- what a file whose forms are all built is elaborated to
unfoldable pub elaboration : FileTree → file.First
elaboration = file.elaboration built.built_so_far

-- whether all forms in them are built
unfoldable pub IsBuilt : Item → Type 0
IsBuilt i = built.of_item i ≡ None

unfoldable pub AreBuilt : List Item → Type 0
AreBuilt is = first_of (map built.of_item is) ≡ None
