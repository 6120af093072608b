-- What an item of a program takes of the room for variables.
use Rattle.std.specs.Prelude.{ℕ}
use Rattle.cc_whole.specs.declared.unit.CItem.{CItem}
use Rattle.cc_whole.specs.declared.unit.CItem.TheVariants as item
use Rattle.cc_whole_link.specs.Static.{rounded, variable_bytes}

abbrev pub item_bytes : CItem → ℕ
item_bytes (item.Prototype p) = 0
item_bytes (item.Extern t name) = 0
item_bytes (item.Function f) = 0
item_bytes (item.Variable v) = rounded (variable_bytes v.ty)
