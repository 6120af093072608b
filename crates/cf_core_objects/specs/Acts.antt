-- Reading and writing, where it is told what is at the place.
use Rattle.std.specs.Prelude.{Option, not}
use Rattle.cf_core.specs.Store.{Value}
use Rattle.cf_core.specs.Run.{Act, ◌>>◌, valid, need, some_or, undefined, not_alive, outside_array, no_value, write_to_const}
use Rattle.cf_core_objects.specs.declared.site.Site.{Site}
use Rattle.cf_core_objects.specs.Site.{scalar_sort}

abbrev pub readable : Site → Act (Unit {0})
readable site = valid (scalar_sort site.sort) >> (need site.is_inside outside_array >> need (not site.is_gone) not_alive)

abbrev pub writable : Site → Act (Unit {0})
writable site = readable site >> need (not site.is_constant) write_to_const

abbrev pub value_held : Option Value → Act Value
value_held held = some_or held (undefined no_value)
