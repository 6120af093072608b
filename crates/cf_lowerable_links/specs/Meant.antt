-- What a table says that names mean.
use Rattle.std.specs.Prelude.{ℕ, List, Option, option_map}
use Rattle.std.specs.Borrow.{Bor}
use Rattle.std.specs.HashMap.{HashMap, get}
use Rattle.cc_whole.specs.Known.{Meant, function, object}
use Rattle.cf_name_list.specs.Names.{same_name}
use Rattle.cf_lowerable_links.specs.declared.entity.Entity.{Entity}
use Rattle.cf_lowerable_links.specs.declared.entity.Entity.TheVariants as entity

abbrev pub meant_of : Entity → Meant
meant_of (entity.Function p) = function p.now
meant_of (entity.Object t) = object t

-- of a name
abbrev pub found : {S : Type 0} → HashMap (Bor (List ℕ)) Entity S → Bor (List ℕ) → Option Meant
found table q = option_map meant_of (get same_name table q)
