-- Whether the function is there in which a static object stands, by the names of a file's functions.
use Rattle.std.specs.Prelude.{Bool, not, ◌&&◌, List, Option, Some, None, map, codes}
use Rattle.std.specs.List.{list_all}
use Rattle.cf_core.specs.Types.{Name}
use Rattle.cf_name_list.specs.Names.{is_in}
use Rattle.cf_plain.specs.declared.unit.PlainFn.{PlainFn}
use Rattle.cf_plain.specs.Plain.{PlainStatic}
use Rattle.cf_lower.specs.Constants.{nothing_known}
use Rattle.cf_lower.specs.Functions.{owner_of}
use Rattle.cf_lower_program.specs.Starts.{starts_known}

abbrev pub names_of : List PlainFn → List Name
names_of fs = map (λ (f : PlainFn). f.name) fs

-- what is shared is local to one of these
abbrev pub owner_in : List Name → PlainStatic → Bool
owner_in names x = elim x.owner [ None ↦ not x.is_shared | Some f ↦ is_in names f ]

-- the function whose literals the literals of an initialiser are numbered with
abbrev pub owner_or : Option Name → Name
owner_or None = codes "__sti"
owner_or (Some f) = f

abbrev pub start_is_known : PlainStatic → Bool
start_is_known x = starts_known x.start (owner_of x) nothing_known

-- of one object
abbrev pub static_known : List Name → PlainStatic → Bool
static_known names x = x.is_constant && start_is_known x && owner_in names x

abbrev pub all_known : List Name → List PlainStatic → Bool
all_known names xs = list_all (static_known names) xs
