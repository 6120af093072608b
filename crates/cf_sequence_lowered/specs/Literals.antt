-- Each literal of a core has a number of its own in its function, so the names by which the C has them differ (2.5.4).
use Rattle.std.specs.Prelude.{Bool, List, [], ◌∷◌, ◌++◌, Some, None, codes}
use Rattle.std.specs.List.{flat_map}
use Rattle.cf_core.specs.Types.{Name}
use Rattle.cf_core.specs.Core.{Core, text, Function, Static, CoreFile}
use Rattle.cf_core.specs.Nodes.{nodes}
use Rattle.cf_core.specs.Valid.{all_differ}
use Rattle.cf_lower.specs.Written.{literal_name}

-- the name of a literal, by the function in which it is numbered
abbrev pub literal_of : Name → Core → List Name
literal_of f (text j bytes) = literal_name f j ∷ []
literal_of f e = []

abbrev pub owner_name : Static → Name
owner_name x = elim x.owner [ None ↦ codes "__sti" | Some f ↦ f ]

abbrev pub core_literals_differ : CoreFile → Bool
core_literals_differ file =
    all_differ
    (flat_map (λ (f : Function). flat_map (literal_of f.name) (nodes f.body)) file.functions
    ++ flat_map (λ (x : Static). flat_map (literal_of (owner_name x)) (nodes x.start)) file.statics)
