-- How large the functions of a core are; and nothing is shared by files and local to one (3.3).
use Rattle.std.specs.Prelude.{◌^◌, nat_lt, Bool, ◌&&◌, not, ◌++◌, length}
use Rattle.std.specs.List.{list_all}
use Rattle.cf_core.specs.Types.{parameters}
use Rattle.cf_core.specs.Core.{Function, Static, CoreFile}
use Rattle.cf_core.specs.Nodes.{nodes}
use Rattle.cf_sequence.specs.Made.{added}

-- fewer than 2 ^ 31 nodes, and locals with those that are added for its calls and temporaries
abbrev pub is_small : Function → Bool
is_small f = nat_lt (length (nodes f.body)) (2 ^ 31) && nat_lt (length (parameters f.type ++ (f.locals ++ added (nodes f.body)))) (2 ^ 31)

abbrev pub all_small : CoreFile → Bool
all_small file = list_all is_small file.functions

abbrev pub none_shared_and_local : CoreFile → Bool
none_shared_and_local file =
    list_all (λ (f : Function). not (f.is_shared && f.is_local)) file.functions && list_all (λ (x : Static). not (x.is_shared && x.is_local)) file.statics
