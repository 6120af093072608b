-- What holds of each node of a core's file.
use Rattle.std.specs.Prelude.{Bool, ◌&&◌, ℤ, List, [], ◌∷◌}
use Rattle.std.specs.List.{list_all}
use Rattle.cf_core.specs.Core as core
use Rattle.cf_core.specs.Core.{Core, Cores, none, Function, Static, CoreFile}
use Rattle.cf_core.specs.Nodes.{nodes}

abbrev pub in_functions : (Core → Bool) → CoreFile → Bool
in_functions test file = list_all (λ (f : Function). list_all test (nodes f.body)) file.functions

abbrev pub in_statics : (Core → Bool) → CoreFile → Bool
in_statics test file = list_all (λ (x : Static). list_all test (nodes x.start)) file.statics

abbrev pub in_file : (Core → Bool) → CoreFile → Bool
in_file test file = in_functions test file && in_statics test file

-- the labels of a switch
abbrev pub core_labels : Cores → List ℤ
core_labels none = []
core_labels (core.more (core.case_label z) rest) = z ∷ core_labels rest
core_labels (core.more s rest) = core_labels rest
