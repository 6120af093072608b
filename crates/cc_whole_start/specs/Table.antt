-- The table of a file's names as a scope.
use Rattle.std.specs.Prelude.{bytes_eq}
use Rattle.std.specs.HashMap.{get_by}
use Rattle.cc_whole_mean.specs.Scope.{Scope}
use Rattle.cc_whole_start.specs.declared.names.FileNames.{FileNames}

abbrev pub scope_of : FileNames → Scope
scope_of names x = get_by (λ key. bytes_eq x key.now) names.table
