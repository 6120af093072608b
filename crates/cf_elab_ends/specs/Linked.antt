-- Link names as they stand in memory, and those of functions and static objects.
use Rattle.std.specs.Prelude.{ℕ, List, ◌++◌, map}
use Rattle.std.specs.Borrow.{Bor}
use Rattle.cf_core.specs.declared.unit.CoreFn.{CoreFn}
use Rattle.cf_core.specs.declared.unit.CoreStatic.{CoreStatic}

abbrev pub seen : List (Bor (List ℕ)) → List (List ℕ)
seen names = map (λ n. n.now) names

abbrev pub link_names : List CoreFn → List CoreStatic → List (List ℕ)
link_names functions statics = map (λ (f : CoreFn). f.name) functions ++ map (λ (x : CoreStatic). x.name) statics
