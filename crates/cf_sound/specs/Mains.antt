-- Which function of a unit is its `main`.
use Rattle.std.specs.Prelude.{Bool, ◌&&◌, not, codes, bytes_eq}
use Rattle.cf_core.specs.declared.unit.CoreFn.{CoreFn}

abbrev pub stands : CoreFn → Bool
stands f = bytes_eq f.name (codes "__main") && not f.is_local
