-- Small files, as elaboration makes them.
use Rattle.std.specs.Prelude.{ℕ, pos, [], ◌∷◌, Some, false, codes}
use Rattle.cf_base.specs.declared.kind.Kind.TheVariants.{Int}
use Rattle.cf_types.specs.declared.ty.Ty.TheVariants as ty
use Rattle.cf_core.specs.declared.node.Core.{Core}
use Rattle.cf_core.specs.declared.node.Core.TheVariants as core
use Rattle.cf_core.specs.declared.unit.CoreFn.{CoreFn}
use Rattle.cf_core.specs.declared.unit.Role.TheVariants as role
use Rattle.cf_core.specs.FromUnit.{Unit}

-- {return 7;}
abbrev pub returns_seven : Core
returns_seven = core.Block 10 (core.Return 11 (Some (core.Number 18 (pos 7))) ∷ [])

-- int main(){return 7;}, where this is the number of int
abbrev pub main_of : ℕ → Core → CoreFn
main_of int body = record {
  name = codes "__main";
  role = role.Plain;
  result = int;
  params = [];
  locals = [];
  body = body;
  is_shared = false;
  is_local = false;
}

abbrev pub seven : Unit
seven = record {
  types = record { types = ty.Int Int ∷ []; funs = [] };
  classes = record { labels = []; enums = []; defined = [] };
  functions = main_of 0 returns_seven ∷ [];
  statics = [];
}
