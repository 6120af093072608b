-- Words for small programs.
use Rattle.std.specs.Prelude.{ℕ, false, List, [], ◌∷◌, ℤ, pos, negsuc, Option, Some, None, codes}
use Rattle.cf_base.specs.declared.arith.Arith.TheVariants as op
use Rattle.cf_base.specs.Event.{Event, Ended, Undefined}
use Rattle.cf_base.specs.World.{Outcome}
use Rattle.cc_whole.specs.declared.types.CType.{CType}
use Rattle.cc_whole.specs.declared.types.CType.TheVariants as ty
use Rattle.cc_whole.specs.declared.types.CConstant.TheVariants as constants
use Rattle.cc_whole.specs.declared.types.CLocalType.TheVariants as local
use Rattle.cc_whole.specs.declared.types.CVariableType.{CVariableType}
use Rattle.cc_whole.specs.declared.statement.CLocal.{CLocal}
use Rattle.cc_whole.specs.declared.unit.CParameter.{CParameter}
use Rattle.cc_whole.specs.declared.unit.CInitialiser.{CInitialiser}
use Rattle.cc_whole.specs.Plain.{named, pointed, Expression, constant, load, cast, binary, by_name, Statement, assign, call, give, in_order, body, Item, defines, defines_variable}
use Rattle.cc_whole_mean.specs.Start.{mean_of}

abbrev pub int : ℕ → Expression
int n = constant (constants.Signed (pos n))

-- `-` and a number that is not 0, which is given as one less
abbrev pub minus : ℕ → Expression
minus n = constant (constants.Signed (negsuc n))

abbrev pub uint : ℕ → Expression
uint n = constant (constants.Unsigned n)

abbrev pub var : List ℕ → Expression
var name = load (named name)

abbrev pub set : List ℕ → Expression → Statement
set name e = assign (named name) e

abbrev pub star : CType → Expression → Expression
star t e = load (pointed t e)

abbrev pub store : CType → Expression → Expression → Statement
store t e v = assign (pointed t e) v

abbrev pub plus : Expression → Expression → Expression
plus a b = binary op.Add a b

abbrev pub less : Expression → Expression → Expression
less a b = binary op.Less a b

abbrev pub same : Expression → Expression → Expression
same a b = binary op.Equal a b

abbrev pub null : Expression
null = cast ty.Pointer (int 0)

abbrev pub ret : Expression → Statement
ret e = give (Some e)

abbrev pub run : List ℕ → List Expression → Statement
run f es = call None (by_name f) es

abbrev pub get : List ℕ → List ℕ → List Expression → Statement
get x f es = call (Some (named x)) (by_name f) es

abbrev pub scalar : CType → List ℕ → CLocal
scalar t name = record { ty = local.Scalar t; name = name }

abbrev pub array : ℕ → List ℕ → CLocal
array n name = record { ty = local.Ints (constants.Signed (pos n)); name = name }

-- `int x; int y; char c; char *p; char *q; __f f; int a[2];`
abbrev pub usual_locals : List CLocal
usual_locals = scalar ty.Int (codes "x") ∷ scalar ty.Int (codes "y") ∷ scalar ty.Char (codes "c") ∷ scalar ty.Pointer (codes "p")
    ∷ scalar ty.Pointer (codes "q") ∷ scalar ty.FunctionPointer (codes "f") ∷ array 2 (codes "a") ∷ []

abbrev pub function : Option CType → List ℕ → List CParameter → List CLocal → List Statement → Item
function result name parameters locals all = defines (record {
  is_shared = false;
  prototype = record { is_static = false; result = result; name = name; parameters = parameters };
  body = body locals (in_order all);
})

abbrev pub static : CVariableType → List ℕ → Option CInitialiser → Item
static t name initialiser = defines_variable (record { is_shared = false; is_static = false; ty = t; name = name; initialiser = initialiser })

abbrev pub main : List Statement → Item
main all = function (Some ty.Int) (codes "main") [] usual_locals all

-- 100 ticks, 4 levels, a heap of 64 bytes, the input `hi`
abbrev pub outcome_of : List Item → Outcome
outcome_of items = mean_of items (codes "hi") 64 4 100

abbrev pub of_main : List Statement → Outcome
of_main all = outcome_of (main all ∷ [])

abbrev pub ends : ℤ → List Event → Outcome
ends z trace = record { end = Ended z; trace = trace }

abbrev pub ended : ℕ → Outcome
ended n = ends (pos n) []

abbrev pub acts : ℕ → List Event → Outcome
acts act trace = record { end = Undefined act; trace = trace }

abbrev pub act : ℕ → Outcome
act n = acts n []
