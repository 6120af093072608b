-- Words for the small programs that the definitions are tried on.
use Rattle.std.proofs.Common.{ℕ, List, [], ◌∷◌}
use Rattle.std.specs.Prelude.{pos, Option, Some, None, true, false, codes}
use Rattle.std.specs.List.{flat_map}
use Rattle.cf_base.specs.declared.kind.Kind.TheVariants.{Int}
use Rattle.cf_base.specs.declared.arith.Arith.TheVariants as op
use Rattle.cf_base.specs.Event.{out_bytes, End}
use Rattle.cf_base.specs.World.{Outcome}
use Rattle.cf_core.specs.Types.{Name, SourceType, void, integer, class, reference, const, takes, gives}
use Rattle.cf_core.specs.Classes.{Base, Class, MemberFunction, Special}
use Rattle.cf_core.specs.Core.{Core, Cores, none, more, absent, given, Role, plain_function, member_function, constructor, destructor, Function, Static, number, local, read, operate, call, build, full, block, give, parts, bind, no_temporary, local_temporary, declare, Parts, store, blank}
use Rattle.cf_core.specs.Calls.{Program}
use Rattle.cf_core.specs.Nodes.{nodes}
use Rattle.cf_core.specs.Program.{Mean}

abbrev pub int : SourceType
int = integer Int

-- the type of a function of these parameters
abbrev pub function_type : List SourceType → SourceType → SourceType
function_type [] t = gives t false
function_type (p ∷ ps) t = takes p (function_type ps t)

-- the types of what a node declares
abbrev pub declared_types : Core → List SourceType
declared_types (declare i t e) = t ∷ []
declared_types (bind (local_temporary i t) e) = t ∷ []
declared_types e = []

abbrev pub function_as : Role → Name → List SourceType → SourceType → Core → Function
function_as role name ps t s = record {
  name = name;
  role = role;
  type = function_type ps t;
  locals = flat_map declared_types (nodes s);
  body = s;
  is_shared = false;
  is_local = false;
}

abbrev pub function_of : Name → List SourceType → SourceType → Core → Function
function_of name ps t s = function_as plain_function name ps t s

abbrev pub listed : List Core → Cores
listed [] = none
listed (c ∷ cs) = more c (listed cs)

abbrev pub in_block : List Core → Core
in_block cs = block (listed cs)

abbrev pub main_of : List Core → Function
main_of cs = function_of (codes "__main") [] int (in_block cs)

abbrev pub program : List Class → List Function → List Static → Program
program cs fs ss = record { classes = cs; functions = fs; statics = ss; constants = []; initialisers = [] }

abbrev pub static_of : Name → SourceType → Static
static_of name t = record {
  name = name;
  type = t;
  start = blank;
  owner = None;
  is_constant = true;
  is_shared = false;
  is_local = false;
}

abbrev pub returns : Core → Core
returns c = give (given c)

abbrev pub num : ℕ → Core
num n = number (pos n)

abbrev pub add : Core → Core → Core
add a b = operate op.Add Int a b

-- the value of a local
abbrev pub value_of : ℕ → Core
value_of i = read (local i)

abbrev pub put : Core → Core
put c = full (call (codes "putchar") (function_type (int ∷ []) int) absent (more c none))

abbrev pub put_code : ℕ → Core
put_code n = put (num n)

-- the digit of a number
abbrev pub put_digit : Core → Core
put_digit c = put (add (num 48) c)

abbrev pub set : Core → Core → Core
set a b = full (store a b)

abbrev pub called : Name → List SourceType → SourceType → List Core → Core
called name ps t cs = call name (function_type ps t) absent (listed cs)

abbrev pub built : Name → List SourceType → List Core → Core
built name ps cs = build name (function_type ps void) (listed cs)

abbrev pub referred : Core → Core
referred c = bind no_temporary c

-- Classes.

abbrev pub base_of : Name → Base
base_of c = record { class = c; is_virtual = false }

abbrev pub virtual_base_of : Name → Base
virtual_base_of c = record { class = c; is_virtual = true }

abbrev pub plain_class : Name → List Base → List SourceType → Class
plain_class c bs fs = record {
  code = c;
  bases = bs;
  fields = fs;
  functions = [];
  is_built = false;
  destructor = None;
  copy = None;
  assignment = None;
  description = [];
}

abbrev pub built_class : Name → List Base → List SourceType → List MemberFunction → Option Name → Class
built_class c bs fs ms d = record {
  code = c;
  bases = bs;
  fields = fs;
  functions = ms;
  is_built = true;
  destructor = d;
  copy = None;
  assignment = None;
  description = [];
}

-- a copy constructor, with the types of its further parameters
abbrev pub copying : Name → Name → List SourceType → Option Special
copying c name ts = Some (record { name = name; type = function_type (reference (const (class c)) ∷ ts) void })

abbrev pub virtual_function : Name → Name → MemberFunction
virtual_function signature name = record { signature = signature; name = name; is_virtual = true; is_pure = false }

abbrev pub nonvirtual_function : Name → Name → MemberFunction
nonvirtual_function signature name = record { signature = signature; name = name; is_virtual = false; is_pure = false }

abbrev pub pure_function : Name → Name → MemberFunction
pure_function signature name = record { signature = signature; name = name; is_virtual = true; is_pure = true }

abbrev pub constructor_of : Name → Name → List SourceType → Parts → List Core → Function
constructor_of c name ps ws cs = function_as (constructor c) name ps void (parts ws (in_block cs))

abbrev pub destructor_of : Name → Name → List Core → Function
destructor_of c name cs = function_as (destructor c) name [] void (in_block cs)

abbrev pub method_of : Name → Name → SourceType → List Core → Function
method_of c name t cs = function_as (member_function c) name [] t (in_block cs)

-- What a run shows: its end and the bytes that it puts.
pub record Shown : Type 0 where
  pub end : End
  pub out : List ℕ

abbrev pub shown_of : Option Outcome → Option Shown
shown_of None = None
shown_of (Some x) = Some (record { end = x.end; out = out_bytes x.trace })

-- a run with the usual limits and no input
abbrev pub run : Program → ℕ → Option Shown
run P n = shown_of (Mean P [] 1048576 1024 n)
