-- What shapes, trees and programs are as types, cores and programs of the meaning. The numbers of types and enumerations are those of a file's tables.
use Rattle.std.specs.Prelude.{ℕ, Bool, true, false, List, [], ◌∷◌, map, filter, find, codes, bytes_eq, Option, Some, None}
use Rattle.cf_classes.specs.LinkName.{scope_code, enum_names}
use Rattle.cf_core.specs.Types.{Name, SourceType, void, integer, enumeration, pointer, reference, array, gives, const}
use Rattle.cf_core.specs.FromTypes.{Tables, type_of, taking}
use Rattle.cf_core.specs.Core.{Core, plain_function, Function, Static, Change, arithmetic, moved, no_temporary, local_temporary, absent, number, text, temporary, local, static_object, function, read, address, dereference, decay, index, convert, operate, unary, logical_not, logical_and, logical_or, pointer_operate, conditional, comma, store, update, step, call, pointer_call, bind, list, string, zeros, blank, full, block, sequence, declare, branch, loop, switch, case_label, default_label, leave, continue, give}
use Rattle.cf_core.specs.View.{listed, maybe}
use Rattle.cf_core.specs.Calls as meaning
use Rattle.cf_core.specs.Joined.{in_file, sets_constant, constant_setting}
use Rattle.cf_run_tree.specs.declared.shape.Form.{Form}
use Rattle.cf_run_tree.specs.declared.shape.Form.TheVariants as form
use Rattle.cf_run_tree.specs.declared.shape.Shape.{Shape}
use Rattle.cf_run_tree.specs.declared.shape.Bounds.{Bounds}
use Rattle.cf_run_tree.specs.declared.shape.Bounds.TheVariants as bounds
use Rattle.cf_run_tree.specs.declared.shape.ObjectType.{ObjectType}
use Rattle.cf_run_tree.specs.declared.node.Change.{Change as NodeChange}
use Rattle.cf_run_tree.specs.declared.node.Change.TheVariants as change
use Rattle.cf_run_tree.specs.declared.node.Unary.{Unary}
use Rattle.cf_run_tree.specs.declared.node.Unary.TheVariants as one
use Rattle.cf_run_tree.specs.declared.node.Binary.{Binary}
use Rattle.cf_run_tree.specs.declared.node.Binary.TheVariants as two
use Rattle.cf_run_tree.specs.declared.node.Node.{Node, fold-Node}
use Rattle.cf_run_tree.specs.declared.node.Node.TheOpen.{Node-F}
use Rattle.cf_run_tree.specs.declared.program.Signature.{Signature}
use Rattle.cf_run_tree.specs.declared.program.RunFn.{RunFn}
use Rattle.cf_run_tree.specs.declared.program.RunStatic.{RunStatic}
use Rattle.cf_run_tree.specs.declared.program.Program.{Program}

abbrev pub change_of : NodeChange → Change
change_of (change.Arithmetic o) = arithmetic o.op o.at o.to
change_of (change.Moved back) = moved back

abbrev pub list_of : Bounds → List ℕ
list_of bounds.None = []
list_of (bounds.One n) = n ∷ []
list_of (bounds.Two n m) = n ∷ m ∷ []

-- an array of these bounds, the outermost first, of elements of a type
abbrev pub arrays : List ℕ → SourceType → SourceType
arrays [] t = t
arrays (n ∷ rest) t = array (arrays rest t) n

abbrev pub kept : Bool → SourceType → SourceType
kept true t = const t
kept false t = t

-- The type of a function or static object that is named: that of its definition in the program, or else this one.

abbrev pub head_or : Option RunFn → Signature → Signature
head_or None s = s
head_or (Some f) s = f.signature

abbrev pub function_head : Program → Name → Signature → Signature
function_head p name s = head_or (find (λ (f : RunFn). bytes_eq f.name name) p.functions) s

abbrev pub type_or : Option RunStatic → ObjectType → ObjectType
type_or None t = t
type_or (Some x) t = x.ty

abbrev pub static_type : Program → Name → ObjectType → ObjectType
static_type p name t = type_or (find (λ (x : RunStatic). bytes_eq x.name name) p.statics) t

module _ (tables : Tables) where
  abbrev pub form_type : Form → SourceType
  form_type form.Void = void
  form_type (form.Integer k) = integer k
  form_type (form.Enumeration e) = enumeration (scope_code (enum_names tables.classes e))
  form_type (form.Pointer t) = pointer (type_of tables t)
  form_type (form.Reference t) = reference (type_of tables t)

  abbrev pub shape_type : Shape → SourceType
  shape_type s = kept s.is_const (form_type s.form)

  abbrev pub object_type : ObjectType → SourceType
  object_type o = arrays (list_of o.bounds) (shape_type o.shape)

  abbrev pub signature_type : Signature → SourceType
  signature_type f = taking (map shape_type f.params) (gives (shape_type f.result) false)

  abbrev pub applied : Unary → Core → Core
  applied one.Read e = read e
  applied one.Address e = address e
  applied one.Dereference e = dereference e
  applied one.Decay e = decay e
  applied (one.Convert s) e = convert (shape_type s) e
  applied (one.Sign op k) e = unary op k e
  applied one.Not e = logical_not e
  applied (one.Increment is_postfix o) e = step is_postfix (change_of o) e

  abbrev pub joined : Binary → Core → Core → Core
  joined (two.Operate op k) a b = operate op k a b
  joined two.Store a b = store a b
  joined (two.Update o) a b = update a (change_of o) b
  joined two.Index a b = index a b
  joined (two.Point op) a b = pointer_operate op a b

-- the trees of a program
module _ (tables : Tables) (p : Program) where
  abbrev pub core_step : Node-F Core → Core
  core_step (Node-F.Number z) = number z
  core_step (Node-F.Text j bytes) = text j bytes
  core_step (Node-F.Function name f) = function name (signature_type tables (function_head p name f))
  core_step (Node-F.Local i) = local i
  core_step (Node-F.Static name t) = static_object name (object_type tables (static_type p name t))
  core_step (Node-F.Apply op e) = applied tables op e
  core_step (Node-F.Join op a b) = joined tables op a b
  core_step (Node-F.And a b) = logical_and a b
  core_step (Node-F.Or a b) = logical_or a b
  core_step (Node-F.Conditional c a b) = conditional c a b
  core_step (Node-F.Comma es) = comma (listed es)
  core_step (Node-F.Temporary s e) = temporary (shape_type tables s) e
  core_step (Node-F.Call name f es) = call name (signature_type tables (function_head p name f)) absent (listed es)
  core_step (Node-F.PointerCall e f es) = pointer_call absent e (signature_type tables f) (listed es)
  core_step (Node-F.Bind e) = bind no_temporary e
  core_step (Node-F.Hold i s e) = bind (local_temporary i (shape_type tables s)) e
  core_step (Node-F.List es rest) = list (listed es) rest
  core_step (Node-F.Characters bytes) = string bytes
  core_step Node-F.Zeros = zeros
  core_step Node-F.Blank = blank
  core_step (Node-F.Full e) = full e
  core_step (Node-F.Block es) = block (listed es)
  core_step (Node-F.Sequence es) = sequence (listed es)
  core_step (Node-F.Declare i t e) = declare i (object_type tables t) e
  core_step (Node-F.If c a b) = branch c a (maybe b)
  core_step (Node-F.Loop f c e s) = loop f (maybe c) (maybe e) s
  core_step (Node-F.Switch e es) = switch e (listed es)
  core_step (Node-F.Case z) = case_label z
  core_step Node-F.Default = default_label
  core_step Node-F.Break = leave
  core_step Node-F.Continue = continue
  core_step (Node-F.Return e) = give (maybe e)

  abbrev pub core_of : Node → Core
  core_of = fold-Node Core core_step

  abbrev pub function_of : RunFn → Function
  function_of f = record {
    name = f.name;
    role = plain_function;
    type = signature_type tables f.signature;
    locals = map (object_type tables) f.locals;
    body = core_of f.body;
    is_shared = f.is_shared;
    is_local = f.is_local;
  }

  abbrev pub static_of : RunStatic → Static
  static_of x = record {
    name = x.name;
    type = object_type tables x.ty;
    start = core_of x.start;
    owner = x.owner;
    is_constant = x.is_constant;
    is_shared = x.is_shared;
    is_local = x.is_local;
  }

-- what sets the static objects of the first file with constant initialisers, in order
abbrev pub constants_of : List Static → List meaning.Setting
constants_of statics = map (constant_setting (in_file 1 (codes "__sti"))) (filter sets_constant statics)

abbrev pub program_of : Tables → Program → meaning.Program
program_of tables p = record {
  classes = [];
  functions = map (function_of tables p) p.functions;
  statics = map (static_of tables p) p.statics;
  constants = constants_of (map (static_of tables p) p.statics);
  initialisers = [];
}
