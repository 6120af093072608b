-- The plain statements of a file as plain data: what each of the code's trees is there.
use Rattle.std.specs.Prelude.{◌≡◌, ℕ, suc, ◌<◌, ◌≤◌, ◌^◌, true, false, List, [], ◌∷◌, map, length}
use Rattle.std.specs.List.{list_all}
use Rattle.cf_classes.specs.Fit.{Fit}
use Rattle.cf_core.specs.Classes.{Class}
use Rattle.cf_core.specs.Size.{size}
use Rattle.cf_types.specs.Table.{Table}
use Rattle.cf_classes.specs.ClassTable.{ClassTable}
use Rattle.cf_classes.specs.declared.class.MemberRef.{MemberRef}
use Rattle.cf_core.specs.Types.{Name, gives}
use Rattle.cf_core.specs.Core.{Part}
use Rattle.cf_core.specs.View.{target_of, change_of, part_of}
use Rattle.cf_core.specs.FromTypes.{Tables, type_of, class_code, path_of, taking}
use Rattle.cf_core.specs.FromClasses.{signature_of, classes_in}
use Rattle.cf_core.specs.FromUnit.{role_of, is_short}
use Rattle.cf_plain.specs.declared.action.Action.{Action as CodeAction}
use Rattle.cf_plain.specs.declared.action.Action.TheVariants as code
use Rattle.cf_plain.specs.declared.statement.Plain.{Plain as CodePlain, fold-Plain}
use Rattle.cf_plain.specs.declared.statement.Plain.TheOpen.{Plain-F}
use Rattle.cf_plain.specs.declared.statement.PlainPart.{PlainPart-F}
use Rattle.cf_plain.specs.declared.unit.PlainFn.{PlainFn}
use Rattle.cf_plain.specs.declared.unit.PlainStatic.{PlainStatic as CodeStatic}
use Rattle.cf_plain.specs.Numbers.{function_known, static_known}
use Rattle.cf_plain.specs.Valid.{valid_file}
use Rattle.cf_plain.specs.Plain as plain
use Rattle.cf_plain.specs.Plain.{Action, Plain, Plains, PlainParts, PlainFunction, PlainStatic, PlainFile}

abbrev pub in_order : List Plain → Plains
in_order [] = plain.nothing
in_order (s ∷ ss) = plain.more s (in_order ss)

pub record Built : Type 0 where
  pub part : Part
  pub statements : Plains

abbrev pub parts_in_order : List Built → PlainParts
parts_in_order [] = plain.no_parts
parts_in_order (x ∷ rest) = plain.part x.part x.statements (parts_in_order rest)

-- by the file's types and classes, and the signatures of its virtual functions
module _ (tables : Tables) (signature : MemberRef → Name) where
  abbrev pub action_of : CodeAction → Action
  action_of (code.Number z) = plain.number z
  action_of (code.Text j bytes) = plain.text j bytes
  action_of code.This = plain.this
  action_of code.Result = plain.result
  action_of (code.Local i) = plain.local i
  action_of (code.Static n t) = plain.static_object n (type_of tables t)
  action_of (code.Function n t) = plain.function n (type_of tables t)
  action_of (code.Member r i) = plain.member r i
  action_of (code.Part w) = plain.built_part (part_of tables w)
  action_of (code.Read r) = plain.read r
  action_of (code.Dereference r) = plain.dereference r
  action_of (code.Decay r) = plain.decay r
  action_of (code.Index r q) = plain.index r q
  action_of (code.Convert t r) = plain.convert (type_of tables t) r
  action_of (code.Up path r) = plain.up (path_of tables path) r
  action_of (code.Down c path r) = plain.down (class_code tables.classes c) (path_of tables path) r
  action_of (code.FromVoid t r) = plain.from_void (type_of tables t) r
  action_of (code.ToMember path r) = plain.to_member (path_of tables path) r
  action_of (code.DataPointer i) = plain.data_pointer i
  action_of (code.FunctionPointer t) = plain.function_pointer (target_of signature t)
  action_of (code.Through r q) = plain.through r q
  action_of (code.Operate op k r q) = plain.operate op k r q
  action_of (code.Unary op k r) = plain.unary op k r
  action_of (code.Truth r) = plain.truth r
  action_of (code.Not r) = plain.logical_not r
  action_of (code.PointerOperate op r q) = plain.pointer_operate op r q
  action_of (code.Changed c r q) = plain.changed (change_of c) r q
  action_of (code.Store r q) = plain.store r q
  action_of (code.Declare i t) = plain.declare i (type_of tables t)
  action_of (code.First r q) = plain.first r q
  action_of (code.Zeros r) = plain.zeros r
  action_of (code.Characters r bytes) = plain.bytes r bytes
  action_of (code.BeginList r) = plain.begin_list r
  action_of (code.EndList r) = plain.end_list r
  action_of (code.Carry t r q) = plain.carry (type_of tables t) r q
  action_of (code.CarryOver t r q) = plain.carry_over (type_of tables t) r q
  action_of (code.Finish t i) = plain.finish (type_of tables t) i
  action_of (code.New t) = plain.new (type_of tables t)
  action_of (code.NewArray t r) = plain.new_array (type_of tables t) r
  action_of (code.Delete t r) = plain.delete false (type_of tables t) r
  action_of (code.DeleteArray t r) = plain.delete true (type_of tables t) r
  action_of (code.IsReached n) = plain.is_reached n
  action_of (code.Reach n) = plain.reach n
  action_of (code.FinishStatic n) = plain.finish_static n
  action_of (code.Call f t object is into) = plain.call f (type_of tables t) object is into
  action_of (code.VirtualCall m t object is into) = plain.virtual_call (signature m) (type_of tables t) object is into
  action_of (code.PointerCall object r t is into) = plain.pointer_call object r (type_of tables t) is into
  action_of (code.Build f t r is) = plain.build f (type_of tables t) r is

  abbrev pub plain_step : Plain-F Plain Built → Plain
  plain_step (Plain-F.Act a) = plain.act (action_of a)
  plain_step (Plain-F.Set r a) = plain.set r (action_of a)
  plain_step (Plain-F.If r ss ts) = plain.branch r (in_order ss) (in_order ts)
  plain_step (Plain-F.Loop ss ts) = plain.loop (in_order ss) (in_order ts)
  plain_step (Plain-F.Switch r ss) = plain.switch r (in_order ss)
  plain_step (Plain-F.Case z) = plain.case_label z
  plain_step Plain-F.Default = plain.default_label
  plain_step Plain-F.Break = plain.leave
  plain_step Plain-F.Continue = plain.continue
  plain_step (Plain-F.Return r) = plain.give r
  plain_step (Plain-F.Parts ps) = plain.parts (parts_in_order ps)

  abbrev pub part_step : PlainPart-F Plain Built → Built
  part_step x = record { part = part_of tables x.part; statements = in_order x.statements }

  abbrev pub plain_of : CodePlain → Plain
  plain_of = fold-Plain Plain Built plain_step part_step

  abbrev pub plains_of : List CodePlain → Plains
  plains_of ss = in_order (map plain_of ss)

-- the plain statements of a file, with its tables and the frame bounds of its functions
pub record Unit : Type 0 where
  pub types : Table
  pub classes : ClassTable
  pub functions : List PlainFn
  pub statics : List CodeStatic
  pub frames : List ℕ

abbrev pub tables_of : Unit → Tables
tables_of unit = record { types = unit.types; classes = unit.classes }

abbrev pub function_of : Tables → PlainFn → PlainFunction
function_of tables f = record {
  name = f.name;
  role = role_of tables f.role;
  type = taking (map (type_of tables) f.params) (gives (type_of tables f.result) false);
  locals = map (type_of tables) f.locals;
  body = plains_of tables (signature_of tables) f.body;
  is_shared = f.is_shared;
  is_local = f.is_local;
}

abbrev pub static_of : Tables → CodeStatic → PlainStatic
static_of tables x = record {
  name = x.name;
  type = type_of tables x.ty;
  locals = map (type_of tables) x.locals;
  start = plains_of tables (signature_of tables) x.start;
  owner = x.owner;
  is_constant = x.is_constant;
  is_shared = x.is_shared;
  is_local = x.is_local;
}

abbrev pub file_of : Unit → PlainFile
file_of unit =
    let tables = tables_of unit in
    record {
      classes = classes_in tables unit.classes.defined;
      functions = map (function_of tables) unit.functions;
      statics = map (static_of tables) unit.statics;
    }

-- The limits of sizes and names, as in a core.
pub record WithinLimits (unit : Unit) : Type 0 where
  pub sizes : (t : ℕ) → t < length unit.types.types → size (file_of unit).classes (type_of (tables_of unit) t) ≤ 2 ^ 22
  pub functions : list_all (λ (f : PlainFn). is_short f.name) unit.functions ≡ true
  pub statics : list_all (λ (x : CodeStatic). is_short x.name) unit.statics ≡ true
  pub descriptions : list_all (λ (c : Class). is_short c.description) (file_of unit).classes ≡ true

-- Only valid plain units exist: types and classes fit and keep the limits, each number is there in the tables, the file is valid, and there is a frame
-- bound for each function and for the file's initialising function.
pub record IsValid (unit : Unit) : Type 0 where
  pub fit : Fit unit.types unit.classes
  pub limits : WithinLimits unit
  pub functions : list_all (function_known (tables_of unit)) unit.functions ≡ true
  pub statics : list_all (static_known (tables_of unit)) unit.statics ≡ true
  pub file : valid_file (file_of unit) ≡ true
  pub frames : length unit.frames ≡ suc (length unit.functions)
