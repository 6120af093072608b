-- The core of a file as plain data: what each node is there.
use Rattle.std.specs.Prelude.{List, [], ◌∷◌, Option, Some, None}
use Rattle.cf_classes.specs.declared.class.MemberRef.{MemberRef}
use Rattle.cf_core.specs.declared.node.Core.{Core as Node, fold-Core}
use Rattle.cf_core.specs.declared.node.Core.TheOpen.{Core-F}
use Rattle.cf_core.specs.declared.node.PartStart.{PartStart-F}
use Rattle.cf_core.specs.declared.node.Target.{Target as NodeTarget}
use Rattle.cf_core.specs.declared.node.Target.TheVariants as target
use Rattle.cf_core.specs.declared.node.Change.{Change as NodeChange}
use Rattle.cf_core.specs.declared.node.Change.TheVariants as change
use Rattle.cf_core.specs.declared.node.Holder.{Holder as NodeHolder}
use Rattle.cf_core.specs.declared.node.Holder.TheVariants as holder
use Rattle.cf_core.specs.declared.node.BuiltPart.{BuiltPart as NodePart}
use Rattle.cf_core.specs.declared.node.BuiltPart.TheVariants as built
use Rattle.cf_core.specs.Types.{Name}
use Rattle.cf_core.specs.Core.{Core, Cores, MaybeCore, Parts, Part, field, within, Target, direct, dispatched, Change, arithmetic, moved, Holder, no_temporary, local_temporary, static_temporary, none, more, absent, given, no_parts, part, number, text, this, local, static_object, function, member, read, address, dereference, decay, index, convert, up, down, from_void, to_member, data_pointer, function_pointer, through, operate, unary, logical_not, logical_and, logical_or, pointer_operate, conditional, comma, store, update, step, assign, temporary, call, virtual_call, pointer_call, new, new_array, delete, delete_array, build, copy, each, list, string, bind, zeros, blank, full, block, sequence, declare, once, branch, loop, switch, case_label, default_label, leave, continue, give, parts}
use Rattle.cf_core.specs.FromTypes.{Tables, type_of, class_code, step_of, path_of}

abbrev pub listed : List Core → Cores
listed [] = none
listed (c ∷ cs) = more c (listed cs)

abbrev pub maybe : Option Core → MaybeCore
maybe None = absent
maybe (Some c) = given c

pub record Started : Type 0 where
  pub part : Part
  pub start : Core

abbrev pub in_order : List Started → Parts
in_order [] = no_parts
in_order (x ∷ rest) = part x.part x.start (in_order rest)

abbrev pub target_of : (MemberRef → Name) → NodeTarget → Target
target_of signature (target.Direct f) = direct f
target_of signature (target.Dispatched m) = dispatched (signature m)

abbrev pub change_of : NodeChange → Change
change_of (change.Arithmetic op k to) = arithmetic op k to
change_of (change.Moved back) = moved back

abbrev pub holder_of : Tables → NodeHolder → Holder
holder_of tables holder.NoTemporary = no_temporary
holder_of tables (holder.LocalTemporary i t) = local_temporary i (type_of tables t)
holder_of tables (holder.StaticTemporary name) = static_temporary name

abbrev pub part_of : Tables → NodePart → Part
part_of tables (built.Base s) = within (step_of tables s)
part_of tables (built.Field i) = field i

-- by the file's types and classes, and the signatures of its virtual functions
module _ (tables : Tables) (signature : MemberRef → Name) where
  abbrev pub core_step : Core-F Core Started → Core
  core_step (Core-F.Number at z) = number z
  core_step (Core-F.Text at j bytes) = text j bytes
  core_step (Core-F.This at) = this
  core_step (Core-F.Local at i) = local i
  core_step (Core-F.Static at n t) = static_object n (type_of tables t)
  core_step (Core-F.Function at n t) = function n (type_of tables t)
  core_step (Core-F.Member at e i) = member e i
  core_step (Core-F.Read at e) = read e
  core_step (Core-F.Address at e) = address e
  core_step (Core-F.Dereference at e) = dereference e
  core_step (Core-F.Decay at e) = decay e
  core_step (Core-F.Index at a b) = index a b
  core_step (Core-F.Convert at t e) = convert (type_of tables t) e
  core_step (Core-F.Up at path e) = up (path_of tables path) e
  core_step (Core-F.Down at c path e) = down (class_code tables.classes c) (path_of tables path) e
  core_step (Core-F.FromVoid at t e) = from_void (type_of tables t) e
  core_step (Core-F.ToMember at path e) = to_member (path_of tables path) e
  core_step (Core-F.DataPointer at i) = data_pointer i
  core_step (Core-F.FunctionPointer at t) = function_pointer (target_of signature t)
  core_step (Core-F.Through at a b) = through a b
  core_step (Core-F.Operate at op k a b) = operate op k a b
  core_step (Core-F.Unary at op k e) = unary op k e
  core_step (Core-F.Not at e) = logical_not e
  core_step (Core-F.And at a b) = logical_and a b
  core_step (Core-F.Or at a b) = logical_or a b
  core_step (Core-F.PointerOperate at op a b) = pointer_operate op a b
  core_step (Core-F.Conditional at c a b) = conditional c a b
  core_step (Core-F.Comma at es) = comma (listed es)
  core_step (Core-F.Store at a b) = store a b
  core_step (Core-F.Update at a c b) = update a (change_of c) b
  core_step (Core-F.Increment at is_postfix c e) = step is_postfix (change_of c) e
  core_step (Core-F.Assign at t a b es) = assign (type_of tables t) a b (listed es)
  core_step (Core-F.Temporary at t e) = temporary (type_of tables t) e
  core_step (Core-F.Call at f t object es) = call f (type_of tables t) (maybe object) (listed es)
  core_step (Core-F.VirtualCall at m t e es) = virtual_call (signature m) (type_of tables t) e (listed es)
  core_step (Core-F.PointerCall at object e t es) = pointer_call (maybe object) e (type_of tables t) (listed es)
  core_step (Core-F.New at t e) = new (type_of tables t) e
  core_step (Core-F.NewArray at t n e) = new_array (type_of tables t) n e
  core_step (Core-F.Delete at t e) = delete (type_of tables t) e
  core_step (Core-F.DeleteArray at t e) = delete_array (type_of tables t) e
  core_step (Core-F.Build at f t es) = build f (type_of tables t) (listed es)
  core_step (Core-F.Copy at t e es) = copy (type_of tables t) e (listed es)
  core_step (Core-F.Each at e) = each e
  core_step (Core-F.List at es rest) = list (listed es) rest
  core_step (Core-F.Characters at bytes) = string bytes
  core_step (Core-F.Bind at h e) = bind (holder_of tables h) e
  core_step (Core-F.Zeros at) = zeros
  core_step (Core-F.Blank at) = blank
  core_step (Core-F.Full at e) = full e
  core_step (Core-F.Block at es) = block (listed es)
  core_step (Core-F.Sequence at es) = sequence (listed es)
  core_step (Core-F.Declare at i t e) = declare i (type_of tables t) e
  core_step (Core-F.Once at n e) = once n e
  core_step (Core-F.If at c a b) = branch c a (maybe b)
  core_step (Core-F.Loop at f c e s) = loop f (maybe c) (maybe e) s
  core_step (Core-F.Switch at e es) = switch e (listed es)
  core_step (Core-F.Case at z) = case_label z
  core_step (Core-F.Default at) = default_label
  core_step (Core-F.Break at) = leave
  core_step (Core-F.Continue at) = continue
  core_step (Core-F.Return at e) = give (maybe e)
  core_step (Core-F.Parts at ps s) = parts (in_order ps) s

  abbrev pub started_step : PartStart-F Core Started → Started
  started_step x = record { part = part_of tables x.part; start = x.start }

  abbrev pub core_of : Node → Core
  core_of = fold-Core Core Started core_step started_step
