-- Whether the numbers of types and classes in a file's core are there in its tables.
use Rattle.std.specs.Prelude.{ℕ, Bool, true, ◌&&◌, nat_lt, List, Option, Some, None, length, ◌+◌}
use Rattle.std.specs.List.{list_all}
use Rattle.cf_classes.specs.declared.class.MemberRef.{MemberRef}
use Rattle.cf_classes.specs.declared.path.Step.{Step as PathStep}
use Rattle.cf_classes.specs.declared.path.Step.TheVariants.{Base as DirectBase, VBase}
use Rattle.cf_classes.specs.ClassTable.{latest_first, members_of}
use Rattle.cf_core.specs.declared.node.Core.{Core as Node, fold-Core}
use Rattle.cf_core.specs.declared.node.Core.TheOpen.{Core-F}
use Rattle.cf_core.specs.declared.node.PartStart.{PartStart-F}
use Rattle.cf_core.specs.declared.node.Target.{Target as NodeTarget}
use Rattle.cf_core.specs.declared.node.Target.TheVariants as target
use Rattle.cf_core.specs.declared.node.Holder.{Holder as NodeHolder}
use Rattle.cf_core.specs.declared.node.Holder.TheVariants as holder
use Rattle.cf_core.specs.declared.node.BuiltPart.{BuiltPart as NodePart}
use Rattle.cf_core.specs.declared.node.BuiltPart.TheVariants as built
use Rattle.cf_core.specs.declared.unit.CoreFn.{CoreFn}
use Rattle.cf_core.specs.declared.unit.CoreStatic.{CoreStatic}
use Rattle.cf_core.specs.declared.unit.Role.{Role as UnitRole}
use Rattle.cf_core.specs.declared.unit.Role.TheVariants as role
use Rattle.cf_core.specs.FromTypes.{Tables}

module _ (tables : Tables) where
  abbrev pub has_type : ℕ → Bool
  has_type t = nat_lt t (length tables.types.types)

  abbrev pub has_class : ℕ → Bool
  has_class c = nat_lt c (length tables.classes.labels)

  -- a member of a class; the number after the last stands for the generated destructor
  abbrev pub has_member : MemberRef → Bool
  has_member m = has_class m.class && nat_lt m.index (length (members_of (latest_first tables.classes) m.class) + 1)

  abbrev pub has_step : PathStep → Bool
  has_step (DirectBase i) = true
  has_step (VBase c) = has_class c

  abbrev pub has_target : NodeTarget → Bool
  has_target (target.Direct f) = true
  has_target (target.Dispatched m) = has_member m

  abbrev pub has_holder : NodeHolder → Bool
  has_holder holder.NoTemporary = true
  has_holder (holder.LocalTemporary i t) = has_type t
  has_holder (holder.StaticTemporary name) = true

  abbrev pub has_part : NodePart → Bool
  has_part (built.Base s) = has_step s
  has_part (built.Field i) = true

  abbrev pub all_of : List Bool → Bool
  all_of xs = list_all (λ (x : Bool). x) xs

  abbrev pub maybe_of : Option Bool → Bool
  maybe_of None = true
  maybe_of (Some x) = x

  abbrev pub known_step : Core-F Bool Bool → Bool
  known_step (Core-F.Number at z) = true
  known_step (Core-F.Text at j bytes) = true
  known_step (Core-F.This at) = true
  known_step (Core-F.Local at i) = true
  known_step (Core-F.Static at n t) = has_type t
  known_step (Core-F.Function at n t) = has_type t
  known_step (Core-F.Member at e i) = e
  known_step (Core-F.Read at e) = e
  known_step (Core-F.Address at e) = e
  known_step (Core-F.Dereference at e) = e
  known_step (Core-F.Decay at e) = e
  known_step (Core-F.Index at a b) = a && b
  known_step (Core-F.Convert at t e) = has_type t && e
  known_step (Core-F.Up at path e) = list_all has_step path && e
  known_step (Core-F.Down at c path e) = has_class c && list_all has_step path && e
  known_step (Core-F.FromVoid at t e) = has_type t && e
  known_step (Core-F.ToMember at path e) = list_all has_step path && e
  known_step (Core-F.DataPointer at i) = true
  known_step (Core-F.FunctionPointer at t) = has_target t
  known_step (Core-F.Through at a b) = a && b
  known_step (Core-F.Operate at op k a b) = a && b
  known_step (Core-F.Unary at op k e) = e
  known_step (Core-F.Not at e) = e
  known_step (Core-F.And at a b) = a && b
  known_step (Core-F.Or at a b) = a && b
  known_step (Core-F.PointerOperate at op a b) = a && b
  known_step (Core-F.Conditional at c a b) = c && a && b
  known_step (Core-F.Comma at es) = all_of es
  known_step (Core-F.Store at a b) = a && b
  known_step (Core-F.Update at a c b) = a && b
  known_step (Core-F.Increment at is_postfix c e) = e
  known_step (Core-F.Assign at t a b es) = has_type t && a && b && all_of es
  known_step (Core-F.Temporary at t e) = has_type t && e
  known_step (Core-F.Call at f t object es) = has_type t && maybe_of object && all_of es
  known_step (Core-F.VirtualCall at m t e es) = has_member m && has_type t && e && all_of es
  known_step (Core-F.PointerCall at object e t es) = maybe_of object && e && has_type t && all_of es
  known_step (Core-F.New at t e) = has_type t && e
  known_step (Core-F.NewArray at t n e) = has_type t && n && e
  known_step (Core-F.Delete at t e) = has_type t && e
  known_step (Core-F.DeleteArray at t e) = has_type t && e
  known_step (Core-F.Build at f t es) = has_type t && all_of es
  known_step (Core-F.Copy at t e es) = has_type t && e && all_of es
  known_step (Core-F.Each at e) = e
  known_step (Core-F.List at es rest) = all_of es && rest
  known_step (Core-F.Characters at bytes) = true
  known_step (Core-F.Bind at h e) = has_holder h && e
  known_step (Core-F.Zeros at) = true
  known_step (Core-F.Blank at) = true
  known_step (Core-F.Full at e) = e
  known_step (Core-F.Block at es) = all_of es
  known_step (Core-F.Sequence at es) = all_of es
  known_step (Core-F.Declare at i t e) = has_type t && e
  known_step (Core-F.Once at n e) = e
  known_step (Core-F.If at c a b) = c && a && maybe_of b
  known_step (Core-F.Loop at _ c e s) = maybe_of c && maybe_of e && s
  known_step (Core-F.Switch at e es) = e && all_of es
  known_step (Core-F.Case at z) = true
  known_step (Core-F.Default at) = true
  known_step (Core-F.Break at) = true
  known_step (Core-F.Continue at) = true
  known_step (Core-F.Return at e) = maybe_of e
  known_step (Core-F.Parts at ps s) = all_of ps && s

  abbrev pub known_part : PartStart-F Bool Bool → Bool
  known_part x = has_part x.part && x.start

  -- every number in a tree
  abbrev pub are_known : Node → Bool
  are_known = fold-Core Bool Bool known_step known_part

  abbrev pub role_known : UnitRole → Bool
  role_known role.Plain = true
  role_known (role.Member c) = has_class c
  role_known (role.Constructor c) = has_class c
  role_known (role.Destructor c) = has_class c

  abbrev pub function_known : CoreFn → Bool
  function_known f =
      role_known f.role && has_type f.result && list_all has_type f.params && list_all has_type f.locals && are_known f.body

  abbrev pub static_known : CoreStatic → Bool
  static_known x = has_type x.ty && are_known x.start
