-- The tree of the plain program that a node of a file's core is, or the place of its first construct that has no form there: what names a class or
-- its members, the free store, initialisers that are run when they are first reached, types but void, scalars, arrays of them and functions, and what is named by another type than
-- that of its definition in the file.
use Rattle.std.specs.Prelude.{ℕ, List, Option, Some, None, Ok, Err, slice_get}
use Rattle.cf_types.specs.Table.{Table}
use Rattle.cf_classes.specs.TypeTree.{fun_of}
use Rattle.cf_core.specs.Types.{Name}
use Rattle.cf_core.specs.Joined.{name_in}
use Rattle.cf_core.specs.declared.node.Core.{Core, fold-Core}
use Rattle.cf_core.specs.declared.node.Core.TheOpen.{Core-F}
use Rattle.cf_core.specs.declared.node.PartStart.{PartStart-F}
use Rattle.cf_core.specs.declared.node.Change.{Change as CoreChange}
use Rattle.cf_core.specs.declared.node.Change.TheVariants as core_change
use Rattle.cf_core.specs.declared.node.Holder.{Holder}
use Rattle.cf_core.specs.declared.node.Holder.TheVariants as holder
use Rattle.cf_run_tree.specs.declared.node.Change.{Change}
use Rattle.cf_run_tree.specs.declared.node.Change.TheVariants as change
use Rattle.cf_run_tree.specs.declared.node.Node.{Node}
use Rattle.cf_run_tree.specs.declared.node.Node.TheVariants as node
use Rattle.cf_run_tree.specs.declared.node.Unary.{Unary}
use Rattle.cf_run_tree.specs.declared.node.Unary.TheVariants as one
use Rattle.cf_run_tree.specs.declared.node.Binary.{Binary}
use Rattle.cf_run_tree.specs.declared.node.Binary.TheVariants as two
use Rattle.cf_run_tree.specs.declared.program.Signature.{Signature}
use Rattle.cf_core_shape.specs.Shapes.{shape_of, object_type_of, signature_of}
use Rattle.cf_run_tree.specs.declared.shape.ObjectType.{ObjectType}
use Rattle.cf_core_node.specs.declared.defined.Defined.{Defined}
use Rattle.cf_core_node.specs.Defined.{agrees, agrees_object, function_defined, static_defined}
use Rattle.cf_core_node.specs.Formed.{Formed, placed, allowed, after, made, all, maybe}

abbrev pub change_of : CoreChange → Change
change_of (core_change.Arithmetic op k to) = change.Arithmetic (record { op = op; at = k; to = to })
change_of (core_change.Moved back) = change.Moved back

abbrev pub applied : Unary → Formed Node → Formed Node
applied op e = made (λ e. node.Apply op e) e

abbrev pub joined : Binary → Formed Node → Formed Node → Formed Node
joined op a b = after a (λ a. made (λ b. node.Join op a b) b)

abbrev pub pointer_called : Formed Signature → Formed Node → List (Formed Node) → Formed Node
pointer_called s e es = after s (λ s. after e (λ e. made (λ es. node.PointerCall e s es) (all es)))

-- initialisers of bases and members
abbrev pub no_part : PartStart-F (Formed Node) (Unit {0}) → Unit {0}
no_part x = tt

-- by the file's types
module _ (types : Table) where
  abbrev pub converted : ℕ → ℕ → Formed Node → Formed Node
  converted at t e = after (placed at (shape_of types.types t)) (λ s. made (λ e. node.Apply (one.Convert s) e) e)

  abbrev pub temporary : ℕ → ℕ → Formed Node → Formed Node
  temporary at t e = after (placed at (shape_of types.types t)) (λ s. made (λ e. node.Temporary s e) e)

  -- the type of functions on no object that is called through a pointer
  abbrev pub pointer_callee : {A : Type 0} → ℕ → Option A → ℕ → Formed Signature
  pointer_callee at None t = placed at (signature_of types t)
  pointer_callee at (Some object) t = Err at

  abbrev pub bound : ℕ → Holder → Formed Node → Formed Node
  bound at holder.NoTemporary e = made (λ e. node.Bind e) e
  bound at (holder.LocalTemporary i t) e = after (placed at (shape_of types.types t)) (λ s. made (λ e. node.Hold i s e) e)
  bound at (holder.StaticTemporary name) e = Err at

  abbrev pub declaration : ℕ → ℕ → ℕ → Formed Node → Formed Node
  declaration at i t e = after (placed at (object_type_of types t)) (λ s. made (λ e. node.Declare i s e) e)

-- and by what it defines
module _ (types : Table) (defined : Defined) where
  -- the link name
  abbrev pub link : Name → Name
  link n = name_in 1 defined.own n

  -- the type of what is named: that of its definition, where the file has one
  abbrev pub named_function : ℕ → Name → ℕ → Formed Signature
  named_function at n t = allowed at (agrees (function_defined defined n) (fun_of types (slice_get types.types t))) (placed at (signature_of types t))

  abbrev pub named_object : ℕ → Name → ℕ → Formed ObjectType
  named_object at n t = allowed at (agrees_object (static_defined defined n) t) (placed at (object_type_of types t))

  -- a function that is called on no object
  abbrev pub callee : {A : Type 0} → ℕ → Option A → Name → ℕ → Formed Signature
  callee at None n t = named_function at n t
  callee at (Some object) n t = Err at

  abbrev pub called : Formed Signature → Name → List (Formed Node) → Formed Node
  called s f es = after s (λ s. made (λ es. node.Call f s es) (all es))

  abbrev pub step : Core-F (Formed Node) (Unit {0}) → Formed Node
  step (Core-F.Number at z) = Ok (node.Number z)
  step (Core-F.Text at j bytes) = Ok (node.Text j bytes)
  step (Core-F.This at) = Err at
  step (Core-F.Local at i) = Ok (node.Local i)
  step (Core-F.Static at n t) = made (λ s. node.Static (link n) s) (named_object at (link n) t)
  step (Core-F.Function at n t) = made (λ s. node.Function (link n) s) (named_function at (link n) t)
  step (Core-F.Member at e i) = Err at
  step (Core-F.Read at e) = applied one.Read e
  step (Core-F.Address at e) = applied one.Address e
  step (Core-F.Dereference at e) = applied one.Dereference e
  step (Core-F.Decay at e) = applied one.Decay e
  step (Core-F.Index at a b) = joined two.Index a b
  step (Core-F.Convert at t e) = converted types at t e
  step (Core-F.Up at path e) = Err at
  step (Core-F.Down at c path e) = Err at
  step (Core-F.FromVoid at t e) = Err at
  step (Core-F.ToMember at path e) = Err at
  step (Core-F.DataPointer at i) = Err at
  step (Core-F.FunctionPointer at t) = Err at
  step (Core-F.Through at a b) = Err at
  step (Core-F.Operate at op k a b) = joined (two.Operate op k) a b
  step (Core-F.Unary at op k e) = applied (one.Sign op k) e
  step (Core-F.Not at e) = applied one.Not e
  step (Core-F.And at a b) = after a (λ a. made (λ b. node.And a b) b)
  step (Core-F.Or at a b) = after a (λ a. made (λ b. node.Or a b) b)
  step (Core-F.PointerOperate at op a b) = joined (two.Point op) a b
  step (Core-F.Conditional at c a b) = after c (λ c. after a (λ a. made (λ b. node.Conditional c a b) b))
  step (Core-F.Comma at es) = made (λ es. node.Comma es) (all es)
  step (Core-F.Store at a b) = joined two.Store a b
  step (Core-F.Update at a c b) = joined (two.Update (change_of c)) a b
  step (Core-F.Increment at is_postfix c e) = applied (one.Increment is_postfix (change_of c)) e
  step (Core-F.Assign at t a b es) = Err at
  step (Core-F.Temporary at t e) = temporary types at t e
  step (Core-F.Call at f t object es) = called (callee at object (link f) t) (link f) es
  step (Core-F.VirtualCall at m t e es) = Err at
  step (Core-F.PointerCall at object e t es) = pointer_called (pointer_callee types at object t) e es
  step (Core-F.New at t e) = Err at
  step (Core-F.NewArray at t n e) = Err at
  step (Core-F.Delete at t e) = Err at
  step (Core-F.DeleteArray at t e) = Err at
  step (Core-F.Build at f t es) = Err at
  step (Core-F.Copy at t e es) = Err at
  step (Core-F.Each at e) = Err at
  step (Core-F.List at es rest) = after (all es) (λ es. made (λ rest. node.List es rest) rest)
  step (Core-F.Characters at bytes) = Ok (node.Characters bytes)
  step (Core-F.Bind at h e) = bound types at h e
  step (Core-F.Zeros at) = Ok node.Zeros
  step (Core-F.Blank at) = Ok node.Blank
  step (Core-F.Full at e) = made (λ e. node.Full e) e
  step (Core-F.Block at es) = made (λ es. node.Block es) (all es)
  step (Core-F.Sequence at es) = made (λ es. node.Sequence es) (all es)
  step (Core-F.Declare at i t e) = declaration types at i t e
  step (Core-F.Once at n e) = Err at
  step (Core-F.If at c a b) = after c (λ c. after a (λ a. made (λ b. node.If c a b) (maybe b)))
  step (Core-F.Loop at f c e s) = after (maybe c) (λ c. after (maybe e) (λ e. made (λ s. node.Loop f c e s) s))
  step (Core-F.Switch at e es) = after e (λ e. made (λ es. node.Switch e es) (all es))
  step (Core-F.Case at z) = Ok (node.Case z)
  step (Core-F.Default at) = Ok node.Default
  step (Core-F.Break at) = Ok node.Break
  step (Core-F.Continue at) = Ok node.Continue
  step (Core-F.Return at e) = made (λ e. node.Return e) (maybe e)
  step (Core-F.Parts at ps s) = Err at

  abbrev pub node_of : Core → Formed Node
  node_of = fold-Core (Formed Node) (Unit {0}) step no_part
