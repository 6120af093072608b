-- The value of an object by its name, and that it is known.
use Rattle.std.proofs.Common.{◌≡◌, ℕ, ◌<◌, Bool, false, Some, if◌then◌else◌, refl, sym, ap, subst, ◌∙◌, arith}
use Rattle.cf_types.specs.declared.ty.Ty.{Ty}
use Rattle.cf_types.specs.declared.ty.Ty.TheVariants as ty
use Rattle.cf_types.specs.Table.{Table, IsTable}
use Rattle.cf_convert.specs.Constness.{type_at}
use Rattle.cf_core.specs.declared.node.Core.{Core as Node}
use Rattle.cf_elab.specs.Env.{Env, Object, Home, local_home, static_home}
use Rattle.cf_elab.specs.Names.{home_node, object_value}
use Rattle.cf_elab.specs.Operand.{Value, place_of, result_step}
use Rattle.cf_elab_env.specs.Holds.{Known, IsType, IsObject}
use Rattle.cf_elab_env.proofs.Growth.{here}
use Rattle.cf_elab_env.proofs.Sorts.{below_at}
use Rattle.cf_elab_operand.specs.Operands.{is_static}

home_is : (at t : ℕ) (h : Home) → home_node at t h ≡ place_of at (home_node at t h).node t (is_static h)
home_is at t (local_home i) = refl
home_is at t (static_home name) = refl

module _ (env : Env) (at : ℕ) (x : Object) (n : Node) (t : Ty) (found : t ≡ type_at env.types x.type) (is : n ≡ (home_node at x.type x.home).node) where
  abbrev by_type : Ty → Value
  by_type t =
      let v = home_node at x.type x.home in
      let r = result_step at v.node x.type t in
      if r.is_lvalue then r else record v { number = x.number }

  pub reference_value : (u : ℕ) → t ≡ ty.Ref u → object_value env at x ≡ place_of at n u false
  reference_value u e = ap by_type (sym found ∙ e) ∙ ap (λ n. place_of at n u false) (sym is)

  own : Value
  own = record (place_of at (home_node at x.type x.home).node x.type (is_static x.home)) { number = x.number }

  pub plain_value : ((u : ℕ) → t ≡ ty.Ref u → ⊥) → object_value env at x ≡ record (place_of at n x.type (is_static x.home)) { number = x.number }
  plain_value no_reference =
      ap by_type (sym found) ∙ by t no_reference ∙ ap (λ v. let w : Value = record v { number = x.number } in w) (home_is at x.type x.home)
      ∙ ap (λ n. let w : Value = record (place_of at n x.type (is_static x.home)) { number = x.number } in w) (sym is)
    where
      by : (t : Ty) → ((u : ℕ) → t ≡ ty.Ref u → ⊥) → by_type t ≡ record (home_node at x.type x.home) { number = x.number }
      by (ty.Ref u) h = absurd (h u refl)
      by ty.Void h = refl
      by (ty.Int k) h = refl
      by (ty.Enum e) h = refl
      by (ty.Class c) h = refl
      by (ty.Ptr u) h = refl
      by (ty.Array u m) h = refl
      by (ty.Fun f) h = refl
      by (ty.MemData c u) h = refl
      by (ty.MemFun c f) h = refl
      by (ty.Const u) h = refl

pub reference_known : (types : Table) (at s u : ℕ) (n : Node) (v : Value) → IsTable types → IsType types s → ty.Ref u ≡ type_at types s → v ≡ place_of at n u false → Known types v
reference_known types at s u n v table typed found is =
    let below : u < s = below_at types s (ty.Ref u) table (here types s typed ∙ ap Some (sym found)) in
    let k : Known types (place_of at n u false) = record { typed = omega arith; number = tt } in
    subst (Known types) (sym is) k

pub object_known : (types : Table) (at : ℕ) (x : Object) (n : Node) (b : Bool) (v : Value) → IsObject types x → v ≡ record (place_of at n x.type b) { number = x.number } → Known types v
object_known types at x n b v known is =
    let k : Known types (record (place_of at n x.type b) { number = x.number }) = record { typed = known.typed; number = known.number } in
    subst (Known types) (sym is) k

pub ruleset object_laws = (reference_value, plain_value, reference_known, object_known)
