-- An object or a reference takes a value, by its type.
use Rattle.std.proofs.Common.{◌≡◌, ℕ, Option, None, Some, ℤ, IsTrue, refl, sym, ap, subst, ◌∙◌}
use Rattle.cf_types.specs.declared.ty.Ty.{Ty}
use Rattle.cf_types.specs.declared.ty.Ty.TheVariants as ty
use Rattle.cf_types.specs.Table.{Table, IsTable}
use Rattle.cf_convert.specs.Constness.{type_at, bare}
use Rattle.cf_elab.specs.Answer.{Answer, Elab, Made, onward}
use Rattle.cf_elab.specs.Env.{Env}
use Rattle.cf_elab.specs.Initial as initials
use Rattle.cf_elab.specs.Initial.{Start, Keeper}
use Rattle.cf_elab.specs.Members.{class_number}
use Rattle.cf_elab.specs.Operand.{Value, Sort, sort_of, ty_sort, pointer_sort}
use Rattle.cf_elab.specs.UserFit as user
use Rattle.cf_elab_env.specs.Holds.{Known, IsType, FitsIn, Grows, fits_sort}
use Rattle.cf_elab_env.specs.Seen.{sort_seen}
use Rattle.cf_elab_env.specs.declared.sort.Sort.{Sort as FoundSort}
use Rattle.cf_elab_env.proofs.Bare.{sort_bare}
use Rattle.cf_elab_env.proofs.Growth.{bare-known}
use Rattle.cf_elab_fit.specs.Shut as fit
use Rattle.cf_elab_fit.proofs.TruthLaws.{no_class_sort}
use Rattle.cf_elab_initial.specs.Initials.References.{referred, reference_at}
use Rattle.cf_elab_initial.specs.Initials.Shut as shut

-- ---- which types are references

no_reference : (t u : ℕ) (w : Ty) → referred (pointer_sort t w) ≡ Some u → ⊥
no_reference t u ty.Void e = cc
no_reference t u (ty.Fun f) e = cc
no_reference t u other e = cc

reference_type : (types : Table) (u : ℕ) (w : Ty) → referred (ty_sort types w) ≡ Some u → w ≡ ty.Ref u
reference_type types u (ty.Ref t) e = let same : t ≡ u = cc in ap ty.Ref same
reference_type types u (ty.Ptr t) e = absurd (no_reference t u (type_at types (bare types t)) e)
reference_type types u other e = cc

pub refers_to : (types : Table) (t b u : ℕ) → b ≡ bare types t → reference_at types t ≡ Some u → type_at types b ≡ ty.Ref u
unfolding reference_at
refers_to types t b u is e = ap (type_at types) is ∙ reference_type types u (type_at types (bare types t)) e

pub no_class_at : (types : Table) (t : ℕ) (s : FoundSort) → sort_seen s ≡ sort_of types t → class_number (sort_of types t) ≡ None
no_class_at types t s found = ap class_number (sym found) ∙ no_class_sort s

-- ---- by the type

module _ (keeper : ℕ → Elab Keeper) (at t : ℕ) (v : Value) (env : Env) where
  abbrev of_type : Ty → Answer Start
  of_type w = initials.taken user.fit keeper at (bare env.types t) v w env

  pub of_reference : (u : ℕ) → reference_at env.types t ≡ Some u → shut.initial keeper at t v env ≡ shut.bound keeper at u v env
  unfolding shut.initial shut.bound
  of_reference u e = ap of_type (refers_to env.types t (bare env.types t) u refl e)

  pub of_object : reference_at env.types t ≡ None → class_number (sort_of env.types t) ≡ None → shut.initial keeper at t v env ≡ shut.object at t v env
  unfolding shut.initial shut.object reference_at
  of_object none no_class = by (type_at env.types (bare env.types t)) none no_class
    where
      by : (w : Ty) → referred (ty_sort env.types w) ≡ None → class_number (ty_sort env.types w) ≡ None
          → of_type w ≡ onward (user.fit at v (bare env.types t) env) (λ x env. Made (initials.start_of x) env)
      by (ty.Ref u) e f = cc
      by (ty.Class c) e f = cc
      by ty.Void e f = refl
      by (ty.Int k) e f = refl
      by (ty.Enum n) e f = refl
      by (ty.Ptr x) e f = refl
      by (ty.Array x n) e f = refl
      by (ty.Fun x) e f = refl
      by (ty.MemData c x) e f = refl
      by (ty.MemFun c x) e f = refl
      by (ty.Const x) e f = refl

pub object_is : (at t : ℕ) (v : Value) (env : Env) → shut.object at t v env ≡ onward (fit.user_fit at v (bare env.types t) env) (λ x env. Made (initials.start_of x) env)
unfolding shut.object fit.user_fit
object_is at t v env = refl

-- ---- the number of what it takes

pub no_number : (types : Table) (t : ℕ) (s : Start) → s.number ≡ None → FitsIn types t s.number
no_number types t s none = subst (FitsIn types t) (sym none) tt

fits_by : (types : Table) (a b : ℕ) (z : Option ℤ) → sort_of types a ≡ sort_of types b → FitsIn types a z → FitsIn types b z
fits_by types a b None e h = tt
fits_by types a b (Some z) e h = let P : Sort → Type 0 = λ s. IsTrue (fits_sort s z) in subst P e h

pub number_taken : (a b : Table) (t n : ℕ) (x : Value) (s : Start) → IsTable a → Grows a b → IsType a t → n ≡ bare a t → x.type ≡ bare a n → Known b x
    → s ≡ initials.start_of x → FitsIn b t s.number
number_taken a b t n x s table g typed at is known e =
    let inside = bare-known a t table typed in
    let twice = bare-known a (bare a t) table inside in
    let type : x.type ≡ bare a (bare a t) = is ∙ ap (bare a) at in
    let same : sort_of b x.type ≡ sort_of b t =
    ap (sort_of b) type ∙ g.sorts (bare a (bare a t)) twice ∙ sort_bare a table (bare a t) inside ∙ sort_bare a table t typed ∙ sym (g.sorts t typed) in
    subst (λ (s : Start). FitsIn b t s.number) (sym e) (fits_by b x.type t x.number same known.number)

pub ruleset initial_laws = (of_object)

pub ruleset reference_laws = (of_reference, refers_to, no_number)

pub ruleset object_laws = (object_is)
