-- Types that are made of others: each is one row of interning, and names what the table has.
use Rattle.std.proofs.Common.{◌≡◌, ℕ, ◌<◌, Bool, true, false, List, [], ◌∷◌, length, Option, None, Some, slice_get, unwrap_or, All, IsTrue, refl, sym, ap, subst, ◌∙◌, arith}
use Rattle.std.proofs.lemmas.List.Elements.{All-cons}
use Rattle.std.proofs.lemmas.Option.{slice_get_within}
use Rattle.cf_base.specs.declared.kind.Kind.{Kind}
use Rattle.cf_base.specs.declared.kind.Kind.TheVariants as kind
use Rattle.cf_types.specs.declared.ty.Ty.{Ty}
use Rattle.cf_types.specs.declared.ty.Ty.TheVariants as ty
use Rattle.cf_types.specs.declared.ty.Fun.{Fun}
use Rattle.cf_types.specs.Table.{Table, IsTable, Names, fun_parts, parts_of_fun}
use Rattle.cf_elab.specs.Answer.{Answer, Made, onward}
use Rattle.cf_convert.specs.Constness.{type_at, bare}
use Rattle.cf_elab.specs.Env.{Env}
use Rattle.cf_elab.specs.Operand.{sort_of, ty_sort, integral}
use Rattle.cf_elab_env.specs.Holds.{IsFunctionSort}
use Rattle.cf_elab_env.specs.Shut as shut

-- ---- rows that are one interning

pub of_kind_made : (k : Kind) (env : Env) (r : Answer ℕ) → shut.intern (ty.Int k) env ≡ r → shut.of_kind k env ≡ r
unfolding shut.of_kind shut.intern
of_kind_made k env r h = h

pub int_made : (env : Env) (r : Answer ℕ) → shut.of_kind kind.Int env ≡ r → shut.int env ≡ r
unfolding shut.int shut.of_kind
int_made env r h = h

pub unsigned_made : (env : Env) (r : Answer ℕ) → shut.of_kind kind.UInt env ≡ r → shut.unsigned_int env ≡ r
unfolding shut.unsigned_int shut.of_kind
unsigned_made env r h = h

pub void_made : (env : Env) (r : Answer ℕ) → shut.intern ty.Void env ≡ r → shut.void env ≡ r
unfolding shut.void shut.intern
void_made env r h = h

pub pointer_made : (t : ℕ) (env : Env) (r : Answer ℕ) → shut.intern (ty.Ptr t) env ≡ r → shut.pointer_to t env ≡ r
unfolding shut.pointer_to shut.intern
pointer_made t env r h = h

pub reference_made : (t : ℕ) (env : Env) (r : Answer ℕ) → shut.intern (ty.Ref t) env ≡ r → shut.reference_to t env ≡ r
unfolding shut.reference_to shut.intern
reference_made t env r h = h

pub array_made : (t n : ℕ) (env : Env) (r : Answer ℕ) → shut.intern (ty.Array t n) env ≡ r → shut.array_of t n env ≡ r
unfolding shut.array_of shut.intern
array_made t n env r h = h

pub const_if_made : (t : ℕ) (env : Env) (r : Answer ℕ) → shut.const_of t env ≡ r → shut.const_if true t env ≡ r
unfolding shut.const_if shut.const_of
const_if_made t env r h = h

pub const_if_not : (t : ℕ) (env : Env) → shut.const_if false t env ≡ Made t env
unfolding shut.const_if
const_if_not t env = refl

pub function_made : (t : ℕ) (ps : List ℕ) (b : Bool) (env next : Env) (f : ℕ) (r : Answer ℕ)
    → shut.intern_fun (record { result = t; params = ps; is_const = b }) env ≡ Made f next → shut.intern (ty.Fun f) next ≡ r → shut.function_type t ps b env ≡ r
unfolding shut.function_type shut.intern shut.intern_fun
function_made t ps b env next f r h k = ap (λ a. onward a (λ f. shut.intern (ty.Fun f))) h ∙ k

-- ---- what they name

none_below : (n : ℕ) → All (λ p. p < n) []
none_below n = λ i d w. absurd (omega arith)

one_below : (n t : ℕ) → t < n → All (λ p. p < n) (t ∷ [])
one_below n t h = All-cons (λ p. p < n) t [] h (none_below n)

module _ (types : Table) where
  pub names_int : (k : Kind) → Names types.funs (length types.types) (length types.funs) (ty.Int k)
  names_int k = record { parts_known = none_below (length types.types); fun_known = none_below (length types.funs) }

  pub names_void : Names types.funs (length types.types) (length types.funs) ty.Void
  names_void = record { parts_known = none_below (length types.types); fun_known = none_below (length types.funs) }

  module _ (t : ℕ) (known : t < length types.types) where
    pub names_ptr : Names types.funs (length types.types) (length types.funs) (ty.Ptr t)
    names_ptr = record { parts_known = one_below (length types.types) t known; fun_known = none_below (length types.funs) }

    pub names_ref : Names types.funs (length types.types) (length types.funs) (ty.Ref t)
    names_ref = record { parts_known = one_below (length types.types) t known; fun_known = none_below (length types.funs) }

    pub names_array : (n : ℕ) → Names types.funs (length types.types) (length types.funs) (ty.Array t n)
    names_array n = record { parts_known = one_below (length types.types) t known; fun_known = none_below (length types.funs) }

    pub names_const : Names types.funs (length types.types) (length types.funs) (ty.Const t)
    names_const = record { parts_known = one_below (length types.types) t known; fun_known = none_below (length types.funs) }

  pub names_fun : (f : ℕ) (fun : Fun) → IsTable types → slice_get types.funs f ≡ Some fun → Names types.funs (length types.types) (length types.funs) (ty.Fun f)
  names_fun f fun table h = record {
    parts_known = subst (λ o. All (λ p. p < length types.types) (parts_of_fun o)) (sym h) (table.known f fun h);
    fun_known = one_below (length types.funs) f (slice_get_within types.funs f fun h);
  }

-- ---- what operators ask of an integer type

pub sort_int : (types : Table) (t : ℕ) (k : Kind) → slice_get types.types t ≡ Some (ty.Int k) → sort_of types t ≡ integral k
sort_int types t k h =
    let found : type_at types t ≡ ty.Int k = ap (λ o. unwrap_or o ty.Void) h in
    let plain : bare types t ≡ t = rw found refl in
    ap (λ b. ty_sort types (type_at types b)) plain ∙ ap (ty_sort types) found

pub sort_fun : (types : Table) (t f : ℕ) → slice_get types.types t ≡ Some (ty.Fun f) → IsFunctionSort (sort_of types t)
sort_fun types t f h =
    let found : type_at types t ≡ ty.Fun f = ap (λ o. unwrap_or o ty.Void) h in
    let plain : bare types t ≡ t = rw found refl in
    subst IsFunctionSort (sym (ap (λ b. ty_sort types (type_at types b)) plain ∙ ap (ty_sort types) found)) tt
