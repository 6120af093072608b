-- A declarator of a function makes the type of a function (8.2.5).
use Rattle.std.proofs.Common.{◌≡◌, ℕ, suc, ◌+◌, Bool, true, false, not, ◌||◌, ◌&&◌, if◌then◌else◌, List, [], ◌∷◌, ◌++◌, length, Option, None, Some, slice_get, refl, ap, subst, ◌∙◌, arith}
use Rattle.cf_types.specs.declared.ty.Ty.{Ty}
use Rattle.cf_types.specs.declared.ty.Ty.TheVariants as ty
use Rattle.cf_types.specs.Table.{Table}
use Rattle.cf_types.proofs.Places.{get-last}
use Rattle.cf_convert.specs.Constness.{type_at}
use Rattle.cf_elab.specs.Answer.{Answer, Elab, Made as Done, Refused, Passed, onward, each}
use Rattle.cf_elab.specs.Env.{Env}
use Rattle.cf_elab.specs.Made as made
use Rattle.cf_elab.specs.Made.{place_in, same_ty, entered_type}
use Rattle.cf_elab.specs.Operand.{sort_of, is_reference, is_void, is_array, is_function}
use Rattle.cf_elab.specs.Shape as shape
use Rattle.cf_elab.specs.Shape.{Parameter, Shape, inner, pointing, referring, to_member, taking, holding, Shaped, whole, function_of, is_inner, nowhere, typed, fine_bound, count_of}
use Rattle.cf_elab_env.specs.Holds.{IsFunctionSort}
use Rattle.cf_elab_env.proofs.Making.{sort_fun}
use Rattle.cf_elab_shape.specs.Shapes.Holds.{AreObjects, IsShape}
use Rattle.cf_elab_shape.specs.Shapes.Seen.{type_of}

-- ---- a chain that is made has made its first part

record Behind {A B : Type 0} (a : Answer A) (go : A → Elab B) (b : B) (e : Env) : Type 0 where
  pub value : A
  pub between : Env
  pub first : a ≡ Done value between
  pub rest : go value between ≡ Done b e

behind : {A B : Type 0} (a : Answer A) (go : A → Elab B) (b : B) (e : Env) → onward a go ≡ Done b e → Behind a go b e
behind (Done x d) go b e h = record { value = x; between = d; first = refl; rest = h }
behind (Refused rule at) go b e h = cc
behind (Passed bound most) go b e h = cc

-- what is asked first
asked : {B : Type 0} (c : Bool) (at : ℕ) (env : Env) (go : Elab B) (b : B) (e : Env) → onward (shape.need_at c at env) (λ _. go) ≡ Done b e → go env ≡ Done b e
asked true at env go b e h = h
asked false at env go b e h = cc

-- ---- the number of a function type

-- a function type in a list, where the places are counted from a number
record Found (xs : List Ty) (n m : ℕ) : Type 0 where
  pub place : ℕ
  pub number : ℕ
  pub is : m ≡ n + place
  pub found : slice_get xs place ≡ Some (ty.Fun number)

found_first : (f : ℕ) (x : Ty) (xs : List Ty) (n m : ℕ) (b : Bool) → same_ty (ty.Fun f) x ≡ b → (place_in (same_ty (ty.Fun f)) (n + 1) xs ≡ Some m → Found xs (n + 1) m)
    → (if b then Some n else place_in (same_ty (ty.Fun f)) (n + 1) xs) ≡ Some m → Found (x ∷ xs) n m
found_first f (ty.Fun g) xs n m true same rest h = let first : n ≡ m = cc in record { place = 0; number = g; is = omega arith; found = refl }
found_first f x xs n m true same rest h = cc
found_first f x xs n m false same rest h =
    let r = rest h in
    record { place = suc r.place; number = r.number; is = omega (arith, r.is); found = r.found }

found_in : (f : ℕ) (xs : List Ty) (n m : ℕ) → place_in (same_ty (ty.Fun f)) n xs ≡ Some m → Found xs n m
found_in f [] n m h = cc
found_in f (x ∷ xs) n m h = found_first f x xs n m (same_ty (ty.Fun f) x) refl (found_in f xs (n + 1) m) h

entered_sort : (types : Table) (f : ℕ) (o : Option ℕ) → place_in (same_ty (ty.Fun f)) 0 types.types ≡ o
    → IsFunctionSort (sort_of (entered_type types (ty.Fun f) o).1 (entered_type types (ty.Fun f) o).0)
entered_sort types f None h = sort_fun (record types { types = types.types ++ ty.Fun f ∷ [] }) (length types.types) f (get-last types.types (ty.Fun f))
entered_sort types f (Some n) h =
    let r = found_in f types.types 0 n h in
    let there : n ≡ r.place = omega (arith, r.is) in
    sort_fun types n r.number (ap (slice_get types.types) there ∙ r.found)

interned_sort : (f t : ℕ) (env e : Env) → made.intern (ty.Fun f) env ≡ Done t e → IsFunctionSort (sort_of e.types t)
interned_sort f t env e h =
    let found = entered_sort env.types f (place_in (same_ty (ty.Fun f)) 0 env.types.types) refl in
    subst (λ (a : Answer ℕ). SortOf a) h found
  where
    SortOf : Answer ℕ → Type 0
    SortOf (Done t e) = IsFunctionSort (sort_of e.types t)
    SortOf other = Unit {0}

function_sort : (r t : ℕ) (ps : List ℕ) (c : Bool) (env e : Env) → made.function_type r ps c env ≡ Done t e → IsFunctionSort (sort_of e.types t)
function_sort r t ps c env e h =
    let f = behind (made.intern_fun (record { result = r; params = ps; is_const = c }) env) (λ f. made.intern (ty.Fun f)) t e h in
    interned_sort f.value t f.between e f.rest

-- ---- a declarator of a function

abbrev Makes : Shape → Type 0
Makes s = (t : ℕ) (env e : Env) (x : Shaped) (ps : List Parameter) → typed nowhere s t env ≡ Done x e → function_of s ≡ Some ps → IsFunctionSort (sort_of e.types (type_of x))

inside : (s : Shape) → Makes s → (ps qs : List Parameter) (b : Bool) → is_inner s ≡ b → (if b then Some qs else function_of s) ≡ Some ps → (f : ℕ) (env e : Env) (x : Shaped)
    → IsFunctionSort (sort_of env.types f) → typed nowhere s f env ≡ Done x e → IsFunctionSort (sort_of e.types (type_of x))
inside inner m ps qs b i is f env e x known h =
    let same : env ≡ e = cc in
    let typed : whole f ≡ x = cc in
    subst (λ (x : Shaped). IsFunctionSort (sort_of e.types (type_of x))) typed (subst (λ (e : Env). IsFunctionSort (sort_of e.types f)) same known)
inside (pointing at c s) m ps qs true i is f env e x known h = cc
inside (referring at s) m ps qs true i is f env e x known h = cc
inside (to_member at k c s) m ps qs true i is f env e x known h = cc
inside (taking at rs c s) m ps qs true i is f env e x known h = cc
inside (holding at b s) m ps qs true i is f env e x known h = cc
inside s m ps qs false i is f env e x known h = m f env e x ps h is

pub makes_function : (s : Shape) → Makes s
makes_function inner t env e x ps h is = cc
makes_function (pointing at c s) t env e x ps h is =
    let fine = asked (not (is_reference (sort_of env.types t))) at env _ x e h in
    let p = behind (made.pointer_to t env) (λ p env. onward (made.const_if c p env) (typed nowhere s)) x e fine in
    let r = behind (made.const_if c p.value p.between) (typed nowhere s) x e p.rest in
    makes_function s r.value r.between e x ps r.rest is
makes_function (referring at s) t env e x ps h is =
    let fine = asked (not (is_reference (sort_of env.types t) || is_void (sort_of env.types t))) at env _ x e h in
    let q = behind (made.reference_to t env) (typed nowhere s) x e fine in
    makes_function s q.value q.between e x ps q.rest is
makes_function (to_member at k c s) t env e x ps h is =
    let fine = asked (not (is_reference (sort_of env.types t) || is_void (sort_of env.types t))) at env _ x e h in
    let p = behind (shape.member_pointer k t (type_at env.types t) env) (λ p env. onward (made.const_if c p env) (typed nowhere s)) x e fine in
    let q = behind (made.const_if c p.value p.between) (typed nowhere s) x e p.rest in
    makes_function s q.value q.between e x ps q.rest is
makes_function (taking at qs c s) t env e x ps h is =
    let fine = asked (not (is_array (sort_of env.types t) || is_function (sort_of env.types t))) at env _ x e h in
    let may = asked (not c || (is_inner s && false)) at env _ x e fine in
    let p = behind (each (λ (p : Parameter). shape.parameter_type p.type) qs env) (λ ts env. onward (made.function_type t ts c env) (typed nowhere s)) x e may in
    let f = behind (made.function_type t p.value c p.between) (typed nowhere s) x e p.rest in
    inside s (makes_function s) ps qs (is_inner s) refl is f.value f.between e x (function_sort t f.value p.value c p.between f.between f.first) f.rest
makes_function (holding at (Some b) s) t env e x ps h is =
    let fine = asked (not (is_reference (sort_of env.types t) || is_void (sort_of env.types t) || is_function (sort_of env.types t))) at env _ x e h in
    let above = asked (fine_bound b.number) at env _ x e fine in
    let a = behind (made.array_of t (count_of b.number) env) (typed nowhere s) x e above in
    makes_function s a.value a.between e x ps a.rest is
makes_function (holding at None s) t env e x ps h is =
    let fine = asked (not (is_reference (sort_of env.types t) || is_void (sort_of env.types t) || is_function (sort_of env.types t))) at env _ x e h in
    absurd (by (is_inner s) fine)
  where
    by : (b : Bool) → onward (shape.need_at (b && false) at env) (λ _. λ env. Done (shape.unbounded t) env) ≡ Done x e → ⊥
    by true h = cc
    by false h = cc

-- ---- its parameters

by_inner : (types : Table) (s : Shape) (ps qs : List Parameter) (b : Bool) → AreObjects types qs → (function_of s ≡ Some ps → AreObjects types ps)
    → (if b then Some qs else function_of s) ≡ Some ps → AreObjects types ps
by_inner types s ps qs true all rest is = let same : qs ≡ ps = cc in subst (AreObjects types) same all
by_inner types s ps qs false all rest is = rest is

pub objects_of : (types : Table) (s : Shape) (ps : List Parameter) → IsShape types s → function_of s ≡ Some ps → AreObjects types ps
objects_of types inner ps k is = cc
objects_of types (pointing at c s) ps k is = objects_of types s ps k is
objects_of types (referring at s) ps k is = objects_of types s ps k is
objects_of types (to_member at n c s) ps k is = objects_of types s ps k is
objects_of types (taking at qs c s) ps k is = by_inner types s ps qs (is_inner s) k.0 (objects_of types s ps k.1) is
objects_of types (holding at b s) ps k is = objects_of types s ps k is
