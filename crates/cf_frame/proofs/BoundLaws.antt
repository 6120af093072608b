-- What is computed item by item is the bound that the core's definition gives.
use Rattle.std.proofs.Common.{◌≡◌, ℕ, zero, suc, ◌+◌, ◌≤◌, ◌<◌, ◌^◌, max, Bool, true, false, not, ◌&&◌, is_some, List, [], ◌∷◌, ◌++◌, map, filter, if◌then◌else◌, nat_lt, length, All, Some, None, slice_get, slice_index_or, refl, ap, sym, subst, ◌∙◌, arith}
use Rattle.std.proofs.Math.Bool.{cond}
use Rattle.std.specs.List.{list_all}
use Rattle.std.proofs.lemmas.List.Elements.{All-nil, All-cons}
use Rattle.std.proofs.lemmas.Bool.Decides.{nat_tests}
use Rattle.cf_base.proofs.Tests.{both}
use Rattle.cf_core.specs.Numbers.{function_known, role_known, has_type, are_known}
use Rattle.std.specs.List.{sum, sum_by, flat_map}
use Rattle.std.proofs.Math.Nat.{max-zero, zero-max, zero-add, add_comm}
use Rattle.std.proofs.lemmas.List.Sums.{sum_by-append, sum_by-cons, sum-map}
use Rattle.cf_core.specs.declared.node.Core.{Core}
use Rattle.cf_core.specs.declared.unit.CoreFn.{CoreFn}
use Rattle.cf_core.specs.declared.unit.CoreStatic.{CoreStatic}
use Rattle.cf_core.specs.Types.{parameters}
use Rattle.cf_core.specs.Core.{Static, Function}
use Rattle.cf_core.specs.Core as plain
use Rattle.cf_core.specs.FromTypes.{Tables, type_of}
use Rattle.cf_core.specs.FromClasses.{signature_of, classes_in}
use Rattle.cf_core.specs.Size.{size}
use Rattle.cf_core.specs.FromUnit.{Unit, IsValid, tables_of, file_of, function_of, static_of}
use Rattle.cf_core.specs.View.{core_of}
use Rattle.cf_core.specs.Nodes.{nodes}
use Rattle.cf_core.specs.Frame.{slot, loop_bytes, node_cost, greatest, initialiser_cost, starts_cost, is_owned_by, frame_bound, initialiser_bound}
use Rattle.cf_frame.specs.Costed.{most, up_to_most, costed}
use Rattle.cf_frame.specs.Bound.{makes_none, nodes_of, frames_of, AreSmall, bound_of_found, frame_of, slots_of, slots_after, costliest_after, is_local_of, is_of_file, function_total, initialiser_total}
use Rattle.cf_frame.proofs.Sums.{of_sum, of_max, further}
use Rattle.cf_frame.proofs.Taking.{taking-parameters}
use Rattle.cf_frame.proofs.Walked.{Weighs, weighed, none-both}

slots-is : (u : Unit) (n : ℕ) (ts : List ℕ) → n ≤ most → slots_after u n ts ≡ up_to_most (n + slots_of u ts)
slots-is u n [] h = omega (arith, h)
slots-is u n (t ∷ ts) h =
    let s = slot [] (type_of (tables_of u) t) in
    let k : up_to_most (n + s) ≤ most = omega arith in
    slots-is u (up_to_most (n + s)) ts k ∙ further n s (slots_of u ts)
    ∙ ap (λ m. up_to_most (n + m)) (sym (sum_by-cons (λ t. slot [] (type_of (tables_of u) t)) t ts))

pick : (b : Bool) (g s k m : ℕ) → up_to_most k ≡ s → max (if b then max g s else g) (up_to_most m) ≡ max g (up_to_most (if b then max k m else m))
pick true g s k m h = omega (arith, h)
pick false g s k m h = refl

sum_by-map : {A B : Type 0} (f : B → ℕ) (g : A → B) (xs : List A) → sum_by f (map g xs) ≡ sum_by (λ x. f (g x)) xs
sum_by-map f g [] = refl
sum_by-map f g (x ∷ xs) = sum_by-cons f (g x) (map g xs) ∙ ap (λ n. f (g x) + n) (sum_by-map f g xs) ∙ sym (sum_by-cons (λ x. f (g x)) x xs)

module _ (u : Unit) where
  weighed-at : (n : Core) → Weighs (core_of (tables_of u) (signature_of (tables_of u)) n) (costed n)
  weighed-at n = weighed (tables_of u) (signature_of (tables_of u)) n

  abbrev object_nodes : List CoreStatic → List plain.Core
  object_nodes xs = flat_map (λ (x : Static). nodes x.start) (map (static_of (tables_of u)) xs)

  abbrev cost_of : Static → ℕ
  cost_of x = initialiser_cost x.start []

  abbrev statics_of : List CoreStatic → List Static
  statics_of xs = map (static_of (tables_of u)) xs

  chosen : (b : Bool) (x : Static) (rest : List Static)
      → starts_cost [] (cond b (x ∷ rest) rest) ≡ (if b then max (cost_of x) (starts_cost [] rest) else starts_cost [] rest)
  chosen true x rest = refl
  chosen false x rest = refl

  costliest-is : (counts : CoreStatic → Bool) (counted : Static → Bool) → ((x : CoreStatic) → counted (static_of (tables_of u) x) ≡ counts x) → (g : ℕ) (xs : List CoreStatic)
      → makes_none (object_nodes xs) → costliest_after counts g xs ≡ max g (up_to_most (starts_cost [] (filter counted (statics_of xs))))
  costliest-is counts counted same g [] free = sym (max-zero g)
  costliest-is counts counted same g (x ∷ xs) free =
      let parts = none-both (nodes (core_of (tables_of u) (signature_of (tables_of u)) x.start)) (object_nodes xs) free in
      let made = static_of (tables_of u) x in
      let rest = filter counted (statics_of xs) in
      costliest-is counts counted same (if counts x then max g (costed x.start).start else g) xs parts.1
      ∙ pick (counts x) g (costed x.start).start (cost_of made) (starts_cost [] rest) (Weighs.start (weighed-at x.start) parts.0)
      ∙ ap (λ n. max g (up_to_most n)) (sym (chosen (counts x) made rest) ∙ ap (λ b. starts_cost [] (cond b (made ∷ rest) rest)) (sym (same x)))

  abbrev expressions_of : CoreFn → List plain.Core
  expressions_of f = nodes (core_of (tables_of u) (signature_of (tables_of u)) f.body)

  -- the parameters and locals of a function
  objects-is : (f : CoreFn) → sum (map (slot []) (parameters (function_of (tables_of u) f).type ++ (function_of (tables_of u) f).locals)) ≡ slots_of u f.params + slots_of u f.locals
  objects-is f =
      let ps = map (type_of (tables_of u)) f.params in
      let ls = map (type_of (tables_of u)) f.locals in
      ap (λ l. sum (map (slot []) (l ++ ls))) (taking-parameters ps (type_of (tables_of u) f.result) false)
      ∙ sum-map (slot []) (ps ++ ls) ∙ sum_by-append (slot []) ps ls
      ∙ ap (λ n. n + sum_by (slot []) ls) (sum_by-map (slot []) (type_of (tables_of u)) f.params)
      ∙ ap (λ n. slots_of u f.params + n) (sum_by-map (slot []) (type_of (tables_of u)) f.locals)

  pub function-is : (f : CoreFn) → makes_none (expressions_of f) → makes_none (object_nodes u.statics) → function_total u f ≡ up_to_most (frame_bound [] (file_of u).statics (function_of (tables_of u) f))
  function-is f free objects_free =
      let xs = expressions_of f in
      let w = weighed-at f.body in
      let dear = greatest (map (node_cost []) xs) in
      let loops = sum_by loop_bytes xs in
      let start = starts_cost [] (filter (λ (x : Static). is_owned_by f.name x.owner) (file_of u).statics) in
      let ps = slots_of u f.params in
      let ls = slots_of u f.locals in
      let p : up_to_most ps ≡ slots_after u 0 f.params = ap up_to_most (sym (zero-add ps)) ∙ sym (slots-is u 0 f.params (omega arith)) in
      let q : up_to_most ls ≡ slots_after u 0 f.locals = ap up_to_most (sym (zero-add ls)) ∙ sym (slots-is u 0 f.locals (omega arith)) in
      let s : up_to_most start ≡ costliest_after (is_local_of f.name) 0 u.statics =
      sym (costliest-is (is_local_of f.name) (λ (x : Static). is_owned_by f.name x.owner) (λ x. refl) 0 u.statics objects_free ∙ zero-max (up_to_most start)) in
      let objects = of_sum ps ls _ _ p q in
      let base = of_sum (ps + ls) 64 _ 64 objects refl in
      let looped = of_sum ((ps + ls) + 64) loops _ _ base w.sums.loops in
      let dearest = of_max dear start _ _ (w.sums.dearest free) s in
      let all = of_sum (((ps + ls) + 64) + loops) (max dear start) _ _ looped dearest in
      let order : ((ps + ls) + 64) + loops + max dear start ≡ 64 + (ps + ls) + loops + max dear start = omega arith in
      let bound : 64 + (ps + ls) + loops + max dear start ≡ frame_bound [] (file_of u).statics (function_of (tables_of u) f) =
      sym (ap (λ n. 64 + n + sum (map loop_bytes xs) + max dear start) (objects-is f) ∙ ap (λ n. 64 + (ps + ls) + n + max dear start) (sum-map loop_bytes xs)) in
      sym all ∙ ap up_to_most (order ∙ bound)

  pub initialiser-is : makes_none (object_nodes u.statics) → initialiser_total u ≡ up_to_most (initialiser_bound [] (file_of u).statics)
  initialiser-is objects_free =
      let start = starts_cost [] (filter (λ (x : Static). not (is_some x.owner)) (file_of u).statics) in
      let s : up_to_most start ≡ costliest_after is_of_file 0 u.statics =
      sym (costliest-is is_of_file (λ (x : Static). not (is_some x.owner)) (λ x. refl) 0 u.statics objects_free ∙ zero-max (up_to_most start)) in
      sym (of_sum start 64 _ 64 s refl) ∙ ap up_to_most (add_comm start 64)

-- What stands at a place of a list.

pub some-at : {A : Type 0} (xs : List A) (i : ℕ) (d : A) → i < length xs → slice_get xs i ≡ Some (slice_index_or xs i d)
some-at [] i d h = absurd (omega (arith, h))
some-at (x ∷ xs) zero d h = refl
some-at (x ∷ xs) (suc i) d h = some-at xs i d (omega (arith, h))

pub none-at : {A : Type 0} (xs : List A) (i : ℕ) → length xs ≤ i → slice_get xs i ≡ None
none-at [] i h = refl
none-at (x ∷ xs) zero h = absurd (omega (arith, h))
none-at (x ∷ xs) (suc i) h = none-at xs i (omega (arith, h))

-- What validity says of one function.

pub pass-at : {A : Type 0} (p : A → Bool) (xs : List A) (i : ℕ) (x : A) → list_all p xs ≡ true → slice_get xs i ≡ Some x → p x ≡ true
pass-at p [] i x h e = cc
pass-at p (y ∷ ys) zero x h e = let q : y ≡ x = cc in subst (λ z. p z ≡ true) q (both (p y) (list_all p ys) h).0
pass-at p (y ∷ ys) (suc i) x h e = pass-at p ys i x (both (p y) (list_all p ys) h).1 e

all-known : (n : ℕ) (xs : List ℕ) → list_all (λ t. nat_lt t n) xs ≡ true → All (λ t. t < n) xs
all-known n [] h = All-nil (λ t. t < n)
all-known n (x ∷ xs) h =
    let parts = both (nat_lt x n) (list_all (λ t. nat_lt t n) xs) h in
    let below = parts.0 in
    let k : x < n = grind (arith, nat_tests) in
    All-cons (λ t. t < n) x xs k (all-known n xs parts.1)

pub params-known : (tables : Tables) (f : CoreFn) → function_known tables f ≡ true → All (λ t. t < length tables.types.types) f.params
params-known tables f known =
    let numbers = both _ (are_known tables f.body) known in
    let types = both _ (list_all (has_type tables) f.locals) numbers.0 in
    all-known (length tables.types.types) f.params (both (role_known tables f.role && has_type tables f.result) (list_all (has_type tables) f.params) types.0).1

pub locals-known : (tables : Tables) (f : CoreFn) → function_known tables f ≡ true → All (λ t. t < length tables.types.types) f.locals
locals-known tables f known =
    let numbers = both _ (are_known tables f.body) known in
    all-known (length tables.types.types) f.locals
    (both (role_known tables f.role && has_type tables f.result && list_all (has_type tables) f.params) (list_all (has_type tables) f.locals) numbers.0).1

-- The bound of the function of a number, once its core is valid and no class is there.

small-of : (u : Unit) → IsValid u → u.classes.defined ≡ [] → AreSmall u
small-of u valid none t h = subst (λ defs. size (classes_in (tables_of u) defs) (type_of (tables_of u) t) ≤ 2 ^ 22) none (valid.limits.sizes t h)

functions-at : (tables : Tables) (fs : List CoreFn) (i : ℕ) (f : CoreFn) → slice_get fs i ≡ Some f → slice_get (map (function_of tables) fs) i ≡ Some (function_of tables f)
functions-at tables [] i f e = cc
functions-at tables (x ∷ xs) zero f e = let q : x ≡ f = cc in ap (λ g. Some (function_of tables g)) q
functions-at tables (x ∷ xs) (suc i) f e = functions-at tables xs i f e

functions-none : (tables : Tables) (fs : List CoreFn) (i : ℕ) → slice_get fs i ≡ None → slice_get (map (function_of tables) fs) i ≡ None
functions-none tables [] i e = refl
functions-none tables (x ∷ xs) zero e = cc
functions-none tables (x ∷ xs) (suc i) e = functions-none tables xs i e

module _ (u : Unit) (valid : IsValid u) (free : makes_none (nodes_of (file_of u))) (undefined : u.classes.defined ≡ []) where
  pub are-small : AreSmall u
  are-small = small-of u valid undefined

  pub known-at : (i : ℕ) (f : CoreFn) → slice_get u.functions i ≡ Some f → function_known (tables_of u) f ≡ true
  known-at i f e = pass-at (function_known (tables_of u)) u.functions i f valid.functions e

  classes-none : (file_of u).classes ≡ []
  classes-none = ap (classes_in (tables_of u)) undefined

  abbrev function_nodes : List CoreFn → List plain.Core
  function_nodes fs = flat_map (λ (f : Function). nodes f.body) (map (function_of (tables_of u)) fs)

  free-parts : makes_none (function_nodes u.functions) × makes_none (object_nodes u u.statics)
  free-parts = none-both (function_nodes u.functions) (object_nodes u u.statics) free

  free-at : (fs : List CoreFn) (i : ℕ) (f : CoreFn) → slice_get fs i ≡ Some f → makes_none (function_nodes fs) → makes_none (expressions_of u f)
  free-at [] i f e none = cc
  free-at (x ∷ xs) zero f e none =
      let q : x ≡ f = cc in subst (λ f. makes_none (expressions_of u f)) q (none-both (expressions_of u x) (function_nodes xs) none).0
  free-at (x ∷ xs) (suc i) f e none = free-at xs i f e (none-both (expressions_of u x) (function_nodes xs) none).1

  pub of_some : (i : ℕ) (f : CoreFn) → slice_get u.functions i ≡ Some f → function_total u f ≡ up_to_most (frame_of u i)
  of_some i f e =
      function-is u f (free-at u.functions i f e free-parts.0) free-parts.1
      ∙ ap (λ cs. up_to_most (frame_bound cs (file_of u).statics (function_of (tables_of u) f))) (sym classes-none)
      ∙ ap (λ o. up_to_most (bound_of_found u o)) (sym (functions-at (tables_of u) u.functions i f e))

  pub of_none : (i : ℕ) → slice_get u.functions i ≡ None → initialiser_total u ≡ up_to_most (frame_of u i)
  of_none i e =
      initialiser-is u free-parts.1
      ∙ ap (λ cs. up_to_most (initialiser_bound cs (file_of u).statics)) (sym classes-none)
      ∙ ap (λ o. up_to_most (bound_of_found u o)) (sym (functions-none (tables_of u) u.functions i e))

  -- of all functions in order
  totals-of : (fs : List CoreFn) → makes_none (function_nodes fs)
      → map (function_total u) fs ≡ map (λ f. up_to_most (frame_bound [] (file_of u).statics f)) (map (function_of (tables_of u)) fs)
  totals-of [] none = refl
  totals-of (f ∷ fs) none =
      let parts = none-both (expressions_of u f) (function_nodes fs) none in
      ap (λ n. n ∷ map (function_total u) fs) (function-is u f parts.0 free-parts.1)
      ∙ ap (λ l. up_to_most (frame_bound [] (file_of u).statics (function_of (tables_of u) f)) ∷ l) (totals-of fs parts.1)

  pub all-frames : map (function_total u) u.functions ++ initialiser_total u ∷ [] ≡ frames_of (file_of u)
  all-frames =
      ap (λ l. l ++ initialiser_total u ∷ []) (totals-of u.functions free-parts.0)
      ∙ ap (λ n. map (λ f. up_to_most (frame_bound [] (file_of u).statics f)) (file_of u).functions ++ n ∷ []) (initialiser-is u free-parts.1)
      ∙ ap (λ cs. map (λ f. up_to_most (frame_bound cs (file_of u).statics f)) (file_of u).functions ++ up_to_most (initialiser_bound cs (file_of u).statics) ∷ []) (sym classes-none)
