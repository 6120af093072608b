-- `new` and `delete` (5.3.3, 5.3.4).
use Rattle.std.specs.Prelude.{ℕ, Option, None, Some, Bool, true, false, not, ◌||◌, if◌then◌else◌, List, [], ◌∷◌, pos}
use Rattle.cf_core.specs.declared.node.Core.{Core as Node}
use Rattle.cf_core.specs.declared.node.Core.TheVariants as node
use Rattle.cf_elab.specs.UserFit.{initial, fit}
use Rattle.cf_elab.specs.Answer.{Elab, ◌>>=◌, ◌>>◌, gives, breaks, need, known}
use Rattle.cf_elab.specs.Made.{int, void, pointer_to}
use Rattle.cf_elab.specs.Operand.{Value, computed, plain, Sort, sort_of, is_void, is_function, is_reference, is_array, object_pointer, array_sort}
use Rattle.cf_elab.specs.Initial.{no_keeper}
use Rattle.cf_classes.specs.TypeTree.{class_in}
use Rattle.cf_elab.specs.ClassObjects.{new_class_start, new_elements, deletes}
use Rattle.cf_elab.specs.Members.{class_number}
use Rattle.cf_elab.specs.Complete.{complete}
use Rattle.cf_elab.specs.Shape.{Shape, holding}

-- bounds from the first, which stands outside; the first is any number, and the others make the type of the elements
abbrev pub shape_of_bounds : ℕ → List Value → Shape → Shape
shape_of_bounds at [] s = s
shape_of_bounds at (b ∷ bs) s = shape_of_bounds at bs (holding at (Some b) s)

-- `(args)` of an object that is no class's: one value, or none
abbrev pub new_start : ℕ → ℕ → Bool → List Value → Elab Node
new_start at t false vs = gives (node.Blank at)
new_start at t true [] = gives (node.Blank at)
new_start at t true (v ∷ []) = initial no_keeper at t v >>= (λ s. gives s.node)
new_start at t true (v ∷ w ∷ rest) = breaks 28 at

abbrev pub start_by_class : ℕ → ℕ → Bool → List Value → Option ℕ → Elab Node
start_by_class at t has_arguments vs None = new_start at t has_arguments vs
start_by_class at t has_arguments vs (Some c) = new_class_start at c vs

abbrev pub is_object : Sort → Bool
is_object s = not (is_void s || is_function s || is_reference s)

-- a type that is an array has so many elements, and no initialiser, K28; the pointer is one to the first
abbrev pub new_by_sort : ℕ → ℕ → Bool → List Value → Sort → Elab Value
new_by_sort at t has_arguments vs (array_sort u n) = do
  need (not has_arguments) 28 at
  s ← new_elements at u
  p ← pointer_to u
  gives (computed at (node.NewArray at u (node.Number at (pos n)) s) p)
new_by_sort at t has_arguments vs r = do
  s ← start_by_class at t has_arguments vs (class_number r)
  p ← pointer_to t
  gives (computed at (node.New at t s) p)

-- K26 where there are no such objects; K30
abbrev pub new_object : ℕ → ℕ → Bool → List Value → Elab Value
new_object at t has_arguments vs = do
  env ← known
  need (is_object (sort_of env.types t)) 26 at
  need (complete env t) 30 at
  new_by_sort at t has_arguments vs (sort_of env.types t)

-- a number of elements of the type, Fit to int; an array has no initialiser, K28
abbrev pub new_array : ℕ → ℕ → Value → Bool → Elab Value
new_array at t count has_arguments = do
  env ← known
  need (is_object (sort_of env.types t)) 26 at
  need (complete env t) 30 at
  i ← int
  n ← fit at count i
  need (not has_arguments) 28 at
  s ← new_elements at t
  p ← pointer_to t
  gives (computed at (node.NewArray at t n.node s) p)

-- a pointer to an object, else K18; K30; its destructor K38
abbrev pub deleted : ℕ → Bool → Value → Sort → Elab Value
deleted at is_array p (object_pointer t) = do
  env ← known
  need (complete env t) 30 at
  deletes at (class_in env.types t)
  v ← void
  gives (computed at (if is_array then node.DeleteArray at t p.node else node.Delete at t p.node) v)
deleted at is_array p s = breaks 18 at

abbrev pub delete : ℕ → Bool → Value → Elab Value
delete at is_array v = do
  p ← plain v
  env ← known
  deleted at is_array p (sort_of env.types p.type)
