-- What the runner's objects and locals become, as the meaning sees them.
use Rattle.std.proofs.Common.{◌≡◌, ◌∙◌, ℕ, zero, suc, ◌<◌, Bool, true, false, ◌==◌, ◌+◌, if◌then◌else◌, List, [], ◌∷◌, ◌++◌, length, map, reverse, get_or, slice_get, slice_set, Option, Some, None, refl, ap, sym, arith, length-append}
use Rattle.std.proofs.lemmas.Bool.Decides.{nat_tests}
use Rattle.std.proofs.lemmas.List.{length-set}
use Rattle.std.proofs.lemmas.Option.{slice_get_within, slice_get-get_or}
use Rattle.cf_core.specs.FromTypes.{Tables}
use Rattle.cf_core.specs.Types.{Name}
use Rattle.cf_core.specs.Places.{Route}
use Rattle.cf_core.specs.Store.{Value, Object, hold}
use Rattle.cf_core.specs.Run.{State, Gives, Frame, upd, with_object}
use Rattle.cf_core.specs.Run as run
use Rattle.cf_core_place.specs.declared.part.Part.{Part}
use Rattle.cf_core_place.specs.Routes.{route_of}
use Rattle.cf_core_objects.specs.declared.answer.Value.{Value as Given}
use Rattle.cf_core_objects.specs.declared.object.Cell.{Cell}
use Rattle.cf_core_objects.specs.declared.object.Entered.{Entered}
use Rattle.cf_core_objects.specs.declared.object.Held.TheVariants as held
use Rattle.cf_core_objects.specs.declared.object.Objects.{Objects}
use Rattle.cf_core_objects.specs.Log.{value_of, noted, logged}
use Rattle.cf_core_objects.specs.Store.{object_of, objects_of, state_of, frame_of, local_object, literal_of, cell_type, first_held}

-- what `get` gives
pub got-at : {A : Type 0} (xs ys : List A) (i : ℕ) (x : A) → ys ≡ xs → i < length ys → ((d : A) → x ≡ get_or ys i d) → slice_get xs i ≡ Some x
got-at xs ys i x same lt is = ap (λ l. slice_get l i) (sym same) ∙ slice_get-get_or ys i x lt ∙ ap Some (sym (is x))

-- an item of a list in which one was set, or behind which one was put
pub got-set : {A : Type 0} (xs : List A) (i j : ℕ) (v : A) → i < length xs → slice_get (slice_set xs i v) j ≡ (if j == i then Some v else slice_get xs j)
got-set [] i j v lt = absurd (omega (arith, lt))
got-set (x ∷ xs) zero zero v lt = grind (arith, nat_tests)
got-set (x ∷ xs) zero (suc j) v lt = grind (arith, nat_tests)
got-set (x ∷ xs) (suc i) zero v lt = grind (arith, nat_tests)
got-set (x ∷ xs) (suc i) (suc j) v lt = got-set xs i j v (omega (arith, lt)) ∙ grind (arith, nat_tests)

pub got-push : {A : Type 0} (xs : List A) (j : ℕ) (v : A) → slice_get (xs ++ v ∷ []) j ≡ (if j == length xs then Some v else slice_get xs j)
got-push [] zero v = refl
got-push [] (suc j) v = grind (arith, nat_tests)
got-push (x ∷ xs) zero v = grind (arith, nat_tests)
got-push (x ∷ xs) (suc j) v = got-push xs j v ∙ grind (arith, nat_tests)

through : {A B : Type 0} (f : A → B) (b : Bool) (x y : A) → f (if b then x else y) ≡ (if b then f x else f y)
through f true x y = refl
through f false x y = refl

pub objects-set : (T : Tables) (cells : List Cell) (at : ℕ) (c new : Cell) → slice_get cells at ≡ Some c
    → objects_of T (slice_set cells at new) ≡ upd at (object_of T (Some new)) (objects_of T cells)
objects-set T cells at c new got = let h : (o : ℕ) → objects_of T (slice_set cells at new) o ≡ upd at (object_of T (Some new)) (objects_of T cells) o =
    λ o. ap (object_of T) (got-set cells at o new (slice_get_within cells at c got)) ∙ through (object_of T) (o == at) (Some new) (slice_get cells o) in
    λ j o. h o j

pub objects-push : (T : Tables) (cells : List Cell) (new : Cell) → objects_of T (cells ++ new ∷ []) ≡ upd (length cells) (object_of T (Some new)) (objects_of T cells)
objects-push T cells new = let h : (o : ℕ) → objects_of T (cells ++ new ∷ []) o ≡ upd (length cells) (object_of T (Some new)) (objects_of T cells) o =
    λ o. ap (object_of T) (got-push cells o new) ∙ through (object_of T) (o == length cells) (Some new) (slice_get cells o) in
    λ j o. h o j

pub local-set : (locals : List (Option ℕ)) (i o k : ℕ) → i < length locals → local_object (slice_get (slice_set locals i (Some o)) k) ≡ upd i (Some o) (λ k. local_object (slice_get locals k)) k
local-set locals i o k lt = ap local_object (got-set locals i k (Some o) lt) ∙ through local_object (k == i) (Some (Some o)) (slice_get locals k)

-- one behind the others that has no object
pub none-pushed : (locals : List (Option ℕ)) (k : ℕ) → local_object (slice_get (locals ++ None ∷ []) k) ≡ local_object (slice_get locals k)
none-pushed [] zero = refl
none-pushed [] (suc k) = refl
none-pushed (x ∷ locals) zero = refl
none-pushed (x ∷ locals) (suc k) = none-pushed locals k

pub length-push : {A : Type 0} (xs : List A) (v : A) → length (xs ++ v ∷ []) ≡ suc (length xs)
length-push xs v = length-append xs (v ∷ []) ∙ let h : length xs + 1 ≡ suc (length xs) = omega arith in h

-- a state by its parts
abbrev pub state_with : ℕ → (ℕ → Object) → List run.Literal → List Name → Frame → State
state_with n object literals reached frame = record { next = n; object = object; literals = literals; reached = reached; finished = []; frame = frame }

-- what does not change where cells do
pub record SameNames (old new : Objects) : Type 0 where
  pub literals : new.literals.items ≡ old.literals.items
  pub reached : new.reached.items ≡ old.reached.items

pub same-names : (x : Objects) → SameNames x x
same-names x = record { literals = refl; reached = refl }

with-names : (n : ℕ) (object : ℕ → Object) (frame : Frame) (old new : Objects) → SameNames old new
    → state_with n object (reverse (map literal_of old.literals.items)) (reverse (map (λ name. name.now) old.reached.items)) frame
    ≡ state_with n object (reverse (map literal_of new.literals.items)) (reverse (map (λ name. name.now) new.reached.items)) frame
with-names n object frame old new same =
    ap (λ l. state_with n object (reverse (map literal_of l)) (reverse (map (λ name. name.now) old.reached.items)) frame) (sym same.literals)
    ∙ ap (λ l. state_with n object (reverse (map literal_of new.literals.items)) (reverse (map (λ name. name.now) l)) frame) (sym same.reached)

-- one object is changed
pub changed-state : (T : Tables) (e : Entered) (x new : Objects) (at : ℕ) (c d : Cell) (f : Object → Object) → slice_get x.cells.items at ≡ Some c
    → new.cells.items ≡ slice_set x.cells.items at d → SameNames x new → f (object_of T (Some c)) ≡ object_of T (Some d) → with_object at f (state_of T e x) ≡ state_of T e new
changed-state T e x new at c d f got cells same is =
    let mk : ℕ → (ℕ → Object) → State = λ n ob. state_with n ob (reverse (map literal_of x.literals.items)) (reverse (map (λ name. name.now) x.reached.items)) (frame_of e) in
    ap (λ y. mk (length x.cells.items) (upd at (f (object_of T y)) (objects_of T x.cells.items))) got
    ∙ ap (λ y. mk (length x.cells.items) (upd at y (objects_of T x.cells.items))) is
    ∙ ap (mk (length x.cells.items)) (sym (objects-set T x.cells.items at c d got))
    ∙ ap (λ n. mk n (objects_of T (slice_set x.cells.items at d))) (sym (length-set x.cells.items at d))
    ∙ ap (λ l. mk (length l) (objects_of T l)) (sym cells)
    ∙ with-names (length new.cells.items) (objects_of T new.cells.items) (frame_of e) x new same

-- one more object stands behind the others
pub born-state : (T : Tables) (e : Entered) (x new : Objects) (c : Cell) → new.cells.items ≡ x.cells.items ++ c ∷ [] → SameNames x new
    → state_with (suc (length x.cells.items)) (upd (length x.cells.items) (object_of T (Some c)) (objects_of T x.cells.items)) (reverse (map literal_of x.literals.items)) (reverse (map (λ name. name.now) x.reached.items)) (frame_of e)
    ≡ state_of T e new
born-state T e x new c cells same =
    let mk : ℕ → (ℕ → Object) → State = λ n ob. state_with n ob (reverse (map literal_of x.literals.items)) (reverse (map (λ name. name.now) x.reached.items)) (frame_of e) in
    ap (λ n. mk n (upd (length x.cells.items) (object_of T (Some c)) (objects_of T x.cells.items))) (sym (length-push x.cells.items c))
    ∙ ap (mk (length (x.cells.items ++ c ∷ []))) (sym (objects-push T x.cells.items c))
    ∙ ap (λ l. mk (length l) (objects_of T l)) (sym cells)
    ∙ with-names (length new.cells.items) (objects_of T new.cells.items) (frame_of e) x new same

-- an object of which a part got a value
pub held-state : (T : Tables) (c d : Cell) (q : Part) (v : Given) → d ≡ record c { log = d.log }
    → ((t : _) (old : Route → Option Value) (π : Route) → logged t old d.log.items π ≡ noted t (held.Value q v) (logged t old c.log.items) π)
    → hold (route_of q) (Some (value_of v)) (object_of T (Some c)) ≡ object_of T (Some d)
held-state T c d q v same is =
    ap (λ (h : Route → Option Value). record (object_of T (Some c)) { held = h }) (λ j π. sym (is (cell_type T c) (first_held (cell_type T c) c.storage) π) j)
    ∙ ap (λ y. object_of T (Some y)) (sym same)
