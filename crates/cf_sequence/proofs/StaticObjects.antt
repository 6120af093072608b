-- Static objects: the plain program has the program's, by the same names and numbers and with the same types.
use Rattle.std.proofs.Common.{◌≡◌, ℕ, zero, suc, ◌+◌, Bool, true, false, not, cond, nat_lt, List, [], ◌∷◌, map, length, refl, ◌∙◌, ap, subst, slice_get, arith}
use Rattle.std.specs.Prelude.{Option, Some, None, find, bytes_eq, position}
use Rattle.std.specs.List.{prefix_len}
use Rattle.std.proofs.lemmas.Bool.Decides.{nat_tests}
use Rattle.cf_core.specs.Types.{Name, SourceType, void, same_but_const}
use Rattle.cf_core.specs.Classes.{Class}
use Rattle.cf_core.specs.Core.{Static}
use Rattle.cf_core.specs.Store.{Object}
use Rattle.cf_core.specs.Places.{Place}
use Rattle.cf_core.specs.Run.{State, Act, ◌>>=◌, ◌>>◌, gives, malformed, need, some_or, cast_from_void}
use Rattle.cf_core.specs.Calls.{Program, root}
use Rattle.cf_core.specs.Program.{length_of, static_object_of, first_state, no_frame}
use Rattle.cf_core.specs.Objects.{static_number, static_type, static_place, same_type}
use Rattle.cf_plain.specs.Program.{headers, static_header}
use Rattle.cf_sequence.specs.Statements.{type_of_static}
use Rattle.cf_sequence.specs.Sequenced.{sequenced, sequenced_static}
use Rattle.cf_sequence.proofs.Calling.{never}
use Rattle.cf_sequence.proofs.Following.{Pure, pure-gives, pure-malformed, pure-then, pure-need, pure-some_or}

abbrev pub type_found : Option Static → SourceType
type_found None = void
type_found (Some x) = x.type

module _ (cs : List Class) (all : List Static) where
  abbrev pub beside : Static → Static
  beside x = static_header (sequenced_static cs all x)

  abbrev pub beside_all : List Static → List Static
  beside_all xs = map static_header (map (sequenced_static cs all) xs)

  same-prefix : (name : Name) (xs : List Static) → prefix_len (λ (x : Static). not (bytes_eq x.name name)) (beside_all xs) ≡ prefix_len (λ (x : Static). not (bytes_eq x.name name)) xs
  same-prefix name [] = refl
  same-prefix name (x ∷ xs) = ap (λ n. cond (not (bytes_eq x.name name)) (1 + n) 0) (same-prefix name xs)

  same-length : (xs : List Static) → length (beside_all xs) ≡ length xs
  same-length [] = refl
  same-length (x ∷ xs) = ap suc (same-length xs)

  pub same-number : (name : Name) (xs : List Static) → position (λ (x : Static). bytes_eq x.name name) (beside_all xs) ≡ position (λ (x : Static). bytes_eq x.name name) xs
  same-number name xs =
      ap (λ n. cond (nat_lt n (length (beside_all xs))) (Some n) None) (same-prefix name xs)
      ∙ ap (λ m. cond (nat_lt (prefix_len (λ (x : Static). not (bytes_eq x.name name)) xs) m) (Some (prefix_len (λ (x : Static). not (bytes_eq x.name name)) xs)) None) (same-length xs)

  found-type : (b : Bool) (x : Static) (old new : Option Static) → type_found new ≡ type_found old → type_found (cond b (Some (beside x)) new) ≡ type_found (cond b (Some x) old)
  found-type true x old new e = refl
  found-type false x old new e = e

  pub same-found : (name : Name) (xs : List Static) → type_found (find (λ (x : Static). bytes_eq x.name name) (beside_all xs)) ≡ type_found (find (λ (x : Static). bytes_eq x.name name) xs)
  same-found name [] = refl
  same-found name (x ∷ xs) = found-type (bytes_eq x.name name) x _ _ (same-found name xs)

  same-count : (xs : List Static) → length_of (beside_all xs) ≡ length_of xs
  same-count [] = refl
  same-count (x ∷ xs) = ap suc (same-count xs)

  same-object : (xs : List Static) (o : ℕ) → static_object_of cs (slice_get (beside_all xs) o) ≡ static_object_of cs (slice_get xs o)
  same-object [] o = refl
  same-object (x ∷ xs) zero = refl
  same-object (x ∷ xs) (suc o) = same-object xs o

  abbrev state_of : ℕ → (ℕ → Object) → ℕ → State
  state_of n objects depth = record { next = n; object = objects; literals = []; reached = []; finished = []; frame = no_frame depth }

-- the first state of the plain program
pub same-first : (P : Program) (depth : ℕ) → first_state (headers (sequenced P)) depth ≡ first_state P depth
same-first P depth =
    ap (λ n. state_of P.classes P.statics n (λ o. static_object_of P.classes (slice_get (beside_all P.classes P.statics P.statics) o)) depth) (same-count P.classes P.statics P.statics)
    ∙ ap (λ objects. state_of P.classes P.statics (length_of P.statics) objects depth) (λ j o. same-object P.classes P.statics P.statics o j)

-- the object of a name, with the type that the name is declared with
abbrev pub named_object : Program → Name → SourceType → Act Place
named_object P name t = same_type P name t >> static_place P name

abbrev pub object_at : Option ℕ → SourceType → SourceType → Act Place
object_at n u t = ((some_or n malformed >>= (λ o. gives (root o))) >> need (same_but_const u t) cast_from_void) >> (some_or n malformed >>= (λ o. gives (root o)))

pub same-named : (P : Program) (name : Name) (t : SourceType) → named_object (headers (sequenced P)) name t ≡ named_object P name t
same-named P name t =
    ap (λ n. object_at n (static_type (headers (sequenced P)) name) t) (same-number P.classes P.statics name P.statics)
    ∙ ap (λ u. object_at (static_number P name) u t) (same-found P.classes P.statics name P.statics)

pub pure-place : (P : Program) (name : Name) → Pure (static_place P name)
pure-place P name = pure-then (some_or (static_number P name) malformed) (λ o. gives (root o)) (pure-some_or (static_number P name) malformed pure-malformed) (λ o. pure-gives (root o))

pub pure-named : (P : Program) (name : Name) (t : SourceType) → Pure (named_object P name t)
pure-named P name t =
    let place = pure-place P name in
    pure-then (same_type P name t) (λ u. static_place P name)
    (pure-then (static_place P name) (λ u. need (same_but_const (static_type P name) t) cast_from_void) place (λ u. pure-need (same_but_const (static_type P name) t) cast_from_void)) (λ u. place)

-- the place of a name
abbrev pub place_of_number : Option ℕ → Act Place
place_of_number n = some_or n malformed >>= (λ o. gives (root o))

pub same-place : (P : Program) (name : Name) → static_place (headers (sequenced P)) name ≡ static_place P name
same-place P name = ap place_of_number (same-number P.classes P.statics name P.statics)

pub static-type-is : (P : Program) (name : Name) → static_type P name ≡ type_of_static P.statics name
static-type-is P name = refl

-- ---- the objects of static storage before anything is done

one-less : (m n : ℕ) → nat_lt (1 + m) (suc n) ≡ true → nat_lt m n ≡ true
one-less m n lt = grind (arith, nat_tests)

module _ (cs : List Class) (name : Name) where
  abbrev pub before : List Static → ℕ
  before xs = prefix_len (λ (x : Static). not (bytes_eq x.name name)) xs

  found-one : (x : Static) (xs : List Static) (n : ℕ) (b : Bool) (others : Option Static)
      → (b ≡ false → (static_object_of cs (slice_get xs n)).type ≡ type_found others)
      → (static_object_of cs (slice_get (x ∷ xs) (cond (not b) (1 + n) 0))).type ≡ type_found (cond b (Some x) others)
  found-one x xs n true others e = refl
  found-one x xs n false others e = ap (λ m. (static_object_of cs (slice_get (x ∷ xs) m)).type) (let same : 1 + n ≡ suc n = omega arith in same) ∙ e refl

  -- the first object of the name has the type that the name has
  pub found-type-first : (xs : List Static) → nat_lt (before xs) (length xs) ≡ true
      → (static_object_of cs (slice_get xs (before xs))).type ≡ type_of_static xs name
  found-type-first [] lt = never lt
  found-type-first (x ∷ xs) lt = found-one x xs (before xs) (bytes_eq x.name name) (find (λ (x : Static). bytes_eq x.name name) xs)
      (λ other. found-type-first xs (one-less (before xs) (length xs) (subst (λ b. nat_lt (cond (not b) (1 + before xs) 0) (suc (length xs)) ≡ true) other lt)))

pub length-is : (xs : List Static) → length_of xs ≡ length xs
length-is [] = refl
length-is (x ∷ xs) = ap suc (length-is xs)
