-- A static array of characters gets the bytes of a literal in both.
use Rattle.std.proofs.Common.{◌≡◌, ℕ, suc, ◌+◌, ◌*◌, ◌≤◌, ◌<◌, nat_le, Bool, true, false, not, ◌==◌, cond, List, [], ◌∷◌, length, pos, Some, Ok, Err, refl, ap, subst, ◌∙◌, arith}
use Rattle.std.specs.Prelude.{◌+ℤ◌}
use Rattle.std.proofs.lemmas.Bool.Decides.{nat_tests}
use Rattle.cf_base.proofs.Tests.{both, all_of}
use Rattle.cf_base.specs.declared.kind.Kind.{Kind}
use Rattle.cf_base.specs.declared.kind.Kind.TheVariants.{Int}
use Rattle.cf_base.specs.declared.arith.Arith.TheVariants as op
use Rattle.cf_base.specs.Integers.{convert}
use Rattle.cf_base.specs.World.{World, Went}
use Rattle.cf_core.specs.Types.{Name, SourceType, integer, array, const, plain as plain_type, element, without_const}
use Rattle.cf_core.specs.Classes.{Class}
use Rattle.cf_core.specs.Core.{item}
use Rattle.cf_core.specs.Places.{Place, inner, is_const, type_at}
use Rattle.cf_core.specs.Size.{size}
use Rattle.cf_core.specs.Store as source
use Rattle.cf_core.specs.Store.{hold}
use Rattle.cf_core.specs.Run.{State, Gives, with_object}
use Rattle.cf_core.specs.Calls.{Program}
use Rattle.cf_core.specs.Objects.{element_count, write_bytes}
use Rattle.cf_lower_layout.specs.Layout.{has_item, offset, leads, LaidOut, const_once}
use Rattle.cf_lower_layout.specs.Sorts.{number, scalar_sort, sort_of}
use Rattle.cf_lower_layout.proofs.Laid.{laid-part, element-without}
use Rattle.cf_lower_layout.proofs.Parts.{step-inside, route-inside}
use Rattle.cc_whole.specs.Plain.{Expression, Statement}
use Rattle.cc_whole_memory.specs.declared.value.Pointer.TheVariants as pointer
use Rattle.cc_whole_memory.specs.declared.value.Value.TheVariants as value
use Rattle.cc_whole_memory.specs.Values.{bytes_of}
use Rattle.cc_whole_memory.specs.Blocks.{Memory, outside, on_ok}
use Rattle.cc_whole_memory.specs.Pointers.{moved_in}
use Rattle.cc_whole_mean.specs.Flow as c
use Rattle.cc_whole_mean.specs.Mean as mean
use Rattle.cc_whole_mean.specs.Scope.{Scope}
use Rattle.cc_whole_mean.specs.Values.{value_of, applied, address_value}
use Rattle.cf_lower.specs.Constants.{at_byte}
use Rattle.cf_lower.specs.Expressions.{constant_of}
use Rattle.cf_lower.specs.Statements.{put, behind, put_bytes}
use Rattle.cf_lower_relate.specs.Map.{Fixed, Map, offset_of, pointer_to, type_of_place}
use Rattle.cf_lower_relate.specs.Relation.{Rel}
use Rattle.cf_lower_relate.proofs.Objects.{upd-other}
use Rattle.cf_lower_relate.specs.Scalars.{c_scalar}
use Rattle.cf_lower_relate.proofs.Sorts.{sort-bytes}
use Rattle.cf_lower_steps.specs.Lowering.{fixed_of}
use Rattle.cf_lower_steps.proofs.Results.{convert-fits}
use Rattle.cf_lower_program.specs.Alike.{Part}
use Rattle.cf_lower_settings.specs.Set.{Clear}
use Rattle.cf_lower_settings.proofs.Clear.{clear-stored}
use Rattle.cf_lower_settings.proofs.Done.{with_names, DoneBy, done-none, done-then, done-store, since-none}
use Rattle.cf_lower_settings.proofs.Known.{IsAt}
use Rattle.cf_lower_settings.proofs.Stores.{live-at, pointer-at, Valued, number-valued, put-there}

-- ---- arrays, otherwise than in const

no-not : (b : Bool) → not b ≡ true → b ≡ false
no-not true e = absurd (cc)
no-not false e = refl

array-size : {a d : SourceType} {n k : ℕ} → array a n ≡ array d k → n ≡ k
array-size e = cc

inner-item : (y a : SourceType) (len i : ℕ) → is_const y ≡ false → without_const y ≡ array a len → i < len → has_item y i ≡ true
inner-item (array d n) a len i bare e lt = let same : n ≡ len = array-size e in grind (arith, nat_tests, same, lt)
inner-item (const y) a len i bare e lt = absurd (cc)
inner-item y a len i bare e lt = absurd (cc)

item-there : (y a : SourceType) (len i : ℕ) → const_once y ≡ true → without_const y ≡ array a len → i < len → has_item (plain_type y) i ≡ true
item-there (const y) a len i once e lt = inner-item y a len i (no-not (is_const y) (both (not (is_const y)) (const_once y) once).0) e lt
item-there (array d n) a len i once e lt = inner-item (array d n) a len i refl e lt
item-there y a len i once e lt = absurd (cc)

pub count-here : (cs : List Class) (y a : SourceType) (len : ℕ) → without_const y ≡ array a len → element_count cs y ≡ len
count-here cs (const y) a len e = count-here cs y a len e
count-here cs (array d n) a len e = array-size e
count-here cs y a len e = absurd (cc)

-- ---- the source

-- the state behind bytes from a number on
abbrev pub with_bytes : Kind → Place → ℕ → List ℕ → State → State
with_bytes k p i [] s = s
with_bytes k p i (b ∷ rest) s = with_bytes k p (suc i) rest (with_object p.object (hold (item i ∷ p.route) (Some (source.Number (convert k (pos b))))) s)

pub writes : (k : Kind) (p : Place) (i : ℕ) (bytes : List ℕ) (s : State) (w : World) → write_bytes k p i bytes s w ≡ Went (Gives tt (with_bytes k p i bytes s)) w
writes k p i [] s w = refl
writes k p i (b ∷ rest) s w = writes k p (suc i) rest (with_object p.object (hold (item i ∷ p.route) (Some (source.Number (convert k (pos b))))) s) w

-- no other object is changed
pub bytes-kept : (k : Kind) (p : Place) (i : ℕ) (bytes : List ℕ) (s : State) (o : ℕ) → o == p.object ≡ false → (with_bytes k p i bytes s).object o ≡ s.object o
bytes-kept k p i [] s o other = refl
bytes-kept k p i (b ∷ rest) s o other =
    bytes-kept k p (suc i) rest (with_object p.object (hold (item i ∷ p.route) (Some (source.Number (convert k (pos b))))) s) o other
    ∙ upd-other p.object o (hold (item i ∷ p.route) (Some (source.Number (convert k (pos b)))) (s.object p.object)) s.object other

-- ---- in both

module _ (P : Program) (none : P.classes ≡ []) (function : Name → ℕ) (signature : Name → SourceType) (F : Map) (names : Scope) (q r : Name → Name)
    (c_again helps : mean.Again) (program : mean.Program) (inside : Bool) (depth : ℕ) (n : Name) (o : ℕ) (t : SourceType) (k : ℕ) (v : source.Value)
    (x : IsAt P function signature F names q r n o t k v) (lead : leads P.classes (F.type x.place.object) x.place.route ≡ true)
    (kind : Kind) (byte : bytes_of (c_scalar (number kind)) ≡ 1) (len : ℕ)
    (is-array : without_const (type_of_place (fixed_of P function signature) F x.place) ≡ array (integer kind) len) (laid : LaidOut P.classes (F.type x.place.object)) where
  abbrev Kx : Fixed
  Kx = fixed_of P function signature

  abbrev Done : List Statement → State → c.State → State → Type 0
  Done = DoneBy Kx F names r c_again helps program inside depth

  abbrev T : SourceType
  T = F.type x.place.object

  abbrev part : SourceType
  part = type_of_place Kx F x.place

  part-laid : LaidOut P.classes part
  part-laid = laid-part P.classes T laid x.place.route lead

  module _ (i : ℕ) (lt : i < len) where
    abbrev e : Place
    e = inner (item i) x.place

    element-leads : leads P.classes T (item i ∷ x.place.route) ≡ true
    element-leads = all_of (leads P.classes T x.place.route) (has_item (plain_type part) i) lead (item-there part (integer kind) len i part-laid.once is-array lt)

    element-sort : sort_of (element (plain_type part)) ≡ Some (number kind)
    element-sort = ap scalar_sort (element-without part part-laid.once ∙ ap element is-array)

    one-byte : size P.classes (element (plain_type part)) ≡ 1
    one-byte = sort-bytes P.classes (element (plain_type part)) (number kind) element-sort ∙ byte

    element-at : offset_of Kx F x.place + i ≡ offset_of Kx F e
    element-at =
        let product : i * size P.classes (element (plain_type part)) ≡ i = ap (λ k. i * k) one-byte ∙ (let k : i * 1 ≡ i = omega arith in k) in
        let sum : F.base x.place.object + offset P.classes T x.place.route + i
        ≡ F.base x.place.object + (offset P.classes T x.place.route + i * size P.classes (element (plain_type part))) = omega (arith, product) in
        sum

    -- the C's pointer to it
    element-pointer : (s : State) (m : Memory) → Rel Kx F s m → value_of (behind (at_byte (r n) o) i) names m ≡ Ok (value.Address (pointer_to Kx F e))
    element-pointer s m rel =
        let stands = rel.stands x.place.object x.known (live-at P none function signature F names q r n o t k v x) in
        let room : offset_of Kx F x.place + i ≤ stands.block.size =
        (let inner = route-inside P.classes T (item i ∷ x.place.route) element-leads in
        let at = element-at in
        let whole : F.base x.place.object + size P.classes (s.object x.place.object).type ≤ stands.block.size = stands.size in
        let typed : size P.classes (s.object x.place.object).type ≡ size P.classes T = ap (size P.classes) (rel.type x.place.object x.known) in
        omega (arith, inner, at, whole, typed)) in
        ap (λ a. on_ok a (λ x. on_ok (Ok (value.Number Int (pos i))) (λ y. applied op.Add x y m))) (pointer-at P none function signature F names q r n o t k v x s m rel)
        ∙ ap (λ y. address_value (moved_in (F.block x.place.object) (pos (offset_of Kx F x.place) +ℤ pos i) y)) stands.there
        ∙ ap (λ t. address_value (cond t (Ok (pointer.At (F.block x.place.object) (offset_of Kx F x.place + i))) (Err outside)))
        (let t : nat_le (offset_of Kx F x.place + i) stands.block.size ≡ true = grind (arith, nat_tests, room) in t)
        ∙ ap (λ (i : ℕ). Ok (value.Address (pointer.At (F.block x.place.object) i))) element-at

    -- it lies in the array
    element-from : o ≤ offset [] T (item i ∷ x.place.route)
    element-from = subst (λ cs. o ≤ offset cs T (item i ∷ x.place.route)) none (let at = x.offset in omega (arith, at))

    element-to : size P.classes part ≡ size [] t → offset [] T (item i ∷ x.place.route) + size [] (type_at [] T (item i ∷ x.place.route)) ≤ o + size [] t
    element-to whole =
        subst (λ cs. offset cs T (item i ∷ x.place.route) + size cs (type_at cs T (item i ∷ x.place.route)) ≤ o + size [] t) none
        (let inner = step-inside P.classes T (item i) x.place.route element-leads in
        let at = x.offset in
        omega (arith, inner, at, whole))

  abbrev pub array_part : Part
  array_part = record { start = o; size = size [] t }

  -- the C's stores of these bytes are done, and the rest is as clear as it was
  pub record BytesDone (xs : List Statement) (ps : List Part) (s : State) (u : c.State) (after : State) : Type 0 where
    pub done : Done xs s u after
    pub clear : Clear T (array_part ∷ ps) x.place.object after

  abbrev stores : ℕ → List ℕ → List Statement
  stores i rest = with_names r (put_bytes kind (at_byte n o) i rest)

  abbrev char : ℕ → Expression
  char b = constant_of (convert kind (pos b))

  pub bytes-done : (rest : List ℕ) (i : ℕ) → i + length rest ≤ len → size P.classes part ≡ size [] t → (ps : List Part) (s : State) (u : c.State) → Rel Kx F s u.memory
      → Clear T (array_part ∷ ps) x.place.object s → BytesDone (stores i rest) ps s u (with_bytes kind x.place i rest s)
  bytes-done [] i fit whole ps s u rel clear =
      record { done = done-none Kx F names r c_again helps program inside depth s u s (since-none Kx F s u.memory rel); clear = clear }
  bytes-done (b ∷ rest) i fit whole ps s u rel clear =
      let z = convert kind (pos b) in
      let room : i + suc (length rest) ≤ len = fit in
      let lt : i < len = omega (arith, room) in
      let value : Valued P none function signature F names q r (number kind) (char b) (source.Number z) u.memory =
      number-valued P none function signature F names q r kind z u.memory (convert-fits kind (pos b)) in
      let written = put-there P none function signature F names q r (number kind) (behind (at_byte (r n) o) i) (char b) (e i lt) (source.Number z) s u.memory rel x.known
      (live-at P none function signature F names q r n o t k v x) (element-leads i lt) (element-sort i lt) (element-pointer i lt s u.memory rel) value in
      let next : State = with_object x.place.object (hold (item i ∷ x.place.route) (Some (source.Number z))) s in
      let first = done-store Kx F names r c_again helps program inside depth (number kind) (behind (at_byte (r n) o) i) (char b) s next u written.after written.is written.since in
      let more = bytes-done rest (suc i) (let l : suc i + length rest ≤ len = omega (arith, room) in l) whole ps next first.after first.since.rel
      (clear-stored T array_part ps x.place.object (item i ∷ x.place.route) (Some (source.Number z)) s (element-from i lt) (element-to i lt whole) clear) in
      record {
        done = done-then Kx F names r c_again helps program inside depth (with_names r (put (number kind) (behind (at_byte n o) i) (char b) ∷ []))
            (stores (suc i) rest) s u next (with_bytes kind x.place (suc i) rest next) first more.done;
        clear = more.clear;
      }
