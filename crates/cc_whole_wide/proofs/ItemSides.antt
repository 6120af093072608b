-- Items that stand beside each other.
use Rattle.std.proofs.Common.{◌≡◌, ℕ, suc, ◌+◌, ◌^◌, Bool, true, false, not, ◌&&◌, ◌||◌, List, [], ◌∷◌, Option, Some, None, Ok, Err, refl, ap, sym, ◌∙◌, subst, arith, length, codes}
use Rattle.std.specs.Prelude.{◌==◌, nat_lt, bytes_eq, if◌then◌else◌, find, option_map}
use Rattle.std.proofs.lemmas.Bool.{and_parts, eqb-true, true≢false}
use Rattle.cc_whole.specs.declared.types.CConstant.{CConstant}
use Rattle.cc_whole.specs.declared.types.CSignature.{CSignature}
use Rattle.cc_whole.specs.declared.types.CVariableType.{CVariableType}
use Rattle.cc_whole.specs.declared.types.CVariableType.TheVariants as variable
use Rattle.cc_whole.specs.declared.unit.CPrototype.{CPrototype}
use Rattle.cc_whole.specs.declared.unit.CPair.{CPair}
use Rattle.cc_whole.specs.declared.unit.CInitialiser.{CInitialiser}
use Rattle.cc_whole.specs.declared.unit.CInitialiser.TheVariants as initialiser
use Rattle.cc_whole.specs.declared.unit.CVariable.{CVariable}
use Rattle.cc_whole.specs.Plain.{Body, Item, declares, declares_variable, defines, defines_variable}
use Rattle.cc_whole.specs.Numbers.{fits_constant, size_of, is_size}
use Rattle.cc_whole.specs.Types.{same_variable}
use Rattle.cc_whole.specs.Landmarks.{marks_before, variable_marks, static_marks, prototype_marks, item_marks}
use Rattle.cc_whole.specs.Fault.{Checks, fine, broken, holds, moved, ◌before◌}
use Rattle.cc_whole.specs.Known.{Meant, function, object, Named, lookup, is_in, is_library}
use Rattle.cc_whole.specs.Statements.{has_size, checked_body}
use Rattle.cc_whole.specs.Valid.{agrees, own_type, has_type, checked_name, checked_prototype, inside, may_be_shared, checked_function, paired, checked_pairs, may_start, holds_start, checked_start, checked_variable, named_by, defined_after, checked_item, checked_items}
use Rattle.cc_whole_wide.specs.Others.{later}
use Rattle.cc_whole_wide.proofs.FaultPlaces.{Inside}
use Rattle.cc_whole_wide.proofs.ItemPlaces.{declared_inside, prototype_inside, paired_inside, variable_inside, item_inside, starts_well}
use Rattle.cc_whole_wide.proofs.Stopping.{Stopped, late, before_stopped, moved_stopped, passes_before, test_stopped, same_test, fails_there, first_of, Beside, same, stops}
use Rattle.cc_whole_wide.proofs.StatementSides.{nought, no_size, next_stopped, passed}

-- ---- pairs

-- `main` in a pair is at fault, whatever is declared
main_at_fault : (m : Option Meant) → (rule : ℕ) × (checked_function (codes "main") m ≡ broken rule 1)
main_at_fault None = (1, refl)
main_at_fault (Some (function p)) = (10, refl)
main_at_fault (Some (object t)) = (3, refl)

pub data PairsBeside : Option ℕ → List CPair → List CPair → Type 0 where
  pairs_same : (ps : List CPair) → PairsBeside None ps ps
  pairs_stop : (w : ℕ) (ps qs : List CPair) → length qs ≡ length ps → ((k : List Named) → Stopped w (checked_pairs ps k) (checked_pairs qs k)) → PairsBeside (Some w) ps qs

pub wide_pair : (p : CPair) (ps qs : List CPair) → fits_constant p.number ≡ false → length qs ≡ length ps
    → PairsBeside (Some 0) (p ∷ ps) (record { number = nought; function = Some (codes "main") } ∷ qs)
wide_pair p ps qs wide count =
    pairs_stop 0 (p ∷ ps) (record { number = nought; function = Some (codes "main") } ∷ qs) (ap suc count)
    (λ k. let m = main_at_fault (lookup k (codes "main")) in
    late (record { rule = m.0; place = 1 }) (omega arith) (ap (λ x. holds x 11 0 before paired k p.function before moved 2 (checked_pairs ps k)) wide) (ap (λ c. c before moved 2 (checked_pairs qs k)) m.1))

pub as_many_pairs : {o : Option ℕ} {ps qs : List CPair} → PairsBeside o ps qs → length qs ≡ length ps
as_many_pairs (pairs_same ps) = refl
as_many_pairs (pairs_stop w ps qs count h) = count

pub next_pair : (p : CPair) {o : Option ℕ} {ps qs : List CPair} → PairsBeside o ps qs → PairsBeside (later 2 o) (p ∷ ps) (p ∷ qs)
next_pair p (pairs_same ps) = pairs_same (p ∷ ps)
next_pair p (pairs_stop w ps qs count h) =
    pairs_stop (2 + w) (p ∷ ps) (p ∷ qs) (ap suc count)
    (λ k. test_stopped (fits_constant p.number) 11 0 (2 + w) _ _ (omega arith)
    (passes_before 2 (2 + w) (paired k p.function) _ _ (paired_inside k p.function) (omega arith) (λ is. moved_stopped 2 w (checked_pairs ps k) (checked_pairs qs k) (h k))))

-- ---- what a variable starts with

abbrev pub Started : Type 0
Started = CVariableType × List Named

abbrev pub start_so : Option CInitialiser → Started → Checks
start_so s k = checked_start k.0 k.1 s

pub data StartBeside : Option ℕ → Option CInitialiser → Option CInitialiser → Type 0 where
  start_same : (s : Option CInitialiser) → StartBeside None s s
  start_stops : (w : ℕ) (ps qs : List CPair) → length qs ≡ length ps → ((k : List Named) → Stopped w (checked_pairs ps k) (checked_pairs qs k))
      → StartBeside (Some w) (Some (initialiser.Pairs ps)) (Some (initialiser.Pairs qs))

pub beside_start : {o : Option ℕ} {ps qs : List CPair} → PairsBeside o ps qs → StartBeside o (Some (initialiser.Pairs ps)) (Some (initialiser.Pairs qs))
beside_start (pairs_same ps) = start_same (Some (initialiser.Pairs ps))
beside_start (pairs_stop w ps qs count h) = start_stops w ps qs count h

may_start_same : (t : CVariableType) (ps qs : List CPair) → may_start t (initialiser.Pairs ps) ≡ may_start t (initialiser.Pairs qs)
may_start_same (variable.Scalar t) ps qs = refl
may_start_same (variable.Ints c) ps qs = refl
may_start_same (variable.Chars c) ps qs = refl
may_start_same (variable.Pairs c) ps qs = refl

start_stopped : (t : CVariableType) (k : List Named) (w : ℕ) (ps qs : List CPair) → ((k : List Named) → Stopped w (checked_pairs ps k) (checked_pairs qs k))
    → Stopped w (checked_start t k (Some (initialiser.Pairs ps))) (checked_start t k (Some (initialiser.Pairs qs)))
start_stopped t k w ps qs h =
    same_test (may_start t (initialiser.Pairs ps)) (may_start t (initialiser.Pairs qs)) 3 0 w _ _ (may_start_same t ps qs) (omega arith) (h k)

holds_start_same : (t : CVariableType) (ps qs : List CPair) → length qs ≡ length ps → holds_start t (Some (initialiser.Pairs ps)) ≡ holds_start t (Some (initialiser.Pairs qs))
holds_start_same (variable.Scalar t) ps qs count = refl
holds_start_same (variable.Ints c) ps qs count = refl
holds_start_same (variable.Chars c) ps qs count = refl
holds_start_same (variable.Pairs c) ps qs count = ap (λ n. not true || not (nat_lt (size_of c) n)) (sym count)

-- ---- names with sizes

-- each variable among the names has a size
abbrev pub Sized : Named → Type 0
Sized n = (t : CVariableType) → n.meant ≡ object t → has_size t ≡ true

pub data AllSized : List Named → Type 0 where
  no_names : AllSized []
  and_name : (n : Named) (ns : List Named) → Sized n → AllSized ns → AllSized (n ∷ ns)

found_sized : {ns : List Named} → AllSized ns → (name : List ℕ) (t : CVariableType) → lookup ns name ≡ Some (object t) → has_size t ≡ true
found_sized no_names name t e = absurd (cc)
found_sized (and_name n ns one all) name t e = go (bytes_eq n.name name) refl (found_sized all name t)
  where
    go : (b : Bool) → bytes_eq n.name name ≡ b → (lookup ns name ≡ Some (object t) → has_size t ≡ true) → has_size t ≡ true
    go true is again =
        let k : lookup (n ∷ ns) name ≡ Some n.meant = ap (λ c. option_map (λ (x : Named). x.meant) (if c then Some n else find (λ (x : Named). bytes_eq x.name name) ns)) is in
        let same : n.meant ≡ object t = some_same n.meant (object t) (sym k ∙ e) in
        one t same
      where
        some_same : (m o : Meant) → Some m ≡ Some o → m ≡ o
        some_same m o e = cc
    go false is again =
        again (ap (λ c. option_map (λ (x : Named). x.meant) (if c then Some n else find (λ (x : Named). bytes_eq x.name name) ns)) (sym is) ∙ e)

-- what is known before an item
pub record Around : Type 0 where
  pub names : List Named
  pub defined : List (List ℕ)
  pub sized : AllSized names

-- ---- types of variables

pub data TypeBeside : Option ℕ → CVariableType → CVariableType → Type 0 where
  type_same : (t : CVariableType) → TypeBeside None t t
  wide_ints : (c : CConstant) → fits_constant c ≡ false → TypeBeside (Some 2) (variable.Ints c) (variable.Ints nought)
  wide_chars : (c : CConstant) → fits_constant c ≡ false → TypeBeside (Some 2) (variable.Chars c) (variable.Chars nought)
  wide_pairs : (c : CConstant) → fits_constant c ≡ false → TypeBeside (Some 3) (variable.Pairs c) (variable.Pairs nought)

-- a number of elements is none that does not fit
not_same_size : (d c : CConstant) → is_size d ≡ true → is_size c ≡ false → (size_of d == size_of c) ≡ false
not_same_size d c size none = go (size_of d == size_of c) refl
  where
    go : (b : Bool) → (size_of d == size_of c) ≡ b → b ≡ false
    go false is = refl
    go true is =
        let same = eqb-true (size_of d) (size_of c) is in
        absurd (true≢false (sym size ∙ (ap (λ n. nat_lt 0 n && nat_lt n (2 ^ 22 + 1)) same ∙ none)))

-- two variables of one kind, neither of which has a size
pub record NoSizes (t u : CVariableType) (w : ℕ) : Type 0 where
  pub first : has_size t ≡ false
  pub second : has_size u ≡ false
  pub ahead : marks_before t ≡ marks_before u
  pub place : w ≡ marks_before t + 1
  pub differ : (s : CVariableType) → has_size s ≡ true → same_variable s t ≡ same_variable s u

no_sizes : (w : ℕ) {t u : CVariableType} → TypeBeside (Some w) t u → NoSizes t u w
no_sizes _ (wide_ints c wide) = record {
  first = no_size c wide;
  second = refl;
  ahead = refl;
  place = refl;
  differ = λ s h. ints s h;
}
  where
    ints : (s : CVariableType) → has_size s ≡ true → same_variable s (variable.Ints c) ≡ same_variable s (variable.Ints nought)
    ints (variable.Scalar t) h = refl
    ints (variable.Ints d) h = not_same_size d c h (no_size c wide) ∙ sym (not_same_size d nought h refl)
    ints (variable.Chars d) h = refl
    ints (variable.Pairs d) h = refl
no_sizes _ (wide_chars c wide) = record {
  first = no_size c wide;
  second = refl;
  ahead = refl;
  place = refl;
  differ = λ s h. chars s h;
}
  where
    chars : (s : CVariableType) → has_size s ≡ true → same_variable s (variable.Chars c) ≡ same_variable s (variable.Chars nought)
    chars (variable.Scalar t) h = refl
    chars (variable.Ints d) h = refl
    chars (variable.Chars d) h = not_same_size d c h (no_size c wide) ∙ sym (not_same_size d nought h refl)
    chars (variable.Pairs d) h = refl
no_sizes _ (wide_pairs c wide) = record {
  first = no_size c wide;
  second = refl;
  ahead = refl;
  place = refl;
  differ = λ s h. pairs s h;
}
  where
    pairs : (s : CVariableType) → has_size s ≡ true → same_variable s (variable.Pairs c) ≡ same_variable s (variable.Pairs nought)
    pairs (variable.Scalar t) h = refl
    pairs (variable.Ints d) h = refl
    pairs (variable.Chars d) h = refl
    pairs (variable.Pairs d) h = not_same_size d c h (no_size c wide) ∙ sym (not_same_size d nought h refl)

agree_same : (t u : CVariableType) (o : Option Meant) → ((s : CVariableType) → o ≡ Some (object s) → same_variable s t ≡ same_variable s u)
    → agrees o (object t) ≡ agrees o (object u)
agree_same t u None h = refl
agree_same t u (Some (function p)) h = refl
agree_same t u (Some (object s)) h = h s refl

typed_same : (t u : CVariableType) (o : Option CSignature) → has_type o (object t) ≡ has_type o (object u)
typed_same t u None = refl
typed_same t u (Some s) = refl

and_false : (b c : Bool) → b ≡ false → (b && c) ≡ false
and_false true c e = absurd (true≢false e)
and_false false c e = refl

-- both stop at their names or at the numbers of their elements
variables_stop : (t u : CVariableType) (w : ℕ) → NoSizes t u w → (names : List Named) (defined : List (List ℕ)) (sized : AllSized names) (d : Bool) (name : List ℕ)
    (s r : Option CInitialiser) → Stopped w (checked_variable names defined d t name s) (checked_variable names defined d u name r)
variables_stop t u w z names defined sized d name s r =
    subst (λ p. Stopped w (checked_variable names defined d t name s) (checked_name names defined d name (object u) p before holds (has_size u && holds_start u r) 11 (p + 1))) z.ahead
    (subst (λ n. Stopped n (checked_variable names defined d t name s) (checked_name names defined d name (object u) (marks_before t) before holds (has_size u && holds_start u r) 11 (marks_before t + 1)))
    (sym z.place)
    (same_test2 z.ahead))
  where
    p : ℕ
    p = marks_before t

    same_test2 : marks_before t ≡ marks_before u
        → Stopped (p + 1) (checked_variable names defined d t name s) (checked_name names defined d name (object u) p before holds (has_size u && holds_start u r) 11 (p + 1))
    same_test2 e =
        let one : checked_name names defined d name (object t) p ≡ checked_name names defined d name (object u) p =
        ap (λ b. holds (b && not (d && is_in defined name)) 2 p before holds (has_type (own_type name) (object t) && not (d && is_library name)) 10 p)
        (agree_same t u (lookup names name) (λ v is. z.differ v (found_sized sized name v is)))
        ∙ ap (λ b. holds (agrees (lookup names name) (object u) && not (d && is_in defined name)) 2 p before holds (b && not (d && is_library name)) 10 p)
        (typed_same t u (own_type name)) in
        subst (λ c. Stopped (p + 1) (checked_variable names defined d t name s) (c before holds (has_size u && holds_start u r) 11 (p + 1))) one
        (passes_before (p + 1) (p + 1) (checked_name names defined d name (object t) p) _ _ (name_inside p) (omega arith)
        (λ is. fails_there (has_size t && holds_start t s) (has_size u && holds_start u r) (p + 1) (and_false (has_size t) (holds_start t s) z.first)
        (and_false (has_size u) (holds_start u r) z.second)))
      where
        name_inside : (q : ℕ) → Inside (q + 1) (checked_name names defined d name (object t) q)
        name_inside q = declared_inside names defined d name (object t) q (q + 1) (omega arith)

-- ---- items

abbrev pub item_so : Item → Around → Checks
item_so i a = checked_item i a.names a.defined

abbrev pub items_so : List Item → Around → Checks
items_so is a = checked_items is a.names a.defined

declared_wide : (w : ℕ) {t u : CVariableType} → TypeBeside (Some w) t u → (name : List ℕ) → Beside item_so (Some w) (declares_variable t name) (declares_variable u name)
declared_wide w {t} {u} b name =
    stops w (declares_variable t name) (declares_variable u name) (λ a. variables_stop t u w (no_sizes w b) a.names a.defined a.sized false name None None)

pub beside_declared : {o : Option ℕ} {t u : CVariableType} → TypeBeside o t u → (name : List ℕ) → Beside item_so o (declares_variable t name) (declares_variable u name)
beside_declared (type_same t) name = same (declares_variable t name)
beside_declared (wide_ints c wide) name = declared_wide 2 (wide_ints c wide) name
beside_declared (wide_chars c wide) name = declared_wide 2 (wide_chars c wide) name
beside_declared (wide_pairs c wide) name = declared_wide 3 (wide_pairs c wide) name

module _ (sh st : Bool) (name : List ℕ) where
  abbrev pub made : CVariableType → Option CInitialiser → CVariable
  made t s = record { is_shared = sh; is_static = st; ty = t; name = name; initialiser = s }

  wide_type : (w : ℕ) {t u : CVariableType} → TypeBeside (Some w) t u → (s r : Option CInitialiser)
      → Beside item_so (Some (static_marks st + w)) (defines_variable (made t s)) (defines_variable (made u r))
  wide_type w {t} {u} b s r =
      stops (static_marks st + w) (defines_variable (made t s)) (defines_variable (made u r))
      (λ a. test_stopped (not (sh && st)) 12 0 (static_marks st + w) _ _ (omega arith)
      (moved_stopped (static_marks st) w _ _ (before_stopped w (checked_variable a.names a.defined true t name s) (checked_variable a.names a.defined true u name r) _ _
      (variables_stop t u w (no_sizes w b) a.names a.defined a.sized true name s r))))

  wide_start : (t : CVariableType) (w : ℕ) (ps qs : List CPair) → length qs ≡ length ps → ((k : List Named) → Stopped w (checked_pairs ps k) (checked_pairs qs k))
      → Beside item_so (Some (static_marks st + (variable_marks t + w))) (defines_variable (made t (Some (initialiser.Pairs ps)))) (defines_variable (made t (Some (initialiser.Pairs qs))))
  wide_start t w ps qs count h =
      let s : Option CInitialiser = Some (initialiser.Pairs ps) in
      let r : Option CInitialiser = Some (initialiser.Pairs qs) in
      let n = variable_marks t + w in
      stops (static_marks st + n) (defines_variable (made t s)) (defines_variable (made t r))
      (λ a. let k = record { name = name; meant = object t } ∷ a.names in
      test_stopped (not (sh && st)) 12 0 (static_marks st + n) _ _ (omega arith)
      (moved_stopped (static_marks st) n (checked_variable a.names a.defined true t name s before moved (variable_marks t) (checked_start t k s))
      (checked_variable a.names a.defined true t name r before moved (variable_marks t) (checked_start t k r))
      (subst (λ c. Stopped n (checked_variable a.names a.defined true t name s before moved (variable_marks t) (checked_start t k s)) (c before moved (variable_marks t) (checked_start t k r)))
      (ap (λ b. checked_name a.names a.defined true name (object t) (marks_before t) before holds (has_size t && b) 11 (marks_before t + 1)) (holds_start_same t ps qs count))
      (next_stopped (variable_marks t) w (checked_variable a.names a.defined true t name s) (checked_start t k s) (checked_start t k r)
      (variable_inside a.names a.defined true t name s) (start_stopped t k w ps qs h)))))

  pub beside_variable : {p q : Option ℕ} {t u : CVariableType} {s r : Option CInitialiser} → TypeBeside p t u → StartBeside q s r
      → Beside item_so (later (static_marks st) (first_of p (variable_marks t) q)) (defines_variable (made t s)) (defines_variable (made u r))
  beside_variable (type_same t) (start_same s) = same (defines_variable (made t s))
  beside_variable (type_same t) (start_stops w ps qs count h) = wide_start t w ps qs count h
  beside_variable {s = s} {r = r} (wide_ints c wide) q = wide_type 2 (wide_ints c wide) s r
  beside_variable {s = s} {r = r} (wide_chars c wide) q = wide_type 2 (wide_chars c wide) s r
  beside_variable {s = s} {r = r} (wide_pairs c wide) q = wide_type 3 (wide_pairs c wide) s r

pub beside_function : (sh : Bool) (p : CPrototype) {o : Option ℕ} {b c : Body} → Beside checked_body o b c
    → Beside item_so (later (prototype_marks p) o) (defines (record { is_shared = sh; prototype = p; body = b })) (defines (record { is_shared = sh; prototype = p; body = c }))
beside_function sh p (same b) = same (defines (record { is_shared = sh; prototype = p; body = b }))
beside_function sh p (stops w b c h) =
    stops (prototype_marks p + w) (defines (record { is_shared = sh; prototype = p; body = b })) (defines (record { is_shared = sh; prototype = p; body = c }))
    (λ a. let k = inside p (record { name = p.name; meant = function p } ∷ a.names) in
    test_stopped (not (sh && p.is_static)) 12 0 (prototype_marks p + w) _ _ (omega arith)
    (next_stopped (prototype_marks p) w (checked_prototype a.names a.defined true p) (checked_body b k) (checked_body c k) (prototype_inside a.names a.defined true p) (h k)))

-- ---- one item after another

before_fine : (c d : Checks) → (c before d) ≡ fine → (c ≡ fine) × (d ≡ fine)
before_fine (Ok u) d e = (refl, e)
before_fine (Err f) d e = absurd (cc)

moved_fine : (n : ℕ) (c : Checks) → moved n c ≡ fine → c ≡ fine
moved_fine n (Ok u) e = refl
moved_fine n (Err f) e = absurd (cc)

variable_sized : (names : List Named) (defined : List (List ℕ)) (d : Bool) (t : CVariableType) (name : List ℕ) (s : Option CInitialiser)
    → checked_variable names defined d t name s ≡ fine → has_size t ≡ true
variable_sized names defined d t name s e =
    let both = before_fine (checked_name names defined d name (object t) (marks_before t)) (holds (has_size t && holds_start t s) 11 (marks_before t + 1)) e in
    (and_parts (has_size t) (holds_start t s) (passed (has_size t && holds_start t s) 11 (marks_before t + 1) both.1)).0

same_object : (t u : CVariableType) → object t ≡ object u → t ≡ u
same_object t u e = cc

object_sized : (t : CVariableType) → has_size t ≡ true → (u : CVariableType) → object t ≡ object u → has_size u ≡ true
object_sized t h u e = subst (λ v. has_size v ≡ true) (same_object t u e) h

item_sized : (i : Item) (names : List Named) (defined : List (List ℕ)) → checked_item i names defined ≡ fine → Sized (named_by i)
item_sized (declares p) names defined e = λ t is. absurd (cc)
item_sized (declares_variable t name) names defined e = object_sized t (variable_sized names defined false t name None e)
item_sized (defines f) names defined e = λ t is. absurd (cc)
item_sized (defines_variable v) names defined e =
    let c = checked_variable names defined true v.ty v.name v.initialiser in
    let d = moved (variable_marks v.ty) (checked_start v.ty (named_by (defines_variable v) ∷ names) v.initialiser) in
    let behind = (before_fine (may_be_shared v.is_shared v.is_static) (moved (static_marks v.is_static) (c before d)) e).1 in
    object_sized v.ty (variable_sized names defined true v.ty v.name v.initialiser (before_fine c d (moved_fine (static_marks v.is_static) (c before d) behind)).0)

pub beside_items : {p q : Option ℕ} {i j : Item} {is js : List Item} → starts_well i ≡ true → Beside item_so p i j → Beside items_so q is js
    → Beside items_so (first_of p (item_marks i) q) (i ∷ is) (j ∷ js)
beside_items well (same i) (same is) = same (i ∷ is)
beside_items well (same i) (stops w is js h) =
    stops (item_marks i + w) (i ∷ is) (i ∷ js)
    (λ a. passes_before (item_marks i) (item_marks i + w) (checked_item i a.names a.defined) _ _ (item_inside i a.names a.defined well) (omega arith)
    (λ ok. moved_stopped (item_marks i) w (checked_items is (named_by i ∷ a.names) (defined_after i a.defined)) (checked_items js (named_by i ∷ a.names) (defined_after i a.defined))
    (h (record {
      names = named_by i ∷ a.names;
      defined = defined_after i a.defined;
      sized = and_name (named_by i) a.names (item_sized i a.names a.defined ok) a.sized;
    }))))
beside_items {is = is} {js = js} well (stops w i j h) q =
    stops w (i ∷ is) (j ∷ js) (λ a. before_stopped w (checked_item i a.names a.defined) (checked_item j a.names a.defined) _ _ (h a))
