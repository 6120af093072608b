-- Which parameters and locals of a plain function have an object where control is, and of which the first value is still to come: a local is declared where it has
-- none, gets its first value, or is filled, in the register that it was declared in, is an argument once it has one, and is gone where the function ends. A switch of which a
-- label passes a local stands behind a switch by the same register, which declares the local. What stands where one of two ways was taken alone, as a temporary in a branch, has a
-- flag: a register that is set to 0 before both and to 1 where the object is there, and by which a branch ends it. What is declared there as the statement of an `if` by itself has none:
-- behind both ways it may stand, and ends whether it has an object or not. A list stores at the elements of an array, so that of each register
-- with a place in the object it is told how many elements stand from there on: the first element's place is that of the array, and another's is moved by a number.
use Rattle.std.specs.Prelude.{ℕ, suc, ◌-◌, nat_lt, Bool, true, false, ◌&&◌, not, ◌==◌, if◌then◌else◌, List, [], ◌∷◌, ◌++◌, map, filter, find, ℤ, pos, negsuc, int_le, Option, Some, None, bytes_eq}
use Rattle.std.specs.List.{list_all, list_any}
use Rattle.cf_core.specs.Types.{SourceType, array, const, parameters, result as result_type}
use Rattle.cf_plain.specs.Plain.{Register, Action, number, decay, index, declare, first, zeros, bytes, finish, call, pointer_call, Plain, Plains, act, set, branch, loop, switch, case_label, default_label, leave, continue, give, parts, nothing, more, PlainFunction, PlainFile}
use Rattle.cf_plain.specs.Running.{has_case}
use Rattle.cf_plain.specs.Valid.{has_default}
use Rattle.cf_plain_kept.specs.Kept.{Kept, a_place, an_object, Keeping, nothing_set, after}

-- Of a place: how many objects stand from there on in its array, or 1 of an object by itself; how many elements each of them has, if it is an array, how many each of these has, and so
-- on. Nothing where nothing is told.
abbrev pub Counts : Type 0
Counts = List ℕ

-- A local that may have an object: the register with its place while it has no value, and whether it has one; whether the object stands, if that is told; its flag, if it has one,
-- of which may be told that it holds 1 where the object stands and 0 where it does not; what is told of the places in the object that registers have; and the number that was the
-- last that a register was set to, while it holds it.
pub record Opened : Type 0 where
  pub local : ℕ
  pub begun : Option Register
  pub has_value : Bool
  pub stands : Option Bool
  pub flag : Option Register
  pub is_told : Bool
  pub places : Register → Counts
  pub last : Option (Register × ℤ)

abbrev pub no_places : Register → Counts
no_places r = []

-- a local that has an object
abbrev pub open_one : ℕ → Option Register → Bool → Opened
open_one i r v = record { local = i; begun = r; has_value = v; stands = Some true; flag = None; is_told = false; places = no_places; last = None }

abbrev pub is_local : ℕ → Opened → Bool
is_local i x = x.local == i

abbrev pub is_over : Option Bool → Bool
is_over None = false
is_over (Some b) = not b

-- whether the object of this local may stand
abbrev pub is_open_one : ℕ → Opened → Bool
is_open_one i x = is_local i x && not (is_over x.stands)

abbrev pub is_open : ℕ → List Opened → Bool
is_open i xs = list_any (is_open_one i) xs

-- whether anything is told of the local
abbrev pub is_listed : ℕ → List Opened → Bool
is_listed i xs = list_any (is_local i) xs

abbrev pub closed : ℕ → List Opened → List Opened
closed i xs = filter (λ x. not (is_local i x)) xs

abbrev pub closed_all : List ℕ → List Opened → List Opened
closed_all [] xs = xs
closed_all (i ∷ is) xs = closed_all is (closed i xs)

abbrev pub is_register : Option Register → Register → Bool
is_register None r = false
is_register (Some q) r = q == r

-- ---- places in an object

-- how many elements an array has, how many each of them has, and so on
abbrev pub rows_of : SourceType → Counts
rows_of (array t n) = n ∷ rows_of t
rows_of (const t) = rows_of t
rows_of t = []

-- whether an object stands at the place
abbrev pub has_object : Counts → Bool
has_object [] = false
has_object (n ∷ ns) = nat_lt 0 n

-- of the first element of the array that stands there
abbrev pub first_counts : Counts → Counts
first_counts [] = []
first_counts (n ∷ []) = []
first_counts (n ∷ m ∷ ms) = if nat_lt 0 n then m ∷ ms else []

-- so many elements further in the array, if that is told
abbrev pub further_counts : Option ℤ → Counts → Counts
further_counts z [] = []
further_counts None (n ∷ ns) = []
further_counts (Some (pos k)) (n ∷ ns) = (n - k) ∷ ns
further_counts (Some (negsuc k)) (n ∷ ns) = []

abbrev pub told_in : Register → Counts → (Register → Counts) → Register → Counts
told_in r ns f q = if q == r then ns else f q

-- the object itself, in the register that it was declared in
abbrev pub object_in : Option Register → SourceType → Register → Counts
object_in None t = no_places
object_in (Some r) t = told_in r (1 ∷ rows_of t) no_places

-- what is told on both of two ways
abbrev pub same_places : (Register → Counts) → (Register → Counts) → Register → Counts
same_places f h r = if bytes_eq (f r) (h r) then f r else []

-- the number in a register, if it is the last that one was set to
abbrev pub number_in : Option (Register × ℤ) → Register → Option ℤ
number_in None r = None
number_in (Some x) r = if x.0 == r then Some x.1 else None

abbrev pub unless_in : Option (Register × ℤ) → Register → Option (Register × ℤ)
unless_in None r = None
unless_in (Some x) r = if x.0 == r then None else Some x

-- ---- what changes of a local

-- the register gets another value, a place in the object of which so much is told
abbrev pub overwritten : Register → Counts → Opened → Opened
overwritten r ns x = record x {
  begun = if is_register x.begun r then None else x.begun;
  is_told = if is_register x.flag r then false else x.is_told;
  places = told_in r ns x.places;
  last = unless_in x.last r;
}

-- what is still so where statements run any number of times, or from any label on
abbrev pub settled : Opened → Opened
settled x = record { local = x.local; begun = None; has_value = false; stands = x.stands; flag = None; is_told = false; places = no_places; last = None }

abbrev pub valued : ℕ → Opened → Opened
valued i x = if is_local i x then record x { has_value = true } else x

-- whether it may get its first value in this register
abbrev pub may_begin : ℕ → Register → List Opened → Bool
may_begin i r xs = list_any (λ x. is_local i x && is_register x.begun r) xs

abbrev pub has_its_value : List Opened → ℕ → Bool
has_its_value xs i = list_any (λ x. is_open_one i x && x.has_value) xs

-- its object of this type is there, and has no value yet
abbrev pub begun_in : Option Register → SourceType → Opened → Opened
begun_in r t x = record x { begun = r; has_value = false; stands = Some true; is_told = false; places = object_in r t }

abbrev pub declared_in : ℕ → Option Register → SourceType → Opened → Opened
declared_in i r t x = if is_local i x then begun_in r t x else x

abbrev pub declared_among : ℕ → Option Register → SourceType → List Opened → List Opened
declared_among i r t xs = if is_listed i xs then map (declared_in i r t) xs else begun_in r t (open_one i r false) ∷ xs

abbrev pub differ : List ℕ → Bool
differ [] = true
differ (i ∷ is) = not (list_any (λ j. j == i) is) && differ is

-- ---- flags

-- what a flag holds
abbrev pub flag_number : Bool → ℤ
flag_number true = pos 1
flag_number false = pos 0

abbrev pub tells : Option Bool → ℤ → Bool
tells None z = false
tells (Some b) z = int_le z (flag_number b) && int_le (flag_number b) z

-- its flag holds this number
abbrev pub told_by : Register → ℤ → Opened → Opened
told_by r z x = if is_register x.flag r && tells x.stands z then record x { is_told = true } else x

-- the register was set to this number
abbrev pub counted : Register → ℤ → Opened → Opened
counted r z x = record x { last = Some (r, z) }

abbrev pub numbered : Option Register → ℤ → List Opened → List Opened
numbered None z xs = xs
numbered (Some r) z xs = map (counted r z) (map (told_by r z) xs)

-- whether only the flag tells that it stands, in this register
abbrev pub is_unknown : Option Bool → Bool
is_unknown None = true
is_unknown (Some b) = false

abbrev pub goes_by : Register → Opened → Bool
goes_by r x = is_register x.flag r && (x.is_told && is_unknown x.stands)

abbrev pub stands_by : Register → Opened → Opened
stands_by r x = if goes_by r x then record x { stands = Some true; flag = None; is_told = false } else x

-- where a register holds a number that is not 0, and where it holds 0
abbrev pub where_set : Register → List Opened → List Opened
where_set r xs = map (stands_by r) xs

abbrev pub where_unset : Register → List Opened → List Opened
where_unset r xs = filter (λ x. not (goes_by r x)) xs

-- the local that a branch by this register ends
abbrev pub ended_in : Register → Plain → Option ℕ
ended_in r (branch q (more (act (finish t i)) nothing) nothing) = if q == r then Some i else None
ended_in r s = None

abbrev pub or_behind : Option ℕ → Option ℕ → Option ℕ
or_behind None o = o
or_behind (Some i) o = Some i

-- the same, behind statements that do not set the register but in their parts
abbrev pub ended_by : Register → Plains → Option ℕ
ended_by r nothing = None
ended_by r (more (set q a) ss) = if q == r then None else ended_by r ss
ended_by r (more s ss) = or_behind (ended_in r s) (ended_by r ss)

-- a local that has no object, with a flag
abbrev pub awaited : Register → Option ℕ → List Opened → List Opened
awaited r None xs = xs
awaited r (Some i) xs =
    if is_listed i xs then xs
    else record { local = i; begun = None; has_value = false; stands = Some false; flag = Some r; is_told = false; places = no_places; last = None } ∷ xs

-- before a statement with others behind it: what is set to a number may be the flag by which they end a local
abbrev pub prepared : Plain → Plains → List Opened → List Opened
prepared (set r (number z)) ss xs = awaited r (ended_by r ss) xs
prepared s ss xs = xs

-- ---- actions

abbrev pub object_kept : Option Kept → Option ℕ
object_kept (Some (an_object i t)) = Some i
object_kept x = None

-- whether something may begin in this register: an object without a value, or a part of one
abbrev pub starts_well : Option Kept → Register → List Opened → Bool
starts_well (Some (an_object i t)) r xs = may_begin i r xs
starts_well (Some (a_place t)) r xs = list_any (λ x. has_object (x.places r)) xs
starts_well x r xs = false

abbrev pub valued_in : Option ℕ → List Opened → List Opened
valued_in None xs = xs
valued_in (Some i) xs = map (valued i) xs

abbrev pub action_opens : Keeping → Action → List Opened → Bool
action_opens g (declare i t) xs = not (is_open i xs)
action_opens g (first r q) xs = starts_well (g r) r xs
action_opens g (zeros r) xs = starts_well (g r) r xs
action_opens g (bytes r b) xs = starts_well (g r) r xs
action_opens g (finish t i) xs = is_open i xs
action_opens g (call name t object is into) xs = differ is && list_all (has_its_value xs) is
action_opens g (pointer_call object r t is into) xs = differ is && list_all (has_its_value xs) is
action_opens g a xs = true

-- behind an action, whose value goes to this register, if to any
abbrev pub opened_by : Keeping → Option Register → Action → List Opened → List Opened
opened_by g r (number z) xs = numbered r z xs
opened_by g r (declare i t) xs = declared_among i r t xs
opened_by g r (first p q) xs = valued_in (object_kept (g p)) xs
opened_by g r (finish t i) xs = closed i xs
opened_by g r (call name t object is into) xs = closed_all is xs
opened_by g r (pointer_call object q t is into) xs = closed_all is xs
opened_by g r a xs = xs

abbrev pub set_in : Register → List Opened → List Opened
set_in r xs = map (overwritten r []) xs

-- behind an action whose value goes to this register, and may be a place in an object
abbrev pub set_by : Keeping → Register → Action → List Opened → List Opened
set_by g r (decay q) xs = map (λ x. overwritten r (first_counts (x.places q)) x) xs
set_by g r (index p q) xs = map (λ x. overwritten r (further_counts (number_in x.last q) (x.places p)) x) xs
set_by g r a xs = opened_by g (Some r) a (set_in r xs)

-- ---- statements

-- what is open where statements fall through; nothing where they do not; or they are none that sequencing makes
pub data Where : Type 0 where
  falls : List Opened → Where
  away : Where
  wrong : Where

abbrev pub same_begun : Option Register → Option Register → Option Register
same_begun (Some r) (Some q) = if r == q then Some r else None
same_begun x y = None

-- what is told on both of two ways; where its flag is told on both, it tells of one that stands on one of them alone
abbrev pub same_stand : Option Bool → Option Bool → Option Bool
same_stand (Some true) (Some true) = Some true
same_stand (Some false) (Some false) = Some false
same_stand x y = None

abbrev pub both_one : Opened → Opened → Opened
both_one x y = record {
  local = x.local;
  begun = same_begun x.begun y.begun;
  has_value = x.has_value && y.has_value;
  stands = same_stand x.stands y.stands;
  flag = same_begun x.flag y.flag;
  is_told = x.is_told && y.is_told;
  places = same_places x.places y.places;
  last = None;
}

-- What is declared on one of two ways alone, as the statement of an `if` by itself, may stand behind them (6.4.1, 6.5.3).
abbrev pub one_way : Opened → Opened
one_way x = record {
  local = x.local;
  begun = None;
  has_value = false;
  stands = same_stand x.stands (Some false);
  flag = None;
  is_told = false;
  places = no_places;
  last = None;
}

abbrev pub one_or_both : Opened → Option Opened → Opened
one_or_both x None = one_way x
one_or_both x (Some y) = both_one x y

abbrev pub met_one : List Opened → Opened → Opened
met_one ys x = one_or_both x (find (is_local x.local) ys)

abbrev pub is_left_out : List Opened → Opened → Bool
is_left_out xs y = not (is_listed y.local xs)

-- the locals of both ways
abbrev pub both_opened : List Opened → List Opened → List Opened
both_opened xs ys = map (met_one ys) xs ++ map one_way (filter (is_left_out xs) ys)

abbrev pub joined : Where → Where → Where
joined wrong y = wrong
joined x wrong = wrong
joined away y = y
joined x away = x
joined (falls xs) (falls ys) = falls (both_opened xs ys)

abbrev pub as_open : Option Bool → Option Bool → Bool
as_open (Some true) (Some true) = true
as_open (Some false) (Some false) = true
as_open None None = true
as_open x y = false

-- whether the same stand
abbrev pub same_open : List Opened → List Opened → Bool
same_open [] [] = true
same_open (x ∷ xs) (y ∷ ys) = (x.local == y.local) && (as_open x.stands y.stands && same_open xs ys)
same_open xs ys = false

-- whether they come to a place where just these are open
abbrev pub comes_to : List Opened → Where → Bool
comes_to xs (falls ys) = same_open xs ys
comes_to xs away = true
comes_to xs wrong = false

abbrev pub is_at : Option (List Opened) → List Opened → Bool
is_at None xs = false
is_at (Some ys) xs = same_open ys xs

abbrev pub only_if : Bool → Where → Where
only_if true x = x
only_if false x = wrong

abbrev pub keeping_or : Option Keeping → Keeping
keeping_or None = nothing_set
keeping_or (Some g) = g

-- what is open where `break` and `continue` lead and at each label of the switch around, a case or the default, if they stand there
pub record Ways : Type 0 where
  pub breaks : Option (List Opened)
  pub continues : Option (List Opened)
  pub labels : Option ℤ → Option (List Opened)

abbrev pub no_label : Option ℤ → Option (List Opened)
no_label l = None

-- ---- a switch before a switch, which declares what each label passes (6.7)

abbrev pub is_the_label : Option ℤ → Plain → Bool
is_the_label (Some z) (case_label y) = int_le y z && int_le z y
is_the_label None default_label = true
is_the_label l s = false

-- what is open where it is left, behind declarations alone
abbrev pub declared : Plains → List Opened → Option (List Opened)
declared (more (act (declare i t)) ss) xs = if is_listed i xs then None else declared ss (open_one i None false ∷ xs)
declared (more leave ss) xs = Some xs
declared ss xs = None

abbrev pub declared_at : Plains → List Opened → Option ℤ → Option (List Opened)
declared_at nothing xs l = None
declared_at (more s ss) xs l = if is_the_label l s then declared ss xs else declared_at ss xs l

-- whether it has no label that the switch has not, and declares and leaves alone
abbrev pub stands_before : Plains → Plains → Bool
stands_before nothing ts = true
stands_before (more (case_label z) ss) ts = has_case z ts && stands_before ss ts
stands_before (more default_label ss) ts = has_default [] ts && stands_before ss ts
stands_before (more (act (declare i t)) ss) ts = stands_before ss ts
stands_before (more leave ss) ts = stands_before ss ts
stands_before (more s ss) ts = false

module _ (locals : List SourceType) (result : SourceType) where
  abbrev mutual
    -- a statement, before which registers hold this and these are open
    pub opens : Plain → Keeping → Ways → List Opened → Where
    opens (act a) g w xs = only_if (action_opens g a xs) (falls (opened_by g None a xs))
    opens (set r a) g w xs = only_if (action_opens g a xs) (falls (set_by g r a xs))
    opens (branch r ss ts) g w xs = joined (all_open ss g w (where_set r xs)) (all_open ts g w (where_unset r xs))
    opens (loop ss ts) g w xs =
        let ys = map settled xs in
        only_if
        (comes_to ys (all_open ss nothing_set (record { breaks = Some ys; continues = Some ys; labels = no_label }) ys)
        && comes_to ys (all_open ts nothing_set (record { breaks = Some ys; continues = None; labels = no_label }) ys)) (falls ys)
    opens (switch r ss) g w xs =
        let ys = map settled xs in
        only_if (comes_to ys (all_open ss nothing_set (record { breaks = Some ys; continues = w.continues; labels = λ l. Some ys }) ys)) (falls ys)
    opens (case_label z) g w xs = only_if (is_at (w.labels (Some z)) xs) (falls (map settled xs))
    opens default_label g w xs = only_if (is_at (w.labels None) xs) (falls (map settled xs))
    opens leave g w xs = only_if (is_at w.breaks xs) away
    opens continue g w xs = only_if (is_at w.continues xs) away
    opens (give r) g w [] = away
    opens (give r) g w (x ∷ xs) = wrong
    opens (parts ps) g w xs = wrong

    pub all_open : Plains → Keeping → Ways → List Opened → Where
    all_open nothing g w xs = falls xs
    all_open (more (switch q ss) (more (switch r ts) rest)) g w xs =
        let ys = map settled xs in
        let inside : Ways = record { breaks = Some ys; continues = w.continues; labels = declared_at ss ys } in
        let first = keeping_or (after locals result (switch q ss) g) in
        if (q == r) && stands_before ss ts
        then (if comes_to ys (all_open ts nothing_set inside ys) then all_open rest (keeping_or (after locals result (switch r ts) first)) w ys else wrong)
        else elim (opens (switch q ss) g w xs) [
          | wrong ↦ wrong
          | away ↦ from_label (more (switch r ts) rest) w
          | falls zs ↦ all_open (more (switch r ts) rest) first w zs
        ]
    all_open (more s ss) g w xs =
        elim (opens s g w (prepared s ss xs)) [
          | wrong ↦ wrong
          | away ↦ from_label ss w
          | falls ys ↦ all_open ss (keeping_or (after locals result s g)) w ys
        ]

    -- where control does not come a label may still stand
    pub from_label : Plains → Ways → Where
    from_label nothing w = away
    from_label (more (case_label z) ss) w = elim (w.labels (Some z)) [ None ↦ wrong | Some ys ↦ all_open ss nothing_set w ys ]
    from_label (more default_label ss) w = elim (w.labels None) [ None ↦ wrong | Some ys ↦ all_open ss nothing_set w ys ]
    from_label (more s ss) w = from_label ss w

-- parameters are open as a function is entered, and have their values
abbrev pub parameters_open : ℕ → List SourceType → List Opened
parameters_open i [] = []
parameters_open i (t ∷ ts) = open_one i None true ∷ parameters_open (suc i) ts

-- nothing is open where a function ends
abbrev pub function_opens : PlainFunction → Bool
function_opens f =
    comes_to []
    (all_open (parameters f.type ++ f.locals) (result_type f.type) f.body nothing_set (record { breaks = None; continues = None; labels = no_label })
    (parameters_open 0 (parameters f.type)))

abbrev pub functions_open : PlainFile → Bool
functions_open file = list_all function_opens file.functions
