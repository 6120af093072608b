-- Registers that are set are below the function's number, and the types of what they hold are lowered.
use Rattle.std.proofs.Common.{◌≡◌, ℕ, ◌≤◌, ◌<◌, max, Bool, true, false, not, ◌&&◌, ◌||◌, ◌==◌, if◌then◌else◌, List, [], ◌∷◌, ◌++◌, refl, sym, ap, subst, arith}
use Rattle.std.specs.Prelude.{Option, Some, None, is_some, slice_get}
use Rattle.std.specs.List.{list_all}
use Rattle.cf_base.specs.declared.kind.Kind.TheVariants.{Int}
use Rattle.cf_base.proofs.Tests.{both}
use Rattle.cf_core.specs.declared.operators.PointerOperator.{PointerOperator}
use Rattle.cf_core.specs.declared.operators.PointerOperator.TheVariants as pointer_operator
use Rattle.cf_core.specs.Types.{Name, SourceType, void, integer, enumeration, class, pointer, reference, array, takes, gives, data_member, function_member, const, same_but_const, is_void, result as result_type}
use Rattle.cf_core.specs.Core.{arithmetic, moved}
use Rattle.cf_plain.specs.Plain.{Register, Action, number, text, local, static_object, function, read, dereference, decay, index, convert, from_void, operate, unary, truth, logical_not, pointer_operate, changed, store, declare, first, zeros, bytes, finish, call, pointer_call, Plain, Plains, act, set, branch, loop, switch, case_label, default_label, leave, continue, give, parts, nothing, more}
use Rattle.cf_plain.specs.Named.{actions, all_actions}
use Rattle.cf_plain_kept.specs.Kept.{Kept, no_value, an_integer, a_place, a_member, an_object, Keeping, nothing_set, keep, all_set, untouched, kept_of, value_of, both_kept, common, named, read_kept, pointed_kept, decayed, decayed_kept, forth, moved_kept, to_place, converted, given, from_void_kept, tested, compared, pointer_operated, changed_kept, stored, begun, pointed_call, filled, kept_by, joined, after, after_all}
use Rattle.cf_plain_kept.specs.Kept as plain
use Rattle.cc_whole.specs.Known.{Named}
use Rattle.cf_lower.specs.Functions.{bound, all_bound}
use Rattle.cf_lower_program.specs.Types.{is_lowered, is_well_typed, types_at}
use Rattle.cf_lower_program.specs.Starts.{is_text, text_fits}
use Rattle.cf_lower_valid_body.specs.Scope.{Each, Fits, is_lowered_action, is_local_type}
use Rattle.cf_lower_valid_body.proofs.Lists.{each-left, each-right}
use Rattle.cf_lower_valid_body.proofs.Types.{item-passes, text-lowered, result-lowered}

abbrev pub kept_lowered : Kept → Bool
kept_lowered no_value = true
kept_lowered (an_integer f) = true
kept_lowered (a_place t) = is_lowered t
kept_lowered (a_member t) = false
kept_lowered (an_object i t) = is_lowered t

abbrev pub LoweredIf : Option Kept → Type 0
LoweredIf None = Unit {0}
LoweredIf (Some x) = kept_lowered x ≡ true

-- ---- types

given-lowered : (b : Bool) (x : Kept) → kept_lowered x ≡ true → LoweredIf (given b x)
given-lowered true x e = e
given-lowered false x e = tt

type-lowered : (t : SourceType) → is_lowered t ≡ true → LoweredIf (kept_of t)
type-lowered (integer k) e = refl
type-lowered (enumeration n) e = refl
type-lowered (pointer t) e = e
type-lowered (reference t) e = e
type-lowered (data_member c t) e = absurd (cc)
type-lowered (function_member c t) e = absurd (cc)
type-lowered (const t) e = type-lowered t (both _ (is_lowered t) e).1
type-lowered t e = tt

value-lowered : (t : SourceType) → is_lowered t ≡ true → kept_lowered (value_of t) ≡ true
value-lowered (integer k) e = refl
value-lowered (enumeration n) e = refl
value-lowered (pointer t) e = e
value-lowered (reference t) e = e
value-lowered (data_member c t) e = absurd (cc)
value-lowered (function_member c t) e = absurd (cc)
value-lowered (const t) e = value-lowered t (both _ (is_lowered t) e).1
value-lowered t e = refl

named-lowered : (t : SourceType) → is_lowered t ≡ true → LoweredIf (named (Some t))
named-lowered (reference t) e = e
named-lowered t e = e

local-lowered : (o : Option SourceType) → ((t : SourceType) → o ≡ Some t → is_lowered t ≡ true) → LoweredIf (named o)
local-lowered None h = tt
local-lowered (Some t) h = named-lowered t (h t refl)

-- ---- operands

read-lowered : (o : Option Kept) → LoweredIf o → LoweredIf (read_kept o)
read-lowered (Some (a_place t)) h = type-lowered t h
read-lowered o h = tt

pointed-lowered : (o : Option Kept) → LoweredIf o → LoweredIf (pointed_kept o)
pointed-lowered (Some (a_place t)) h = h
pointed-lowered o h = tt

inner-lowered : (t : SourceType) → is_lowered t ≡ true → LoweredIf (decayed t)
inner-lowered (array t n) e = (both _ (is_lowered t) e).1
inner-lowered (takes p t) e = e
inner-lowered (gives t c) e = e
inner-lowered (const t) e = inner-lowered t (both _ (is_lowered t) e).1
inner-lowered t e = tt

decayed-lowered : (o : Option Kept) → LoweredIf o → LoweredIf (decayed_kept o)
decayed-lowered (Some (a_place t)) h = inner-lowered t h
decayed-lowered (Some (an_object i t)) h = inner-lowered t h
decayed-lowered o h = tt

forth-lowered : (o p : Option Kept) → LoweredIf o → LoweredIf (forth o p)
forth-lowered (Some (a_place t)) (Some (an_integer f)) h = h
forth-lowered o p h = tt

moved-lowered : (o p : Option Kept) → LoweredIf o → LoweredIf p → LoweredIf (moved_kept o p)
moved-lowered (Some (an_integer f)) (Some (a_place t)) h k = k
moved-lowered o p h k = forth-lowered o p h

to-place-lowered : (t : SourceType) (o : Option Kept) → is_lowered t ≡ true → LoweredIf (to_place t o)
to-place-lowered t (Some (an_integer f)) e = e
to-place-lowered t (Some (a_place u)) e = by (is_void t || same_but_const u t)
  where
    by : (b : Bool) → LoweredIf (if b then Some (a_place t) else None)
    by true = e
    by false = tt
to-place-lowered t o e = tt

converted-lowered : (t : SourceType) (o : Option Kept) → is_lowered t ≡ true → LoweredIf (converted t o)
converted-lowered void None e = tt
converted-lowered void (Some x) e = refl
converted-lowered (integer k) o e = given-lowered (plain.integer_in o) _ refl
converted-lowered (enumeration n) o e = given-lowered (plain.integer_in o) _ refl
converted-lowered (pointer t) o e = to-place-lowered t o e
converted-lowered (data_member c t) o e = absurd (cc)
converted-lowered (function_member c t) o e = absurd (cc)
converted-lowered (const t) o e = converted-lowered t o (both _ (is_lowered t) e).1
converted-lowered t o e = tt

from-void-lowered : (t : SourceType) (o : Option Kept) → is_lowered t ≡ true → LoweredIf (from_void_kept t o)
from-void-lowered t (Some (a_place u)) e = given-lowered (is_void u) (a_place t) e
from-void-lowered t o e = tt

tested-lowered : (o : Option Kept) → LoweredIf (tested o)
tested-lowered (Some (an_integer f)) = refl
tested-lowered (Some (a_place t)) = refl
tested-lowered (Some (a_member t)) = refl
tested-lowered o = tt

compared-lowered : (o p : Option Kept) → LoweredIf (compared o p)
compared-lowered (Some (a_place t)) (Some (a_place u)) = given-lowered (same_but_const t u) _ refl
compared-lowered (Some (a_member t)) (Some (a_member u)) = given-lowered (same_but_const t u) _ refl
compared-lowered (Some (an_integer f)) (Some (an_integer g)) = refl
compared-lowered o p = tt

pointers-lowered : (op : PointerOperator) (o p : Option Kept) → LoweredIf o → LoweredIf p → LoweredIf (pointer_operated op o p)
pointers-lowered pointer_operator.Add o p h k = moved-lowered o p h k
pointers-lowered pointer_operator.Subtract o p h k = forth-lowered o p h
pointers-lowered op o p h k = compared-lowered o p

stored-lowered : (o p : Option Kept) → LoweredIf (stored o p)
stored-lowered (Some (a_place t)) (Some x) = given-lowered (plain.suits t x) no_value refl
stored-lowered o p = tt

begun-lowered : (o p : Option Kept) → LoweredIf (begun o p)
begun-lowered (Some (an_object i t)) (Some x) = given-lowered (plain.suits t x) no_value refl
begun-lowered (Some (a_place t)) (Some x) = given-lowered (plain.suits t x) no_value refl
begun-lowered o p = tt

filled-lowered : (o : Option Kept) → LoweredIf (filled o)
filled-lowered (Some (an_object i t)) = refl
filled-lowered (Some (a_place t)) = refl
filled-lowered o = tt

called-lowered : (t : SourceType) (o : Option Kept) → is_lowered t ≡ true → LoweredIf (pointed_call t o)
called-lowered t (Some (a_place u)) e = given-lowered (same_but_const u t) (value_of (result_type t)) (value-lowered (result_type t) (result-lowered t e))
called-lowered t o e = tt

truth-lowered : (b : Bool) (k : _) → kept_lowered (if b then plain.a_truth else plain.of_kind k) ≡ true
truth-lowered true k = refl
truth-lowered false k = refl

-- the type of an action that has one
one-type : (a b c : Bool) → ((a && true) && b && c) ≡ true → a ≡ true
one-type true b c e = refl
one-type false b c e = absurd (cc)

text-ok : (a b : Bool) → a && b ≡ true → (a ≡ true) × (b ≡ true)
text-ok a b e = both a b e

module _ (n : ℕ) where
  abbrev pub FitIf : Option Kept → Register → Type 0
  FitIf None r = Unit {0}
  FitIf (Some x) r = (r < n) × (kept_lowered x ≡ true)

  abbrev pub Good : Keeping → Type 0
  Good g = (r : Register) → FitIf (g r) r

  abbrev pub GoodIf : Option Keeping → Type 0
  GoodIf None = Unit {0}
  GoodIf (Some g) = Good g

  pub fit-lowered : (o : Option Kept) (r : Register) → FitIf o r → LoweredIf o
  fit-lowered None r h = tt
  fit-lowered (Some x) r h = h.1

  pub fit-below : (o : Option Kept) (r : Register) → FitIf o r → is_some o ≡ true → r < n
  fit-below None r h e = absurd (cc)
  fit-below (Some x) r h e = h.0

  module _ (locals : List SourceType) (result : SourceType) (types : list_all is_local_type locals ≡ true) where
    -- what an action gives is of a lowered type
    action-lowered : (g : Keeping) → Good g → (a : Action) → is_lowered_action a ≡ true → LoweredIf (kept_by locals result g a)
    action-lowered g h (number z) e = refl
    action-lowered g h (text j b) e = let two = both (is_text b) _ e in text-lowered b two.0 two.1
    action-lowered g h (local i) e =
        local-lowered (slice_get locals i) (λ t is. (both (is_lowered t) _ (item-passes is_local_type locals i t types is)).0)
    action-lowered g h (static_object name t) e = named-lowered t (one-type (is_lowered t) _ _ e)
    action-lowered g h (function name t) e = one-type (is_lowered t) _ _ e
    action-lowered g h (read r) e = read-lowered (g r) (fit-lowered (g r) r (h r))
    action-lowered g h (dereference r) e = pointed-lowered (g r) (fit-lowered (g r) r (h r))
    action-lowered g h (decay r) e = decayed-lowered (g r) (fit-lowered (g r) r (h r))
    action-lowered g h (index r q) e = moved-lowered (g r) (g q) (fit-lowered (g r) r (h r)) (fit-lowered (g q) q (h q))
    action-lowered g h (convert t r) e = converted-lowered t (g r) (one-type (is_lowered t) _ _ e)
    action-lowered g h (from_void t r) e = from-void-lowered t (g r) (one-type (is_lowered t) _ _ e)
    action-lowered g h (operate op k r q) e = given-lowered (plain.has_kind k (g r) && plain.right_has op k (g q)) _ (truth-lowered _ k)
    action-lowered g h (unary op k r) e = given-lowered (plain.has_kind k (g r)) _ refl
    action-lowered g h (truth r) e = tested-lowered (g r)
    action-lowered g h (logical_not r) e = tested-lowered (g r)
    action-lowered g h (pointer_operate op r q) e = pointers-lowered op (g r) (g q) (fit-lowered (g r) r (h r)) (fit-lowered (g q) q (h q))
    action-lowered g h (changed (arithmetic op k to) r q) e = given-lowered (plain.integer_in (g r) && plain.right_has op k (g q)) _ refl
    action-lowered g h (changed (moved back) r q) e = forth-lowered (g r) (g q) (fit-lowered (g r) r (h r))
    action-lowered g h (store r q) e = stored-lowered (g r) (g q)
    action-lowered g h (declare i t) e = one-type (is_lowered t) _ _ e
    action-lowered g h (first r q) e = begun-lowered (g r) (g q)
    action-lowered g h (zeros r) e = filled-lowered (g r)
    action-lowered g h (bytes r b) e = filled-lowered (g r)
    action-lowered g h (finish t i) e = refl
    action-lowered g h (call name t None is None) e = value-lowered (result_type t) (result-lowered t (one-type (is_lowered t) _ _ e))
    action-lowered g h (pointer_call None r t is None) e = called-lowered t (g r) (one-type (is_lowered t) _ _ e)
    action-lowered g h a e = tt

    -- ---- statements

    none-good : Good nothing_set
    none-good r = tt

    act-good : (o : Option Kept) (g : Keeping) → Good g → GoodIf (elim o [ None ↦ None | Some x ↦ Some g ])
    act-good None g h = tt
    act-good (Some x) g h = h

    set-good : (o : Option Kept) (r : Register) (g : Keeping) → Good g → r < n → LoweredIf o → GoodIf (elim o [ None ↦ None | Some x ↦ Some (keep g r x) ])
    set-good None r g h lt is = tt
    set-good (Some x) r g h lt is = λ q. by q (q == r) refl
      where
        same : (q : Register) → (q == r) ≡ true → r < n → q < n
        same q e l = grind (arith, e, l)

        by : (q : Register) (b : Bool) → (q == r) ≡ b → FitIf (if b then Some x else g q) q
        by q true e = (same q e lt, is)
        by q false e = h q

    if-good : (b : Bool) (o : Option Keeping) → GoodIf o → GoodIf (if b then o else None)
    if-good true o h = h
    if-good false o h = tt

    both-fit : (o p : Option Kept) (r : Register) → FitIf o r → FitIf p r → FitIf (common (λ q. o) (λ q. p) 0) r
    both-fit (Some no_value) (Some no_value) r h k = h
    both-fit (Some (an_integer f)) (Some (an_integer g)) r h k = (h.0, refl)
    both-fit (Some (a_place t)) (Some (a_place u)) r h k = by (same_but_const t u)
      where
        by : (b : Bool) → FitIf (if b then Some (a_place t) else None) r
        by true = h
        by false = tt
    both-fit (Some (a_member t)) (Some (a_member u)) r h k = by (same_but_const t u)
      where
        by : (b : Bool) → FitIf (if b then Some (a_member t) else None) r
        by true = h
        by false = tt
    both-fit (Some (an_object i t)) (Some (an_object j u)) r h k = by ((i == j) && same_but_const t u)
      where
        by : (b : Bool) → FitIf (if b then Some (an_object i t) else None) r
        by true = h
        by false = tt
    both-fit o p r h k = tt

    joined-good : (o p : Option Keeping) → GoodIf o → GoodIf p → GoodIf (joined locals result o p)
    joined-good None p h k = tt
    joined-good (Some g) None h k = tt
    joined-good (Some g) (Some f) h k = λ r. both-fit (g r) (f r) r (h r) (k r)

    untouched-good : (g : Keeping) (ss : Plains) → Good g → Good (untouched g ss)
    untouched-good g ss h r = by (all_set r ss)
      where
        by : (b : Bool) → FitIf (if b then None else g r) r
        by true = tt
        by false = h r

    behind-good : (o : Option Keeping) (rest : Plains) → GoodIf o → ((g : Keeping) → Good g → GoodIf (after_all locals result rest g))
        → GoodIf (elim o [ None ↦ None | Some g ↦ after_all locals result rest g ])
    behind-good None rest h go = tt
    behind-good (Some g) rest h go = go g h

    left-below : (a b : ℕ) → max a b ≤ n → a ≤ n
    left-below a b h = omega arith

    right-below : (a b : ℕ) → max a b ≤ n → b ≤ n
    right-below a b h = omega arith

    module _ (names : List Named) (f : Name) where
      mutual
        pub statement-good : (s : Plain) (g : Keeping) → Good g → bound s ≤ n → Each (Fits names f) (actions s) → GoodIf (after locals result s g)
        statement-good (act a) g h le fit = act-good (kept_by locals result g a) g h
        statement-good (set r a) g h le fit = set-good (kept_by locals result g a) r g h le (action-lowered g h a fit.0.lowered)
        statement-good (branch r ss ts) g h le fit =
            if-good (plain.integer_in (g r)) (joined locals result (after_all locals result ss g) (after_all locals result ts g))
            (joined-good (after_all locals result ss g) (after_all locals result ts g)
            (list-good ss g h (left-below (all_bound ss) (all_bound ts) le) (each-left (Fits names f) (all_actions ss) (all_actions ts) fit))
            (list-good ts g h (right-below (all_bound ss) (all_bound ts) le) (each-right (Fits names f) (all_actions ss) (all_actions ts) fit)))
        statement-good (loop ss ts) g h le fit =
            if-good (is_some (after_all locals result ss nothing_set) && is_some (after_all locals result ts nothing_set)) (Some nothing_set) none-good
        statement-good (switch r ss) g h le fit =
            if-good (plain.integer_in (g r) && is_some (after_all locals result ss nothing_set)) (Some (untouched g ss)) (untouched-good g ss h)
        statement-good (case_label z) g h le fit = none-good
        statement-good default_label g h le fit = none-good
        statement-good leave g h le fit = h
        statement-good continue g h le fit = h
        statement-good (give None) g h le fit = h
        statement-good (give (Some r)) g h le fit = if-good (plain.returned locals result (g r)) (Some g) h
        statement-good (parts ps) g h le fit = tt

        pub list-good : (ss : Plains) (g : Keeping) → Good g → all_bound ss ≤ n → Each (Fits names f) (all_actions ss) → GoodIf (after_all locals result ss g)
        list-good nothing g h le fit = h
        list-good (more s rest) g h le fit =
            behind-good (after locals result s g) rest
            (statement-good s g h (left-below (bound s) (all_bound rest) le) (each-left (Fits names f) (actions s) (all_actions rest) fit))
            (λ k good. list-good rest k good (right-below (bound s) (all_bound rest) le) (each-right (Fits names f) (actions s) (all_actions rest) fit))
