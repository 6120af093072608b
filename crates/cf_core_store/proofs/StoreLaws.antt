-- What operators give, by what is told of their operands.
use Rattle.std.proofs.Common.{◌≡◌, ◌∙◌, ℕ, zero, suc, Bool, true, false, not, ◌&&◌, nat_le, if◌then◌else◌, [], ℤ, pos, negsuc, Option, Some, None, Result, Ok, Err, refl, ap, sym, subst}
use Rattle.std.specs.Prelude.{neg_ℤ}
use Rattle.cf_base.specs.Event.{Undefined}
use Rattle.cf_base.specs.World.{World, Ran, Went, Stops}
use Rattle.cf_core.specs.declared.operators.PointerOperator.{PointerOperator}
use Rattle.cf_core.specs.Core.{item}
use Rattle.cf_core.specs.Places.{Route, Place, inner, is_inside, place_eq}
use Rattle.cf_core.specs.Pointers as pointers
use Rattle.cf_core.specs.Pointers.{element_of, up_to, further, bound_of, same_array, truth_value}
use Rattle.cf_core.specs.Run.{State, Did, Gives, Malformed, ◌>>=◌, ◌>>◌, gives, need, valid, not_alive, outside_array, compared}
use Rattle.cf_core.specs.Scalars as scalars
use Rattle.cf_core.specs.Store.{Value, Number, At, is_dead}
use Rattle.cf_core.specs.Places.{type_at}
use Rattle.cf_core_place.specs.declared.part.Part.{Part}
use Rattle.cf_core_place.specs.Routes.{route_of, kept_to}
use Rattle.cf_core_place.proofs.PartLaws.{same-some}
use Rattle.cf_core_objects.specs.declared.answer.Stop.{Stop}
use Rattle.cf_core_objects.specs.declared.answer.Value.{Value as Given}
use Rattle.cf_core_objects.specs.declared.answer.Value.TheVariants as given
use Rattle.cf_core_objects.specs.declared.site.Site.{Site}
use Rattle.cf_core_objects.specs.declared.site.Sort.{Sort}
use Rattle.cf_core_objects.specs.declared.site.Sort.TheVariants as sort
use Rattle.cf_core_objects.specs.Answer.{Told}
use Rattle.cf_core_objects.specs.Site.{IsSite, array_sort}
use Rattle.cf_core_objects.specs.Store.{value_of, as_number}
use Rattle.cf_core_objects.specs.Then.{◌▷◌}
use Rattle.cf_core_objects.proofs.SiteLaws.{array-as}
use Rattle.cf_core_store.specs.declared.compared.Both.{Both}
use Rattle.cf_core_store.specs.Compared as asked
use Rattle.cf_core_store.specs.Compared.{AreSites, first_of, less_of}

pub told-number : (r : Result ℤ Stop) (answer : Result Given Stop) (s : State) (w : World) (x : Ran (Did Value)) → answer ≡ as_number r → Told Number r s w x → Told value_of answer s w x
told-number r answer s w x is h = subst (λ (a : Result Given Stop). Told value_of a s w x) (sym is) (at r h)
  where
    at : (r : Result ℤ Stop) → Told Number r s w x → Told value_of (as_number r) s w x
    at (Ok z) h = h
    at (Err e) h = h

-- Moving a pointer.
up-none : (n : ℕ) (o : Option ℕ) (s : State) (w : World) → kept_to n o ≡ None → up_to n o s w ≡ Stops (Undefined outside_array) w.trace
up-none n None s w h = refl
up-none n (Some i) s w h = by (nat_le i n) h
  where
    by : (b : Bool) → (if b then Some i else None) ≡ None → (need b outside_array >> gives i) s w ≡ Stops (Undefined outside_array) w.trace
    by true h = absurd (cc)
    by false h = refl

up-some : (n : ℕ) (o : Option ℕ) (k : ℕ) (s : State) (w : World) → kept_to n o ≡ Some k → up_to n o s w ≡ Went (Gives k s) w
up-some n None k s w h = absurd (cc)
up-some n (Some i) k s w h = by (nat_le i n) h
  where
    by : (b : Bool) → (if b then Some i else None) ≡ Some k → (need b outside_array >> gives i) s w ≡ Went (Gives k s) w
    by true h = ap (λ j. Went (Gives j s) w) (same-some i k h)
    by false h = absurd (cc)

-- a place that is moved, of which it is told whether its object has ended
abbrev moving : Bool → State → Place → ℤ → World → Ran (Did Value)
moving g s p z w =
    (need (not g) not_alive
    >> (up_to (bound_of [] (s.object p.object).type (element_of p.route)) (further (element_of p.route).index z)
    >>= (λ k. gives (At (record p { route = pointers.route_of (element_of p.route) k }))))) s w

pub moved-dead : (s : State) (p : Place) (site : Site) (z : ℤ) (w : World) → IsSite (s.object p.object) p.route site → site.is_gone ≡ true
    → pointers.moved_place [] p z s w ≡ Stops (Undefined not_alive) w.trace
moved-dead s p site z w is gone = ap (λ g. moving g s p z w) (is.is_gone ∙ gone)

moved-as : (s : State) (p : Place) (site : Site) (i : ℕ) (z : ℤ) (w : World) → IsSite (s.object p.object) p.route site → site.is_gone ≡ false → (element_of p.route).index ≡ i
    → pointers.moved_place [] p z s w ≡ (up_to site.bound (further i z) s w ▷ (λ k. gives (At (record p { route = pointers.route_of (element_of p.route) k }))))
moved-as s p site i z w is alive index =
    ap (λ g. moving g s p z w) (is.is_gone ∙ alive)
    ∙ ap (λ n. up_to n (further (element_of p.route).index z) s w ▷ (λ k. gives (At (record p { route = pointers.route_of (element_of p.route) k })))) is.bound
    ∙ ap (λ j. up_to site.bound (further j z) s w ▷ (λ k. gives (At (record p { route = pointers.route_of (element_of p.route) k })))) index

pub moved-none : (s : State) (p : Place) (site : Site) (i : ℕ) (z : ℤ) (w : World) → IsSite (s.object p.object) p.route site → site.is_gone ≡ false → (element_of p.route).index ≡ i
    → kept_to site.bound (further i z) ≡ None → pointers.moved_place [] p z s w ≡ Stops (Undefined outside_array) w.trace
moved-none s p site i z w is alive index h =
    moved-as s p site i z w is alive index
    ∙ ap (λ x. x ▷ (λ k. gives (At (record p { route = pointers.route_of (element_of p.route) k })))) (up-none site.bound (further i z) s w h)

pub moved-some : (s : State) (p : Place) (site : Site) (i : ℕ) (z : ℤ) (k : ℕ) (q : Part) (w : World) → IsSite (s.object p.object) p.route site → site.is_gone ≡ false → (element_of p.route).index ≡ i
    → kept_to site.bound (further i z) ≡ Some k → route_of q ≡ pointers.route_of (element_of p.route) k
    → pointers.moved_place [] p z s w ≡ Went (Gives (At (record { object = p.object; route = route_of q })) s) w
moved-some s p site i z k q w is alive index h part =
    moved-as s p site i z w is alive index
    ∙ ap (λ x. x ▷ (λ k. gives (At (record p { route = pointers.route_of (element_of p.route) k })))) (up-some site.bound (further i z) k s w h)
    ∙ ap (λ (π : Route). Went (Gives (At (record { object = p.object; route = π })) s) w) (sym part)

pub minus-as : (z n : ℤ) → n ≡ neg_ℤ z → Number n ≡ scalars.minus (Number z)
minus-as (pos zero) n h = ap Number h
minus-as (pos (suc m)) n h = ap Number h
minus-as (negsuc m) n h = ap Number h

-- The first element of an array.
pub decay-as : (s : State) (p : Place) (site : Site) (w : World) → IsSite (s.object p.object) p.route site → array_sort site.sort ≡ true
    → scalars.decayed [] (At p) s w ≡ first_of site.is_inside p s w
decay-as s p site w is h =
    ap (λ b. (valid b >> ((λ s w. need (is_inside [] (s.object p.object).type p.route) outside_array s w) >> gives (At (inner (item 0) p)))) s w)
    (array-as (type_at [] (s.object p.object).type p.route) ∙ ap array_sort is.sort ∙ h)
    ∙ ap (λ b. (need b outside_array >> gives (At (inner (item 0) p))) s w) is.is_inside

pub no-decay : (s : State) (p : Place) (site : Site) (w : World) → IsSite (s.object p.object) p.route site → array_sort site.sort ≡ false → scalars.decayed [] (At p) s w ≡ Went Malformed w
no-decay s p site w is h =
    ap (λ b. (valid b >> ((λ s w. need (is_inside [] (s.object p.object).type p.route) outside_array s w) >> gives (At (inner (item 0) p)))) s w)
    (array-as (type_at [] (s.object p.object).type p.route) ∙ ap array_sort is.sort ∙ h)

-- Two places.
pub distance-as : (s : State) (p q : Place) (both : Both) (w : World) → AreSites s p q both → pointers.difference_of (At p) (At q) s w ≡ asked.distance both.first.is_gone both.second.is_gone p q s w
distance-as s p q both w is =
    ap (λ b. asked.distance b (s.object q.object).is_gone p q s w) is.first.is_gone
    ∙ ap (λ b. asked.distance both.first.is_gone b p q s w) is.second.is_gone

pub order-as : (o : PointerOperator) (s : State) (p q : Place) (both : Both) (w : World) → AreSites s p q both
    → pointers.ordered [] (less_of o) (At p) (At q) s w ≡ asked.order o both.first.is_gone both.second.is_gone p q s w
order-as o s p q both w is =
    ap (λ b. asked.order o b (is_dead [] (s.object q.object) q.route) p q s w) is.first.is_dead
    ∙ ap (λ b. asked.order o both.first.is_gone b p q s w) is.second.is_dead

pub equality-as : (s : State) (p q : Place) (both : Both) (w : World) → AreSites s p q both → pointers.equal_values [] (At p) (At q) s w ≡ asked.equality both.first both.second p q s w
equality-as s p q both w is =
    let go : Bool → Bool → Bool → Bool → Ran (Did Bool) = λ g h i j. (need (not g && not h) compared >> (need (asked.comparable i j p q) compared >> gives (place_eq p q))) s w in
    ap (λ g. go g (is_dead [] (s.object q.object) q.route) (is_inside [] (s.object p.object).type p.route) (is_inside [] (s.object q.object).type q.route)) is.first.is_dead
    ∙ ap (λ h. go both.first.is_gone h (is_inside [] (s.object p.object).type p.route) (is_inside [] (s.object q.object).type q.route)) is.second.is_dead
    ∙ ap (λ i. go both.first.is_gone both.second.is_gone i (is_inside [] (s.object q.object).type q.route)) is.first.is_inside
    ∙ ap (λ j. go both.first.is_gone both.second.is_gone both.first.is_inside j) is.second.is_inside

-- A pointer and an integer are added as they are indexed.
pub sum-as : (x y : Given) (s : State) (w : World) → pointers.sum_of [] (value_of x) (value_of y) s w ≡ scalars.indexed [] (value_of x) (value_of y) s w
sum-as given.Nothing given.Nothing s w = refl
sum-as given.Nothing given.Missing s w = refl
sum-as given.Nothing given.Built s w = refl
sum-as given.Nothing (given.Number b) s w = refl
sum-as given.Nothing given.Null s w = refl
sum-as given.Nothing (given.At b) s w = refl
sum-as given.Nothing (given.Code b) s w = refl
sum-as given.Missing given.Nothing s w = refl
sum-as given.Missing given.Missing s w = refl
sum-as given.Missing given.Built s w = refl
sum-as given.Missing (given.Number b) s w = refl
sum-as given.Missing given.Null s w = refl
sum-as given.Missing (given.At b) s w = refl
sum-as given.Missing (given.Code b) s w = refl
sum-as given.Built given.Nothing s w = refl
sum-as given.Built given.Missing s w = refl
sum-as given.Built given.Built s w = refl
sum-as given.Built (given.Number b) s w = refl
sum-as given.Built given.Null s w = refl
sum-as given.Built (given.At b) s w = refl
sum-as given.Built (given.Code b) s w = refl
sum-as (given.Number a) given.Nothing s w = refl
sum-as (given.Number a) given.Missing s w = refl
sum-as (given.Number a) given.Built s w = refl
sum-as (given.Number a) (given.Number b) s w = refl
sum-as (given.Number a) given.Null s w = refl
sum-as (given.Number a) (given.At b) s w = refl
sum-as (given.Number a) (given.Code b) s w = refl
sum-as given.Null given.Nothing s w = refl
sum-as given.Null given.Missing s w = refl
sum-as given.Null given.Built s w = refl
sum-as given.Null (given.Number b) s w = refl
sum-as given.Null given.Null s w = refl
sum-as given.Null (given.At b) s w = refl
sum-as given.Null (given.Code b) s w = refl
sum-as (given.At a) given.Nothing s w = refl
sum-as (given.At a) given.Missing s w = refl
sum-as (given.At a) given.Built s w = refl
sum-as (given.At a) (given.Number b) s w = refl
sum-as (given.At a) given.Null s w = refl
sum-as (given.At a) (given.At b) s w = refl
sum-as (given.At a) (given.Code b) s w = refl
sum-as (given.Code a) given.Nothing s w = refl
sum-as (given.Code a) given.Missing s w = refl
sum-as (given.Code a) given.Built s w = refl
sum-as (given.Code a) (given.Number b) s w = refl
sum-as (given.Code a) given.Null s w = refl
sum-as (given.Code a) (given.At b) s w = refl
sum-as (given.Code a) (given.Code b) s w = refl

-- A value that is no number.
pub indexed-other : (x : Given) (v : Value) (s : State) (w : World) → ((z : ℤ) → x ≡ given.Number z → ⊥) → scalars.indexed [] (value_of x) v s w ≡ scalars.moved_by [] (value_of x) v s w
indexed-other given.Nothing v s w h = refl
indexed-other given.Missing v s w h = refl
indexed-other given.Built v s w h = refl
indexed-other (given.Number z) v s w h = absurd (h z refl)
indexed-other given.Null v s w h = refl
indexed-other (given.At p) v s w h = refl
indexed-other (given.Code f) v s w h = refl

pub minus-other : (x : Given) → ((z : ℤ) → x ≡ given.Number z → ⊥) → value_of x ≡ scalars.minus (value_of x)
minus-other given.Nothing h = refl
minus-other given.Missing h = refl
minus-other given.Built h = refl
minus-other (given.Number z) h = absurd (h z refl)
minus-other given.Null h = refl
minus-other (given.At p) h = refl
minus-other (given.Code f) h = refl

pub not-array : (so : Sort) → ((n : ℕ) → so ≡ sort.Array n → ⊥) → array_sort so ≡ false
not-array sort.Void h = refl
not-array sort.Number h = refl
not-array sort.Pointer h = refl
not-array sort.Reference h = refl
not-array (sort.Array n) h = absurd (h n refl)
