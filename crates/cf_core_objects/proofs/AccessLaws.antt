-- Reading and writing as they are where it is told what is at the place.
use Rattle.std.proofs.Common.{◌≡◌, ◌∙◌, Bool, true, false, not, [], Option, Some, Result, Ok, Err, refl, ap}
use Rattle.cf_base.specs.World.{World, Ran, Went}
use Rattle.cf_core.specs.Places.{Place, type_at}
use Rattle.cf_core.specs.Store.{Value, At, hold, is_usable, is_constant_place}
use Rattle.cf_core.specs.Run.{State, Did, Gives, Act, ◌>>=◌, ◌>>◌, gives, malformed, undefined, state, when, need, valid, some_or, object_changed, not_alive, outside_array, no_value, write_to_const}
use Rattle.cf_core.specs.Access.{used, first_value, read_place, write_place, use_place, followed, bound_to}
use Rattle.cf_core.specs.Objects.{settle}
use Rattle.cf_core_objects.specs.declared.answer.Stop.{Stop}
use Rattle.cf_core_objects.specs.declared.answer.Value.{Value as Given}
use Rattle.cf_core_objects.specs.declared.answer.Value.TheVariants as given
use Rattle.cf_core_objects.specs.declared.site.Site.{Site}
use Rattle.cf_core_objects.specs.declared.site.Sort.{Sort}
use Rattle.cf_core_objects.specs.declared.site.Sort.TheVariants as sort
use Rattle.cf_core_objects.specs.Log.{value_of}
use Rattle.cf_core_objects.specs.Acts.{readable, writable, value_held}
use Rattle.cf_core_objects.specs.Answer.{Told, Stopped}
use Rattle.cf_core_objects.specs.Named.{settled_value}
use Rattle.cf_core_objects.specs.Site.{IsSite, scalar_sort, reference_sort}
use Rattle.cf_core_objects.specs.Then.{◌▷◌}
use Rattle.cf_core_objects.proofs.SiteLaws.{scalar-as, reference-as}
use Rattle.cf_core_objects.proofs.ThenLaws.{told-err, told-ok, stops-on}

-- An answer on the first part of an act leads to one on the whole.
pub err-then : {A B C : Type 0} (view : A → B) (r : Result A Stop) (e : Stop) (s t : State) (w : World) (act : Act B) (go : B → Act C) → r ≡ Err e → Told view r t w (act s w) → Stopped e w ((act >>= go) s w)
err-then view r e s t w act go is h = stops-on e (act s w) go w (told-err view r e t w (act s w) is h)

pub ok-then : {A B C : Type 0} (view : A → B) (r : Result A Stop) (a : A) (s t : State) (w : World) (act : Act B) (go : B → Act C) → r ≡ Ok a → Told view r t w (act s w) → (act >>= go) s w ≡ go (view a) t w
ok-then {A} {B} {C} view r a s t w act go is h = ap (λ (x : Ran (Did B)). x ▷ go) (told-ok view r a t w (act s w) is h)

module _ (p : Place) (s : State) (w : World) where
  -- the value of a place that is read
  abbrev last : Act Value
  last = state >>= (λ s. some_or ((s.object p.object).held p.route) (undefined no_value))

  read-used : (v : Option Value) (i u : Bool) → (s.object p.object).held p.route ≡ v → ((need i outside_array >> need u not_alive) >> last) s w ≡ ((need i outside_array >> need u not_alive) >> value_held v) s w
  read-used v true true h = ap (λ o. some_or o (undefined no_value) s w) h
  read-used v true false h = refl
  read-used v false u h = refl

  read-by : (site : Site) (v : Option Value) (b : Bool) → IsSite (s.object p.object) p.route site → (s.object p.object).held p.route ≡ v
      → (valid b >> (use_place [] p >> last)) s w ≡ ((valid b >> (need site.is_inside outside_array >> need (not site.is_gone) not_alive)) >> value_held v) s w
  read-by site v false is h = refl
  read-by site v true is h =
      ap (λ b. ((need b outside_array >> need (is_usable [] (s.object p.object) p.route) not_alive) >> last) s w) is.is_inside
      ∙ ap (λ b. ((need site.is_inside outside_array >> need b not_alive) >> last) s w) is.is_usable
      ∙ read-used v site.is_inside (not site.is_gone) h

  pub read-as : (site : Site) (v : Option Value) → IsSite (s.object p.object) p.route site → (s.object p.object).held p.route ≡ v → read_place [] p s w ≡ (readable site >> value_held v) s w
  read-as site v is h =
      ap (λ b. (valid b >> (use_place [] p >> last)) s w) (scalar-as (type_at [] (s.object p.object).type p.route) ∙ ap scalar_sort is.sort)
      ∙ read-by site v (scalar_sort site.sort) is h

  -- what is written to a place
  abbrev change : Value → Act (Unit {0})
  change v = state >>= (λ s. need (not (is_constant_place [] (s.object p.object) p.route)) write_to_const >> object_changed p.object (hold p.route (Some v)))

  write-used : (v : Value) (c i u : Bool) → is_constant_place [] (s.object p.object) p.route ≡ c
      → ((need i outside_array >> need u not_alive) >> change v) s w ≡ (((need i outside_array >> need u not_alive) >> need (not c) write_to_const) >> first_value p v) s w
  write-used v c true true h = ap (λ b. (need (not b) write_to_const >> first_value p v) s w) h
  write-used v c true false h = refl
  write-used v c false u h = refl

  write-by : (site : Site) (v : Value) (b : Bool) → IsSite (s.object p.object) p.route site
      → (valid b >> (use_place [] p >> change v)) s w
      ≡ (((valid b >> (need site.is_inside outside_array >> need (not site.is_gone) not_alive)) >> need (not site.is_constant) write_to_const) >> first_value p v) s w
  write-by site v false is = refl
  write-by site v true is =
      ap (λ b. ((need b outside_array >> need (is_usable [] (s.object p.object) p.route) not_alive) >> change v) s w) is.is_inside
      ∙ ap (λ b. ((need site.is_inside outside_array >> need b not_alive) >> change v) s w) is.is_usable
      ∙ write-used v site.is_constant site.is_inside (not site.is_gone) is.is_constant

  pub write-as : (site : Site) (v : Value) → IsSite (s.object p.object) p.route site → write_place [] p v s w ≡ (writable site >> first_value p v) s w
  write-as site v is =
      ap (λ b. (valid b >> (use_place [] p >> change v)) s w) (scalar-as (type_at [] (s.object p.object).type p.route) ∙ ap scalar_sort is.sort)
      ∙ write-by site v (scalar_sort site.sort) is

  pub settle-as : (site : Site) (v : Value) → IsSite (s.object p.object) p.route site → settled_value p v s w ≡ when (scalar_sort site.sort) (used v >>= first_value p) malformed s w
  settle-as site v is = ap (λ b. when b (used v >>= first_value p) malformed s w) (scalar-as (type_at [] (s.object p.object).type p.route) ∙ ap scalar_sort is.sort)

  pub followed-as : (site : Site) → IsSite (s.object p.object) p.route site → followed [] p s w ≡ when (reference_sort site.sort) (read_place [] p >>= bound_to) (gives (At p)) s w
  followed-as site is = ap (λ b. when b (read_place [] p >>= bound_to) (gives (At p)) s w) (reference-as (type_at [] (s.object p.object).type p.route) ∙ ap reference_sort is.sort)

pub settle-not-built : (v : Given) → (v ≡ given.Built → ⊥) → (p : Place) (s : State) (w : World) → settled_value p (value_of v) s w ≡ settle [] p (value_of v) s w
settle-not-built given.Nothing h p s w = refl
settle-not-built given.Missing h p s w = refl
settle-not-built given.Built h p s w = absurd (h refl)
settle-not-built (given.Number z) h p s w = refl
settle-not-built given.Null h p s w = refl
settle-not-built (given.At q) h p s w = refl
settle-not-built (given.Code f) h p s w = refl

-- a reference that is bound to no null pointer
pub bound-not-null : (v : Given) (s : State) (w : World) → (v ≡ given.Null → ⊥) → bound_to (value_of v) s w ≡ Went (Gives (value_of v) s) w
bound-not-null given.Nothing s w h = refl
bound-not-null given.Missing s w h = refl
bound-not-null given.Built s w h = refl
bound-not-null (given.Number z) s w h = refl
bound-not-null given.Null s w h = absurd (h refl)
bound-not-null (given.At q) s w h = refl
bound-not-null (given.Code f) s w h = refl

pub not-reference : (so : Sort) → (so ≡ sort.Reference → ⊥) → reference_sort so ≡ false
not-reference sort.Void h = refl
not-reference sort.Number h = refl
not-reference sort.Pointer h = refl
not-reference sort.Reference h = absurd (h refl)
not-reference (sort.Array n) h = refl
