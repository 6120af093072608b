-- What the newest entry of a log says of a part is what the part holds, and what replaces it is what the part holds then.
use Rattle.std.proofs.Common.{◌≡◌, ◌∙◌, ℕ, zero, suc, ◌<◌, ◌≤◌, ◌-◌, take, get_or, drop-cons, Bool, true, false, ◌&&◌, ◌==◌, if◌then◌else◌, List, [], ◌∷◌, ◌++◌, length, drop, slice_get, slice_set, Option, Some, None, refl, ap, sym, subst, arith}
use Rattle.std.specs.Prelude.{◌||◌}
use Rattle.std.proofs.lemmas.Bool.{eqb-true}
use Rattle.std.proofs.lemmas.Option.{slice_get-get_or}
use Rattle.cf_core_place.proofs.PartLaws.{same-some}
use Rattle.cf_core.specs.Types.{SourceType}
use Rattle.cf_core.specs.Core.{item, past, field, within}
use Rattle.cf_core.specs.Places.{Route, route_eq, beyond, is_beyond, type_at}
use Rattle.cf_core.specs.Store.{Value, from_part, zero_of}
use Rattle.cf_core_place.specs.declared.part.Part.{Part}
use Rattle.cf_core_place.specs.declared.part.Part.TheVariants as part
use Rattle.cf_core_place.specs.Routes.{route_of}
use Rattle.cf_core_objects.specs.declared.answer.Value.{Value as Given}
use Rattle.cf_core_objects.specs.declared.object.Held.{Held}
use Rattle.cf_core_objects.specs.declared.object.Held.TheVariants as held
use Rattle.cf_core_objects.specs.Log.{value_of, noted, logged, touches, Untouched, IsNewest, IsValue}

pub logged-push : (t : SourceType) (old : Route → Option Value) (log : List Held) (entry : Held) → logged t old (log ++ entry ∷ []) ≡ noted t entry (logged t old log)
logged-push t old [] entry = refl
logged-push t old (x ∷ log) entry = logged-push t (noted t x old) log entry

both : (x y : Bool) → (x && y) ≡ true → (x ≡ true) × (y ≡ true)
both true y h = (refl, h)
both false y h = absurd (cc)

neither : (x y : Bool) → (x || y) ≡ false → (x ≡ false) × (y ≡ false)
neither true y h = absurd (cc)
neither false y h = (refl, h)

-- a route that lies in another leads from there, and no other does
pub not-beyond : (π ρ : Route) → is_beyond π ρ ≡ false → beyond π ρ ≡ None
not-beyond [] [] h = absurd (cc)
not-beyond [] (s ∷ ρ) h = refl
not-beyond (s ∷ π) ρ h = let e = neither (route_eq (s ∷ π) ρ) (is_beyond π ρ) h in rw e.0 (rw (not-beyond π ρ e.1) refl)

pub same-route : (π : Route) (q : Part) → route_eq π (route_of q) ≡ true → π ≡ route_of q
same-route [] part.Whole h = refl
same-route (s ∷ π) part.Whole h = absurd (cc)
same-route [] part.Past h = absurd (cc)
same-route (past ∷ []) part.Past h = refl
same-route (past ∷ (s ∷ π)) part.Past h = absurd (cc)
same-route (item i ∷ π) part.Past h = absurd (cc)
same-route (field i ∷ π) part.Past h = absurd (cc)
same-route (within w ∷ π) part.Past h = absurd (cc)
same-route [] (part.Item i) h = absurd (cc)
same-route (item j ∷ []) (part.Item i) h = ap (λ k. item k ∷ []) (eqb-true j i (both (j == i) true h).0)
same-route (item j ∷ (s ∷ π)) (part.Item i) h = absurd (let e = (both (j == i) false h).1 in cc)
same-route (past ∷ π) (part.Item i) h = absurd (cc)
same-route (field j ∷ π) (part.Item i) h = absurd (cc)
same-route (within w ∷ π) (part.Item i) h = absurd (cc)
same-route [] (part.Inner i j) h = absurd (cc)
same-route (past ∷ π) (part.Inner i j) h = absurd (cc)
same-route (field k ∷ π) (part.Inner i j) h = absurd (cc)
same-route (within w ∷ π) (part.Inner i j) h = absurd (cc)
same-route (item k ∷ π) (part.Inner i j) h = let e = both (k == j) (route_eq π (item i ∷ [])) h in
    ap (λ k. item k ∷ π) (eqb-true k j e.0) ∙ ap (λ ρ. item j ∷ ρ) (same-route π (part.Item i) e.1)

pub record LiesBeyond (π : Route) (q : Part) : Type 0 where
  pub rest : Route
  pub is : beyond π (route_of q) ≡ Some rest
  pub whole : rest ++ route_of q ≡ π

here : (π : Route) (q : Part) → route_eq π (route_of q) ≡ true → LiesBeyond π q
here [] q h = record { rest = []; is = rw h refl; whole = sym (same-route [] q h) }
here (s ∷ π) q h = record { rest = []; is = rw h refl; whole = sym (same-route (s ∷ π) q h) }

further : (s : _) (π : Route) (q : Part) → route_eq (s ∷ π) (route_of q) ≡ false → LiesBeyond π q → LiesBeyond (s ∷ π) q
further s π q h x = record { rest = s ∷ x.rest; is = rw h (rw x.is refl); whole = ap (λ ρ. s ∷ ρ) x.whole }

lies-by : (s : _) (π : Route) (q : Part) → (is_beyond π (route_of q) ≡ true → LiesBeyond π q) → (b : Bool) → route_eq (s ∷ π) (route_of q) ≡ b → (b || is_beyond π (route_of q)) ≡ true → LiesBeyond (s ∷ π) q
lies-by s π q go true e h = here (s ∷ π) q e
lies-by s π q go false e h = further s π q e (go h)

pub lies-beyond : (π : Route) (q : Part) → is_beyond π (route_of q) ≡ true → LiesBeyond π q
lies-beyond [] q h = here [] q h
lies-beyond (s ∷ π) q h = lies-by s π q (lies-beyond π q) (route_eq (s ∷ π) (route_of q)) refl h

-- what an entry says of a part that it touches, and of one that it does not
pub untouched-entry : (t : SourceType) (e : Held) (q : Part) (old : Route → Option Value) → touches e q ≡ false → noted t e old (route_of q) ≡ old (route_of q)
untouched-entry t (held.Value at v) q old h = ap (λ b. if b then Some (value_of v) else old (route_of q)) h
untouched-entry t (held.Zeros at) q old h =
    ap (λ (o : Option Route). from_part (λ r. Some (zero_of (type_at [] t (r ++ route_of at)))) o (old (route_of q))) (not-beyond (route_of q) (route_of at) h)

pub value-entry : (t : SourceType) (at : Part) (v : Given) (q : Part) (old : Route → Option Value) → touches (held.Value at v) q ≡ true → noted t (held.Value at v) old (route_of q) ≡ Some (value_of v)
value-entry t at v q old h = ap (λ b. if b then Some (value_of v) else old (route_of q)) h

pub zeros-entry : (t : SourceType) (at q : Part) (old : Route → Option Value) → touches (held.Zeros at) q ≡ true → noted t (held.Zeros at) old (route_of q) ≡ Some (zero_of (type_at [] t (route_of q)))
zeros-entry t at q old h = let x = lies-beyond (route_of q) at h in
    ap (λ (o : Option Route). from_part (λ r. Some (zero_of (type_at [] t (r ++ route_of at)))) o (old (route_of q))) x.is
    ∙ ap (λ (ρ : Route). Some (zero_of (type_at [] t ρ))) x.whole

pub untouched-log : (t : SourceType) (log : List Held) (q : Part) (old : Route → Option Value) → Untouched q log → logged t old log (route_of q) ≡ old (route_of q)
untouched-log t [] q old h = refl
untouched-log t (e ∷ log) q old h = untouched-log t log q (noted t e old) h.1 ∙ untouched-entry t e q old h.0

logged-append : (t : SourceType) (old : Route → Option Value) (older newer : List Held) → logged t old (older ++ newer) ≡ logged t (logged t old older) newer
logged-append t old [] newer = refl
logged-append t old (x ∷ older) newer = logged-append t (noted t x old) older newer

split-at : {A : Type 0} (xs : List A) (i : ℕ) (x : A) → slice_get xs i ≡ Some x → xs ≡ take i xs ++ x ∷ drop (suc i) xs
split-at [] i x h = absurd (cc)
split-at (y ∷ xs) zero x h = ap (λ z. z ∷ xs) (same-some y x h)
split-at (y ∷ xs) (suc i) x h = ap (λ l. y ∷ l) (split-at xs i x h)

set-at : {A : Type 0} (xs : List A) (i : ℕ) (x new : A) → slice_get xs i ≡ Some x → slice_set xs i new ≡ take i xs ++ new ∷ drop (suc i) xs
set-at [] i x new h = absurd (cc)
set-at (y ∷ xs) zero x new h = refl
set-at (y ∷ xs) (suc i) x new h = ap (λ l. y ∷ l) (set-at xs i x new h)

says : (t : SourceType) (old : Route → Option Value) (log : List Held) (q : Part) (i : ℕ) (e : Held) → slice_get log i ≡ Some e → Untouched q (drop (suc i) log)
    → logged t old log (route_of q) ≡ noted t e (logged t old (take i log)) (route_of q)
says t old log q i e is newer =
    ap (λ l. logged t old l (route_of q)) (split-at log i e is)
    ∙ ap (λ (f : Route → Option Value). f (route_of q)) (logged-append t old (take i log) (e ∷ drop (suc i) log))
    ∙ untouched-log t (drop (suc i) log) q (noted t e (logged t old (take i log))) newer

-- the newest entry of a part says what it holds
pub value-says : (t : SourceType) (old : Route → Option Value) (log : List Held) (q : Part) (i : ℕ) (at : Part) (v : Given) → IsNewest log q i → slice_get log i ≡ Some (held.Value at v)
    → logged t old log (route_of q) ≡ Some (value_of v)
value-says t old log q i at v x is =
    says t old log q i (held.Value at v) is x.newer
    ∙ value-entry t at v q (logged t old (take i log)) (ap (λ e. touches e q) (same-some (held.Value at v) x.entry (sym is ∙ x.is)) ∙ x.touches)

pub zeros-says : (t : SourceType) (old : Route → Option Value) (log : List Held) (q : Part) (i : ℕ) (at : Part) → IsNewest log q i → slice_get log i ≡ Some (held.Zeros at)
    → logged t old log (route_of q) ≡ Some (zero_of (type_at [] t (route_of q)))
zeros-says t old log q i at x is =
    says t old log q i (held.Zeros at) is x.newer
    ∙ zeros-entry t at q (logged t old (take i log)) (ap (λ e. touches e q) (same-some (held.Zeros at) x.entry (sym is ∙ x.is)) ∙ x.touches)

-- A value in the place of the newest one of a part is what the part holds then, and all else is as before.
noted-same : (t : SourceType) (e : Held) (new old : Route → Option Value) (π : Route) → new π ≡ old π → noted t e new π ≡ noted t e old π
noted-same t (held.Value at v) new old π h = ap (λ o. if route_eq π (route_of at) then Some (value_of v) else o) h
noted-same t (held.Zeros at) new old π h = ap (λ o. from_part (λ r. Some (zero_of (type_at [] t (r ++ route_of at)))) (beyond π (route_of at)) o) h

-- one function is another with this value at a part
abbrev IsWith : Part → Given → (Route → Option Value) → (Route → Option Value) → Type 0
IsWith q v new old = (π : Route) → new π ≡ (if route_eq π (route_of q) then Some (value_of v) else old π)

with-there : (t : SourceType) (e : Held) (q : Part) (v : Given) (new old : Route → Option Value) (π : Route) → IsWith q v new old → touches e q ≡ false → (b : Bool) → route_eq π (route_of q) ≡ b
    → noted t e new π ≡ (if b then Some (value_of v) else noted t e old π)
with-there t e q v new old π h u true is = let s = same-route π q is in
    ap (noted t e new) s ∙ untouched-entry t e q new u ∙ ap new (sym s) ∙ h π ∙ ap (λ b. if b then Some (value_of v) else old π) is
with-there t e q v new old π h u false is = noted-same t e new old π (h π ∙ ap (λ b. if b then Some (value_of v) else old π) is)

with-log : (t : SourceType) (log : List Held) (q : Part) (v : Given) (new old : Route → Option Value) → IsWith q v new old → Untouched q log → IsWith q v (logged t new log) (logged t old log)
with-log t [] q v new old h u π = h π
with-log t (e ∷ log) q v new old h u π = with-log t log q v (noted t e new) (noted t e old) (λ π. with-there t e q v new old π h u.0 (route_eq π (route_of q)) refl) u.1 π

with-two : (q at : Part) (v u : Given) (old : Route → Option Value) (π : Route) → route_of q ≡ route_of at
    → (if route_eq π (route_of q) then Some (value_of v) else old π) ≡ (if route_eq π (route_of q) then Some (value_of v) else (if route_eq π (route_of at) then Some (value_of u) else old π))
with-two q at v u old π is = by (route_eq π (route_of q)) ∙ ap (λ ρ. if route_eq π (route_of q) then Some (value_of v) else (if route_eq π ρ then Some (value_of u) else old π)) is
  where
    by : (b : Bool) → (if b then Some (value_of v) else old π) ≡ (if b then Some (value_of v) else (if b then Some (value_of u) else old π))
    by true = refl
    by false = refl

pub replaced-there : (t : SourceType) (old : Route → Option Value) (log : List Held) (q : Part) (i : ℕ) (v : Given) → IsValue log q i → (π : Route)
    → logged t old (slice_set log i (held.Value q v)) π ≡ noted t (held.Value q v) (logged t old log) π
replaced-there t old log q i v x π =
    let before = logged t old (take i log) in
    let rest = drop (suc i) log in
    ap (λ l. logged t old l π) (set-at log i (held.Value x.at x.value) (held.Value q v) x.is)
    ∙ ap (λ (f : Route → Option Value). f π) (logged-append t old (take i log) (held.Value q v ∷ rest))
    ∙ with-log t rest q v (noted t (held.Value q v) before) (noted t (held.Value x.at x.value) before)
    (λ π. with-two q x.at v x.value before π (same-route (route_of q) x.at x.same)) x.newer π
    ∙ ap (λ (f : Route → Option Value). if route_eq π (route_of q) then Some (value_of v) else f π)
    (sym (ap (logged t old) (split-at log i (held.Value x.at x.value) x.is) ∙ logged-append t old (take i log) (held.Value x.at x.value ∷ rest)))

-- The search for the newest entry, from the last one down.
pub newest-here : (log : List Held) (q : Part) (left : ℕ) (d : Held) → 0 < left → left ≤ length log → touches (get_or log (left - 1) d) q ≡ true → Untouched q (drop left log) → IsNewest log q (left - 1)
newest-here log q left d pos low t rest = record {
  entry = get_or log (left - 1) d;
  is = slice_get-get_or log (left - 1) d (omega (arith, pos, low));
  touches = t;
  newer = subst (λ k. Untouched q (drop k log)) (let h : left ≡ suc (left - 1) = omega (arith, pos) in h) rest;
}

pub newest-below : (log : List Held) (q : Part) (left : ℕ) (d : Held) → 0 < left → left ≤ length log → touches (get_or log (left - 1) d) q ≡ false → Untouched q (drop left log) → Untouched q (drop (left - 1) log)
newest-below log q left d pos low t rest =
    subst (Untouched q)
    (sym (drop-cons log (left - 1) d (omega (arith, pos, low))
    ∙ ap (λ k. get_or log (left - 1) d ∷ drop k log) (let h : suc (left - 1) ≡ left = omega (arith, pos) in h)))
    (t, rest)

pub none-behind : (log : List Held) (q : Part) → Untouched q (drop (length log) log)
none-behind [] q = tt
none-behind (e ∷ log) q = none-behind log q
