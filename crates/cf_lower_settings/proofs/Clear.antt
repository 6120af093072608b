-- What was not set before is zero: storing leaves it so elsewhere, and filling it with zeros changes nothing.
use Rattle.std.proofs.Common.{◌≡◌, ℕ, ◌+◌, ◌≤◌, ◌<◌, nat_le, Bool, true, false, ◌||◌, if◌then◌else◌, List, [], ◌∷◌, ◌++◌, Option, Some, None, refl, ap, sym, subst, ◌∙◌, ◌⊎◌, inl, inr, arith}
use Rattle.std.specs.Prelude.{option_map}
use Rattle.std.proofs.lemmas.Bool.{or_cases}
use Rattle.std.proofs.lemmas.Bool.Decides.{nat_tests}
use Rattle.cf_base.proofs.Tests.{both, all_of}
use Rattle.cf_core.specs.Types.{SourceType}
use Rattle.cf_core.specs.Classes.{Class}
use Rattle.cf_core.specs.Core.{Part as Step}
use Rattle.cf_core.specs.Places.{Route, route_eq, beyond, type_at}
use Rattle.cf_core.specs.Size.{size}
use Rattle.cf_core.specs.Store as source
use Rattle.cf_core.specs.Store.{Object, hold, hold_all, from_part, zero_of}
use Rattle.cf_core.specs.Run.{State, with_object}
use Rattle.cf_lower_layout.specs.Layout.{offset, leads}
use Rattle.cf_lower_layout.specs.Sorts.{Sort, sort_of}
use Rattle.cf_lower_layout.proofs.Parts.{same-route, front-inside}
use Rattle.cc_whole_memory.specs.Blocks.{Memory}
use Rattle.cf_lower_relate.specs.Map.{Fixed, Map, is_ended}
use Rattle.cf_lower_relate.specs.Relation.{InCells, Stands, Rel}
use Rattle.cf_lower_relate.proofs.Objects.{upd-cases, upd-same}
use Rattle.cf_lower_relate.proofs.Sorts.{bytes-some, sort-bytes}
use Rattle.cf_lower_program.specs.Alike.{Part, clear_of}
use Rattle.cf_lower_settings.specs.Set.{Clear}

-- ---- ranges

pub clear-inside : (a l b n : ℕ) (ps : List Part) → b ≤ a → a + l ≤ b + n → clear_of b n ps ≡ true → clear_of a l ps ≡ true
clear-inside a l b n [] lo hi e = refl
clear-inside a l b n (p ∷ ps) lo hi e =
    let two = both (nat_le (p.start + p.size) b || nat_le (b + n) p.start) (clear_of b n ps) e in
    all_of (nat_le (p.start + p.size) a || nat_le (a + l) p.start) (clear_of a l ps) (go (or_cases (nat_le (p.start + p.size) b) (nat_le (b + n) p.start) two.0))
    (clear-inside a l b n ps lo hi two.1)
  where
    or-left : (x y : Bool) → x ≡ true → x || y ≡ true
    or-left x y h = ap (λ c. c || y) h

    or-right : (x y : Bool) → y ≡ true → x || y ≡ true
    or-right true y h = refl
    or-right false y h = h

    go : (nat_le (p.start + p.size) b ≡ true) ⊎ (nat_le (b + n) p.start ≡ true) → nat_le (p.start + p.size) a || nat_le (a + l) p.start ≡ true
    go (inl h) = or-left (nat_le (p.start + p.size) a) (nat_le (a + l) p.start) (let t : nat_le (p.start + p.size) a ≡ true = grind (arith, nat_tests, h, lo) in t)
    go (inr h) = or-right (nat_le (p.start + p.size) a) (nat_le (a + l) p.start) (let t : nat_le (a + l) p.start ≡ true = grind (arith, nat_tests, h, hi) in t)

-- a part is not clear of itself
pub not-clear : (a l : ℕ) (p : Part) (ps : List Part) → 0 < l → p.start ≤ a → a + l ≤ p.start + p.size → clear_of a l (p ∷ ps) ≡ true → ⊥
not-clear a l p ps some lo hi e =
    let two = both (nat_le (p.start + p.size) a || nat_le (a + l) p.start) (clear_of a l ps) e in
    go (or_cases (nat_le (p.start + p.size) a) (nat_le (a + l) p.start) two.0)
  where
    go : (nat_le (p.start + p.size) a ≡ true) ⊎ (nat_le (a + l) p.start ≡ true) → ⊥
    go (inl h) = grind (arith, nat_tests, h, some, lo, hi)
    go (inr h) = grind (arith, nat_tests, h, some, lo, hi)

pub clear-rest : (a l : ℕ) (p : Part) (ps : List Part) → clear_of a l (p ∷ ps) ≡ true → clear_of a l ps ≡ true
clear-rest a l p ps e = (both (nat_le (p.start + p.size) a || nat_le (a + l) p.start) (clear_of a l ps) e).1

-- ---- what leads from one route to another

some-route : {σ τ : Route} → Some σ ≡ Some τ → σ ≡ τ
some-route e = cc

none-some : {σ : Route} → None ≡ Some σ → ⊥
none-some e = absurd (cc)

tail-some : (s : Step) (π ρ σ : Route) → ((τ : Route) → beyond π ρ ≡ Some τ → π ≡ τ ++ ρ) → beyond (s ∷ π) ρ ≡ Some σ → s ∷ π ≡ σ ++ ρ
tail-some s π ρ σ of-tail = by_test (route_eq (s ∷ π) ρ) refl
  where
    by_tail : (o : Option Route) → beyond π ρ ≡ o → option_map (λ (r : Route). s ∷ r) o ≡ Some σ → s ∷ π ≡ σ ++ ρ
    by_tail None e k = absurd (none-some k)
    by_tail (Some τ) e k = ap (λ r. s ∷ r) (of-tail τ e) ∙ ap (λ r. r ++ ρ) (some-route k)

    by_test : (b : Bool) → route_eq (s ∷ π) ρ ≡ b → beyond (s ∷ π) ρ ≡ Some σ → s ∷ π ≡ σ ++ ρ
    by_test true e = rw e (λ k. same-route (s ∷ π) ρ e ∙ ap (λ τ. τ ++ ρ) (some-route k))
    by_test false e = rw e (λ k. by_tail (beyond π ρ) refl k)

beyond-some : (π ρ σ : Route) → beyond π ρ ≡ Some σ → π ≡ σ ++ ρ
beyond-some [] ρ σ = by_test (route_eq [] ρ) refl
  where
    by_test : (b : Bool) → route_eq [] ρ ≡ b → beyond [] ρ ≡ Some σ → [] ≡ σ ++ ρ
    by_test true e = rw e (λ k. same-route [] ρ e ∙ ap (λ τ. τ ++ ρ) (some-route k))
    by_test false e = rw e (λ k. absurd (none-some k))
beyond-some (s ∷ π) ρ σ = tail-some s π ρ σ (λ τ e. beyond-some π ρ τ e)

-- ---- a value is stored

-- one more part may have been set
pub clear-more : (t : SourceType) (p : Part) (ps : List Part) (o : ℕ) (s : State) → Clear t ps o s → Clear t (p ∷ ps) o s
clear-more t p ps o s clear ρ u lead sort free = clear ρ u lead sort (clear-rest (offset [] t ρ) (size [] (type_at [] t ρ)) p ps free)

-- behind a store in a part that may have been set, what is clear of it is as it was
pub clear-stored : (t : SourceType) (p : Part) (ps : List Part) (o : ℕ) (π : Route) (v : Option source.Value) (s : State) → p.start ≤ offset [] t π
    → offset [] t π + size [] (type_at [] t π) ≤ p.start + p.size → Clear t (p ∷ ps) o s → Clear t (p ∷ ps) o (with_object o (hold π v) s)
clear-stored t p ps o π v s lo hi clear ρ u lead sort free =
    ap (λ (x : Object). x.held ρ) (upd-same o (hold π v (s.object o)) s.object) ∙ go (route_eq ρ π) refl
  where
    go : (b : Bool) → route_eq ρ π ≡ b → (if b then v else (s.object o).held ρ) ≡ Some (zero_of (type_at [] t ρ))
    go true e =
        let same = same-route ρ π e in
        let bytes = sort-bytes [] (type_at [] t ρ) u sort in
        let some = bytes-some u in
        let l : offset [] t ρ ≡ offset [] t π = ap (offset [] t) same in
        let k : size [] (type_at [] t ρ) ≡ size [] (type_at [] t π) = ap (λ ρ. size [] (type_at [] t ρ)) same in
        absurd (not-clear (offset [] t ρ) (size [] (type_at [] t ρ)) p ps (omega (arith, bytes, some)) (omega (arith, lo, l)) (omega (arith, hi, l, k)) free)
    go false e = clear ρ u lead sort free

-- ---- zeros

-- an object of which the part at a route is set to zeros
abbrev pub zeros_at : List Class → Route → Object → Object
zeros_at cs π x = hold_all π (λ r. Some (zero_of (type_at cs x.type (r ++ π)))) x

module _ (t : SourceType) (ps : List Part) (o : ℕ) (s : State) (clear : Clear t ps o s) (typed : (s.object o).type ≡ t) (π : Route)
    (free : clear_of (offset [] t π) (size [] (type_at [] t π)) ps ≡ true) where
  -- it holds what it held
  pub zeros-same : (ρ : Route) (u : Sort) → leads [] t ρ ≡ true → sort_of (type_at [] t ρ) ≡ Some u → (zeros_at [] π (s.object o)).held ρ ≡ (s.object o).held ρ
  zeros-same ρ u lead sort = go (beyond ρ π) refl
    where
      go : (x : Option Route) → beyond ρ π ≡ x
          → from_part (λ r. Some (zero_of (type_at [] (s.object o).type (r ++ π)))) x ((s.object o).held ρ) ≡ (s.object o).held ρ
      go None e = refl
      go (Some σ) e =
          let is = beyond-some ρ π σ e in
          let within = front-inside [] t σ π (subst (λ ρ. leads [] t ρ ≡ true) is lead) in
          let start : offset [] t π ≤ offset [] t ρ = subst (λ ρ. offset [] t π ≤ offset [] t ρ) (sym is) within.start in
          let end : offset [] t ρ + size [] (type_at [] t ρ) ≤ offset [] t π + size [] (type_at [] t π) =
          subst (λ ρ. offset [] t ρ + size [] (type_at [] t ρ) ≤ offset [] t π + size [] (type_at [] t π)) (sym is) within.end in
          ap (λ u. Some (zero_of (type_at [] u (σ ++ π)))) typed ∙ ap (λ ρ. Some (zero_of (type_at [] t ρ))) (sym is)
          ∙ sym (clear ρ u lead sort (clear-inside (offset [] t ρ) (size [] (type_at [] t ρ)) (offset [] t π) (size [] (type_at [] t π)) ps start end free))

  pub clear-zeros : Clear t ps o (with_object o (zeros_at [] π) s)
  clear-zeros ρ u lead sort e =
      ap (λ (x : Object). x.held ρ) (upd-same o (zeros_at [] π (s.object o)) s.object) ∙ zeros-same ρ u lead sort ∙ clear ρ u lead sort e

  -- and stands as it did
  pub rel-zeros : (K : Fixed) (F : Map) (m : Memory) → K.classes ≡ [] → F.type o ≡ t → o < F.count → is_ended (F.stage o) ≡ false → Rel K F s m
      → Rel K F (with_object o (zeros_at [] π) s) m
  rel-zeros K F m none is known live r = record {
    count = r.count;
    type = λ p lt. upd-cases (λ (z : Object). z.type ≡ F.type p) o p y s.object (λ e. r.type o known ∙ ap F.type (sym e)) (λ ne. r.type p lt);
    laid = r.laid;
    gone = λ p lt. upd-cases (λ (z : Object). z.is_gone ≡ is_ended (F.stage p)) o p y s.object
        (λ e. r.gone o known ∙ ap (λ q. is_ended (F.stage q)) (sym e)) (λ ne. r.gone p lt);
    stands = λ p lt e. upd-cases (λ (z : Object). Stands K F p z m) o p y s.object (λ same. subst (λ q. Stands K F q y m) (sym same) here) (λ ne. r.stands p lt e);
    below = r.below;
    apart = r.apart;
  }
    where
      y : Object
      y = zeros_at [] π (s.object o)

      whole : Stands K F o (s.object o) m
      whole = r.stands o known live

      cells : InCells K F y (F.base o) whole.block.cells
      cells ρ a v lead sort held =
          let route : leads [] t ρ ≡ true = ap (λ cs. leads cs t ρ) (sym none) ∙ ap (λ u. leads K.classes u ρ) (sym typed) ∙ lead in
          let type : type_at K.classes (s.object o).type ρ ≡ type_at [] t ρ = ap (λ u. type_at K.classes u ρ) typed ∙ ap (λ cs. type_at cs t ρ) none in
          whole.cells ρ a v lead sort (sym (zeros-same ρ a route (ap sort_of (sym type) ∙ sort)) ∙ held)

      here : Stands K F o y m
      here = record { block = whole.block; there = whole.there; size = whole.size; cells = cells }
