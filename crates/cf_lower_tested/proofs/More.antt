-- What fits by the names and types of a function's actions fits where these names and literals are there; and so do all statements that are in place by it.
use Rattle.std.proofs.Common.{◌≡◌, ℕ, nat_lt, Bool, true, false, ◌&&◌, List, [], ◌∷◌, ◌++◌, refl}
use Rattle.cf_base.proofs.Tests.{both, all_of}
use Rattle.cf_core.specs.Types.{Name, SourceType}
use Rattle.cf_plain.specs.Plain as plain
use Rattle.cf_plain.specs.Plain.{Register, Action, Plain, Plains, act, set, branch, loop, switch, case_label, default_label, leave, continue, give, nothing, more}
use Rattle.cf_plain.specs.Named.{actions, all_actions}
use Rattle.cf_plain.specs.Valid.{labels_differ}
use Rattle.cf_lower.specs.Kept.{Keeping, Locals, untouched, after}
use Rattle.cf_lower_place.specs.View.{View}
use Rattle.cf_lower_place.specs.Leaf.{may_set, may_do, is_leaf}
use Rattle.cf_lower_place.specs.InPlace.{is_number, switches, in_place, all_in_place, items_in_place}

-- ---- of all actions

abbrev pub Every : (Action → Type 0) → List Action → Type 0
Every P [] = Unit {0}
Every P (a ∷ os) = P a × Every P os

pub every-left : (P : Action → Type 0) (os bs : List Action) → Every P (os ++ bs) → Every P os
every-left P [] bs h = tt
every-left P (a ∷ os) bs h = (h.0, every-left P os bs h.1)

pub every-right : (P : Action → Type 0) (os bs : List Action) → Every P (os ++ bs) → Every P bs
every-right P [] bs h = h
every-right P (a ∷ os) bs h = every-right P os bs h.1

pub every-both : (P Q : Action → Type 0) (os : List Action) → Every P os → Every Q os → Every (λ a. P a × Q a) os
every-both P Q [] h k = tt
every-both P Q (a ∷ os) h k = ((h.0, k.0), every-both P Q os h.1 k.1)

-- ---- leaves

module _ (v : View) (texts : ℕ → List ℕ → Bool) (names : Name → SourceType → Bool) where
  abbrev w : View
  w = record v { texts = texts; names = names }

  -- what the action names is there too
  abbrev pub MoreAt : Action → Type 0
  MoreAt (plain.text j bytes) = texts j bytes ≡ true
  MoreAt (plain.function name t) = v.names name t ≡ true → names name t ≡ true
  MoreAt a = Unit {0}

  module _ (h : Keeping) where
    set-more : (a : Action) → MoreAt a → may_set v h a ≡ true → may_set w h a ≡ true
    set-more (plain.text j bytes) m e = m
    set-more (plain.function name t) m e = m e
    set-more a m e = e

    do-more : (a : Action) → MoreAt a → may_do v h a ≡ true → may_do w h a ≡ true
    do-more (plain.text j bytes) m e = m
    do-more (plain.function name t) m e = m e
    do-more a m e = e

    pub leaf-more : (s : Plain) → Every MoreAt (actions s) → is_leaf v h s ≡ true → is_leaf w h s ≡ true
    leaf-more (set r a) m e =
        let two = both (nat_lt r v.bound) (may_set v h a) e in
        all_of (nat_lt r v.bound) (may_set w h a) two.0 (set-more a m.0 two.1)
    leaf-more (act a) m e = do-more a m.0 e
    leaf-more (give r) m e = e
    leaf-more s m e = absurd (let k = e in cc)

-- ---- statements

module _ (locals : Locals) (one two : Keeping → Plain → Bool) (P : Action → Type 0)
    (fits : (h : Keeping) (s : Plain) → Every P (actions s) → one h s ≡ true → two h s ≡ true) where
  mutual
    in-place-more : (b c : Bool) (s : Plain) (h : Keeping) → Every P (actions s) → in_place locals one b c s h ≡ true → in_place locals two b c s h ≡ true
    in-place-more b c (act a) h m e = fits h (act a) m e
    in-place-more b c (set r a) h m e = fits h (set r a) m e
    in-place-more b c (branch r ss ts) h m e =
        let first = both (is_number (h r)) (all_in_place locals one b c ss h && all_in_place locals one b c ts h) e in
        let rest = both (all_in_place locals one b c ss h) (all_in_place locals one b c ts h) first.1 in
        all_of (is_number (h r)) (all_in_place locals two b c ss h && all_in_place locals two b c ts h) first.0
        (all_of (all_in_place locals two b c ss h) (all_in_place locals two b c ts h)
        (all-more b c ss h (every-left P (all_actions ss) (all_actions ts) m) rest.0) (all-more b c ts h (every-right P (all_actions ss) (all_actions ts) m) rest.1))
    in-place-more b c (loop ss ts) h m e =
        let k = after locals (loop ss ts) h in
        let rest = both (all_in_place locals one true true ss k) (all_in_place locals one true false ts k) e in
        all_of (all_in_place locals two true true ss k) (all_in_place locals two true false ts k)
        (all-more true true ss k (every-left P (all_actions ss) (all_actions ts) m) rest.0)
        (all-more true false ts k (every-right P (all_actions ss) (all_actions ts) m) rest.1)
    in-place-more b c (switch r ss) h m e =
        let k = untouched locals h ss in
        let first = both (switches (h r) ss) (labels_differ [] ss && items_in_place locals one c ss k k) e in
        let rest = both (labels_differ [] ss) (items_in_place locals one c ss k k) first.1 in
        all_of (switches (h r) ss) (labels_differ [] ss && items_in_place locals two c ss k k) first.0
        (all_of (labels_differ [] ss) (items_in_place locals two c ss k k) rest.0 (items-more c ss k k m rest.1))
    in-place-more b c leave h m e = e
    in-place-more b c continue h m e = e
    in-place-more b c (give r) h m e = fits h (give r) m e
    in-place-more b c s h m e = absurd (let k = e in cc)

    pub all-more : (b c : Bool) (ss : Plains) (h : Keeping) → Every P (all_actions ss) → all_in_place locals one b c ss h ≡ true → all_in_place locals two b c ss h ≡ true
    all-more b c nothing h m e = refl
    all-more b c (more s ss) h m e =
        let rest = both (in_place locals one b c s h) (all_in_place locals one b c ss (after locals s h)) e in
        all_of (in_place locals two b c s h) (all_in_place locals two b c ss (after locals s h))
        (in-place-more b c s h (every-left P (actions s) (all_actions ss) m) rest.0)
        (all-more b c ss (after locals s h) (every-right P (actions s) (all_actions ss) m) rest.1)

    items-more : (c : Bool) (ss : Plains) (k h : Keeping) → Every P (all_actions ss) → items_in_place locals one c ss k h ≡ true → items_in_place locals two c ss k h ≡ true
    items-more c nothing k h m e = refl
    items-more c (more (case_label y) ss) k h m e = items-more c ss k k m e
    items-more c (more default_label ss) k h m e = items-more c ss k k m e
    items-more c (more s ss) k h m e =
        let rest = both (in_place locals one true c s h) (items_in_place locals one c ss k (after locals s h)) e in
        all_of (in_place locals two true c s h) (items_in_place locals two c ss k (after locals s h))
        (in-place-more true c s h (every-left P (actions s) (all_actions ss) m) rest.0)
        (items-more c ss k (after locals s h) (every-right P (actions s) (all_actions ss) m) rest.1)
