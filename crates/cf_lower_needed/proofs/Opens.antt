-- Lists of the locals that are open: what is still so of them at the turns of loops and behind labels, where two ways part by a number, and where they join.
use Rattle.std.proofs.Common.{◌≡◌, ℕ, ◌<◌, Bool, true, false, ◌&&◌, ◌||◌, not, ◌==◌, if◌then◌else◌, List, [], ◌∷◌, ◌++◌, refl, sym, ◌∙◌, ap, subst}
use Rattle.std.specs.Prelude.{map, filter, find, ℤ, Option, Some, None, bytes_eq}
use Rattle.cf_base.proofs.Tests.{both, same_bytes}
use Rattle.cf_core.specs.Store as source
use Rattle.cf_core.specs.Run.{State}
use Rattle.cf_plain.specs.Plain.{Register}
use Rattle.cf_plain.specs.Acts.{Registers}
use Rattle.cf_lower_kept.specs.Opened.{Opened, Counts, no_places, same_places, is_local, is_over, is_open_one, is_open, is_listed, is_register, settled, flag_number, is_unknown, goes_by, stands_by, where_set, where_unset, awaited, same_begun, same_stand, both_one, one_way, one_or_both, met_one, is_left_out, both_opened, as_open, same_open}
use Rattle.cf_lower_kept.proofs.Types.{same-number}
use Rattle.cf_lower_bounds.specs.Needs.{is_nonzero}
use Rattle.cf_lower_bounds.specs.Points.{Stands, Begun, Valued, Parts, IsOver, IsTold, IsOpen, AllOpen, Open}
use Rattle.cf_lower_bounds.proofs.Lists.{neither, none-of, open-listed}

-- ---- what is settled

is_open-settled : (i : ℕ) (xs : List Opened) → is_open i (map settled xs) ≡ is_open i xs
is_open-settled i [] = refl
is_open-settled i (x ∷ xs) = ap (λ b. is_open_one i x || b) (is_open-settled i xs)

abbrev settled_at : ℕ → Option Bool → Opened
settled_at i o = record { local = i; begun = None; has_value = false; stands = o; flag = None; is_told = false; places = no_places; last = None }

as-open-is : (a b : Option Bool) → as_open a b ≡ true → a ≡ b
as-open-is (Some true) (Some true) e = refl
as-open-is (Some false) (Some false) e = refl
as-open-is None None e = refl
as-open-is (Some true) (Some false) e = absurd (let k = e in cc)
as-open-is (Some true) None e = absurd (let k = e in cc)
as-open-is (Some false) (Some true) e = absurd (let k = e in cc)
as-open-is (Some false) None e = absurd (let k = e in cc)
as-open-is None (Some b) e = absurd (let k = e in cc)

pub same-settled : (xs zs : List Opened) → same_open (map settled xs) zs ≡ true → map settled zs ≡ map settled xs
same-settled [] [] e = refl
same-settled [] (z ∷ zs) e = absurd (let k = e in cc)
same-settled (x ∷ xs) [] e = absurd (let k = e in cc)
same-settled (x ∷ xs) (z ∷ zs) e =
    let two = both (x.local == z.local) (as_open x.stands z.stands && same_open (map settled xs) zs) e in
    let three = both (as_open x.stands z.stands) (same_open (map settled xs) zs) two.1 in
    ap (λ i. settled_at i z.stands ∷ map settled zs) (sym (same-number x.local z.local two.0))
    ∙ ap (λ o. settled_at x.local o ∷ map settled zs) (sym (as-open-is x.stands z.stands three.0))
    ∙ ap (λ l. settled_at x.local x.stands ∷ l) (same-settled xs zs three.1)

-- ---- tests

its-register : (o : Option Register) (r : Register) → is_register o r ≡ true → o ≡ Some r
its-register None r e = absurd (let k = e in cc)
its-register (Some q) r e = ap (λ (i : Register). Some i) (same-number q r e)

some-one : {x y : Opened} → Some x ≡ Some y → x ≡ y
some-one e = cc

some-number : {a b : ℤ} → Some (source.Number a) ≡ Some (source.Number b) → a ≡ b
some-number e = cc

-- what a flag holds tells whether the object stands
flag-set : (b : Bool) → is_nonzero (flag_number b) ≡ true → b ≡ true
flag-set true e = refl
flag-set false e = absurd (let k = e in cc)

flag-unset : (b : Bool) → is_nonzero (flag_number b) ≡ false → b ≡ false
flag-unset true e = absurd (let k = e in cc)
flag-unset false e = refl

unknown-not-over : (o : Option Bool) → is_unknown o ≡ true → is_over o ≡ false
unknown-not-over None e = refl
unknown-not-over (Some b) e = absurd (let k = e in cc)

module _ (count : ℕ) (g : Registers) (s : State) where
  all-settled : (xs : List Opened) → AllOpen count xs g s → AllOpen count (map settled xs) g s
  all-settled [] h = tt
  all-settled (x ∷ xs) h =
      let one = h.0 in (
        record {
          way = one.way;
          told = one.told;
          there = one.there;
          over = one.over;
          begun = λ r e. absurd (let k = e in cc);
          value = λ e. absurd (let k = e in cc);
          flag = λ e. absurd (let k = e in cc);
          parts = λ r. tt;
          last = λ r n e. absurd (let k = e in cc);
        },
        all-settled xs h.1,
      )

  pub open-settled : (xs : List Opened) → Open count xs g s → Open count (map settled xs) g s
  open-settled xs h = record {
    each = all-settled xs h.each;
    over = λ i o lt e l. h.over i o lt (sym (is_open-settled i xs) ∙ e) l;
  }

  -- where just these are open
  pub open-same : (xs zs : List Opened) → same_open (map settled xs) zs ≡ true → Open count zs g s → Open count (map settled xs) g s
  open-same xs zs e h = subst (λ ys. Open count ys g s) (same-settled xs zs e) (open-settled zs h)

  -- a local of which nothing was told has no object
  pub open-awaited : (r : Register) (o : Option ℕ) (xs : List Opened) → Open count xs g s → Open count (awaited r o xs) g s
  open-awaited r None xs h = h
  open-awaited r (Some i) xs h = by (is_listed i xs) refl
    where
      by : (b : Bool) → is_listed i xs ≡ b
          → Open count (if b then xs else record { local = i; begun = None; has_value = false; stands = Some false; flag = Some r; is_told = false; places = no_places; last = None } ∷ xs) g s
      by true e = h
      by false e = record {
        each = (
          record {
            way = false;
            told = refl;
            there = λ k. absurd (let j = k in cc);
            over = λ k o lt l. h.over i o lt (open-listed i xs e) l;
            begun = λ q k. absurd (let j = k in cc);
            value = λ k. absurd (let j = k in cc);
            flag = λ k. absurd (let j = k in cc);
            parts = λ q. tt;
            last = λ q n k. absurd (let j = k in cc);
          },
          h.each,
        );
        over = λ j o lt k l. h.over j o lt (neither ((i == j) && false) (is_open j xs) k).1 l;
      }

-- ---- where two ways part

module _ (count : ℕ) (g : Registers) (s : State) (r : Register) (n : ℤ) (holds : g r ≡ Some (source.Number n)) where
  -- of what goes by this register its number tells
  by-number : (x : Opened) (h : IsOpen count x g s) → goes_by r x ≡ true → n ≡ flag_number h.way
  by-number x h e =
      let two = both (is_register x.flag r) (x.is_told && is_unknown x.stands) e in
      let told = (both x.is_told (is_unknown x.stands) two.1).0 in
      some-number (sym holds ∙ h.flag told r (its-register x.flag r two.0))

  unknown : (x : Opened) → goes_by r x ≡ true → is_unknown x.stands ≡ true
  unknown x e = (both x.is_told (is_unknown x.stands) (both (is_register x.flag r) (x.is_told && is_unknown x.stands) e).1).1

  module _ (nonzero : is_nonzero n ≡ true) where
    set-one : (x : Opened) → IsOpen count x g s → IsOpen count (stands_by r x) g s
    set-one x h = by_test (goes_by r x) refl
      where
        by_test : (b : Bool) → goes_by r x ≡ b → IsOpen count (if b then record x { stands = Some true; flag = None; is_told = false } else x) g s
        by_test false e = h
        by_test true e =
            let stands : h.way ≡ true = flag-set h.way (subst (λ m. is_nonzero m ≡ true) (by-number x h e) nonzero) in
            record {
              way = true;
              told = refl;
              there = λ k. h.there stands;
              over = λ k. absurd (let j = k in cc);
              begun = h.begun;
              value = h.value;
              flag = λ k. absurd (let j = k in cc);
              parts = h.parts;
              last = h.last;
            }

    all-set : (xs : List Opened) → AllOpen count xs g s → AllOpen count (where_set r xs) g s
    all-set [] h = tt
    all-set (x ∷ xs) h = (set-one x h.0, all-set xs h.1)

    is_open-set : (i : ℕ) (xs : List Opened) → is_open i (where_set r xs) ≡ is_open i xs
    is_open-set i [] = refl
    is_open-set i (x ∷ xs) =
        ap (λ b. b || is_open i (where_set r xs)) (by_test (goes_by r x) refl) ∙ ap (λ b. is_open_one i x || b) (is_open-set i xs)
      where
        by_test : (b : Bool) → goes_by r x ≡ b → is_open_one i (if b then record x { stands = Some true; flag = None; is_told = false } else x) ≡ is_open_one i x
        by_test false e = refl
        by_test true e = ap (λ b. (x.local == i) && not b) (sym (unknown-not-over x.stands (unknown x e)))

    pub open-set : (xs : List Opened) → Open count xs g s → Open count (where_set r xs) g s
    open-set xs h = record { each = all-set xs h.each; over = λ i o lt e l. h.over i o lt (sym (is_open-set i xs) ∙ e) l }

  module _ (is_zero : is_nonzero n ≡ false) where
    all-unset : (xs : List Opened) → AllOpen count xs g s → AllOpen count (where_unset r xs) g s
    all-unset [] h = tt
    all-unset (x ∷ xs) h = by_test (goes_by r x) (all-unset xs h.1)
      where
        by_test : (b : Bool) → AllOpen count (where_unset r xs) g s → AllOpen count (if not b then x ∷ where_unset r xs else where_unset r xs) g s
        by_test true rest = rest
        by_test false rest = (h.0, rest)

    abbrev OverWhere : ℕ → ℕ → List Opened → Type 0
    OverWhere i o xs = is_open i (where_unset r xs) ≡ false → (is_open i xs ≡ false → (s.object o).is_gone ≡ true) → (s.object o).is_gone ≡ true

    -- what is no longer told of has no object
    over-unset : (i o : ℕ) → i < count → s.frame.locals i ≡ Some o → (xs : List Opened) → AllOpen count xs g s → OverWhere i o xs
    over-unset i o lt l [] h e over = over refl
    over-unset i o lt l (x ∷ xs) h e over = by_test (λ none more. over-unset i o lt l xs h.1 none more) (goes_by r x) refl e
      where
        by_local : OverWhere i o xs → (b : Bool) → x.local == i ≡ b → goes_by r x ≡ true → is_open i (where_unset r xs) ≡ false → (s.object o).is_gone ≡ true
        by_local again true k go none =
            let none_there : h.0.way ≡ false = flag-unset h.0.way (subst (λ m. is_nonzero m ≡ false) (by-number x h.0 go) is_zero) in
            subst (λ j. IsOver count j s) (same-number x.local i k) (h.0.over none_there) o lt l
        by_local again false k go none =
            again none
            (λ rest. over (none-of (is_open_one i x) (is_open i xs) (ap (λ b. b && not (is_over x.stands)) k) rest))

        by_test : OverWhere i o xs → (b : Bool) → goes_by r x ≡ b → is_open i (if not b then x ∷ where_unset r xs else where_unset r xs) ≡ false → (s.object o).is_gone ≡ true
        by_test again true go none = by_local again (x.local == i) refl go none
        by_test again false go none =
            let two = neither (is_open_one i x) (is_open i (where_unset r xs)) none in
            again two.1 (λ rest. over (none-of (is_open_one i x) (is_open i xs) two.0 rest))

    pub open-unset : (xs : List Opened) → Open count xs g s → Open count (where_unset r xs) g s
    open-unset xs h = record { each = all-unset xs h.each; over = λ i o lt e l. over-unset i o lt l xs h.each e (λ rest. h.over i o lt rest l) }

-- ---- where two ways join

begun-left : (a b : Option Register) (r : Register) → same_begun a b ≡ Some r → a ≡ Some r
begun-left None b r e = e
begun-left (Some p) None r e = absurd (let k = e in cc)
begun-left (Some p) (Some q) r e = by_test (p == q) e
  where
    by_test : (t : Bool) → (if t then Some p else None) ≡ Some r → Some p ≡ Some r
    by_test true k = k
    by_test false k = absurd (let i = k in cc)

begun-right : (a b : Option Register) (r : Register) → same_begun a b ≡ Some r → b ≡ Some r
begun-right None b r e = absurd (let k = e in cc)
begun-right (Some p) None r e = absurd (let k = e in cc)
begun-right (Some p) (Some q) r e = by_test (p == q) refl e
  where
    by_test : (t : Bool) → p == q ≡ t → (if t then Some p else None) ≡ Some r → Some q ≡ Some r
    by_test true i k = ap (λ (x : Register). Some x) (sym (same-number p q i)) ∙ k
    by_test false i k = absurd (let x = k in cc)

stand-left : (a b : Option Bool) (w : Bool) → IsTold a w → IsTold (same_stand a b) w
stand-left (Some true) (Some true) w h = h
stand-left (Some false) (Some false) w h = h
stand-left a b w h = tt

stand-right : (a b : Option Bool) (w : Bool) → IsTold b w → IsTold (same_stand a b) w
stand-right (Some true) (Some true) w h = h
stand-right (Some false) (Some false) w h = h
stand-right a b w h = tt

-- ---- which locals are listed behind both

one-of : (a b : Bool) → (a || b) ≡ true → a ≡ false → b ≡ true
one-of a b e k = sym (ap (λ c. c || b) k) ∙ e

met-local : (i : ℕ) (x : Opened) (o : Option Opened) → is_local i (one_or_both x o) ≡ is_local i x
met-local i x None = refl
met-local i x (Some y) = refl

listed-met : (i : ℕ) (ys xs : List Opened) → is_listed i (map (met_one ys) xs) ≡ is_listed i xs
listed-met i ys [] = refl
listed-met i ys (x ∷ xs) =
    ap (λ b. b || is_listed i (map (met_one ys) xs)) (met-local i x (find (is_local x.local) ys)) ∙ ap (λ b. is_local i x || b) (listed-met i ys xs)

unlisted-both : (i : ℕ) (xs ys : List Opened) → is_listed i (xs ++ ys) ≡ false → (is_listed i xs ≡ false) × (is_listed i ys ≡ false)
unlisted-both i [] ys e = (refl, e)
unlisted-both i (x ∷ xs) ys e =
    let two = neither (is_local i x) (is_listed i (xs ++ ys)) e in
    let rest = unlisted-both i xs ys two.1 in
    (none-of (is_local i x) (is_listed i xs) two.0 rest.0, rest.1)

unlisted-out : (i : ℕ) (xs ys : List Opened) → is_listed i xs ≡ false → is_listed i (map one_way (filter (is_left_out xs) ys)) ≡ false → is_listed i ys ≡ false
unlisted-out i xs [] none e = refl
unlisted-out i xs (y ∷ ys) none e = by (λ k. unlisted-out i xs ys none k) (is_listed y.local xs) refl e
  where
    apart : is_listed y.local xs ≡ true → (b : Bool) → y.local == i ≡ b → y.local == i ≡ false
    apart there false k = k
    apart there true k = absurd (let two : true ≡ false = sym there ∙ ap (λ j. is_listed j xs) (same-number y.local i k) ∙ none in cc)

    by : (is_listed i (map one_way (filter (is_left_out xs) ys)) ≡ false → is_listed i ys ≡ false) → (b : Bool) → is_listed y.local xs ≡ b
        → is_listed i (map one_way (if not b then y ∷ filter (is_left_out xs) ys else filter (is_left_out xs) ys)) ≡ false → is_listed i (y ∷ ys) ≡ false
    by rest true k e = none-of (is_local i y) (is_listed i ys) (apart k (y.local == i) refl) (rest e)
    by rest false k e =
        let two = neither (is_local i y) (is_listed i (map one_way (filter (is_left_out xs) ys))) e in
        none-of (is_local i y) (is_listed i ys) two.0 (rest two.1)

unlisted-either : (i : ℕ) (xs ys : List Opened) → is_listed i (both_opened xs ys) ≡ false → (is_listed i xs ≡ false) × (is_listed i ys ≡ false)
unlisted-either i xs ys e =
    let two = unlisted-both i (map (met_one ys) xs) (map one_way (filter (is_left_out xs) ys)) e in
    let none : is_listed i xs ≡ false = sym (listed-met i ys xs) ∙ two.0 in
    (none, unlisted-out i xs ys none two.1)

-- what is found, or not
found-local : (i : ℕ) (ys : List Opened) (y : Opened) → find (is_local i) ys ≡ Some y → y.local ≡ i
found-local i [] y e = absurd (let k = e in cc)
found-local i (x ∷ xs) y e = by (found-local i xs y) (is_local i x) refl e
  where
    by : (find (is_local i) xs ≡ Some y → y.local ≡ i) → (b : Bool) → is_local i x ≡ b → (if b then Some x else find (is_local i) xs) ≡ Some y → y.local ≡ i
    by rest true k e = ap (λ (z : Opened). z.local) (sym (some-one e)) ∙ same-number x.local i k
    by rest false k e = rest e

not-found : (i : ℕ) (ys : List Opened) → find (is_local i) ys ≡ None → is_listed i ys ≡ false
not-found i [] e = refl
not-found i (x ∷ xs) e = by (not-found i xs) (is_local i x) refl e
  where
    by : (find (is_local i) xs ≡ None → is_listed i xs ≡ false) → (b : Bool) → is_local i x ≡ b → (if b then Some x else find (is_local i) xs) ≡ None → (is_local i x || is_listed i xs) ≡ false
    by rest true k e = absurd (let j = e in cc)
    by rest false k e = none-of (is_local i x) (is_listed i xs) k (rest e)

over-is : (c : Bool) (o : Option Bool) → c ≡ true → (c && not (is_over o)) ≡ false → o ≡ Some false
over-is c (Some false) k e = refl
over-is c (Some true) k e = absurd (let i = k in let j = e in cc)
over-is c None k e = absurd (let i = k in let j = e in cc)

module _ (count : ℕ) (g : Registers) (s : State) where
  parts-left : (i : ℕ) (r : Register) (ns ms : Counts) → Parts count i r ns g s → Parts count i r (if bytes_eq ns ms then ns else []) g s
  parts-left i r ns ms h = by_test (bytes_eq ns ms)
    where
      by_test : (b : Bool) → Parts count i r (if b then ns else []) g s
      by_test true = h
      by_test false = tt

  parts-right : (i : ℕ) (r : Register) (ns ms : Counts) → Parts count i r ms g s → Parts count i r (if bytes_eq ns ms then ns else []) g s
  parts-right i r ns ms h = by_test (bytes_eq ns ms) refl
    where
      by_test : (b : Bool) → bytes_eq ns ms ≡ b → Parts count i r (if b then ns else []) g s
      by_test true e = subst (λ ks. Parts count i r ks g s) (sym (same_bytes ns ms e)) h
      by_test false e = tt

  both-left : (x y : Opened) → IsOpen count x g s → IsOpen count (both_one x y) g s
  both-left x y h = record {
    way = h.way;
    told = stand-left x.stands y.stands h.way h.told;
    there = h.there;
    over = h.over;
    begun = λ r k. h.begun r (begun-left x.begun y.begun r k);
    value = λ v. h.value (both x.has_value y.has_value v).0;
    flag = λ t r k. h.flag (both x.is_told y.is_told t).0 r (begun-left x.flag y.flag r k);
    parts = λ r. parts-left x.local r (x.places r) (y.places r) (h.parts r);
    last = λ r n k. absurd (let j = k in cc);
  }

  both-right : (x y : Opened) → y.local ≡ x.local → IsOpen count y g s → IsOpen count (both_one x y) g s
  both-right x y same h = record {
    way = h.way;
    told = stand-right x.stands y.stands h.way h.told;
    there = λ k. subst (λ i. Stands count i s) same (h.there k);
    over = λ k. subst (λ i. IsOver count i s) same (h.over k);
    begun = λ r k. subst (λ i. Begun count i r g s) same (h.begun r (begun-right x.begun y.begun r k));
    value = λ v. subst (λ i. Valued count i s) same (h.value (both x.has_value y.has_value v).1);
    flag = λ t r k. h.flag (both x.is_told y.is_told t).1 r (begun-right x.flag y.flag r k);
    parts = λ r. subst (λ i. Parts count i r (same_places x.places y.places r) g s) same (parts-right y.local r (x.places r) (y.places r) (h.parts r));
    last = λ r n k. absurd (let j = k in cc);
  }

  -- listed on the way that was taken
  one-taken : (x : Opened) → IsOpen count x g s → IsOpen count (one_way x) g s
  one-taken x h = record {
    way = h.way;
    told = stand-left x.stands (Some false) h.way h.told;
    there = h.there;
    over = h.over;
    begun = λ r k. absurd (let j = k in cc);
    value = λ k. absurd (let j = k in cc);
    flag = λ k. absurd (let j = k in cc);
    parts = λ r. tt;
    last = λ r n k. absurd (let j = k in cc);
  }

  -- and on the other one
  one-not_taken : (x : Opened) → IsOver count x.local s → IsOpen count (one_way x) g s
  one-not_taken x over = record {
    way = false;
    told = stand-right x.stands (Some false) false refl;
    there = λ k. absurd (let j = k in cc);
    over = λ k. over;
    begun = λ r k. absurd (let j = k in cc);
    value = λ k. absurd (let j = k in cc);
    flag = λ k. absurd (let j = k in cc);
    parts = λ r. tt;
    last = λ r n k. absurd (let j = k in cc);
  }

  found-open : (i : ℕ) (ys : List Opened) (y : Opened) → find (is_local i) ys ≡ Some y → AllOpen count ys g s → IsOpen count y g s
  found-open i [] y e h = absurd (let k = e in cc)
  found-open i (x ∷ xs) y e h = by (λ k. found-open i xs y k h.1) (is_local i x) e
    where
      by : (find (is_local i) xs ≡ Some y → IsOpen count y g s) → (b : Bool) → (if b then Some x else find (is_local i) xs) ≡ Some y → IsOpen count y g s
      by rest true k = subst (λ z. IsOpen count z g s) (some-one k) h.0
      by rest false k = rest k

  left-one : (x : Opened) (o : Option Opened) → IsOpen count x g s → IsOpen count (one_or_both x o) g s
  left-one x None h = one-taken x h
  left-one x (Some y) h = both-left x y h

  abbrev OverBut : List Opened → Type 0
  OverBut xs = (i : ℕ) → is_listed i xs ≡ false → IsOver count i s

  right-one : (ys : List Opened) → AllOpen count ys g s → OverBut ys → (x : Opened) (o : Option Opened) → find (is_local x.local) ys ≡ o → IsOpen count (one_or_both x o) g s
  right-one ys h over x None e = one-not_taken x (over x.local (not-found x.local ys e))
  right-one ys h over x (Some y) e = both-right x y (found-local x.local ys y e) (found-open x.local ys y e h)

  met-left : (ys xs : List Opened) → AllOpen count xs g s → AllOpen count (map (met_one ys) xs) g s
  met-left ys [] h = tt
  met-left ys (x ∷ xs) h = (left-one x (find (is_local x.local) ys) h.0, met-left ys xs h.1)

  met-right : (ys xs : List Opened) → AllOpen count ys g s → OverBut ys → AllOpen count (map (met_one ys) xs) g s
  met-right ys [] h over = tt
  met-right ys (x ∷ xs) h over = (right-one ys h over x (find (is_local x.local) ys) refl, met-right ys xs h over)

  out-left : (xs ys : List Opened) → OverBut xs → AllOpen count (map one_way (filter (is_left_out xs) ys)) g s
  out-left xs [] over = tt
  out-left xs (y ∷ ys) over = by (out-left xs ys over) (is_listed y.local xs) refl
    where
      by : AllOpen count (map one_way (filter (is_left_out xs) ys)) g s → (b : Bool) → is_listed y.local xs ≡ b
          → AllOpen count (map one_way (if not b then y ∷ filter (is_left_out xs) ys else filter (is_left_out xs) ys)) g s
      by rest true k = rest
      by rest false k = (one-not_taken y (over y.local k), rest)

  out-right : (xs ys : List Opened) → AllOpen count ys g s → AllOpen count (map one_way (filter (is_left_out xs) ys)) g s
  out-right xs [] h = tt
  out-right xs (y ∷ ys) h = by (out-right xs ys h.1) (is_listed y.local xs)
    where
      by : AllOpen count (map one_way (filter (is_left_out xs) ys)) g s → (b : Bool)
          → AllOpen count (map one_way (if not b then y ∷ filter (is_left_out xs) ys else filter (is_left_out xs) ys)) g s
      by rest true = rest
      by rest false = (one-taken y h.0, rest)

  all-appended : (xs ys : List Opened) → AllOpen count xs g s → AllOpen count ys g s → AllOpen count (xs ++ ys) g s
  all-appended [] ys h k = k
  all-appended (x ∷ xs) ys h k = (h.0, all-appended xs ys h.1 k)

  -- what is listed and does not stand is over
  listed-over : (i : ℕ) (xs : List Opened) → AllOpen count xs g s → is_listed i xs ≡ true → is_open i xs ≡ false → IsOver count i s
  listed-over i [] h e k = absurd (let j = e in cc)
  listed-over i (x ∷ xs) h e k =
      let none = neither (is_open_one i x) (is_open i xs) k in
      by (λ there. listed-over i xs h.1 there none.1) none.0 (is_local i x) refl
    where
      told-over : (o : Option Bool) (w : Bool) → IsTold o w → o ≡ Some false → w ≡ false
      told-over o w told is = sym (subst (λ (q : Option Bool). IsTold q w) is told)

      by : (is_listed i xs ≡ true → IsOver count i s) → is_open_one i x ≡ false → (b : Bool) → is_local i x ≡ b → IsOver count i s
      by rest none true k =
          subst (λ j. IsOver count j s) (same-number x.local i k) (h.0.over (told-over x.stands h.0.way h.0.told (over-is (is_local i x) x.stands k none)))
      by rest none false k = rest (one-of (is_local i x) (is_listed i xs) e k)

  unlisted-over : (xs : List Opened) → Open count xs g s → OverBut xs
  unlisted-over xs h i e o lt l = h.over i o lt (open-listed i xs e) l

  open-both : (xs ys : List Opened) → AllOpen count (both_opened xs ys) g s → ((i : ℕ) → is_listed i (both_opened xs ys) ≡ false → IsOver count i s)
      → Open count (both_opened xs ys) g s
  open-both xs ys each over = record { each = each; over = λ i o lt k l. by i k (is_listed i (both_opened xs ys)) refl o lt l }
    where
      by : (i : ℕ) → is_open i (both_opened xs ys) ≡ false → (b : Bool) → is_listed i (both_opened xs ys) ≡ b → IsOver count i s
      by i k true e = listed-over i (both_opened xs ys) each e k
      by i k false e = over i e

  pub open-left : (xs ys : List Opened) → Open count xs g s → Open count (both_opened xs ys) g s
  open-left xs ys h =
      open-both xs ys
      (all-appended (map (met_one ys) xs) (map one_way (filter (is_left_out xs) ys)) (met-left ys xs h.each) (out-left xs ys (unlisted-over xs h)))
      (λ i e. unlisted-over xs h i (unlisted-either i xs ys e).0)

  pub open-right : (xs ys : List Opened) → Open count ys g s → Open count (both_opened xs ys) g s
  open-right xs ys h =
      open-both xs ys
      (all-appended (map (met_one ys) xs) (map one_way (filter (is_left_out xs) ys)) (met-right ys xs h.each (unlisted-over ys h)) (out-right xs ys h.each))
      (λ i e. unlisted-over ys h i (unlisted-either i xs ys e).1)
