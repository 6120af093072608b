-- What lists of the code's locals tell, where an item is looked at, changed, left out or put in.
use Rattle.std.proofs.Common.{◌≡◌, ℕ, suc, ◌+◌, zero, ◌<◌, ◌≤◌, ◌==◌, ◌||◌, Bool, true, false, if◌then◌else◌, List, [], ◌∷◌, ◌++◌, length, map, filter, drop, take, get_or, Option, Some, refl, sym, ap, ◌∙◌, arith}
use Rattle.std.specs.Prelude.{slice_set}
use Rattle.std.specs.Global.{Vec}
use Rattle.std.specs.List.{list_any}
use Rattle.std.proofs.lemmas.List.{at_drop_all, length-map, map-append, map-set}
use Rattle.cf_lower_held.proofs.Forgotten.{drop_item}
use Rattle.cf_plain.specs.Plain.{Register}
use Rattle.cf_lower_kept.specs.Opened.{Opened, Counts, no_places, told_in}
use Rattle.cf_lowerable_open.specs.declared.opened.Opened.{Opened as CodeOpened}
use Rattle.cf_lowerable_open.specs.declared.located.Place.{Place}
use Rattle.cf_lowerable_open.specs.Located.{counts_in, last_of}
use Rattle.cf_lowerable_open.specs.Lists.{begun_with, partly}
use Rattle.cf_lowerable_open.specs.Told.{told, all_told}
use Rattle.cf_lowerable_open.proofs.Counts.{none_told}
use Rattle.cf_lowerable_open.proofs.Sides.{partly_all, partly_long, partly_more}

-- ---- whether an item passes a test

or_true : (a b : Bool) → a ≡ true → true ≡ (a || b)
or_true true b e = refl
or_true false b e = absurd (cc)

or_false : (a b : Bool) → a ≡ false → b ≡ (a || b)
or_false true b e = absurd (cc)
or_false false b e = refl

module _ (p : Opened → Bool) (all : List CodeOpened) (i : ℕ) (whole : Bool) (inv : list_any p (all_told (drop i all)) ≡ whole) where
  module _ (x : CodeOpened) (within : i < length all) (is : x ≡ get_or all i x) (b : Bool) (test : b ≡ p (told x)) where
    first_left : list_any p (all_told (drop i all)) ≡ (p (told x) || list_any p (all_told (drop (i + 1) all)))
    first_left = ap (λ (l : List CodeOpened). list_any p (all_told l)) (drop_item all i x within is)

    pub any_found : b ≡ true → true ≡ whole
    any_found so = or_true (p (told x)) (list_any p (all_told (drop (i + 1) all))) (sym test ∙ so) ∙ sym first_left ∙ inv

    pub any_past : b ≡ false → list_any p (all_told (drop (i + 1) all)) ≡ whole
    any_past so = or_false (p (told x)) (list_any p (all_told (drop (i + 1) all))) (sym test ∙ so) ∙ sym first_left ∙ inv

  pub any_none : length all ≤ i → false ≡ whole
  any_none past = sym (at_drop_all (λ (l : List CodeOpened). list_any p (all_told l)) all i past) ∙ inv

-- ---- items that are left

kept_told : (b : Bool) (x : CodeOpened) (xs : List CodeOpened) (ys : List Opened) → all_told xs ≡ ys → all_told (if b then x ∷ xs else xs) ≡ (if b then told x ∷ ys else ys)
kept_told true x xs ys e = ap (λ l. told x ∷ l) e
kept_told false x xs ys e = e

filter_told : (p : Opened → Bool) (xs : List CodeOpened) → all_told (filter (λ x. p (told x)) xs) ≡ filter p (all_told xs)
filter_told p [] = refl
filter_told p (x ∷ xs) = kept_told (p (told x)) x (filter (λ x. p (told x)) xs) (filter p (all_told xs)) (filter_told p xs)

-- what is left of a list
pub left_told : (p : Opened → Bool) (xs ys : List CodeOpened) → ys ≡ filter (λ x. p (told x)) xs → all_told ys ≡ filter p (all_told xs)
left_told p xs ys e = ap all_told e ∙ filter_told p xs

-- the object in this register, of whose place so much is told
abbrev Begun : CodeOpened → Option Register → (Register → Counts) → Opened
Begun x q f = record { local = x.local; begun = q; has_value = false; stands = Some true; flag = x.flag; is_told = false; places = f; last = last_of x.last }

pub begun_told : (x : CodeOpened) (o : Option Register) (r : Register) (ns : Counts) (places : Vec Place) (none : List Place) → o ≡ Some r → none ≡ []
    → counts_in places.items ≡ told_in r ns (counts_in none)
    → told record { local = x.local; begun = o; has_value = false; stands = Some true; flag = x.flag; is_told = false; places = places; last = x.last } ≡ begun_with o ns (told x)
begun_told x o r ns places none is empty e =
    ap (λ (f : Register → Counts). Begun x o f) (e ∙ ap (told_in r ns) (none_told none empty)) ∙ ap (λ (q : Option Register). Begun x q (told_in r ns no_places)) is
    ∙ sym (ap (λ (q : Option Register). begun_with q ns (told x)) is)

-- an item at the end
pub end_told : (xs ys : List CodeOpened) (x : CodeOpened) → ys ≡ xs ++ x ∷ [] → all_told ys ≡ all_told xs ++ told x ∷ []
end_told xs ys x e = ap all_told e ∙ map-append told xs (x ∷ [])

pub length_told : (xs : List CodeOpened) → length (all_told xs) ≡ length xs
length_told xs = length-map xs told

-- ---- items that are changed one after another

front : (xs ys : List CodeOpened) → take (length xs) (xs ++ ys) ≡ xs
front [] ys = refl
front (x ∷ xs) ys = ap (λ l. x ∷ l) (front xs ys)

told_first : (xs : List CodeOpened) (i : ℕ) (x : CodeOpened) → x ≡ get_or xs i x → told x ≡ get_or (all_told xs) i (told x)
told_first xs i x e = ap told e ∙ at xs i
  where
    at : (xs : List CodeOpened) (i : ℕ) → told (get_or xs i x) ≡ get_or (all_told xs) i (told x)
    at [] i = refl
    at (y ∷ ys) zero = refl
    at (y ∷ ys) (suc i) = at ys i

module _ (f : Opened → Opened) (i : ℕ) (xs here : List CodeOpened) (inv : all_told here ≡ partly f i (all_told xs)) where
  as_long : length here ≡ length xs
  as_long = sym (length_told here) ∙ ap length inv ∙ partly_long f (all_told xs) i ∙ length_told xs

  pub change_more : (next : List CodeOpened) (x y : CodeOpened) → i < length xs → x ≡ get_or here i x → told y ≡ f (told (get_or here i x)) → next ≡ slice_set here i y
      → all_told next ≡ partly f (i + 1) (all_told xs)
  change_more next x y within is made set =
      partly_more f (all_told xs) (all_told here) (all_told next) i (told x) (told y) inv (let lt : i < length (all_told here) = omega (arith, within, as_long, length_told here) in lt)
      (told_first here i x is) (made ∙ sym (ap (λ z. f (told z)) is)) (ap all_told set ∙ map-set told here i y)

  -- behind the last, where the items are written back
  pub change_end : (n : ℕ) (items : List CodeOpened) → length xs ≤ i → n ≡ length items → xs ≡ items
      → all_told (take n (here ++ drop (length here) items)) ≡ map f (all_told items)
  change_end n items past len same =
      let long : length here ≡ length items = as_long ∙ ap length same in
      ap all_told (ap (λ k. take k (here ++ drop (length here) items)) (len ∙ sym long) ∙ front here (drop (length here) items))
      ∙ inv ∙ partly_all f (all_told xs) i (let le : length (all_told xs) ≤ i = omega (arith, past, length_told xs) in le) ∙ ap (λ (l : List CodeOpened). map f (all_told l)) same

-- ---- two lists

pub long_told : (xs ys : List CodeOpened) (b : Bool) → b ≡ (length xs == length ys) → b ≡ (length (all_told xs) == length (all_told ys))
long_told xs ys b e = e ∙ sym (ap (λ n. n == length ys) (length_told xs)) ∙ sym (ap (λ n. length (all_told xs) == n) (length_told ys))
