-- Things with names of their own, and items that define each name once.
use Rattle.std.proofs.Common.{◌≡◌, Bool, true, false, not, ◌&&◌, ◌||◌, List, [], ◌∷◌, ◌++◌, map, refl, ap, sym, subst, ◌∙◌, inl, inr}
use Rattle.std.specs.Prelude.{bytes_eq}
use Rattle.std.specs.List.{list_any, flat_map}
use Rattle.std.proofs.lemmas.Bool.{true≢false}
use Rattle.cf_base.proofs.Tests.{both, bytes_same, bytes_differ}
use Rattle.cf_core.specs.Types.{Name}
use Rattle.cf_core.specs.Valid.{all_differ}
use Rattle.cc_whole.specs.Plain.{Item, declares, declares_variable, defines, defines_variable}
use Rattle.cc_whole.specs.Known.{is_in}
use Rattle.cc_whole.specs.Valid.{is_definition}
use Rattle.cc_whole_sections.specs.Sections.{In, Every, item_name, DefinedOnce}
use Rattle.cc_whole_sections.proofs.Names.{in-left, in-right}
use Rattle.cf_lower_valid.proofs.Differ.{append-in}
use Rattle.cf_lower_valid.proofs.Inner.{mapped-in, every-mapped}
use Rattle.cf_lower_valid.proofs.Spans.{none-any}

pub any-none : {A : Type 0} (test : A → Bool) (xs : List A) → Every (λ x. test x ≡ false) xs → list_any test xs ≡ false
any-none test [] h = refl
any-none test (x ∷ xs) h = ap (λ b. b || list_any test xs) (h x (inl refl)) ∙ any-none test xs (λ y k. h y (inr k))

pub no-not : (b : Bool) → not b ≡ true → b ≡ false
no-not true e = absurd (cc)
no-not false e = refl

-- ---- things with names that differ

module _ {A : Type 0} (n : A → Name) where
  abbrev pub Differ : List A → Type 0
  Differ [] = Unit {0}
  Differ (x ∷ xs) = Every (λ y. bytes_eq (n x) (n y) ≡ false) xs × Differ xs

  pub differ-append : (xs ys : List A) → Differ xs → Differ ys → Every (λ x. Every (λ y. bytes_eq (n x) (n y) ≡ false) ys) xs → Differ (xs ++ ys)
  differ-append [] ys d e h = e
  differ-append (x ∷ xs) ys d e h = (
    λ z k. append-in z xs ys (bytes_eq (n x) (n z) ≡ false) k (λ l. d.0 z l) (λ l. h x (inl refl) z l),
    differ-append xs ys d.1 e (λ w k. h w (inr k)),
  )

  pub differ-named : (xs : List A) → all_differ (map n xs) ≡ true → Differ xs
  differ-named [] e = tt
  differ-named (x ∷ xs) e =
      let two = both (not (list_any (bytes_eq (n x)) (map n xs))) (all_differ (map n xs)) e in
      (λ y h. none-any (bytes_eq (n x)) (map n xs) (no-not (list_any (bytes_eq (n x)) (map n xs)) two.0) (n y) (mapped-in n y xs h), differ-named xs two.1)

pub differ-mapped : {A B : Type 0} (n : B → Name) (g : A → B) (xs : List A) → Differ (λ x. n (g x)) xs → Differ n (map g xs)
differ-mapped n g [] d = tt
differ-mapped n g (x ∷ xs) d = (every-mapped (λ y. bytes_eq (n (g x)) (n y) ≡ false) g xs d.0, differ-mapped n g xs d.1)

-- two lists of names that differ all together
pub record Apart (these those : List Name) : Type 0 where
  pub first : all_differ these ≡ true
  pub second : all_differ those ≡ true
  pub cross : Every (λ a. Every (λ b. bytes_eq a b ≡ false) those) these

cross-more : (a : Name) (these those : List Name) → Every (λ b. bytes_eq a b ≡ false) those → Every (λ c. Every (λ b. bytes_eq c b ≡ false) those) these
    → Every (λ c. Every (λ b. bytes_eq c b ≡ false) those) (a ∷ these)
cross-more a these those h g c (inl k) b l = subst (λ x. bytes_eq x b ≡ false) k (h b l)
cross-more a these those h g c (inr k) b l = g c k b l

pub differ-parts : (these those : List Name) → all_differ (these ++ those) ≡ true → Apart these those
differ-parts [] those e = record { first = refl; second = e; cross = λ a h. absurd h }
differ-parts (a ∷ these) those e =
    let two = both (not (list_any (bytes_eq a) (these ++ those))) (all_differ (these ++ those)) e in
    let rest = differ-parts these those two.1 in
    let none = none-any (bytes_eq a) (these ++ those) (no-not (list_any (bytes_eq a) (these ++ those)) two.0) in
    record {
      first = ap (λ c. not c && all_differ these) (any-none (bytes_eq a) these (λ b h. none b (in-left b these those h))) ∙ rest.first;
      second = rest.second;
      cross = cross-more a these those (λ b h. none b (in-right b these those h)) rest.cross;
    }

pub either-way : (a b : Name) → bytes_eq a b ≡ false → bytes_eq b a ≡ false
either-way a b e = bytes_differ b a (λ k. true≢false (sym (bytes_same a b (sym k)) ∙ e))

-- what a test tells apart
pub told-apart : (test : Name → Bool) (a b : Name) → test a ≡ true → test b ≡ false → bytes_eq a b ≡ false
told-apart test a b e h = bytes_differ a b (λ k. true≢false (sym e ∙ ap test k ∙ h))

-- ---- items that define once

once-more : (b c : Bool) → b ≡ false → c ≡ false → (b || c) ≡ false
once-more b c e h = ap (λ x. x || c) e ∙ h

one-more : (i : Item) (is : List Item) (defined : List Name) → Every (λ k. bytes_eq (item_name i) (item_name k) ≡ false) is
    → Every (λ k. is_in defined (item_name k) ≡ false) is → Every (λ k. is_in (item_name i ∷ defined) (item_name k) ≡ false) is
one-more i is defined d h k m = once-more (bytes_eq (item_name i) (item_name k)) (is_in defined (item_name k)) (d k m) (h k m)

pub once : (is : List Item) (defined : List Name) → Differ item_name is → Every (λ i. is_in defined (item_name i) ≡ false) is → DefinedOnce is defined
once [] defined d h = tt
once (declares p ∷ is) defined d h = (λ e. h (declares p) (inl refl), once is defined d.1 (λ j k. h j (inr k)))
once (declares_variable t name ∷ is) defined d h = (λ e. h (declares_variable t name) (inl refl), once is defined d.1 (λ j k. h j (inr k)))
once (defines f ∷ is) defined d h =
    (λ e. h (defines f) (inl refl), once is (item_name (defines f) ∷ defined) d.1 (one-more (defines f) is defined d.0 (λ j k. h j (inr k))))
once (defines_variable v ∷ is) defined d h =
    (λ e. h (defines_variable v) (inl refl), once is (item_name (defines_variable v) ∷ defined) d.1 (one-more (defines_variable v) is defined d.0 (λ j k. h j (inr k))))

pub once-none : (is js : List Item) (defined : List Name) → Every (λ i. is_definition i ≡ false) is → DefinedOnce js defined → DefinedOnce (is ++ js) defined
once-none [] js defined h d = d
once-none (declares p ∷ is) js defined h d = (λ e. absurd (true≢false (sym e)), once-none is js defined (λ i k. h i (inr k)) d)
once-none (declares_variable t name ∷ is) js defined h d = (λ e. absurd (true≢false (sym e)), once-none is js defined (λ i k. h i (inr k)) d)
once-none (defines f ∷ is) js defined h d = absurd (true≢false (h (defines f) (inl refl)))
once-none (defines_variable v ∷ is) js defined h d = absurd (true≢false (h (defines_variable v) (inl refl)))

-- ---- items of many lists

pub record From {A B : Type 0} (f : A → List B) (xs : List A) (y : B) : Type 0 where
  pub one : A
  pub there : In one xs
  pub gives : In y (f one)

pub from-flat : {A B : Type 0} (f : A → List B) (xs : List A) (y : B) → In y (flat_map f xs) → From f xs y
from-flat f [] y h = absurd h
from-flat f (x ∷ xs) y h =
    append-in y (f x) (flat_map f xs) (From f (x ∷ xs) y) h (λ k. record { one = x; there = inl refl; gives = k })
    (λ k. let rest = from-flat f xs y k in record { one = rest.one; there = inr rest.there; gives = rest.gives })
