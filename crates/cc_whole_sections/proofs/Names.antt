-- What names mean behind items.
use Rattle.std.proofs.Common.{◌≡◌, ℕ, Bool, true, false, ◌||◌, cond, List, [], ◌∷◌, ◌++◌, Option, Some, None, option_map, refl, ap, subst, ◌∙◌, inl, inr}
use Rattle.std.specs.Prelude.{bytes_eq, find}
use Rattle.cc_whole.specs.Plain.{Item}
use Rattle.cc_whole.specs.Known.{Meant, Named, lookup, is_in}
use Rattle.cc_whole.specs.Valid.{agrees, named_by}
use Rattle.cc_whole_sections.specs.Sections.{In, Every, item_name, item_names, OneType, Stands}

-- ---- lists

pub in-left : {A : Type 0} (x : A) (xs ys : List A) → In x xs → In x (xs ++ ys)
in-left x [] ys h = absurd h
in-left x (y ∷ xs) ys (inl e) = inl e
in-left x (y ∷ xs) ys (inr h) = inr (in-left x xs ys h)

pub in-right : {A : Type 0} (x : A) (xs ys : List A) → In x ys → In x (xs ++ ys)
in-right x [] ys h = h
in-right x (y ∷ xs) ys h = inr (in-right x xs ys h)

-- ---- names behind items

abbrev pub Within : List Named → List Named → Type 0
Within known names = Every (λ n. In n known) names

abbrev meaning : Option Named → Option Meant
meaning o = option_map (λ (x : Named). x.meant) o

module _ (known : List Named) (one : OneType known) where
  pub names-agree : (names : List Named) → Within known names → (x : Named) → In x known → agrees (lookup names x.name) x.meant ≡ true
  names-agree [] w x h = refl
  names-agree (n ∷ names) w x h = go (names-agree names (λ y k. w y (inr k)) x h) (bytes_eq n.name x.name) refl
    where
      go : agrees (lookup names x.name) x.meant ≡ true → (b : Bool) → bytes_eq n.name x.name ≡ b
          → agrees (meaning (cond b (Some n) (find (λ (z : Named). bytes_eq z.name x.name) names))) x.meant ≡ true
      go again true e = one.agree n x (w n (inl refl)) h e
      go again false e = again

  -- a further name leaves known what was known
  pub stands-on : (names : List Named) (n x : Named) → In n known → In x known → Stands names x → Stands (n ∷ names) x
  stands-on names n x h k s = go (bytes_eq n.name x.name) refl
    where
      go : (b : Bool) → bytes_eq n.name x.name ≡ b → Stands (n ∷ names) x
      go true e = record {
        meant = n.meant;
        means = ap (λ b. meaning (cond b (Some n) (find (λ (z : Named). bytes_eq z.name x.name) names))) e;
        agrees_with = one.agree n x h k e;
      }
      go false e = record {
        meant = s.meant;
        means = ap (λ b. meaning (cond b (Some n) (find (λ (z : Named). bytes_eq z.name x.name) names))) e ∙ s.means;
        agrees_with = s.agrees_with;
      }

  pub stands : (names : List Named) → Within known names → (x : Named) → In x known → (o : Option Meant) → lookup names x.name ≡ o → (o ≡ None → ⊥) → Stands names x
  stands names w x h None e some = absurd (some refl)
  stands names w x h (Some m) e some = record { meant = m; means = e; agrees_with = subst (λ o. agrees o x.meant ≡ true) e (names-agree names w x h) }

-- what is known behind items
abbrev pub behind : List Item → List Named → List Named
behind [] names = names
behind (i ∷ rest) names = behind rest (named_by i ∷ names)

pub within-more : (known : List Named) (n : Named) (names : List Named) → In n known → Within known names → Within known (n ∷ names)
within-more known n names h w x (inl e) = subst (λ y. In y known) e h
within-more known n names h w x (inr k) = w x k

pub within-behind : (known : List Named) (xs : List Item) (names : List Named) → Every (λ i. In (named_by i) known) xs → Within known names
    → Within known (behind xs names)
within-behind known [] names h w = w
within-behind known (i ∷ xs) names h w =
    within-behind known xs (named_by i ∷ names) (λ x k. h x (inr k)) (within-more known (named_by i) names (h i (inl refl)) w)

-- a name that is there stays
named-on : (n : Named) (names : List Named) (y : List ℕ) → (lookup names y ≡ None → ⊥) → lookup (n ∷ names) y ≡ None → ⊥
named-on n names y h = go (bytes_eq n.name y)
  where
    go : (b : Bool) → meaning (cond b (Some n) (find (λ (x : Named). bytes_eq x.name y) names)) ≡ None → ⊥
    go true e = absurd (cc)
    go false e = h e

pub stays-named : (xs : List Item) (names : List Named) (y : List ℕ) → (lookup names y ≡ None → ⊥) → lookup (behind xs names) y ≡ None → ⊥
stays-named [] names y h = h
stays-named (i ∷ xs) names y h = stays-named xs (named_by i ∷ names) y (named-on (named_by i) names y h)

-- items name what they declare
pub names-there : (xs : List Item) (names : List Named) (y : List ℕ) → is_in (item_names xs) y ≡ true → lookup (behind xs names) y ≡ None → ⊥
names-there [] names y h = absurd (cc)
names-there (i ∷ xs) names y h = go (names-there xs (named_by i ∷ names) y) (bytes_eq (item_name i) y) refl h
  where
    here : bytes_eq (item_name i) y ≡ true → lookup (named_by i ∷ names) y ≡ None → ⊥
    here e k = absurd (let f = ap (λ b. meaning (cond b (Some (named_by i)) (find (λ (x : Named). bytes_eq x.name y) names))) e in cc)

    go : (is_in (item_names xs) y ≡ true → lookup (behind xs (named_by i ∷ names)) y ≡ None → ⊥) → (b : Bool) → bytes_eq (item_name i) y ≡ b
        → (b || is_in (item_names xs) y) ≡ true → lookup (behind xs (named_by i ∷ names)) y ≡ None → ⊥
    go again true e k = stays-named xs (named_by i ∷ names) y (here e)
    go again false e k = again k
