-- The static objects of a file of which no two have one name: each is found by its own, also where they have other names that are kept apart.
use Rattle.std.proofs.Common.{◌≡◌, ℕ, zero, suc, Bool, true, false, cond, ◌||◌, not, List, [], ◌∷◌, ◌++◌, map, ap, refl, sym, ◌∙◌}
use Rattle.std.specs.Prelude.{Option, Some, None, find, bytes_eq, slice_get}
use Rattle.std.specs.List.{list_any, list_all}
use Rattle.cf_base.proofs.Tests.{both, bytes_same}
use Rattle.cf_core.specs.Types.{Name, SourceType, void}
use Rattle.cf_core.specs.Core.{Static}
use Rattle.cf_core.specs.Joined.{static_in_file}
use Rattle.cf_core.specs.Valid.{all_differ}
use Rattle.cf_sequence.specs.Built.{has_mark}
use Rattle.cf_file_sound.proofs.Typed.{never}
use Rattle.cf_file_sound.proofs.Lists.{none-is, of-some, negated}

abbrev pub type_found : Option Static → SourceType
type_found None = void
type_found (Some x) = x.type

-- the names of the statics differ where all do
pub behind-differ : (ns ms : List Name) → all_differ (ns ++ ms) ≡ true → all_differ ms ≡ true
behind-differ [] ms ok = ok
behind-differ (n ∷ ns) ms ok = behind-differ ns ms (both (not (list_any (bytes_eq n) (ns ++ ms))) (all_differ (ns ++ ms)) ok).1

-- a name that no object has is not that of one of them
other : (n : Name) (xs : List Static) → list_any (bytes_eq n) (map (λ (x : Static). x.name) xs) ≡ false → (i : ℕ) (x : Static) → slice_get xs i ≡ Some x → bytes_eq n x.name ≡ false
other n [] ok i x at = absurd (none-is x at)
other n (y ∷ xs) ok zero x at = by (bytes_eq n y.name) refl ok
  where
    by : (b : Bool) → bytes_eq n y.name ≡ b → b || list_any (bytes_eq n) (map (λ (x : Static). x.name) xs) ≡ false → bytes_eq n x.name ≡ false
    by true e ok = never (sym ok)
    by false e ok = ap (λ (z : Static). bytes_eq n z.name) (sym (of-some y x at)) ∙ e
other n (y ∷ xs) ok (suc i) x at = other n xs (behind (bytes_eq n y.name) (list_any (bytes_eq n) (map (λ (x : Static). x.name) xs)) ok) i x at
  where
    behind : (b c : Bool) → b || c ≡ false → c ≡ false
    behind true c ok = never (sym ok)
    behind false c ok = ok

-- names that are kept apart
abbrev pub Apart : (Name → Name) → Type 0
Apart h = (a b : Name) → not (has_mark a) ≡ true → not (has_mark b) ≡ true → bytes_eq (h a) (h b) ≡ bytes_eq a b

abbrev pub is_unmarked : Static → Bool
is_unmarked x = not (has_mark x.name)

found-at : (h : Name → Name) → Apart h → (xs : List Static) → all_differ (map (λ (x : Static). x.name) xs) ≡ true → list_all is_unmarked xs ≡ true → (i : ℕ) (x : Static)
    → slice_get xs i ≡ Some x → not (has_mark x.name) ≡ true → type_found (find (λ (y : Static). bytes_eq (h y.name) (h x.name)) xs) ≡ x.type
found-at h apart [] differ unmarked i x at plain = absurd (none-is x at)
found-at h apart (y ∷ xs) differ unmarked zero x at plain =
    ap (λ b. type_found (cond b (Some y) (find (λ (y : Static). bytes_eq (h y.name) (h x.name)) xs)))
    (bytes_same (h y.name) (h x.name) (ap (λ (z : Static). h z.name) (of-some y x at)))
    ∙ ap (λ (z : Static). z.type) (of-some y x at)
found-at h apart (y ∷ xs) differ unmarked (suc i) x at plain =
    let p = both (not (list_any (bytes_eq y.name) (map (λ (x : Static). x.name) xs))) (all_differ (map (λ (x : Static). x.name) xs)) differ in
    let q = both (is_unmarked y) (list_all is_unmarked xs) unmarked in
    ap (λ b. type_found (cond b (Some y) (find (λ (y : Static). bytes_eq (h y.name) (h x.name)) xs)))
    (apart y.name x.name q.0 plain ∙ other y.name xs (negated (list_any (bytes_eq y.name) (map (λ (x : Static). x.name) xs)) p.0) i x at)
    ∙ found-at h apart xs p.1 q.1 i x at plain

found-mapped : (r : Name → Name) (n : Name) (xs : List Static)
    → type_found (find (λ (y : Static). bytes_eq y.name n) (map (static_in_file r) xs)) ≡ type_found (find (λ (y : Static). bytes_eq (r y.name) n) xs)
found-mapped r n [] = refl
found-mapped r n (x ∷ xs) = by (bytes_eq (r x.name) n) (found-mapped r n xs)
  where
    by : (b : Bool) → type_found (find (λ (y : Static). bytes_eq y.name n) (map (static_in_file r) xs)) ≡ type_found (find (λ (y : Static). bytes_eq (r y.name) n) xs)
        → type_found (cond b (Some (static_in_file r x)) (find (λ (y : Static). bytes_eq y.name n) (map (static_in_file r) xs)))
        ≡ type_found (cond b (Some x) (find (λ (y : Static). bytes_eq (r y.name) n) xs))
    by true later = refl
    by false later = later

module _ (xs : List Static) (differ : all_differ (map (λ (x : Static). x.name) xs) ≡ true) (unmarked : list_all is_unmarked xs ≡ true) (i : ℕ) (x : Static) (at : slice_get xs i ≡ Some x)
    (plain : not (has_mark x.name) ≡ true) where
  pub own-type : type_found (find (λ (y : Static). bytes_eq y.name x.name) xs) ≡ x.type
  own-type = found-at (λ n. n) (λ a b p q. refl) xs differ unmarked i x at plain

  pub joined-type : (r : Name → Name) → Apart r → type_found (find (λ (y : Static). bytes_eq y.name (r x.name)) (map (static_in_file r) xs)) ≡ x.type
  joined-type r apart = found-mapped r (r x.name) xs ∙ found-at r apart xs differ unmarked i x at plain
