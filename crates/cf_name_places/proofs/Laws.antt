-- What a table and the names behind a name say of its last place.
use Rattle.std.proofs.Common.{◌≡◌, ℕ, Bool, true, false, List, [], ◌∷◌, ◌++◌, length, map, if◌then◌else◌, refl, sym, ap, subst, ◌∙◌}
use Rattle.std.specs.Prelude.{Option, Some, IsSome, reverse, bytes_eq}
use Rattle.std.specs.Borrow.{Bor}
use Rattle.std.specs.HashMap.{HashMap}
use Rattle.std.proofs.lemmas.List.{reverse-append, map-append}
use Rattle.cf_base.proofs.Tests.{bytes_same, same_bytes}
use Rattle.cf_name_places.specs.declared.places.Place.{Place}
use Rattle.cf_name_places.specs.Places.{last_place, same_name, placed, befores}
use Rattle.cf_name_places.specs.Memory.{names_of, befores_of, Known}

front : {A : Type 0} (f : Place → A) (ys : List Place) (p : Place) → reverse (map f (ys ++ p ∷ [])) ≡ f p ∷ reverse (map f ys)
front f ys p = ap reverse (map-append f ys (p ∷ [])) ∙ reverse-append (map f ys) (f p ∷ [])

-- the names, where one stands last in memory
names-front : (xs ys : List Place) (p : Place) → xs ≡ ys ++ p ∷ [] → names_of xs ≡ p.name.now ∷ names_of ys
names-front xs ys p e = ap names_of e ∙ front (λ (q : Place). q.name.now) ys p

head-is : {A : Type 0} (x y : A) (xs ys : List A) → x ∷ xs ≡ y ∷ ys → x ≡ y
head-is x y xs ys e = cc

tail-is : {A : Type 0} (x y : A) (xs ys : List A) → x ∷ xs ≡ y ∷ ys → xs ≡ ys
tail-is x y xs ys e = cc

module _ {S : Type 0} (xs ys : List Place) (p : Place) (table : HashMap (Bor (List ℕ)) (Option ℕ) S) (known : Known xs table) (e : xs ≡ ys ++ p ∷ []) where
  both : p.before ∷ befores_of ys ≡ last_place p.name.now (names_of ys) ∷ befores (names_of ys)
  both = sym (front (λ (q : Place). q.before) ys p) ∙ ap befores_of (sym e) ∙ known.before ∙ ap befores (names-front xs ys p e)

  -- the table has the name that stands last
  pub has-last : IsSome (placed table p.name)
  has-last = subst IsSome (sym (known.last p.name ∙ ap (last_place p.name.now) (names-front xs ys p e)))
      (subst (λ b. IsSome (if b then Some (length (names_of ys)) else last_place p.name.now (names_of ys))) (sym (bytes_same p.name.now p.name.now refl)) refl)

  -- without it, with what it had before put back
  pub shorter : (new : HashMap (Bor (List ℕ)) (Option ℕ) S) → ((q : Bor (List ℕ)) → placed new q ≡ (if same_name p.name q then p.before else placed table q)) → Known ys new
  shorter new says = record {
    last = λ q. says q ∙ by q (bytes_eq p.name.now q.now) refl;
    before = tail-is p.before (last_place p.name.now (names_of ys)) (befores_of ys) (befores (names_of ys)) both;
  }
    where
      by : (q : Bor (List ℕ)) (b : Bool) → bytes_eq p.name.now q.now ≡ b → (if b then p.before else placed table q) ≡ last_place q.now (names_of ys)
      by q true is = head-is p.before (last_place p.name.now (names_of ys)) (befores_of ys) (befores (names_of ys)) both
          ∙ ap (λ n. last_place n (names_of ys)) (same_bytes p.name.now q.now is)
      by q false is = known.last q ∙ ap (last_place q.now) (names-front xs ys p e)
          ∙ ap (λ b. if b then Some (length (names_of ys)) else last_place q.now (names_of ys)) is
