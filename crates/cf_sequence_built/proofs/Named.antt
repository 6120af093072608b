-- The type of an object's name is the object's, where no two things of a file have one name.
use Rattle.std.proofs.Common.{◌≡◌, ℕ, zero, suc, ◌<◌, Bool, true, false, not, ◌&&◌, ◌||◌, cond, List, [], ◌∷◌, ◌++◌, map, length, get_or, refl, ap, sym, subst, ◌∙◌, arith}
use Rattle.std.specs.Prelude.{Option, Some, None, find, bytes_eq}
use Rattle.std.specs.List.{list_all, list_any}
use Rattle.cf_base.proofs.Tests.{both, bytes_same}
use Rattle.cf_core.specs.declared.unit.CoreStatic.{CoreStatic}
use Rattle.cf_core.specs.Types.{Name, SourceType, void}
use Rattle.cf_core.specs.Classes.{Class}
use Rattle.cf_core.specs.Core.{Function, Static}
use Rattle.cf_core.specs.Valid as checks
use Rattle.cf_core.specs.Valid.{all_differ}
use Rattle.cf_core.specs.FromTypes.{Tables, type_of}
use Rattle.cf_core.specs.FromUnit.{Unit, IsValid, tables_of, file_of, static_of}
use Rattle.cf_sequence_built.specs.Unbuilt.{type_named}

abbrev names_of : List CoreStatic → List Name
names_of xs = map (λ (x : CoreStatic). x.name) xs

pub differ_right : (ms ns : List Name) → all_differ (ms ++ ns) ≡ true → all_differ ns ≡ true
differ_right [] ns ok = ok
differ_right (m ∷ ms) ns ok = differ_right ms ns (both (not (list_any (bytes_eq m) (ms ++ ns))) (all_differ (ms ++ ns)) ok).1

or-right : (a b : Bool) → b ≡ true → a || b ≡ true
or-right true b e = refl
or-right false b e = e

not-both : (b : Bool) → b ≡ true → not b ≡ true → true ≡ false
not-both true e n = sym n
not-both false e n = sym e

-- the name of one of them is among theirs
among : (p : Name → Bool) (xs : List CoreStatic) (i : ℕ) (x : CoreStatic) → i < length xs → x ≡ get_or xs i x → p x.name ≡ true → list_any p (names_of xs) ≡ true
among p [] i x lt is holds = absurd (omega (arith, lt))
among p (y ∷ ys) zero x lt is holds = ap (λ b. b || list_any p (names_of ys)) (ap (λ (z : CoreStatic). p z.name) (sym is) ∙ holds)
among p (y ∷ ys) (suc i) x lt is holds = or-right (p y.name) (list_any p (names_of ys)) (among p ys i x (omega (arith, lt)) is holds)

module _ (tables : Tables) where
  abbrev found : Option CoreStatic → SourceType
  found None = void
  found (Some x) = type_of tables x.ty

  own_at : (xs : List CoreStatic) (i : ℕ) (x : CoreStatic) → i < length xs → x ≡ get_or xs i x → all_differ (names_of xs) ≡ true → type_named tables xs x.name ≡ type_of tables x.ty
  own_at [] i x lt is differ = absurd (omega (arith, lt))
  own_at (y ∷ ys) zero x lt is differ =
      ap (λ b. found (cond b (Some y) (find (λ (z : CoreStatic). bytes_eq z.name x.name) ys))) (bytes_same y.name x.name (ap (λ (z : CoreStatic). z.name) (sym is)))
      ∙ ap (λ (z : CoreStatic). type_of tables z.ty) (sym is)
  own_at (y ∷ ys) (suc i) x lt is differ =
      let parts = both (not (list_any (bytes_eq y.name) (names_of ys))) (all_differ (names_of ys)) differ in
      by (bytes_eq y.name x.name) refl parts.0 (own_at ys i x (omega (arith, lt)) is parts.1)
    where
      others : Option CoreStatic
      others = find (λ (z : CoreStatic). bytes_eq z.name x.name) ys

      by : (b : Bool) → bytes_eq y.name x.name ≡ b → not (list_any (bytes_eq y.name) (names_of ys)) ≡ true → found others ≡ type_of tables x.ty
          → found (cond b (Some y) others) ≡ type_of tables x.ty
      by true e none later = let never : true ≡ false = not-both (list_any (bytes_eq y.name) (names_of ys)) (among (bytes_eq y.name) ys i x (omega (arith, lt)) is e) none in absurd (cc)
      by false e none later = later

same-names : (tables : Tables) (xs : List CoreStatic) → map (λ (x : Static). x.name) (map (static_of tables) xs) ≡ names_of xs
same-names tables [] = refl
same-names tables (x ∷ xs) = ap (λ (ns : List Name). x.name ∷ ns) (same-names tables xs)

-- of a valid file
pub own_type : (unit : Unit) → IsValid unit → (xs : List CoreStatic) → xs ≡ unit.statics → (i : ℕ) (x : CoreStatic) → i < length xs → x ≡ get_or xs i x
    → type_named (tables_of unit) unit.statics x.name ≡ type_of (tables_of unit) x.ty
own_type unit valid xs same i x lt is =
    let classes = (file_of unit).classes in
    let functions = (file_of unit).functions in
    let statics = (file_of unit).statics in
    let classes_good : Bool = checks.classes_fit [] classes && list_all (λ (c : Class). checks.overriders_exist classes c.code) classes in
    let names : List Name = map (λ (f : Function). f.name) functions ++ map (λ (x : Static). x.name) statics in
    let functions_good : Bool = list_all (checks.function_fits (file_of unit)) functions in
    let one = both (classes_good && all_differ names && functions_good) (list_all (checks.static_fits (file_of unit)) statics) valid.file in
    let differ = (both classes_good (all_differ names) (both (classes_good && all_differ names) functions_good one.0).0).1 in
    subst (λ (ys : List CoreStatic). type_named (tables_of unit) ys x.name ≡ type_of (tables_of unit) x.ty) same
    (own_at (tables_of unit) xs i x lt is
    (subst (λ (ys : List CoreStatic). all_differ (names_of ys) ≡ true) (sym same)
    (sym (ap all_differ (same-names (tables_of unit) unit.statics)) ∙ differ_right (map (λ (f : Function). f.name) functions) (map (λ (x : Static). x.name) statics) differ)))
