-- What the table of types tells of a type by those before it.
use Rattle.std.proofs.Common.{◌≡◌, ◌∙◌, ℕ, zero, suc, ◌+◌, ◌<◌, ◌≤◌, Bool, true, false, ◌&&◌, not, nat_le, nat_lt, ◌-◌, List, [], ◌∷◌, ◌++◌, map, length, get_or, Option, Some, None, slice_get, All, ap, refl, sym, subst, arith, below_more}
use Rattle.std.specs.List.{list_all}
use Rattle.std.proofs.lemmas.List.{length-append, get_or_append_left, get_or-append_right, get_or_past}
use Rattle.std.proofs.lemmas.Bool.Decides.{nat_tests}
use Rattle.cf_types.specs.declared.ty.Ty.{Ty}
use Rattle.cf_types.specs.declared.ty.Ty.TheVariants as ty
use Rattle.cf_types.specs.declared.ty.Fun.{Fun}
use Rattle.cf_types.specs.Table.{Names, parts_of_fun}
use Rattle.cf_core.specs.Types.{SourceType, gives}
use Rattle.cf_core.specs.Places.{is_reference}
use Rattle.cf_core.specs.Typing.{is_function}
use Rattle.cf_core.specs.FromTypes.{Tables, type_of, type_step, taking, fun_type}
use Rattle.cf_core_typed.specs.Same.{takes_const}
use Rattle.cf_core_sound.specs.Proper.{most, is_proper}
use Rattle.cf_lower_types.proofs.Entries.{missing}
use Rattle.cf_sound.specs.Tabled.{AreKnown, AreProper, signature_known, target_known, entry_known}

proper-taking : (r : SourceType) (b : Bool) (ps : List SourceType) → is_proper (taking ps (gives r b)) ≡ (list_all is_proper ps && is_proper r)
proper-taking r b [] = refl
proper-taking r b (p ∷ ps) = ap (λ c. is_proper p && c) (proper-taking r b ps) ∙ grouped (is_proper p) (list_all is_proper ps) (is_proper r)
  where
    grouped : (x y z : Bool) → (x && (y && z)) ≡ ((x && y) && z)
    grouped true y z = refl
    grouped false y z = refl

module _ (tables : Tables) (n : ℕ) (known : List Bool) (all : AreKnown tables n known) where
  all-known : (ps : List ℕ) → All (λ p. p < n) ps → list_all (λ t. get_or known t true) ps ≡ list_all is_proper (map (type_of tables) ps)
  all-known [] before = refl
  all-known (p ∷ ps) before =
      ap (λ b. b && list_all (λ t. get_or known t true) ps) (all.at p (before 0 p (omega arith)))
      ∙ ap (λ b. is_proper (type_of tables p) && b) (all-known ps (λ k d lt. before (suc k) d (omega arith)))

  signature : (o : Option Fun) → All (λ p. p < n) (parts_of_fun o) → signature_known known o ≡ is_proper (fun_type (type_of tables) o)
  signature None before = refl
  signature (Some f) before =
      ap (λ b. b && get_or known f.result true) (all-known f.params (λ k d lt. before (suc k) d (omega arith)))
      ∙ ap (λ b. list_all is_proper (map (type_of tables) f.params) && b) (all.at f.result (before 0 f.result (omega arith)))
      ∙ sym (proper-taking (type_of tables f.result) f.is_const (map (type_of tables) f.params))

  target : (t : ℕ) → t < n → target_known tables known t ≡ (not (is_reference (type_of tables t)) && is_proper (type_of tables t))
  target t lt = ap (λ b. not (is_reference (type_of tables t)) && b) (all.at t lt)

  pub entry-known : (v : Ty) → Names tables.types.funs n (length tables.types.funs) v → entry_known tables known v ≡ is_proper (type_step tables (type_of tables) v)
  entry-known ty.Void names = refl
  entry-known (ty.Int k) names = refl
  entry-known (ty.Enum e) names = refl
  entry-known (ty.Class c) names = refl
  entry-known (ty.Ptr t) names = target t (names.parts_known 0 t (omega arith))
  entry-known (ty.Ref t) names = target t (names.parts_known 0 t (omega arith))
  entry-known (ty.Array t m) names =
      ap (λ b. not (is_reference (type_of tables t)) && (b && (not (is_function (type_of tables t)) && nat_le m most))) (all.at t (names.parts_known 0 t (omega arith)))
  entry-known (ty.Fun f) names = signature (slice_get tables.types.funs f) names.parts_known
  entry-known (ty.MemData c t) names = all.at t (names.parts_known 0 t (omega arith))
  entry-known (ty.MemFun c f) names = signature (slice_get tables.types.funs f) names.parts_known
  entry-known (ty.Const t) names = ap (λ b. takes_const (type_of tables t) && b) (all.at t (names.parts_known 0 t (omega arith)))

  pub type_known : (v : Ty) → Names tables.types.funs n (length tables.types.funs) v → type_of tables n ≡ type_step tables (type_of tables) v
      → entry_known tables known v ≡ is_proper (type_of tables n)
  type_known v names value = entry-known v names ∙ sym (ap is_proper value)

  -- one more
  pub known_more : (b : Bool) → b ≡ is_proper (type_of tables n) → AreKnown tables (n + 1) (known ++ b ∷ [])
  known_more b is = record {
    size = length-append known (b ∷ []) ∙ ap (λ m. m + 1) all.size;
    at = below_more (λ t. get_or (known ++ b ∷ []) t true ≡ is_proper (type_of tables t)) n (λ t lt. before t lt) last;
  }
    where
      before : (t : ℕ) → t < n → get_or (known ++ b ∷ []) t true ≡ is_proper (type_of tables t)
      before t lt = let size = all.size in get_or_append_left known (b ∷ []) true t (omega (arith, size)) ∙ all.at t lt

      last : get_or (known ++ b ∷ []) n true ≡ is_proper (type_of tables n)
      last =
          let none : n - n ≡ 0 = omega arith in
          get_or-append_right known (b ∷ []) n n true all.size (omega arith) ∙ ap (λ m. get_or (b ∷ []) m true) none ∙ is

pub known_none : (tables : Tables) → AreKnown tables 0 []
known_none tables = record { size = refl; at = λ t lt. absurd (omega (arith, lt)) }

pub known_all : (tables : Tables) (n : ℕ) (known : List Bool) → AreKnown tables n known → length tables.types.types ≤ n → AreProper tables known
known_all tables n known all past = record { at = λ t. by t (nat_lt t n) refl }
  where
    by : (t : ℕ) (b : Bool) → nat_lt t n ≡ b → get_or known t true ≡ is_proper (type_of tables t)
    by t true e = all.at t (let lt : t < n = grind (arith, nat_tests, e) in lt)
    by t false e =
        let beyond : n ≤ t = grind (arith, nat_tests, e) in
        let size = all.size in
        get_or_past known t true (omega (arith, size, beyond)) ∙ sym (ap is_proper (missing tables t (omega (arith, beyond, past))))
