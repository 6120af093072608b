-- The look at the end of a file tells what the law of files asks of it.
use Rattle.std.proofs.Common.{◌≡◌, ℕ, zero, suc, ◌<◌, nat_lt, Bool, true, false, not, ◌&&◌, List, [], ◌∷◌, ◌++◌, length, map, All, Option, Some, None, slice_get, refl, sym, ap, ◌∙◌, true≢false, arith}
use Rattle.std.specs.List.{list_all}
use Rattle.std.specs.Option.{option_map_or}
use Rattle.std.proofs.lemmas.Bool.Decides.{nat_tests}
use Rattle.std.proofs.lemmas.List.Elements.{All-head}
use Rattle.std.proofs.lemmas.Option.{slice_get_within}
use Rattle.cf_types.specs.declared.ty.Fun.{Fun}
use Rattle.cf_types.specs.declared.ty.Ty.{Ty}
use Rattle.cf_types.specs.declared.ty.Ty.TheVariants as ty
use Rattle.cf_types.specs.Table.{IsTable}
use Rattle.cf_core.specs.declared.unit.CoreFn.{CoreFn}
use Rattle.cf_core.specs.declared.unit.CoreStatic.{CoreStatic}
use Rattle.cf_core.specs.FromTypes.{Tables, type_of}
use Rattle.cf_core.specs.FromUnit.{is_short}
use Rattle.cf_core.specs.Valid.{is_complete, result_fits, all_differ}
use Rattle.cf_core_typed.proofs.Same.{and-left, and-right}
use Rattle.cf_elab.specs.Env.{Env}
use Rattle.cf_elab.specs.Operand.{sort_of, is_reference, is_void}
use Rattle.cf_elab_env.specs.Holds.{HasNoClass}
use Rattle.cf_elab_env.proofs.Sorts.{below_at}
use Rattle.cf_elab_valid.specs.Sorts.{Aims}
use Rattle.cf_elab_valid_files.specs.File.Ends.{is_object, is_given, aims_right, no_locals, names_right, can_be_made, can_be_given, frame_right, objects_right, is_finished}
use Rattle.cf_elab_valid_files.specs.File.Laws.{tables_of, IsFinished}
use Rattle.cf_elab_valid_files.proofs.FileLaws.Sorted.{reference-told, void-told, given-told, complete-told, result-told}

-- each of a list passes
all-get : {A : Type 0} (test : A → Bool) (xs : List A) (n : ℕ) (x : A) → list_all test xs ≡ true → slice_get xs n ≡ Some x → test x ≡ true
all-get test [] n x h at = absurd cc
all-get test (y ∷ ys) zero x h at = let same : y ≡ x = cc in sym (ap test same) ∙ and-left (test y) (list_all test ys) h
all-get test (y ∷ ys) (suc n) x h at = all-get test ys n x (and-right (test y) (list_all test ys) h) at

not-told : (b : Bool) → not b ≡ true → b ≡ false
not-told false h = refl
not-told true h = absurd (true≢false (sym h))

none-told : (l : List ℕ) → no_locals l ≡ true → l ≡ []
none-told [] h = refl
none-told (t ∷ l) h = absurd (true≢false (sym h))

lt-told : (n m : ℕ) → nat_lt n m ≡ true → n < m
lt-told n m h = grind (arith, nat_tests, h)

module _ (T : Tables) (well : IsTable T.types) (plain : HasNoClass T.types) (right : list_all (aims_right T.types) T.types.types ≡ true) where
  abbrev Known : ℕ → Type 0
  Known t = t < length T.types.types

  at-told : (t : ℕ) (v : Ty) → slice_get T.types.types t ≡ Some v → aims_right T.types v ≡ true
  at-told t v at = all-get (aims_right T.types) T.types.types t v right at

  below : (t u : ℕ) (v : Ty) → slice_get T.types.types t ≡ Some v → u < t → Known u
  below t u v at lt = let inside = slice_get_within T.types.types t v at in omega (arith, lt, inside)

  elements-told : (t u n : ℕ) → slice_get T.types.types t ≡ Some (ty.Array u n) → is_object (sort_of T.types u) ≡ true
  elements-told t u n at = and-right (not (is_reference (sort_of T.types u))) (is_object (sort_of T.types u)) (at-told t (ty.Array u n) at)

  -- where a type leads to
  aim : (t : ℕ) (v : Ty) → slice_get T.types.types t ≡ Some v → Aims T v
  aim t (ty.Ptr u) at = reference-told T well plain u (below t u (ty.Ptr u) at (below_at T.types t (ty.Ptr u) well at)) (not-told (is_reference (sort_of T.types u)) (at-told t (ty.Ptr u) at))
  aim t (ty.Ref u) at =
      let k = below t u (ty.Ref u) at (below_at T.types t (ty.Ref u) well at) in
      let told = at-told t (ty.Ref u) at in
      let a : Bool = not (is_reference (sort_of T.types u)) in
      let b : Bool = not (is_void (sort_of T.types u)) in
      (reference-told T well plain u k (not-told (is_reference (sort_of T.types u)) (and-left a b told)), void-told T well plain u k (not-told (is_void (sort_of T.types u)) (and-right a b told)))
  aim t (ty.Array u n) at =
      reference-told T well plain u (below t u (ty.Array u n) at (below_at T.types t (ty.Array u n) well at))
      (not-told (is_reference (sort_of T.types u)) (and-left (not (is_reference (sort_of T.types u))) (is_object (sort_of T.types u)) (at-told t (ty.Array u n) at)))
  aim t (ty.Fun f) at = λ g there.
      let told : is_given (sort_of T.types g.result) ≡ true = sym (ap (λ o. option_map_or (λ (x : Fun). is_given (sort_of T.types x.result)) o true) there) ∙ at-told t (ty.Fun f) at in
      given-told T well plain g.result (All-head (λ p. p < length T.types.types) g.result g.params (well.known f g there)) told
  aim t ty.Void at = tt
  aim t (ty.Int k) at = tt
  aim t (ty.Enum n) at = tt
  aim t (ty.Class n) at = tt
  aim t (ty.MemData n m) at = tt
  aim t (ty.MemFun n m) at = tt
  aim t (ty.Const u) at = tt

  made-told : (t : ℕ) → can_be_made T.types t ≡ true → is_complete [] (type_of T t) ≡ true
  made-told t h =
      let a : Bool = nat_lt t (length T.types.types) in
      complete-told T well plain elements-told t (lt-told t (length T.types.types) (and-left a (is_object (sort_of T.types t)) h)) (and-right a (is_object (sort_of T.types t)) h)

  gives-told : (t : ℕ) → can_be_given T.types t ≡ true → result_fits [] (type_of T t) ≡ true
  gives-told t h =
      let a : Bool = nat_lt t (length T.types.types) in
      result-told T well plain elements-told t (lt-told t (length T.types.types) (and-left a (is_given (sort_of T.types t)) h)) (and-right a (is_given (sort_of T.types t)) h)

  whole-told : (t u n : ℕ) → slice_get T.types.types t ≡ Some (ty.Array u n) → is_complete [] (type_of T u) ≡ true
  whole-told t u n at = complete-told T well plain elements-told u (below t u (ty.Array u n) at (below_at T.types t (ty.Array u n) well at)) (elements-told t u n at)

pub decided : (e : Env) → IsTable e.types → HasNoClass e.types → is_finished e ≡ true → IsFinished e
decided e table plain h =
    let T = tables_of e in
    let begun : Bool = no_locals e.hand.locals && list_all (aims_right e.types) e.types.types in
    let ended : Bool = names_right e && objects_right e in
    let first = and-left begun ended h in
    let right = and-right (no_locals e.hand.locals) (list_all (aims_right e.types) e.types.types) first in
    let names = and-left (names_right e) (objects_right e) (and-right begun ended h) in
    let objects = and-right (names_right e) (objects_right e) (and-right begun ended h) in
    let differ : Bool = all_differ (map (λ (f : CoreFn). f.name) e.functions ++ map (λ (x : CoreStatic). x.name) e.statics) in
    let functions_short : Bool = list_all (λ (f : CoreFn). is_short f.name) e.functions in
    let statics_short : Bool = list_all (λ (x : CoreStatic). is_short x.name) e.statics in
    let short = and-right differ (functions_short && statics_short) names in
    let frames : Bool = list_all (frame_right e.types) e.functions in
    let whole : Bool = list_all (λ (x : CoreStatic). can_be_made e.types x.ty) e.statics in
    let framed = and-left frames whole objects in record {
      table = table;
      aims = λ t v at. aim T table plain right t v at;
      elements = λ t u n at. whole-told T table plain right t u n at;
      hand = none-told e.hand.locals (and-left (no_locals e.hand.locals) (list_all (aims_right e.types) e.types.types) first);
      names = and-left differ (functions_short && statics_short) names;
      short_functions = and-left functions_short statics_short short;
      short_statics = and-right functions_short statics_short short;
      frames = λ n f at i t there. made-told T table plain right t
          (all-get (can_be_made e.types) (f.params ++ f.locals) i t (and-left (list_all (can_be_made e.types) (f.params ++ f.locals)) (can_be_given e.types f.result) (all-get (frame_right e.types) e.functions n f framed at)) there);
      results = λ n f at. gives-told T table plain right f.result
          (and-right (list_all (can_be_made e.types) (f.params ++ f.locals)) (can_be_given e.types f.result) (all-get (frame_right e.types) e.functions n f framed at));
      statics = λ n x at. made-told T table plain right x.ty (all-get (λ (y : CoreStatic). can_be_made e.types y.ty) e.statics n x (and-right frames whole objects) at);
    }
