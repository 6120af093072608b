-- An end that no environment with a type leads to, and what a complete type tells.
use Rattle.std.proofs.Common.{◌≡◌, ℕ, zero, suc, ◌+◌, ◌<◌, ◌≤◌, ◌==◌, nat_lt, Bool, true, false, ◌&&◌, ◌||◌, List, [], ◌∷◌, ◌++◌, length, reverse, bytes_eq, Option, Some, None, slice_get, refl, sym, ap, subst, ◌∙◌, true≢false, arith, lit≤, length-append, eq-eqb}
use Rattle.std.specs.List.{list_any}
use Rattle.std.specs.Prelude.{nat_eq}
use Rattle.std.specs.Cmp.Lexicographic.{pointwise}
use Rattle.std.proofs.lemmas.Bool.{eqb-true}
use Rattle.std.proofs.lemmas.Bool.Decides.{nat_tests}
use Rattle.std.proofs.lemmas.List.{length-reverse}
use Rattle.cf_types.specs.declared.ty.Ty.{Ty}
use Rattle.cf_types.specs.Table.{Table}
use Rattle.cf_classes.specs.TypeTree.{of_types}
use Rattle.cf_core.specs.declared.unit.CoreFn.{CoreFn}
use Rattle.cf_core.specs.FromTypes.{Tables, type_of, type_step}
use Rattle.cf_core.specs.Numbers.{has_type}
use Rattle.cf_core.specs.Types.{SourceType, void}
use Rattle.cf_core.specs.Valid.{is_complete}
use Rattle.cf_elab.specs.Env.{Env, Name}
use Rattle.cf_elab_valid.specs.Scene.{Scene, IsScene, Begins, Within}
use Rattle.cf_elab_valid_files.specs.Bodies.Laws.{IsEnd}

-- ---- an end without types

-- with these functions and this result
abbrev pub nowhere : List CoreFn → ℕ → Scene
nowhere fs result = record { tables = record { types = record { types = []; funs = [] }; classes = record { labels = []; enums = []; defined = [] } }; statics = []; functions = fs; locals = []; result = result }

pub nowhere-end : (fs : List CoreFn) (result : ℕ) → IsEnd (nowhere fs result)
nowhere-end fs result = record {
  scene = record {
    table = record {
      earlier = λ i v h. absurd cc;
      known = λ f fun h. absurd cc;
      normal = λ i v h. absurd cc;
      parameters = λ f fun h. absurd cc;
      one_number = record { same = λ i j v h k. absurd cc };
      one_fun_number = record { same = λ i j v h k. absurd cc };
      types_fit = lit≤ tt;
      funs_fit = lit≤ tt;
    };
    no_class = λ i d w. absurd (omega arith);
    none_to_reference = λ t v h. absurd cc;
    sizes = λ t w. absurd (omega arith);
  };
  arrays = λ t u n h. absurd cc;
  frame = λ i t h. absurd cc;
}

pub never-within : (e : Env) (fs : List CoreFn) (result : ℕ) → zero < length e.types.types → Within e (nowhere fs result) → ⊥
never-within e fs result some w = let all = ap length w.types.all in omega (arith, all, length-append e.types.types w.types.more)

-- ---- names

pub same-name : (xs : Name) → bytes_eq xs xs ≡ true
same-name [] = refl
same-name (x ∷ xs) = ap (λ b. b && pointwise nat_eq xs xs) (eq-eqb x x refl) ∙ same-name xs

pub any-at : {A : Type 0} (test : A → Bool) (xs : List A) (n : ℕ) (x : A) → slice_get xs n ≡ Some x → test x ≡ true → list_any test xs ≡ true
any-at test [] n x h t = absurd cc
any-at test (y ∷ ys) zero x h t = let same : y ≡ x = cc in ap (λ b. b || list_any test ys) (ap test same ∙ t)
any-at test (y ∷ ys) (suc n) x h t = ap (λ b. test y || b) (any-at test ys n x h t) ∙ or_true (test y)
  where
    or_true : (b : Bool) → (b || true) ≡ true
    or_true true = refl
    or_true false = refl

-- ---- a complete type is there

beyond : {A : Type 0} (none : A) (make : (ℕ → A) → Ty → A) (xs : List Ty) (t : ℕ) → length xs ≤ t → of_types none make xs t ≡ none
beyond none make [] t h = refl
beyond {A} none make (x ∷ xs) t h = by (λ k. beyond none make xs t k) (t == length xs) refl
  where
    by : (length xs ≤ t → of_types none make xs t ≡ none) → (b : Bool) → (t == length xs) ≡ b → (elim b as (λ _. A) [ true ↦ make (of_types none make xs) x | false ↦ of_types none make xs t ]) ≡ none
    by rest true is = let same = eqb-true t (length xs) is in absurd (omega (arith, same, h))
    by rest false is = rest (omega (arith, h))

le-from : (n m : ℕ) → nat_lt n m ≡ false → m ≤ n
le-from n m h = grind (arith, nat_tests, h)

pub has-complete : (T : Tables) (t : ℕ) → is_complete [] (type_of T t) ≡ true → has_type T t ≡ true
has-complete T t whole = by (nat_lt t (length T.types.types)) refl
  where
    reversed : length T.types.types ≤ t → length (reverse T.types.types) ≤ t
    reversed h = subst (λ n. n ≤ t) (sym (length-reverse T.types.types)) h

    by : (b : Bool) → nat_lt t (length T.types.types) ≡ b → b ≡ true
    by true is = refl
    by false is = absurd (true≢false (sym whole ∙ ap (is_complete []) (beyond void (type_step T) (reverse T.types.types) t (reversed (le-from t (length T.types.types) is)))))

-- ---- lists

pub get-behind : {A : Type 0} (xs ys : List A) (i : ℕ) (x : A) → slice_get ys i ≡ Some x → slice_get (xs ++ ys) (length xs + i) ≡ Some x
get-behind [] ys i x h = let same : 0 + i ≡ i = omega arith in subst (λ k. slice_get ys k ≡ Some x) (sym same) h
get-behind (y ∷ xs) ys i x h = let same : length (y ∷ xs) + i ≡ suc (length xs + i) = omega arith in subst (λ k. slice_get (y ∷ (xs ++ ys)) k ≡ Some x) (sym same) (get-behind xs ys i x h)
