-- Types of parameters, one by one.
use Rattle.std.proofs.Common.{◌≡◌, ◌≢◌, ℕ, suc, ◌+◌, ◌≤◌, Bool, true, false, ◌&&◌, List, [], ◌∷◌, length, map, drop, Some, Ok, slice_get, refl, ap, sym, ◌∙◌}
use Rattle.std.proofs.lemmas.List.{drop_all}
use Rattle.cc_whole.specs.declared.types.CType.{CType}
use Rattle.cc_whole.specs.declared.expression.CExpression.{CExpression}
use Rattle.cc_whole.specs.Plain.{expression_of}
use Rattle.cc_whole.specs.Known.{Named}
use Rattle.cc_whole.specs.Types.{same_type, same_types}
use Rattle.cc_whole_valid.specs.declared.stop.Stop.{Stop}
use Rattle.cc_whole_valid.specs.Walk.{and_then, ◌>>=◌, Fails}
use Rattle.cc_whole_valid.specs.Checking.{argument_from, arguments_from}
use Rattle.cc_whole_valid.proofs.ListLaws.{left_get}
use Rattle.cc_whole_valid.proofs.WalkLaws.{fails_then, fails_by}

pub other_lengths : (ss ts : List CType) → length ss ≢ length ts → false ≡ same_types ss ts
other_lengths [] [] h = absurd (h refl)
other_lengths [] (t ∷ ts) h = refl
other_lengths (s ∷ ss) [] h = refl
other_lengths (s ∷ ss) (t ∷ ts) h = other_lengths ss ts (λ e. h (ap suc e)) ∙ by (same_type s t) (same_types ss ts) (other_lengths ss ts (λ e. h (ap suc e)))
  where
    by : (a b : Bool) → false ≡ b → b ≡ (a && b)
    by true b e = refl
    by false b e = sym e

module _ (ss ts : List CType) (i : ℕ) (s t : CType) (here : slice_get ss i ≡ Some s) (there : slice_get ts i ≡ Some t)
    (so_far : same_types (drop i ss) (drop i ts) ≡ same_types ss ts) where
  opened : (same_type s t && same_types (drop (i + 1) ss) (drop (i + 1) ts)) ≡ same_types ss ts
  opened = sym (ap (λ l. same_types l (drop i ts)) (left_get ss i s here) ∙ ap (same_types (s ∷ drop (i + 1) ss)) (left_get ts i t there)) ∙ so_far

  pub differ_here : same_type s t ≡ false → false ≡ same_types ss ts
  differ_here e = sym (ap (λ b. b && same_types (drop (i + 1) ss) (drop (i + 1) ts)) e) ∙ opened

  pub same_here : same_type s t ≡ true → same_types (drop (i + 1) ss) (drop (i + 1) ts) ≡ same_types ss ts
  same_here e = sym (ap (λ b. b && same_types (drop (i + 1) ss) (drop (i + 1) ts)) e) ∙ opened

pub same_to_the_end : (ss ts : List CType) (i : ℕ) → length ss ≤ i → length ts ≤ i → same_types (drop i ss) (drop i ts) ≡ same_types ss ts → true ≡ same_types ss ts
same_to_the_end ss ts i h k e = sym (ap (λ l. same_types l (drop i ts)) (drop_all i ss h) ∙ ap (same_types []) (drop_all i ts k)) ∙ e

-- ---- arguments

module _ (ts : List CType) (es : List CExpression) (names : List Named) (i at before : ℕ) (t : CType) (e : CExpression) (here : slice_get ts i ≡ Some t)
    (there : drop i es ≡ e ∷ drop (i + 1) es)
    (so_far : arguments_from (drop i ts) (map expression_of (drop i es)) names at ≡ arguments_from ts (map expression_of es) names before) where
  argument : (argument_from t (expression_of e) names >>= (λ u. arguments_from (drop (i + 1) ts) (map expression_of (drop (i + 1) es)) names)) at
      ≡ arguments_from ts (map expression_of es) names before
  argument =
      sym (ap (λ l. arguments_from l (map expression_of (drop i es)) names at) (left_get ts i t here)
      ∙ ap (λ l. arguments_from (t ∷ drop (i + 1) ts) (map expression_of l) names at) there) ∙ so_far

  pub argument_stops : (x : Stop) → Fails (argument_from t (expression_of e) names at) x → Fails (arguments_from ts (map expression_of es) names before) x
  argument_stops x h = fails_by _ _ x argument (fails_then _ (λ u. arguments_from (drop (i + 1) ts) (map expression_of (drop (i + 1) es)) names) x h)

  pub argument_passed : (u : Unit {0}) (behind : ℕ) → argument_from t (expression_of e) names at ≡ Ok (u, behind)
      → arguments_from (drop (i + 1) ts) (map expression_of (drop (i + 1) es)) names behind ≡ arguments_from ts (map expression_of es) names before
  argument_passed u behind h = sym (ap (λ r. and_then r (λ u. arguments_from (drop (i + 1) ts) (map expression_of (drop (i + 1) es)) names)) h) ∙ argument
