-- The labels of a switch, one statement after the other.
use Rattle.std.proofs.Common.{◌≡◌, ℕ, ◌+◌, ◌<◌, ◌≤◌, Bool, true, false, ◌&&◌, ◌||◌, not, List, [], ◌∷◌, length, drop, get_or, refl, sym, ap, ◌∙◌, arith}
use Rattle.std.specs.Prelude.{int_le}
use Rattle.std.proofs.lemmas.List.{at_drop_all}
use Rattle.cf_base.specs.declared.kind.Kind.{Kind}
use Rattle.cf_plain.specs.declared.statement.Plain.{Plain as CodePlain}
use Rattle.cf_plain.specs.Plain.{Plain, Plains, case_label, default_label, nothing, more}
use Rattle.cf_plain.specs.Running.{has_case}
use Rattle.cf_plain.specs.Valid.{labels_differ}
use Rattle.cf_lower_held.specs.declared.scene.Scene.{Scene}
use Rattle.cf_lower_held.specs.Scenes.{statement_in, statements_in}
use Rattle.cf_lower_held.proofs.Forgotten.{drop_item}
use Rattle.cf_lower_place.specs.InPlace.{labels_fit}
use Rattle.cf_lowerable_places.specs.declared.labels.Label.{Label}
use Rattle.cf_lowerable_places.specs.declared.labels.Label.TheVariants as label
use Rattle.cf_lowerable_places.specs.Labels.{label_in, label_fits, same_label, lacks}

-- ---- one statement more

fits_one : (k : Kind) (s : Plain) (ss : Plains) → labels_fit k (more s ss) ≡ (label_fits k (label_in s) && labels_fit k ss)
fits_one k (case_label z) ss = refl
fits_one k s ss = refl

not_either : (a b : Bool) → not (a || b) ≡ (not a && not b)
not_either true b = refl
not_either false b = refl

lacks_one : (l : Label) (s : Plain) (ss : Plains) → lacks l (more s ss) ≡ (not (same_label l (label_in s)) && lacks l ss)
lacks_one (label.Case z) (case_label y) ss = not_either (int_le y z && int_le z y) (has_case z ss)
lacks_one (label.Case z) s ss = refl
lacks_one label.Default default_label ss = refl
lacks_one label.Default s ss = refl
lacks_one label.No s ss = refl

differ_one : (s : Plain) (ss : Plains) → labels_differ [] (more s ss) ≡ (lacks (label_in s) ss && labels_differ [] ss)
differ_one (case_label z) ss = refl
differ_one default_label ss = refl
differ_one s ss = refl

-- ---- what is asked of each statement

module _ (x : Scene) (P : Plains → Bool) (p : Label → Bool) (one : (s : Plain) (ss : Plains) → P (more s ss) ≡ (p (label_in s) && P ss)) (all : List CodePlain) (i : ℕ) (whole : Bool)
    (so_far : P (statements_in x (drop i all)) ≡ whole) where
  module _ (s : CodePlain) (within : i < length all) (is : s ≡ get_or all i s) where
    next : whole ≡ (p (label_in (statement_in x s)) && P (statements_in x (drop (i + 1) all)))
    next = sym so_far ∙ ap (λ l. P (statements_in x l)) (drop_item all i s within is) ∙ one (statement_in x s) (statements_in x (drop (i + 1) all))

    pub goes_on : p (label_in (statement_in x s)) ≡ true → P (statements_in x (drop (i + 1) all)) ≡ whole
    goes_on sure = sym (next ∙ ap (λ b. b && P (statements_in x (drop (i + 1) all))) sure)

    pub stops : p (label_in (statement_in x s)) ≡ false → false ≡ whole
    stops not_so = sym (next ∙ ap (λ b. b && P (statements_in x (drop (i + 1) all))) not_so)

  pub ended : P nothing ≡ true → length all ≤ i → true ≡ whole
  ended none past = sym none ∙ sym (at_drop_all (λ (l : List CodePlain). P (statements_in x l)) all i past) ∙ so_far

module _ (x : Scene) (all : List CodePlain) (i : ℕ) (whole : Bool) where
  module _ (k : Kind) (so_far : labels_fit k (statements_in x (drop i all)) ≡ whole) where
    pub fit_more : (s : CodePlain) (l : Label) (b : Bool) → i < length all → s ≡ get_or all i s → l ≡ label_in (statement_in x s) → b ≡ label_fits k l → b ≡ true
        → labels_fit k (statements_in x (drop (i + 1) all)) ≡ whole
    fit_more s l b within is at fit sure = goes_on x (labels_fit k) (label_fits k) (fits_one k) all i whole so_far s within is (sym (ap (label_fits k) at) ∙ sym fit ∙ sure)

    pub fit_stops : (s : CodePlain) (l : Label) (b : Bool) → i < length all → s ≡ get_or all i s → l ≡ label_in (statement_in x s) → b ≡ label_fits k l → b ≡ false → false ≡ whole
    fit_stops s l b within is at fit not_so = stops x (labels_fit k) (label_fits k) (fits_one k) all i whole so_far s within is (sym (ap (label_fits k) at) ∙ sym fit ∙ not_so)

    pub fit_ended : length all ≤ i → true ≡ whole
    fit_ended past = ended x (labels_fit k) (label_fits k) (fits_one k) all i whole so_far refl past

  module _ (k : Label) (so_far : lacks k (statements_in x (drop i all)) ≡ whole) where
    pub lacks_more : (s : CodePlain) (l : Label) (b : Bool) → i < length all → s ≡ get_or all i s → l ≡ label_in (statement_in x s) → b ≡ same_label k l → b ≡ false
        → lacks k (statements_in x (drop (i + 1) all)) ≡ whole
    lacks_more s l b within is at same not_so =
        goes_on x (lacks k) (λ l. not (same_label k l)) (lacks_one k) all i whole so_far s within is (ap not (sym (ap (same_label k) at) ∙ sym same ∙ not_so))

    pub lacks_stops : (s : CodePlain) (l : Label) (b : Bool) → i < length all → s ≡ get_or all i s → l ≡ label_in (statement_in x s) → b ≡ same_label k l → b ≡ true → false ≡ whole
    lacks_stops s l b within is at same sure =
        stops x (lacks k) (λ l. not (same_label k l)) (lacks_one k) all i whole so_far s within is (ap not (sym (ap (same_label k) at) ∙ sym same ∙ sure))

    pub lacks_ended : length all ≤ i → true ≡ whole
    lacks_ended past = ended x (lacks k) (λ l. not (same_label k l)) (lacks_one k) all i whole so_far (none k) past
      where
        none : (k : Label) → lacks k nothing ≡ true
        none (label.Case z) = refl
        none label.Default = refl
        none label.No = refl

-- ---- no label twice

pub none_left : (ss : List CodePlain) → length ss ≡ 0 → ss ≡ []
none_left [] e = refl
none_left (s ∷ ss) e = absurd (omega (arith, e))

module _ (x : Scene) (rest : List CodePlain) (whole : Bool) (so_far : labels_differ [] (statements_in x rest) ≡ whole) where
  module _ (s : CodePlain) (others : List CodePlain) (is : rest ≡ s ∷ others) (l : Label) (at : l ≡ label_in (statement_in x s)) (b : Bool) (lack : b ≡ lacks l (statements_in x others)) where
    next_label : whole ≡ (b && labels_differ [] (statements_in x others))
    next_label =
        sym so_far ∙ ap (λ r. labels_differ [] (statements_in x r)) is ∙ differ_one (statement_in x s) (statements_in x others)
        ∙ ap (λ c. c && labels_differ [] (statements_in x others)) (sym (lack ∙ ap (λ k. lacks k (statements_in x others)) at))

    pub differ_more : b ≡ true → labels_differ [] (statements_in x others) ≡ whole
    differ_more sure = sym (next_label ∙ ap (λ c. c && labels_differ [] (statements_in x others)) sure)

    pub differ_stops : b ≡ false → false ≡ whole
    differ_stops not_so = sym (next_label ∙ ap (λ c. c && labels_differ [] (statements_in x others)) not_so)

  pub differ_ended : rest ≡ [] → true ≡ whole
  differ_ended none = sym (ap (λ r. labels_differ [] (statements_in x r)) none) ∙ so_far
