-- Statements, one after the other, and by their forms.
use Rattle.std.proofs.Common.{◌≡◌, ℕ, ◌+◌, ◌<◌, ◌≤◌, Bool, true, false, ◌&&◌, List, [], length, drop, get_or, refl, sym, ap, ◌∙◌}
use Rattle.std.proofs.lemmas.List.{at_drop_all}
use Rattle.cf_plain.specs.declared.statement.Plain.{Plain as CodePlain}
use Rattle.cf_plain.specs.Plain.{Plain, Plains, act, set, branch, loop, switch, case_label, default_label, leave, continue, give, parts, more}
use Rattle.cf_plain.specs.Valid.{labels_differ}
use Rattle.cf_lower.specs.Kept.{Kept, unknown, integer_of, holds, argument, Keeping, after, after_all, common, untouched}
use Rattle.cf_lower_held.specs.declared.scene.Scene.{Scene}
use Rattle.cf_lower_held.specs.Scenes.{locals_in, statement_in, statements_in}
use Rattle.cf_lower_held.proofs.Forgotten.{drop_item}
use Rattle.cf_lower_place.specs.Leaf.{is_integer}
use Rattle.cf_lower_place.specs.InPlace.{in_place, all_in_place, items_in_place, is_number, switches}
use Rattle.cf_lowerable_places.specs.declared.labels.Label.{Label}
use Rattle.cf_lowerable_places.specs.Fits.{fits_in}
use Rattle.cf_lowerable_places.specs.Labels.{label_in, is_label}

pub number_at : (k y : Kept) (b : Bool) → b ≡ is_integer k → k ≡ y → b ≡ is_number y
number_at k y b e at = e ∙ same k ∙ ap is_number at
  where
    same : (k : Kept) → is_integer k ≡ is_number k
    same unknown = refl
    same (integer_of f) = refl
    same (holds s) = refl
    same (argument i t) = refl

regroup : (a b c : Bool) → ((a && b) && c) ≡ (a && (b && c))
regroup true b c = refl
regroup false b c = refl

alone : (a : Bool) → (a && true) ≡ a
alone true = refl
alone false = refl

module _ (x : Scene) where
  abbrev pub Placed : Bool → Bool → List CodePlain → Keeping → Bool
  Placed b c all g = all_in_place (locals_in x) (fits_in x) b c (statements_in x all) g

  abbrev pub Listed : Bool → List CodePlain → Keeping → Keeping → Bool
  Listed c all k g = items_in_place (locals_in x) (fits_in x) c (statements_in x all) k g

  abbrev pub Behind : List CodePlain → Keeping → Keeping
  Behind all g = after_all (locals_in x) (statements_in x all) g

  -- ---- one statement more

  module _ (all : List CodePlain) (i : ℕ) (s : CodePlain) (within : i < length all) (is : s ≡ get_or all i s) where
    pub placed_more : (b c good here both whole : Bool) (g h : Keeping) → here ≡ in_place (locals_in x) (fits_in x) b c (statement_in x s) g
        → h ≡ after (locals_in x) (statement_in x s) g → both ≡ (good && here) → (good && Placed b c (drop i all) g) ≡ whole → (both && Placed b c (drop (i + 1) all) h) ≡ whole
    placed_more b c good here both whole g h placed behind so so_far =
        ap (λ d. d && Placed b c (drop (i + 1) all) h) so ∙ regroup good here (Placed b c (drop (i + 1) all) h)
        ∙ ap (λ d. good && (d && Placed b c (drop (i + 1) all) h)) placed
        ∙ ap (λ k. good && (in_place (locals_in x) (fits_in x) b c (statement_in x s) g && Placed b c (drop (i + 1) all) k)) behind
        ∙ sym (ap (λ l. good && Placed b c l g) (drop_item all i s within is)) ∙ so_far

    pub behind_more : (whole g h : Keeping) → h ≡ after (locals_in x) (statement_in x s) g → Behind (drop i all) g ≡ whole → Behind (drop (i + 1) all) h ≡ whole
    behind_more whole g h behind so_far = ap (Behind (drop (i + 1) all)) behind ∙ sym (ap (λ l. Behind l g) (drop_item all i s within is)) ∙ so_far

    pub listed_more : (c good here both whole : Bool) (k g h : Keeping)
        → (here && Listed c (drop (i + 1) all) k h) ≡ items_in_place (locals_in x) (fits_in x) c (more (statement_in x s) (statements_in x (drop (i + 1) all))) k g
        → both ≡ (good && here) → (good && Listed c (drop i all) k g) ≡ whole → (both && Listed c (drop (i + 1) all) k h) ≡ whole
    listed_more c good here both whole k g h placed so so_far =
        ap (λ d. d && Listed c (drop (i + 1) all) k h) so ∙ regroup good here (Listed c (drop (i + 1) all) k h) ∙ ap (λ d. good && d) placed
        ∙ sym (ap (λ l. good && Listed c l k g) (drop_item all i s within is)) ∙ so_far

  -- ---- behind the last one

  module _ (items all : List CodePlain) (same : items ≡ all) (i : ℕ) (past : length items ≤ i) where
    pub placed_all : (b c good : Bool) (g h : Keeping) → (good && Placed b c (drop i items) h) ≡ Placed b c items g → good ≡ Placed b c all g
    placed_all b c good g h so_far =
        sym (alone good) ∙ sym (at_drop_all (λ (l : List CodePlain). good && Placed b c l h) items i past) ∙ so_far ∙ ap (λ l. Placed b c l g) same

    pub behind_all : (g h : Keeping) → Behind (drop i items) h ≡ Behind items g → h ≡ Behind all g
    behind_all g h so_far = sym (at_drop_all (λ (l : List CodePlain). Behind l h) items i past) ∙ so_far ∙ ap (λ l. Behind l g) same

    pub listed_all : (c good : Bool) (k g h : Keeping) → (good && Listed c (drop i items) k h) ≡ Listed c items k g → good ≡ Listed c all k g
    listed_all c good k g h so_far =
        sym (alone good) ∙ sym (at_drop_all (λ (l : List CodePlain). good && Listed c l k h) items i past) ∙ so_far ∙ ap (λ l. Listed c l k g) same

  pub listed_begun : (c : Bool) (all : List CodePlain) (k h : Keeping) → h ≡ k → (true && Listed c all k h) ≡ Listed c all k k
  listed_begun c all k h same = ap (Listed c all k) same

  pub apart_same : (b c good : Bool) (all : List CodePlain) (g h : Keeping) → h ≡ g → good ≡ Placed b c all h → good ≡ Placed b c all g
  apart_same b c good all g h same placed = placed ∙ ap (Placed b c all) same

  -- ---- by the form

  module _ (s : CodePlain) (p : Plain) (is : statement_in x s ≡ p) where
    pub placed_at : (b c good : Bool) (g : Keeping) → good ≡ in_place (locals_in x) (fits_in x) b c p g → good ≡ in_place (locals_in x) (fits_in x) b c (statement_in x s) g
    placed_at b c good g placed = placed ∙ sym (ap (λ q. in_place (locals_in x) (fits_in x) b c q g) is)

    pub behind_at : (g h : Keeping) → h ≡ after (locals_in x) p g → h ≡ after (locals_in x) (statement_in x s) g
    behind_at g h behind = behind ∙ sym (ap (λ q. after (locals_in x) q g) is)

  module _ (r : ℕ) (ss ts : List CodePlain) (g k : Keeping) (same : k ≡ g) where
    pub branch_placed : (b c tested first second all : Bool) → tested ≡ is_number (g r) → first ≡ Placed b c ss g → second ≡ Placed b c ts k → all ≡ (tested && (first && second))
        → all ≡ in_place (locals_in x) (fits_in x) b c (branch r (statements_in x ss) (statements_in x ts)) g
    branch_placed b c tested first second all number sure not_so so =
        so ∙ ap (λ d. d && (first && second)) number ∙ ap (λ d. is_number (g r) && (d && second)) sure
        ∙ ap (λ d. is_number (g r) && (Placed b c ss g && d)) (not_so ∙ ap (Placed b c ts) same)

    pub branch_behind : (f h n : Keeping) → f ≡ Behind ss g → h ≡ Behind ts k → n ≡ common f h → n ≡ after (locals_in x) (branch r (statements_in x ss) (statements_in x ts)) g
    branch_behind f h n first second meets =
        meets ∙ ap (λ d. common d h) first ∙ ap (common (Behind ss g)) (second ∙ ap (Behind ts) same)

  pub loop_behind : (ss ts : List CodePlain) (g f h : Keeping) → f ≡ untouched (locals_in x) g (statements_in x ss) → h ≡ untouched (locals_in x) f (statements_in x ts)
      → h ≡ after (locals_in x) (loop (statements_in x ss) (statements_in x ts)) g
  loop_behind ss ts g f h first second = second ∙ ap (λ d. untouched (locals_in x) d (statements_in x ts)) first

  pub turns_placed : (first second all : Bool) (ss ts : List CodePlain) (h : Keeping) → first ≡ Placed true true ss h → second ≡ Placed true false ts h → all ≡ (first && second)
      → all ≡ (Placed true true ss h && Placed true false ts h)
  turns_placed first second all ss ts h sure not_so so = so ∙ ap (λ d. d && second) sure ∙ ap (λ d. Placed true true ss h && d) not_so

  pub loop_placed : (b c good : Bool) (ss ts : List CodePlain) (g h : Keeping) → h ≡ after (locals_in x) (loop (statements_in x ss) (statements_in x ts)) g
      → good ≡ (Placed true true ss h && Placed true false ts h) → good ≡ in_place (locals_in x) (fits_in x) b c (loop (statements_in x ss) (statements_in x ts)) g
  loop_placed b c good ss ts g h behind placed = placed ∙ ap (λ d. Placed true true ss d && Placed true false ts d) behind

  pub switch_placed : (b c selected differ listed all : Bool) (r : ℕ) (ss : List CodePlain) (g h : Keeping) (k : Kept) → k ≡ g r → selected ≡ switches k (statements_in x ss)
      → differ ≡ labels_differ [] (statements_in x ss) → h ≡ untouched (locals_in x) g (statements_in x ss) → listed ≡ Listed c ss h h → all ≡ (selected && (differ && listed))
      → all ≡ in_place (locals_in x) (fits_in x) b c (switch r (statements_in x ss)) g
  switch_placed b c selected differ listed all r ss g h k at selects differs forgot lists so =
      so ∙ ap (λ d. d && (differ && listed)) (selects ∙ ap (λ y. switches y (statements_in x ss)) at)
      ∙ ap (λ d. switches (g r) (statements_in x ss) && (d && listed)) differs
      ∙ ap (λ d. switches (g r) (statements_in x ss) && (labels_differ [] (statements_in x ss) && d)) (lists ∙ ap (λ f. Listed c ss f f) forgot)

  -- ---- in a switch

  label_form : (c : Bool) (p : Plain) (rest : Plains) (k g : Keeping) → is_label (label_in p) ≡ true
      → items_in_place (locals_in x) (fits_in x) c rest k k ≡ items_in_place (locals_in x) (fits_in x) c (more p rest) k g
  label_form c (case_label z) rest k g e = refl
  label_form c default_label rest k g e = refl
  label_form c (act a) rest k g e = cc
  label_form c (set r a) rest k g e = cc
  label_form c (branch r ss ts) rest k g e = cc
  label_form c (loop ss ts) rest k g e = cc
  label_form c (switch r ss) rest k g e = cc
  label_form c leave rest k g e = cc
  label_form c continue rest k g e = cc
  label_form c (give r) rest k g e = cc
  label_form c (parts ps) rest k g e = cc

  pub label_turn : (c b : Bool) (s : CodePlain) (l : Label) (rest : Plains) (k g h : Keeping) → l ≡ label_in (statement_in x s) → b ≡ is_label l → b ≡ true → h ≡ k
      → (true && items_in_place (locals_in x) (fits_in x) c rest k h) ≡ items_in_place (locals_in x) (fits_in x) c (more (statement_in x s) rest) k g
  label_turn c b s l rest k g h at is sure same =
      ap (items_in_place (locals_in x) (fits_in x) c rest k) same ∙ label_form c (statement_in x s) rest k g (ap is_label (sym at) ∙ sym is ∙ sure)

  other_form : (c : Bool) (p : Plain) (rest : Plains) (k g : Keeping) → is_label (label_in p) ≡ false
      → (in_place (locals_in x) (fits_in x) true c p g && items_in_place (locals_in x) (fits_in x) c rest k (after (locals_in x) p g))
      ≡ items_in_place (locals_in x) (fits_in x) c (more p rest) k g
  other_form c (case_label z) rest k g e = cc
  other_form c default_label rest k g e = cc
  other_form c (act a) rest k g e = refl
  other_form c (set r a) rest k g e = refl
  other_form c (branch r ss ts) rest k g e = refl
  other_form c (loop ss ts) rest k g e = refl
  other_form c (switch r ss) rest k g e = refl
  other_form c leave rest k g e = refl
  other_form c continue rest k g e = refl
  other_form c (give r) rest k g e = refl
  other_form c (parts ps) rest k g e = refl

  pub statement_turn : (c good b : Bool) (s : CodePlain) (l : Label) (rest : Plains) (k g h : Keeping) → l ≡ label_in (statement_in x s) → b ≡ is_label l → b ≡ false
      → good ≡ in_place (locals_in x) (fits_in x) true c (statement_in x s) g → h ≡ after (locals_in x) (statement_in x s) g
      → (good && items_in_place (locals_in x) (fits_in x) c rest k h) ≡ items_in_place (locals_in x) (fits_in x) c (more (statement_in x s) rest) k g
  statement_turn c good b s l rest k g h at is not_so placed behind =
      ap (λ d. d && items_in_place (locals_in x) (fits_in x) c rest k h) placed
      ∙ ap (λ f. in_place (locals_in x) (fits_in x) true c (statement_in x s) g && items_in_place (locals_in x) (fits_in x) c rest k f) behind
      ∙ other_form c (statement_in x s) rest k g (ap is_label (sym at) ∙ sym is ∙ not_so)
