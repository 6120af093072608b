-- Statements, one after the other, and by their forms.
use Rattle.std.proofs.Common.{◌≡◌, ℕ, ◌+◌, ◌<◌, ◌≤◌, Bool, true, false, ◌&&◌, if◌then◌else◌, List, length, drop, get_or, Option, Some, None, refl, sym, ap, ◌∙◌}
use Rattle.std.specs.Prelude.{is_some, Result, IfOk}
use Rattle.std.proofs.lemmas.List.{at_drop_all}
use Rattle.std.proofs.lemmas.Result.{IfOk-weaker}
use Rattle.cf_core.specs.Types.{SourceType}
use Rattle.cf_plain.specs.declared.statement.Plain.{Plain as CodePlain}
use Rattle.cf_plain.specs.Plain.{Register, Action, Plain, Plains, act, set, branch, loop, switch, give, nothing, more}
use Rattle.cf_plain_kept.specs.Kept.{Kept, Keeping, nothing_set, keep, common, untouched, integer_in, kept_by, returned, joined, after, after_all}
use Rattle.cf_lower_kept.specs.Ready.{action_ready, ready, all_ready}
use Rattle.cf_lower_held.proofs.Forgotten.{drop_item}
use Rattle.cf_lowerable_ready.specs.declared.scene.Scene.{Scene}
use Rattle.cf_lowerable_ready.specs.Contents.{suits_if, put}
use Rattle.cf_lowerable_ready.specs.Scenes.{locals_in, result_in, statement_in, statements_in}
use Rattle.cf_lowerable_ready.specs.Steps.{goes, when, setting, kept_when, gives, step, steps, step_in, steps_in}

pub is_gone : (b : Bool) (g : Keeping) → b ≡ is_some (goes b g)
is_gone true g = refl
is_gone false g = refl

none_when : (b : Bool) (o : Option Keeping) → None ≡ o → None ≡ when b o
none_when true o e = e
none_when false o e = refl

-- ---- a register that an action sets

module _ (g h : Keeping) (r : Register) where
  set_nothing : (k : Option Kept) → is_some k ≡ false → None ≡ setting g r k
  set_nothing None e = refl
  set_nothing (Some x) e = cc

  set_something : (k : Option Kept) → is_some k ≡ true → Some (put g r k) ≡ setting g r k
  set_something None e = cc
  set_something (Some x) e = refl

  module _ (k : Option Kept) (b : Bool) (is : b ≡ is_some k) where
    pub set_fails : b ≡ false → None ≡ setting g r k
    set_fails not_so = set_nothing k (sym is ∙ not_so)

    pub set_goes : b ≡ true → h ≡ put g r k → Some h ≡ setting g r k
    set_goes sure made = ap Some made ∙ set_something k (sym is ∙ sure)

module _ (locals : List SourceType) (result : SourceType) where
  -- ---- what an action gives

  pub gives_none : (g : Keeping) (a : Action) (b : Bool) → b ≡ action_ready locals result g a → b ≡ false → None ≡ gives locals result g a
  gives_none g a b is not_so = ap (λ c. kept_when c (kept_by locals result g a)) (sym not_so ∙ is)

  pub gives_kept : (g : Keeping) (a : Action) (b : Bool) (k : Option Kept) → b ≡ action_ready locals result g a → b ≡ true → k ≡ kept_by locals result g a → k ≡ gives locals result g a
  gives_kept g a b k is sure kept = kept ∙ ap (λ c. kept_when c (kept_by locals result g a)) (sym sure ∙ is)

  -- ---- statements of one action

  act_made : (g : Keeping) (b : Bool) (k : Option Kept) → goes (is_some (kept_when b k)) g ≡ when b (elim k [ None ↦ None | Some x ↦ Some g ])
  act_made g false k = refl
  act_made g true None = refl
  act_made g true (Some x) = refl

  pub acts_so : (g : Keeping) (a : Action) (k : Option Kept) (b : Bool) → k ≡ gives locals result g a → b ≡ is_some k → goes b g ≡ step locals result (act a) g
  acts_so g a k b kept is = ap (λ c. goes c g) (is ∙ ap is_some kept) ∙ act_made g (action_ready locals result g a) (kept_by locals result g a)

  set_made : (g : Keeping) (r : Register) (b : Bool) (k : Option Kept) → setting g r (kept_when b k) ≡ when b (elim k [ None ↦ None | Some x ↦ Some (keep g r x) ])
  set_made g r false k = refl
  set_made g r true None = refl
  set_made g r true (Some x) = refl

  pub sets_so : (g h : Keeping) (r : Register) (a : Action) (k : Option Kept) (b : Bool) → k ≡ gives locals result g a → goes b h ≡ setting g r k
      → goes b h ≡ step locals result (set r a) g
  sets_so g h r a k b kept made = made ∙ ap (setting g r) kept ∙ set_made g r (action_ready locals result g a) (kept_by locals result g a)

  -- ---- `return`

  returned_is : (k : Option Kept) → suits_if result k ≡ returned locals result k
  returned_is None = refl
  returned_is (Some x) = refl

  given_by : (b : Bool) (g : Keeping) → goes b g ≡ (if b then Some g else None)
  given_by true g = refl
  given_by false g = refl

  pub give_goes : (g : Keeping) (o : Option Register) (r : Register) (k : Option Kept) (b : Bool) → o ≡ Some r → k ≡ g r → b ≡ suits_if result k
      → goes b g ≡ step locals result (give o) g
  give_goes g o r k b some at is =
      given_by b g ∙ ap (λ c. if c then Some g else None) (is ∙ ap (suits_if result) at ∙ returned_is (g r)) ∙ sym (ap (λ p. step locals result (give p) g) some)

  -- ---- branches

  ways : (i a b : Bool) (o p : Option Keeping) (first second : Bool) (f h n : Keeping) → goes first f ≡ when a o → goes second h ≡ when b p
      → ((i && (first && second)) ≡ true → n ≡ common f h) → goes (i && (first && second)) n ≡ when (a && b) (if i then joined locals result o p else None)
  ways false a b o p first second f h n e d meets = none_when (a && b) None refl
  ways true true true o p true true f h n e d meets =
      ap Some (meets refl) ∙ ap (λ q. joined locals result q (Some h)) e ∙ ap (joined locals result o) d
  ways true false b o p true second f h n e d meets = cc
  ways true true false o p true true f h n e d meets = cc
  ways true false b o p false second f h n e d meets = refl
  ways true true b o p false second f h n e d meets = none_when b (joined locals result o p) (ap (λ q. joined locals result q p) e)
  ways true true false o p true false f h n e d meets = refl
  ways true true true o p true false f h n e d meets = without_second o ∙ ap (joined locals result o) d
    where
      without_second : (o : Option Keeping) → None ≡ joined locals result o None
      without_second None = refl
      without_second (Some g) = refl

  pub branch_goes : (r : Register) (ss ts : Plains) (g k f h n : Keeping) (y : Option Kept) (tested first second good : Bool) → y ≡ g r → tested ≡ integer_in y → k ≡ g
      → goes first f ≡ steps locals result ss g → goes second h ≡ steps locals result ts k → good ≡ (tested && (first && second)) → (good ≡ true → n ≡ common f h)
      → goes good n ≡ step locals result (branch r ss ts) g
  branch_goes r ss ts g k f h n y tested first second good at is same sure not_so so meets =
      let number = is ∙ ap integer_in at in
      let other = not_so ∙ ap (steps locals result ts) same in
      ap (λ c. goes c n) (so ∙ ap (λ i. i && (first && second)) number)
      ∙ ways (integer_in (g r)) (all_ready locals result ss g) (all_ready locals result ts g) (after_all locals result ss g) (after_all locals result ts g) first second f h n sure other
      (λ e. meets (so ∙ ap (λ i. i && (first && second)) number ∙ e))

  -- ---- loops and switches

  turns : (k : Keeping) (a b : Bool) (o p : Option Keeping) → goes (is_some (when a o) && is_some (when b p)) k ≡ when (a && b) (if is_some o && is_some p then Some k else None)
  turns k false b o p = refl
  turns k true false None p = refl
  turns k true false (Some g) p = refl
  turns k true true None p = refl
  turns k true true (Some g) None = refl
  turns k true true (Some g) (Some h) = refl

  pub loop_goes : (ss ts : Plains) (g h : Keeping) (first second good : Bool) → first ≡ is_some (steps locals result ss nothing_set) → second ≡ is_some (steps locals result ts nothing_set)
      → good ≡ (first && second) → h ≡ nothing_set → goes good h ≡ step locals result (loop ss ts) g
  loop_goes ss ts g h first second good sure not_so so none =
      ap (λ c. goes c h) (so ∙ ap (λ b. b && second) sure ∙ ap (λ b. is_some (steps locals result ss nothing_set) && b) not_so)
      ∙ ap (goes (is_some (steps locals result ss nothing_set) && is_some (steps locals result ts nothing_set))) none
      ∙ turns nothing_set (all_ready locals result ss nothing_set) (all_ready locals result ts nothing_set) (after_all locals result ss nothing_set) (after_all locals result ts nothing_set)

  labels : (k : Keeping) (i a : Bool) (o : Option Keeping) → goes (i && is_some (when a o)) k ≡ when a (if i && is_some o then Some k else None)
  labels k false false o = refl
  labels k true false o = refl
  labels k false true o = refl
  labels k true true None = refl
  labels k true true (Some g) = refl

  pub switch_goes : (r : Register) (ss : Plains) (g h : Keeping) (y : Option Kept) (tested inner good : Bool) → y ≡ g r → tested ≡ integer_in y
      → inner ≡ is_some (steps locals result ss nothing_set) → good ≡ (tested && inner) → h ≡ untouched g ss → goes good h ≡ step locals result (switch r ss) g
  switch_goes r ss g h y tested inner good at is sure so forgot =
      ap (λ c. goes c h) (so ∙ ap (λ b. b && inner) (is ∙ ap integer_in at) ∙ ap (λ b. integer_in (g r) && b) sure)
      ∙ ap (goes (integer_in (g r) && is_some (steps locals result ss nothing_set))) forgot
      ∙ labels (untouched g ss) (integer_in (g r)) (all_ready locals result ss nothing_set) (after_all locals result ss nothing_set)

  -- ---- one statement more

  abbrev on : Option Keeping → (Keeping → Option Keeping) → Option Keeping
  on o f = elim o as (λ _. Option Keeping) [ None ↦ None | Some h ↦ f h ]

  more_made : (rest : Plains) (b : Bool) (o : Option Keeping)
      → when (b && elim o [ None ↦ false | Some h ↦ all_ready locals result rest h ]) (elim o [ None ↦ None | Some h ↦ after_all locals result rest h ]) ≡ on (when b o) (steps locals result rest)
  more_made rest false o = refl
  more_made rest true None = refl
  more_made rest true (Some h) = refl

  steps_more : (s : Plain) (rest : Plains) (g : Keeping) → steps locals result (more s rest) g ≡ on (step locals result s g) (steps locals result rest)
  steps_more s rest g = more_made rest (ready locals result s g) (after locals result s g)

module _ (x : Scene) where
  module _ (all : List CodePlain) (i : ℕ) (s : CodePlain) (within : i < length all) (is : s ≡ get_or all i s) (g h : Keeping) (whole : Option Keeping) (good : Bool)
      (goes_on : goes good h ≡ step_in x (statement_in x s) g) (so_far : steps_in x (statements_in x (drop i all)) g ≡ whole) where
    next : whole ≡ on (locals_in x) (result_in x) (goes good h) (steps_in x (statements_in x (drop (i + 1) all)))
    next =
        sym so_far ∙ ap (λ l. steps_in x (statements_in x l) g) (drop_item all i s within is)
        ∙ steps_more (locals_in x) (result_in x) (statement_in x s) (statements_in x (drop (i + 1) all)) g
        ∙ ap (λ o. on (locals_in x) (result_in x) o (steps_in x (statements_in x (drop (i + 1) all)))) (sym goes_on)

    pub steps_next : good ≡ true → steps_in x (statements_in x (drop (i + 1) all)) h ≡ whole
    steps_next sure = sym (next ∙ ap (λ b. on (locals_in x) (result_in x) (goes b h) (steps_in x (statements_in x (drop (i + 1) all)))) sure)

    pub steps_stop : (items : List CodePlain) (k : Keeping) → good ≡ false → whole ≡ steps_in x (statements_in x all) k → all ≡ items → None ≡ steps_in x (statements_in x items) k
    steps_stop items k not_so begun same =
        sym (next ∙ ap (λ b. on (locals_in x) (result_in x) (goes b h) (steps_in x (statements_in x (drop (i + 1) all)))) not_so)
        ∙ begun ∙ ap (λ l. steps_in x (statements_in x l) k) same

  pub steps_ended : (items all : List CodePlain) (i : ℕ) (g h : Keeping) → items ≡ all → length items ≤ i → steps_in x (statements_in x (drop i items)) h ≡ steps_in x (statements_in x items) g
      → Some h ≡ steps_in x (statements_in x all) g
  steps_ended items all i g h same past so_far =
      sym (at_drop_all (λ (l : List CodePlain). steps_in x (statements_in x l) h) items i past) ∙ so_far ∙ ap (λ l. steps_in x (statements_in x l) g) same

  -- ---- by the form

  pub step_at : (s : CodePlain) (p : Plain) (b : Bool) (g h : Keeping) → statement_in x s ≡ p → goes b h ≡ step_in x p g → goes b h ≡ step_in x (statement_in x s) g
  step_at s p b g h is made = made ∙ sym (ap (λ q. step_in x q g) is)

  pub answer_at : {E : Type 0} (s : CodePlain) (p : Plain) (r : Result Bool E) (g h : Keeping) → statement_in x s ≡ p → IfOk r (λ b. goes b h ≡ step_in x p g)
      → IfOk r (λ b. goes b h ≡ step_in x (statement_in x s) g)
  answer_at s p r g h is made = IfOk-weaker r (λ b. goes b h ≡ step_in x p g) (λ b. goes b h ≡ step_in x (statement_in x s) g) (λ b e. step_at s p b g h is e) made

  pub begins_so : (all : List CodePlain) (g h : Keeping) (b : Bool) → h ≡ nothing_set → goes b g ≡ steps_in x (statements_in x all) h → b ≡ is_some (steps_in x (statements_in x all) nothing_set)
  begins_so all g h b none made = is_gone b g ∙ ap is_some (made ∙ ap (steps_in x (statements_in x all)) none)

-- ---- what is told of all statements of a function

module _ (locals : List SourceType) (result : SourceType) where
  more_ready : (rest : Plains) → ((h : Keeping) → is_some (steps locals result rest h) ≡ all_ready locals result rest h) → (b : Bool) (o : Option Keeping)
      → is_some (when (b && elim o [ None ↦ false | Some h ↦ all_ready locals result rest h ]) (elim o [ None ↦ None | Some h ↦ after_all locals result rest h ]))
      ≡ (b && elim o [ None ↦ false | Some h ↦ all_ready locals result rest h ])
  more_ready rest told false o = refl
  more_ready rest told true None = refl
  more_ready rest told true (Some h) = told h

  pub ready_goes : (ss : Plains) (g : Keeping) → is_some (steps locals result ss g) ≡ all_ready locals result ss g
  ready_goes nothing g = refl
  ready_goes (more s rest) g = more_ready rest (ready_goes rest) (ready locals result s g) (after locals result s g)
