-- What is open at each statement is the same where functions and objects have other names.
use Rattle.std.proofs.Common.{◌≡◌, true, false, ◌&&◌, ◌||◌, not, ◌==◌, if◌then◌else◌, List, [], ◌∷◌, refl, sym, ◌∙◌, ap}
use Rattle.std.specs.Prelude.{map, ℤ, int_le, Option, Some, None}
use Rattle.std.proofs.Math.Path.{fun_ext}
use Rattle.cf_core.specs.Types.{Name, SourceType}
use Rattle.cf_plain.specs.Plain.{Register, Action, number, declare, finish, call, Plain, Plains, act, set, branch, loop, switch, case_label, default_label, leave, nothing, more}
use Rattle.cf_plain.specs.Joined.{renamed_action, renamed, renamed_all}
use Rattle.cf_plain.specs.Running.{has_case}
use Rattle.cf_plain.specs.Valid.{has_default, labels_differ}
use Rattle.cf_plain_kept.specs.Kept.{Keeping, nothing_set, after}
use Rattle.cf_lower_kept.specs.Opened.{Opened, open_one, is_listed, settled, where_set, where_unset, ended_in, or_behind, ended_by, awaited, prepared, action_opens, opened_by, Where, falls, away, wrong, joined, comes_to, only_if, set_by, keeping_or, Ways, no_label, is_the_label, declared, declared_at, stands_before, opens, all_open, from_label}
use Rattle.cf_lower_needed.proofs.Labels.{choose, if-true, alone-or}
use Rattle.cf_lower_needed.proofs.Places.{stands_alone, ways_behind, then_open, next-open}
use Rattle.cf_lower_tested.proofs.RenamedTold.{after-same}

module _ (r : Name → Name) where
  -- ---- labels

  pub has-case-same : (n : ℤ) (ss : Plains) → has_case n (renamed_all r ss) ≡ has_case n ss
  has-case-same n nothing = refl
  has-case-same n (more (case_label y) ss) = ap (λ b. (int_le y n && int_le n y) || b) (has-case-same n ss)
  has-case-same n (more s ss) = has-case-same n ss

  pub has-default-same : (ss : Plains) → has_default [] (renamed_all r ss) ≡ has_default [] ss
  has-default-same nothing = refl
  has-default-same (more default_label ss) = refl
  has-default-same (more s ss) = has-default-same ss

  pub labels-differ-same : (ss : Plains) → labels_differ [] (renamed_all r ss) ≡ labels_differ [] ss
  labels-differ-same nothing = refl
  labels-differ-same (more (case_label y) ss) =
      ap (λ b. not b && labels_differ [] (renamed_all r ss)) (has-case-same y ss) ∙ ap (λ b. not (has_case y ss) && b) (labels-differ-same ss)
  labels-differ-same (more default_label ss) =
      ap (λ b. not b && labels_differ [] (renamed_all r ss)) (has-default-same ss) ∙ ap (λ b. not (has_default [] ss) && b) (labels-differ-same ss)
  labels-differ-same (more s ss) = labels-differ-same ss

  label-same : (l : Option ℤ) (s : Plain) → is_the_label l (renamed r s) ≡ is_the_label l s
  label-same None default_label = refl
  label-same None s = refl
  label-same (Some n) (case_label y) = refl
  label-same (Some n) s = refl

  declared-same : (ss : Plains) (xs : List Opened) → declared (renamed_all r ss) xs ≡ declared ss xs
  declared-same (more (act (declare i t)) ss) xs = ap (λ o. if is_listed i xs then None else o) (declared-same ss (open_one i None false ∷ xs))
  declared-same (more leave ss) xs = refl
  declared-same ss xs = refl

  declared-at-same : (ss : Plains) (xs : List Opened) (l : Option ℤ) → declared_at (renamed_all r ss) xs l ≡ declared_at ss xs l
  declared-at-same nothing xs l = refl
  declared-at-same (more s ss) xs l =
      ap (λ b. if b then declared (renamed_all r ss) xs else declared_at (renamed_all r ss) xs l) (label-same l s)
      ∙ ap (λ o. if is_the_label l s then o else declared_at (renamed_all r ss) xs l) (declared-same ss xs)
      ∙ ap (λ o. if is_the_label l s then declared ss xs else o) (declared-at-same ss xs l)

  ways-same : (w : Ways) (ss : Plains) (xs : List Opened) → ways_behind w (renamed_all r ss) xs ≡ ways_behind w ss xs
  ways-same w ss xs =
      ap (λ (f : Option ℤ → Option (List Opened)). record { breaks = Some xs; continues = w.continues; labels = f }) (fun_ext (λ l. declared-at-same ss xs l))

  before-same : (ss ts : Plains) → stands_before (renamed_all r ss) (renamed_all r ts) ≡ stands_before ss ts
  before-same nothing ts = refl
  before-same (more (case_label y) ss) ts =
      ap (λ b. b && stands_before (renamed_all r ss) (renamed_all r ts)) (has-case-same y ts) ∙ ap (λ b. has_case y ts && b) (before-same ss ts)
  before-same (more default_label ss) ts =
      ap (λ b. b && stands_before (renamed_all r ss) (renamed_all r ts)) (has-default-same ts) ∙ ap (λ b. has_default [] ts && b) (before-same ss ts)
  before-same (more (act (declare i t)) ss) ts = before-same ss ts
  before-same (more leave ss) ts = before-same ss ts
  before-same (more s ss) ts = refl

  -- ---- flags

  ended-in-same : (q : Register) (s : Plain) → ended_in q (renamed r s) ≡ ended_in q s
  ended-in-same q (branch p (more (act (finish t i)) nothing) nothing) = refl
  ended-in-same q s = refl

  ended-by-same : (q : Register) (ss : Plains) → ended_by q (renamed_all r ss) ≡ ended_by q ss
  ended-by-same q nothing = refl
  ended-by-same q (more (set p a) ss) = ap (λ o. if p == q then None else o) (ended-by-same q ss)
  ended-by-same q (more s ss) = ap (λ o. or_behind o (ended_by q (renamed_all r ss))) (ended-in-same q s) ∙ ap (or_behind (ended_in q s)) (ended-by-same q ss)

  prepared-same : (s : Plain) (ss : Plains) (xs : List Opened) → prepared (renamed r s) (renamed_all r ss) xs ≡ prepared s ss xs
  prepared-same (set q (number z)) ss xs = ap (λ o. awaited q o xs) (ended-by-same q ss)
  prepared-same s ss xs = refl

  -- ---- statements

  action-opens-same : (g : Keeping) (a : Action) (xs : List Opened) → action_opens g (renamed_action r a) xs ≡ action_opens g a xs
  action-opens-same g (call f t object is into) xs = refl
  action-opens-same g a xs = refl

  opened-by-same : (g : Keeping) (q : Option Register) (a : Action) (xs : List Opened) → opened_by g q (renamed_action r a) xs ≡ opened_by g q a xs
  opened-by-same g q (call f t object is into) xs = refl
  opened-by-same g q a xs = refl

  set-by-same : (g : Keeping) (q : Register) (a : Action) (xs : List Opened) → set_by g q (renamed_action r a) xs ≡ set_by g q a xs
  set-by-same g q (call f t object is into) xs = refl
  set-by-same g q a xs = refl

  module _ (T : List SourceType) (R : SourceType) where
    -- a switch and the one that it declares for
    both-is : (q p : Register) (ss ts rest : Plains) (g : Keeping) (w : Ways) (xs : List Opened) → (q == p) && stands_before ss ts ≡ true
        → all_open T R (more (switch q ss) (more (switch p ts) rest)) g w xs
        ≡ (if comes_to (map settled xs) (all_open T R ts nothing_set (ways_behind w ss (map settled xs)) (map settled xs))
        then all_open T R rest (keeping_or (after T R (switch p ts) (keeping_or (after T R (switch q ss) g)))) w (map settled xs) else wrong)
    both-is q p ss ts rest g w xs e =
        if-true ((q == p) && stands_before ss ts)
        (if comes_to (map settled xs) (all_open T R ts nothing_set (ways_behind w ss (map settled xs)) (map settled xs))
        then all_open T R rest (keeping_or (after T R (switch p ts) (keeping_or (after T R (switch q ss) g)))) w (map settled xs) else wrong)
        (then_open T R (opens T R (switch q ss) g w xs) (more (switch p ts) rest) (keeping_or (after T R (switch q ss) g)) w) e

    kept-behind : (q p : Register) (ss ts : Plains) (g : Keeping)
        → keeping_or (after T R (switch p (renamed_all r ts)) (keeping_or (after T R (switch q (renamed_all r ss)) g)))
        ≡ keeping_or (after T R (switch p ts) (keeping_or (after T R (switch q ss) g)))
    kept-behind q p ss ts g =
        ap keeping_or (after-same r T R (switch p ts) (keeping_or (after T R (switch q (renamed_all r ss)) g)))
        ∙ ap (λ o. keeping_or (after T R (switch p ts) (keeping_or o))) (after-same r T R (switch q ss) g)

    then-same : (o : Where) (ss : Plains) (g : Keeping) (w : Ways) → (from_label T R (renamed_all r ss) w ≡ from_label T R ss w)
        → ((ys : List Opened) → all_open T R (renamed_all r ss) g w ys ≡ all_open T R ss g w ys) → then_open T R o (renamed_all r ss) g w ≡ then_open T R o ss g w
    then-same wrong ss g w dead live = refl
    then-same away ss g w dead live = dead
    then-same (falls ys) ss g w dead live = live ys

    step-same : (s : Plain) (ss : Plains) (g : Keeping) (w : Ways) (xs : List Opened) → stands_alone (renamed r s) (renamed_all r ss) ≡ true → stands_alone s ss ≡ true
        → ((zs : List Opened) → opens T R (renamed r s) g w zs ≡ opens T R s g w zs) → (from_label T R (renamed_all r ss) w ≡ from_label T R ss w)
        → ((k : Keeping) (ys : List Opened) → all_open T R (renamed_all r ss) k w ys ≡ all_open T R ss k w ys)
        → all_open T R (more (renamed r s) (renamed_all r ss)) g w xs ≡ all_open T R (more s ss) g w xs
    step-same s ss g w xs one two first dead live =
        next-open T R (renamed r s) (renamed_all r ss) g w xs one
        ∙ ap (λ zs. then_open T R (opens T R (renamed r s) g w zs) (renamed_all r ss) (keeping_or (after T R (renamed r s) g)) w) (prepared-same s ss xs)
        ∙ ap (λ o. then_open T R o (renamed_all r ss) (keeping_or (after T R (renamed r s) g)) w) (first (prepared s ss xs))
        ∙ ap (λ o. then_open T R (opens T R s g w (prepared s ss xs)) (renamed_all r ss) (keeping_or o) w) (after-same r T R s g)
        ∙ then-same (opens T R s g w (prepared s ss xs)) ss (keeping_or (after T R s g)) w dead (λ ys. live (keeping_or (after T R s g)) ys)
        ∙ sym (next-open T R s ss g w xs two)

    label-there-same : (o : Option (List Opened)) (ss : Plains) (w : Ways) → ((ys : List Opened) → all_open T R (renamed_all r ss) nothing_set w ys ≡ all_open T R ss nothing_set w ys)
        → ◌≡◌ {A = Where} (elim o [ None ↦ wrong | Some ys ↦ all_open T R (renamed_all r ss) nothing_set w ys ])
        (elim o [ None ↦ wrong | Some ys ↦ all_open T R ss nothing_set w ys ])
    label-there-same None ss w live = refl
    label-there-same (Some ys) ss w live = live ys

    mutual
      opens-same : (s : Plain) (g : Keeping) (w : Ways) (xs : List Opened) → opens T R (renamed r s) g w xs ≡ opens T R s g w xs
      opens-same (act a) g w xs =
          ap (λ b. only_if b (falls (opened_by g None (renamed_action r a) xs))) (action-opens-same g a xs)
          ∙ ap (λ ys. only_if (action_opens g a xs) (falls ys)) (opened-by-same g None a xs)
      opens-same (set q a) g w xs =
          ap (λ b. only_if b (falls (set_by g q (renamed_action r a) xs))) (action-opens-same g a xs)
          ∙ ap (λ ys. only_if (action_opens g a xs) (falls ys)) (set-by-same g q a xs)
      opens-same (branch q ss ts) g w xs =
          ap (λ o. joined o (all_open T R (renamed_all r ts) g w (where_unset q xs))) (all-open-same ss g w (where_set q xs))
          ∙ ap (λ o. joined (all_open T R ss g w (where_set q xs)) o) (all-open-same ts g w (where_unset q xs))
      opens-same (loop ss ts) g w xs =
          let ys = map settled xs in
          let turn : Ways = record { breaks = Some ys; continues = Some ys; labels = no_label } in
          let step : Ways = record { breaks = Some ys; continues = None; labels = no_label } in
          ap (λ o. only_if (comes_to ys o && comes_to ys (all_open T R (renamed_all r ts) nothing_set step ys)) (falls ys)) (all-open-same ss nothing_set turn ys)
          ∙ ap (λ o. only_if (comes_to ys (all_open T R ss nothing_set turn ys) && comes_to ys o) (falls ys)) (all-open-same ts nothing_set step ys)
      opens-same (switch q ss) g w xs =
          let ys = map settled xs in
          ap (λ o. only_if (comes_to ys o) (falls ys)) (all-open-same ss nothing_set (record { breaks = Some ys; continues = w.continues; labels = λ l. Some ys }) ys)
      opens-same s g w xs = refl

      pub all-open-same : (ss : Plains) (g : Keeping) (w : Ways) (xs : List Opened) → all_open T R (renamed_all r ss) g w xs ≡ all_open T R ss g w xs
      all-open-same nothing g w xs = refl
      all-open-same (more (switch q ss) (more (switch p ts) rest)) g w xs =
          choose ((q == p) && stands_before ss ts)
          (λ k.
          let ys = map settled xs in
          let next = keeping_or (after T R (switch p ts) (keeping_or (after T R (switch q ss) g))) in
          let inner = ways_behind w ss ys in
          both-is q p (renamed_all r ss) (renamed_all r ts) (renamed_all r rest) g w xs (ap (λ b. (q == p) && b) (before-same ss ts) ∙ k)
          ∙ ap (λ (v : Ways). if comes_to ys (all_open T R (renamed_all r ts) nothing_set v ys)
          then all_open T R (renamed_all r rest) (keeping_or (after T R (switch p (renamed_all r ts)) (keeping_or (after T R (switch q (renamed_all r ss)) g)))) w ys else wrong)
          (ways-same w ss ys)
          ∙ ap (λ o. if comes_to ys o
          then all_open T R (renamed_all r rest) (keeping_or (after T R (switch p (renamed_all r ts)) (keeping_or (after T R (switch q (renamed_all r ss)) g)))) w ys else wrong)
          (all-open-same ts nothing_set inner ys)
          ∙ ap (λ (h : Keeping). if comes_to ys (all_open T R ts nothing_set inner ys) then all_open T R (renamed_all r rest) h w ys else wrong) (kept-behind q p ss ts g)
          ∙ ap (λ o. if comes_to ys (all_open T R ts nothing_set inner ys) then o else wrong) (all-open-same rest next w ys)
          ∙ sym (both-is q p ss ts rest g w xs k))
          (λ k.
          step-same (switch q ss) (more (switch p ts) rest) g w xs
          (alone-or q p (renamed_all r ss) (renamed_all r ts) (renamed_all r rest) (ap (λ b. (q == p) && b) (before-same ss ts) ∙ k)) (alone-or q p ss ts rest k)
          (λ zs. opens-same (switch q ss) g w zs) (from-label-same (more (switch p ts) rest) w) (λ h ys. all-open-same (more (switch p ts) rest) h w ys))
      all-open-same (more s ss) g w xs =
          step-same s ss g w xs refl refl (λ zs. opens-same s g w zs) (from-label-same ss w) (λ h ys. all-open-same ss h w ys)

      from-label-same : (ss : Plains) (w : Ways) → from_label T R (renamed_all r ss) w ≡ from_label T R ss w
      from-label-same nothing w = refl
      from-label-same (more (case_label y) ss) w = label-there-same (w.labels (Some y)) ss w (λ ys. all-open-same ss nothing_set w ys)
      from-label-same (more default_label ss) w = label-there-same (w.labels None) ss w (λ ys. all-open-same ss nothing_set w ys)
      from-label-same (more s ss) w = from-label-same ss w
