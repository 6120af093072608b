-- Plain statements in which functions and objects have other names: registers hold the same, and as many are set.
use Rattle.std.proofs.Common.{◌≡◌, ℕ, suc, max, ◌||◌, if◌then◌else◌, List, [], ◌∷◌, ◌++◌, map, refl, ap, sym, ◌∙◌}
use Rattle.std.specs.List.{flat_map}
use Rattle.std.proofs.lemmas.List.{map-append}
use Rattle.cf_core.specs.Types.{Name}
use Rattle.cf_plain.specs.Plain as plain
use Rattle.cf_plain.specs.Plain.{Register, Action, Plain, Plains, PlainParts, act, set, branch, loop, switch, case_label, default_label, leave, continue, give, parts, nothing, more, no_parts, part}
use Rattle.cf_plain.specs.Joined.{renamed_action, renamed, renamed_all, renamed_parts}
use Rattle.cf_plain.specs.Named.{actions, all_actions, part_actions}
use Rattle.cf_lower.specs.Kept.{unknown, Keeping, Locals, keep, common, kept_by, sets, all_set, parts_set, untouched, after, after_all}
use Rattle.cf_lower.specs.Functions.{bound, all_bound, parts_bound, nesting, all_nesting, result_at, arguments_at}

module _ (q : Name → Name) where
  -- ---- what registers hold

  module _ (locals : Locals) where
    pub kept-same : (g : Keeping) (a : Action) → kept_by locals g (renamed_action q a) ≡ kept_by locals g a
    kept-same g (plain.static_object n t) = refl
    kept-same g (plain.function n t) = refl
    kept-same g (plain.function_pointer t) = refl
    kept-same g (plain.is_reached n) = refl
    kept-same g (plain.reach n) = refl
    kept-same g (plain.finish_static n) = refl
    kept-same g (plain.call f t object is into) = refl
    kept-same g (plain.build f t p is) = refl
    kept-same g a = refl

    mutual
      sets-same : (r : Register) (s : Plain) → sets locals r (renamed q s) ≡ sets locals r s
      sets-same r (act a) = refl
      sets-same r (set p a) = refl
      sets-same r (branch p ss ts) = ap (λ b. b || all_set locals r (renamed_all q ts)) (all-set-same r ss) ∙ ap (λ b. all_set locals r ss || b) (all-set-same r ts)
      sets-same r (loop ss ts) = ap (λ b. b || all_set locals r (renamed_all q ts)) (all-set-same r ss) ∙ ap (λ b. all_set locals r ss || b) (all-set-same r ts)
      sets-same r (switch p ss) = all-set-same r ss
      sets-same r (parts ps) = parts-set-same r ps
      sets-same r (case_label z) = refl
      sets-same r default_label = refl
      sets-same r leave = refl
      sets-same r continue = refl
      sets-same r (give o) = refl

      all-set-same : (r : Register) (ss : Plains) → all_set locals r (renamed_all q ss) ≡ all_set locals r ss
      all-set-same r nothing = refl
      all-set-same r (more s ss) = ap (λ b. b || all_set locals r (renamed_all q ss)) (sets-same r s) ∙ ap (λ b. sets locals r s || b) (all-set-same r ss)

      parts-set-same : (r : Register) (ps : PlainParts) → parts_set locals r (renamed_parts q ps) ≡ parts_set locals r ps
      parts-set-same r no_parts = refl
      parts-set-same r (part w ss rest) =
          ap (λ b. b || parts_set locals r (renamed_parts q rest)) (all-set-same r ss) ∙ ap (λ b. all_set locals r ss || b) (parts-set-same r rest)

    pub untouched-same : (g : Keeping) (ss : Plains) → untouched locals g (renamed_all q ss) ≡ untouched locals g ss
    untouched-same g ss = λ j r. ap (λ b. if b then unknown else g r) (all-set-same r ss) j

    mutual
      pub after-same : (s : Plain) (g : Keeping) → after locals (renamed q s) g ≡ after locals s g
      after-same (act a) g = refl
      after-same (set r a) g = ap (keep g r) (kept-same g a)
      after-same (branch r ss ts) g =
          ap (λ h. common h (after_all locals (renamed_all q ts) g)) (after-all-same ss g) ∙ ap (common (after_all locals ss g)) (after-all-same ts g)
      after-same (loop ss ts) g =
          ap (λ h. untouched locals h (renamed_all q ts)) (untouched-same g ss) ∙ untouched-same (untouched locals g ss) ts
      after-same (switch r ss) g = untouched-same g ss
      after-same (parts ps) g = refl
      after-same (case_label z) g = refl
      after-same default_label g = refl
      after-same leave g = refl
      after-same continue g = refl
      after-same (give o) g = refl

      pub after-all-same : (ss : Plains) (g : Keeping) → after_all locals (renamed_all q ss) g ≡ after_all locals ss g
      after-all-same nothing g = refl
      after-all-same (more s ss) g = ap (after_all locals (renamed_all q ss)) (after-same s g) ∙ after-all-same ss (after locals s g)

  -- ---- how many registers and flags there are

  mutual
    bound-same : (s : Plain) → bound (renamed q s) ≡ bound s
    bound-same (act a) = refl
    bound-same (set r a) = refl
    bound-same (branch r ss ts) = ap (λ n. max n (all_bound (renamed_all q ts))) (all-bound-same ss) ∙ ap (max (all_bound ss)) (all-bound-same ts)
    bound-same (loop ss ts) = ap (λ n. max n (all_bound (renamed_all q ts))) (all-bound-same ss) ∙ ap (max (all_bound ss)) (all-bound-same ts)
    bound-same (switch r ss) = all-bound-same ss
    bound-same (parts ps) = parts-bound-same ps
    bound-same (case_label z) = refl
    bound-same default_label = refl
    bound-same leave = refl
    bound-same continue = refl
    bound-same (give o) = refl

    pub all-bound-same : (ss : Plains) → all_bound (renamed_all q ss) ≡ all_bound ss
    all-bound-same nothing = refl
    all-bound-same (more s ss) = ap (λ n. max n (all_bound (renamed_all q ss))) (bound-same s) ∙ ap (max (bound s)) (all-bound-same ss)

    parts-bound-same : (ps : PlainParts) → parts_bound (renamed_parts q ps) ≡ parts_bound ps
    parts-bound-same no_parts = refl
    parts-bound-same (part w ss rest) = ap (λ n. max n (parts_bound (renamed_parts q rest))) (all-bound-same ss) ∙ ap (max (all_bound ss)) (parts-bound-same rest)

  mutual
    nesting-same : (s : Plain) → nesting (renamed q s) ≡ nesting s
    nesting-same (act a) = refl
    nesting-same (set r a) = refl
    nesting-same (branch r ss ts) = ap (λ n. max n (all_nesting (renamed_all q ts))) (all-nesting-same ss) ∙ ap (max (all_nesting ss)) (all-nesting-same ts)
    nesting-same (loop ss nothing) = all-nesting-same ss
    nesting-same (loop ss ts) =
        ap (λ n. max (suc n) (all_nesting (renamed_all q ts))) (all-nesting-same ss) ∙ ap (max (suc (all_nesting ss))) (all-nesting-same ts)
    nesting-same (switch r ss) = ap (λ (n : ℕ). suc n) (all-nesting-same ss)
    nesting-same (parts ps) = refl
    nesting-same (case_label z) = refl
    nesting-same default_label = refl
    nesting-same leave = refl
    nesting-same continue = refl
    nesting-same (give o) = refl

    pub all-nesting-same : (ss : Plains) → all_nesting (renamed_all q ss) ≡ all_nesting ss
    all-nesting-same nothing = refl
    all-nesting-same (more s ss) = ap (λ n. max n (all_nesting (renamed_all q ss))) (nesting-same s) ∙ ap (max (nesting s)) (all-nesting-same ss)

  -- ---- actions

  abbrev renamed_actions : List Action → List Action
  renamed_actions acts = map (renamed_action q) acts

  two-renamed : (xs ys us vs : List Action) → xs ≡ renamed_actions us → ys ≡ renamed_actions vs → (xs ++ ys) ≡ renamed_actions (us ++ vs)
  two-renamed xs ys us vs e h = ap (λ l. l ++ ys) e ∙ ap (λ l. renamed_actions us ++ l) h ∙ sym (map-append (renamed_action q) us vs)

  mutual
    actions-renamed : (s : Plain) → actions (renamed q s) ≡ renamed_actions (actions s)
    actions-renamed (act a) = refl
    actions-renamed (set r a) = refl
    actions-renamed (branch r ss ts) =
        two-renamed (all_actions (renamed_all q ss)) (all_actions (renamed_all q ts)) (all_actions ss) (all_actions ts) (all-actions-renamed ss) (all-actions-renamed ts)
    actions-renamed (loop ss ts) =
        two-renamed (all_actions (renamed_all q ss)) (all_actions (renamed_all q ts)) (all_actions ss) (all_actions ts) (all-actions-renamed ss) (all-actions-renamed ts)
    actions-renamed (switch r ss) = all-actions-renamed ss
    actions-renamed (parts ps) = part-actions-renamed ps
    actions-renamed (case_label z) = refl
    actions-renamed default_label = refl
    actions-renamed leave = refl
    actions-renamed continue = refl
    actions-renamed (give o) = refl

    pub all-actions-renamed : (ss : Plains) → all_actions (renamed_all q ss) ≡ renamed_actions (all_actions ss)
    all-actions-renamed nothing = refl
    all-actions-renamed (more s ss) =
        two-renamed (actions (renamed q s)) (all_actions (renamed_all q ss)) (actions s) (all_actions ss) (actions-renamed s) (all-actions-renamed ss)

    part-actions-renamed : (ps : PlainParts) → part_actions (renamed_parts q ps) ≡ renamed_actions (part_actions ps)
    part-actions-renamed no_parts = refl
    part-actions-renamed (part w ss rest) =
        two-renamed (all_actions (renamed_all q ss)) (part_actions (renamed_parts q rest)) (all_actions ss) (part_actions rest) (all-actions-renamed ss)
        (part-actions-renamed rest)

  flat-same : {B : Type 0} (f : Action → List B) → ((a : Action) → f (renamed_action q a) ≡ f a) → (acts : List Action) → flat_map f (renamed_actions acts) ≡ flat_map f acts
  flat-same f h [] = refl
  flat-same f h (a ∷ acts) = ap (λ l. l ++ flat_map f (renamed_actions acts)) (h a) ∙ ap (λ l. f a ++ l) (flat-same f h acts)

  result-same : (a : Action) → result_at (renamed_action q a) ≡ result_at a
  result-same (plain.static_object n t) = refl
  result-same (plain.function n t) = refl
  result-same (plain.function_pointer t) = refl
  result-same (plain.is_reached n) = refl
  result-same (plain.reach n) = refl
  result-same (plain.finish_static n) = refl
  result-same (plain.call f t object is into) = refl
  result-same (plain.build f t p is) = refl
  result-same a = refl

  argument-same : (a : Action) → arguments_at (renamed_action q a) ≡ arguments_at a
  argument-same (plain.static_object n t) = refl
  argument-same (plain.function n t) = refl
  argument-same (plain.function_pointer t) = refl
  argument-same (plain.is_reached n) = refl
  argument-same (plain.reach n) = refl
  argument-same (plain.finish_static n) = refl
  argument-same (plain.call f t object is into) = refl
  argument-same (plain.build f t p is) = refl
  argument-same a = refl

  -- the C types of results, and the objects of arguments
  pub results-same : (ss : Plains) → flat_map result_at (all_actions (renamed_all q ss)) ≡ flat_map result_at (all_actions ss)
  results-same ss = ap (flat_map result_at) (all-actions-renamed ss) ∙ flat-same result_at result-same (all_actions ss)

  pub arguments-same : (ss : Plains) → flat_map arguments_at (all_actions (renamed_all q ss)) ≡ flat_map arguments_at (all_actions ss)
  arguments-same ss = ap (flat_map arguments_at) (all-actions-renamed ss) ∙ flat-same arguments_at argument-same (all_actions ss)
