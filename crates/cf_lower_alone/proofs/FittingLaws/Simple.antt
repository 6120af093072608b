-- Functions of which registers hold what is taken change no object but their own and what pointers lead to, by whatever names.
use Rattle.std.proofs.Common.{◌≡◌, Bool, true, false, ◌&&◌, List, ◌++◌, refl, ap, sym, ◌∙◌}
use Rattle.std.specs.Prelude.{Option, Some, None, is_some, if◌then◌else◌}
use Rattle.std.proofs.lemmas.Bool.{true≢false}
use Rattle.cf_base.proofs.Tests.{both, all_of}
use Rattle.cf_core.specs.Types.{Name, SourceType, parameters, result as result_type}
use Rattle.cf_plain.specs.Plain as plain
use Rattle.cf_plain.specs.Plain.{Register, Action, Plain, Plains, act, set, branch, loop, switch, case_label, default_label, leave, continue, give, parts, nothing, more, PlainFunction}
use Rattle.cf_plain.specs.Joined.{renamed_action, renamed, renamed_all}
use Rattle.cf_plain_kept.specs.Kept.{Keeping, nothing_set, keep, untouched, integer_in, kept_by, joined, after, after_all, function_kept}
use Rattle.cf_plain_frames.specs.Simple.{is_simple, simple, all_simple}

some-none : false ≡ true → ⊥
some-none e = true≢false (sym e)

-- ---- what is kept is simple

module _ (locals : List SourceType) (result : SourceType) where
  action-simple : (g : Keeping) (a : Action) → is_some (kept_by locals result g a) ≡ true → is_simple a ≡ true
  action-simple g (plain.number z) e = refl
  action-simple g (plain.text j b) e = refl
  action-simple g (plain.local i) e = refl
  action-simple g (plain.static_object n t) e = refl
  action-simple g (plain.function n t) e = refl
  action-simple g (plain.read r) e = refl
  action-simple g (plain.dereference r) e = refl
  action-simple g (plain.decay r) e = refl
  action-simple g (plain.index r q) e = refl
  action-simple g (plain.convert t r) e = refl
  action-simple g (plain.from_void t r) e = refl
  action-simple g (plain.operate op k r q) e = refl
  action-simple g (plain.unary op k r) e = refl
  action-simple g (plain.truth r) e = refl
  action-simple g (plain.logical_not r) e = refl
  action-simple g (plain.pointer_operate op r q) e = refl
  action-simple g (plain.changed change r q) e = refl
  action-simple g (plain.store r q) e = refl
  action-simple g (plain.declare i t) e = refl
  action-simple g (plain.first r q) e = refl
  action-simple g (plain.zeros r) e = refl
  action-simple g (plain.bytes r b) e = refl
  action-simple g (plain.finish t i) e = refl
  action-simple g (plain.call n t None is None) e = refl
  action-simple g (plain.pointer_call None r t is None) e = refl
  action-simple g a e = absurd (some-none e)

  if-some : {A : Type 0} (b : Bool) (x : Option A) → is_some (if b then x else None) ≡ true → (b ≡ true) × (is_some x ≡ true)
  if-some true x e = (refl, e)
  if-some false x e = absurd (some-none e)

  joined-some : (x y : Option Keeping) → is_some (joined locals result x y) ≡ true → (is_some x ≡ true) × (is_some y ≡ true)
  joined-some (Some g) (Some h) e = (refl, refl)
  joined-some (Some g) None e = absurd (some-none e)
  joined-some None y e = absurd (some-none e)

  kept-some : {A B : Type 0} (x : Option A) (f : A → B) → is_some (elim x [ None ↦ None | Some y ↦ Some (f y) ]) ≡ true → is_some x ≡ true
  kept-some None f e = absurd (some-none e)
  kept-some (Some y) f e = refl

  record Then (s : Plain) (ss : Plains) (g : Keeping) : Type 0 where
    first : is_some (after locals result s g) ≡ true
    behind : Keeping
    rest : is_some (after_all locals result ss behind) ≡ true

  then-some : (s : Plain) (ss : Plains) (g : Keeping) (x : Option Keeping) → after locals result s g ≡ x
      → is_some (elim x [ None ↦ None | Some h ↦ after_all locals result ss h ]) ≡ true → Then s ss g
  then-some s ss g None is e = absurd (some-none e)
  then-some s ss g (Some h) is e = record { first = ap is_some is ∙ refl; behind = h; rest = e }

  mutual
    statement-simple : (s : Plain) (g : Keeping) → is_some (after locals result s g) ≡ true → simple s ≡ true
    statement-simple (act a) g e = action-simple g a (kept-some (kept_by locals result g a) (λ x. g) e)
    statement-simple (set r a) g e = action-simple g a (kept-some (kept_by locals result g a) (λ x. keep g r x) e)
    statement-simple (branch r ss ts) g e =
        let x = if-some (integer_in (g r)) (joined locals result (after_all locals result ss g) (after_all locals result ts g)) e in
        let y = joined-some (after_all locals result ss g) (after_all locals result ts g) x.1 in
        all_of (all_simple ss) (all_simple ts) (all-statements-simple ss g y.0) (all-statements-simple ts g y.1)
    statement-simple (loop ss ts) g e =
        let x = if-some (is_some (after_all locals result ss nothing_set) && is_some (after_all locals result ts nothing_set)) (Some nothing_set) e in
        let y = both (is_some (after_all locals result ss nothing_set)) (is_some (after_all locals result ts nothing_set)) x.0 in
        all_of (all_simple ss) (all_simple ts) (all-statements-simple ss nothing_set y.0) (all-statements-simple ts nothing_set y.1)
    statement-simple (switch r ss) g e =
        let x = if-some (integer_in (g r) && is_some (after_all locals result ss nothing_set)) (Some (untouched g ss)) e in
        all-statements-simple ss nothing_set (both (integer_in (g r)) (is_some (after_all locals result ss nothing_set)) x.0).1
    statement-simple (case_label z) g e = refl
    statement-simple default_label g e = refl
    statement-simple leave g e = refl
    statement-simple continue g e = refl
    statement-simple (give o) g e = refl
    statement-simple (parts ps) g e = absurd (some-none e)

    all-statements-simple : (ss : Plains) (g : Keeping) → is_some (after_all locals result ss g) ≡ true → all_simple ss ≡ true
    all-statements-simple nothing g e = refl
    all-statements-simple (more s ss) g e =
        let x = then-some s ss g (after locals result s g) refl e in
        all_of (simple s) (all_simple ss) (statement-simple s g x.first) (all-statements-simple ss x.behind x.rest)

pub kept-simple : (f : PlainFunction) → function_kept f ≡ true → all_simple f.body ≡ true
kept-simple f e = all-statements-simple (parameters f.type ++ f.locals) (result_type f.type) f.body nothing_set e

-- ---- by other names

module _ (q : Name → Name) where
  action-same : (a : Action) → is_simple (renamed_action q a) ≡ is_simple a
  action-same (plain.static_object n t) = refl
  action-same (plain.function n t) = refl
  action-same (plain.function_pointer t) = refl
  action-same (plain.is_reached n) = refl
  action-same (plain.reach n) = refl
  action-same (plain.finish_static n) = refl
  action-same (plain.call f t None is None) = refl
  action-same (plain.call f t None is (Some r)) = refl
  action-same (plain.call f t (Some o) is into) = refl
  action-same (plain.build f t p is) = refl
  action-same a = refl

  mutual
    same-simple : (s : Plain) → simple (renamed q s) ≡ simple s
    same-simple (act a) = action-same a
    same-simple (set r a) = action-same a
    same-simple (branch r ss ts) = ap (λ b. b && all_simple (renamed_all q ts)) (all-same-simple ss) ∙ ap (λ b. all_simple ss && b) (all-same-simple ts)
    same-simple (loop ss ts) = ap (λ b. b && all_simple (renamed_all q ts)) (all-same-simple ss) ∙ ap (λ b. all_simple ss && b) (all-same-simple ts)
    same-simple (switch r ss) = all-same-simple ss
    same-simple (parts ps) = refl
    same-simple (case_label z) = refl
    same-simple default_label = refl
    same-simple leave = refl
    same-simple continue = refl
    same-simple (give o) = refl

    pub all-same-simple : (ss : Plains) → all_simple (renamed_all q ss) ≡ all_simple ss
    all-same-simple nothing = refl
    all-same-simple (more s ss) = ap (λ b. b && all_simple (renamed_all q ss)) (same-simple s) ∙ ap (λ b. simple s && b) (all-same-simple ss)
