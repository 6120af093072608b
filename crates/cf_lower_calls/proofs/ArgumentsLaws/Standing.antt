-- The objects of arguments, in the C locals of their own.
use Rattle.std.proofs.Common.{◌≡◌, ℕ, ◌<◌, nat_lt, Bool, true, false, ◌&&◌, ◌||◌, not, ◌==◌, List, [], ◌∷◌, refl, sym, ◌∙◌, ap, subst, arith}
use Rattle.std.specs.Prelude.{Option, Some, None, is_some, length}
use Rattle.std.proofs.lemmas.Bool.Decides.{nat_tests}
use Rattle.cf_base.proofs.Tests.{both}
use Rattle.cf_core.specs.Places.{is_scalar}
use Rattle.cf_core.specs.Run.{State}
use Rattle.cf_lower_layout.specs.Sorts.{Sort, scalar_sort, sort_of}
use Rattle.cf_plain.specs.Acts.{Registers}
use Rattle.cf_plain_frames.specs.Since.{is_among}
use Rattle.cc_whole_mean.specs.declared.named.Named.TheVariants as meant
use Rattle.cc_whole_mean.specs.declared.named.Shape.TheVariants.{Single as single}
use Rattle.cc_whole_mean.specs.Flow as c
use Rattle.cc_whole_mean.specs.Types.{scalar_of}
use Rattle.cf_lower.specs.Kept.{Keeping, type_of_local, is_argument}
use Rattle.cf_lower.specs.Written.{c_type}
use Rattle.cf_lower_relate.specs.Map.{Fixed, is_ended, is_hidden}
use Rattle.cf_lower_steps.specs.Own.{LocalObject}
use Rattle.cf_lower_turns.specs.Here.{Body, Here}
use Rattle.cf_lower_calls.specs.Evaluated.Arguments.{NotAmong, Differ, InItsLocal, InTheirLocals}
use Rattle.cf_lower_calls.specs.Arguments.Passing.{is_passed, are_passed, Shaped, ArgumentThere, ArgumentsThere, InOwn, AllInOwn}

not-false : (b : Bool) → not b ≡ true → b ≡ false
not-false true h = absurd (let k = h in cc)
not-false false h = refl

module _ (K : Fixed) (at : Body) (p : Keeping) (d : ℕ) (g : Registers) (s : State) (t : c.State) (h : Here K at p d g s t) where
  -- ---- one argument

  module _ (i o : ℕ) (pass : is_passed at.own.locals i ≡ true) (x : ArgumentThere s i o) where
    tests : (nat_lt i (length at.own.locals.types) ≡ true)
        × (((is_argument at.own.locals i && is_scalar (type_of_local at.own.locals i)) && is_some (sort_of (type_of_local at.own.locals i))) ≡ true)
    tests = both (nat_lt i (length at.own.locals.types))
        ((is_argument at.own.locals i && is_scalar (type_of_local at.own.locals i)) && is_some (sort_of (type_of_local at.own.locals i))) pass

    kinds : ((is_argument at.own.locals i && is_scalar (type_of_local at.own.locals i)) ≡ true) × (is_some (sort_of (type_of_local at.own.locals i)) ≡ true)
    kinds = both (is_argument at.own.locals i && is_scalar (type_of_local at.own.locals i)) (is_some (sort_of (type_of_local at.own.locals i))) tests.1

    pub local-there : i < length at.own.locals.types
    local-there = let e = tests.0 in grind (arith, nat_tests, e)

    object : LocalObject at.own h.map i o
    object = h.between.locals.objects i o local-there x.local

    live : is_ended (h.map.stage o) ≡ false
    live = sym (h.between.rel.gone o object.known) ∙ x.stands

    unseen : is_hidden (h.map.stage o) ≡ true
    unseen = h.arguments i o local-there kinds.0 x.local live

    in-local : Shaped at.own at.scope → InItsLocal K h.map at.scope s i o
    in-local shaped = by_sort (sort_of (type_of_local at.own.locals i)) refl
      where
        by_sort : (a : Option Sort) → sort_of (type_of_local at.own.locals i) ≡ a → InItsLocal K h.map at.scope s i o
        by_sort None e = absurd (let k = sym (ap is_some e) ∙ kinds.1 in cc)
        by_sort (Some u) e = record {
          known = object.known;
          hidden = unseen;
          sort = u;
          typed = ap scalar_sort object.type ∙ e;
          named = shaped i local-there u e ∙ ap (λ b. Some (meant.Variable b (single (scalar_of (c_type u))))) (sym (object.block live));
          base = object.base live;
          value = x.value;
          held = x.held;
        }

    in-own : InOwn at.own h.map o
    in-own = record { local = i; there = local-there; known = object.known; hidden = unseen; block = object.block live }

  -- ---- all of them

  pub in-locals : Shaped at.own at.scope → (is os : List ℕ) → are_passed at.own.locals is ≡ true → ArgumentsThere s is os → InTheirLocals K h.map at.scope s is os
  in-locals shaped [] [] pass xs = tt
  in-locals shaped [] (o ∷ os) pass xs = absurd xs
  in-locals shaped (i ∷ is) [] pass xs = absurd xs
  in-locals shaped (i ∷ is) (o ∷ os) pass xs =
      let two = both (is_passed at.own.locals i) (not (is_among i is) && are_passed at.own.locals is) pass in (
        in-local i o two.0 xs.0 shaped,
        in-locals shaped is os (both (not (is_among i is)) (are_passed at.own.locals is) two.1).1 xs.1,
      )

  -- an object differs from those of other locals
  apart : (i o : ℕ) → is_passed at.own.locals i ≡ true → ArgumentThere s i o → (is os : List ℕ) → is_among i is ≡ false → are_passed at.own.locals is ≡ true
      → ArgumentsThere s is os → NotAmong o os
  apart i o first x [] [] ne pass xs = tt
  apart i o first x [] (q ∷ qs) ne pass xs = absurd xs
  apart i o first x (j ∷ js) [] ne pass xs = absurd xs
  apart i o first x (j ∷ js) (q ∷ qs) ne pass xs =
      let two = both (is_passed at.own.locals j) (not (is_among j js) && are_passed at.own.locals js) pass in (
        λ e. differs two.0 xs.0 e,
        apart i o first x js qs (rest (j == i) (is_among i js) ne).1 (both (not (is_among j js)) (are_passed at.own.locals js) two.1).1 xs.1,
      )
    where
      rest : (a b : Bool) → (a || b) ≡ false → (a ≡ false) × (b ≡ false)
      rest true b e = absurd (let k = e in cc)
      rest false b e = (refl, e)

      differs : is_passed at.own.locals j ≡ true → ArgumentThere s j q → o ≡ q → ⊥
      differs second y e =
          let one = object i o first x in
          let two = object j q second y in
          let blocks : at.own.local i ≡ at.own.local j =
          sym (one.block (live i o first x)) ∙ ap h.map.block e ∙ two.block (live j q second y) in
          let same : i ≡ j = (h.between.locals.blocks i (local-there i o first x)).alone j (local-there j q second y) blocks in
          let other = (rest (j == i) (is_among i js) ne).0 in
          grind (arith, nat_tests, same, other)

  pub all-differ : (is os : List ℕ) → are_passed at.own.locals is ≡ true → ArgumentsThere s is os → Differ os
  all-differ [] [] pass xs = tt
  all-differ [] (o ∷ os) pass xs = absurd xs
  all-differ (i ∷ is) [] pass xs = absurd xs
  all-differ (i ∷ is) (o ∷ os) pass xs =
      let two = both (is_passed at.own.locals i) (not (is_among i is) && are_passed at.own.locals is) pass in
      let more = both (not (is_among i is)) (are_passed at.own.locals is) two.1 in
      (apart i o two.0 xs.0 is os (not-false (is_among i is) more.0) more.1 xs.1, all-differ is os more.1 xs.1)

  -- the first, or one of the others
  own-or : (i o : ℕ) (os : List ℕ) (q : ℕ) → InOwn at.own h.map o → (is_among q os ≡ true → InOwn at.own h.map q) → (b : Bool) → o == q ≡ b → is_among q (o ∷ os) ≡ true
      → InOwn at.own h.map q
  own-or i o os q first rest true k e = subst (InOwn at.own h.map) (let same : o ≡ q = grind (arith, nat_tests, k) in same) first
  own-or i o os q first rest false k e = rest (sym (ap (λ b. b || is_among q os) k) ∙ e)

  pub all-own : (is os : List ℕ) → are_passed at.own.locals is ≡ true → ArgumentsThere s is os → AllInOwn at.own h.map os
  all-own [] [] pass xs q e = absurd (let k = e in cc)
  all-own [] (o ∷ os) pass xs q e = absurd xs
  all-own (i ∷ is) [] pass xs q e = absurd xs
  all-own (i ∷ is) (o ∷ os) pass xs q e =
      let two = both (is_passed at.own.locals i) (not (is_among i is) && are_passed at.own.locals is) pass in
      let more = both (not (is_among i is)) (are_passed at.own.locals is) two.1 in
      own-or i o os q (in-own i o two.0 xs.0) (all-own is os more.1 xs.1 q) (o == q) refl e
