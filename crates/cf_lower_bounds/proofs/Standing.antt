-- What is so between two statements keeps the laws that loops and switches ask for.
use Rattle.std.proofs.Common.{◌≡◌, ℕ, suc, ◌<◌, ◌≤◌, Bool, true, false, ◌==◌, refl, ◌∙◌, ap, subst, arith}
use Rattle.std.specs.Prelude.{ℤ, pos, Some, Ok}
use Rattle.std.proofs.lemmas.Bool.Decides.{nat_tests}
use Rattle.cf_base.specs.declared.kind.Kind.{Kind}
use Rattle.cf_base.specs.declared.kind.Kind.TheVariants.{Int}
use Rattle.cf_base.specs.Integers.{convert}
use Rattle.cf_core.specs.Store as source
use Rattle.cf_core.specs.Run.{State}
use Rattle.cf_plain.specs.Plain.{Register}
use Rattle.cf_plain.specs.Acts.{Registers}
use Rattle.cc_whole_memory.specs.declared.value.Value.{Value}
use Rattle.cc_whole_memory.specs.Values.{bytes_of}
use Rattle.cc_whole_mean.specs.Types.{scalar_of}
use Rattle.cc_whole_mean.specs.Values.{value_of}
use Rattle.cc_whole_mean.specs.Flow as c
use Rattle.cc_whole_mean.specs.Flow.{in_memory}
use Rattle.cf_lower.specs.Kept.{integer_of, Keeping, local_kept}
use Rattle.cf_lower.specs.Expressions.{local_value, integer_in}
use Rattle.cf_lower_relate.specs.Map.{Fixed}
use Rattle.cf_lower_steps.specs.Steps.{HasValue, KeptAs}
use Rattle.cf_lower_turns.specs.Flags.{Shows, FlagSet}
use Rattle.cf_lower_turns.specs.Here.{Body, Here, Narrows}
use Rattle.cf_lower_turns.specs.Scene.{Scene, fixed_in}
use Rattle.cf_lower_turns.proofs.Flags.{after, set-flag, shows-new, shows-other, flags-after, between-after, room-after, outer-after, texts-after}
use Rattle.cf_lower_bounds.specs.Points.{Point, At}
use Rattle.cf_lower_bounds.specs.Bounds.{LiesWithin, TellsAll, TellsAllBy}
use Rattle.cf_lower_bounds.proofs.Laws.{HasNumber, Laws}

different-below : (e d : ℕ) → e < d → e ≡ d → ⊥
different-below e d lt same = omega (arith, lt, same)

module _ (K : Fixed) (at : Body) where
  abbrev R : Keeping → ℕ → Registers → State → c.State → Type 0
  R = Here K at

  -- the same, with other flags known to be 0
  with-flags : (p : Keeping) (d e : ℕ) (g : Registers) (s : State) (t : c.State) → R p d g s t → e ≤ at.flags.bound
      → ((f : ℕ) → f < e → Shows at.scope f 0 t.memory) → R p e g s t
  with-flags p d e g s t h bounded unset = record {
    map = h.map;
    grows = h.grows;
    between = h.between;
    below = h.below;
    flags_there = h.flags_there;
    bounded = bounded;
    unset = unset;
    outer = h.outer;
    placed = h.placed;
    homes = h.homes;
    arguments = h.arguments;
    texts_laid = h.texts_laid;
    texts = h.texts;
    later = h.later;
  }

  within : (p q : Keeping) → Narrows K at p q → (d : ℕ) (g : Registers) (s : State) (t : c.State) → R p d g s t → R q d g s t
  within p q n d g s t h = record {
    map = h.map;
    grows = h.grows;
    between = record {
      rel = h.between.rel;
      registers = n.weaker h.map g t.memory h.between.registers;
      blocks = h.between.blocks;
      locals = h.between.locals;
    };
    below = n.below h.below;
    flags_there = h.flags_there;
    bounded = h.bounded;
    unset = h.unset;
    outer = h.outer;
    placed = h.placed;
    homes = h.homes;
    arguments = h.arguments;
    texts_laid = h.texts_laid;
    texts = h.texts;
    later = h.later;
  }

  fewer : (p : Keeping) (d : ℕ) (g : Registers) (s : State) (t : c.State) → R p (suc d) g s t → R p d g s t
  fewer p d g s t h = with-flags p (suc d) d g s t h (let b = h.bounded in omega (arith, b)) (λ f lt. h.unset f (omega (arith, lt)))

  more : (p : Keeping) (d : ℕ) (g : Registers) (s : State) (t : c.State) → d < at.flags.bound → Shows at.scope d 0 t.memory → R p d g s t → R p (suc d) g s t
  more p d g s t lt shown h = with-flags p d (suc d) g s t h (omega (arith, lt)) (λ f lf. by_test f lf (f == d) refl)
    where
      by_test : (f : ℕ) → f < suc d → (b : Bool) → f == d ≡ b → Shows at.scope f 0 t.memory
      by_test f lf true e = subst (λ i. Shows at.scope i 0 t.memory) (let q : d ≡ f = grind (arith, nat_tests, e) in q) shown
      by_test f lf false e = h.unset f (grind (arith, nat_tests, e, lf))

  set : (p : Keeping) (d n : ℕ) (g : Registers) (s : State) (t : c.State) → d < at.flags.bound → convert Int (pos n) ≡ pos n → R p d g s t
      → FlagSet at.scope d n (λ m. R p d g s (in_memory t m)) t.memory
  set p d n g s t lt small h = record {
    after = after at.own at.flags h.map at.scope t.memory h.flags_there d n lt small;
    is = set-flag at.own at.flags h.map at.scope t.memory h.flags_there d n lt small;
    shows = shows-new at.own at.flags h.map at.scope t.memory h.flags_there d n lt small;
    related = record {
      map = h.map;
      grows = h.grows;
      between = between-after at.own at.flags h.map at.scope t.memory h.flags_there d n lt small K p g s h.between h.below;
      below = h.below;
      flags_there = flags-after at.own at.flags h.map at.scope t.memory h.flags_there d n lt small;
      bounded = h.bounded;
      unset = λ e le. shows-other at.own at.flags h.map at.scope t.memory h.flags_there d n lt small e 0 (omega (arith, le, lt)) (different-below e d le) (h.unset e le);
      outer = outer-after at.own at.flags h.map at.scope t.memory h.flags_there d n lt small at.texts at.start at.first (h.later.flags d lt) h.outer;
      placed = record {
        registers = h.placed.registers;
        flags = h.placed.flags;
        results = λ x b is. room-after at.own at.flags h.map at.scope t.memory h.flags_there d n lt small b (bytes_of (scalar_of x))
            (λ same. (h.later.results x b is).flags d lt same) (h.placed.results x b is);
      };
      homes = h.homes;
      arguments = h.arguments;
      texts_laid = h.texts_laid;
      texts = texts-after at.own at.flags h.map at.scope t.memory h.flags_there d n lt small K at.texts at.first.next s (h.later.flags d lt) h.texts_laid h.texts;
      later = h.later;
    };
  }

  number : (p : Keeping) (d : ℕ) (g : Registers) (s : State) (t : c.State) → R p d g s t → (r : Register) (kinds : Kind → Bool) (z : ℤ) → p r ≡ integer_of kinds
      → g r ≡ Some (source.Number z) → HasNumber kinds z (value_of (integer_in r) at.scope t.memory)
  number p d g s t h r kinds z e is =
      let v : HasValue K h.map (integer_of kinds) (source.Number z) (value_of (integer_in r) at.scope t.memory) =
      subst (λ y. KeptAs K h.map y (source.Number z) (value_of (local_value (local_kept y) r) at.scope t.memory)) e (h.between.registers r (source.Number z) is) in
      record { is = v.is ∙ ap (λ (x : Value). Ok x) v.same.is; word = v.same.word; fits = v.same.fits }

-- ---- points

module _ (z : Scene) where
  -- flags are the C's own, so what stands in the source does not change with them
  with-here : (p : Point) (d e : ℕ) (g : Registers) (s : State) (t u : c.State) → At z p d g s t → Here (fixed_in z) z.body p.kept e g s u → At z p e g s u
  with-here p d e g s t u at here = record { here = here; frame = at.frame; standing = at.standing }

  pub at-laws : Laws Point (λ (p : Point). p.kept) z.body.flags.bound z.body.scope (At z)
  at-laws = record {
    bounded = λ p d g s t at. at.here.bounded;
    fewer = λ p d g s t at. with-here p (suc d) d g s t t at (fewer (fixed_in z) z.body p.kept d g s t at.here);
    unset = λ p d g s t at. at.here.unset d (omega arith);
    more = λ p d g s t lt shown at. with-here p d (suc d) g s t t at (more (fixed_in z) z.body p.kept d g s t lt shown at.here);
    set = λ p d n g s t lt small at.
        let done = set (fixed_in z) z.body p.kept d n g s t lt small at.here in
        record { after = done.after; is = done.is; shows = done.shows; related = with-here p d d g s t (in_memory t done.after) at done.related };
    number = λ p d g s t at r kinds y e is. number (fixed_in z) z.body p.kept d g s t at.here r kinds y e is;
  }

  pub lies-within : (p q : Point) → TellsAll z p q → LiesWithin z p q
  lies-within p q tells d g s t at = record {
    here = within (fixed_in z) z.body p.kept q.kept tells.registers d g s t at.here;
    frame = at.frame;
    standing = tells.standing g s at.standing;
  }

  pub lies-within-by : (r : Register) (n : ℤ) (p q : Point) → TellsAllBy z r n p q → (d : ℕ) (g : Registers) (s : State) (t : c.State)
      → g r ≡ Some (source.Number n) → At z p d g s t → At z q d g s t
  lies-within-by r n p q tells d g s t e at = record {
    here = within (fixed_in z) z.body p.kept q.kept tells.registers d g s t at.here;
    frame = at.frame;
    standing = tells.standing g s e at.standing;
  }
