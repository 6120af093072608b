-- The C locals of parameters and locals stay where other blocks change, and where an object in one of them changes.
use Rattle.std.proofs.Common.{◌≡◌, ℕ, ◌+◌, ◌<◌, ◌≤◌, Bool, true, false, ◌==◌, refl, sym, ◌∙◌, ap, subst, arith}
use Rattle.std.specs.Prelude.{Some, length}
use Rattle.std.proofs.lemmas.Bool.Decides.{nat_tests}
use Rattle.cf_core.specs.Types.{without_const}
use Rattle.cf_core.specs.Run.{State}
use Rattle.cf_core.specs.Size.{size}
use Rattle.cf_lower_layout.proofs.Laid.{size-without}
use Rattle.cc_whole_memory.specs.Blocks.{Memory}
use Rattle.cc_whole_mean.specs.Scope.{Scope}
use Rattle.cf_lower_relate.specs.Map.{Fixed, Map, is_ended}
use Rattle.cf_lower_relate.specs.Relation.{Rel}
use Rattle.cf_lower.specs.Kept.{type_of_local}
use Rattle.cf_lower_steps.specs.Own.{Own, LocalBlock, InLocals}

module _ (K : Fixed) (own : Own) (F : Map) (scope : Scope) (s : State) (m : Memory) (h : InLocals K own F scope s m) where
  -- other blocks change
  pub locals-elsewhere : (m' : Memory) → ((i : ℕ) → i < length own.locals.types → m'.block (own.local i) ≡ m.block (own.local i)) → m'.next ≡ m.next
      → InLocals K own F scope s m'
  locals-elsewhere m' same next = record {
    blocks = λ i lt.
        let b = h.blocks i lt in
        record {
          shape = b.shape;
          named = b.named;
          block = b.block;
          there = same i lt ∙ b.there;
          size = b.size;
          below = let l = b.below in omega (arith, l, next);
          apart = b.apart;
          alone = b.alone;
        };
    objects = h.objects;
    only = h.only;
  }

  -- an object changes, in its block
  module _ (t : State) (m' : Memory) (rel : Rel K F t m') (frame : t.frame ≡ s.frame) (next : m'.next ≡ m.next) (o : ℕ) (known : o < F.count)
      (live : is_ended (F.stage o) ≡ false) (elsewhere : (c : ℕ) → c == F.block o ≡ false → m'.block c ≡ m.block c) where
    -- the object of the C local, if it is in one
    stands-there : (i : ℕ) → i < length own.locals.types → own.local i ≡ F.block o → LocalBlock K own scope m' i
    stands-there i lt e =
        let b = h.blocks i lt in
        let object = h.objects i o lt (h.only i o lt known live (sym e)) in
        let there = rel.stands o known live in
        let old = there.size in
        let types : size K.classes (F.type o) ≡ size K.classes (type_of_local own.locals i) =
        sym (size-without K.classes (F.type o)) ∙ ap (size K.classes) object.type ∙ size-without K.classes (type_of_local own.locals i) in
        let typed : size K.classes (t.object o).type ≡ size K.classes (F.type o) = ap (size K.classes) (rel.type o known) in
        record {
          shape = b.shape;
          named = b.named;
          block = there.block;
          there = ap m'.block e ∙ there.there;
          size = omega (arith, old, types, typed);
          below = let l = b.below in omega (arith, l, next);
          apart = b.apart;
          alone = b.alone;
        }

    blocks-stored : (i : ℕ) → i < length own.locals.types → LocalBlock K own scope m' i
    blocks-stored i lt = by_test (own.local i == F.block o) refl
      where
        by_test : (b : Bool) → own.local i == F.block o ≡ b → LocalBlock K own scope m' i
        by_test true e = stands-there i lt (grind (arith, nat_tests, e))
        by_test false e =
            let b = h.blocks i lt in
            record {
              shape = b.shape;
              named = b.named;
              block = b.block;
              there = elsewhere (own.local i) e ∙ b.there;
              size = b.size;
              below = let l = b.below in omega (arith, l, next);
              apart = b.apart;
              alone = b.alone;
            }

    pub locals-stored : InLocals K own F scope t m'
    locals-stored = record {
      blocks = blocks-stored;
      objects = λ i p lt e. h.objects i p lt (ap (λ f. f.locals i) (sym frame) ∙ e);
      only = λ i p lt lp live e. ap (λ f. f.locals i) frame ∙ h.only i p lt lp live e;
    }
