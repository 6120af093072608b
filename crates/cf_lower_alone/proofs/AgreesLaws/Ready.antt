-- As the program starts, with the C local of `main`, all stands as the source's `main` needs it, but for constants.
use Rattle.std.proofs.Common.{◌≡◌, ℕ, ◌<◌, ◌==◌, false, refl, ◌∙◌, arith}
use Rattle.std.specs.Prelude.{Some}
use Rattle.std.proofs.lemmas.Bool.Decides.{nat_tests}
use Rattle.cf_core.specs.Program.{first_state}
use Rattle.cf_core.specs.Run.{State}
use Rattle.cc_whole_memory.specs.declared.store.Storage.TheVariants as storage
use Rattle.cc_whole_memory.specs.Blocks.{Memory, born}
use Rattle.cf_lower_relate.specs.Map.{Fixed, Map}
use Rattle.cf_lower_relate.specs.Relation.{Rel}
use Rattle.cf_lower_relate.proofs.Objects.{block-same, block-other}
use Rattle.cf_lower_calls.specs.Returns.Called.{Programs, fixed}
use Rattle.cf_lower_begun.specs.Begun.{static_map}
use Rattle.cf_lower_alone.specs.Starts.{Starts}
use Rattle.cf_lower_alone.specs.Added.{status_block, Ready, StatusThere}

older : (b n : ℕ) → b < n → b == n ≡ false
older b n lt = grind (arith, nat_tests, lt)

module _ (K : Fixed) (F : Map) (s : State) (m : Memory) where
  abbrev pub more : Memory
  more = born storage.Local 4 m

  -- one more block
  rel-more : Rel K F s m → Rel K F s more
  rel-more r = record {
    count = r.count;
    type = r.type;
    laid = r.laid;
    gone = r.gone;
    stands = λ o lt live.
        let x = r.stands o lt live in
        record {
          block = x.block;
          there = block-other m.next (F.block o) (Some status_block) m.block (older (F.block o) m.next (r.below o lt live)) ∙ x.there;
          size = x.size;
          cells = x.cells;
        };
    below = λ o lt live. let l = r.below o lt live in omega (arith, l);
    apart = r.apart;
  }

module _ (B : Programs) (depth : ℕ) (m : Memory) (start : Starts B depth m) where
  abbrev F : Map
  F = static_map B.program

  pub ready : Ready B F (first_state B.program depth) (born storage.Local 4 m)
  ready = record {
    rel = rel-more (fixed B) F (first_state B.program depth) m start.rel;
    shown = λ o lt. refl;
    texts_laid = record {
      below = λ f j x e. let l = start.texts_laid.below f j x e in omega (arith, l);
      laid = start.texts_laid.laid;
      apart = start.texts_laid.apart;
    };
    texts = λ f j x e.
        let t = start.texts f j x e in
        record {
          free = t.free;
          block = t.block;
          there = block-other m.next x.block (Some status_block) m.block (older x.block m.next (start.texts_laid.below f j x e)) ∙ t.there;
          size = t.size;
          cells = t.cells;
        };
    statics = start.statics;
  }

  pub place : StatusThere B F (born storage.Local 4 m) m.next
  place = record {
    block = block-same m.next (Some status_block) m.block;
    below = omega arith;
    no_text = λ f j x e same. let l = start.texts_laid.below f j x e in absurd (omega (arith, l, same));
    free = λ o lt live same. let l = start.rel.below o lt live in absurd (omega (arith, l, same));
  }
