-- What is so behind an assignment of the C to a block of the function's own or of an object that stands.
use Rattle.std.proofs.Common.{◌≡◌, ℕ, suc, ◌<◌, ◌≤◌, Bool, true, false, ◌==◌, if◌then◌else◌, refl, sym, ◌∙◌, ap, subst, arith}
use Rattle.std.specs.Prelude.{Option, Some, Result, Ok, length}
use Rattle.std.proofs.lemmas.Bool.Decides.{nat_tests}
use Rattle.cf_base.specs.declared.kind.Kind.TheVariants.{Int}
use Rattle.cf_core.specs.Run.{Frame, State}
use Rattle.cf_lower_layout.specs.Sorts.{Sort}
use Rattle.cf_plain.specs.Plain.{Register}
use Rattle.cf_plain.specs.Acts.{Registers}
use Rattle.cc_whole_memory.specs.declared.value.Scalar.TheVariants as scalar
use Rattle.cc_whole_memory.specs.Values.{bytes_of}
use Rattle.cc_whole_memory.specs.Cells.{load}
use Rattle.cc_whole_memory.specs.Blocks.{Block, Memory, inside, on_ok, value_or_act}
use Rattle.cc_whole_mean.specs.Types.{scalar_of}
use Rattle.cc_whole_mean.specs.Values.{named_value}
use Rattle.cc_whole_mean.specs.Flow as c
use Rattle.cc_whole_mean.specs.Flow.{in_memory}
use Rattle.cf_lower.specs.Kept.{Kept, Keeping, keep, local_kept}
use Rattle.cf_lower_relate.specs.Map.{Fixed, Map, is_ended}
use Rattle.cf_lower_relate.specs.Relation.{Rel}
use Rattle.cf_lower_relate.proofs.Values.{grows-same}
use Rattle.cf_lower_steps.specs.Own.{Own}
use Rattle.cf_lower_steps.specs.Flows.{Between}
use Rattle.cf_lower_steps.specs.Lowering.{Below}
use Rattle.cf_lower_steps.proofs.Between.{between-elsewhere}
use Rattle.cf_lower_steps.proofs.Locals.{locals-stored}
use Rattle.cf_lower_steps.proofs.Statements.{different}
use Rattle.cf_lower_turns.specs.Flags.{Shows}
use Rattle.cf_lower_turns.specs.Here.{Body, Remains, HasRoom, Here}
use Rattle.cf_lower_turns.specs.Texts.{Free}
use Rattle.cf_lower_turns.proofs.Literals.{texts-stay}
use Rattle.cf_lower_leaves.proofs.Remains.{Keeps}

-- the sizes add up
pub remains-through : (x : Block) (a b : Option Block) → Remains x a → ((y : Block) → a ≡ Some y → Remains y b) → Remains x b
remains-through x a b h go =
    let k = go h.block h.there in
    record { block = k.block; there = k.there; size = let one = h.size in let two = k.size in omega (arith, one, two) }

-- and what has room has it still
pub room-kept : (m e : Memory) → Keeps m e → (b k : ℕ) → HasRoom m b k → HasRoom e b k
room-kept m e keeps b k h =
    let r = keeps.remains b h.block h.there in
    record {
      block = r.block;
      there = r.there;
      size = let one = h.size in let two = r.size in omega (arith, one, two);
      below = let n = keeps.next in let o = h.below in omega (arith, n, o);
    }

module _ (K : Fixed) (at : Body) (p q : Keeping) (d : ℕ) (g r : Registers) (s u : State) (t : c.State) (m : Memory) (h : Here K at p d g s t)
    (between : Between K at.own at.scope h.map q r u m) (below : Below at.own q) (keeps : Keeps t.memory m)
    (frame : u.frame ≡ s.frame) (literals : u.literals ≡ s.literals) (flags : (e : ℕ) → e < at.flags.bound → m.block (at.flags.block e) ≡ t.memory.block (at.flags.block e))
    (same : (b : ℕ) → b < at.first.next → Free h.map b → m.block b ≡ t.memory.block b) where
  pub shows-same : (e n : ℕ) → e < at.flags.bound → Shows at.scope e n t.memory → Shows at.scope e n m
  shows-same e n le shown =
      ap (λ x. named_value x m) (h.flags_there.named e le)
      ∙ ap (λ x. on_ok (inside (at.flags.block e) 0 4 x) (λ at. value_or_act (load (scalar.Integer Int) at.block.cells at.offset))) (flags e le)
      ∙ sym (ap (λ x. named_value x t.memory) (h.flags_there.named e le)) ∙ shown

  abbrev pub here-after : Here K at q d r u (in_memory t m)
  here-after = record {
    map = h.map;
    grows = h.grows;
    between = between;
    below = below;
    flags_there = record {
      named = h.flags_there.named;
      lives = λ e le. let x = h.flags_there.lives e le in record { block = x.block; there = flags e le ∙ x.there; size = x.size };
      apart = h.flags_there.apart;
      registers = h.flags_there.registers;
      locals = h.flags_there.locals;
      free = h.flags_there.free;
    };
    bounded = h.bounded;
    unset = λ e le. shows-same e 0 (let b = h.bounded in omega (arith, le, b)) (h.unset e le);
    outer = record {
      next = let n = keeps.next in let o = h.outer.next in omega (arith, n, o);
      remains = λ b x lt e. remains-through x (t.memory.block b) (m.block b) (h.outer.remains b x lt e) (λ y i. keeps.remains b y i);
      same = λ b lt no free. same b lt (h.outer.free b lt no free) ∙ h.outer.same b lt no free;
      free = h.outer.free;
      hidden = h.outer.hidden;
      before = h.outer.before;
    };
    placed = record {
      registers = λ a x lx. let n = keeps.next in let o = h.placed.registers a x lx in omega (arith, n, o);
      flags = λ e le. let n = keeps.next in let o = h.placed.flags e le in omega (arith, n, o);
      results = λ x b is. room-kept t.memory m keeps b (bytes_of (scalar_of x)) (h.placed.results x b is);
    };
    homes = h.homes;
    arguments = λ i o li a e live. h.arguments i o li a (ap (λ (f : Frame). f.locals i) (sym frame) ∙ e) live;
    texts_laid = h.texts_laid;
    texts = texts-stay K at.texts at.first.next h.map h.map (grows-same h.map) s u literals t.memory m h.texts_laid (λ b lt free. free) same h.texts;
    later = h.later;
  }

-- an object that stands has changed in its block
module _ (K : Fixed) (at : Body) (p : Keeping) (d : ℕ) (g : Registers) (s u : State) (t : c.State) (m : Memory) (h : Here K at p d g s t) (rel : Rel K h.map u m)
    (frame : u.frame ≡ s.frame) (literals : u.literals ≡ s.literals) (keeps : Keeps t.memory m) (o : ℕ) (known : o < h.map.count) (live : is_ended (h.map.stage o) ≡ false)
    (elsewhere : (b : ℕ) → b == h.map.block o ≡ false → m.block b ≡ t.memory.block b) where
  other : (b : ℕ) → (b ≡ h.map.block o → ⊥) → m.block b ≡ t.memory.block b
  other b ne = elsewhere b (different b (h.map.block o) ne)

  pub here-stored : Here K at p d g u (in_memory t m)
  here-stored = here-after K at p p d g g s u t m h
      (between-elsewhere K at.own at.scope h.map p g s u t.memory m h.between rel
      (locals-stored K at.own h.map at.scope s t.memory h.between.locals u m rel frame keeps.next o known live elsewhere)
      h.below (λ a r lr. other (at.own.block a r) (λ e. h.between.blocks.free a r lr o known live (sym e))))
      h.below keeps frame literals
      (λ e le. other (at.flags.block e) (λ k. h.flags_there.free e o le known live (sym k)))
      (λ b lb free. other b (λ k. free o known live (sym k)))

-- the registers that a value is kept in have C locals
pub below-keep : (own : Own) (p : Keeping) (r : Register) (y : Kept) → Below own p → r < own.bound → Below own (keep p r y)
below-keep own p r y below lt q u e = by_test (q == r) refl e
  where
    by_test : (b : Bool) → q == r ≡ b → local_kept (if b then y else p q) ≡ Some u → q < own.bound
    by_test true i k = subst (λ j. j < own.bound) (let same : r ≡ q = grind (arith, nat_tests, i) in same) lt
    by_test false i k = below q u k
