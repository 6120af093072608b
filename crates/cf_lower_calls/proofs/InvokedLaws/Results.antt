-- The result of a call is stored in the C local of its type, and read there.
use Rattle.std.proofs.Common.{◌≡◌, ℕ, ◌+◌, ◌<◌, ◌≤◌, nat_le, Bool, true, false, ◌==◌, if◌then◌else◌, refl, sym, ◌∙◌, ap, arith, ◌⊎◌, inl, inr}
use Rattle.std.specs.Prelude.{Some, Ok, Err}
use Rattle.std.proofs.lemmas.Bool.Decides.{nat_tests}
use Rattle.cf_core.specs.Run.{State}
use Rattle.cf_plain.specs.Acts.{Registers}
use Rattle.cc_whole.specs.declared.types.CType.{CType}
use Rattle.cc_whole.specs.Plain.{named, load}
use Rattle.cc_whole_memory.specs.declared.value.Pointer.TheVariants as pointer
use Rattle.cc_whole_memory.specs.declared.value.Value.{Value}
use Rattle.cc_whole_memory.specs.Values.{bytes_of, size_of, as_scalar}
use Rattle.cc_whole_memory.specs.Cells.{put, load as loaded}
use Rattle.cc_whole_memory.specs.Blocks as blocks
use Rattle.cc_whole_memory.specs.Blocks.{Block, Memory, put_block, inside, reached, on_ok, value_or_act, write, with_cells}
use Rattle.cc_whole_mean.specs.declared.named.Target.{Target}
use Rattle.cc_whole_mean.specs.Types.{scalar_of}
use Rattle.cc_whole_mean.specs.Values.{value_of, fitted, named_value, variable_target, stored}
use Rattle.cc_whole_mean.specs.Flow as c
use Rattle.cc_whole_mean.specs.Flow.{in_memory}
use Rattle.cc_whole_mean.specs.Mean.{targeted}
use Rattle.cf_lower.specs.Kept.{Keeping}
use Rattle.cf_lower.specs.Written.{result_name}
use Rattle.cf_lower_relate.specs.Map.{Fixed, is_ended}
use Rattle.cf_lower_relate.proofs.Cells.{load-same}
use Rattle.cf_lower_relate.proofs.Objects.{rel-other, block-same, block-other}
use Rattle.cf_lower_steps.proofs.Between.{between-elsewhere}
use Rattle.cf_lower_steps.proofs.Locals.{locals-elsewhere}
use Rattle.cf_lower_steps.proofs.Statements.{different}
use Rattle.cf_lower_turns.specs.Here.{Body, InLocal, HasRoom, ResultLocal, Here}
use Rattle.cf_lower_points.proofs.LowerLeaves.{changed-keeps}
use Rattle.cf_lower_points.proofs.LowerLeaves.{here-after}

-- a value of a C type, as it stands in a local of that type
pub record Typed (t : CType) (v : Value) : Type 0 where
  pub fits : fitted (scalar_of t) v ≡ Ok v
  pub bytes : size_of v ≡ bytes_of (scalar_of t)
  pub stays : as_scalar (scalar_of t) v ≡ Some v

abbrev pub result_target : CType → ℕ → Target
result_target t b = record { pointer = pointer.At b 0; scalar = scalar_of t }

module _ (K : Fixed) (at : Body) (p : Keeping) (d : ℕ) (g : Registers) (s : State) (t : c.State) (h : Here K at p d g s t) (x : CType) (b : ℕ)
    (is : at.flags.result x ≡ Some b) where
  abbrev m : Memory
  m = t.memory

  pub room : HasRoom m b (bytes_of (scalar_of x))
  room = h.placed.results x b is

  pub there : ResultLocal at x b
  there = h.later.results x b is

  pub result-targeted : targeted (Some (named (result_name x))) at.scope m ≡ Ok (Some (result_target x b))
  result-targeted = ap (λ n. on_ok (variable_target n) (λ o. Ok (Some o))) there.named

  module _ (v : Value) (typed : Typed x v) where
    abbrev new : Block
    new = record room.block { cells = put v 0 room.block.cells }

    abbrev pub after : Memory
    after = record m { block = put_block b (Some new) m.block }

    enough : (y : Block) → bytes_of (scalar_of x) ≤ y.size → nat_le (0 + bytes_of (scalar_of x)) y.size ≡ true
    enough y size = grind (arith, nat_tests, size)

    reached-result : (k : Memory) (y : Block) → k.block b ≡ Some y → bytes_of (scalar_of x) ≤ y.size
        → reached (pointer.At b 0) (bytes_of (scalar_of x)) k ≡ Ok (record { number = b; offset = 0; block = y })
    reached-result k y e size =
        ap (inside b 0 (bytes_of (scalar_of x))) e ∙ ap (λ t. if t then Ok (record { number = b; offset = 0; block = y }) else Err blocks.outside) (enough y size)

    written : write (pointer.At b 0) v m ≡ Ok after
    written =
        ap (λ n. on_ok (reached (pointer.At b 0) n m) (λ o. Ok (with_cells o (put v o.offset o.block.cells) m))) typed.bytes
        ∙ ap (λ a. on_ok a (λ o. Ok (with_cells o (put v o.offset o.block.cells) m))) (reached-result m room.block room.there room.size)

    pub result-stored : stored (result_target x b) v m ≡ Ok after
    result-stored = ap (λ a. on_ok a (λ y. write (pointer.At b 0) y m)) typed.fits ∙ written

    pub result-read : value_of (load (named (result_name x))) at.scope after ≡ Ok v
    result-read =
        ap (λ n. named_value n after) there.named
        ∙ ap (λ a. on_ok a (λ o. value_or_act (loaded (scalar_of x) o.block.cells o.offset)))
        (reached-result after new (block-same b (Some new) m.block) room.size)
        ∙ ap value_or_act (load-same (scalar_of x) v 0 room.block.cells typed.bytes ∙ typed.stays)

    pub other : (c : ℕ) → (c ≡ b → ⊥) → after.block c ≡ m.block c
    other c ne = block-other b c (Some new) m.block (different c b ne)

    -- no object stands there
    pub free : (o : ℕ) → o < h.map.count → is_ended (h.map.stage o) ≡ false → h.map.block o ≡ b → ⊥
    free o lo live same = by_home (h.homes o lo live)
      where
        by_home : (h.map.block o < at.first.next) ⊎ InLocal at (h.map.block o) → ⊥
        by_home (inl below) = let later = there.later in omega (arith, below, later, same)
        by_home (inr own) = there.locals own.local own.there (sym own.is ∙ same)

    abbrev pub here-result : Here K at p d g s (in_memory t after)
    here-result = here-after K at p p d g g s s t after h
        (between-elsewhere K at.own at.scope h.map p g s s m after h.between
        (rel-other K h.map s m h.between.rel after (omega arith) (λ o lo live. other (h.map.block o) (free o lo live)))
        (locals-elsewhere K at.own h.map at.scope s m h.between.locals after (λ i li. other (at.own.local i) (there.locals i li)) refl)
        h.below (λ u r lr. other (at.own.block u r) (there.registers u r lr)))
        h.below (changed-keeps m b room.block room.there (put v 0 room.block.cells)) refl refl
        (λ e le. other (at.flags.block e) (there.flags e le))
        (λ c lc no. other c (λ same. let later = there.later in omega (arith, lc, later, same)))
