-- The storage of a local ends.
use Rattle.std.proofs.Common.{◌≡◌, ℕ, ◌<◌, Bool, true, false, List, refl, sym, ◌∙◌, ap, subst}
use Rattle.std.specs.Prelude.{Option, Some, None, length, nat_lt}
use Rattle.cf_base.specs.World.{World, Went, and_then}
use Rattle.cf_base.proofs.Tests.{both}
use Rattle.cf_core.specs.Types.{SourceType, class, array, const}
use Rattle.cf_core.specs.Classes.{Class}
use Rattle.cf_core.specs.Core.{item}
use Rattle.cf_core.specs.Places.{Place, inner}
use Rattle.cf_core.specs.Run.{State, Gives, onward, upd, gone, with_object, ◌>>=◌, ◌>>◌, gives, when, done, tick, for_each_back, object_changed}
use Rattle.cf_core.specs.Calls.{Program, root, has_destructor, destroy}
use Rattle.cf_core.specs.Calls as core
use Rattle.cf_lower_layout.specs.Layout.{has_bytes}
use Rattle.cf_plain.specs.Plain as plain
use Rattle.cf_plain.specs.Plain.{Register, act}
use Rattle.cf_plain.specs.Acts.{doing, end_local}
use Rattle.cf_plain.specs.Running.{Falls, calls, does}
use Rattle.cc_whole_mean.specs.Flow as c
use Rattle.cf_lower_relate.specs.Map.{Map, Stage, ended, is_ended, is_hidden, without}
use Rattle.cf_lower_relate.proofs.Births.{grows-without, rel-ended}
use Rattle.cf_lower_relate.proofs.Objects.{upd-cases}
use Rattle.cf_lower_relate.proofs.Values.{grows-same}
use Rattle.cf_lower_steps.specs.Own.{OwnBlocks, LocalObject, InLocals}
use Rattle.cf_lower_steps.specs.Flows.{Between, Simulates, Ends}
use Rattle.cf_lower_steps.specs.Lowering.{falls_only}
use Rattle.cf_lower_steps.specs.Moment.{Moment, fixed, Stands, Lowers}
use Rattle.cf_lower_objects.proofs.Growth.{registers-grow}

-- ---- nothing is destroyed

no-destructor : (cs : List Class) (t : SourceType) → has_bytes t ≡ true → has_destructor cs t ≡ false
no-destructor cs (class n) h = absurd (cc)
no-destructor cs (array t n) h = no-destructor cs t (both (nat_lt 0 n) (has_bytes t) h).1
no-destructor cs (const t) h = no-destructor cs t h
no-destructor cs t h = refl

pub destroyed : (again : core.Again) (P : Program) (t : SourceType) (p : Place) (s : State) (w : World) → has_bytes t ≡ true → destroy again P t p s w ≡ Went (Gives tt s) w
destroyed again P (class n) p s w h = absurd (cc)
destroyed again P (array t n) p s w h =
    ap (λ b. when b (for_each_back n (λ i. tick >> destroy again P t (inner (item i) p))) done s w)
    (no-destructor P.classes t (both (nat_lt 0 n) (has_bytes t) h).1)
destroyed again P (const t) p s w h = destroyed again P t p s w h
destroyed again P t p s w h = refl

module _ (at : Moment) (h : Stands at) (i : ℕ) (t : SourceType) (some : has_bytes t ≡ true) where
  module _ (o : ℕ) where
    abbrev pub G : Map
    G = without o at.map

    pub live-before : (p : ℕ) → is_ended (upd o ended at.map.stage p) ≡ false → is_ended (at.map.stage p) ≡ false
    live-before p = upd-cases (λ (st : Stage). is_ended st ≡ false → is_ended (at.map.stage p) ≡ false) o p ended at.map.stage (λ e k. absurd (cc)) (λ ne k. k)

    object-old : (j p : ℕ) → LocalObject at.own at.map j p → LocalObject at.own G j p
    object-old j p x = record {
      known = x.known;
      type = x.type;
      visible = λ v. upd-cases (λ (st : Stage). is_hidden st ≡ false) o p ended at.map.stage (λ e. refl) (λ ne. x.visible v);
      block = λ live. x.block (live-before p live);
      base = λ live. x.base (live-before p live);
    }

    pub between-ended : Between (fixed at) at.own at.scope G at.kept at.registers (with_object o gone at.state) at.memory.memory
    between-ended = record {
      rel = rel-ended (fixed at) at.map at.state at.memory.memory h.between.rel o;
      registers = registers-grow (fixed at) at.map G (grows-without at.map o) at.kept at.registers at.scope at.memory.memory h.between.registers;
      blocks = record {
        named = h.between.blocks.named;
        lives = h.between.blocks.lives;
        apart = h.between.blocks.apart;
        free = λ u r lr p lp live e. h.between.blocks.free u r lr p lp (live-before p live) e;
      };
      locals = record {
        blocks = h.between.locals.blocks;
        objects = λ j p lj e. object-old j p (h.between.locals.objects j p lj e);
        only = λ j p lj lp live e. h.between.locals.only j p lj lp (live-before p live) e;
      };
    }

    ended-there : Simulates (Ends (fixed at) at.own at.scope at.map at.kept falls_only)
        (Went (Gives (Falls at.registers) (with_object o gone at.state)) at.world) (Went (c.Falls at.memory) at.world)
    ended-there = record {
      by = record {
        value = c.Falls at.memory;
        run = refl;
        related = record { after = at.memory; is = refl; stays = record { map = G; grows = grows-without at.map o; between = between-ended } };
      };
    }

  -- a local without an object
  nothing-there : Simulates (Ends (fixed at) at.own at.scope at.map at.kept falls_only)
      (Went (Gives (Falls at.registers) at.state) at.world) (Went (c.Falls at.memory) at.world)
  nothing-there = record {
    by = record {
      value = c.Falls at.memory;
      run = refl;
      related = record { after = at.memory; is = refl; stays = record { map = at.map; grows = grows-same at.map; between = h.between } };
    };
  }

  pub finish-lowered : Lowers at (act (plain.finish t i)) at.kept falls_only
  finish-lowered = by_local (at.state.frame.locals i)
    where
      by_local : (x : Option ℕ)
          → Simulates (Ends (fixed at) at.own at.scope at.map at.kept falls_only)
          ((end_local (calls at.again) at.program t x >> gives (Falls at.registers)) at.state at.world)
          (Went (c.Falls at.memory) at.world)
      by_local None = nothing-there
      by_local (Some o) =
          subst (λ ran. Simulates (Ends (fixed at) at.own at.scope at.map at.kept falls_only)
          (and_then
          (and_then ran (λ did w. onward did (λ u. doing (object_changed o gone)) w))
          (λ did w. onward did (λ u. gives (Falls at.registers)) w)) (Went (c.Falls at.memory) at.world))
          (sym (destroyed (calls at.again) at.program t (root o) at.state at.world some)) (ended-there o)
