-- A point of a function as a moment between two statements, for the laws of lower crates.
use Rattle.std.proofs.Common.{◌≡◌, ℕ}
use Rattle.cf_base.specs.World.{World}
use Rattle.cf_core.specs.Run.{State}
use Rattle.cf_plain.specs.Acts.{Registers}
use Rattle.cc_whole_mean.specs.Flow as c
use Rattle.cf_lower.specs.Kept.{Keeping}
use Rattle.cf_lower_steps.specs.Moment.{Moment, Stands}
use Rattle.cf_lower_turns.specs.Around.{Around, depth_of, inside_at}
use Rattle.cf_lower_turns.specs.Here.{Here}
use Rattle.cf_lower_turns.specs.Scene.{Scene, fixed_in, again_at, c_again_at, helps_at}
use Rattle.cf_lower_actions.specs.Fits.{Fits}

module _ (z : Scene) (around : Around Keeping) (p : Keeping) (n : ℕ) (g : Registers) (s : State) (t : c.State) (w : World)
    (h : Here (fixed_in z) z.body p (depth_of around) g s t) where
  abbrev pub moment : Moment
  moment = record {
    program = z.program;
    function = z.function;
    signature = z.signature;
    own = z.body.own;
    scope = z.body.scope;
    map = h.map;
    kept = p;
    registers = g;
    state = s;
    memory = t;
    world = w;
    again = again_at z n;
    c_again = c_again_at z n;
    helps = helps_at z n;
    c_program = z.c_program;
    helper = z.helper;
    depth = z.depth;
    inside = inside_at z.inside around;
  }

  abbrev pub stands : Fits z → Stands moment
  stands fits = record { between = h.between; below = h.below; classes = fits.classes; locals = fits.locals }
