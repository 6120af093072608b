-- How an object takes its initialiser, whatever keeps a temporary, and what is known of its number behind it (5.19, 8.4).
use Rattle.std.proofs.Common.{◌≡◌, ℕ, Bool, true, false, ◌&&◌, if◌then◌else◌, ℤ, Option, Some, None, slice_get, refl, sym, ap, subst, ◌∙◌}
use Rattle.cf_convert.specs.Constness.{is_const}
use Rattle.cf_core.specs.Types.{SourceType, is_void}
use Rattle.cf_elab.specs.Answer.{Answer, Made, Refused, Passed, Elab, onward, gives}
use Rattle.cf_elab.specs.Env.{Env, Name, Object, object}
use Rattle.cf_elab.specs.Initial.{Start, Keeper}
use Rattle.cf_elab.specs.Names.{declared_here}
use Rattle.cf_elab.specs.Objects.{Written, start_or_none, started, number_known, constant_number, static_keeper}
use Rattle.cf_elab.specs.Operand.{sort_of, is_arithmetic}
use Rattle.cf_elab.specs.Complete.{within, most_name}
use Rattle.cf_elab_valid.specs.Answers.{Fine}
use Rattle.cf_elab_valid.specs.Scene.{Scene, IsScene, tree, Steps, Within, Inside, HoldsKnown, Classless, Holds}
use Rattle.cf_elab_valid.proofs.Ways.{fine-before, made-fine, onward-fine, within-before, When}
use Rattle.cf_elab_valid_objects.specs.Quiet.{LeavesNames, LeavesIn}
use Rattle.cf_elab_valid_objects.specs.Starts.{NoVoidElements, StartFits, IsKeeper, MaybeFits}
use Rattle.cf_elab_valid_objects.proofs.Initialisers.{written-leaves}
use Rattle.cf_elab_valid_objects.proofs.Written.{starting-fine}
use Rattle.cf_elab_valid_files.specs.Statics.Fixed.{IsApart, ApartIn}
use Rattle.cf_elab_valid_files.specs.Statics.Linked.{StandsFor}
use Rattle.cf_elab_valid_files.proofs.StaticsLaws.Names.{Any, number_known-fine}

-- ---- names that are left stand for what they stood for

pub stands-left : (name : Name) (t : ℕ) (a b : Env) → LeavesNames a b → StandsFor name t a → StandsFor name t b
stands-left name t a b l f j y found there =
    f j y (ap (λ (x : Env). declared_here x name) (sym l.same) ∙ found) (ap (λ (x : Env). slice_get x.entities j) (sym l.same) ∙ there)

pub number-of : (s : Scene) (t : ℕ) (e : Env) (z : Option ℤ) → HoldsKnown z (tree s t) → HoldsKnown (constant_number e t z) (tree s t)
number-of s t e z h = by (is_const e.types t && is_arithmetic (sort_of e.types t))
  where
    by : (b : Bool) → HoldsKnown (if b then z else None) (tree s t)
    by true = h
    by false = tt

-- of what is made this is known in each end that the environment behind leads to
abbrev pub Known : {A : Type 0} → Scene → (A → Type 0) → Answer A → Type 0
Known s K (Made x f) = Within f s → K x
Known s K (Refused rule place) = Unit {0}
Known s K (Passed bound most) = Unit {0}

module _ (s : Scene) (scene : IsScene s) (arrays : NoVoidElements s.tables) (keeper : ℕ → Elab Keeper) (keeps : IsKeeper s keeper) (leaves : (u : ℕ) (e : Env) → Classless e → LeavesIn e (keeper u e)) (name : Name) (at t : ℕ) where
  -- of each start that is made this is known too
  module _ (K : Start → Type 0) where
    abbrev pub Given : Start → Env → Type 0
    Given x f = StartFits s (tree s t) x × K x

    pub started-fine : (w : Option Written) (e : Env) → When s e (Known s K (start_or_none keeper at t w e)) → Classless e → When s e (Holds s e) → When s e (MaybeFits s e w) → When s e (Inside e t) → When s e (is_void (tree s t) ≡ false)
        → When s e (StandsFor name t e) → Fine s Given e (started keeper name at t w e)
    started-fine w e k c h f i n stands =
        by (start_or_none keeper at t w e) k (starting-fine s scene arrays keeper keeps at t w e c h f i n) (written-leaves keeper leaves at t w e c)
      where
        by : (r : Answer Start) → When s e (Known s K r) → Fine s (λ x g. StartFits s (tree s t) x) e r → LeavesIn e r
            → Fine s Given e (onward r (λ st g. onward (number_known name (constant_number g t st.number) g) (λ _. gives st)))
        by (Made st g) known fine left =
            fine-before s Given e g (onward (number_known name (constant_number g t st.number) g) (λ _. gives st)) fine.steps
            (onward-fine s Any Given g (number_known name (constant_number g t st.number) g) (λ _. gives st)
            (number_known-fine s name (constant_number g t st.number) g fine.classless fine.holds (λ w j y found there.
            let type = stands-left name t e g left (stands (within-before e g s fine.steps w)) j y found there in
            subst (λ u. HoldsKnown (constant_number g t st.number) (tree s u)) (sym type) (number-of s t g st.number (fine.made w).number)))
            (λ u q step c1 h1 any. made-fine s Given q st c1 h1 (λ w. let early = within-before g q s step w in (fine.made early, known (within-before e g s fine.steps early) early))))
        by (Refused rule place) known fine left = tt
        by (Passed bound most) known fine left = tt
