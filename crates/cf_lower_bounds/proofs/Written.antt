-- The C of loops and switches: lists of statements as the contents of a switch, and flags that are set and tested.
use Rattle.std.proofs.Common.{◌≡◌, ℕ, Bool, false, if◌then◌else◌, List, [], ◌∷◌, refl, sym, ◌∙◌, ap}
use Rattle.std.specs.Prelude.{pos, Option, Some, None, Ok}
use Rattle.cf_base.specs.Integers.{bits_of}
use Rattle.cf_base.specs.World.{World, Ran, Went, Stops, and_then}
use Rattle.cc_whole.specs.Plain as c_tree
use Rattle.cc_whole.specs.Plain.{Statement, SwitchItems, in_order}
use Rattle.cc_whole_memory.specs.Blocks.{Memory, on_ok}
use Rattle.cc_whole_mean.specs.Scope.{Scope}
use Rattle.cc_whole_mean.specs.Values.{numbered, is_true}
use Rattle.cc_whole_mean.specs.Flow as c
use Rattle.cc_whole_mean.specs.Flow.{in_memory, tried, falling, switching}
use Rattle.cc_whole_mean.specs.Mean as mean
use Rattle.cc_whole_mean.specs.Mean.{Program, does, does_body, does_from, does_items, has_label, wanted}
use Rattle.cc_whole_mean.proofs.Growth.{GrowsAgain}
use Rattle.cf_lower.specs.Expressions.{zero as nought}
use Rattle.cf_lower.specs.Statements.{block, flag_set, if_flag, stated_all}
use Rattle.cf_lower_steps.proofs.Branches.{block-runs, falls-on}
use Rattle.cf_lower_steps.specs.Lowering.{runs}
use Rattle.cf_lower_turns.specs.Flags.{Shows, FlagSet}

-- one run behind another, and what follows both
behind : (y : Ran c.Flow) (f g : c.State → World → Ran c.Flow)
    → and_then (and_then y (falling f)) (falling g) ≡ and_then y (falling (λ t w. and_then (f t w) (falling g)))
behind (Went (c.Falls t) w) f g = refl
behind (Went (c.Breaks t) w) f g = refl
behind (Went (c.Continues t) w) f g = refl
behind (Went (c.Returns v t) w) f g = refl
behind (Went (c.Exits z t) w) f g = refl
behind (Stops end trace) f g = refl

pub then-then : (y : Ran c.Flow) (f g : c.Flow → World → Ran c.Flow) → and_then (and_then y f) g ≡ and_then y (λ flow w. and_then (f flow w) g)
then-then (Went flow w) f g = refl
then-then (Stops end trace) f g = refl

no-label : (bits : ℕ) (ss : List Statement) → has_label bits (stated_all ss c_tree.closed) ≡ false
no-label bits [] = refl
no-label bits (s ∷ ss) = no-label bits ss

module _ (again helps : mean.Again) (p : Program) (grown : GrowsAgain again) (helped : GrowsAgain helps) (helper : Bool) (scope : Scope) (depth : ℕ) where
  abbrev list : List Statement → c.State → World → Ran c.Flow
  list ss t w = runs again helps p helper scope depth ss t w

  abbrev items : SwitchItems → c.State → World → Ran c.Flow
  items is t w = does_items again helps p helper is scope depth t w

  -- statements in a switch, and what stands behind them there
  pub items-run : (ss : List Statement) (rest : SwitchItems) (t : c.State) (w : World) → items (stated_all ss rest) t w ≡ and_then (list ss t w) (falling (λ t w. items rest t w))
  items-run [] rest t w = refl
  items-run (s ∷ ss) rest t w =
      ap (λ (f : c.State → World → Ran c.Flow). and_then (does again helps p helper s scope depth t w) (falling f)) (λ j u v. items-run ss rest u v j)
      ∙ sym (behind (does again helps p helper s scope depth t w) (λ u v. list ss u v) (λ u v. items rest u v))

  -- no label is passed by
  pub from-behind : (label : Option ℕ) (ss : List Statement) (rest : SwitchItems) (t : c.State) (w : World)
      → does_from again helps p helper label (stated_all ss rest) scope depth t w ≡ does_from again helps p helper label rest scope depth t w
  from-behind label [] rest t w = refl
  from-behind None (s ∷ ss) rest t w = from-behind None ss rest t w
  from-behind (Some bits) (s ∷ ss) rest t w = from-behind (Some bits) ss rest t w

  -- a switch around statements alone
  pub all-in-switch : (ss : List Statement) (t : c.State) (w : World)
      → does again helps p helper (c_tree.select nought (c_tree.otherwise (stated_all ss c_tree.closed))) scope depth t w ≡ and_then (list ss t w) (λ flow w. Went (switching flow) w)
  all-in-switch ss t w =
      ap (λ b. and_then (does_from again helps p helper (if b then Some (bits_of 32 (pos 0)) else None) (c_tree.otherwise (stated_all ss c_tree.closed)) scope depth t w)
      (λ flow w. Went (switching flow) w)) (no-label (bits_of 32 (pos 0)) ss)
      ∙ ap (λ y. and_then y (λ flow w. Went (switching flow) w)) (items-run ss c_tree.closed t w ∙ falls-on (list ss t w))

  -- ---- flags

  pub flag-then : (d n : ℕ) (Q : Memory → Type 0) (t : c.State) (w : World) (xs : List Statement) (h : FlagSet scope d n Q t.memory)
      → list (flag_set d n ∷ xs) t w ≡ list xs (in_memory t h.after) w
  flag-then d n Q t w xs h = ap (λ z. and_then (tried z w (λ m. Went (c.Falls (in_memory t m)) w)) (falling (λ t w. list xs t w))) h.is

  flag-chosen : (d n : ℕ) (ss : List Statement) (t : c.State) (w : World) → Shows scope d n t.memory
      → does again helps p helper (if_flag d ss) scope depth t w ≡ (if is_true (pos n) then list ss t w else Went (c.Falls t) w)
  flag-chosen d n ss t w h =
      ap (λ a. tried (on_ok a (λ v. numbered v (λ k z. Ok z))) w
      (λ z. if is_true z then does_body again helps p helper (block ss) scope depth t w else does_body again helps p helper (block []) scope depth t w)) h
      ∙ ap (λ y. if is_true (pos n) then y else does_body again helps p helper (block []) scope depth t w)
      (block-runs again helps p grown helped helper scope depth ss t w)
      ∙ ap (λ y. if is_true (pos n) then list ss t w else y) (block-runs again helps p grown helped helper scope depth [] t w)

  -- a flag that is 0 is passed
  pub flag-passed : (d : ℕ) (ss xs : List Statement) (t : c.State) (w : World) → Shows scope d 0 t.memory → list (if_flag d ss ∷ xs) t w ≡ list xs t w
  flag-passed d ss xs t w h = ap (λ y. and_then y (falling (λ t w. list xs t w))) (flag-chosen d 0 ss t w h)

  -- one that is set leads to these statements
  pub flag-taken : (d : ℕ) (ss xs : List Statement) (t : c.State) (w : World) → Shows scope d 1 t.memory
      → list (if_flag d ss ∷ xs) t w ≡ and_then (list ss t w) (falling (λ t w. list xs t w))
  flag-taken d ss xs t w h = ap (λ y. and_then y (falling (λ t w. list xs t w))) (flag-chosen d 1 ss t w h)
