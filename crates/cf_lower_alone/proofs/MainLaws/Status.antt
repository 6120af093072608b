-- The C's `main` keeps what the source's `main` has given, and returns it.
use Rattle.std.proofs.Common.{◌≡◌, ℕ, Bool, true, false, cond, [], ◌∷◌, ℤ, pos, Some, Ok, refl, ap, ◌∙◌}
use Rattle.cf_base.specs.declared.kind.Kind.{Kind}
use Rattle.cf_base.specs.declared.kind.Kind.TheVariants.{Int}
use Rattle.cf_base.specs.Integers.{fits, convert}
use Rattle.cf_base.specs.World.{World, Ran, Went, and_then}
use Rattle.cf_core.specs.Types.{SourceType, is_void}
use Rattle.cf_core.specs.Store as source
use Rattle.cf_core.specs.Run.{State, Did, Gives, Malformed}
use Rattle.cf_core.specs.Calls.{given_value}
use Rattle.cf_core.specs.Program.{status_of}
use Rattle.cf_lower_layout.specs.Sorts.{number, c_kind}
use Rattle.cc_whole.specs.Plain.{named, load, give, in_order}
use Rattle.cc_whole_memory.specs.declared.value.Pointer.TheVariants as pointer
use Rattle.cc_whole_memory.specs.declared.value.Value.{Value}
use Rattle.cc_whole_memory.specs.declared.value.Value.TheVariants as value
use Rattle.cc_whole_memory.specs.declared.value.Scalar.TheVariants as scalar
use Rattle.cc_whole_memory.specs.Cells.{put, load as loaded}
use Rattle.cc_whole_memory.specs.Blocks.{Memory, Place, inside, on_ok, value_or_act, with_cells, write}
use Rattle.cc_whole_mean.specs.declared.named.Target.{Target}
use Rattle.cc_whole_mean.specs.Flow as c
use Rattle.cc_whole_mean.specs.Flow.{in_memory, tried, falling, ending, Called, Back, called_back}
use Rattle.cc_whole_mean.specs.Mean as mean
use Rattle.cc_whole_mean.specs.Mean.{go_back, given}
use Rattle.cc_whole_mean.specs.Scope.{Scope}
use Rattle.cc_whole_mean.specs.Values.{fitted, value_of, stored}
use Rattle.cf_lower_relate.specs.Map.{Fixed, Map}
use Rattle.cf_lower_relate.proofs.Cells.{load-same}
use Rattle.cf_lower_relate.proofs.Objects.{block-same}
use Rattle.cf_lower_relate.proofs.Words.{convert-same}
use Rattle.cf_lower_turns.specs.Scene.{SameBack}
use Rattle.cf_lower_alone.specs.Added.{status, main_scope, status_block}

-- kinds whose numbers an int has
abbrev pub IsInt : Kind → Type 0
IsInt k = (z : ℤ) → fits k z ≡ true → convert Int z ≡ z

-- ---- the status

-- the value of the C, as an int, is the source's status; or the source's run is none that valid files make
pub data StatusAs (w : World) (x : Ran (Did ℤ)) (s : State) (back : Value) : Type 0 where
  malformed : x ≡ Went Malformed w → StatusAs w x s back
  status_is : (z : ℤ) → x ≡ Went (Gives z s) w → fitted (scalar.Integer Int) back ≡ Ok (value.Number Int z) → convert Int z ≡ z → StatusAs w x s back

module _ (K : Fixed) (F : Map) (t : SourceType) (k : Kind) (int : IsInt k) (s : State) (w : World) where
  number-fitted : (z : ℤ) → fits k z ≡ true → fitted (scalar.Integer Int) (value.Number (c_kind k) z) ≡ Ok (value.Number Int z)
  number-fitted z f = ap (λ y. Ok (value.Number Int y)) (int z f)

  zero-int : convert Int (pos 0) ≡ pos 0
  zero-int = convert-same Int (pos 0) refl

  missing-status : (back : Value) → back ≡ value.Number (c_kind k) (pos 0) → StatusAs w (status_of source.Missing s w) s back
  missing-status back e = status_is (pos 0) refl (ap (fitted (scalar.Integer Int)) e ∙ ap (λ y. Ok (value.Number Int y)) zero-int) zero-int

  nothing-status : (b : Bool) (back : Value) → back ≡ value.Number (c_kind k) (pos 0) → StatusAs w (status_of (cond b source.Nothing source.Missing) s w) s back
  nothing-status true back e = malformed refl
  nothing-status false back e = missing-status back e

  pub status-as : (v : source.Value) (back : Value) → SameBack K F (number k) v back → StatusAs w (status_of (given_value t v) s w) s back
  status-as source.Nothing back h = nothing-status (is_void t) back h
  status-as source.Missing back h = missing-status back h
  status-as (source.Number z) back h = status_is z refl (ap (fitted (scalar.Integer Int)) h.is ∙ number-fitted z h.fits) (int z h.fits)
  status-as source.Built back h = absurd h
  status-as source.Null back h = absurd h
  status-as (source.At p) back h = absurd h
  status-as (source.Code f) back h = absurd h
  status-as (source.DataMember path i) back h = absurd h
  status-as (source.FunctionMember path t) back h = absurd h

-- ---- it is stored and read

module _ (names : Scope) (b : ℕ) where
  abbrev pub target : Target
  target = record { pointer = pointer.At b 0; scalar = scalar.Integer Int }

  abbrev there : Place
  there = record { number = b; offset = 0; block = status_block }

  -- the memory in which the status is stored
  abbrev pub with_status : ℤ → Memory → Memory
  with_status z m = with_cells there (put (value.Number Int z) 0 status_block.cells) m

  status-stored : (m : Memory) → m.block b ≡ Some status_block → (back : Value) (z : ℤ) → fitted (scalar.Integer Int) back ≡ Ok (value.Number Int z)
      → stored target back m ≡ Ok (with_status z m)
  status-stored m at back z e =
      ap (λ r. on_ok r (λ v. write (pointer.At b 0) v m)) e
      ∙ ap (λ o. on_ok (inside b 0 4 o) (λ at. Ok (with_cells at (put (value.Number Int z) at.offset at.block.cells) m))) at

  status-read : (m : Memory) (z : ℤ) → convert Int z ≡ z → value_of (load (named status)) (main_scope names b) (with_status z m) ≡ Ok (value.Number Int z)
  status-read m z same =
      ap (λ o. on_ok (inside b 0 4 o) (λ at. value_or_act (loaded (scalar.Integer Int) at.block.cells at.offset)))
      (block-same b (Some (record status_block { cells = put (value.Number Int z) 0 status_block.cells })) m.block)
      ∙ ap value_or_act (load-same (scalar.Integer Int) (value.Number Int z) 0 status_block.cells refl ∙ ap (λ y. Some (value.Number Int y)) same)

  module _ (again helps : mean.Again) (p : mean.Program) (depth : ℕ) where
    abbrev pub rest-run : c.State → World → Ran c.Flow
    rest-run t w = mean.does_all again helps p false (in_order (give (Some (load (named status))) ∷ [])) (main_scope names b) depth t w

    abbrev pub go-on : Called → World → Ran c.Flow
    go-on r w = and_then (go_back (Some target) r w) (falling rest-run)

    -- what has come back is stored, and returned
    pub status-returned : (t : c.State) → t.memory.block b ≡ Some status_block → (back : Value) (z : ℤ) → fitted (scalar.Integer Int) back ≡ Ok (value.Number Int z)
        → convert Int z ≡ z → (w : World) → go-on (Back (Some back) t) w ≡ Went (c.Returns (Some (value.Number Int z)) (in_memory t (with_status z t.memory))) w
    status-returned t at back z e same w =
        ap (λ r. and_then (tried r w (λ m. Went (c.Falls (in_memory t m)) w)) (falling rest-run)) (status-stored t.memory at back z e)
        ∙ ap (λ r. and_then (tried (on_ok r (λ v. Ok (Some v))) w (λ v. Went (c.Returns v (in_memory t (with_status z t.memory))) w))
        (falling (λ s w. mean.does_all again helps p false (in_order []) (main_scope names b) depth s w))) (status-read t.memory z same)
