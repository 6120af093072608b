-- What holds of a run that is malformed or undefined, and of what follows a test that is passed, holds of the test and what follows.
use Rattle.std.proofs.Common.{◌≡◌, ℕ, Bool, true, false, refl}
use Rattle.std.specs.Prelude.{Option, Some, None}
use Rattle.cf_base.specs.Event.{Undefined}
use Rattle.cf_base.specs.World.{World, Ran, Went, Stops}
use Rattle.cf_core.specs.Places.{Place}
use Rattle.cf_core.specs.Store as source
use Rattle.cf_core.specs.Run.{State, Did, Malformed, Act, ◌>>=◌, ◌>>◌, malformed, need, valid, some_or}
use Rattle.cf_core.specs.Access.{used, place_of}
use Rattle.cf_plain.specs.Plain.{Register}
use Rattle.cf_plain.specs.Acts.{Registers, used_in, place_in}
use Rattle.cf_lower_steps.proofs.Holding.{usable}

module _ (Q : Ran (Did source.Value) → Type 0) (s : State) (w : World) (wrong : Q (Went Malformed w)) (ends : (n : ℕ) → Q (Stops (Undefined n) w.trace)) where
  pub test-valid : (b : Bool) (next : Act source.Value) → (b ≡ true → Q (next s w)) → Q ((valid b >> next) s w)
  test-valid true next h = h refl
  test-valid false next h = wrong

  pub test-need : (b : Bool) (n : ℕ) (next : Act source.Value) → (b ≡ true → Q (next s w)) → Q ((need b n >> next) s w)
  test-need true n next h = h refl
  test-need false n next h = ends n

  pub test-needs : (b c : Bool) (n k : ℕ) (next : Act source.Value) → (b ≡ true → c ≡ true → Q (next s w)) → Q (((need b n >> need c k) >> next) s w)
  test-needs true true n k next h = h refl refl
  test-needs true false n k next h = ends k
  test-needs false c n k next h = ends n

  pub test-used : (g : Registers) (r : Register) (go : source.Value → Act source.Value)
      → ((v : source.Value) → g r ≡ Some v → usable v ≡ true → Q (go v s w)) → Q ((used_in g r >>= go) s w)
  test-used g r go next = by_value (g r) refl
    where
      by_value : (y : Option source.Value) → g r ≡ y → Q ((some_or y malformed >>= used >>= go) s w)
      by_value None e = wrong
      by_value (Some source.Nothing) e = wrong
      by_value (Some source.Missing) e = ends 16
      by_value (Some source.Built) e = wrong
      by_value (Some (source.Number z)) e = next (source.Number z) e refl
      by_value (Some source.Null) e = next source.Null e refl
      by_value (Some (source.At p)) e = next (source.At p) e refl
      by_value (Some (source.Code f)) e = next (source.Code f) e refl
      by_value (Some (source.DataMember path i)) e = next (source.DataMember path i) e refl
      by_value (Some (source.FunctionMember path t)) e = next (source.FunctionMember path t) e refl

  pub test-place : (g : Registers) (r : Register) (go : Place → Act source.Value) → ((p : Place) → g r ≡ Some (source.At p) → Q (go p s w)) → Q ((place_in g r >>= go) s w)
  test-place g r go next = by_value (g r) refl
    where
      by_value : (y : Option source.Value) → g r ≡ y → Q ((some_or y malformed >>= used >>= place_of >>= go) s w)
      by_value None e = wrong
      by_value (Some source.Nothing) e = wrong
      by_value (Some source.Missing) e = ends 16
      by_value (Some source.Built) e = wrong
      by_value (Some (source.Number z)) e = wrong
      by_value (Some source.Null) e = wrong
      by_value (Some (source.At p)) e = next p e
      by_value (Some (source.Code f)) e = wrong
      by_value (Some (source.DataMember path i)) e = wrong
      by_value (Some (source.FunctionMember path t)) e = wrong

  -- the same, where more comes behind what follows
  pub test-valid-on : (a : Bool) (next : Act (Unit {0})) (go : Unit {0} → Act source.Value) → (a ≡ true → Q ((next >>= go) s w)) → Q (((valid a >> next) >>= go) s w)
  test-valid-on true next go h = h refl
  test-valid-on false next go h = wrong

  pub test-need-on : (a : Bool) (n : ℕ) (next : Act (Unit {0})) (go : Unit {0} → Act source.Value)
      → (a ≡ true → Q ((next >>= go) s w)) → Q (((need a n >> next) >>= go) s w)
  test-need-on true n next go h = h refl
  test-need-on false n next go h = ends n

  pub test-needs-on : (a b : Bool) (n k : ℕ) (next : Act (Unit {0})) (go : Unit {0} → Act source.Value)
      → (a ≡ true → b ≡ true → Q ((next >>= go) s w)) → Q ((((need a n >> need b k) >> next) >>= go) s w)
  test-needs-on true true n k next go h = h refl refl
  test-needs-on true false n k next go h = ends k
  test-needs-on false b n k next go h = ends n
