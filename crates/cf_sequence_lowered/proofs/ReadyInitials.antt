-- Full expressions and initialisers but lists: their plain statements are ready for lowering.
use Rattle.std.proofs.Common.{◌≡◌, ℕ, suc, ◌+◌, true, false, List, reverse, refl, ap, arith}
use Rattle.std.specs.Prelude.{Option, slice_get}
use Rattle.cf_core.specs.Types.{SourceType}
use Rattle.cf_core.specs.Core as core
use Rattle.cf_core.specs.Core.{Core, Cores, MaybeCore, local_temporary, none, absent, given}
use Rattle.cf_core.specs.Joined.{is_nothing}
use Rattle.cf_core.specs.Nodes.{nodes}
use Rattle.cf_core.specs.Typing.{Scope}
use Rattle.cf_core.specs.Typed.{typing}
use Rattle.cf_core.specs.Valid.{Body}
use Rattle.cf_plain.specs.Plain.{Register, Plains, act, set, branch, loop, switch, case_label, default_label, leave, continue, give, nothing, more}
use Rattle.cf_plain.specs.Plain as plain
use Rattle.cf_lower_kept.specs.Ready.{names_well_if}
use Rattle.cf_sequence.specs.Built.{is_value, is_start, is_filling, is_initial}
use Rattle.cf_sequence.specs.Made.{Temporary, temporaries, added, width}
use Rattle.cf_sequence.specs.Expressions.{Full, Destination, destination, value, whole, flags, ended, settled}
use Rattle.cf_sequence.specs.Statements.{Inside, started}
use Rattle.cf_sequence.proofs.Calling.{never, or-else}
use Rattle.cf_sequence.proofs.Filling.{fill, started-is}
use Rattle.cf_sequence.proofs.Fulls.{nothing-is}
use Rattle.cf_sequence_kept.proofs.Fulls.{full-room}
use Rattle.cf_sequence_kept.proofs.Spans.{Span}
use Rattle.cf_sequence_valid.proofs.Serves.{Serves, as_start}
use Rattle.cf_sequence_valid.proofs.Stands.{Stand}
use Rattle.cf_sequence_valid.proofs.Values as locals_of
use Rattle.cf_sequence_lowered.specs.Ready.{node_is_ready}
use Rattle.cf_sequence_lowered.proofs.Each.{Each}
use Rattle.cf_sequence_lowered.proofs.ReadySteps.{Runs, runs-none, runs-then, runs-by, runs-act, runs-settled, runs-flags, runs-ended}
use Rattle.cf_sequence_lowered.proofs.ReadyValues.{run-value}

module _ (body : Body) (locals : List SourceType) (keeps : locals_of.Kept body.scope locals) (named : (i : ℕ) → names_well_if (slice_get locals i) ≡ true) where
  abbrev scope : Scope
  scope = body.scope

  abbrev Ready : Core → Type 0
  Ready e = node_is_ready body.scope e ≡ true

  abbrev RunsHere : (Plains → Plains) → Type 0
  RunsHere F = Runs locals body.result F

  chain : (F G : Plains → Plains) → RunsHere F → RunsHere G → RunsHere (λ rest. F (G rest))
  chain F G p q = runs-then locals body.result F G p q

  -- ---- full expressions and initialisers

  pub run-whole : (f : Inside) (e : Core) → is_value e ≡ true → Serves (typing scope e) → Each Ready (nodes e) → (n k : ℕ) → Stand locals k (added (nodes e))
      → (go rest : Register → Plains → Plains) → ((m : Register) → RunsHere (go m)) → ((m : Register) → RunsHere (rest m)) → (into : Option Destination)
      → RunsHere (λ last. whole e n k (λ x m rest. value f.classes x e into m k (go m rest)) (λ m. rest m last))
  run-whole f e is s u n k st go rest p q into =
      let x : Full = record { first = k; base = n } in
      let m : ℕ = n + width e in
      let ts : List Temporary = temporaries false e k in
      let span : Span = record { low = n; top = n + width e } in
      let ends : Plains → Plains = λ last. ended x (reverse ts) (rest m last) in
      chain (flags x ts) (λ last. value f.classes x e into m k (go m (ends last))) (runs-flags locals body.result x ts)
      (chain (value f.classes x e into m k) (λ last. go m (ends last))
      (run-value locals body.result span f.classes scope keeps named e is s u x into m k (full-room locals body.result e n k m (omega arith) st))
      (chain (go m) ends (p m) (chain (ended x (reverse ts)) (rest m) (runs-ended locals body.result x (reverse ts)) (q m))))

  run-fill : (e : Core) → is_filling e ≡ true → (n : Register) → RunsHere (λ rest. more (act (fill e n)) rest)
  run-fill core.zeros ok n = runs-act locals body.result (plain.zeros n) (λ g. refl)
  run-fill (core.string bytes) ok n = runs-act locals body.result (plain.bytes n bytes) (λ g. refl)
  run-fill e ok n = never ok

  pub run-initial : (f : Inside) (t : SourceType) (e : Core) → is_initial e ≡ true → (typing scope e).start t ≡ true → Each Ready (nodes e) → (n k : ℕ) → Stand locals k (added (nodes e))
      → RunsHere (started f.classes t e n k)
  run-initial f t e ok fit u n k st =
      or-else (is_filling e) (is_start e) ok
      (λ fills. runs-by locals body.result (started f.classes t e n k) (λ rest. more (act (fill e n)) rest) (started-is f.classes t e fills n k) (run-fill e fills n))
      (λ starts. or-else (is_nothing e) (is_value e) starts
      (λ blank. runs-by locals body.result (started f.classes t e n k) (λ rest. rest) (λ rest. ap (λ e. started f.classes t e n k rest) (nothing-is e blank)) (runs-none locals body.result))
      (λ is. run-whole f e is (as_start t fit) u (suc n) k st (λ m. settled e n m) (λ m rest. rest) (λ m. runs-settled locals body.result e n m) (λ m. runs-none locals body.result) (destination n t)))
