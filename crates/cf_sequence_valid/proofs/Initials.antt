-- Full expressions and initialisers: the plain statements of a valid one are valid, and the locals that it adds have complete types.
use Rattle.std.proofs.Common.{◌≡◌, ℕ, ◌+◌, Bool, true, false, List, [], reverse, refl, ap, suc}
use Rattle.std.specs.Prelude.{Option}
use Rattle.std.specs.List.{list_all}
use Rattle.cf_core.specs.Types.{SourceType}
use Rattle.cf_core.specs.Core as core
use Rattle.cf_core.specs.Core.{Core, Cores, MaybeCore, local_temporary, none, absent, given}
use Rattle.cf_core.specs.Joined.{is_nothing}
use Rattle.cf_core.specs.Nodes.{nodes}
use Rattle.cf_core.specs.Typing.{Scope}
use Rattle.cf_core.specs.Typed.{typing}
use Rattle.cf_core.specs.Valid.{Body, is_complete}
use Rattle.cf_plain.specs.Plain.{Register, Plains, act, set, branch, loop, switch, leave, continue, give, nothing, more}
use Rattle.cf_plain.specs.Plain as plain
use Rattle.cf_sequence.specs.Built.{is_value, is_start, is_filling, is_initial}
use Rattle.cf_sequence.specs.Made.{Temporary, temporaries, added, width}
use Rattle.cf_sequence.specs.Expressions.{Full, Destination, destination, value, whole, flags, ended, settled}
use Rattle.cf_sequence.specs.Statements.{Inside, started}
use Rattle.cf_sequence.proofs.Calling.{never}
use Rattle.cf_sequence.proofs.Filling.{fill, filling-adds, started-is}
use Rattle.cf_sequence.proofs.Fulls.{nothing-is}
use Rattle.cf_sequence_valid.proofs.Fine.{Fine, fine-none, fine-then, fine-by, fine-act, fine-settled, fine-flags, fine-ended}
use Rattle.cf_sequence_valid.proofs.Serves.{Serves, either-true}
use Rattle.cf_sequence_valid.proofs.Stands.{Stand}
use Rattle.cf_sequence_valid.proofs.Temporaries.{ends-there}
use Rattle.cf_sequence_valid.proofs.Values.{Kept, Good, good-value}

module _ (body : Body) (locals : List SourceType) (keeps : Kept body.scope locals) where
  abbrev scope : Scope
  scope = body.scope

  abbrev are_complete : List SourceType → Bool
  are_complete ts = list_all (is_complete body.scope.classes) ts

  -- Full expressions.

  abbrev GoodIn : Inside → Core → Type 0
  GoodIn f e = Good f.classes scope locals keeps e

  pub expression-good : (f : Inside) (e : Core) → is_value e ≡ true → Serves (typing scope e) → GoodIn f e
  expression-good f e ok s = good-value f.classes scope locals keeps e ok s

  -- an expression, and then code with the register of its value
  pub fine-whole : {b c : Bool} (f : Inside) (e : Core) → is_value e ≡ true → Serves (typing scope e) → (n k : ℕ) → Stand locals k (added (nodes e))
      → (go : Register → Plains → Plains) (rest : Register → Plains → Plains) → ((m : Register) → Fine locals b c (go m)) → ((m : Register) → Fine locals b c (rest m))
      → (into : Option Destination) → Fine locals b c (λ last. whole e n k (λ x m rest. value f.classes x e into m k (go m rest)) (λ m. rest m last))
  fine-whole {b} {c} f e is s n k st go rest p q into =
      let x : Full = record { first = k; base = n } in
      let m : ℕ = n + width e in
      let ts : List Temporary = temporaries false e k in
      let ends : Plains → Plains = λ last. ended x (reverse ts) (rest m last) in
      fine-then locals (flags x ts) (λ last. value f.classes x e into m k (go m (ends last))) (fine-flags locals x ts)
      (fine-then locals (value f.classes x e into m k) (λ last. go m (ends last)) (Good.code (expression-good f e is s) b c x into m k st)
      (fine-then locals (go m) ends (p m) (fine-then locals (ended x (reverse ts)) (rest m) (fine-ended locals x (reverse ts) (ends-there locals e is k st)) (q m))))

  -- an initialiser of a place
  pub fine-fill : {b c : Bool} (e : Core) → is_filling e ≡ true → (n : Register) → Fine locals b c (λ rest. more (act (fill e n)) rest)
  fine-fill core.zeros ok n = fine-act locals (plain.zeros n) refl
  fine-fill (core.string bytes) ok n = fine-act locals (plain.bytes n bytes) refl
  fine-fill e ok n = never ok

  pub fine-started : {b c : Bool} (f : Inside) (t : SourceType) (e : Core) → is_initial e ≡ true → (is_value e ≡ true → Serves (typing scope e)) → (n k : ℕ)
      → Stand locals k (added (nodes e)) → Fine locals b c (started f.classes t e n k)
  fine-started f t e ok s n k st =
      either-true (is_filling e) (is_start e) ok
      (λ fills. fine-by locals (started f.classes t e n k) (λ rest. more (act (fill e n)) rest) (started-is f.classes t e fills n k) (fine-fill e fills n))
      (λ starts. either-true (is_nothing e) (is_value e) starts
      (λ blank. fine-by locals (started f.classes t e n k) (λ rest. rest) (λ rest. ap (λ e. started f.classes t e n k rest) (nothing-is e blank)) (fine-none locals))
      (λ is. fine-whole f e is (s is) (suc n) k st (λ m. settled e n m) (λ m rest. rest) (λ m. fine-settled locals e n m) (λ m. fine-none locals) (destination n t)))

  pub complete-start : (e : Core) → is_start e ≡ true → (is_value e ≡ true → Serves (typing scope e)) → are_complete (added (nodes e)) ≡ true
  complete-start e ok s =
      either-true (is_nothing e) (is_value e) ok (λ blank. ap (λ e. are_complete (added (nodes e))) (nothing-is e blank))
      (λ is. Good.complete (good-value [] scope locals keeps e is (s is)))

  pub complete-initial : (e : Core) → is_initial e ≡ true → (is_value e ≡ true → Serves (typing scope e)) → are_complete (added (nodes e)) ≡ true
  complete-initial e ok s =
      either-true (is_filling e) (is_start e) ok (λ fills. ap are_complete (filling-adds e fills)) (λ starts. complete-start e starts s)
