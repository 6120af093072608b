-- Expressions: each register is set before it is used, and holds what is taken; the value's register holds what the expression is.
use Rattle.std.proofs.Common.{◌≡◌, inl, inr, ℕ, suc, ◌≤◌, ◌<◌, Bool, true, false, if◌then◌else◌, List, refl, ap, ◌∙◌, arith}
use Rattle.std.specs.Prelude.{Option, Some, None, slice_get, ◌==◌}
use Rattle.std.proofs.lemmas.Bool.Decides.{nat_tests}
use Rattle.cf_base.specs.declared.kind.Kind.{Kind}
use Rattle.cf_core.specs.Types.{SourceType, pointer, array, takes, gives, const, plain as unqualified, is_void}
use Rattle.cf_core.specs.Classes.{Class}
use Rattle.cf_core.specs.Places.{is_scalar}
use Rattle.cf_core.specs.Typing.{Scope, Typing, allowed, of_value, of_name, of_place, pointed}
use Rattle.cf_core.specs.Typed.{read_type, pointed_place, address_type, decayed_type, void_pointer}
use Rattle.cf_plain.specs.Plain.{Register, Action, Plains, act, set, branch, nothing, more}
use Rattle.cf_plain.specs.Plain as plain
use Rattle.cf_plain_kept.specs.Kept.{Kept, an_integer, a_place, Keeping, keep, integer_in, a_truth, value_of, named, read_kept, pointed_kept, decayed_kept, from_void_kept, tested, given, kept_by, after_all}
use Rattle.cf_sequence.specs.Expressions.{used}
use Rattle.cf_sequence.proofs.SameTypes.{same-itself}
use Rattle.cf_sequence_kept.proofs.Suits.{same-turned, values-suit, scalar-kept, scalar-same, void-same, plain-suits, Pointed, pointed-to, Decays, array-decays, function-decays}
use Rattle.cf_sequence_kept.proofs.Spans.{Span, Outside, Stays, stays, stays-then}
use Rattle.cf_sequence_kept.proofs.Related.{Relates, of-value, of-place, of-name, of-allowed}
use Rattle.cf_sequence_valid.proofs.Serves.{Serves, nothing-serves, allowed-is}
use Rattle.cf_sequence_valid.proofs.Values as locals_of

-- Registers.

pub keep-at : (g : Keeping) (n : ℕ) (x : Kept) → keep g n x n ≡ Some x
keep-at g n x = let e : (n == n) ≡ true = grind (arith, nat_tests) in ap (λ b. if b then Some x else g n) e

pub keep-below : (g : Keeping) (n r : ℕ) (x : Kept) → r < n → keep g n x r ≡ g r
keep-below g n r x lt = let e : (r == n) ≡ false = grind (arith, nat_tests) in ap (λ b. if b then Some x else g r) e

pub keep-apart : (g : Keeping) (n r : ℕ) (x : Kept) → (r ≡ n → ⊥) → keep g n x r ≡ g r
keep-apart g n r x ne = let e : (r == n) ≡ false = grind (arith, nat_tests, ne) in ap (λ b. if b then Some x else g r) e

pub keep-above : (g : Keeping) (n r : ℕ) (x : Kept) → n < r → keep g n x r ≡ g r
keep-above g n r x lt = let e : (r == n) ≡ false = grind (arith, nat_tests) in ap (λ b. if b then Some x else g r) e

flag-apart : (span : Span) (mark r : ℕ) → span.low ≤ mark → mark < span.top → Outside span r → (r == mark) ≡ false
flag-apart span mark r low top (inl lt) = let less : r < mark = omega (arith, lt, low) in grind (arith, nat_tests)
flag-apart span mark r low top (inr ge) = let greater : mark < r = omega (arith, ge, top) in grind (arith, nat_tests)

-- a flag is set: no other register changes, and an integer stands there
pub flag-stays : (span : Span) (g : Keeping) (mark r : ℕ) (f : Kind → Bool) → span.low ≤ mark → mark < span.top → Stays span r (g r) (keep g mark (an_integer f) r)
flag-stays span g mark r f low top = record {
  same = λ z. ap (λ c. if c then Some (an_integer f) else g r) (flag-apart span mark r low top z);
  integer = held (r == mark);
}
  where
    held : (b : Bool) → integer_in (g r) ≡ true → integer_in (if b then Some (an_integer f) else g r) ≡ true
    held true i = refl
    held false i = i

module _ (locals : List SourceType) (R : SourceType) where
  abbrev pub runs : Plains → Keeping → Option Keeping
  runs ss g = after_all locals R ss g

  pub set-runs : (g : Keeping) (n : Register) (a : Action) (k : Kept) (rest : Plains) → kept_by locals R g a ≡ Some k → runs (more (set n a) rest) g ≡ runs rest (keep g n k)
  set-runs g n a k rest e =
      ap (λ (o : Option Kept). elim (elim o as (λ _. Option Keeping) [ None ↦ None | Some x ↦ Some (keep g n x) ]) as (λ _. Option Keeping) [ None ↦ None | Some h ↦ runs rest h ]) e

  pub act-runs : (g : Keeping) (a : Action) (k : Kept) (rest : Plains) → kept_by locals R g a ≡ Some k → runs (more (act a) rest) g ≡ runs rest g
  act-runs g a k rest e =
      ap (λ (o : Option Kept). elim (elim o as (λ _. Option Keeping) [ None ↦ None | Some x ↦ Some g ]) as (λ _. Option Keeping) [ None ↦ None | Some h ↦ runs rest h ]) e

module _ (locals : List SourceType) (R : SourceType) (span : Span) where
  -- the value is in register n, and the registers below it stay but for flags
  pub record Keeps (x : Typing) (n : ℕ) (g : Keeping) (code : Plains → Plains) : Type 0 where
    pub kept : Kept
    pub now : Keeping
    pub related : Relates x kept
    pub at : now n ≡ Some kept
    pub below : (r : ℕ) → r < n → Stays span r (g r) (now r)
    pub goes : (rest : Plains) → runs locals R (code rest) g ≡ runs locals R rest now

  pub leaf : (x : Typing) (n : ℕ) (g : Keeping) (a : Action) (k : Kept) → kept_by locals R g a ≡ Some k → Relates x k → Keeps x n g (λ rest. more (set n a) rest)
  leaf x n g a k e r = record {
    kept = k;
    now = keep g n k;
    related = r;
    at = keep-at g n k;
    below = λ q lt. stays (keep-below g n q k lt);
    goes = λ rest. set-runs locals R g n a k rest e;
  }

  -- one operand, and an action on it
  abbrev pub one : {x : Typing} (y : Typing) {n : ℕ} {g : Keeping} (code : Plains → Plains) (p : Keeps x n g code) (a : Action) (k : Kept) → kept_by locals R p.now a ≡ Some k → Relates y k
      → Keeps y n g (λ rest. code (more (set n a) rest))
  one y {n} {g} code p a k e r = record {
    kept = k;
    now = keep p.now n k;
    related = r;
    at = keep-at p.now n k;
    below = λ q lt. stays-then (p.below q lt) (stays (keep-below p.now n q k lt));
    goes = λ rest. p.goes (more (set n a) rest) ∙ set-runs locals R p.now n a k rest e;
  }

  -- it is used where it stands
  pub use-runs : {x : Typing} {n : ℕ} {g : Keeping} (code : Plains → Plains) (p : Keeps x n g code) → tested (Some p.kept) ≡ Some a_truth
      → (rest : Plains) → runs locals R (code (used n rest)) g ≡ runs locals R rest p.now
  use-runs {x} {n} code p t rest = p.goes (used n rest) ∙ act-runs locals R p.now (plain.truth n) a_truth rest (ap tested p.at ∙ t)

  pub used-as : {x : Typing} (y : Typing) {n : ℕ} {g : Keeping} (code : Plains → Plains) (p : Keeps x n g code) → tested (Some p.kept) ≡ Some a_truth → Relates y p.kept
      → Keeps y n g (λ rest. code (used n rest))
  used-as y code p t r = record { kept = p.kept; now = p.now; related = r; at = p.at; below = p.below; goes = use-runs code p t }

  -- two operands, the left one used first
  pub record Pair (n : ℕ) (g : Keeping) (a b : Kept) (code : Plains → Plains) : Type 0 where
    pub now : Keeping
    pub left : now n ≡ Some a
    pub right : now (suc n) ≡ Some b
    pub below : (r : ℕ) → r < n → Stays span r (g r) (now r)
    pub goes : (rest : Plains) → runs locals R (code rest) g ≡ runs locals R rest now

  pub pair : {x y : Typing} {n : ℕ} {g : Keeping} (F G : Plains → Plains) (p : Keeps x n g F) → tested (Some p.kept) ≡ Some a_truth → (q : Keeps y (suc n) p.now G) → span.top ≤ n
      → Pair n g p.kept q.kept (λ rest. F (used n (G rest)))
  pair {x} {y} {n} F G p t q top =
      record {
        now = q.now;
        left = (let lt : n < suc n = omega arith in Stays.same (q.below n lt) (inr top)) ∙ p.at;
        right = q.at;
        below = λ r lt. stays-then (p.below r lt) (let less : r < suc n = omega (arith, lt) in q.below r less);
        goes = λ rest. use-runs F p t (G rest) ∙ q.goes rest;
      }

  pub two : (z : Typing) {n : ℕ} {g : Keeping} {a b : Kept} (code : Plains → Plains) (p : Pair n g a b code) (x : Action) (k : Kept) → kept_by locals R p.now x ≡ Some k → Relates z k
      → Keeps z n g (λ rest. code (more (set n x) rest))
  two z {n} code p x k e r = record {
    kept = k;
    now = keep p.now n k;
    related = r;
    at = keep-at p.now n k;
    below = λ q lt. stays-then (p.below q lt) (stays (keep-below p.now n q k lt));
    goes = λ rest. p.goes (more (set n x) rest) ∙ set-runs locals R p.now n x k rest e;
  }

  -- an action on both
  pub on-both : {A : Type 0} {n : ℕ} {g : Keeping} {a b : Kept} (code : Plains → Plains) (p : Pair n g a b code) (F : Option Kept → Option Kept → A) → F (p.now n) (p.now (suc n)) ≡ F (Some a) (Some b)
  on-both {A} {n} {g} {a} code p F = ap (λ o. F o (p.now (suc n))) p.left ∙ ap (F (Some a)) p.right

  module _ (classes : List Class) (scope : Scope) (keeps : locals_of.Kept scope locals) where
    -- Places, and what is made of them.

    pub there : {x : Typing} {n : ℕ} {g : Keeping} {code : Plains → Plains} (p : Keeps x n g code) (t : SourceType) → x.place ≡ Some t → Pointed t p.kept
    there p t e = pointed-to t p.kept (p.related.place t e)

    -- what is at the register, once it is known what it is
    pub found : {A : Type 0} {x : Typing} {n : ℕ} {g : Keeping} {code : Plains → Plains} (p : Keeps x n g code) (F : Option Kept → A) (k : Kept) → p.kept ≡ k → F (p.now n) ≡ F (Some k)
    found p F k e = ap F (p.at ∙ ap Some e)

    pub named-keeps : (i : ℕ) (n : ℕ) (g : Keeping) → Serves (of_name (slice_get scope.locals i)) → Keeps (of_name (slice_get scope.locals i)) n g (λ rest. more (set n (plain.local i)) rest)
    named-keeps i n g s = by (slice_get scope.locals i) refl s
      where
        by : (o : Option SourceType) → slice_get scope.locals i ≡ o → Serves (of_name o) → Keeps (of_name o) n g (λ rest. more (set n (plain.local i)) rest)
        by None e s = nothing-serves s
        by (Some t) e s = let m = of-name t in leaf (of_name (Some t)) n g (plain.local i) m.kept (ap named (keeps.kept i t e) ∙ m.is) m.related

    module _ {x : Typing} {n : ℕ} {g : Keeping} (code : Plains → Plains) (p : Keeps x n g code) where
      pub read-keeps : Serves (read_type scope x.place) → Keeps (read_type scope x.place) n g (λ rest. code (more (set n (plain.read n)) rest))
      read-keeps s = by x.place refl s
        where
          by : (o : Option SourceType) → x.place ≡ o → Serves (read_type scope o) → Keeps (read_type scope o) n g (λ rest. code (more (set n (plain.read n)) rest))
          by None e s = nothing-serves s
          by (Some t) e s =
              let q = there p t e in
              let scalar = allowed-is (is_scalar t) (of_value (unqualified t)) s in
              one (read_type scope (Some t)) code p (plain.read n) (value_of q.to)
              (found p read_kept (a_place q.to) q.is ∙ scalar-kept q.to (scalar-same t q.to (same-turned q.to t q.same) scalar))
              (of-allowed (is_scalar t) (of_value (unqualified t)) (value_of q.to) scalar
              (of-value (unqualified t) (value_of q.to) (plain-suits t (value_of q.to) (values-suit q.to t q.same))))

      pub address-keeps : Serves (address_type scope x.place) → Keeps (address_type scope x.place) n g (λ rest. code (used n rest))
      address-keeps s = by x.place refl s
        where
          by : (o : Option SourceType) → x.place ≡ o → Serves (address_type scope o) → Keeps (address_type scope o) n g (λ rest. code (used n rest))
          by None e s = nothing-serves s
          by (Some t) e s =
              let q = there p t e in
              used-as (of_value (pointer t)) code p (ap (λ h. tested (Some h)) q.is) (of-value (pointer t) p.kept (p.related.place t e))

      pub dereference-keeps : Serves (pointed_place scope (pointed x.type)) → Keeps (pointed_place scope (pointed x.type)) n g (λ rest. code (more (set n (plain.dereference n)) rest))
      dereference-keeps s = by x.type refl s
        where
          by : (o : Option SourceType) → x.type ≡ o → Serves (pointed_place scope (pointed o)) → Keeps (pointed_place scope (pointed o)) n g (λ rest. code (more (set n (plain.dereference n)) rest))
          by None e s = nothing-serves s
          by (Some (pointer t)) e s =
              let q = pointed-to t p.kept (p.related.type (pointer t) e) in
              one (of_place t) code p (plain.dereference n) (a_place q.to) (found p pointed_kept (a_place q.to) q.is) (of-place t (a_place q.to) q.same)
          by (Some t) e s = nothing-serves s

      decays-to : (t u : SourceType) (q : Pointed t p.kept) (d : Decays q.to u) → Keeps (of_value (pointer u)) n g (λ rest. code (more (set n (plain.decay n)) rest))
      decays-to t u q d =
          one (of_value (pointer u)) code p (plain.decay n) (a_place d.to) (found p decayed_kept (a_place q.to) q.is ∙ d.is) (of-value (pointer u) (a_place d.to) d.same)

      pub decay-keeps : Serves (decayed_type scope x.place) → Keeps (decayed_type scope x.place) n g (λ rest. code (more (set n (plain.decay n)) rest))
      decay-keeps s = by x.place refl s
        where
          by : (o : Option SourceType) → x.place ≡ o → Serves (decayed_type scope o) → Keeps (decayed_type scope o) n g (λ rest. code (more (set n (plain.decay n)) rest))
          by None e s = nothing-serves s
          by (Some (array t m)) e s = let q = there p (array t m) e in decays-to (array t m) t q (array-decays q.to t m q.same)
          by (Some (const (array t m))) e s = let q = there p (const (array t m)) e in decays-to (const (array t m)) t q (array-decays q.to t m q.same)
          by (Some (takes a t)) e s = let q = there p (takes a t) e in decays-to (takes a t) (takes a t) q (function-decays q.to (takes a t) refl q.same)
          by (Some (gives t c)) e s = let q = there p (gives t c) e in decays-to (gives t c) (gives t c) q (function-decays q.to (gives t c) refl q.same)
          by (Some t) e s = nothing-serves s

      pub from-void-keeps : (u : SourceType) → Serves (allowed (void_pointer scope (pointed x.type)) (of_value (pointer u)))
          → Keeps (allowed (void_pointer scope (pointed x.type)) (of_value (pointer u))) n g (λ rest. code (more (set n (plain.from_void u n)) rest))
      from-void-keeps u s = by x.type refl s
        where
          by : (o : Option SourceType) → x.type ≡ o → Serves (allowed (void_pointer scope (pointed o)) (of_value (pointer u)))
              → Keeps (allowed (void_pointer scope (pointed o)) (of_value (pointer u))) n g (λ rest. code (more (set n (plain.from_void u n)) rest))
          by None e s = nothing-serves s
          by (Some (pointer t)) e s =
              let q = pointed-to t p.kept (p.related.type (pointer t) e) in
              let void_there = allowed-is (is_void t) (of_value (pointer u)) s in
              one (allowed (is_void t) (of_value (pointer u))) code p (plain.from_void u n) (a_place u)
              (found p (from_void_kept u) (a_place q.to) q.is ∙ ap (λ b. given b (a_place u)) (void-same t q.to (same-turned q.to t q.same) void_there))
              (of-allowed (is_void t) (of_value (pointer u)) (a_place u) void_there (of-value (pointer u) (a_place u) (same-itself u)))
          by (Some t) e s = nothing-serves s
