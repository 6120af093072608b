-- What the code of an expression keeps: the registers below its own, and the locals below those that it adds.
use Rattle.std.proofs.Common.{◌≡◌, ℕ, zero, suc, ◌+◌, ◌≤◌, ◌<◌, true, false, ◌==◌, List, [], ◌∷◌, ◌++◌, length, length-append, refl, ◌∙◌, ap, arith, if◌then◌else◌}
use Rattle.std.specs.Prelude.{Option, Some}
use Rattle.std.proofs.lemmas.Bool.Decides.{nat_tests}
use Rattle.std.proofs.lemmas.Grind.{flat_map-append}
use Rattle.cf_core.specs.Core.{Core}
use Rattle.cf_core.specs.Store.{Value}
use Rattle.cf_core.specs.Run.{State, Frame, lists_local}
use Rattle.cf_plain.specs.Acts.{Registers}
use Rattle.cf_plain.specs.Running.{keep}
use Rattle.cf_sequence.specs.Made.{makes, added}
use Rattle.cf_sequence.proofs.Calling.{Alike}

-- ---- registers

pub keep-same : (n : ℕ) (g : Registers) (v : Value) → keep g n v n ≡ Some v
keep-same zero g v = refl
keep-same (suc n) g v = keep-same n (λ q. g (suc q)) v

pub keep-other : (n r : ℕ) (g : Registers) (v : Value) → (r ≡ n → ⊥) → keep g n v r ≡ g r
keep-other zero zero g v ne = absurd (ne refl)
keep-other zero (suc r) g v ne = refl
keep-other (suc n) zero g v ne = refl
keep-other (suc n) (suc r) g v ne = keep-other n r (λ q. g (suc q)) v (λ e. ne (ap suc e))

-- a register that holds the value still does
pub keep-again : (n r : ℕ) (g : Registers) (v : Value) → g r ≡ Some v → keep g n v r ≡ Some v
keep-again zero zero g v e = refl
keep-again zero (suc r) g v e = e
keep-again (suc n) zero g v e = e
keep-again (suc n) (suc r) g v e = keep-again n r (λ q. g (suc q)) v e

-- ---- locals

-- a frame of the plain program after a part of the code that adds no local below k
pub record Kept (k : ℕ) (f g : Frame) : Type 0 where
  pub frame : g ≡ record f { locals = g.locals }
  pub below : (i : ℕ) → i < k → g.locals i ≡ f.locals i

pub kept-all : (k : ℕ) (f : Frame) → Kept k f f
kept-all k f = record { frame = refl; below = λ i lt. refl }

pub kept-then : (k m : ℕ) (f g h : Frame) → k ≤ m → Kept k f g → Kept m g h → Kept k f h
kept-then k m f g h le p q = record {
  frame = q.frame ∙ ap (λ (x : Frame). record x { locals = h.locals }) p.frame;
  below = λ i lt. q.below i (omega arith) ∙ p.below i lt;
}

pub kept-less : (k m : ℕ) (f g : Frame) → k ≤ m → Kept m f g → Kept k f g
kept-less k m f g le p = record { frame = p.frame; below = λ i lt. p.below i (omega arith) }

pub kept-count : (k : ℕ) (f g : Frame) → Kept k f g → g.count ≡ f.count
kept-count k f g p = ap (λ (x : Frame). x.count) p.frame

pub kept-alike : (k : ℕ) (e f g : Frame) → Kept k f g → Alike e f → Alike e g
kept-alike k e f g p a = record {
  function = ap (λ (x : Frame). x.function) p.frame ∙ a.function;
  this = ap (λ (x : Frame). x.this) p.frame ∙ a.this;
  result = ap (λ (x : Frame). x.result) p.frame ∙ a.result;
  depth = ap (λ (x : Frame). x.depth) p.frame ∙ a.depth;
}

other-number : (i j : ℕ) → j < i → (j == i) ≡ false
other-number i j lt = grind (arith, nat_tests)

greater-number : (i j : ℕ) → i < j → (j == i) ≡ false
greater-number i j lt = grind (arith, nat_tests)

same-number : (i : ℕ) → (i == i) ≡ true
same-number i = grind (arith, nat_tests)

pub listed-kept : (i o : ℕ) (f : Frame) → Kept i f (lists_local i o f)
listed-kept i o f = record {
  frame = refl;
  below = λ j lt. ap (λ b. if b then Some o else f.locals j) (other-number i j lt);
}

pub listed-aside : (i o j : ℕ) (f : Frame) → i < j → (lists_local i o f).locals j ≡ f.locals j
listed-aside i o j f lt = ap (λ b. if b then Some o else f.locals j) (greater-number i j lt)

pub listed-there : (i o : ℕ) (f : Frame) → (lists_local i o f).locals i ≡ Some o
listed-there i o f = ap (λ b. if b then Some o else f.locals i) (same-number i)

-- The plain frame stands for the core's: it is of the same call, and has its locals and further ones, of which those from k on are free.
pub record Ready (k : ℕ) (e f : Frame) : Type 0 where
  pub alike : Alike e f
  pub count : e.count ≤ k
  pub wide : k ≤ f.count
  pub locals : (i : ℕ) → i < e.count → f.locals i ≡ e.locals i

pub ready-kept : (k : ℕ) (e f g : Frame) → Ready k e f → Kept k f g → Ready k e g
ready-kept k e f g r p = record {
  alike = kept-alike k e f g p r.alike;
  count = r.count;
  wide = let same = kept-count k f g p in omega arith;
  locals = λ i lt. p.below i (let le = r.count in omega arith) ∙ r.locals i lt;
}

pub ready-more : (k m : ℕ) (e f : Frame) → k ≤ m → m ≤ f.count → Ready k e f → Ready m e f
ready-more k m e f le room r = record { alike = r.alike; count = (let c = r.count in omega arith); wide = room; locals = r.locals }

-- the locals of these numbers are these objects
abbrev pub Objects : (ℕ → Option ℕ) → List ℕ → List ℕ → Type 0
Objects locals [] [] = Unit {0}
Objects locals [] (o ∷ os) = ⊥
Objects locals (i ∷ is) [] = ⊥
Objects locals (i ∷ is) (o ∷ os) = (locals i ≡ Some o) × Objects locals is os

-- ---- how many locals are added

pub added-two : (xs ys : List Core) → length (added (xs ++ ys)) ≡ length (added xs) + length (added ys)
added-two xs ys = ap length (flat_map-append makes xs ys) ∙ length-append (added xs) (added ys)

-- ---- the value of a full expression is there

pub record Valued (n r k : ℕ) (g : Registers) (e f : Frame) (v : Value) (s : State) (h : Registers) (f' : Frame) : Type 0 where
  pub value : h r ≡ Some v
  pub below : (j : ℕ) → j < n → h j ≡ g j
  pub frame : s.frame ≡ e
  pub kept : Kept k f f'
