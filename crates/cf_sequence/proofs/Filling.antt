-- Initialisers that fill their object by themselves: zeros, and the characters of a literal.
use Rattle.std.proofs.Common.{◌≡◌, ℕ, suc, Bool, true, false, ◌&&◌, ◌||◌, ◌==◌, if◌then◌else◌, nat_le, List, [], ◌∷◌, ◌++◌, length, refl, sym, ◌∙◌, ap, subst, arith}
use Rattle.std.specs.Prelude.{pos, Some, Option}
use Rattle.std.proofs.lemmas.Bool.Decides.{nat_tests}
use Rattle.cf_base.proofs.Tests.{both}
use Rattle.cf_base.specs.declared.kind.Kind.{Kind}
use Rattle.cf_base.specs.Integers.{convert as converted}
use Rattle.cf_base.specs.World.{World, Went, and_then}
use Rattle.cf_core.specs.Types.{SourceType, is_array}
use Rattle.cf_core.specs.Classes.{Class}
use Rattle.cf_core.specs.Core as core
use Rattle.cf_core.specs.Core.{Core, item, local_temporary}
use Rattle.cf_core.specs.Nodes.{nodes}
use Rattle.cf_core.specs.Places.{Place, inner, type_at}
use Rattle.cf_core.specs.Store.{Value, Nothing, Built, Number, At, Object, zero_of, hold, hold_all}
use Rattle.cf_core.specs.Run.{State, Frame, Gives, Malformed, Act, ◌>>=◌, ◌>>◌, gives, malformed, some_or, valid, with_object, with_frame}
use Rattle.cf_core.specs.Access.{used, place_of, place_type, fill_zeros}
use Rattle.cf_core.specs.Objects.{settle, character_kind, write_bytes, element_count}
use Rattle.cf_core.specs.Calls as calling
use Rattle.cf_core.specs.Calls.{Program}
use Rattle.cf_plain.specs.Plain.{Register, Action, Plains, act, more}
use Rattle.cf_plain.specs.Plain as plain
use Rattle.cf_plain.specs.Acts.{Registers, acts}
use Rattle.cf_plain.specs.Running as running
use Rattle.cf_plain.specs.Running.{Flow, calls}
use Rattle.cf_sequence.specs.Follows.{Follows}
use Rattle.cf_sequence.specs.Built.{is_start, is_filling, is_initial, is_list, is_element}
use Rattle.cf_sequence.specs.Made.{added, held_by}
use Rattle.cf_sequence.specs.Expressions.{builds}
use Rattle.cf_sequence.specs.Statements.{started}
use Rattle.cf_sequence.proofs.Following.{on}
use Rattle.cf_sequence.proofs.Calling.{never}
use Rattle.cf_sequence.proofs.PlainSteps.{runs_on, act-steps}
use Rattle.cf_sequence.proofs.Operands.{H}
use Rattle.cf_sequence.proofs.Fulls.{closing, closed}
use Rattle.cf_sequence.proofs.Standing.{settled_full}

-- what fills the object whose place is in a register
abbrev pub fill : Core → Register → Action
fill core.zeros n = plain.zeros n
fill (core.string bytes) n = plain.bytes n bytes
fill e n = plain.this

pub filling-builds : (e : Core) → is_filling e ≡ true → builds e ≡ true
filling-builds core.zeros ok = refl
filling-builds (core.string bytes) ok = refl
filling-builds e ok = never ok

pub filling-initial : (e : Core) → is_filling e ≡ true → is_initial e ≡ true
filling-initial e ok = ap (λ b. b || is_start e) ok

pub filling-element : (t : SourceType) (e : Core) → is_filling e ≡ true → is_element t e ≡ true
filling-element t e ok = ap (λ b. (b || is_start e) || is_list t e) ok

pub filling-adds : (e : Core) → is_filling e ≡ true → added (nodes e) ≡ []
filling-adds core.zeros ok = refl
filling-adds (core.string bytes) ok = refl
filling-adds e ok = never ok

pub filling-holds : (e : Core) → is_filling e ≡ true → held_by e ≡ []
filling-holds core.zeros ok = refl
filling-holds (core.string bytes) ok = refl
filling-holds e ok = never ok

-- an initialiser that is no reference's binds no temporary
pub element-holds : (t : SourceType) (e : Core) → is_element t e ≡ true → held_by e ≡ []
element-holds t (core.bind (local_temporary j u) e) ok = never ok
element-holds t e ok = refl

-- one act alone
pub started-is : (cs : List Class) (t : SourceType) (e : Core) → is_filling e ≡ true → (n : Register) (k : ℕ) (rest : Plains)
    → started cs t e n k rest ≡ more (act (fill e n)) rest
started-is cs t core.zeros ok n k rest = refl
started-is cs t (core.string bytes) ok n k rest = refl
started-is cs t e ok n k rest = never ok

-- ---- the objects then

-- the bytes of a literal from one on
abbrev written : Kind → Place → ℕ → List ℕ → State → State
written k p i [] s = s
written k p i (b ∷ rest) s = written k p (suc i) rest (with_object p.object (hold (inner (item i) p).route (Some (Number (converted k (pos b))))) s)

written-run : (k : Kind) (p : Place) (i : ℕ) (bytes : List ℕ) (s : State) (w : World) → write_bytes k p i bytes s w ≡ Went (Gives tt (written k p i bytes s)) w
written-run k p i [] s w = refl
written-run k p i (b ∷ rest) s w = written-run k p (suc i) rest (with_object p.object (hold (inner (item i) p).route (Some (Number (converted k (pos b))))) s) w

written-framed : (k : Kind) (p : Place) (i : ℕ) (bytes : List ℕ) (s : State) (f : Frame) → written k p i bytes (with_frame f s) ≡ with_frame f (written k p i bytes s)
written-framed k p i [] s f = refl
written-framed k p i (b ∷ rest) s f = written-framed k p (suc i) rest (with_object p.object (hold (inner (item i) p).route (Some (Number (converted k (pos b))))) s) f

written-frame : (k : Kind) (p : Place) (i : ℕ) (bytes : List ℕ) (s : State) → (written k p i bytes s).frame ≡ s.frame
written-frame k p i [] s = refl
written-frame k p i (b ∷ rest) s = written-frame k p (suc i) rest (with_object p.object (hold (inner (item i) p).route (Some (Number (converted k (pos b))))) s)

abbrev pub zeroed : List Class → Place → State → State
zeroed cs p s = with_object p.object (hold_all p.route (λ r. Some (zero_of (type_at cs (s.object p.object).type (r ++ p.route))))) s

abbrev pub filled : List Class → Core → Place → State → State
filled cs (core.string bytes) p s = written (character_kind (place_type cs s p)) p 0 bytes (zeroed cs p s)
filled cs e p s = zeroed cs p s

pub filled-frame : (cs : List Class) (e : Core) → is_filling e ≡ true → (p : Place) (s : State) → (filled cs e p s).frame ≡ s.frame
filled-frame cs core.zeros ok p s = refl
filled-frame cs (core.string bytes) ok p s = written-frame (character_kind (place_type cs s p)) p 0 bytes (zeroed cs p s)
filled-frame cs e ok p s = never ok

-- each object has the type that it had
pub record TypesKept (s t : State) : Type 0 where
  pub next : t.next ≡ s.next
  pub types : (o : ℕ) → (t.object o).type ≡ (s.object o).type

same-then : (s t u : State) → TypesKept s t → TypesKept t u → TypesKept s u
same-then s t u p q = record { next = q.next ∙ p.next; types = λ o. q.types o ∙ p.types o }

pub typed-at : (o q : ℕ) (x : Object) (objects : ℕ → Object) → x.type ≡ (objects q).type → (b : Bool) → (o == q) ≡ b → (if b then x else objects o).type ≡ (objects o).type
typed-at o q x objects e true is = e ∙ ap (λ i. (objects i).type) (let z : q ≡ o = grind (arith, nat_tests) in z)
typed-at o q x objects e false is = refl

held-types : (o : ℕ) (f : Object → Object) → ((x : Object) → (f x).type ≡ x.type) → (s : State) → TypesKept s (with_object o f s)
held-types o f same s = record { next = refl; types = λ i. typed-at i o (f (s.object o)) s.object (same (s.object o)) (i == o) refl }

written-types : (k : Kind) (p : Place) (i : ℕ) (bytes : List ℕ) (s : State) → TypesKept s (written k p i bytes s)
written-types k p i [] s = record { next = refl; types = λ o. refl }
written-types k p i (b ∷ rest) s =
    let v : Option Value = Some (Number (converted k (pos b))) in
    let t : State = with_object p.object (hold (inner (item i) p).route v) s in
    same-then s t (written k p (suc i) rest t) (held-types p.object (hold (inner (item i) p).route v) (λ x. refl) s) (written-types k p (suc i) rest t)

zeroed-types : (cs : List Class) (p : Place) (s : State) → TypesKept s (zeroed cs p s)
zeroed-types cs p s =
    held-types p.object (hold_all p.route (λ r. Some (zero_of (type_at cs (s.object p.object).type (r ++ p.route))))) (λ x. refl) s

pub filled-types : (cs : List Class) (e : Core) → is_filling e ≡ true → (p : Place) (s : State) → TypesKept s (filled cs e p s)
filled-types cs core.zeros ok p s = zeroed-types cs p s
filled-types cs (core.string bytes) ok p s =
    let k : Kind = character_kind (place_type cs s p) in
    same-then s (zeroed cs p s) (written k p 0 bytes (zeroed cs p s)) (zeroed-types cs p s) (written-types k p 0 bytes (zeroed cs p s))
filled-types cs e ok p s = never ok

-- ---- both runs

module _ (again : calling.Again) (again' : running.Again) (P : Program) where
  abbrev plain_fill : Core → Register → Registers → Act Value
  plain_fill e n h = acts (calls again') (H again again' P) h (fill e n)

  -- The core is malformed, or both fill the object.
  pub data Fills (e : Core) (p : Place) (s : State) (w : World) : Type 0 where
    malformed_there : settled_full again P p e s w ≡ Went Malformed w → Fills e p s w
    both_fill : settled_full again P p e s w ≡ Went (Gives tt (filled P.classes e p s)) w
        → ((h : Registers) (n : Register) (f : Frame) → h n ≡ Some (At p) → plain_fill e n h (with_frame f s) w ≡ Went (Gives Nothing (with_frame f (filled P.classes e p s))) w)
        → Fills e p s w

  -- an act on the place in a register
  at-place : (go : Place → Act Value) (o : Option Value) (p : Place) → o ≡ Some (At p) → (t : State) (w : World)
      → (((some_or o malformed >>= used) >>= place_of) >>= go) t w ≡ go p t w
  at-place go o p e t w = ap (λ o. (((some_or o malformed >>= used) >>= place_of) >>= go) t w) e

  -- the characters of a literal, once the object is known to have room
  abbrev core_text : Kind → Bool → Place → List ℕ → Act Value
  core_text k b p bytes = valid b >> (fill_zeros P.classes p >> (write_bytes k p 0 bytes >> gives Built))

  abbrev plain_text : Kind → Bool → Bool → Place → List ℕ → Act Value
  plain_text k a b p bytes = valid a >> (valid b >> (fill_zeros P.classes p >> (write_bytes k p 0 bytes >>= (λ u. gives Nothing))))

  core-text : (k : Kind) (p q : Place) (bytes : List ℕ) (s : State) (w : World)
      → and_then (and_then (core_text k true p bytes (with_frame (record s.frame { temporaries = [] }) s) w) (on (settle P.classes q))) (on (closing again P s.frame.temporaries))
      ≡ Went (Gives tt (written k p 0 bytes (zeroed P.classes p s))) w
  core-text k p q bytes s w =
      let e0 : Frame = record s.frame { temporaries = [] } in
      let z : State = zeroed P.classes p s in
      let u : State = written k p 0 bytes (with_frame e0 z) in
      ap (λ r. and_then (and_then (and_then r (on (λ u. gives Built))) (on (settle P.classes q))) (on (closing again P s.frame.temporaries))) (written-run k p 0 bytes (with_frame e0 z) w)
      ∙ closed again P s.frame u w tt (written-frame k p 0 bytes (with_frame e0 z))
      ∙ ap (λ t. Went (Gives tt (with_frame s.frame t)) w) (written-framed k p 0 bytes z e0)
      ∙ ap (λ f. Went (Gives tt (with_frame f (written k p 0 bytes z))) w) (sym (written-frame k p 0 bytes z))

  plain-text : (k : Kind) (p : Place) (bytes : List ℕ) (s : State) (f : Frame) (w : World)
      → plain_text k true true p bytes (with_frame f s) w ≡ Went (Gives Nothing (with_frame f (written k p 0 bytes (zeroed P.classes p s)))) w
  plain-text k p bytes s f w =
      let z : State = zeroed P.classes p s in
      ap (λ r. and_then r (on (λ u. gives Nothing))) (written-run k p 0 bytes (with_frame f z) w)
      ∙ ap (λ t. Went (Gives Nothing t) w) (written-framed k p 0 bytes z f)

  text-fills : (p : Place) (bytes : List ℕ) (s : State) (w : World) (b : Bool) → is_array (place_type P.classes s p) && nat_le (length bytes) (element_count P.classes (place_type P.classes s p)) ≡ b
      → Fills (core.string bytes) p s w
  text-fills p bytes s w true e =
      let t : SourceType = place_type P.classes s p in
      let k : Kind = character_kind t in
      let s0 : State = with_frame (record s.frame { temporaries = [] }) s in
      let parts = both (is_array t) (nat_le (length bytes) (element_count P.classes t)) e in
      both_fill
      (ap (λ b. and_then (and_then (core_text k b p bytes s0 w) (on (settle P.classes p))) (on (closing again P s.frame.temporaries))) e ∙ core-text k p p bytes s w)
      (λ h n f at.
      at-place (λ p. λ s w. plain_text (character_kind (place_type P.classes s p)) (is_array (place_type P.classes s p)) (nat_le (length bytes) (element_count P.classes (place_type P.classes s p))) p bytes s w) (h n) p at (with_frame f s) w
      ∙ ap (λ b. plain_text k b (nat_le (length bytes) (element_count P.classes t)) p bytes (with_frame f s) w) parts.0
      ∙ ap (λ b. plain_text k true b p bytes (with_frame f s) w) parts.1 ∙ plain-text k p bytes s f w)
  text-fills p bytes s w false e =
      let s0 : State = with_frame (record s.frame { temporaries = [] }) s in
      malformed_there (ap (λ b. and_then (and_then (core_text (character_kind (place_type P.classes s p)) b p bytes s0 w) (on (settle P.classes p))) (on (closing again P s.frame.temporaries))) e)

  pub fills : (e : Core) → is_filling e ≡ true → (p : Place) (s : State) (w : World) → Fills e p s w
  fills core.zeros ok p s w =
      both_fill refl (λ h n f at. at-place (λ p. fill_zeros P.classes p >>= (λ u. gives Nothing)) (h n) p at (with_frame f s) w)
  fills (core.string bytes) ok p s w = text-fills p bytes s w (is_array (place_type P.classes s p) && nat_le (length bytes) (element_count P.classes (place_type P.classes s p))) refl
  fills e ok p s w = never ok

  -- such an initialiser of the place in a register
  pub filled-steps : {A B : Type 0} {S : A → State → B → State → Type 0} (t : SourceType) (e : Core) → is_filling e ≡ true → (n : Register) (k : ℕ) (p : Place) (h : Registers) (rest : Plains)
      (c : Unit {0} → Act A) (K : Flow → Act B) (s : State) (f : Frame) (w : World)
      → h n ≡ Some (At p)
      → ((u : State) → u.frame ≡ s.frame → Follows S (c tt u w) (runs_on again' (H again again' P) rest h K (with_frame f u) w))
      → Follows S (and_then (settled_full again P p e s w) (on c)) (runs_on again' (H again again' P) (started P.classes t e n k rest) h K (with_frame f s) w)
  filled-steps {S = S} t e ok n k p h rest c K s f w at next =
      subst (λ code. Follows S (and_then (settled_full again P p e s w) (on c)) (runs_on again' (H again again' P) code h K (with_frame f s) w)) (sym (started-is P.classes t e ok n k rest))
      (by (fills e ok p s w))
    where
      by : Fills e p s w → Follows S (and_then (settled_full again P p e s w) (on c)) (runs_on again' (H again again' P) (more (act (fill e n)) rest) h K (with_frame f s) w)
      by (malformed_there is) =
          subst (λ r. Follows S (and_then r (on c)) (runs_on again' (H again again' P) (more (act (fill e n)) rest) h K (with_frame f s) w)) (sym is) (record { by = tt })
      by (both_fill is plain_is) =
          let u : State = filled P.classes e p s in
          subst (λ r. Follows S (and_then r (on c)) (runs_on again' (H again again' P) (more (act (fill e n)) rest) h K (with_frame f s) w)) (sym is)
          (act-steps again' (H again again' P) (fill e n) rest h K _ (with_frame f s) w
          (subst (λ r. Follows S (c tt u w) (and_then r (on (λ v. λ t w. runs_on again' (H again again' P) rest h K t w)))) (sym (plain_is h n f at))
          (next u (filled-frame P.classes e ok p s))))
