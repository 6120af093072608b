-- Expressions: the operands of their plain statements are what lowering takes.
use Rattle.std.proofs.Common.{◌≡◌, inr, ℕ, suc, ◌+◌, ◌<◌, Bool, true, false, ◌&&◌, ◌||◌, not, List, [], ◌∷◌, ◌++◌, length, refl, sym, ap, ◌∙◌, arith}
use Rattle.std.specs.Prelude.{pos, Option, Some, None, slice_get}
use Rattle.cf_base.proofs.Tests.{both, all_of}
use Rattle.cf_core.specs.Types.{SourceType, integer, pointer, takes, gives, plain as unqualified, without_const, parameters, result, is_class}
use Rattle.cf_core.specs.Classes.{Class}
use Rattle.cf_core.specs.Core as core
use Rattle.cf_core.specs.Core.{Core, Cores, Change, arithmetic, moved, no_temporary, none, absent}
use Rattle.cf_core.specs.Nodes.{nodes, nodes_all}
use Rattle.cf_core.specs.Places.{is_reference}
use Rattle.cf_core.specs.Typing.{Scope, Typing, is_function, same_type, is_condition, is_expression, is_right_operand, pointed, either, converts, changes}
use Rattle.cf_core.specs.Typed.{typing, typings, last_typing, typing_maybe, fit, on_object, read_type, pointed_place, address_type, decayed_type, stepped, changed_in_place, void_pointer}
use Rattle.cf_plain.specs.Plain.{Register, Action, Plains, act, set, branch, nothing, more}
use Rattle.cf_plain.specs.Plain as plain
use Rattle.cf_plain_kept.specs.Kept.{Kept, Keeping, keep, kept_by, read_kept, after}
use Rattle.cf_lower_kept.specs.Ready.{action_ready, is_object, names_well_if, is_code, is_the_type, of_place, decays_well}
use Rattle.cf_sequence.specs.Built.{is_value, are_values, are_arguments, is_chain}
use Rattle.cf_sequence.specs.Made.{added, width, numbers}
use Rattle.cf_sequence.specs.Expressions.{Full, flag, Destination, destination, value, values, arguments, settled, result_register, used}
use Rattle.cf_sequence.proofs.Calling.{never}
use Rattle.cf_sequence.proofs.SameTypes.{type-same}
use Rattle.cf_sequence_kept.proofs.Related.{Relates}
use Rattle.cf_sequence_kept.proofs.Spans.{Span, Stays, Room, room-left, room-right, room-third, room-above, room-behind, room-within}
use Rattle.cf_sequence_kept.proofs.Suits.{Pointed, pointed-to}
use Rattle.cf_sequence_kept.proofs.Values.{keep-at, keep-below, Keeps}
use Rattle.cf_sequence_kept.proofs.Whole.{keeps-value}
use Rattle.cf_sequence_valid.proofs.Serves.{Serves, as_value, as_start, nothing-serves, allowed-is, allowed-serves, by-place, by-type, by-pointed, conditions-serve, expressions-serve, right-serves, index-serves, pointer-serves, either-serves, store-serves, update-serves, converts-serve, bind-serves, called-serves}
use Rattle.cf_sequence_valid.proofs.Stands.{Stand, stand-first}
use Rattle.cf_sequence_valid.proofs.Values as locals_of
use Rattle.cf_sequence_lowered.specs.Ready.{pointed_by, operand_is_ready, may_move, of_type, node_is_ready}
use Rattle.cf_sequence_lowered.proofs.Each.{Each, each-left, each-right}
use Rattle.cf_sequence_lowered.proofs.ReadySteps.{run, Runs, Alone, Peeled, peel, same-state, alone, runs-none, runs-then, runs-more, runs-act, runs-set, runs-branch, runs-used, runs-settled}
use Rattle.cf_sequence_lowered.proofs.ReadyTypes.{object-bare, pointed-bare, operands-are, operand-ready, decay-ready, read-ready}

module _ (locals : List SourceType) (R : SourceType) where
  -- an action leaves what registers hold, and one that is set is kept there
  act-same : (g h : Keeping) (a : Action) → after locals R (act a) g ≡ Some h → h ≡ g
  act-same g h a e = by (kept_by locals R g a) e
    where
      by : (o : Option Kept) → elim o as (λ _. Option Keeping) [ None ↦ None | Some x ↦ Some g ] ≡ Some h → h ≡ g
      by None e = absurd (cc)
      by (Some x) e = same-state locals R h g (sym e)

  record Kept_in (g h : Keeping) (r : Register) (a : Action) : Type 0 where
    value : Kept
    is : kept_by locals R g a ≡ Some value
    now : h ≡ keep g r value

  set-kept : (g h : Keeping) (r : Register) (a : Action) → after locals R (set r a) g ≡ Some h → Kept_in g h r a
  set-kept g h r a e = by (kept_by locals R g a) refl e
    where
      by : (o : Option Kept) → kept_by locals R g a ≡ o → elim o as (λ _. Option Keeping) [ None ↦ None | Some x ↦ Some (keep g r x) ] ≡ Some h → Kept_in g h r a
      by None is e = absurd (cc)
      by (Some x) is e = record { value = x; is = is; now = same-state locals R h (keep g r x) (sym e) }

  -- behind an action that sets nothing
  past-act : (a : Action) (rest : Plains) (g i : Keeping) → run locals R (more (act a) rest) g ≡ Some i → run locals R rest g ≡ Some i
  past-act a rest g i e =
      let p = peel locals R (act a) rest g i e in
      ap (λ k. run locals R rest k) (sym (act-same g (Peeled.behind p) a (Peeled.is p))) ∙ Peeled.goes p

  -- behind one that sets a register
  record Past_set (g i : Keeping) (r : Register) (a : Action) (rest : Plains) : Type 0 where
    value : Kept
    is : kept_by locals R g a ≡ Some value
    goes : run locals R rest (keep g r value) ≡ Some i

  past-set : (r : Register) (a : Action) (rest : Plains) (g i : Keeping) → run locals R (more (set r a) rest) g ≡ Some i → Past_set g i r a rest
  past-set r a rest g i e =
      let p = peel locals R (set r a) rest g i e in
      let q = set-kept g (Peeled.behind p) r a (Peeled.is p) in
      record { value = Kept_in.value q; is = Kept_in.is q; goes = ap (λ k. run locals R rest k) (sym (Kept_in.now q)) ∙ Peeled.goes p }

  -- one more action that any operands do for
  one : (F : Plains → Plains) (n : Register) (a : Action) → Runs locals R F → ((g : Keeping) → action_ready locals R g a ≡ true) → Runs locals R (λ rest. F (more (set n a) rest))
  one F n a p good = runs-then locals R F (λ rest. more (set n a) rest) p (runs-set locals R n a good)

  -- two operands, and then more
  two : (F G last : Plains → Plains) (n : Register) → Runs locals R F → Runs locals R G → Runs locals R last → Runs locals R (λ rest. F (used n (G (last rest))))
  two F G last n p q r =
      runs-then locals R F (λ rest. used n (G (last rest))) p
      (runs-then locals R (used n) (λ rest. G (last rest)) (runs-used locals R n) (runs-then locals R G last q r))

  -- a value that is read and moved: the register with it, behind others that are set
  moved-ready : (c : Change) (h : Keeping) (r q : Register) → ((back : Bool) → c ≡ moved back → of_place is_object (h r) ≡ true) → action_ready locals R h (plain.changed c r q) ≡ true
  moved-ready (arithmetic op k to) h r q good = refl
  moved-ready (moved back) h r q good = good back refl

function-code : (t : SourceType) → is_function t ≡ true → is_code t ≡ true
function-code (takes p t) ok = refl
function-code (gives t c) ok = refl
function-code t ok = never ok

chain-code : (t : SourceType) → is_chain t ≡ true → is_code t ≡ true
chain-code (takes p t) ok = refl
chain-code (gives t c) ok = refl
chain-code t ok = never ok

-- what is read of a place, where it can be moved
moving : (x : Typing) (h : Kept) → Relates x h → (o : Option SourceType) → x.place ≡ o → of_type may_move o ≡ true → (o ≡ None → ⊥) → of_place is_object (read_kept (Some h)) ≡ true
moving x h r None e ok some = absurd (some refl)
moving x h r (Some t) e ok some =
    let d = pointed-to t h (r.place t e) in ap (λ h. of_place is_object (read_kept (Some h))) (Pointed.is d) ∙ read-ready t h d ok

has-place : (scope : Scope) (c : Change) (y : Typing) (o : Option SourceType) → Serves (changed_in_place scope o (changes c o y)) → o ≡ None → ⊥
has-place scope c y None s e = nothing-serves s
has-place scope c y (Some t) s e = absurd (cc)

steps-place : (scope : Scope) (is_postfix : Bool) (c : Change) (o : Option SourceType) → Serves (stepped scope is_postfix c o) → o ≡ None → ⊥
steps-place scope true c None s e = nothing-serves s
steps-place scope false c None s e = nothing-serves s
steps-place scope true c (Some t) s e = absurd (cc)
steps-place scope false c (Some t) s e = absurd (cc)

module _ (locals : List SourceType) (R : SourceType) (span : Span) (classes : List Class) (scope : Scope) (keeps : locals_of.Kept scope locals)
    (named : (i : ℕ) → names_well_if (slice_get locals i) ≡ true) where
  abbrev Ready : Core → Type 0
  Ready e = node_is_ready scope e ≡ true

  -- a local that stands there with this type
  exact : (i : ℕ) (t : SourceType) → slice_get locals i ≡ Some t → is_the_type (slice_get locals i) t ≡ true
  exact i t e = ap (λ o. is_the_type o t) e ∙ type-same t

  abbrev RunsHere : (Plains → Plains) → Type 0
  RunsHere F = Runs locals R F

  abbrev Value : Core → Type 0
  Value e = (x : Full) (into : Option Destination) (n k : ℕ) → Room locals span x n k (added (nodes e)) → Runs locals R (value classes x e into n k)

  abbrev Found : Core → Type 0
  Found e = (x : Full) (into : Option Destination) (n k : ℕ) (g : Keeping) → Room locals span x n k (added (nodes e)) → Keeps locals R span (typing scope e) n g (value classes x e into n k)

  module _ (a b : Core) (va : Value a) (vb : Value b) (fa : Found a) (fb : Found b) (x : Full) (n k : ℕ) (room : Room locals span x n k (added (nodes a ++ nodes b))) where
    abbrev F : Plains → Plains
    F = value classes x a None n k

    abbrev G : Plains → Plains
    G = value classes x b None (suc n) (k + width a)

    left-room : Room locals span x n k (added (nodes a))
    left-room = room-left locals span x n k (nodes a) (nodes b) room

    right-room : Room locals span x (suc n) (k + width a) (added (nodes b))
    right-room = room-right locals span x n k (suc n) (omega arith) (nodes a) (nodes b) room

    -- where F and G were run with the left operand used between, this is what registers hold
    behind-both : (g h : Keeping) → run locals R (F (used n (G nothing))) g ≡ Some h
        → (p : Keeps locals R span (typing scope a) n g F) (q : Keeps locals R span (typing scope b) (suc n) (Keeps.now p) G) → h ≡ Keeps.now q
    behind-both g h e p q =
        let first : run locals R (used n (G nothing)) (Keeps.now p) ≡ Some h = sym (Keeps.goes p (used n (G nothing))) ∙ e in
        same-state locals R h (Keeps.now q) (sym (past-act locals R (plain.truth n) (G nothing) (Keeps.now p) h first) ∙ Keeps.goes q nothing)

    pub both-run : RunsHere (λ rest. F (used n (G rest)))
    both-run = runs-then locals R F (λ rest. used n (G rest)) (va x None n k left-room) (runs-then locals R (used n) G (runs-used locals R n) (vb x None (suc n) (k + width a) right-room))

    -- an operator of which both operands are to be numbers, or pointers to what passes a test
    pub operands-run : (test : SourceType → Bool) → ((t : SourceType) → test (without_const t) ≡ test t) → (last : Action)
        → ((h : Keeping) → action_ready locals R h last ≡ (of_place test (h n) && of_place test (h (suc n)))) → operand_is_ready test (typing scope a) ≡ true
        → operand_is_ready test (typing scope b) ≡ true → RunsHere (λ rest. F (used n (G (more (set n last) rest))))
    operands-run test bare last is good_a good_b =
        runs-more locals R (λ rest. F (used n (G rest))) (set n last) both-run
        (λ g h goes i behind.
        let p = fa x None n k g left-room in
        let q = fb x None (suc n) (k + width a) (Keeps.now p) right-room in
        let same = behind-both g h (goes nothing) p q in
        let lt : n < suc n = omega arith in
        let left : h n ≡ Some (Keeps.kept p) = ap (λ (k : Keeping). k n) same ∙ Stays.same (Keeps.below q n lt) (inr (Room.top room)) ∙ Keeps.at p in
        let right : h (suc n) ≡ Some (Keeps.kept q) = ap (λ (k : Keeping). k (suc n)) same ∙ Keeps.at q in
        is h
        ∙ all_of (of_place test (h n)) (of_place test (h (suc n))) (ap (of_place test) left ∙ operand-ready test bare (typing scope a) (Keeps.kept p) (Keeps.related p) good_a)
        (ap (of_place test) right ∙ operand-ready test bare (typing scope b) (Keeps.kept q) (Keeps.related q) good_b))

    -- a scalar that is changed in place by an operand
    pub update-run : (c : Change) → Serves (typing scope (core.update a c b)) → node_is_ready scope (core.update a c b) ≡ true
        → RunsHere (λ rest. F (used n (G (used (suc n) (more (set (suc (suc n)) (plain.read n)) (more (set (suc n) (plain.changed c (suc (suc n)) (suc n))) (more (act (plain.store n (suc n))) rest)))))))
    update-run c s ready =
        let readings : Plains → Plains = λ rest. used (suc n) (more (set (suc (suc n)) (plain.read n)) rest) in
        let C : Plains → Plains = λ rest. F (used n (G (readings rest))) in
        let D : Plains → Plains = λ rest. C (more (set (suc n) (plain.changed c (suc (suc n)) (suc n))) rest) in
        runs-then locals R D (λ rest. more (act (plain.store n (suc n))) rest)
        (runs-more locals R C (set (suc n) (plain.changed c (suc (suc n)) (suc n)))
        (runs-then locals R (λ rest. F (used n (G rest))) readings both-run
        (runs-then locals R (used (suc n)) (λ rest. more (set (suc (suc n)) (plain.read n)) rest) (runs-used locals R (suc n)) (runs-set locals R (suc (suc n)) (plain.read n) (λ g. refl))))
        (λ g h goes i behind.
        moved-ready locals R c h (suc (suc n)) (suc n)
        (λ back is.
        let p = fa x None n k g left-room in
        let q = fb x None (suc n) (k + width a) (Keeps.now p) right-room in
        let lt : n < suc n = omega arith in
        let first : run locals R (used n (G (readings nothing))) (Keeps.now p) ≡ Some h = sym (Keeps.goes p (used n (G (readings nothing)))) ∙ goes nothing in
        let second : run locals R (readings nothing) (Keeps.now q) ≡ Some h =
        sym (Keeps.goes q (readings nothing)) ∙ past-act locals R (plain.truth n) (G (readings nothing)) (Keeps.now p) h first in
        let third = past-set locals R (suc (suc n)) (plain.read n) nothing (Keeps.now q) h
        (past-act locals R (plain.truth (suc n)) (more (set (suc (suc n)) (plain.read n)) nothing) (Keeps.now q) h second) in
        let same : h ≡ keep (Keeps.now q) (suc (suc n)) (Past_set.value third) = sym (same-state locals R (keep (Keeps.now q) (suc (suc n)) (Past_set.value third)) h (Past_set.goes third)) in
        let left : Keeps.now q n ≡ Some (Keeps.kept p) = Stays.same (Keeps.below q n lt) (inr (Room.top room)) ∙ Keeps.at p in
        let found : h (suc (suc n)) ≡ Some (Past_set.value third) = ap (λ (k : Keeping). k (suc (suc n))) same ∙ keep-at (Keeps.now q) (suc (suc n)) (Past_set.value third) in
        let read : read_kept (Some (Keeps.kept p)) ≡ Some (Past_set.value third) = sym (ap read_kept left) ∙ Past_set.is third in
        ap (of_place is_object) (found ∙ sym read)
        ∙ moving (typing scope a) (Keeps.kept p) (Keeps.related p) (typing scope a).place refl (ap (λ c. node_is_ready scope (core.update a c b)) (sym is) ∙ ready)
        (has-place scope c (typing scope b) (typing scope a).place s))))
        (runs-act locals R (plain.store n (suc n)) (λ g. refl))

  -- `++x` and `--x`
  prefix-run : (e : Core) (c : Change) → Value e → Found e → Serves (typing scope (core.step false c e)) → node_is_ready scope (core.step false c e) ≡ true → Value (core.step false c e)
  prefix-run e c ve fe s ready x into n k room =
      let F : Plains → Plains = value classes x e None n k in
      let readings : Plains → Plains = λ rest. more (set (suc n) (plain.read n)) (more (set (suc (suc n)) (plain.number (pos 1))) rest) in
      let D : Plains → Plains = λ rest. F (readings (more (set (suc n) (plain.changed c (suc n) (suc (suc n)))) rest)) in
      runs-then locals R D (λ rest. more (act (plain.store n (suc n))) rest)
      (runs-more locals R (λ rest. F (readings rest)) (set (suc n) (plain.changed c (suc n) (suc (suc n))))
      (runs-then locals R F readings (ve x None n k room)
      (runs-then locals R (λ rest. more (set (suc n) (plain.read n)) rest) (λ rest. more (set (suc (suc n)) (plain.number (pos 1))) rest) (runs-set locals R (suc n) (plain.read n) (λ g. refl))
      (runs-set locals R (suc (suc n)) (plain.number (pos 1)) (λ g. refl))))
      (λ g h goes i behind.
      moved-ready locals R c h (suc n) (suc (suc n))
      (λ back is.
      let p = fe x None n k g room in
      let start : run locals R (readings nothing) (Keeps.now p) ≡ Some h = sym (Keeps.goes p (readings nothing)) ∙ goes nothing in
      let first = past-set locals R (suc n) (plain.read n) (more (set (suc (suc n)) (plain.number (pos 1))) nothing) (Keeps.now p) h start in
      let g1 : Keeping = keep (Keeps.now p) (suc n) (Past_set.value first) in
      let second = past-set locals R (suc (suc n)) (plain.number (pos 1)) nothing g1 h (Past_set.goes first) in
      let same : h ≡ keep g1 (suc (suc n)) (Past_set.value second) = sym (same-state locals R (keep g1 (suc (suc n)) (Past_set.value second)) h (Past_set.goes second)) in
      let lt : suc n < suc (suc n) = omega arith in
      let found : h (suc n) ≡ Some (Past_set.value first) =
      ap (λ (k : Keeping). k (suc n)) same ∙ keep-below g1 (suc (suc n)) (suc n) (Past_set.value second) lt ∙ keep-at (Keeps.now p) (suc n) (Past_set.value first) in
      let read : read_kept (Some (Keeps.kept p)) ≡ Some (Past_set.value first) = sym (ap read_kept (Keeps.at p)) ∙ Past_set.is first in
      ap (of_place is_object) (found ∙ sym read)
      ∙ moving (typing scope e) (Keeps.kept p) (Keeps.related p) (typing scope e).place refl (ap (λ c. node_is_ready scope (core.step false c e)) (sym is) ∙ ready)
      (steps-place scope false c (typing scope e).place s))))
      (runs-act locals R (plain.store n (suc n)) (λ g. refl))

  -- `x++` and `x--`
  postfix-run : (e : Core) (c : Change) → Value e → Found e → Serves (typing scope (core.step true c e)) → node_is_ready scope (core.step true c e) ≡ true → Value (core.step true c e)
  postfix-run e c ve fe s ready x into n k room =
      let F : Plains → Plains = value classes x e None (suc n) k in
      let high : Room locals span x (suc n) k (added (nodes e)) = room-above locals span x n k (suc n) (omega arith) (added (nodes e)) room in
      let readings : Plains → Plains = λ rest. more (set n (plain.read (suc n))) (more (set (suc (suc n)) (plain.number (pos 1))) rest) in
      let D : Plains → Plains = λ rest. F (readings (more (set (suc (suc n)) (plain.changed c n (suc (suc n)))) rest)) in
      runs-then locals R D (λ rest. more (act (plain.store (suc n) (suc (suc n)))) rest)
      (runs-more locals R (λ rest. F (readings rest)) (set (suc (suc n)) (plain.changed c n (suc (suc n))))
      (runs-then locals R F readings (ve x None (suc n) k high)
      (runs-then locals R (λ rest. more (set n (plain.read (suc n))) rest) (λ rest. more (set (suc (suc n)) (plain.number (pos 1))) rest) (runs-set locals R n (plain.read (suc n)) (λ g. refl))
      (runs-set locals R (suc (suc n)) (plain.number (pos 1)) (λ g. refl))))
      (λ g h goes i behind.
      moved-ready locals R c h n (suc (suc n))
      (λ back is.
      let p = fe x None (suc n) k g high in
      let start : run locals R (readings nothing) (Keeps.now p) ≡ Some h = sym (Keeps.goes p (readings nothing)) ∙ goes nothing in
      let first = past-set locals R n (plain.read (suc n)) (more (set (suc (suc n)) (plain.number (pos 1))) nothing) (Keeps.now p) h start in
      let g1 : Keeping = keep (Keeps.now p) n (Past_set.value first) in
      let second = past-set locals R (suc (suc n)) (plain.number (pos 1)) nothing g1 h (Past_set.goes first) in
      let same : h ≡ keep g1 (suc (suc n)) (Past_set.value second) = sym (same-state locals R (keep g1 (suc (suc n)) (Past_set.value second)) h (Past_set.goes second)) in
      let lt : n < suc (suc n) = omega arith in
      let found : h n ≡ Some (Past_set.value first) =
      ap (λ (k : Keeping). k n) same ∙ keep-below g1 (suc (suc n)) n (Past_set.value second) lt ∙ keep-at (Keeps.now p) n (Past_set.value first) in
      let read : read_kept (Some (Keeps.kept p)) ≡ Some (Past_set.value first) = sym (ap read_kept (Keeps.at p)) ∙ Past_set.is first in
      ap (of_place is_object) (found ∙ sym read)
      ∙ moving (typing scope e) (Keeps.kept p) (Keeps.related p) (typing scope e).place refl (ap (λ c. node_is_ready scope (core.step true c e)) (sym is) ∙ ready)
      (steps-place scope true c (typing scope e).place s))))
      (runs-act locals R (plain.store (suc n) (suc (suc n))) (λ g. refl))

  decay-run : (e : Core) → Value e → Found e → Serves (typing scope (core.decay e)) → node_is_ready scope (core.decay e) ≡ true → Value (core.decay e)
  decay-run e ve fe s ready x into n k room =
      runs-more locals R (value classes x e None n k) (set n (plain.decay n)) (ve x None n k room)
      (λ g h goes i behind.
      let p = fe x None n k g room in
      let same : h ≡ Keeps.now p = same-state locals R h (Keeps.now p) (sym (goes nothing) ∙ Keeps.goes p nothing) in
      ap decays_well (ap (λ (k : Keeping). k n) same ∙ Keeps.at p) ∙ decay-ready scope (typing scope e) (Keeps.kept p) (Keeps.related p) ready s)

  -- the operands of `&&` and `||`
  conditions : (a b : Core) → Serves (typing scope (core.logical_and a b)) → Serves (typing scope a) × Serves (typing scope b)
  conditions a b s =
      let test = both (is_condition (typing scope a)) (is_condition (typing scope b)) (allowed-is (is_condition (typing scope a) && is_condition (typing scope b)) _ s) in
      (conditions-serve (typing scope a) test.0, conditions-serve (typing scope b) test.1)

  branched : (a : Core) (x : Full) (n k : ℕ) → RunsHere (value classes x a None n k) → (ss ts : Plains) → Alone locals R ss → Alone locals R ts
      → RunsHere (λ rest. value classes x a None n k (more (set n (plain.truth n)) (more (branch n ss ts) rest)))
  branched a x n k va ss ts one_way other_way =
      runs-then locals R (value classes x a None n k) (λ rest. more (set n (plain.truth n)) (more (branch n ss ts) rest)) va
      (runs-then locals R (λ rest. more (set n (plain.truth n)) rest) (λ rest. more (branch n ss ts) rest) (runs-set locals R n (plain.truth n) (λ g. refl)) (runs-branch locals R n ss ts one_way other_way))

  mutual
    pub run-value : (e : Core) → is_value e ≡ true → Serves (typing scope e) → Each Ready (nodes e) → Value e
    run-value (core.number z) ok s u x into n k room = runs-set locals R n (plain.number z) (λ g. u.0)
    run-value (core.local i) ok s u x into n k room = runs-set locals R n (plain.local i) (λ g. named i)
    run-value (core.text j bytes) ok s u x into n k room = runs-set locals R n (plain.text j bytes) (λ g. refl)
    run-value (core.static_object name t) ok s u x into n k room = runs-set locals R n (plain.static_object name t) (λ g. u.0)
    run-value (core.function name t) ok s u x into n k room = runs-set locals R n (plain.function name t) (λ g. function-code t (allowed-is (is_function t) _ s))
    run-value (core.read e) ok s u x into n k room =
        one locals R (value classes x e None n k) n (plain.read n) (run-value e ok (by-place (typing scope e) (read_type scope) refl s) u.1 x None n k room) (λ g. refl)
    run-value (core.address e) ok s u x into n k room =
        runs-then locals R (value classes x e None n k) (used n) (run-value e ok (by-place (typing scope e) (address_type scope) refl s) u.1 x None n k room) (runs-used locals R n)
    run-value (core.dereference e) ok s u x into n k room =
        one locals R (value classes x e None n k) n (plain.dereference n) (run-value e ok (by-pointed (typing scope e) (pointed_place scope) refl s) u.1 x None n k room) (λ g. refl)
    run-value (core.decay e) ok s u x into n k room =
        let serve = by-place (typing scope e) (decayed_type scope) refl s in
        decay-run e (run-value e ok serve u.1) (keeps-value locals R span classes scope keeps e ok serve) s u.0 x into n k room
    run-value (core.from_void t e) ok s u x into n k room =
        one locals R (value classes x e None n k) n (plain.from_void t n)
        (run-value e ok (by-type (typing scope e) (λ o. void_pointer scope (pointed o)) refl (allowed-is (void_pointer scope (pointed (typing scope e).type)) _ s)) u.1 x None n k room) (λ g. u.0)
    run-value (core.index a b) ok s u x into n k room =
        let parts = both (is_value a) (is_value b) ok in
        let serve = index-serves scope (typing scope a) (typing scope b) s in
        let good = both (operand_is_ready is_object (typing scope a)) (operand_is_ready is_object (typing scope b)) u.0 in
        operands-run a b (run-value a parts.0 serve.0 (each-left Ready (nodes a) (nodes b) u.1)) (run-value b parts.1 serve.1 (each-right Ready (nodes a) (nodes b) u.1))
        (keeps-value locals R span classes scope keeps a parts.0 serve.0) (keeps-value locals R span classes scope keeps b parts.1 serve.1) x n k room is_object object-bare (plain.index n (suc n)) (λ h. refl)
        good.0 good.1
    run-value (core.pointer_operate op a b) ok s u x into n k room =
        let parts = both (is_value a) (is_value b) ok in
        let serve = pointer-serves op (typing scope a) (typing scope b) s in
        let good = both (operand_is_ready (pointed_by op) (typing scope a)) (operand_is_ready (pointed_by op) (typing scope b)) u.0 in
        operands-run a b (run-value a parts.0 serve.0 (each-left Ready (nodes a) (nodes b) u.1)) (run-value b parts.1 serve.1 (each-right Ready (nodes a) (nodes b) u.1))
        (keeps-value locals R span classes scope keeps a parts.0 serve.0) (keeps-value locals R span classes scope keeps b parts.1 serve.1) x n k room (pointed_by op) (pointed-bare op) (plain.pointer_operate op n (suc n))
        (λ h. operands-are op (h n) (h (suc n)))
        good.0 good.1
    run-value (core.convert t e) ok s u x into n k room =
        one locals R (value classes x e None n k) n (plain.convert t n)
        (run-value e ok (converts-serve (unqualified t) (typing scope e) (allowed-is (converts (unqualified t) (typing scope e)) _ s)) u.1 x None n k room) (λ g. refl)
    run-value (core.operate op kind a b) ok s u x into n k room =
        let parts = both (is_value a) (is_value b) ok in
        let fits_left = (typing scope a).value (integer kind) in
        let serve = both fits_left (is_right_operand op kind (typing scope b)) (allowed-is (fits_left && is_right_operand op kind (typing scope b)) _ s) in
        two locals R (value classes x a None n k) (value classes x b None (suc n) (k + width a)) (λ rest. more (set n (plain.operate op kind n (suc n))) rest) n
        (run-value a parts.0 (as_value (integer kind) serve.0) (each-left Ready (nodes a) (nodes b) u.1) x None n k (room-left locals span x n k (nodes a) (nodes b) room))
        (run-value b parts.1 (right-serves op kind (typing scope b) serve.1) (each-right Ready (nodes a) (nodes b) u.1) x None (suc n) (k + width a)
        (room-right locals span x n k (suc n) (omega arith) (nodes a) (nodes b) room)) (runs-set locals R n (plain.operate op kind n (suc n)) (λ g. refl))
    run-value (core.unary op kind e) ok s u x into n k room =
        one locals R (value classes x e None n k) n (plain.unary op kind n)
        (run-value e ok (as_value (integer kind) (allowed-is ((typing scope e).value (integer kind)) _ s)) u.1 x None n k room) (λ g. refl)
    run-value (core.logical_not e) ok s u x into n k room =
        one locals R (value classes x e None n k) n (plain.logical_not n)
        (run-value e ok (conditions-serve (typing scope e) (allowed-is (is_condition (typing scope e)) _ s)) u.1 x None n k room) (λ g. refl)
    run-value (core.logical_and a b) ok s u x into n k room =
        let parts = both (is_value a) (is_value b) ok in
        let serve = conditions a b s in
        let right = one locals R (value classes x b None n (k + width a)) n (plain.truth n)
        (run-value b parts.1 serve.1 (each-right Ready (nodes a) (nodes b) u.1) x None n (k + width a) (room-right locals span x n k n (omega arith) (nodes a) (nodes b) room)) (λ g. refl) in
        branched a x n k (run-value a parts.0 serve.0 (each-left Ready (nodes a) (nodes b) u.1) x None n k (room-left locals span x n k (nodes a) (nodes b) room))
        (value classes x b None n (k + width a) (more (set n (plain.truth n)) nothing)) nothing
        (alone locals R (λ rest. value classes x b None n (k + width a) (more (set n (plain.truth n)) rest)) right) (λ g i e. tt)
    run-value (core.logical_or a b) ok s u x into n k room =
        let parts = both (is_value a) (is_value b) ok in
        let serve = conditions a b s in
        let right = one locals R (value classes x b None n (k + width a)) n (plain.truth n)
        (run-value b parts.1 serve.1 (each-right Ready (nodes a) (nodes b) u.1) x None n (k + width a) (room-right locals span x n k n (omega arith) (nodes a) (nodes b) room)) (λ g. refl) in
        branched a x n k (run-value a parts.0 serve.0 (each-left Ready (nodes a) (nodes b) u.1) x None n k (room-left locals span x n k (nodes a) (nodes b) room)) nothing
        (value classes x b None n (k + width a) (more (set n (plain.truth n)) nothing)) (λ g i e. tt)
        (alone locals R (λ rest. value classes x b None n (k + width a) (more (set n (plain.truth n)) rest)) right)
    run-value (core.conditional c a b) ok s u x into n k room =
        let parts = both (is_value c) (is_value a && is_value b) ok in
        let arms = both (is_value a) (is_value b) parts.1 in
        let test = is_condition (typing scope c) in
        let serve = either-serves (typing scope a) (typing scope b) (allowed-serves test (either (typing scope a) (typing scope b)) s) in
        let begin = room-left locals span x n k (nodes c ++ nodes a) (nodes b) room in
        let first = each-left Ready (nodes c ++ nodes a) (nodes b) u.1 in
        branched c x n k
        (run-value c parts.0 (conditions-serve (typing scope c) (allowed-is test (either (typing scope a) (typing scope b)) s)) (each-left Ready (nodes c) (nodes a) first) x None n k
        (room-left locals span x n k (nodes c) (nodes a) begin))
        (value classes x a None n (k + width c) nothing) (value classes x b None n (k + width c + width a) nothing)
        (alone locals R (value classes x a None n (k + width c))
        (run-value a arms.0 serve.0 (each-right Ready (nodes c) (nodes a) first) x None n (k + width c) (room-right locals span x n k n (omega arith) (nodes c) (nodes a) begin)))
        (alone locals R (value classes x b None n (k + width c + width a))
        (run-value b arms.1 serve.1 (each-right Ready (nodes c ++ nodes a) (nodes b) u.1) x None n (k + width c + width a) (room-third locals span x n k n (omega arith) (nodes c) (nodes a) (nodes b) room)))
    run-value (core.comma es) ok s u x into n k room = run-values es ok s u.1 x n k room
    run-value (core.store a b) ok s u x into n k room =
        let parts = both (is_value a) (is_value b) ok in
        let serve = store-serves scope (typing scope a) (typing scope b) s in
        two locals R (value classes x a None n k) (value classes x b None (suc n) (k + width a)) (λ rest. more (act (plain.store n (suc n))) rest) n
        (run-value a parts.0 serve.0 (each-left Ready (nodes a) (nodes b) u.1) x None n k (room-left locals span x n k (nodes a) (nodes b) room))
        (run-value b parts.1 serve.1 (each-right Ready (nodes a) (nodes b) u.1) x None (suc n) (k + width a) (room-right locals span x n k (suc n) (omega arith) (nodes a) (nodes b) room))
        (runs-act locals R (plain.store n (suc n)) (λ g. refl))
    run-value (core.update a change b) ok s u x into n k room =
        let parts = both (is_value a) (is_value b) ok in
        let serve = update-serves scope change (typing scope a) (typing scope b) s in
        update-run a b (run-value a parts.0 serve.0 (each-left Ready (nodes a) (nodes b) u.1)) (run-value b parts.1 serve.1 (each-right Ready (nodes a) (nodes b) u.1))
        (keeps-value locals R span classes scope keeps a parts.0 serve.0) (keeps-value locals R span classes scope keeps b parts.1 serve.1) x n k room change s u.0
    run-value (core.step false change e) ok s u x into n k room =
        let serve = by-place (typing scope e) (stepped scope false change) refl s in
        prefix-run e change (run-value e ok serve u.1) (keeps-value locals R span classes scope keeps e ok serve) s u.0 x into n k room
    run-value (core.step true change e) ok s u x into n k room =
        let serve = by-place (typing scope e) (stepped scope true change) refl s in
        postfix-run e change (run-value e ok serve u.1) (keeps-value locals R span classes scope keeps e ok serve) s u.0 x into n k room
    run-value (core.temporary t e) ok s u x into n k room =
        let is : is_value e ≡ true = (both (not (is_reference t)) (is_value e) ok).1 in
        let starts : (typing scope e).start t ≡ true = allowed-is ((typing scope e).start t) _ s in
        let first : Plains → Plains = value classes x e (destination (suc n) t) (suc (suc n)) (suc k) in
        let last : Plains → Plains = λ rest. more (set (flag x k) (plain.number (pos 1))) rest in
        let inside : Plains → Plains = λ rest. first (settled e (suc n) (suc (suc n)) (last rest)) in
        runs-then locals R (λ rest. more (set (suc n) (plain.declare k t)) rest) (λ rest. more (set n (plain.local k)) (inside rest)) (runs-set locals R (suc n) (plain.declare k t) (λ g. exact k t (Room.stand room).0))
        (runs-then locals R (λ rest. more (set n (plain.local k)) rest) inside (runs-set locals R n (plain.local k) (λ g. named k))
        (runs-then locals R first (λ rest. settled e (suc n) (suc (suc n)) (last rest))
        (run-value e is (as_start t starts) u.1 x (destination (suc n) t) (suc (suc n)) (suc k) (room-within locals span x n k t (added (nodes e)) room))
        (runs-then locals R (settled e (suc n) (suc (suc n))) last (runs-settled locals R e (suc n) (suc (suc n))) (runs-set locals R (flag x k) (plain.number (pos 1)) (λ g. refl)))))
    run-value (core.bind no_temporary e) ok s u x into n k room = run-value e ok (bind-serves scope (typing scope e) s) u.1 x None n k room
    run-value (core.call name t absent args) ok s u x into n k room =
        let forms = both (is_chain t) (are_arguments args) (both (not (is_class (result t))) (is_chain t && are_arguments args) ok).1 in
        let chain = forms.0 in
        let given_args = forms.1 in
        let called = is_function t && on_object scope (typing_maybe scope absent) in
        let fits = (both called (fit scope (parameters t) (typings scope args)) (allowed-is (called && fit scope (parameters t) (typings scope args)) _ s)).1 in
        let l : ℕ = k + length (parameters t) + 0 in
        let call = plain.call name t None (numbers k (parameters t)) (result_register t into) in
        runs-then locals R (λ rest. more (act (plain.function name t)) rest) (λ rest. arguments classes x (parameters t) args n k l (more (set n call) rest))
        (runs-act locals R (plain.function name t) (λ g. chain-code t chain))
        (one locals R (arguments classes x (parameters t) args n k l) n call
        (run-arguments (parameters t) args given_args fits u.1 x n k l (stand-first locals k (parameters t) (added (nodes_all args)) (Room.stand room)) (room-behind locals span x n k (parameters t) (added (nodes_all args)) room)) (λ g. refl))
    run-value (core.pointer_call absent e t args) ok s u x into n k room =
        let forms = both (not (is_class (result t))) (is_chain t && (is_value e && are_arguments args)) ok in
        let parts = both (is_value e) (are_arguments args) (both (is_chain t) (is_value e && are_arguments args) forms.1).1 in
        let called = (typing scope e).value (pointer t) || same_type (typing scope e).place t in
        let fits = both called (fit scope (parameters t) (typings scope args)) (allowed-is (called && fit scope (parameters t) (typings scope args)) _ s) in
        let l : ℕ = k + length (parameters t) + 0 in
        let behind = room-behind locals span x n k (parameters t) (added (nodes e ++ nodes_all args)) room in
        let call = plain.pointer_call None n t (numbers k (parameters t)) (result_register t into) in
        two locals R (value classes x e None n l) (arguments classes x (parameters t) args (suc n) k (l + width e)) (λ rest. more (set n call) rest) n
        (run-value e parts.0 (called-serves t (typing scope e) fits.0) (each-left Ready (nodes e) (nodes_all args) u.1) x None n l (room-left locals span x n l (nodes e) (nodes_all args) behind))
        (run-arguments (parameters t) args parts.1 fits.1 (each-right Ready (nodes e) (nodes_all args) u.1) x (suc n) k (l + width e)
        (stand-first locals k (parameters t) (added (nodes e ++ nodes_all args)) (Room.stand room)) (room-right locals span x n l (suc n) (omega arith) (nodes e) (nodes_all args) behind))
        (runs-set locals R n call (λ g. refl))
    run-value e ok s u x into n k room = never ok

    run-values : (es : Cores) → are_values es ≡ true → Serves (last_typing scope es) → Each Ready (nodes_all es) → (x : Full) (n k : ℕ) → Room locals span x n k (added (nodes_all es))
        → Runs locals R (values classes x es n k)
    run-values none ok s u x n k room = never ok
    run-values (core.more e none) ok s u x n k room = run-value e ok s (each-left Ready (nodes e) [] u) x None n k (room-left locals span x n k (nodes e) [] room)
    run-values (core.more e (core.more f es)) ok s u x n k room =
        let parts = both (is_value e) (are_values (core.more f es)) ok in
        let there = allowed-is (is_expression (typing scope e)) (last_typing scope (core.more f es)) s in
        let last = allowed-serves (is_expression (typing scope e)) (last_typing scope (core.more f es)) s in
        let others = core.more f es in
        runs-then locals R (value classes x e None n k) (values classes x others n (k + width e))
        (run-value e parts.0 (expressions-serve (typing scope e) there) (each-left Ready (nodes e) (nodes_all others) u) x None n k (room-left locals span x n k (nodes e) (nodes_all others) room))
        (run-values (core.more f es) parts.1 last (each-right Ready (nodes e) (nodes_all others) u) x n (k + width e) (room-right locals span x n k n (omega arith) (nodes e) (nodes_all others) room))

    run-arguments : (ts : List SourceType) (es : Cores) → are_arguments es ≡ true → fit scope ts (typings scope es) ≡ true → Each Ready (nodes_all es) → (x : Full) (n i k : ℕ)
        → Stand locals i ts → Room locals span x n k (added (nodes_all es)) → Runs locals R (arguments classes x ts es n i k)
    run-arguments [] none ok fits u x n i k at room = runs-none locals R
    run-arguments [] (core.more e es) ok fits u x n i k at room = never fits
    run-arguments (t ∷ ts) none ok fits u x n i k at room = never fits
    run-arguments (t ∷ ts) (core.more e es) ok fits u x n i k at room =
        let parts = both (is_value e) (are_arguments es) ok in
        let starts = both ((typing scope e).start t) (fit scope ts (typings scope es)) fits in
        let rest_of : Plains → Plains = arguments classes x ts es n (suc i) (k + width e) in
        runs-then locals R (λ rest. more (set n (plain.declare i t)) rest) (λ rest. value classes x e (destination n t) (suc n) k (settled e n (suc n) (rest_of rest)))
        (runs-set locals R n (plain.declare i t) (λ g. exact i t at.0))
        (runs-then locals R (value classes x e (destination n t) (suc n) k) (λ rest. settled e n (suc n) (rest_of rest))
        (run-value e parts.0 (as_start t starts.0) (each-left Ready (nodes e) (nodes_all es) u) x (destination n t) (suc n) k
        (room-above locals span x n k (suc n) (omega arith) (added (nodes e)) (room-left locals span x n k (nodes e) (nodes_all es) room)))
        (runs-then locals R (settled e n (suc n)) rest_of (runs-settled locals R e n (suc n))
        (run-arguments ts es parts.1 starts.1 (each-right Ready (nodes e) (nodes_all es) u) x n (suc i) (k + width e) at.1
        (room-right locals span x n k n (omega arith) (nodes e) (nodes_all es) room))))
