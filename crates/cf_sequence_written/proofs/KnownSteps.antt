-- The numbers of types in what is written for the kinds of statements are there in the tables.
use Rattle.std.proofs.Common.{◌≡◌, ℕ, zero, suc, Bool, true, false, ◌&&◌, List, [], ◌∷◌, ◌++◌, map, length, take, drop, Option, Some, None, if◌then◌else◌, refl, ap, sym, ◌∙◌}
use Rattle.std.specs.Prelude.{pos}
use Rattle.std.specs.List.{list_all}
use Rattle.std.proofs.lemmas.List.Folds.{list_all-append}
use Rattle.cf_base.proofs.Tests.{both}
use Rattle.cf_core.specs.declared.operators.LoopForm.{LoopForm}
use Rattle.cf_core.specs.declared.operators.LoopForm.TheVariants as form
use Rattle.cf_core.specs.FromTypes.{Tables}
use Rattle.cf_core.specs.Numbers.{has_type}
use Rattle.cf_plain.specs.declared.action.Action.TheVariants as action
use Rattle.cf_plain.specs.declared.statement.Plain.{Plain}
use Rattle.cf_plain.specs.declared.statement.Plain.TheOpen.{Plain-F}
use Rattle.cf_plain.specs.declared.statement.Plain.TheFolds.{fold-roll-Plain}
use Rattle.cf_plain.specs.declared.statement.Plain.TheVariants as code
use Rattle.cf_plain.specs.declared.statement.Plain.TheVariants.{rolls-Loop, rolls-Switch, rolls-Break, rolls-Return}
use Rattle.cf_plain.specs.Numbers as plain
use Rattle.cf_plain.specs.Numbers.{are_known}
use Rattle.cf_sequence_expr.specs.declared.temporaries.Temporary.{Temporary}
use Rattle.cf_sequence_expr.specs.declared.writing.Full.{Full}
use Rattle.cf_sequence_expr.specs.declared.writing.Writing.{Writing}
use Rattle.cf_sequence_expr.specs.Writes.{flag, put, set, act}
use Rattle.cf_sequence_expr.specs.Pieces.{Piece, found_in}
use Rattle.cf_sequence_stmt.specs.declared.body.Body.{Body}
use Rattle.cf_sequence_stmt.specs.declared.body.Open.{Open}
use Rattle.cf_sequence_stmt.specs.declared.body.Ways.{Ways}
use Rattle.cf_sequence_stmt.specs.Bodies.{Initial, does_nothing, fills, lists, gives, on, behind_flags, cleared_one, cleared, over_one, over, full_at, entered, left_behind, opened, ended, left_to, closed_to, full, given, tested, started, held_too, declared, stated, begun, chosen, turned, switched, with_code, there, passed_at, set_aside, taken_back}
use Rattle.cf_sequence_stmt.specs.Steps.{Step, in_order, or_nothing, inside_loop, inside_switch, held, stepped, turn, repeated, loop, labelled, passing, passes, selected, selection, choice, returned}
use Rattle.cf_sequence_written.proofs.Held.{KnownHeld}
use Rattle.cf_sequence_written.proofs.Known.{is_known, known-Act, are_typed, Typed, KnownPiece, Keeps, keeps-none, keeps-then, keeps-put, keeps-set, keeps-act, keeps-used, known-last, known-If, all-mapped, emptied-known, branched-known, and-true}

module _ (tables : Tables) where
  abbrev pub have_types : List Open → Bool
  have_types xs = list_all (λ (x : Open). has_type tables x.ty) xs

  pub record KnownBody (b : Body) : Type 0 where
    pub code : are_known tables (Writing.code b.writing) ≡ true
    pub scope : have_types b.scope ≡ true

  dropped : (n : ℕ) (xs : List Open) → have_types xs ≡ true → have_types (drop n xs) ≡ true
  dropped zero xs ok = ok
  dropped (suc n) [] ok = refl
  dropped (suc n) (x ∷ xs) ok = dropped n xs (both (has_type tables x.ty) (have_types xs) ok).1

  taken : (n : ℕ) (xs : List Open) → have_types xs ≡ true → have_types (take n xs) ≡ true
  taken zero xs ok = refl
  taken (suc n) [] ok = refl
  taken (suc n) (x ∷ xs) ok =
      let parts = both (has_type tables x.ty) (have_types xs) ok in and-true (has_type tables x.ty) _ parts.0 (taken n xs parts.1)

  keeps-ended : (xs : List Open) → have_types xs ≡ true → Keeps tables (ended xs)
  keeps-ended [] ok = keeps-none tables
  keeps-ended (x ∷ xs) ok =
      let parts = both (has_type tables x.ty) (have_types xs) ok in keeps-then tables (keeps-ended xs parts.1) (keeps-act tables (action.Finish x.ty x.number) parts.0)

  known-on : {f : Writing → Writing} (b : Body) → Keeps tables f → KnownBody b → KnownBody (on f b)
  known-on b p ok = record { code = p.keeps b.writing ok.code; scope = ok.scope }

  pub known-left : (mark : ℕ) (b : Body) → KnownBody b → KnownBody (left_to mark b)
  unfolding left_to
  known-left mark b ok = known-on b (keeps-ended (drop mark b.scope) (dropped mark b.scope ok.scope)) ok

  pub known-closed : (mark : ℕ) (b : Body) → KnownBody b → KnownBody (closed_to mark b)
  unfolding closed_to
  known-closed mark b ok =
      let left = known-left mark b ok in record { code = left.code; scope = taken mark (Body.scope (left_to mark b)) left.scope }

  known-set_aside : (mark : ℕ) (b : Body) → KnownBody b → KnownBody (set_aside mark b)
  unfolding set_aside
  known-set_aside mark b ok = record { code = ok.code; scope = taken mark b.scope ok.scope }

  both-typed : (xs ys : List Open) → have_types xs ≡ true → have_types ys ≡ true → have_types (xs ++ ys) ≡ true
  both-typed xs ys one two = list_all-append (λ (x : Open). has_type tables x.ty) xs ys ∙ and-true (have_types xs) _ one two

  known-taken_back : (mark : ℕ) (xs : List Open) (b : Body) → have_types xs ≡ true → KnownBody b → KnownBody (taken_back mark xs b)
  unfolding taken_back
  known-taken_back mark xs b types ok = record {
    code = ok.code;
    scope = both-typed (take mark b.scope ++ xs) (drop mark b.scope) (both-typed (take mark b.scope) xs (taken mark b.scope ok.scope) types) (dropped mark b.scope ok.scope);
  }

  known-opened : (i t : ℕ) (b : Body) → has_type tables t ≡ true → KnownBody b → KnownBody (opened i t b)
  unfolding opened
  known-opened i t b there ok = record {
    code = ok.code;
    scope = list_all-append (λ (x : Open). has_type tables x.ty) b.scope (record { number = i; ty = t } ∷ [])
        ∙ and-true (have_types b.scope) _ ok.scope (and-true (has_type tables t) true there refl);
  }

  pub known-stated : (s : Plain) (b : Body) → is_known tables s ≡ true → KnownBody b → KnownBody (stated s b)
  unfolding stated
  known-stated s b one ok = known-on b (keeps-put tables s one) ok

  known-begun : (b : Body) → KnownBody b → KnownBody (begun b)
  unfolding begun
  known-begun b ok = record { code = emptied-known tables b.writing; scope = ok.scope }

  known-with_code : (ss : List Plain) (b : Body) → are_known tables ss ≡ true → KnownBody b → KnownBody (with_code ss b)
  unfolding with_code
  known-with_code ss b all ok = record { code = all; scope = ok.scope }

  known-chosen : (n : ℕ) (before first : List Plain) (b : Body) → are_known tables before ≡ true → are_known tables first ≡ true → KnownBody b → KnownBody (chosen n before first b)
  unfolding chosen
  known-chosen n before first b one two ok = record { code = branched-known tables n before first b.writing one two ok.code; scope = ok.scope }

  pub loop-known : (ss ts : List Plain) → are_known tables ss ≡ true → are_known tables ts ≡ true → is_known tables (code.Loop ss ts) ≡ true
  loop-known ss ts one two =
      ap (is_known tables) (sym (rolls-Loop ss ts)) ∙ fold-roll-Plain Bool Bool (plain.known_step tables) (plain.known_part tables) (Plain-F.Loop ss ts)
      ∙ and-true (list_all (λ (b : Bool). b) (map (is_known tables) ss)) _ (all-mapped tables ss one) (all-mapped tables ts two)

  switch-known : (n : ℕ) (ss : List Plain) → are_known tables ss ≡ true → is_known tables (code.Switch n ss) ≡ true
  switch-known n ss one =
      ap (is_known tables) (sym (rolls-Switch n ss)) ∙ fold-roll-Plain Bool Bool (plain.known_step tables) (plain.known_part tables) (Plain-F.Switch n ss) ∙ all-mapped tables ss one

  known-turned : (before next : List Plain) (b : Body) → are_known tables before ≡ true → are_known tables next ≡ true → KnownBody b → KnownBody (turned before next b)
  unfolding turned
  known-turned before next b one two ok = record { code = known-last tables before (code.Loop (Writing.code b.writing) next) one (loop-known (Writing.code b.writing) next ok.code two); scope = ok.scope }

  known-switched : (n : ℕ) (before : List Plain) (b : Body) → are_known tables before ≡ true → KnownBody b → KnownBody (switched n before b)
  unfolding switched
  known-switched n before b one ok = record { code = known-last tables before (code.Switch n (Writing.code b.writing)) one (switch-known n (Writing.code b.writing) ok.code); scope = ok.scope }

  -- Full expressions: the temporaries that are found are of types that are there.

  found-typed : (p : Piece) → KnownPiece tables p → (k : ℕ) → are_typed tables (found_in p k) ≡ true
  found-typed p q k = Typed.typed (q.finds false) (record { next = k; made = [] }) refl

  keeps-cleared_one : (x : Full) (t : Temporary) → Keeps tables (cleared_one x t)
  unfolding cleared_one
  keeps-cleared_one x t = by t.in_branch
    where
      by : (b : Bool) → Keeps tables (λ w. if b then set (flag x t.local) (action.Number (pos 0)) w else w)
      by true = keeps-set tables (flag x t.local) (action.Number (pos 0)) refl
      by false = keeps-none tables

  keeps-cleared : (x : Full) (ts : List Temporary) → Keeps tables (cleared x ts)
  keeps-cleared x [] = keeps-none tables
  keeps-cleared x (t ∷ ts) = keeps-then tables (keeps-cleared_one x t) (keeps-cleared x ts)

  finish-known : (n i t : ℕ) → has_type tables t ≡ true → is_known tables (code.If n (code.Act (action.Finish t i) ∷ []) []) ≡ true
  finish-known n i t there =
      known-If tables n (code.Act (action.Finish t i) ∷ []) []
      ∙ and-true (list_all (λ (b : Bool). b) (map (is_known tables) (code.Act (action.Finish t i) ∷ []))) true
      (and-true (is_known tables (code.Act (action.Finish t i))) true (known-Act tables (action.Finish t i) ∙ there) refl) refl

  keeps-over_one : (x : Full) (t : Temporary) → has_type tables t.ty ≡ true → Keeps tables (over_one x t)
  unfolding over_one
  keeps-over_one x t there = by t.in_branch
    where
      by : (b : Bool) → Keeps tables (λ w. if b then put (code.If (flag x t.local) (code.Act (action.Finish t.ty t.local) ∷ []) []) w else act (action.Finish t.ty t.local) w)
      by true = keeps-put tables (code.If (flag x t.local) (code.Act (action.Finish t.ty t.local) ∷ []) []) (finish-known (flag x t.local) t.local t.ty there)
      by false = keeps-act tables (action.Finish t.ty t.local) there

  keeps-over : (x : Full) (ts : List Temporary) → are_typed tables ts ≡ true → Keeps tables (over x ts)
  keeps-over x [] ok = keeps-none tables
  keeps-over x (t ∷ ts) ok =
      let parts = both (has_type tables t.ty) (are_typed tables ts) ok in keeps-then tables (keeps-over x ts parts.1) (keeps-over_one x t parts.0)

  -- with whatever stands between the value and the ends
  keeps-around : {f : Writing → Writing} (n : ℕ) (p : Piece) → KnownPiece tables p → Keeps tables f → Keeps tables (λ w. left_behind n p w (f (entered n p w)))
  unfolding entered left_behind
  keeps-around n p q between = record {
    keeps = λ w ok.
        let x = full_at n w in
        Keeps.keeps (keeps-over x (found_in p w.next) (found-typed p q w.next)) _
        (between.keeps _ (Keeps.keeps (q.value x (behind_flags n p)) _ (Keeps.keeps (keeps-cleared x (found_in p w.next)) w ok)));
  }

  pub known-full : (p : Piece) (b : Body) → KnownPiece tables p → KnownBody b → KnownBody (full p b)
  unfolding full
  known-full p b q ok = known-on b (keeps-around 0 p q (keeps-none tables)) ok

  known-given : (p : Piece) (b : Body) → KnownPiece tables p → KnownBody b → KnownBody (given p b)
  unfolding given
  known-given p b q ok = known-on b (keeps-around 0 p q (keeps-used tables (behind_flags 0 p))) ok

  known-tested : (p : Piece) (b : Body) → KnownPiece tables p → KnownBody b → KnownBody (tested p b)
  unfolding tested
  known-tested p b q ok = known-on b (keeps-around 0 p q (keeps-set tables (behind_flags 0 p) (action.Truth (behind_flags 0 p)) refl)) ok

  -- Initialisers.

  abbrev pub KnownInitial : Initial → Type 0
  KnownInitial does_nothing = Unit {0}
  KnownInitial (fills a) = (n : ℕ) → plain.action_known tables (a n) ≡ true
  KnownInitial (lists f) = (t n m : ℕ) → has_type tables t ≡ true → Keeps tables (f t n m)
  KnownInitial gives = Unit {0}

  pub keeps-started : (initial : Initial) (p : Piece) (t n : ℕ) → has_type tables t ≡ true → KnownInitial initial → KnownPiece tables p → Keeps tables (started initial p t n)
  unfolding started
  keeps-started does_nothing p t n there known q = record { keeps = λ w ok. ok }
  keeps-started (fills a) p t n there known q = record { keeps = Keeps.keeps (keeps-act tables (a n) (known n)) }
  keeps-started (lists f) p t n there known q = record { keeps = Keeps.keeps (known t n (behind_flags (suc n) p) there) }
  keeps-started gives p t n there known q = record {
    keeps = Keeps.keeps (keeps-around (suc n) p q (keeps-act tables (action.First n (behind_flags (suc n) p)) refl));
  }

  known-held_too : (o : Option Open) (b : Body) → KnownHeld tables o → KnownBody b → KnownBody (held_too o b)
  unfolding held_too
  known-held_too None b there ok = ok
  known-held_too (Some x) b there ok = known-opened x.number x.ty b there ok

  pub known-declared : (i t : ℕ) (initial : Initial) (held : Option Open) (p : Piece) (b : Body) → has_type tables t ≡ true → KnownInitial initial → KnownHeld tables held
      → KnownPiece tables p → KnownBody b → KnownBody (declared i t initial held p b)
  unfolding declared
  known-declared i t initial held p b there known typed q ok =
      known-opened i t _ there (known-held_too held _ typed (known-on b (keeps-then tables (keeps-set tables 0 (action.Declare i t) there) (keeps-started initial p t 0 there known q)) ok))

  -- Statements.

  pub record KnownStep (s : Step) : Type 0 where
    pub piece : KnownPiece tables s.piece
    pub acts : (ways : Ways) (b : Body) → KnownBody b → KnownBody (s.act ways b)

  pub record KnownSteps (ss : List Step) : Type 0 where
    pub acts : (ways : Ways) (b : Body) → KnownBody b → KnownBody (in_order ss ways b)

  pub data MaybeKnown : Option Step → Type 0 where
    no_step : MaybeKnown None
    one_step : (s : Step) → KnownStep s → MaybeKnown (Some s)

  if-known : (n : ℕ) → is_known tables (code.If n [] (code.Break ∷ [])) ≡ true
  if-known n =
      known-If tables n [] (code.Break ∷ [])
      ∙ ap (λ b. b && true) (ap (is_known tables) (sym rolls-Break) ∙ fold-roll-Plain Bool Bool (plain.known_step tables) (plain.known_part tables) Plain-F.Break)

  known-held : {o : Option Step} (b : Body) → MaybeKnown o → KnownBody b → KnownBody (held o b)
  known-held b no_step ok = ok
  known-held b (one_step s k) ok = known-stated (code.If (behind_flags 0 s.piece) [] (code.Break ∷ [])) _ (if-known (behind_flags 0 s.piece)) (known-tested s.piece b k.piece ok)

  known-stepped : {o : Option Step} (b : Body) → MaybeKnown o → KnownBody b → KnownBody (stepped o b)
  known-stepped b no_step ok = ok
  known-stepped b (one_step s k) ok = known-full s.piece b k.piece ok

  known-turn : (s : Step) (b : Body) → KnownStep s → KnownBody b → KnownBody (turn s b)
  known-turn s b k ok = known-closed (length b.scope) _ (k.acts (inside_loop b) b ok)

  known-repeated : (how : LoopForm) (before test next : List Plain) (s : Step) (b : Body) → are_known tables before ≡ true → are_known tables test ≡ true → are_known tables next ≡ true
      → KnownStep s → KnownBody b → KnownBody (repeated how before test next s b)
  known-repeated form.While before test next s b one two three k ok = known-turned before next _ one three (known-turn s _ k (known-with_code test b two ok))
  known-repeated form.For before test next s b one two three k ok = known-turned before next _ one three (known-turn s _ k (known-with_code test b two ok))
  known-repeated form.Do before test next s b one two three k ok = known-turned before test _ one two (known-turn s b k ok)

  pub known-loop : {o p : Option Step} (how : LoopForm) (s : Step) (b : Body) → MaybeKnown o → MaybeKnown p → KnownStep s → KnownBody b → KnownBody (loop how o p s b)
  known-loop {o} {p} how s b q r k ok =
      let first = known-held (begun b) q (known-begun b ok) in
      let second = known-stepped (begun (held o (begun b))) r (known-begun (held o (begun b)) first) in
      known-repeated how (Writing.code b.writing) _ _ s _ ok.code first.code second.code k (known-begun (stepped p (begun (held o (begun b)))) second)

  known-or : {o : Option Step} (ways : Ways) (b : Body) → MaybeKnown o → KnownBody b → KnownBody (or_nothing o ways b)
  known-or ways b no_step ok = ok
  known-or ways b (one_step s k) ok = k.acts ways b ok

  pub known-choice : {o : Option Step} (c a : Step) (ways : Ways) (b : Body) → KnownStep c → KnownStep a → MaybeKnown o → KnownBody b → KnownBody (choice c a o ways b)
  known-choice c a ways b q k o ok =
      let t = known-tested c.piece b q.piece ok in
      let first = k.acts ways (begun (tested c.piece b)) (known-begun (tested c.piece b) t) in
      let other = begun (a.act ways (begun (tested c.piece b))) in
      let again = known-begun (a.act ways (begun (tested c.piece b))) first in
      let mark = length (Body.scope (tested c.piece b)) in
      known-taken_back mark (drop mark (Body.scope other)) _ (dropped mark (Body.scope other) again.scope)
      (known-chosen (behind_flags 0 c.piece) _ _ _ t.code first.code (known-or ways _ o (known-set_aside mark other again)))

  -- Labels of a switch, and what they pass.

  pub record KnownPass (s : Step) : Type 0 where
    pub label : (l : Plain) → s.label ≡ Some l → is_known tables l ≡ true
    pub opens : (xs : List Open) → have_types xs ≡ true → have_types (s.opens xs) ≡ true

  abbrev pub KnownPasses : List Step → Type 0
  KnownPasses [] = Unit {0}
  KnownPasses (s ∷ ss) = KnownPass s × KnownPasses ss

  keeps-there : (xs : List Open) → have_types xs ≡ true → Keeps tables (there xs)
  keeps-there [] ok = keeps-none tables
  keeps-there (x ∷ xs) ok =
      let parts = both (has_type tables x.ty) (have_types xs) ok in keeps-then tables (keeps-act tables (action.Declare x.number x.ty) parts.0) (keeps-there xs parts.1)

  break-known : is_known tables code.Break ≡ true
  break-known = ap (is_known tables) (sym rolls-Break) ∙ fold-roll-Plain Bool Bool (plain.known_step tables) (plain.known_part tables) Plain-F.Break

  known-passed_at : (l : Plain) (xs : List Open) (b : Body) → is_known tables l ≡ true → have_types xs ≡ true → KnownBody b → KnownBody (passed_at l xs b)
  unfolding passed_at
  known-passed_at l xs b one all ok = known-stated code.Break _ break-known (known-on (stated l b) (keeps-there xs all) (known-stated l b one ok))

  known-labelled : (o : Option Plain) (xs : List Open) (b : Body) → ((l : Plain) → o ≡ Some l → is_known tables l ≡ true) → have_types xs ≡ true → KnownBody b → KnownBody (labelled o xs b)
  known-labelled None xs b one all ok = ok
  known-labelled (Some l) xs b one all ok = known-passed_at l xs b (one l refl) all ok

  known-passing : (ss : List Step) (xs : List Open) (b : Body) → KnownPasses ss → have_types xs ≡ true → KnownBody b → KnownBody (passing ss xs b)
  known-passing [] xs b all types ok = ok
  known-passing (s ∷ ss) xs b all types ok =
      known-passing ss (s.opens xs) (labelled s.label xs b) all.1 (all.0.opens xs types) (known-labelled s.label xs b all.0.label types ok)

  known-selected : (n : ℕ) (ss : List Step) (b : Body) → KnownPasses ss → KnownBody b → KnownBody (selected n ss b)
  known-selected n ss b all ok = by (passes false ss [])
    where
      within : KnownBody (passing ss [] (begun b))
      within = known-passing ss [] (begun b) all refl (known-begun b ok)

      by : (t : Bool) → KnownBody (if t then switched n (Writing.code b.writing) (passing ss [] (begun b)) else with_code (Writing.code b.writing) (passing ss [] (begun b)))
      by true = known-switched n (Writing.code b.writing) (passing ss [] (begun b)) ok.code within
      by false = known-with_code (Writing.code b.writing) (passing ss [] (begun b)) ok.code within

  pub known-selection : (e : Step) (ss : List Step) (ways : Ways) (b : Body) → KnownStep e → KnownSteps ss → KnownPasses ss → KnownBody b → KnownBody (selection e ss ways b)
  known-selection e ss ways b q all passed ok =
      let v = selected (behind_flags 0 e.piece) ss (given e.piece b) in
      let known = known-selected (behind_flags 0 e.piece) ss (given e.piece b) passed (known-given e.piece b q.piece ok) in
      let within = all.acts (inside_switch ways (begun v)) (begun v) (known-begun v known) in
      known-switched (behind_flags 0 e.piece) _ _ known.code (known-closed (length (Body.scope (begun v))) _ within)

  return-known : (r : Option ℕ) → is_known tables (code.Return r) ≡ true
  return-known r = ap (is_known tables) (sym (rolls-Return r)) ∙ fold-roll-Plain Bool Bool (plain.known_step tables) (plain.known_part tables) (Plain-F.Return r)

  pub known-returned : {o : Option Step} (b : Body) → MaybeKnown o → KnownBody b → KnownBody (returned o b)
  known-returned b no_step ok = known-stated (code.Return None) _ (return-known None) (known-left 0 b ok)
  known-returned b (one_step s k) ok = known-stated (code.Return (Some (behind_flags 0 s.piece))) _ (return-known _) (known-left 0 _ (known-given s.piece b k.piece ok))
