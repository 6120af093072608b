-- The numbers of types in what is written are there in the tables: statements, and expressions.
use Rattle.std.proofs.Common.{◌≡◌, ℕ, zero, suc, ◌+◌, ◌<◌, Bool, true, ◌&&◌, List, [], ◌∷◌, ◌++◌, map, length, Option, Some, None, slice_get, All, refl, ap, sym, ◌∙◌, arith}
use Rattle.std.specs.List.{list_all}
use Rattle.std.specs.Prelude.{pos}
use Rattle.std.proofs.lemmas.List.Folds.{list_all-append}
use Rattle.std.proofs.lemmas.Bool.{ltb-true, lt-ltb}
use Rattle.cf_base.proofs.Tests.{both}
use Rattle.cf_types.specs.declared.ty.Ty.{Ty}
use Rattle.cf_types.specs.declared.ty.Ty.TheVariants as ty
use Rattle.cf_types.specs.declared.ty.Fun.{Fun}
use Rattle.cf_types.specs.Table.{Names, parts_of_fun}
use Rattle.cf_classes.specs.TypeTree.{params_of, fun_of}
use Rattle.cf_core.specs.declared.node.Change.{Change}
use Rattle.cf_core.specs.FromTypes.{Tables}
use Rattle.cf_core.specs.Numbers.{has_type}
use Rattle.cf_plain.specs.declared.action.Action.{Action}
use Rattle.cf_plain.specs.declared.action.Action.TheVariants as action
use Rattle.cf_plain.specs.declared.statement.Plain.{Plain, fold-Plain}
use Rattle.cf_plain.specs.declared.statement.Plain.TheOpen.{Plain-F}
use Rattle.cf_plain.specs.declared.statement.Plain.TheFolds.{fold-roll-Plain}
use Rattle.cf_plain.specs.declared.statement.Plain.TheVariants as code
use Rattle.cf_plain.specs.declared.statement.Plain.TheVariants.{rolls-Act, rolls-Set, rolls-If}
use Rattle.cf_plain.specs.Numbers.{action_known, known_step, known_part, are_known}
use Rattle.cf_sequence_expr.specs.declared.temporaries.Found.{Found}
use Rattle.cf_sequence_expr.specs.declared.temporaries.Temporary.{Temporary}
use Rattle.cf_sequence_expr.specs.declared.writing.Full.{Full}
use Rattle.cf_sequence_expr.specs.declared.writing.Writing.{Writing}
use Rattle.cf_sequence_expr.specs.Finds.{skipped, listed}
use Rattle.cf_sequence_expr.specs.Writes.{flag, put, set, act, used, emptied, branched, within, passed}
use Rattle.cf_sequence_expr.specs.Parameters.{parameters_at, counted}
use Rattle.cf_sequence_expr.specs.Pieces as pieces
use Rattle.cf_sequence_expr.specs.Pieces.{Piece, left, two, truth, all_values, updated, stepped, stepped_behind, argument, arguments, called, callee, pointed, held, static_held, temporary, find_all, find_temporary}

pub and-true : (a b : Bool) → a ≡ true → b ≡ true → a && b ≡ true
and-true a b p q = ap (λ c. c && b) p ∙ q

module _ (tables : Tables) where
  abbrev pub is_known : Plain → Bool
  is_known = fold-Plain Bool Bool (known_step tables) (known_part tables)

  pub known-Act : (a : Action) → is_known (code.Act a) ≡ action_known tables a
  known-Act a = ap is_known (sym (rolls-Act a)) ∙ fold-roll-Plain Bool Bool (known_step tables) (known_part tables) (Plain-F.Act a)

  known-Set : (n : ℕ) (a : Action) → is_known (code.Set n a) ≡ action_known tables a
  known-Set n a = ap is_known (sym (rolls-Set n a)) ∙ fold-roll-Plain Bool Bool (known_step tables) (known_part tables) (Plain-F.Set n a)

  pub known-If : (n : ℕ) (ss ts : List Plain) → is_known (code.If n ss ts) ≡ list_all (λ (b : Bool). b) (map is_known ss) && list_all (λ (b : Bool). b) (map is_known ts)
  known-If n ss ts = ap is_known (sym (rolls-If n ss ts)) ∙ fold-roll-Plain Bool Bool (known_step tables) (known_part tables) (Plain-F.If n ss ts)

  pub all-mapped : (ss : List Plain) → are_known tables ss ≡ true → list_all (λ (b : Bool). b) (map is_known ss) ≡ true
  all-mapped [] ok = refl
  all-mapped (s ∷ ss) ok =
      let parts = both (is_known s) (are_known tables ss) ok in and-true (is_known s) _ parts.0 (all-mapped ss parts.1)

  pub known-last : (ss : List Plain) (s : Plain) → are_known tables ss ≡ true → is_known s ≡ true → are_known tables (ss ++ s ∷ []) ≡ true
  known-last ss s ok one = list_all-append is_known ss (s ∷ []) ∙ and-true (are_known tables ss) _ ok (and-true (is_known s) true one refl)

  -- what is written so far stays known
  pub record Keeps (f : Writing → Writing) : Type 0 where
    pub keeps : (w : Writing) → are_known tables w.code ≡ true → are_known tables (Writing.code (f w)) ≡ true

  pub keeps-none : Keeps (λ w. w)
  keeps-none = record { keeps = λ w ok. ok }

  pub keeps-then : {f g : Writing → Writing} → Keeps f → Keeps g → Keeps (λ w. g (f w))
  keeps-then {f} p q = record { keeps = λ w ok. q.keeps (f w) (p.keeps w ok) }

  pub keeps-put : (s : Plain) → is_known s ≡ true → Keeps (put s)
  unfolding put
  keeps-put s one = record { keeps = λ w ok. known-last w.code s ok one }

  pub keeps-set : (n : ℕ) (a : Action) → action_known tables a ≡ true → Keeps (set n a)
  unfolding set
  keeps-set n a ok = record { keeps = Keeps.keeps (keeps-put (code.Set n a) (known-Set n a ∙ ok)) }

  pub keeps-act : (a : Action) → action_known tables a ≡ true → Keeps (act a)
  unfolding act
  keeps-act a ok = record { keeps = Keeps.keeps (keeps-put (code.Act a) (known-Act a ∙ ok)) }

  pub keeps-used : (n : ℕ) → Keeps (used n)
  unfolding used
  keeps-used n = record { keeps = Keeps.keeps (keeps-act (action.Truth n) refl) }

  pub keeps-passed : (count : ℕ) → Keeps (passed count)
  unfolding passed
  keeps-passed count = record { keeps = λ w ok. ok }

  pub emptied-known : (w : Writing) → are_known tables (Writing.code (emptied w)) ≡ true
  unfolding emptied
  emptied-known w = refl

  pub branched-known : (n : ℕ) (before chosen : List Plain) (w : Writing) → are_known tables before ≡ true → are_known tables chosen ≡ true → are_known tables w.code ≡ true
      → are_known tables (Writing.code (branched n before chosen w)) ≡ true
  unfolding branched
  branched-known n before chosen w ok one two =
      known-last before (code.If n chosen w.code) ok (known-If n chosen w.code ∙ and-true (list_all (λ (b : Bool). b) (map is_known chosen)) _ (all-mapped chosen one) (all-mapped w.code two))

  pub keeps-within : {f g : Writing → Writing} (n : ℕ) → Keeps f → Keeps g → Keeps (within n f g)
  keeps-within {f} {g} n p q = record {
    keeps = λ w ok.
        let first = f (emptied w) in
        branched-known n w.code (Writing.code first) (g (emptied first)) ok (p.keeps (emptied w) (emptied-known w)) (q.keeps (emptied first) (emptied-known first));
  }

  -- Temporaries.

  abbrev pub are_typed : List Temporary → Bool
  are_typed ts = list_all (λ (t : Temporary). has_type tables t.ty) ts

  -- the types of what is found are there
  pub record Typed (f : Found → Found) : Type 0 where
    pub typed : (x : Found) → are_typed x.made ≡ true → are_typed (Found.made (f x)) ≡ true

  pub typed-none : Typed (λ x. x)
  typed-none = record { typed = λ x ok. ok }

  pub typed-then : {f g : Found → Found} → Typed f → Typed g → Typed (λ x. g (f x))
  typed-then {f} p q = record { typed = λ x ok. q.typed (f x) (p.typed x ok) }

  pub typed-skipped : (count : ℕ) → Typed (skipped count)
  unfolding skipped
  typed-skipped count = record { typed = λ x ok. ok }

  typed-listed : (i t : ℕ) (b : Bool) → has_type tables t ≡ true → Typed (listed i t b)
  unfolding listed
  typed-listed i t b there = record {
    typed = λ x ok.
        list_all-append (λ (t : Temporary). has_type tables t.ty) x.made (record { local = i; ty = t; in_branch = b } ∷ [])
        ∙ and-true (are_typed x.made) _ ok (and-true (has_type tables t) true there refl);
  }

  -- Expressions.

  pub record KnownPiece (p : Piece) : Type 0 where
    pub value : (x : Full) (n : ℕ) → Keeps (p.value x n)
    pub locals : (l : List ℕ) → list_all (has_type tables) l ≡ true → list_all (has_type tables) (p.locals l) ≡ true
    pub finds : (b : Bool) → Typed (p.finds b)

  keeps-left : {p : Piece} (x : Full) (n : ℕ) → KnownPiece p → Keeps (left p x n)
  unfolding left
  keeps-left x n p = record { keeps = Keeps.keeps (keeps-then (p.value x n) (keeps-used n)) }

  pub keeps-two : {p q : Piece} (x : Full) (n : ℕ) → KnownPiece p → KnownPiece q → Keeps (two p q x n)
  keeps-two x n p q = keeps-then (keeps-left x n p) (q.value x (suc n))

  pub keeps-truth : {p : Piece} (x : Full) (n : ℕ) → KnownPiece p → Keeps (truth p x n)
  unfolding truth
  keeps-truth x n p = record { keeps = Keeps.keeps (keeps-then (p.value x n) (keeps-set n (action.Truth n) refl)) }

  pub keeps-updated : (c : Change) (n : ℕ) → Keeps (updated c n)
  unfolding updated
  keeps-updated c n = record {
    keeps = Keeps.keeps (keeps-then (keeps-then (keeps-then (keeps-used (suc n)) (keeps-set (suc (suc n)) (action.Read n) refl)) (keeps-set (suc n) (action.Changed c (suc (suc n)) (suc n)) refl))
        (keeps-act (action.Store n (suc n)) refl));
  }

  pub keeps-stepped : (c : Change) (n : ℕ) → Keeps (stepped c n)
  unfolding stepped
  keeps-stepped c n = record {
    keeps = Keeps.keeps (keeps-then (keeps-then (keeps-then (keeps-set (suc n) (action.Read n) refl) (keeps-set (suc (suc n)) (action.Number (pos 1)) refl))
        (keeps-set (suc n) (action.Changed c (suc n) (suc (suc n))) refl)) (keeps-act (action.Store n (suc n)) refl));
  }

  pub keeps-stepped_behind : (c : Change) (n : ℕ) → Keeps (stepped_behind c n)
  unfolding stepped_behind
  keeps-stepped_behind c n = record {
    keeps = Keeps.keeps (keeps-then (keeps-then (keeps-then (keeps-set n (action.Read (suc n)) refl) (keeps-set (suc (suc n)) (action.Number (pos 1)) refl))
        (keeps-set (suc (suc n)) (action.Changed c n (suc (suc n))) refl)) (keeps-act (action.Store (suc n) (suc (suc n))) refl));
  }

  -- Arguments and calls.

  pub known-at : (ts : List ℕ) (j t : ℕ) → slice_get ts j ≡ Some t → list_all (has_type tables) ts ≡ true → has_type tables t ≡ true
  known-at [] j t e ok = cc
  known-at (u ∷ ts) zero t e ok = let same : u ≡ t = cc in ap (has_type tables) (sym same) ∙ (both (has_type tables u) (list_all (has_type tables) ts) ok).0
  known-at (u ∷ ts) (suc j) t e ok = known-at ts j t e (both (has_type tables u) (list_all (has_type tables) ts) ok).1

  keeps-argument : {p : Piece} (o : Option ℕ) (x : Full) (n i : ℕ) → ((t : ℕ) → o ≡ Some t → has_type tables t ≡ true) → KnownPiece p → Keeps (argument o p x n i)
  unfolding argument
  keeps-argument {p} None x n i known one = record { keeps = Keeps.keeps (keeps-passed (length (p.locals []))) }
  keeps-argument {p} (Some t) x n i known one = record {
    keeps = Keeps.keeps (keeps-then (keeps-then (keeps-set n (action.Declare i t) (known t refl)) (one.value x (suc n))) (keeps-act (action.First n (suc n)) refl));
  }

  -- a reference's temporary
  pub keeps-held : {p : Piece} (i t : ℕ) (x : Full) (n : ℕ) → has_type tables t ≡ true → KnownPiece p → Keeps (held i t p x n)
  unfolding held
  keeps-held {p} i t x n there one = record {
    keeps = Keeps.keeps
        (keeps-then (keeps-then (keeps-then (keeps-set (suc n) (action.Declare i t) there) (keeps-set n (action.Local i) refl)) (one.value x (suc (suc n))))
        (keeps-act (action.First (suc n) (suc (suc n))) refl));
  }

  -- a static reference's
  pub keeps-static_held : {p : Piece} (name : List ℕ) (x : Full) (n : ℕ) → KnownPiece p → Keeps (static_held name p x n)
  unfolding static_held
  keeps-static_held {p} name x n one = record {
    keeps = Keeps.keeps (keeps-then (keeps-then (one.value x (suc n)) (keeps-set n (action.FinishStatic name) refl)) (keeps-act (action.First n (suc n)) refl));
  }

  -- that of a full expression
  pub keeps-temporary : {p : Piece} (t : ℕ) (x : Full) (n : ℕ) → has_type tables t ≡ true → KnownPiece p → Keeps (temporary t p x n)
  unfolding temporary
  keeps-temporary {p} t x n there one = record {
    keeps = λ w ok.
        let before = keeps-then (keeps-then (keeps-passed 1) (keeps-set (suc n) (action.Declare w.next t) there)) (keeps-set n (action.Local w.next) refl) in
        let behind = keeps-then (keeps-act (action.First (suc n) (suc (suc n))) refl) (keeps-set (flag x w.next) (action.Number (pos 1)) refl) in
        Keeps.keeps behind _ (Keeps.keeps (one.value x (suc (suc n))) _ (before.keeps w ok));
  }

  pub typed-temporary : {p : Piece} (t : ℕ) (b : Bool) → has_type tables t ≡ true → KnownPiece p → Typed (find_temporary t p b)
  typed-temporary t b there one = record {
    typed = λ x ok. Typed.typed (typed-listed x.next t b there) _ (Typed.typed (typed-then (typed-skipped 1) (one.finds b)) x ok);
  }

  pub record KnownAll (ps : List Piece) : Type 0 where
    pub values : (x : Full) (n : ℕ) → Keeps (all_values ps x n)
    pub arguments : (ts : List ℕ) → list_all (has_type tables) ts ≡ true → (j : ℕ) (x : Full) (n k : ℕ) → Keeps (arguments ts j ps x n k)
    pub locals : (l : List ℕ) → list_all (has_type tables) l ≡ true → list_all (has_type tables) (pieces.in_all ps l) ≡ true
    pub finds : (b : Bool) → Typed (find_all ps b)

  pub known-none : KnownAll []
  known-none = record { values = λ x n. keeps-none; arguments = λ ts ok j x n k. keeps-none; locals = λ l ok. ok; finds = λ b. typed-none }

  pub known-more : {p : Piece} {ps : List Piece} → KnownPiece p → KnownAll ps → KnownAll (p ∷ ps)
  known-more {p} {ps} one all = record {
    values = λ x n. keeps-then (one.value x n) (all.values x n);
    arguments = λ ts ok j x n k.
        keeps-then (keeps-argument (slice_get ts j) x n (k + j) (λ t e. known-at ts j t e ok) one) (all.arguments ts ok (suc j) x n k);
    locals = λ l ok. all.locals (p.locals l) (one.locals l ok);
    finds = λ b. typed-then (one.finds b) (all.finds b);
  }

  pub keeps-called : {ps : List Piece} (name : List ℕ) (t : ℕ) (ts : List ℕ) (x : Full) (n : ℕ) → has_type tables t ≡ true → list_all (has_type tables) ts ≡ true → KnownAll ps
      → Keeps (called name t ts ps x n)
  unfolding called
  keeps-called {ps} name t ts x n there types all = record {
    keeps = λ w ok.
        let before = keeps-then (keeps-act (action.Function name t) there) (keeps-passed (length ts)) in
        Keeps.keeps (keeps-set n (action.Call name t None (counted w.next (length ts)) None) there) _
        (Keeps.keeps (all.arguments ts types 0 x n w.next) _ (before.keeps w ok));
  }

  pub keeps-pointed : {p : Piece} {ps : List Piece} (t : ℕ) (ts : List ℕ) (x : Full) (n : ℕ) → has_type tables t ≡ true → list_all (has_type tables) ts ≡ true → KnownPiece p → KnownAll ps
      → Keeps (λ w. pointed t ts ps x n w.next (callee ts p x n w))
  unfolding callee pointed
  keeps-pointed {p} {ps} t ts x n there types one all = record {
    keeps = λ w ok.
        let before = keeps-then (keeps-then (keeps-passed (length ts)) (one.value x n)) (keeps-used n) in
        Keeps.keeps (keeps-set n (action.PointerCall None n t (counted w.next (length ts)) None) there) _
        (Keeps.keeps (all.arguments ts types 0 x (suc n) w.next) _ (before.keeps w ok));
  }

  module _ (names : (i : ℕ) (v : Ty) → slice_get tables.types.types i ≡ Some v → Names tables.types.funs i (length tables.types.funs) v) where
    below-known : (t : ℕ) → has_type tables t ≡ true → (us : List ℕ) → All (λ u. u < t) us → list_all (has_type tables) us ≡ true
    below-known t there [] all = refl
    below-known t there (u ∷ us) all =
        let less : u < t = all 0 u (omega arith) in
        let last : t < length tables.types.types = ltb-true t (length tables.types.types) there in
        and-true (has_type tables u) _ (lt-ltb u (length tables.types.types) (omega (arith, less, last)))
        (below-known t there us (λ i d within. all (suc i) d (omega (arith, within))))

    of-fun : (t : ℕ) → has_type tables t ≡ true → (o : Option Fun) → All (λ u. u < t) (parts_of_fun o) → list_all (has_type tables) (params_of o) ≡ true
    of-fun t there None all = refl
    of-fun t there (Some f) all = below-known t there f.params (λ i d within. all (suc i) d (omega (arith, within)))

    of-entry : (t : ℕ) → has_type tables t ≡ true → (o : Option Ty) → slice_get tables.types.types t ≡ o → list_all (has_type tables) (params_of (fun_of tables.types o)) ≡ true
    of-entry t there None h = refl
    of-entry t there (Some (ty.Fun f)) h = of-fun t there (slice_get tables.types.funs f) (names t (ty.Fun f) h).parts_known
    of-entry t there (Some v) h = refl

    pub parameters-known : (t : ℕ) → has_type tables t ≡ true → list_all (has_type tables) (parameters_at tables.types t) ≡ true
    parameters-known t there = of-entry t there (slice_get tables.types.types t) refl

    pub own-known : (t : ℕ) → has_type tables t ≡ true → (l : List ℕ) → list_all (has_type tables) l ≡ true → list_all (has_type tables) (l ++ parameters_at tables.types t) ≡ true
    own-known t there l ok = list_all-append (has_type tables) l (parameters_at tables.types t) ∙ and-true (list_all (has_type tables) l) _ ok (parameters-known t there)
