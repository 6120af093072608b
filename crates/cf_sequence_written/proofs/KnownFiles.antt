-- The numbers of types in what is written for statements and functions are there in the tables.
use Rattle.std.proofs.Common.{◌≡◌, ℕ, suc, Bool, true, ◌&&◌, List, [], ◌∷◌, map, length, Some, None, slice_get, refl, ap, sym, subst, ◌∙◌}
use Rattle.std.specs.List.{list_all}
use Rattle.std.specs.declared.alloc.Global.{Global}
use Rattle.cf_base.proofs.Tests.{both}
use Rattle.cf_types.specs.declared.ty.Ty.{Ty}
use Rattle.cf_types.specs.Table.{Names}
use Rattle.cf_core.specs.declared.node.Core.{Core as Node, roll-Core, ind-Core}
use Rattle.cf_core.specs.declared.node.Core.TheOpen.{Core-F}
use Rattle.cf_core.specs.declared.node.Core.TheFolds.{fold-roll-Core, map-Core}
use Rattle.cf_core.specs.declared.node.PartStart.{PartStart, fold-PartStart}
use Rattle.cf_core.specs.declared.unit.CoreFn.{CoreFn}
use Rattle.cf_core.specs.FromTypes.{Tables}
use Rattle.cf_core.specs.FromUnit.{Unit as CoreUnit, IsValid, tables_of}
use Rattle.cf_core.specs.Numbers as numbers
use Rattle.cf_core.specs.Numbers.{has_type, all_of, known_step, known_part, are_known, role_known}
use Rattle.cf_plain.specs.declared.statement.Plain.TheOpen.{Plain-F}
use Rattle.cf_plain.specs.declared.statement.Plain.TheFolds.{fold-roll-Plain}
use Rattle.cf_plain.specs.declared.statement.Plain.TheVariants as code
use Rattle.cf_plain.specs.declared.statement.Plain.TheVariants.{rolls-Case, rolls-Default, rolls-Break, rolls-Continue}
use Rattle.cf_plain.specs.Numbers as plain
use Rattle.cf_sequence_expr.specs.Pieces.{piece}
use Rattle.cf_sequence_stmt.specs.declared.body.Body.{Body}
use Rattle.cf_sequence_stmt.specs.declared.body.Ways.{Ways}
use Rattle.cf_sequence_stmt.specs.Steps.{Step, step, step_step, inside_loop}
use Rattle.cf_sequence_stmt.specs.Steps as steps
use Rattle.cf_sequence_stmt.proofs.Pieces.{same_piece}
use Rattle.cf_sequence_fn.specs.Functions.{opens_from, begun, written_body, written_function, written_object}
use Rattle.cf_sequence_written.proofs.Known.{is_known, KnownPiece, and-true}
use Rattle.cf_sequence_written.proofs.KnownPieces.{known-piece}
use Rattle.cf_sequence_written.proofs.Objects.{objects-known}
use Rattle.cf_sequence_written.proofs.KnownPassed.{known-passes}
use Rattle.cf_sequence_written.proofs.Held.{held-known}
use Rattle.cf_sequence_written.proofs.KnownLists.{initial-known}
use Rattle.cf_sequence_written.proofs.KnownSteps.{have_types, KnownBody, KnownStep, KnownSteps, no_step, one_step, known-left, known-closed, known-stated, known-declared, known-full, known-returned, known-loop, known-choice, known-selection}

module _ (tables : Tables) (names : (i : ℕ) (v : Ty) → slice_get tables.types.types i ≡ Some v → Names tables.types.funs i (length tables.types.funs) v) where
  -- what was written stays known
  pub record KnownActs (s : Step) : Type 0 where
    pub acts : (ways : Ways) (b : Body) → KnownBody tables b → KnownBody tables (s.act ways b)

  abbrev IsKnown : Node → Type 0
  IsKnown n = are_known tables n ≡ true → KnownActs (step tables.types n)

  abbrev Child : Type 0
  Child = (n : Node) × IsKnown n

  abbrev PartChild : Type 0
  PartChild = (p : PartStart) × Unit {0}

  abbrev node_of : Child → Node
  node_of c = c.0

  abbrev part_of : PartChild → PartStart
  part_of c = c.0

  abbrev shape : Core-F Child PartChild → Core-F Node PartStart
  shape y = map-Core _ _ _ _ node_of part_of y

  abbrev part_known : PartStart → Bool
  part_known = fold-PartStart Bool Bool (known_step tables) (known_part tables)

  abbrev part_step_of : PartStart → Step
  part_step_of = fold-PartStart Step Step (step_step tables.types) (steps.part_step tables.types)

  abbrev known_of : Child → Bool
  known_of c = are_known tables c.0

  abbrev all_known : List Child → Bool
  all_known es = all_of tables (map (are_known tables) (map node_of es))

  whole : (c : Child) → known_of c ≡ true → KnownStep tables (step tables.types c.0)
  whole c ok = record {
    piece = subst (KnownPiece tables) (sym (same_piece tables.types c.0)) (known-piece tables names c.0 ok);
    acts = KnownActs.acts (c.1 ok);
  }

  row : (es : List Child) → all_known es ≡ true → KnownSteps tables (map (step tables.types) (map node_of es))
  row [] ok = record { acts = λ ways b k. k }
  row (e ∷ es) ok =
      let parts = both (known_of e) (all_known es) ok in
      record { acts = λ ways b k. KnownSteps.acts (row es parts.1) ways _ (KnownActs.acts (e.1 parts.0) ways b k) }

  abbrev IsLayer : Core-F Node PartStart → Type 0
  IsLayer x = known_step tables (map-Core _ _ _ _ (are_known tables) part_known x) ≡ true
      → KnownActs (step_step tables.types (map-Core _ _ _ _ (step tables.types) part_step_of x))

  layer : (y : Core-F Child PartChild) → IsLayer (shape y)
  layer (Core-F.Full at e) ok = record { acts = λ ways b k. known-full tables (step tables.types e.0).piece b (whole e ok).piece k }
  layer (Core-F.Block at es) ok = record { acts = λ ways b k. known-closed tables (length b.scope) _ (KnownSteps.acts (row es ok) ways b k) }
  layer (Core-F.Sequence at es) ok = record { acts = KnownSteps.acts (row es ok) }
  layer (Core-F.Declare at i t e) ok =
      let parts = both (has_type tables t) (known_of e) ok in
      record { acts = λ ways b k. known-declared tables i t (step tables.types e.0).initial (step tables.types e.0).held (step tables.types e.0).piece b parts.0 (initial-known tables names e.0 parts.1) (held-known tables e.0 parts.1) (whole e parts.1).piece k }
  layer (Core-F.If at c a None) ok =
      let parts = both (known_of c && known_of a) true ok in
      let two = both (known_of c) (known_of a) parts.0 in
      record { acts = λ ways b k. known-choice tables (step tables.types c.0) (step tables.types a.0) ways b (whole c two.0) (whole a two.1) no_step k }
  layer (Core-F.If at c a (Some o)) ok =
      let parts = both (known_of c && known_of a) (known_of o) ok in
      let two = both (known_of c) (known_of a) parts.0 in
      record { acts = λ ways b k. known-choice tables (step tables.types c.0) (step tables.types a.0) ways b (whole c two.0) (whole a two.1) (one_step _ (whole o parts.1)) k }
  layer (Core-F.Loop at how None None s) ok = record { acts = λ ways b k. known-loop tables how (step tables.types s.0) b no_step no_step (whole s ok) k }
  layer (Core-F.Loop at how None (Some e) s) ok =
      let parts = both (known_of e) (known_of s) ok in
      record { acts = λ ways b k. known-loop tables how (step tables.types s.0) b no_step (one_step _ (whole e parts.0)) (whole s parts.1) k }
  layer (Core-F.Loop at how (Some c) None s) ok =
      let parts = both (known_of c && true) (known_of s) ok in
      record { acts = λ ways b k. known-loop tables how (step tables.types s.0) b (one_step _ (whole c (both (known_of c) true parts.0).0)) no_step (whole s parts.1) k }
  layer (Core-F.Loop at how (Some c) (Some e) s) ok =
      let parts = both (known_of c && known_of e) (known_of s) ok in
      let two = both (known_of c) (known_of e) parts.0 in
      record { acts = λ ways b k. known-loop tables how (step tables.types s.0) b (one_step _ (whole c two.0)) (one_step _ (whole e two.1)) (whole s parts.1) k }
  layer (Core-F.Switch at e es) ok =
      let parts = both (known_of e) (all_known es) ok in
      record { acts = λ ways b k. known-selection tables (step tables.types e.0) _ ways b (whole e parts.0) (row es parts.1) (known-passes tables (map node_of es) parts.1) k }
  layer (Core-F.Case at z) ok = record {
    acts = λ ways b k.
        known-stated tables (code.Case z) b
        (ap (is_known tables) (sym (rolls-Case z)) ∙ fold-roll-Plain Bool Bool (plain.known_step tables) (plain.known_part tables) (Plain-F.Case z)) k;
  }
  layer (Core-F.Default at) ok = record {
    acts = λ ways b k.
        known-stated tables code.Default b
        (ap (is_known tables) (sym rolls-Default) ∙ fold-roll-Plain Bool Bool (plain.known_step tables) (plain.known_part tables) Plain-F.Default) k;
  }
  layer (Core-F.Break at) ok = record {
    acts = λ ways b k.
        known-stated tables code.Break _
        (ap (is_known tables) (sym rolls-Break) ∙ fold-roll-Plain Bool Bool (plain.known_step tables) (plain.known_part tables) Plain-F.Break)
        (known-left tables ways.breaks b k);
  }
  layer (Core-F.Continue at) ok = record {
    acts = λ ways b k.
        known-stated tables code.Continue _
        (ap (is_known tables) (sym rolls-Continue) ∙ fold-roll-Plain Bool Bool (plain.known_step tables) (plain.known_part tables) Plain-F.Continue)
        (known-left tables ways.continues b k);
  }
  layer (Core-F.Return at None) ok = record { acts = λ ways b k. known-returned tables b no_step k }
  layer (Core-F.Return at (Some e)) ok = record { acts = λ ways b k. known-returned tables b (one_step _ (whole e ok)) k }
  layer y ok = record { acts = λ ways b k. k }

  rolled : (x : Core-F Node PartStart) → IsLayer x → IsKnown (roll-Core x)
  rolled x p ok =
      subst KnownActs (sym (fold-roll-Core Step Step (step_step tables.types) (steps.part_step tables.types) x))
      (p (sym (fold-roll-Core Bool Bool (known_step tables) (known_part tables) x) ∙ ok))

  known-statement : (n : Node) → are_known tables n ≡ true → KnownActs (step tables.types n)
  known-statement = ind-Core IsKnown (λ p. Unit {0}) (λ x y is. subst (λ z. IsKnown (roll-Core z)) is (rolled (shape y) (layer y))) (λ x y is. tt)

  -- Functions.

  parameters-open : (k : ℕ) (ts : List ℕ) → list_all (has_type tables) ts ≡ true → have_types tables (opens_from k ts) ≡ true
  parameters-open k [] ok = refl
  parameters-open k (t ∷ ts) ok =
      let parts = both (has_type tables t) (list_all (has_type tables) ts) ok in and-true (has_type tables t) _ parts.0 (parameters-open (suc k) ts parts.1)

  body-known : (alloc : Global) (f : CoreFn) → list_all (has_type tables) f.params ≡ true → are_known tables f.body ≡ true → KnownBody tables (written_body tables.types alloc f)
  unfolding written_body
  body-known alloc f params body =
      let start : Body = begun alloc f in
      known-left tables 0 _ (KnownActs.acts (known-statement f.body body) (inside_loop start) start (record { code = refl; scope = parameters-open 0 f.params params }))

  function-known : (alloc : Global) (f : CoreFn) → numbers.function_known tables f ≡ true → plain.function_known tables (written_function tables.types alloc f) ≡ true
  unfolding written_function
  function-known alloc f ok =
      let types = list_all (has_type tables) in
      let one = both (role_known tables f.role && has_type tables f.result && types f.params && types f.locals) (are_known tables f.body) ok in
      let two = both (role_known tables f.role && has_type tables f.result && types f.params) (types f.locals) one.0 in
      let three = both (role_known tables f.role && has_type tables f.result) (types f.params) two.0 in
      and-true (role_known tables f.role && has_type tables f.result && types f.params && types ((piece tables.types f.body).locals f.locals)) _
      (and-true (role_known tables f.role && has_type tables f.result && types f.params) _ two.0 (KnownPiece.locals (known-piece tables names f.body one.1) f.locals two.1))
      (KnownBody.code (body-known alloc f three.1 one.1))

  pub functions-known : (alloc : Global) (fs : List CoreFn) → list_all (numbers.function_known tables) fs ≡ true
      → list_all (plain.function_known tables) (map (written_function tables.types alloc) fs) ≡ true
  functions-known alloc [] ok = refl
  functions-known alloc (f ∷ fs) ok =
      let parts = both (numbers.function_known tables f) (list_all (numbers.function_known tables) fs) ok in
      and-true (plain.function_known tables (written_function tables.types alloc f)) _ (function-known alloc f parts.0) (functions-known alloc fs parts.1)

pub file-known : (alloc : Global) (unit : CoreUnit) → IsValid unit → list_all (plain.function_known (tables_of unit)) (map (written_function unit.types alloc) unit.functions) ≡ true
file-known alloc unit valid = functions-known (tables_of unit) valid.names alloc unit.functions valid.functions

pub file-objects-known : (alloc : Global) (unit : CoreUnit) → IsValid unit → list_all (plain.static_known (tables_of unit)) (map (written_object unit.types alloc) unit.statics) ≡ true
file-objects-known alloc unit valid = objects-known (tables_of unit) valid.names alloc unit.statics valid.statics
