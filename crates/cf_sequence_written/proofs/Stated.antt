-- What is written for a built statement is the definition's.
use Rattle.std.proofs.Common.{◌≡◌, ℕ, Bool, true, ◌&&◌, ◌||◌, List, [], ◌∷◌, map, length, Option, Some, None, refl, ap, sym, subst, ◌∙◌}
use Rattle.std.specs.Prelude.{false, nat_le}
use Rattle.cf_base.proofs.Tests.{both}
use Rattle.cf_classes.specs.declared.class.MemberRef.{MemberRef}
use Rattle.cf_core.specs.declared.node.Core.{Core as Node, roll-Core, ind-Core}
use Rattle.cf_core.specs.declared.node.Core.TheOpen.{Core-F}
use Rattle.cf_core.specs.declared.node.Core.TheFolds.{fold-roll-Core, map-Core}
use Rattle.cf_core.specs.declared.node.PartStart.{PartStart, fold-PartStart}
use Rattle.cf_core.specs.declared.operators.LoopForm.{LoopForm}
use Rattle.cf_core.specs.Types.{Name, parameters}
use Rattle.cf_core.specs.Core as core
use Rattle.cf_core.specs.Core.{Core, Cores, MaybeCore, local_temporary, absent, given}
use Rattle.cf_core.specs.FromTypes.{Tables, type_of}
use Rattle.cf_core.specs.View.{Started, core_step, started_step, core_of, listed}
use Rattle.cf_plain.specs.declared.statement.Plain.TheVariants as code
use Rattle.cf_plain.specs.Plain as plain
use Rattle.cf_sequence.specs.Built.{is_value, is_start, is_filling, is_row, is_list, is_element, is_held, is_bound, is_statement, is_statement_or, are_cases, next_local}
use Rattle.cf_sequence.specs.Made.{width}
use Rattle.cf_sequence.specs.Expressions.{builds}
use Rattle.cf_sequence.proofs.Calling.{never}
use Rattle.cf_sequence.proofs.Calling.{or-else}
use Rattle.cf_sequence_expr.specs.Parameters.{parameters_at}
use Rattle.cf_sequence_expr.specs.Pieces.{Piece}
use Rattle.cf_sequence_stmt.specs.Steps.{Step, step, step_step}
use Rattle.cf_sequence_stmt.specs.Steps as steps
use Rattle.cf_sequence_stmt.proofs.Pieces.{same_piece}
use Rattle.cf_sequence_written.proofs.Views.{of-Case, of-Default}
use Rattle.cf_sequence_written.proofs.Adding.{added-count}
use Rattle.cf_sequence_written.proofs.Values.{Writes}
use Rattle.cf_sequence_written.proofs.Evaluated.{written-start, value-start}
use Rattle.cf_sequence_written.proofs.Bodies.{goes-stated, goes-declares}
use Rattle.cf_sequence_written.proofs.Wholes.{Whole, gives-builds, Begins, Initiates, goes-full, goes-declared}
use Rattle.cf_sequence_written.proofs.Parameters.{RowOf}
use Rattle.cf_sequence_written.proofs.Lists.{PutsElements, elements-none, elements-more, lists-are}
use Rattle.cf_sequence_written.proofs.Statements.{Acts, ActsAll, stated-statement, stated-all, acts-none, acts-more, acts-absent, acts-given, goes-block, goes-choice, goes-leave, goes-continue, goes-give, goes-given_back}
use Rattle.cf_sequence_written.proofs.Bound.{written-bound}
use Rattle.cf_sequence_written.proofs.Held.{held-is, written-held}
use Rattle.cf_sequence_written.proofs.Passed.{passed-nodes}
use Rattle.cf_sequence_written.proofs.Loops.{Part, no_part, one_part, goes-loop, goes-switch}

-- a test that neither its first nor its last part meets
only-middle : (a b c : Bool) → a ≡ false → c ≡ false → (a || b) || c ≡ true → b ≡ true
only-middle true b c p q ok = never (sym p)
only-middle false true c p q ok = refl
only-middle false false c p q ok = sym q ∙ ok

held-builds : (i : ℕ) (e : Core) → is_held i e ≡ true → builds e ≡ false
held-builds i (core.bind (local_temporary j t) e) ok = refl
held-builds i e ok = never ok

bound-builds : (e : Core) → is_bound e ≡ true → builds e ≡ false
bound-builds (core.bind h e) ok = refl
bound-builds e ok = never ok

module _ (tables : Tables) (signature : MemberRef → Name) (params : (t : ℕ) → map (type_of tables) (parameters_at tables.types t) ≡ parameters (type_of tables t))
    (rows : (t : ℕ) → is_row (type_of tables t) ≡ true → RowOf tables t) where
  pub record Stated (s : Step) (c : Core) : Type 0 where
    pub initial : Begins tables signature s.initial c
    pub acts : Acts tables signature s c

  abbrev of_node : Node → Core
  of_node = core_of tables signature

  abbrev IsWritten : Node → Type 0
  IsWritten n = Stated (step tables.types n) (of_node n)

  abbrev Child : Type 0
  Child = (n : Node) × IsWritten n

  abbrev PartChild : Type 0
  PartChild = (p : PartStart) × Unit {0}

  abbrev node_of : Child → Node
  node_of c = c.0

  abbrev part_of : PartChild → PartStart
  part_of c = c.0

  abbrev started_of : PartStart → Started
  started_of = fold-PartStart Core Started (core_step tables signature) (started_step tables signature)

  abbrev part_step_of : PartStart → Step
  part_step_of = fold-PartStart Step Step (step_step tables.types) (steps.part_step tables.types)

  abbrev of : Child → Core
  of c = of_node c.0

  abbrev step_of : Child → Step
  step_of c = step tables.types c.0

  abbrev shape : Core-F Child PartChild → Core-F Node PartStart
  shape y = map-Core _ _ _ _ node_of part_of y

  abbrev steps_of : List Child → List Step
  steps_of es = map (step tables.types) (map node_of es)

  abbrev cores_of : List Child → Cores
  cores_of es = listed (map of_node (map node_of es))

  -- an expression of a statement, or an initialiser
  pub operand_of : (n : Node) → is_start (of_node n) ≡ true → Whole tables signature (step tables.types n).piece (of_node n)
  operand_of n ok = record {
    writes = λ classes.
        subst (λ p. Writes tables signature classes p (of_node n)) (sym (same_piece tables.types n)) (written-start tables signature classes params n ok);
    count = ap (λ (p : Piece). length (p.locals [])) (same_piece tables.types n) ∙ added-count tables signature params n;
    put = gives-builds (of_node n) ok;
  }

  counts : (n : Node) → length ((step tables.types n).piece.locals []) ≡ width (of_node n)
  counts n = ap (λ (p : Piece). length (p.locals [])) (same_piece tables.types n) ∙ added-count tables signature params n

  -- the initialiser of an object
  pub initiates : (n : Node) → IsWritten n → (t : ℕ) → is_element (type_of tables t) (of_node n) ≡ true → Initiates tables signature (step tables.types n).initial (step tables.types n).piece t (of_node n)
  initiates n w t ok = record {
    begins = w.initial;
    whole = λ other unlisted. operand_of n (only-middle (is_filling (of_node n)) (is_start (of_node n)) (is_list (type_of tables t) (of_node n)) other unlisted ok);
    count = counts n;
  }

  -- that of a reference, with the temporary that it binds
  held_of : (n : Node) (i : ℕ) → is_held i (of_node n) ≡ true → Whole tables signature (step tables.types n).piece (of_node n)
  held_of n i ok = record {
    writes = λ classes.
        subst (λ p. Writes tables signature classes p (of_node n)) (sym (same_piece tables.types n)) (written-held tables signature classes params n i ok);
    count = ap (λ (p : Piece). length (p.locals [])) (same_piece tables.types n) ∙ added-count tables signature params n;
    put = λ there. held-builds i (of_node n) ok;
  }

  initiates-local : (n : Node) → IsWritten n → (i t : ℕ) → (is_element (type_of tables t) (of_node n) || is_held i (of_node n)) ≡ true
      → Initiates tables signature (step tables.types n).initial (step tables.types n).piece t (of_node n)
  initiates-local n w i t ok =
      or-else (is_element (type_of tables t) (of_node n)) (is_held i (of_node n)) ok (λ element. initiates n w t element)
      (λ held. record { begins = w.initial; whole = λ other unlisted. held_of n i held; count = counts n })

  -- that of a static reference
  pub initiates-bound : (n : Node) → IsWritten n → (t : ℕ) → is_bound (of_node n) ≡ true → Initiates tables signature (step tables.types n).initial (step tables.types n).piece t (of_node n)
  initiates-bound n w t ok = record {
    begins = w.initial;
    whole = λ other unlisted. record {
      writes = λ classes.
          subst (λ p. Writes tables signature classes p (of_node n)) (sym (same_piece tables.types n)) (written-bound tables signature classes params n ok);
      count = counts n;
      put = λ there. bound-builds (of_node n) ok;
    };
    count = counts n;
  }

  operand : (e : Child) → is_start (of e) ≡ true → Whole tables signature (step_of e).piece (of e)
  operand e ok = operand_of e.0 ok

  operand_value : (e : Child) → is_value (of e) ≡ true → Whole tables signature (step_of e).piece (of e)
  operand_value e ok = operand e (value-start (of e) ok)

  row : (es : List Child) → ActsAll tables signature (steps_of es) (cores_of es)
  row [] = acts-none tables signature
  row (e ∷ es) = acts-more tables signature e.1.acts (row es)

  -- the elements of a list
  elements-of : (es : List Child) → PutsElements tables signature (steps_of es) (cores_of es)
  elements-of [] = elements-none tables signature
  elements-of (e ∷ es) = elements-more tables signature (step_of e) (of e) (initiates e.0 e.1) (elements-of es)

  loop-layer : (how : LoopForm) (o p : Option Step) (s : Child) (c e : MaybeCore) → Part tables signature o c → Part tables signature p e
      → (m : ℕ) → is_statement m (of s) ≡ true → (at : ℕ) → Acts tables signature (step_step tables.types (Core-F.Loop at how o p (step_of s))) (core.loop how c e (of s))
  loop-layer how o p s c e to ep m ok at = record {
    acts = λ all f ways b there. goes-loop tables signature o p (step_of s) c e (of s) to ep s.1.acts (stated-statement m (of s) ok) f ways b there how;
  }

  either_part : (c : Child) → is_value (of c) ≡ true → Part tables signature (Some (step_of c)) (given (of c))
  either_part c ok = one_part (step_of c) (of c) (operand_value c ok)

  abbrev IsLayer : Core-F Node PartStart → Type 0
  IsLayer x =
      Stated (step_step tables.types (map-Core _ _ _ _ (step tables.types) part_step_of x)) (core_step tables signature (map-Core _ _ _ _ of_node started_of x))

  layer : (y : Core-F Child PartChild) → IsLayer (shape y)
  layer (Core-F.Full at e) = record { initial = (refl, refl, λ T. refl); acts = record { acts = λ ok f ways b there. goes-full tables signature f b (operand e ok.stated) } }
  layer (Core-F.Block at es) = record {
    initial = (refl, refl, λ T. refl);
    acts = record { acts = λ ok f ways b there. goes-block tables signature (row es) (stated-all ok.below (cores_of es) ok.stated) f ways b there };
  }
  layer (Core-F.Sequence at es) = record {
    initial = (refl, refl, λ T. refl);
    acts = record { acts = λ ok f ways b there. ActsAll.acts (row es) (stated-all ok.below (cores_of es) ok.stated) f ways b there };
  }
  layer (Core-F.Declare at i t e) = record {
    initial = (refl, refl, λ T. refl);
    acts = record {
      acts = λ ok f ways b there.
          let good = (both (nat_le ok.below i) (is_element (type_of tables t) (of e) || is_held i (of e)) ok.stated).1 in
          goes-declares tables signature (goes-declared tables signature f b i t (step_of e).initial (step_of e).held (initiates-local e.0 e.1 i t good))
          (ap (λ ls. record { number = i; type = type_of tables t } ∷ ls) (held-is tables signature e.0));
    };
  }
  layer (Core-F.If at q a None) = record {
    initial = (refl, refl, λ T. refl);
    acts = record {
      acts = λ ok f ways b there.
          let parts = both (is_value (of q)) (is_statement ok.below (of a) && is_statement_or (next_local ok.below (of a)) absent) ok.stated in
          let sides = both (is_statement ok.below (of a)) (is_statement_or (next_local ok.below (of a)) absent) parts.1 in
          goes-choice tables signature (step_of q) (operand_value q parts.0) a.1.acts (acts-absent tables signature) ok.below (next_local ok.below (of a)) sides.0 sides.1 f ways b there;
    };
  }
  layer (Core-F.If at q a (Some o)) = record {
    initial = (refl, refl, λ T. refl);
    acts = record {
      acts = λ ok f ways b there.
          let parts = both (is_value (of q)) (is_statement ok.below (of a) && is_statement_or (next_local ok.below (of a)) (given (of o))) ok.stated in
          let sides = both (is_statement ok.below (of a)) (is_statement_or (next_local ok.below (of a)) (given (of o))) parts.1 in
          goes-choice tables signature (step_of q) (operand_value q parts.0) a.1.acts (acts-given tables signature o.1.acts) ok.below (next_local ok.below (of a)) sides.0 sides.1 f ways b there;
    };
  }
  layer (Core-F.Loop at how None None s) = record {
    initial = (refl, refl, λ T. refl);
    acts = record { acts = λ ok. Acts.acts (loop-layer how None None s absent absent no_part no_part ok.below ok.stated at) ok };
  }
  layer (Core-F.Loop at how None (Some e) s) = record {
    initial = (refl, refl, λ T. refl);
    acts = record {
      acts = λ ok.
          let parts = both (is_value (of e)) (is_statement ok.below (of s)) ok.stated in
          Acts.acts (loop-layer how None (Some (step_of e)) s absent (given (of e)) no_part (either_part e parts.0) ok.below parts.1 at) ok;
    };
  }
  layer (Core-F.Loop at how (Some q) None s) = record {
    initial = (refl, refl, λ T. refl);
    acts = record {
      acts = λ ok.
          let parts = both (is_value (of q)) (is_statement ok.below (of s)) ok.stated in
          Acts.acts (loop-layer how (Some (step_of q)) None s (given (of q)) absent (either_part q parts.0) no_part ok.below parts.1 at) ok;
    };
  }
  layer (Core-F.Loop at how (Some q) (Some e) s) = record {
    initial = (refl, refl, λ T. refl);
    acts = record {
      acts = λ ok.
          let parts = both (is_value (of q)) (is_value (of e) && is_statement ok.below (of s)) ok.stated in
          let further = both (is_value (of e)) (is_statement ok.below (of s)) parts.1 in
          Acts.acts (loop-layer how (Some (step_of q)) (Some (step_of e)) s (given (of q)) (given (of e)) (either_part q parts.0) (either_part e further.0) ok.below further.1 at) ok;
    };
  }
  layer (Core-F.Switch at e es) = record {
    initial = (refl, refl, λ T. refl);
    acts = record {
      acts = λ ok f ways b there.
          let parts = both (is_value (of e)) (are_cases ok.below (cores_of es)) ok.stated in
          goes-switch tables signature (step_of e) (operand_value e parts.0) (row es) (passed-nodes tables signature (map node_of es)) ok.below parts.1 f ways b there;
    };
  }
  layer (Core-F.Case at z) = record { initial = (refl, refl, λ T. refl); acts = record { acts = λ ok f ways b there. goes-stated tables signature (code.Case z) (plain.case_label z) b (of-Case tables signature z) } }
  layer (Core-F.Default at) = record { initial = (refl, refl, λ T. refl); acts = record { acts = λ ok f ways b there. goes-stated tables signature code.Default plain.default_label b (of-Default tables signature) } }
  layer (Core-F.Break at) = record { initial = (refl, refl, λ T. refl); acts = record { acts = λ ok f ways b there. goes-leave tables signature f ways b there } }
  layer (Core-F.Continue at) = record { initial = (refl, refl, λ T. refl); acts = record { acts = λ ok f ways b there. goes-continue tables signature f ways b there } }
  layer (Core-F.Return at None) = record { initial = (refl, refl, λ T. refl); acts = record { acts = λ ok f ways b there. goes-give tables signature f ways b there } }
  layer (Core-F.Return at (Some e)) = record {
    initial = (refl, refl, λ T. refl);
    acts = record { acts = λ ok f ways b there. goes-given_back tables signature (step_of e) (operand_value e ok.stated) f ways b there };
  }
  layer (Core-F.List at es last) = record {
    initial = (refl, refl, refl, lists-are tables signature (steps_of es) (step_of last) (cores_of es) (of last) (elements-of es) (initiates last.0 last.1) rows);
    acts = record { acts = λ ok f ways b there. never ok.stated };
  }
  layer (Core-F.Zeros at) = record { initial = (refl, λ n. refl); acts = record { acts = λ ok f ways b there. never ok.stated } }
  layer (Core-F.Characters at bytes) = record { initial = (refl, λ n. refl); acts = record { acts = λ ok f ways b there. never ok.stated } }
  layer (Core-F.Blank at) = record { initial = refl; acts = record { acts = λ ok f ways b there. never ok.stated } }
  layer y = record { initial = (refl, refl, λ T. refl); acts = record { acts = λ ok f ways b there. never ok.stated } }

  rolled : (x : Core-F Node PartStart) → IsLayer x → IsWritten (roll-Core x)
  rolled x p =
      subst (λ s. Stated s (of_node (roll-Core x))) (sym (fold-roll-Core Step Step (step_step tables.types) (steps.part_step tables.types) x))
      (subst (λ c. Stated (step_step tables.types (map-Core _ _ _ _ (step tables.types) part_step_of x)) c)
      (sym (fold-roll-Core Core Started (core_step tables signature) (started_step tables signature) x)) p)

  pub written-statement : (n : Node) → Stated (step tables.types n) (of_node n)
  written-statement = ind-Core IsWritten (λ p. Unit {0}) (λ x y is. subst (λ z. IsWritten (roll-Core z)) is (rolled (shape y) (layer y))) (λ x y is. tt)
