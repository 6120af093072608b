-- One walk over the tree tells what the sums over its nodes are.
use Rattle.std.proofs.Common.{◌≡◌, ℕ, ◌+◌, ◌*◌, max, List, [], ◌∷◌, ◌++◌, length, map, Option, Some, None, option_map, refl, ap, sym, subst, ◌∙◌, arith, append-nil, append_assoc, length-append}
use Rattle.std.specs.List.{sum, sum_by, flat_map}
use Rattle.std.proofs.lemmas.List.Sums.{sum_by-append, sum_by-cons}
use Rattle.std.proofs.lemmas.List.{map-append}
use Rattle.std.proofs.lemmas.Grind.{flat_map-append}
use Rattle.std.proofs.Math.Nat.{max-zero, zero-max, zero-add}
use Rattle.cf_core.specs.declared.operators.LoopForm.{LoopForm}
use Rattle.cf_core.specs.declared.operators.LoopForm.TheVariants as form
use Rattle.cf_core.specs.declared.node.Core.{Core, fold-Core, roll-Core, ind-Core}
use Rattle.cf_core.specs.declared.node.Core.TheOpen.{Core-F}
use Rattle.cf_core.specs.declared.node.Core.TheFolds.{fold-roll-Core, map-Core, fold-roll-PartStart, map-PartStart}
use Rattle.cf_core.specs.declared.node.PartStart.{PartStart, PartStart-F, fold-PartStart, roll-PartStart}
use Rattle.cf_core.specs.declared.node.Holder.TheVariants as holder
use Rattle.cf_classes.specs.declared.class.MemberRef.{MemberRef}
use Rattle.cf_core.specs.Core as plain
use Rattle.cf_core.specs.Core.{Cores, MaybeCore, Parts, none, more, absent, given, no_parts, part}
use Rattle.cf_core.specs.Types.{Name, SourceType}
use Rattle.cf_core.specs.FromTypes.{Tables, type_of}
use Rattle.cf_core.specs.View.{Started, core_step, started_step, listed, maybe as maybe_core, in_order}
use Rattle.cf_core.specs.Nodes.{nodes, nodes_all, nodes_maybe, nodes_parts}
use Rattle.cf_core.specs.Frame.{made_by, node_cost, loop_bytes, greatest, expression_cost, maybe_cost, initialiser_cost, initialiser_costs}
use Rattle.cf_frame.specs.declared.costs.Costs.{Costs}
use Rattle.cf_frame.specs.Bound.{makes_none}
use Rattle.cf_frame.specs.Costed.{up_to_most, nothing, both, around, with_expression, with_loop, with_start, blank, each, list, expression, initialiser, choice, turns, selection, building, all, all_after, maybe, step, part_step, costed, costed_part}
use Rattle.cf_frame.proofs.Sums.{of_sum, of_max, greatest-append}

-- the sums over these nodes
pub record Sums (xs : List plain.Core) (c : Costs) : Type 0 where
  pub nodes : up_to_most (length xs) ≡ c.nodes
  pub loops : up_to_most (sum_by loop_bytes xs) ≡ c.loops
  pub dearest : makes_none xs → up_to_most (greatest (map (node_cost []) xs)) ≡ c.dearest

-- and the costs of one of them with all that is in it
pub record Weighs (e : plain.Core) (c : Costs) : Type 0 where
  pub sums : Sums (nodes e) c
  pub whole : makes_none (nodes e) → up_to_most (expression_cost [] e) ≡ c.whole
  pub start : makes_none (nodes e) → up_to_most (initialiser_cost e []) ≡ c.start

nil-both : {A : Type 0} (xs ys : List A) → xs ++ ys ≡ [] → (xs ≡ []) × (ys ≡ [])
nil-both [] ys e = (refl, e)
nil-both (x ∷ xs) ys e = absurd (cc)

-- where nodes make no class object, some of them make free
pub none-both : (xs ys : List plain.Core) → makes_none (xs ++ ys) → makes_none xs × makes_none ys
none-both xs ys free = nil-both (flat_map (made_by []) xs) (flat_map (made_by []) ys) (sym (flat_map-append (made_by []) xs ys) ∙ free)

none-more : (x : plain.Core) (xs : List plain.Core) → makes_none (x ∷ xs) → makes_none xs
none-more x xs free = (nil-both (made_by [] x) (flat_map (made_by []) xs) free).1

sums-none : Sums [] nothing
unfolding nothing
sums-none = record { nodes = refl; loops = refl; dearest = λ free. refl }

sums-both : (xs ys : List plain.Core) (a b : Costs) → Sums xs a → Sums ys b → Sums (xs ++ ys) (both a b)
unfolding both
sums-both xs ys a b p q = record {
  nodes = ap up_to_most (length-append xs ys) ∙ of_sum (length xs) (length ys) a.nodes b.nodes p.nodes q.nodes;
  loops = ap up_to_most (sum_by-append loop_bytes xs ys) ∙ of_sum (sum_by loop_bytes xs) (sum_by loop_bytes ys) a.loops b.loops p.loops q.loops;
  dearest = λ free.
      let parts = none-both xs ys free in
      ap (λ l. up_to_most (greatest l)) (map-append (node_cost []) xs ys) ∙ ap up_to_most (greatest-append (map (node_cost []) xs) (map (node_cost []) ys))
      ∙ of_max (greatest (map (node_cost []) xs)) (greatest (map (node_cost []) ys)) a.dearest b.dearest (p.dearest parts.0) (q.dearest parts.1);
}

-- a node before the nodes that are in it
sums-around : (x : plain.Core) (xs : List plain.Core) (c : Costs) → Sums xs c → node_cost [] x ≡ 0 → loop_bytes x ≡ 0 → Sums (x ∷ xs) (around c)
unfolding around
sums-around x xs c p cost loops = record {
  nodes = let h = p.nodes in omega (arith, h);
  loops = ap up_to_most (sum_by-cons loop_bytes x xs) ∙ ap (λ n. up_to_most (n + sum_by loop_bytes xs)) loops ∙ ap up_to_most (zero-add (sum_by loop_bytes xs)) ∙ p.loops;
  dearest = λ free. ap (λ n. up_to_most (max n (greatest (map (node_cost []) xs)))) cost ∙ ap up_to_most (zero-max (greatest (map (node_cost []) xs))) ∙ p.dearest (none-more x xs free);
}

sums-statement : (x : plain.Core) (xs : List plain.Core) (c : Costs) (n : ℕ) → Sums xs c → (makes_none xs → up_to_most (node_cost [] x) ≡ n) → loop_bytes x ≡ 0
    → Sums (x ∷ xs) (with_expression n (around c))
unfolding around with_expression
sums-statement x xs c n p cost loops = record {
  nodes = let h = p.nodes in omega (arith, h);
  loops = ap up_to_most (sum_by-cons loop_bytes x xs) ∙ ap (λ m. up_to_most (m + sum_by loop_bytes xs)) loops ∙ ap up_to_most (zero-add (sum_by loop_bytes xs)) ∙ p.loops;
  dearest = λ free. let inner = none-more x xs free in of_max (node_cost [] x) (greatest (map (node_cost []) xs)) n c.dearest (cost inner) (p.dearest inner);
}

sums-loop : (x : plain.Core) (xs : List plain.Core) (c : Costs) (n : ℕ) → Sums xs c → (makes_none xs → up_to_most (node_cost [] x) ≡ n) → loop_bytes x ≡ 8
    → Sums (x ∷ xs) (with_loop (with_expression n (around c)))
unfolding around with_expression with_loop
sums-loop x xs c n p cost loops = record {
  nodes = let h = p.nodes in omega (arith, h);
  loops = let h = p.loops in ap up_to_most (sum_by-cons loop_bytes x xs) ∙ ap (λ m. up_to_most (m + sum_by loop_bytes xs)) loops ∙ omega (arith, h);
  dearest = λ free. let inner = none-more x xs free in of_max (node_cost [] x) (greatest (map (node_cost []) xs)) n c.dearest (cost inner) (p.dearest inner);
}

-- the price of nodes that make no class objects
price : (xs : List plain.Core) (n : ℕ) → up_to_most (length xs) ≡ n → flat_map (made_by []) xs ≡ [] → up_to_most (32 * length xs + sum (flat_map (made_by []) xs)) ≡ up_to_most (n * 32)
price xs n p made = ap (λ l. up_to_most (32 * length xs + sum l)) made ∙ omega (arith, p)

weighs-of : (x : plain.Core) (xs : List plain.Core) (d : Costs) → nodes x ≡ x ∷ xs → Sums (x ∷ xs) d → d.whole ≡ up_to_most (d.nodes * 32) → d.start ≡ d.whole
    → expression_cost [] x ≡ 32 * length (nodes x) + sum (flat_map (made_by []) (nodes x)) → initialiser_cost x [] ≡ expression_cost [] x → Weighs x d
weighs-of x xs d is p priced started whole start =
    let w : makes_none (nodes x) → up_to_most (expression_cost [] x) ≡ d.whole =
    λ free. ap up_to_most whole ∙ ap (λ ns. up_to_most (32 * length ns + sum (flat_map (made_by []) ns))) is ∙ price (x ∷ xs) d.nodes p.nodes (subst makes_none is free) ∙ sym priced in
    record {
      sums = subst (λ ns. Sums ns d) (sym is) p;
      whole = w;
      start = λ free. ap up_to_most start ∙ w free ∙ sym started;
    }

-- a node of an expression or initialiser
around-is : (x : plain.Core) (xs : List plain.Core) (c : Costs) → nodes x ≡ x ∷ xs → Sums xs c → node_cost [] x ≡ 0 → loop_bytes x ≡ 0
    → expression_cost [] x ≡ 32 * length (nodes x) + sum (flat_map (made_by []) (nodes x)) → initialiser_cost x [] ≡ expression_cost [] x → Weighs x (around c)
unfolding around
around-is x xs c is p cost loops whole start = weighs-of x xs (around c) is (sums-around x xs c p cost loops) refl refl whole start

-- its sums and its bytes alone
around-is-whole : (x : plain.Core) (xs : List plain.Core) (c : Costs) → nodes x ≡ x ∷ xs → Sums xs c → node_cost [] x ≡ 0 → loop_bytes x ≡ 0
    → expression_cost [] x ≡ 32 * length (nodes x) + sum (flat_map (made_by []) (nodes x)) → Sums (nodes x) (around c) × (makes_none (nodes x) → up_to_most (expression_cost [] x) ≡ (around c).whole)
unfolding around
around-is-whole x xs c is p cost loops whole =
    let q = sums-around x xs c p cost loops in (
      subst (λ ns. Sums ns (around c)) (sym is) q,
      λ free.
          ap up_to_most whole ∙ ap (λ ns. up_to_most (32 * length ns + sum (flat_map (made_by []) ns))) is ∙ price (x ∷ xs) (around c).nodes q.nodes (subst makes_none is free),
    )

-- a statement with a full expression
statement-is : (x : plain.Core) (xs : List plain.Core) (c : Costs) (n : ℕ) → nodes x ≡ x ∷ xs → Sums xs c → (makes_none xs → up_to_most (node_cost [] x) ≡ n) → loop_bytes x ≡ 0
    → expression_cost [] x ≡ 32 * length (nodes x) + sum (flat_map (made_by []) (nodes x)) → initialiser_cost x [] ≡ expression_cost [] x
    → Weighs x (with_expression n (around c))
unfolding around with_expression
statement-is x xs c n is p cost loops whole start =
    weighs-of x xs (with_expression n (around c)) is (sums-statement x xs c n p cost loops) refl refl whole start

loop-is : (x : plain.Core) (xs : List plain.Core) (c : Costs) (n : ℕ) → nodes x ≡ x ∷ xs → Sums xs c → (makes_none xs → up_to_most (node_cost [] x) ≡ n) → loop_bytes x ≡ 8
    → expression_cost [] x ≡ 32 * length (nodes x) + sum (flat_map (made_by []) (nodes x)) → initialiser_cost x [] ≡ expression_cost [] x
    → Weighs x (with_loop (with_expression n (around c)))
unfolding around with_expression with_loop
loop-is x xs c n is p cost loops whole start =
    weighs-of x xs (with_loop (with_expression n (around c))) is (sums-loop x xs c n p cost loops) refl refl whole start

-- an initialiser whose elements are full expressions by themselves
start-is : (x : plain.Core) (c : Costs) (n : ℕ) → Sums (nodes x) c → (makes_none (nodes x) → up_to_most (expression_cost [] x) ≡ c.whole)
    → (makes_none (nodes x) → up_to_most (initialiser_cost x []) ≡ n)
    → Weighs x (with_start n c)
unfolding with_start
start-is x c n p whole start = record {
  sums = record { nodes = p.nodes; loops = p.loops; dearest = p.dearest };
  whole = whole;
  start = start;
}

blank-is : Weighs plain.blank blank
unfolding blank around nothing
blank-is = record { sums = record { nodes = refl; loops = refl; dearest = λ free. refl }; whole = λ free. refl; start = λ free. refl }

module _ (tables : Tables) (signature : MemberRef → Name) where
  abbrev core_of : Core → plain.Core
  core_of = fold-Core plain.Core Started (core_step tables signature) (started_step tables signature)

  abbrev started_of : PartStart → Started
  started_of = fold-PartStart plain.Core Started (core_step tables signature) (started_step tables signature)

  abbrev IsWeighed : Core → Type 0
  IsWeighed n = Weighs (core_of n) (costed n)

  abbrev IsPartWeighed : PartStart → Type 0
  IsPartWeighed p = Weighs (started_of p).start (costed_part p)

  abbrev Child : Type 0
  Child = (n : Core) × IsWeighed n

  abbrev PartChild : Type 0
  PartChild = (p : PartStart) × IsPartWeighed p

  abbrev listed_of : List Child → Cores
  listed_of xs = listed (map core_of (map (λ (c : Child). c.0) xs))

  abbrev costs_of : List Child → List Costs
  costs_of xs = map costed (map (λ (c : Child). c.0) xs)

  -- nodes one after another
  row_after : (ys : List plain.Core) (t : Costs) → Sums ys t → (xs : List Child) → Sums (ys ++ nodes_all (listed_of xs)) (all_after t (costs_of xs))
  row_after ys t p [] = subst (λ l. Sums l t) (sym (append-nil ys)) p
  row_after ys t p (x ∷ xs) =
      subst (λ l. Sums l (all_after (both t (costed x.0)) (costs_of xs))) (append_assoc ys (nodes (core_of x.0)) (nodes_all (listed_of xs)))
      (row_after (ys ++ nodes (core_of x.0)) (both t (costed x.0)) (sums-both ys (nodes (core_of x.0)) t (costed x.0) p x.1.sums) xs)

  row : (xs : List Child) → Sums (nodes_all (listed_of xs)) (all (costs_of xs))
  row xs = row_after [] nothing sums-none xs

  both-start : (a b : Costs) → (both a b).start ≡ max a.start b.start
  unfolding both
  both-start a b = refl

  nothing-start : nothing.start ≡ 0
  unfolding nothing
  nothing-start = refl

  starts_after : (t : Costs) (xs : List Child) → makes_none (nodes_all (listed_of xs)) → (all_after t (costs_of xs)).start ≡ max t.start (up_to_most (initialiser_costs (listed_of xs) []))
  starts_after t [] free = sym (max-zero t.start)
  starts_after t (x ∷ xs) free =
      let parts = none-both (nodes (core_of x.0)) (nodes_all (listed_of xs)) free in
      let h = x.1.start parts.0 in
      let r = both-start t (costed x.0) in
      starts_after (both t (costed x.0)) xs parts.1 ∙ omega (arith, h, r)

  starts : (xs : List Child) → makes_none (nodes_all (listed_of xs)) → up_to_most (initialiser_costs (listed_of xs) []) ≡ (all (costs_of xs)).start
  starts xs free = let h = starts_after nothing xs free in let z = nothing-start in omega (arith, h, z)

  abbrev parts_of : List PartChild → Parts
  parts_of xs = in_order (map started_of (map (λ (c : PartChild). c.0) xs))

  abbrev part_costs : List PartChild → List Costs
  part_costs xs = map costed_part (map (λ (c : PartChild). c.0) xs)

  part_row_after : (ys : List plain.Core) (t : Costs) → Sums ys t → (xs : List PartChild) → Sums (ys ++ nodes_parts (parts_of xs)) (all_after t (part_costs xs))
  part_row_after ys t p [] = subst (λ l. Sums l t) (sym (append-nil ys)) p
  part_row_after ys t p (x ∷ xs) =
      subst (λ l. Sums l (all_after (both t (costed_part x.0)) (part_costs xs))) (append_assoc ys (nodes (started_of x.0).start) (nodes_parts (parts_of xs)))
      (part_row_after (ys ++ nodes (started_of x.0).start) (both t (costed_part x.0)) (sums-both ys (nodes (started_of x.0).start) t (costed_part x.0) p x.1.sums) xs)

  part_row : (xs : List PartChild) → Sums (nodes_parts (parts_of xs)) (all (part_costs xs))
  part_row xs = part_row_after [] nothing sums-none xs

  part_starts_after : (t : Costs) (xs : List PartChild) (s : plain.Core) → makes_none (nodes_parts (parts_of xs))
      → (all_after t (part_costs xs)).start ≡ max t.start (up_to_most (node_cost [] (plain.parts (parts_of xs) s)))
  part_starts_after t [] s free = sym (max-zero t.start)
  part_starts_after t (x ∷ xs) s free =
      let parts = none-both (nodes (started_of x.0).start) (nodes_parts (parts_of xs)) free in
      let h = x.1.start parts.0 in
      let r = both-start t (costed_part x.0) in
      part_starts_after (both t (costed_part x.0)) xs s parts.1 ∙ omega (arith, h, r)

  part_starts : (xs : List PartChild) (s : plain.Core) → makes_none (nodes_parts (parts_of xs)) → up_to_most (node_cost [] (plain.parts (parts_of xs) s)) ≡ (all (part_costs xs)).start
  part_starts xs s free = let h = part_starts_after nothing xs s free in let z = nothing-start in omega (arith, h, z)

  abbrev maybe_of : Option Child → MaybeCore
  maybe_of x = maybe_core (option_map core_of (option_map (λ (c : Child). c.0) x))

  abbrev maybe_costs : Option Child → Costs
  maybe_costs x = maybe (option_map costed (option_map (λ (c : Child). c.0) x))

  sums-maybe : (x : Option Child) → Sums (nodes_maybe (maybe_of x)) (maybe_costs x)
  sums-maybe None = sums-none
  sums-maybe (Some x) = x.1.sums

  whole-maybe : (x : Option Child) → makes_none (nodes_maybe (maybe_of x)) → up_to_most (maybe_cost [] (maybe_of x)) ≡ (maybe_costs x).whole
  unfolding nothing
  whole-maybe None free = refl
  whole-maybe (Some x) free = x.1.whole free

  start-maybe : (x : Option Child) → makes_none (nodes_maybe (maybe_of x)) → up_to_most (node_cost [] (plain.give (maybe_of x))) ≡ (maybe_costs x).start
  unfolding nothing
  start-maybe None free = refl
  start-maybe (Some x) free = x.1.start free

  -- a node with no parts, with one, and with several
  leaf : (x : plain.Core) → nodes x ≡ x ∷ [] → node_cost [] x ≡ 0 → loop_bytes x ≡ 0
      → expression_cost [] x ≡ 32 * length (nodes x) + sum (flat_map (made_by []) (nodes x)) → initialiser_cost x [] ≡ expression_cost [] x → Weighs x (around nothing)
  leaf x is = around-is x [] nothing is sums-none

  two : (a b : plain.Core) (c d : Costs) → Weighs a c → Weighs b d → Sums (nodes a ++ nodes b) (both c d)
  two a b c d p q = sums-both (nodes a) (nodes b) c d p.sums q.sums

  joined : (xs ys : List plain.Core) (c d : Costs) → Sums xs c → Sums ys d → Sums (xs ++ ys) (both c d)
  joined xs ys c d p q = sums-both xs ys c d p q

  list-is : (xs : List Child) (r : Child) → Weighs (plain.list (listed_of xs) (core_of r.0)) (list (all (costs_of xs)) (costed r.0))
  unfolding list
  list-is xs r =
      let x = plain.list (listed_of xs) (core_of r.0) in
      let inner = sums-both (nodes_all (listed_of xs)) (nodes (core_of r.0)) (all (costs_of xs)) (costed r.0) (row xs) r.1.sums in
      let w = around-is-whole x (nodes_all (listed_of xs) ++ nodes (core_of r.0)) (both (all (costs_of xs)) (costed r.0)) refl inner refl refl refl in
      start-is x (around (both (all (costs_of xs)) (costed r.0))) (both (all (costs_of xs)) (costed r.0)).start w.0 w.1 (λ free.
      let parts = none-both (nodes_all (listed_of xs)) (nodes (core_of r.0)) free in
      let s = starts xs parts.0 in
      let h = r.1.start parts.1 in
      let b = both-start (all (costs_of xs)) (costed r.0) in
      omega (arith, s, h, b))

  each-is : (e : Child) → Weighs (plain.each (core_of e.0)) (each (costed e.0))
  unfolding each
  each-is e =
      let x = plain.each (core_of e.0) in
      let w = around-is-whole x (nodes (core_of e.0)) (costed e.0) refl e.1.sums refl refl refl in
      start-is x (around (costed e.0)) (costed e.0).start w.0 w.1 e.1.start

  expression-is : (e : Child) → Weighs (plain.full (core_of e.0)) (expression (costed e.0))
  unfolding expression
  expression-is e = statement-is _ (nodes (core_of e.0)) (costed e.0) (costed e.0).whole refl e.1.sums e.1.whole refl refl refl

  declare-is : (i : ℕ) (t : SourceType) (e : Child) → Weighs (plain.declare i t (core_of e.0)) (initialiser (costed e.0))
  unfolding initialiser
  declare-is i t e = statement-is _ (nodes (core_of e.0)) (costed e.0) (costed e.0).start refl e.1.sums e.1.start refl refl refl

  once-is : (n : Name) (e : Child) → Weighs (plain.once n (core_of e.0)) (initialiser (costed e.0))
  unfolding initialiser
  once-is n e = statement-is _ (nodes (core_of e.0)) (costed e.0) (costed e.0).start refl e.1.sums e.1.start refl refl refl

  return-is : (e : Option Child) → Weighs (plain.give (maybe_of e)) (initialiser (maybe_costs e))
  unfolding initialiser
  return-is e = statement-is _ (nodes_maybe (maybe_of e)) (maybe_costs e) (maybe_costs e).start refl (sums-maybe e) (start-maybe e) refl refl refl

  choice-is : (c a : Child) (b : Option Child) → Weighs (plain.branch (core_of c.0) (core_of a.0) (maybe_of b)) (choice (costed c.0) (costed a.0) (maybe_costs b))
  unfolding choice
  choice-is c a b =
      let x = plain.branch (core_of c.0) (core_of a.0) (maybe_of b) in
      statement-is x (nodes (core_of c.0) ++ (nodes (core_of a.0) ++ nodes_maybe (maybe_of b))) (both (costed c.0) (both (costed a.0) (maybe_costs b))) (costed c.0).whole
      (ap (λ l. x ∷ l) (append_assoc (nodes (core_of c.0)) (nodes (core_of a.0)) (nodes_maybe (maybe_of b))))
      (joined _ _ _ _ c.1.sums (joined _ _ _ _ a.1.sums (sums-maybe b)))
      (λ free. c.1.whole (none-both (nodes (core_of c.0)) (nodes (core_of a.0) ++ nodes_maybe (maybe_of b)) free).0) refl refl refl

  selection-is : (e : Child) (es : List Child) → Weighs (plain.switch (core_of e.0) (listed_of es)) (selection (costed e.0) (all (costs_of es)))
  unfolding selection
  selection-is e es =
      loop-is _ (nodes (core_of e.0) ++ nodes_all (listed_of es)) (both (costed e.0) (all (costs_of es))) (costed e.0).whole refl
      (joined _ _ _ _ e.1.sums (row es)) (λ free. e.1.whole (none-both (nodes (core_of e.0)) (nodes_all (listed_of es)) free).0) refl refl refl

  building-is : (ps : List PartChild) (s : Child) → Weighs (plain.parts (parts_of ps) (core_of s.0)) (building (all (part_costs ps)) (costed s.0))
  unfolding building
  building-is ps s =
      statement-is _ (nodes_parts (parts_of ps) ++ nodes (core_of s.0)) (both (all (part_costs ps)) (costed s.0)) (all (part_costs ps)).start refl
      (joined _ _ _ _ (part_row ps) s.1.sums) (λ free. part_starts ps (core_of s.0) (none-both (nodes_parts (parts_of ps)) (nodes (core_of s.0)) free).0) refl refl refl

  abbrev loop_nodes : Option Child → Option Child → Child → List plain.Core
  loop_nodes c e s = nodes_maybe (maybe_of c) ++ (nodes_maybe (maybe_of e) ++ nodes (core_of s.0))

  loop_order : (f : LoopForm) (c e : Option Child) (s : Child)
      → nodes (plain.loop f (maybe_of c) (maybe_of e) (core_of s.0)) ≡ plain.loop f (maybe_of c) (maybe_of e) (core_of s.0) ∷ loop_nodes c e s
  loop_order f c e s =
      ap (λ l. plain.loop f (maybe_of c) (maybe_of e) (core_of s.0) ∷ l) (append_assoc (nodes_maybe (maybe_of c)) (nodes_maybe (maybe_of e)) (nodes (core_of s.0)))

  loop_parts : (c e : Option Child) (s : Child) → Sums (nodes_maybe (maybe_of c) ++ (nodes_maybe (maybe_of e) ++ nodes (core_of s.0))) (both (maybe_costs c) (both (maybe_costs e) (costed s.0)))
  loop_parts c e s = joined _ _ _ _ (sums-maybe c) (joined _ _ _ _ (sums-maybe e) s.1.sums)

  loop_cost : (c e : Option Child) (s : Child) → makes_none (loop_nodes c e s)
      → up_to_most (max (maybe_cost [] (maybe_of c)) (maybe_cost [] (maybe_of e))) ≡ max (maybe_costs c).whole (maybe_costs e).whole
  loop_cost c e s free =
      let one = none-both (nodes_maybe (maybe_of c)) (nodes_maybe (maybe_of e) ++ nodes (core_of s.0)) free in
      let two = none-both (nodes_maybe (maybe_of e)) (nodes (core_of s.0)) one.1 in
      of_max (maybe_cost [] (maybe_of c)) (maybe_cost [] (maybe_of e)) (maybe_costs c).whole (maybe_costs e).whole (whole-maybe c one.0) (whole-maybe e two.0)

  turns-is : (f : LoopForm) (c e : Option Child) (s : Child)
      → Weighs (plain.loop f (maybe_of c) (maybe_of e) (core_of s.0)) (turns f (maybe_costs c) (maybe_costs e) (costed s.0))
  unfolding turns
  turns-is form.While c e s = statement-is _ (loop_nodes c e s) _ _ (loop_order form.While c e s) (loop_parts c e s) (loop_cost c e s) refl refl refl
  turns-is form.Do c e s = loop-is _ (loop_nodes c e s) _ _ (loop_order form.Do c e s) (loop_parts c e s) (loop_cost c e s) refl refl refl
  turns-is form.For c e s = loop-is _ (loop_nodes c e s) _ _ (loop_order form.For c e s) (loop_parts c e s) (loop_cost c e s) refl refl refl

  call-is : (f : Name) (t : ℕ) (object : Option Child) (es : List Child)
      → Weighs (plain.call f (type_of tables t) (maybe_of object) (listed_of es)) (around (both (maybe_costs object) (all (costs_of es))))
  call-is f t object es =
      around-is _ (nodes_maybe (maybe_of object) ++ nodes_all (listed_of es)) (both (maybe_costs object) (all (costs_of es))) refl
      (joined _ _ _ _ (sums-maybe object) (row es)) refl refl refl refl

  pointer-is : (object : Option Child) (e : Child) (t : ℕ) (es : List Child)
      → Weighs (plain.pointer_call (maybe_of object) (core_of e.0) (type_of tables t) (listed_of es)) (around (both (maybe_costs object) (both (costed e.0) (all (costs_of es)))))
  pointer-is object e t es =
      let x = plain.pointer_call (maybe_of object) (core_of e.0) (type_of tables t) (listed_of es) in
      around-is x (nodes_maybe (maybe_of object) ++ (nodes (core_of e.0) ++ nodes_all (listed_of es))) (both (maybe_costs object) (both (costed e.0) (all (costs_of es)))) (ap (λ l. x ∷ l) (append_assoc (nodes_maybe (maybe_of object)) (nodes (core_of e.0)) (nodes_all (listed_of es))))
      (joined _ _ _ _ (sums-maybe object) (joined _ _ _ _ e.1.sums (row es))) refl refl refl refl

  -- a layer of the tree, once its parts are weighed
  layer : (y : Core-F Child PartChild)
      → Weighs (core_step tables signature (map-Core _ _ _ _ core_of started_of (map-Core _ _ _ _ (λ (c : Child). c.0) (λ (c : PartChild). c.0) y)))
      (step (map-Core _ _ _ _ costed costed_part (map-Core _ _ _ _ (λ (c : Child). c.0) (λ (c : PartChild). c.0) y)))
  layer (Core-F.Number at z) = leaf _ refl refl refl refl refl
  layer (Core-F.Text at j bytes) = leaf _ refl refl refl refl refl
  layer (Core-F.This at) = leaf _ refl refl refl refl refl
  layer (Core-F.Local at i) = leaf _ refl refl refl refl refl
  layer (Core-F.Static at n t) = leaf _ refl refl refl refl refl
  layer (Core-F.Function at n t) = leaf _ refl refl refl refl refl
  layer (Core-F.Member at e i) = around-is _ (nodes (core_of e.0)) (costed e.0) refl e.1.sums refl refl refl refl
  layer (Core-F.Read at e) = around-is _ (nodes (core_of e.0)) (costed e.0) refl e.1.sums refl refl refl refl
  layer (Core-F.Address at e) = around-is _ (nodes (core_of e.0)) (costed e.0) refl e.1.sums refl refl refl refl
  layer (Core-F.Dereference at e) = around-is _ (nodes (core_of e.0)) (costed e.0) refl e.1.sums refl refl refl refl
  layer (Core-F.Decay at e) = around-is _ (nodes (core_of e.0)) (costed e.0) refl e.1.sums refl refl refl refl
  layer (Core-F.Index at a b) = around-is _ (nodes (core_of a.0) ++ nodes (core_of b.0)) (both (costed a.0) (costed b.0)) refl (two _ _ _ _ a.1 b.1) refl refl refl refl
  layer (Core-F.Convert at t e) = around-is _ (nodes (core_of e.0)) (costed e.0) refl e.1.sums refl refl refl refl
  layer (Core-F.Up at path e) = around-is _ (nodes (core_of e.0)) (costed e.0) refl e.1.sums refl refl refl refl
  layer (Core-F.Down at c path e) = around-is _ (nodes (core_of e.0)) (costed e.0) refl e.1.sums refl refl refl refl
  layer (Core-F.FromVoid at t e) = around-is _ (nodes (core_of e.0)) (costed e.0) refl e.1.sums refl refl refl refl
  layer (Core-F.ToMember at path e) = around-is _ (nodes (core_of e.0)) (costed e.0) refl e.1.sums refl refl refl refl
  layer (Core-F.DataPointer at i) = leaf _ refl refl refl refl refl
  layer (Core-F.FunctionPointer at t) = leaf _ refl refl refl refl refl
  layer (Core-F.Through at a b) = around-is _ (nodes (core_of a.0) ++ nodes (core_of b.0)) (both (costed a.0) (costed b.0)) refl (two _ _ _ _ a.1 b.1) refl refl refl refl
  layer (Core-F.Operate at op k a b) = around-is _ (nodes (core_of a.0) ++ nodes (core_of b.0)) (both (costed a.0) (costed b.0)) refl (two _ _ _ _ a.1 b.1) refl refl refl refl
  layer (Core-F.Unary at op k e) = around-is _ (nodes (core_of e.0)) (costed e.0) refl e.1.sums refl refl refl refl
  layer (Core-F.Not at e) = around-is _ (nodes (core_of e.0)) (costed e.0) refl e.1.sums refl refl refl refl
  layer (Core-F.And at a b) = around-is _ (nodes (core_of a.0) ++ nodes (core_of b.0)) (both (costed a.0) (costed b.0)) refl (two _ _ _ _ a.1 b.1) refl refl refl refl
  layer (Core-F.Or at a b) = around-is _ (nodes (core_of a.0) ++ nodes (core_of b.0)) (both (costed a.0) (costed b.0)) refl (two _ _ _ _ a.1 b.1) refl refl refl refl
  layer (Core-F.PointerOperate at op a b) = around-is _ (nodes (core_of a.0) ++ nodes (core_of b.0)) (both (costed a.0) (costed b.0)) refl (two _ _ _ _ a.1 b.1) refl refl refl refl
  layer (Core-F.Conditional at c a b) =
      let x = plain.conditional (core_of c.0) (core_of a.0) (core_of b.0) in
      around-is x (nodes (core_of c.0) ++ (nodes (core_of a.0) ++ nodes (core_of b.0))) (both (costed c.0) (both (costed a.0) (costed b.0))) (ap (λ l. x ∷ l) (append_assoc (nodes (core_of c.0)) (nodes (core_of a.0)) (nodes (core_of b.0))))
      (joined _ _ _ _ c.1.sums (joined _ _ _ _ a.1.sums b.1.sums)) refl refl refl refl
  layer (Core-F.Comma at es) = around-is _ (nodes_all (listed_of es)) (all (costs_of es)) refl (row es) refl refl refl refl
  layer (Core-F.Store at a b) = around-is _ (nodes (core_of a.0) ++ nodes (core_of b.0)) (both (costed a.0) (costed b.0)) refl (two _ _ _ _ a.1 b.1) refl refl refl refl
  layer (Core-F.Update at a c b) = around-is _ (nodes (core_of a.0) ++ nodes (core_of b.0)) (both (costed a.0) (costed b.0)) refl (two _ _ _ _ a.1 b.1) refl refl refl refl
  layer (Core-F.Increment at is_postfix c e) = around-is _ (nodes (core_of e.0)) (costed e.0) refl e.1.sums refl refl refl refl
  layer (Core-F.Assign at t a b es) =
      let x = plain.assign (type_of tables t) (core_of a.0) (core_of b.0) (listed_of es) in
      around-is x (nodes (core_of a.0) ++ (nodes (core_of b.0) ++ nodes_all (listed_of es))) (both (costed a.0) (both (costed b.0) (all (costs_of es)))) (ap (λ l. x ∷ l) (append_assoc (nodes (core_of a.0)) (nodes (core_of b.0)) (nodes_all (listed_of es))))
      (joined _ _ _ _ a.1.sums (joined _ _ _ _ b.1.sums (row es))) refl refl refl refl
  layer (Core-F.Temporary at t e) = around-is _ (nodes (core_of e.0)) (costed e.0) refl (e.1.sums) refl refl refl refl
  layer (Core-F.Call at f t None es) = call-is f t None es
  layer (Core-F.Call at f t (Some o) es) = call-is f t (Some o) es
  layer (Core-F.VirtualCall at m t e es) = around-is _ (nodes (core_of e.0) ++ nodes_all (listed_of es)) (both (costed e.0) (all (costs_of es))) refl (joined _ _ _ _ (e.1.sums) (row es)) refl refl refl refl
  layer (Core-F.PointerCall at None e t es) = pointer-is None e t es
  layer (Core-F.PointerCall at (Some o) e t es) = pointer-is (Some o) e t es
  layer (Core-F.New at t e) = around-is _ (nodes (core_of e.0)) (costed e.0) refl e.1.sums refl refl refl refl
  layer (Core-F.NewArray at t n e) = around-is _ (nodes (core_of n.0) ++ nodes (core_of e.0)) (both (costed n.0) (costed e.0)) refl (two _ _ _ _ n.1 e.1) refl refl refl refl
  layer (Core-F.Delete at t e) = around-is _ (nodes (core_of e.0)) (costed e.0) refl e.1.sums refl refl refl refl
  layer (Core-F.DeleteArray at t e) = around-is _ (nodes (core_of e.0)) (costed e.0) refl e.1.sums refl refl refl refl
  layer (Core-F.Build at f t es) = around-is _ (nodes_all (listed_of es)) (all (costs_of es)) refl (row es) refl refl refl refl
  layer (Core-F.Copy at t e es) = around-is _ (nodes (core_of e.0) ++ nodes_all (listed_of es)) (both (costed e.0) (all (costs_of es))) refl (joined _ _ _ _ (e.1.sums) (row es)) refl refl refl refl
  layer (Core-F.Each at e) = each-is e
  layer (Core-F.List at es rest) = list-is es rest
  layer (Core-F.Characters at bytes) = leaf _ refl refl refl refl refl
  layer (Core-F.Bind at holder.NoTemporary e) = around-is _ (nodes (core_of e.0)) (costed e.0) refl e.1.sums refl refl refl refl
  layer (Core-F.Bind at (holder.LocalTemporary i t) e) = around-is _ (nodes (core_of e.0)) (costed e.0) refl e.1.sums refl refl refl refl
  layer (Core-F.Bind at (holder.StaticTemporary n) e) = around-is _ (nodes (core_of e.0)) (costed e.0) refl e.1.sums refl refl refl refl
  layer (Core-F.Zeros at) = leaf _ refl refl refl refl refl
  layer (Core-F.Blank at) = blank-is
  layer (Core-F.Full at e) = expression-is e
  layer (Core-F.Block at es) = around-is _ (nodes_all (listed_of es)) (all (costs_of es)) refl (row es) refl refl refl refl
  layer (Core-F.Sequence at es) = around-is _ (nodes_all (listed_of es)) (all (costs_of es)) refl (row es) refl refl refl refl
  layer (Core-F.Declare at i t e) = declare-is i (type_of tables t) e
  layer (Core-F.Once at n e) = once-is n e
  layer (Core-F.If at c a None) = choice-is c a None
  layer (Core-F.If at c a (Some b)) = choice-is c a (Some b)
  layer (Core-F.Loop at f None None s) = turns-is f None None s
  layer (Core-F.Loop at f None (Some e) s) = turns-is f None (Some e) s
  layer (Core-F.Loop at f (Some c) None s) = turns-is f (Some c) None s
  layer (Core-F.Loop at f (Some c) (Some e) s) = turns-is f (Some c) (Some e) s
  layer (Core-F.Switch at e es) = selection-is e es
  layer (Core-F.Case at z) = leaf _ refl refl refl refl refl
  layer (Core-F.Default at) = leaf _ refl refl refl refl refl
  layer (Core-F.Break at) = leaf _ refl refl refl refl refl
  layer (Core-F.Continue at) = leaf _ refl refl refl refl refl
  layer (Core-F.Return at None) = return-is None
  layer (Core-F.Return at (Some e)) = return-is (Some e)
  layer (Core-F.Parts at ps s) = building-is ps s

  weighed_roll : (x : Core-F Core PartStart) → Weighs (core_step tables signature (map-Core _ _ _ _ core_of started_of x)) (step (map-Core _ _ _ _ costed costed_part x))
      → IsWeighed (roll-Core x)
  weighed_roll x w =
      subst (λ e. Weighs e (costed (roll-Core x))) (sym (fold-roll-Core plain.Core Started (core_step tables signature) (started_step tables signature) x))
      (subst (λ c. Weighs (core_step tables signature (map-Core _ _ _ _ core_of started_of x)) c) (sym (fold-roll-Core Costs Costs step part_step x)) w)

  part_layer : (y : PartStart-F Child PartChild) → IsPartWeighed (roll-PartStart (map-PartStart _ _ _ _ (λ (c : Child). c.0) (λ (c : PartChild). c.0) y))
  part_layer y =
      let x = map-PartStart _ _ _ _ (λ (c : Child). c.0) (λ (c : PartChild). c.0) y in
      subst (λ e. Weighs (Started.start e) (costed_part (roll-PartStart x))) (sym (fold-roll-PartStart plain.Core Started (core_step tables signature) (started_step tables signature) x))
      (subst (λ c. Weighs (core_of y.start.0) c) (sym (fold-roll-PartStart Costs Costs step part_step x)) y.start.1)

  -- every node is weighed as the walk says
  pub weighed : (n : Core) → IsWeighed n
  weighed = ind-Core IsWeighed IsPartWeighed
      (λ x y is. subst (λ z. IsWeighed (roll-Core z)) is (weighed_roll (map-Core _ _ _ _ (λ (c : Child). c.0) (λ (c : PartChild). c.0) y) (layer y)))
      (λ x y is. subst (λ z. IsPartWeighed (roll-PartStart z)) is (part_layer y))
