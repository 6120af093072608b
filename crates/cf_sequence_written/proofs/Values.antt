-- What is written for each kind of expression is the definition's.
use Rattle.std.proofs.Common.{◌≡◌, ℕ, suc, ◌+◌, Bool, true, false, List, [], ◌∷◌, ◌++◌, length, ap, sym, ◌∙◌, length-append, arith}
use Rattle.std.specs.Prelude.{ℤ, pos, Option, None}
use Rattle.std.proofs.lemmas.Grind.{flat_map-append}
use Rattle.cf_base.specs.declared.arith.Arith.{Arith}
use Rattle.cf_base.specs.declared.kind.Kind.{Kind}
use Rattle.cf_classes.specs.declared.class.MemberRef.{MemberRef}
use Rattle.cf_core.specs.declared.operators.UnaryOperator.{UnaryOperator}
use Rattle.cf_core.specs.declared.operators.PointerOperator.{PointerOperator}
use Rattle.cf_core.specs.declared.node.Change.{Change}
use Rattle.cf_core.specs.declared.node.Core.TheOpen.{Core-F}
use Rattle.cf_core.specs.Types.{Name}
use Rattle.cf_core.specs.Classes.{Class}
use Rattle.cf_core.specs.Core as core
use Rattle.cf_core.specs.Core.{Core, Cores}
use Rattle.cf_core.specs.Nodes.{nodes, nodes_all}
use Rattle.cf_core.specs.FromTypes.{Tables, type_of}
use Rattle.cf_core.specs.View.{change_of}
use Rattle.cf_plain.specs.declared.action.Action.{Action}
use Rattle.cf_plain.specs.declared.action.Action.TheVariants as action
use Rattle.cf_plain.specs.Plain.{Plains, nothing, more, branch, set as sets, act as acts}
use Rattle.cf_plain.specs.Plain as plain
use Rattle.cf_plain.specs.View.{action_of}
use Rattle.cf_sequence.specs.Made.{makes, added, width, temporaries, temporaries_all}
use Rattle.cf_sequence.specs.Expressions.{Full, Destination, value, values, used as use_of}
use Rattle.cf_sequence_expr.specs.declared.writing.Full.{Full as CodeFull}
use Rattle.cf_sequence_expr.specs.declared.writing.Writing.{Writing}
use Rattle.cf_sequence_expr.specs.Writes.{set}
use Rattle.cf_sequence_expr.specs.Pieces.{Piece, piece_step, left, two, truth, all_values, updated, stepped, stepped_behind, find_two, find_right, find_all}
use Rattle.cf_sequence_written.proofs.Finding.{Finds, finds-none, finds-as, finds-wide, finds-then}
use Rattle.cf_sequence_written.proofs.Puts.{Puts, Still, still-set, still-act, still-used, still-then, puts-none, puts-as, puts-wide, puts-still, puts-then, puts-within}

pub nodes-count : (ms ns : List Core) → length (added ms) + length (added ns) ≡ length (added (ms ++ ns))
nodes-count ms ns = sym (length-append (added ms) (added ns)) ∙ ap length (sym (flat_map-append makes ms ns))

-- a full expression, as the code has it
abbrev pub full_of : Full → CodeFull
full_of x = record { first = x.first; base = x.base }

module _ (tables : Tables) (signature : MemberRef → Name) (classes : List Class) where
  -- what is written, and the temporaries that are found
  pub record Writes (p : Piece) (e : Core) : Type 0 where
    pub puts : (x : Full) (into : Option Destination) (n : ℕ) → Puts tables signature (p.value (full_of x) n) (λ k rest. value classes x e into n k rest) (width e)
    pub finds : (b : Bool) → Finds tables (p.finds b) (temporaries b e) (width e)

  -- the same of expressions in order
  pub record WritesAll (ps : List Piece) (es : Cores) : Type 0 where
    pub puts : (x : Full) (n : ℕ) → Puts tables signature (all_values ps (full_of x) n) (λ k rest. values classes x es n k rest) (length (added (nodes_all es)))
    pub finds : (b : Bool) → Finds tables (find_all ps b) (temporaries_all b es) (length (added (nodes_all es)))

  -- an action on the value of an operand
  abbrev pub Sets : ℕ → (Writing → Writing) → (ℕ → Plains → Plains) → ℕ → Action → Type 0
  Sets n f g count a = Puts tables signature (λ w. set n a (f w)) (λ k rest. g k (more (sets n (action_of tables signature a)) rest)) count

  sets-behind : {f : Writing → Writing} {g : ℕ → Plains → Plains} {count : ℕ} (n : ℕ) (a : Action) → Puts tables signature f g count → Sets n f g count a
  sets-behind n a p = puts-still tables signature p (still-set tables signature n a)

  -- one action alone
  pub sets-alone : (n : ℕ) (a : Action) → Puts tables signature (set n a) (λ k rest. more (sets n (action_of tables signature a)) rest) 0
  sets-alone n a = puts-still tables signature (puts-none tables signature) (still-set tables signature n a)

  -- Operands.

  pub puts-left : {p : Piece} {e : Core} (x : Full) (n : ℕ) → Writes p e → Puts tables signature (left p (full_of x) n) (λ k rest. value classes x e None n k (use_of n rest)) (width e)
  unfolding left
  puts-left x n w = puts-still tables signature (w.puts x None n) (still-used tables signature n)

  pub puts-two : {p q : Piece} {a b : Core} (x : Full) (n : ℕ) → Writes p a → Writes q b
      → Puts tables signature (two p q (full_of x) n) (λ k rest. value classes x a None n k (use_of n (value classes x b None (suc n) (k + width a) rest))) (length (added (nodes a ++ nodes b)))
  puts-two {p} {q} {a} {b} x n v w =
      puts-wide tables signature (puts-then tables signature (puts-left x n v) (w.puts x None (suc n))) (nodes-count (nodes a) (nodes b))

  pub puts-truth : {p : Piece} {e : Core} (x : Full) (n : ℕ) → Writes p e
      → Puts tables signature (truth p (full_of x) n) (λ k rest. value classes x e None n k (more (sets n (plain.truth n)) rest)) (width e)
  unfolding truth
  puts-truth x n w = puts-still tables signature (w.puts x None n) (still-set tables signature n (action.Truth n))

  -- The temporaries of two expressions: the second may be in a branch.

  finds-two : {p q : Piece} {a b : Core} → Writes p a → Writes q b → (c : Bool)
      → Finds tables (find_two p q c) (λ k. temporaries c a k ++ temporaries c b (k + width a)) (length (added (nodes a ++ nodes b)))
  finds-two {p} {q} {a} {b} v w c = finds-wide tables (finds-then tables (v.finds c) (w.finds c)) (nodes-count (nodes a) (nodes b))

  finds-right : {p q : Piece} {a b : Core} → Writes p a → Writes q b → (c : Bool)
      → Finds tables (find_right p q c) (λ k. temporaries c a k ++ temporaries true b (k + width a)) (length (added (nodes a ++ nodes b)))
  finds-right {p} {q} {a} {b} v w c = finds-wide tables (finds-then tables (v.finds c) (w.finds true)) (nodes-count (nodes a) (nodes b))

  -- Expressions.

  pub writes-Number : (at : ℕ) (z : ℤ) → Writes (piece_step tables.types (Core-F.Number at z)) (core.number z)
  writes-Number at z = record { puts = λ x into n. sets-alone n (action.Number z); finds = λ b. finds-none tables }

  pub writes-Text : (at j : ℕ) (bytes : List ℕ) → Writes (piece_step tables.types (Core-F.Text at j bytes)) (core.text j bytes)
  writes-Text at j bytes = record { puts = λ x into n. sets-alone n (action.Text j bytes); finds = λ b. finds-none tables }

  pub writes-Local : (at i : ℕ) → Writes (piece_step tables.types (Core-F.Local at i)) (core.local i)
  writes-Local at i = record { puts = λ x into n. sets-alone n (action.Local i); finds = λ b. finds-none tables }

  pub writes-Static : (at : ℕ) (name : Name) (t : ℕ) → Writes (piece_step tables.types (Core-F.Static at name t)) (core.static_object name (type_of tables t))
  writes-Static at name t = record { puts = λ x into n. sets-alone n (action.Static name t); finds = λ b. finds-none tables }

  pub writes-Function : (at : ℕ) (name : Name) (t : ℕ) → Writes (piece_step tables.types (Core-F.Function at name t)) (core.function name (type_of tables t))
  writes-Function at name t = record { puts = λ x into n. sets-alone n (action.Function name t); finds = λ b. finds-none tables }

  pub writes-Read : {p : Piece} {e : Core} (at : ℕ) → Writes p e → Writes (piece_step tables.types (Core-F.Read at p)) (core.read e)
  writes-Read at w = record { puts = λ x into n. sets-behind n (action.Read n) (w.puts x None n); finds = λ b. w.finds b }

  pub writes-Address : {p : Piece} {e : Core} (at : ℕ) → Writes p e → Writes (piece_step tables.types (Core-F.Address at p)) (core.address e)
  writes-Address at w = record { puts = λ x into n. puts-still tables signature (w.puts x None n) (still-used tables signature n); finds = λ b. w.finds b }

  pub writes-Dereference : {p : Piece} {e : Core} (at : ℕ) → Writes p e → Writes (piece_step tables.types (Core-F.Dereference at p)) (core.dereference e)
  writes-Dereference at w = record { puts = λ x into n. sets-behind n (action.Dereference n) (w.puts x None n); finds = λ b. w.finds b }

  pub writes-Decay : {p : Piece} {e : Core} (at : ℕ) → Writes p e → Writes (piece_step tables.types (Core-F.Decay at p)) (core.decay e)
  writes-Decay at w = record { puts = λ x into n. sets-behind n (action.Decay n) (w.puts x None n); finds = λ b. w.finds b }

  pub writes-Convert : {p : Piece} {e : Core} (at t : ℕ) → Writes p e → Writes (piece_step tables.types (Core-F.Convert at t p)) (core.convert (type_of tables t) e)
  writes-Convert at t w = record { puts = λ x into n. sets-behind n (action.Convert t n) (w.puts x None n); finds = λ b. w.finds b }

  pub writes-FromVoid : {p : Piece} {e : Core} (at t : ℕ) → Writes p e → Writes (piece_step tables.types (Core-F.FromVoid at t p)) (core.from_void (type_of tables t) e)
  writes-FromVoid at t w = record { puts = λ x into n. sets-behind n (action.FromVoid t n) (w.puts x None n); finds = λ b. w.finds b }

  pub writes-Unary : {p : Piece} {e : Core} (at : ℕ) (op : UnaryOperator) (k : Kind) → Writes p e → Writes (piece_step tables.types (Core-F.Unary at op k p)) (core.unary op k e)
  writes-Unary at op k w = record { puts = λ x into n. sets-behind n (action.Unary op k n) (w.puts x None n); finds = λ b. w.finds b }

  pub writes-Not : {p : Piece} {e : Core} (at : ℕ) → Writes p e → Writes (piece_step tables.types (Core-F.Not at p)) (core.logical_not e)
  writes-Not at w = record { puts = λ x into n. sets-behind n (action.Not n) (w.puts x None n); finds = λ b. w.finds b }

  pub writes-Index : {p q : Piece} {a b : Core} (at : ℕ) → Writes p a → Writes q b → Writes (piece_step tables.types (Core-F.Index at p q)) (core.index a b)
  writes-Index at v w = record { puts = λ x into n. sets-behind n (action.Index n (suc n)) (puts-two x n v w); finds = λ b. finds-two v w b }

  pub writes-Operate : {p q : Piece} {a b : Core} (at : ℕ) (op : Arith) (k : Kind) → Writes p a → Writes q b → Writes (piece_step tables.types (Core-F.Operate at op k p q)) (core.operate op k a b)
  writes-Operate at op k v w = record { puts = λ x into n. sets-behind n (action.Operate op k n (suc n)) (puts-two x n v w); finds = λ b. finds-two v w b }

  pub writes-PointerOperate : {p q : Piece} {a b : Core} (at : ℕ) (op : PointerOperator) → Writes p a → Writes q b
      → Writes (piece_step tables.types (Core-F.PointerOperate at op p q)) (core.pointer_operate op a b)
  writes-PointerOperate at op v w = record { puts = λ x into n. sets-behind n (action.PointerOperate op n (suc n)) (puts-two x n v w); finds = λ b. finds-two v w b }

  pub writes-Store : {p q : Piece} {a b : Core} (at : ℕ) → Writes p a → Writes q b → Writes (piece_step tables.types (Core-F.Store at p q)) (core.store a b)
  writes-Store at v w = record { puts = λ x into n. puts-still tables signature (puts-two x n v w) (still-act tables signature (action.Store n (suc n))); finds = λ b. finds-two v w b }

  -- An initialiser that does nothing.
  pub writes-Blank : (at : ℕ) → Writes (piece_step tables.types (Core-F.Blank at)) core.blank
  writes-Blank at = record { puts = λ x into n. puts-none tables signature; finds = λ b. finds-none tables }

  -- Branches.

  pub writes-And : {p q : Piece} {a b : Core} (at : ℕ) → Writes p a → Writes q b → Writes (piece_step tables.types (Core-F.And at p q)) (core.logical_and a b)
  writes-And {p} {q} {a} {b} at v w = record {
    puts = λ x into n.
        puts-wide tables signature (puts-then tables signature (puts-truth x n v) (puts-within tables signature n (puts-truth x n w) (puts-none tables signature)))
        (omega (arith, nodes-count (nodes a) (nodes b)));
    finds = λ c. finds-right v w c;
  }

  pub writes-Or : {p q : Piece} {a b : Core} (at : ℕ) → Writes p a → Writes q b → Writes (piece_step tables.types (Core-F.Or at p q)) (core.logical_or a b)
  writes-Or {p} {q} {a} {b} at v w = record {
    puts = λ x into n.
        puts-as tables signature (puts-then tables signature (puts-truth x n v) (puts-within tables signature n (puts-none tables signature) (puts-truth x n w)))
        (λ k rest. ap (λ i. value classes x a None n k (more (sets n (plain.truth n))
        (more (branch n nothing (value classes x b None n i (more (sets n (plain.truth n)) nothing))) rest))) (omega arith))
        (omega (arith, nodes-count (nodes a) (nodes b)));
    finds = λ c. finds-right v w c;
  }

  pub writes-Conditional : {o p q : Piece} {c a b : Core} (at : ℕ) → Writes o c → Writes p a → Writes q b
      → Writes (piece_step tables.types (Core-F.Conditional at o p q)) (core.conditional c a b)
  writes-Conditional {o} {p} {q} {c} {a} {b} at u v w = record {
    puts = λ x into n.
        puts-wide tables signature (puts-then tables signature (puts-truth x n u) (puts-within tables signature n (v.puts x None n) (w.puts x None n)))
        (omega (arith, nodes-count (nodes c) (nodes a), nodes-count (nodes c ++ nodes a) (nodes b)));
    finds = λ d. finds-as tables (finds-then tables (finds-then tables (u.finds d) (v.finds true)) (w.finds true))
        (λ k. let behind : k + (width c + width a) ≡ k + width c + width a = omega arith in
        ap (λ i. temporaries d c k ++ temporaries true a (k + width c) ++ temporaries true b i) behind)
        (omega (arith, nodes-count (nodes c) (nodes a), nodes-count (nodes c ++ nodes a) (nodes b)));
  }

  -- Expressions in order.

  pub writes-none : WritesAll [] core.none
  writes-none = record { puts = λ x n. puts-none tables signature; finds = λ b. finds-none tables }

  pub writes-more : {p : Piece} {e : Core} {ps : List Piece} {es : Cores} → Writes p e → WritesAll ps es → WritesAll (p ∷ ps) (core.more e es)
  writes-more {p} {e} {ps} {es} w all = record {
    puts = λ x n. puts-wide tables signature (puts-then tables signature (w.puts x None n) (all.puts x n)) (nodes-count (nodes e) (nodes_all es));
    finds = λ b. finds-wide tables (finds-then tables (w.finds b) (all.finds b)) (nodes-count (nodes e) (nodes_all es));
  }

  pub writes-Comma : {ps : List Piece} {es : Cores} (at : ℕ) → WritesAll ps es → Writes (piece_step tables.types (Core-F.Comma at ps)) (core.comma es)
  writes-Comma at all = record { puts = λ x into n. all.puts x n; finds = λ b. all.finds b }

  -- Changes in place.

  still-updated : (c : Change) (n : ℕ)
      → Still tables signature (updated c n) (λ rest. use_of (suc n) (more (sets (suc (suc n)) (plain.read n))
      (more (sets (suc n) (plain.changed (change_of c) (suc (suc n)) (suc n))) (more (acts (plain.store n (suc n))) rest))))
  unfolding updated
  still-updated c n =
      still-then tables signature
      (still-then tables signature (still-then tables signature (still-used tables signature (suc n)) (still-set tables signature (suc (suc n)) (action.Read n)))
      (still-set tables signature (suc n) (action.Changed c (suc (suc n)) (suc n))))
      (still-act tables signature (action.Store n (suc n)))

  pub writes-Update : {p q : Piece} {a b : Core} (at : ℕ) (c : Change) → Writes p a → Writes q b → Writes (piece_step tables.types (Core-F.Update at p c q)) (core.update a (change_of c) b)
  writes-Update at c v w = record { puts = λ x into n. puts-still tables signature (puts-two x n v w) (still-updated c n); finds = λ b. finds-two v w b }

  still-stepped : (c : Change) (n : ℕ)
      → Still tables signature (stepped c n) (λ rest. more (sets (suc n) (plain.read n)) (more (sets (suc (suc n)) (plain.number (pos 1)))
      (more (sets (suc n) (plain.changed (change_of c) (suc n) (suc (suc n)))) (more (acts (plain.store n (suc n))) rest))))
  unfolding stepped
  still-stepped c n =
      still-then tables signature
      (still-then tables signature (still-then tables signature (still-set tables signature (suc n) (action.Read n)) (still-set tables signature (suc (suc n)) (action.Number (pos 1))))
      (still-set tables signature (suc n) (action.Changed c (suc n) (suc (suc n)))))
      (still-act tables signature (action.Store n (suc n)))

  still-stepped_behind : (c : Change) (n : ℕ)
      → Still tables signature (stepped_behind c n) (λ rest. more (sets n (plain.read (suc n))) (more (sets (suc (suc n)) (plain.number (pos 1)))
      (more (sets (suc (suc n)) (plain.changed (change_of c) n (suc (suc n)))) (more (acts (plain.store (suc n) (suc (suc n)))) rest))))
  unfolding stepped_behind
  still-stepped_behind c n =
      still-then tables signature
      (still-then tables signature (still-then tables signature (still-set tables signature n (action.Read (suc n))) (still-set tables signature (suc (suc n)) (action.Number (pos 1))))
      (still-set tables signature (suc (suc n)) (action.Changed c n (suc (suc n)))))
      (still-act tables signature (action.Store (suc n) (suc (suc n))))

  pub writes-Increment : {p : Piece} {e : Core} (at : ℕ) (is_postfix : Bool) (c : Change) → Writes p e
      → Writes (piece_step tables.types (Core-F.Increment at is_postfix c p)) (core.step is_postfix (change_of c) e)
  writes-Increment at false c w = record { puts = λ x into n. puts-still tables signature (w.puts x None n) (still-stepped c n); finds = λ b. w.finds b }
  writes-Increment at true c w = record { puts = λ x into n. puts-still tables signature (w.puts x None (suc n)) (still-stepped_behind c n); finds = λ b. w.finds b }
