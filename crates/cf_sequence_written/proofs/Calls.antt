-- What is written for arguments and calls is the definition's.
use Rattle.std.proofs.Common.{◌≡◌, ℕ, zero, suc, ◌+◌, ◌-◌, ◌<◌, ◌≤◌, Bool, false, List, [], ◌∷◌, ◌++◌, map, length, refl, ap, sym, ◌∙◌, subst, arith, drop, drop-cons, length-drop, length-append, get_or}
use Rattle.std.specs.Prelude.{Option, Some, None, slice_get, if◌then◌else◌}
use Rattle.std.proofs.lemmas.Option.{slice_get_past, slice_get-get_or}
use Rattle.std.proofs.lemmas.List.{length-map}
use Rattle.cf_classes.specs.declared.class.MemberRef.{MemberRef}
use Rattle.cf_core.specs.declared.node.Core.TheOpen.{Core-F}
use Rattle.cf_core.specs.Types.{Name, SourceType, parameters, result, is_class}
use Rattle.cf_core.specs.Classes.{Class}
use Rattle.cf_core.specs.Core as core
use Rattle.cf_core.specs.Core.{Core, Cores, absent}
use Rattle.cf_core.specs.Nodes.{nodes, nodes_all}
use Rattle.cf_core.specs.FromTypes.{Tables, type_of}
use Rattle.cf_plain.specs.declared.action.Action.TheVariants as action
use Rattle.cf_plain.specs.Plain.{Plains, more, set as sets, act as acts}
use Rattle.cf_plain.specs.Plain as plain
use Rattle.cf_sequence.specs.Made.{added, width, numbers, temporaries, temporaries_all}
use Rattle.cf_sequence.specs.Expressions.{Full, Destination, destination, settled, builds, value, arguments, result_register, used as use_of}
use Rattle.cf_sequence_expr.specs.Finds.{skipped}
use Rattle.cf_sequence_expr.specs.Writes.{set, act, used, passed}
use Rattle.cf_sequence_expr.specs.Parameters.{parameters_at, counted}
use Rattle.cf_sequence_expr.specs.Pieces as pieces
use Rattle.cf_sequence_expr.specs.Pieces.{Piece, piece_step, argument, called, callee, pointed, find_all}
use Rattle.cf_sequence_written.proofs.Finding.{Finds, finds-none, finds-skipped, finds-as, finds-wide, finds-then}
use Rattle.cf_sequence_written.proofs.Followed.{followed}
use Rattle.cf_sequence_written.proofs.Puts.{Puts, still-set, still-act, still-used, puts-none, puts-as, puts-wide, puts-passed, puts-still, still-puts, puts-then}
use Rattle.cf_sequence_written.proofs.Values.{Writes, full_of, nodes-count}

-- Lists.

past : (ts : List ℕ) (j : ℕ) → drop j ts ≡ [] → length ts ≤ j
past ts j none = let count : length ts - j ≡ 0 = sym (length-drop j ts) ∙ ap length none in omega (arith, count)

at-drop : (ts : List ℕ) (j t : ℕ) (us : List ℕ) → drop j ts ≡ t ∷ us → (slice_get ts j ≡ Some t) × (drop (suc j) ts ≡ us)
at-drop ts j t us is =
    let count : length ts - j ≡ suc (length us) = sym (length-drop j ts) ∙ ap length is in
    let within : j < length ts = omega (arith, count) in
    let both : t ∷ us ≡ get_or ts j t ∷ drop (suc j) ts = sym is ∙ drop-cons ts j t within in
    (slice_get-get_or ts j t within ∙ ap Some (sym (ap (λ l. get_or l 0 t) both)), sym (ap (drop 1) both))

no-further : (ts : List ℕ) (j : ℕ) → drop j ts ≡ [] → drop (suc j) ts ≡ []
no-further [] zero none = refl
no-further [] (suc j) none = refl
no-further (t ∷ ts) zero none = let count : suc (length ts) ≡ 0 = ap length none in absurd (omega (arith, count))
no-further (t ∷ ts) (suc j) none = no-further ts j none

numbers-counted : (T : ℕ → SourceType) (k : ℕ) (ts : List ℕ) → counted k (length ts) ≡ numbers k (map T ts)
numbers-counted T k [] = refl
numbers-counted T k (t ∷ ts) = ap (λ ks. k ∷ ks) (numbers-counted T (suc k) ts)

module _ (tables : Tables) (signature : MemberRef → Name) (classes : List Class) where
  -- arguments for the parameters of these types from number j on, which are the locals from k
  pub record WritesArguments (ps : List Piece) (es : Cores) : Type 0 where
    pub puts : (x : Full) (ts : List ℕ) (j : ℕ) (us : List ℕ) → drop j ts ≡ us → (n i k : ℕ) → i ≡ k + j
        → Puts tables signature (pieces.arguments ts j ps (full_of x) n k) (λ m rest. arguments classes x (map (type_of tables) us) es n i m rest) (length (added (nodes_all es)))
    pub finds : (b : Bool) → Finds tables (find_all ps b) (temporaries_all b es) (length (added (nodes_all es)))

  pub arguments-none : WritesArguments [] core.none
  arguments-none = record { puts = λ x ts j us is n i k at. by-types x us n i; finds = λ b. finds-none tables }
    where
      by-types : (x : Full) (us : List ℕ) (n i : ℕ) → Puts tables signature (λ w. w) (λ m rest. arguments classes x (map (type_of tables) us) core.none n i m rest) 0
      by-types x [] n i = puts-none tables signature
      by-types x (u ∷ us) n i = puts-none tables signature

  -- an argument behind the declaration of its parameter's object
  puts-argument : {p : Piece} {e : Core} (x : Full) (t n i : ℕ) → Writes tables signature classes p e → builds e ≡ false
      → Puts tables signature (argument (Some t) p (full_of x) n i)
      (λ k rest. more (sets n (plain.declare i (type_of tables t))) (value classes x e (destination n (type_of tables t)) (suc n) k (settled e n (suc n) rest))) (width e)
  unfolding argument
  puts-argument {p} {e} x t n i w gives =
      puts-as tables signature
      (still-puts tables signature (still-set tables signature n (action.Declare i t))
      (puts-still tables signature (w.puts x (destination n (type_of tables t)) (suc n)) (still-act tables signature (action.First n (suc n)))))
      (λ k rest. ap (λ b. more (sets n (plain.declare i (type_of tables t))) (value classes x e (destination n (type_of tables t)) (suc n) k
      (if b then rest else more (acts (plain.first n (suc n))) rest))) (sym gives)) refl

  -- one without a parameter
  puts-no_argument : (p : Piece) (e : Core) (x : Full) (n i : ℕ) → length (p.locals []) ≡ width e → Puts tables signature (argument None p (full_of x) n i) (λ k rest. rest) (width e)
  unfolding argument
  puts-no_argument p e x n i count = puts-wide tables signature (puts-passed tables signature (length (p.locals []))) count

  pub arguments-more : {p : Piece} {e : Core} {ps : List Piece} {es : Cores}
      → Writes tables signature classes p e → builds e ≡ false → length (p.locals []) ≡ width e → WritesArguments ps es → WritesArguments (p ∷ ps) (core.more e es)
  arguments-more {p} {e} {ps} {es} w gives count all = record {
    puts = by-types;
    finds = λ b. finds-wide tables (finds-then tables (w.finds b) (all.finds b)) (nodes-count (nodes e) (nodes_all es));
  }
    where
      by-types : (x : Full) (ts : List ℕ) (j : ℕ) (us : List ℕ) → drop j ts ≡ us → (n i k : ℕ) → i ≡ k + j
          → Puts tables signature (pieces.arguments ts j (p ∷ ps) (full_of x) n k) (λ m rest. arguments classes x (map (type_of tables) us) (core.more e es) n i m rest) (length (added (nodes e ++ nodes_all es)))
      by-types x ts j [] is n i k at =
          puts-wide tables signature
          (subst (λ o. Puts tables signature (λ w. pieces.arguments ts (suc j) ps (full_of x) n k (argument o p (full_of x) n (k + j) w)) (λ m rest. rest) (width e + length (added (nodes_all es))))
          (sym (slice_get_past ts j (past ts j is)))
          (puts-then tables signature (puts-no_argument p e x n (k + j) count) (all.puts x ts (suc j) [] (no-further ts j is) n (suc i) k (omega (arith, at)))))
          (nodes-count (nodes e) (nodes_all es))
      by-types x ts j (t ∷ us) is n i k at =
          let here = at-drop ts j t us is in
          puts-wide tables signature
          (subst (λ o. Puts tables signature (λ w. pieces.arguments ts (suc j) ps (full_of x) n k (argument o p (full_of x) n (k + j) w))
          (λ m rest. arguments classes x (map (type_of tables) (t ∷ us)) (core.more e es) n i m rest) (width e + length (added (nodes_all es))))
          (sym here.0)
          (subst (λ b. Puts tables signature (λ w. pieces.arguments ts (suc j) ps (full_of x) n k (argument (Some t) p (full_of x) n b w))
          (λ m rest. arguments classes x (map (type_of tables) (t ∷ us)) (core.more e es) n i m rest) (width e + length (added (nodes_all es)))) at
          (puts-then tables signature (puts-argument x t n i w gives) (all.puts x ts (suc j) us here.1 n (suc i) k (omega (arith, at))))))
          (nodes-count (nodes e) (nodes_all es))

  no-result : (t : SourceType) (into : Option Destination) → is_class (result t) ≡ false → None ≡ result_register t into
  no-result t None scalar = refl
  no-result t (Some d) scalar = ap (λ b. if b then Some d.register else None) (sym scalar)

  -- the objects of the parameters, the arguments, and the call; its locals are numbered from k
  calling : {ps : List Piece} {es : Cores} (x : Full) (name : Name) (t : ℕ) (ts : List ℕ) (n k : ℕ) → WritesArguments ps es
      → Puts tables signature (λ w. set n (action.Call name t None (counted k (length ts)) None) (pieces.arguments ts 0 ps (full_of x) n k (passed (length ts) (act (action.Function name t) w))))
      (λ m rest. more (acts (plain.function name (type_of tables t))) (arguments classes x (map (type_of tables) ts) es n k (m + length ts)
      (more (sets n (plain.call name (type_of tables t) None (counted k (length ts)) None)) rest))) (length ts + length (added (nodes_all es)))
  calling x name t ts n k all =
      puts-still tables signature
      (puts-then tables signature (still-puts tables signature (still-act tables signature (action.Function name t)) (puts-passed tables signature (length ts)))
      (all.puts x ts 0 ts refl n k k (omega arith)))
      (still-set tables signature n (action.Call name t None (counted k (length ts)) None))

  as-called : (x : Full) (name : Name) (t : SourceType) (ts : List SourceType) (es : Cores) (into : Option Destination) (count : ℕ) (n k : ℕ) (rest : Plains)
      → count ≡ length ts → ts ≡ parameters t → is_class (result t) ≡ false
      → more (acts (plain.function name t)) (arguments classes x ts es n k (k + count) (more (sets n (plain.call name t None (numbers k ts) None)) rest))
      ≡ value classes x (core.call name t absent es) into n k rest
  as-called x name t ts es into count n k rest all params scalar =
      let behind : k + count ≡ k + length ts + 0 = omega (arith, all) in
      ap (λ m. more (acts (plain.function name t)) (arguments classes x ts es n k m (more (sets n (plain.call name t None (numbers k ts) None)) rest))) behind
      ∙ ap (λ us. more (acts (plain.function name t)) (arguments classes x us es n k (k + length us + 0) (more (sets n (plain.call name t None (numbers k us) None)) rest))) params
      ∙ ap (λ r. more (acts (plain.function name t)) (arguments classes x (parameters t) es n k (k + length (parameters t) + 0)
      (more (sets n (plain.call name t None (numbers k (parameters t)) r)) rest))) (no-result t into scalar)

  puts-called : {ps : List Piece} {es : Cores} (x : Full) (name : Name) (t : ℕ) (ts : List ℕ) (into : Option Destination) (n : ℕ)
      → map (type_of tables) ts ≡ parameters (type_of tables t) → is_class (result (type_of tables t)) ≡ false → WritesArguments ps es
      → Puts tables signature (called name t ts ps (full_of x) n) (λ k rest. value classes x (core.call name (type_of tables t) absent es) into n k rest)
      (width (core.call name (type_of tables t) absent es))
  unfolding called
  puts-called {ps} {es} x name t ts into n params scalar all =
      let T = type_of tables in
      let size : length ts ≡ length (map T ts) = sym (length-map ts T) in
      let count : length ts + length (added (nodes_all es)) ≡ length (parameters (T t) ++ added (nodes_all es)) =
      ap (λ m. m + length (added (nodes_all es))) (size ∙ ap length params) ∙ sym (length-append (parameters (T t)) (added (nodes_all es))) in
      record {
        code = λ w rest.
            Puts.code (calling x name t ts n w.next all) w rest
            ∙ ap (λ ks. followed tables signature w.code (more (acts (plain.function name (T t))) (arguments classes x (map T ts) es n w.next (w.next + length ts)
            (more (sets n (plain.call name (T t) None ks None)) rest)))) (numbers-counted T w.next ts)
            ∙ ap (followed tables signature w.code) (as-called x name (T t) (map T ts) es into (length ts) n w.next rest size params scalar);
        next = λ w. Puts.next (calling x name t ts n w.next all) w ∙ ap (λ m. w.next + m) count;
      }

  -- the objects of the parameters, the pointer, the arguments, and the call
  pointing : {p : Piece} {e : Core} {ps : List Piece} {es : Cores} (x : Full) (t : ℕ) (ts : List ℕ) (n k : ℕ) → Writes tables signature classes p e → WritesArguments ps es
      → Puts tables signature (λ w. set n (action.PointerCall None n t (counted k (length ts)) None) (pieces.arguments ts 0 ps (full_of x) (suc n) k (used n (p.value (full_of x) n (passed (length ts) w)))))
      (λ m rest. value classes x e None n (m + length ts) (use_of n (arguments classes x (map (type_of tables) ts) es (suc n) k (m + (length ts + width e))
      (more (sets n (plain.pointer_call None n (type_of tables t) (counted k (length ts)) None)) rest)))) ((length ts + width e) + length (added (nodes_all es)))
  pointing x t ts n k one all =
      puts-still tables signature
      (puts-then tables signature
      (puts-still tables signature (puts-then tables signature (puts-passed tables signature (length ts)) (Writes.puts one x None n)) (still-used tables signature n))
      (all.puts x ts 0 ts refl (suc n) k k (omega arith)))
      (still-set tables signature n (action.PointerCall None n t (counted k (length ts)) None))

  as-pointed : (x : Full) (e : Core) (t : SourceType) (ts : List SourceType) (es : Cores) (into : Option Destination) (count : ℕ) (n k : ℕ) (rest : Plains)
      → count ≡ length ts → ts ≡ parameters t → is_class (result t) ≡ false
      → value classes x e None n (k + count) (use_of n (arguments classes x ts es (suc n) k (k + (count + width e)) (more (sets n (plain.pointer_call None n t (numbers k ts) None)) rest)))
      ≡ value classes x (core.pointer_call absent e t es) into n k rest
  as-pointed x e t ts es into count n k rest all params scalar =
      let first : k + count ≡ k + length ts + 0 = omega (arith, all) in
      let second : k + (count + width e) ≡ k + length ts + 0 + width e = omega (arith, all) in
      let call : Option ℕ → List SourceType → Plains = λ r us. more (sets n (plain.pointer_call None n t (numbers k us) r)) rest in
      ap (λ m. value classes x e None n m (use_of n (arguments classes x ts es (suc n) k (k + (count + width e)) (call None ts)))) first
      ∙ ap (λ m. value classes x e None n (k + length ts + 0) (use_of n (arguments classes x ts es (suc n) k m (call None ts)))) second
      ∙ ap (λ us. value classes x e None n (k + length us + 0) (use_of n (arguments classes x us es (suc n) k (k + length us + 0 + width e) (call None us)))) params
      ∙ ap (λ r. value classes x e None n (k + length (parameters t) + 0)
      (use_of n (arguments classes x (parameters t) es (suc n) k (k + length (parameters t) + 0 + width e) (call r (parameters t))))) (no-result t into scalar)

  puts-pointed : {p : Piece} {e : Core} {ps : List Piece} {es : Cores} (x : Full) (t : ℕ) (ts : List ℕ) (into : Option Destination) (n : ℕ)
      → map (type_of tables) ts ≡ parameters (type_of tables t) → is_class (result (type_of tables t)) ≡ false → Writes tables signature classes p e → WritesArguments ps es
      → Puts tables signature (λ w. pointed t ts ps (full_of x) n w.next (callee ts p (full_of x) n w)) (λ k rest. value classes x (core.pointer_call absent e (type_of tables t) es) into n k rest)
      (width (core.pointer_call absent e (type_of tables t) es))
  unfolding callee pointed
  puts-pointed {p} {e} {ps} {es} x t ts into n params scalar one all =
      let T = type_of tables in
      let size : length ts ≡ length (map T ts) = sym (length-map ts T) in
      let own : length ts ≡ length (parameters (T t)) = size ∙ ap length params in
      let parts = nodes-count (nodes e) (nodes_all es) in
      let together = length-append (parameters (T t)) (added (nodes e ++ nodes_all es)) in
      let count : (length ts + width e) + length (added (nodes_all es)) ≡ length (parameters (T t) ++ added (nodes e ++ nodes_all es)) = omega (arith, own, parts, together) in
      record {
        code = λ w rest.
            Puts.code (pointing x t ts n w.next one all) w rest
            ∙ ap (λ ks. followed tables signature w.code (value classes x e None n (w.next + length ts) (use_of n (arguments classes x (map T ts) es (suc n) w.next (w.next + (length ts + width e))
            (more (sets n (plain.pointer_call None n (T t) ks None)) rest))))) (numbers-counted T w.next ts)
            ∙ ap (followed tables signature w.code) (as-pointed x e (T t) (map T ts) es into (length ts) n w.next rest size params scalar);
        next = λ w. Puts.next (pointing x t ts n w.next one all) w ∙ ap (λ m. w.next + m) count;
      }

  -- The temporaries of a call: the objects of its parameters are passed.

  params-counted : (t : ℕ) (ts : List ℕ) → map (type_of tables) ts ≡ parameters (type_of tables t) → length ts ≡ length (parameters (type_of tables t))
  params-counted t ts params = sym (length-map ts (type_of tables)) ∙ ap length params

  finds-called : {ps : List Piece} {es : Cores} (name : Name) (t : ℕ) (ts : List ℕ) (b : Bool) → map (type_of tables) ts ≡ parameters (type_of tables t) → WritesArguments ps es
      → Finds tables (λ f. find_all ps b (skipped (length ts) f)) (temporaries b (core.call name (type_of tables t) absent es)) (width (core.call name (type_of tables t) absent es))
  finds-called {ps} {es} name t ts b params all =
      let own = params-counted t ts params in
      let together = length-append (parameters (type_of tables t)) (added (nodes_all es)) in
      finds-as tables (finds-then tables (finds-skipped tables (length ts)) (all.finds b))
      (λ k. let behind : k + length ts ≡ k + length (parameters (type_of tables t)) + 0 = omega (arith, own) in ap (temporaries_all b es) behind)
      (omega (arith, own, together))

  finds-pointed : {p : Piece} {e : Core} {ps : List Piece} {es : Cores} (t : ℕ) (ts : List ℕ) (b : Bool) → map (type_of tables) ts ≡ parameters (type_of tables t)
      → Writes tables signature classes p e → WritesArguments ps es
      → Finds tables (λ f. find_all ps b (p.finds b (skipped (length ts) f))) (temporaries b (core.pointer_call absent e (type_of tables t) es))
      (width (core.pointer_call absent e (type_of tables t) es))
  finds-pointed {p} {e} {ps} {es} t ts b params one all =
      let own = params-counted t ts params in
      let parts = nodes-count (nodes e) (nodes_all es) in
      let together = length-append (parameters (type_of tables t)) (added (nodes e ++ nodes_all es)) in
      finds-as tables (finds-then tables (finds-skipped tables (length ts)) (finds-then tables (Writes.finds one b) (all.finds b)))
      (λ k.
      let first : k + length ts ≡ k + length (parameters (type_of tables t)) + 0 = omega (arith, own) in
      ap (λ i. temporaries b e i ++ temporaries_all b es (i + width e)) first)
      (omega (arith, own, parts, together))

  pub writes-PointerCall : {p : Piece} {e : Core} {ps : List Piece} {es : Cores} (at t : ℕ) → map (type_of tables) (parameters_at tables.types t) ≡ parameters (type_of tables t)
      → is_class (result (type_of tables t)) ≡ false → Writes tables signature classes p e → WritesArguments ps es
      → Writes tables signature classes (piece_step tables.types (Core-F.PointerCall at None p t ps)) (core.pointer_call absent e (type_of tables t) es)
  writes-PointerCall at t params scalar one all = record {
    puts = λ x into n. puts-pointed x t (parameters_at tables.types t) into n params scalar one all;
    finds = λ b. finds-pointed t (parameters_at tables.types t) b params one all;
  }

  pub writes-Call : {ps : List Piece} {es : Cores} (at : ℕ) (name : Name) (t : ℕ) → map (type_of tables) (parameters_at tables.types t) ≡ parameters (type_of tables t)
      → is_class (result (type_of tables t)) ≡ false → WritesArguments ps es
      → Writes tables signature classes (piece_step tables.types (Core-F.Call at name t None ps)) (core.call name (type_of tables t) absent es)
  writes-Call at name t params scalar all = record {
    puts = λ x into n. puts-called x name t (parameters_at tables.types t) into n params scalar all;
    finds = λ b. finds-called name t (parameters_at tables.types t) b params all;
  }
