-- What is written of the locals that labels of a switch pass is the definition's.
use Rattle.std.proofs.Common.{◌≡◌, ℕ, suc, Bool, true, false, ◌&&◌, ◌||◌, nat_lt, List, [], ◌∷◌, ◌++◌, map, reverse, length, Option, Some, None, is_some, refl, ap, sym, subst, ◌∙◌, append-nil, append_assoc, arith}
use Rattle.std.specs.Prelude.{if◌then◌else◌}
use Rattle.std.proofs.lemmas.List.{reverse-append}
use Rattle.std.proofs.lemmas.Bool.Decides.{nat_tests}
use Rattle.cf_base.proofs.Tests.{both}
use Rattle.cf_classes.specs.declared.class.MemberRef.{MemberRef}
use Rattle.cf_core.specs.declared.node.Core.{Core as Node, roll-Core, ind-Core}
use Rattle.cf_core.specs.declared.node.Core.TheOpen.{Core-F}
use Rattle.cf_core.specs.declared.node.Core.TheFolds.{fold-roll-Core, map-Core}
use Rattle.cf_core.specs.declared.node.PartStart.{PartStart, fold-PartStart}
use Rattle.cf_core.specs.Types.{Name}
use Rattle.cf_core.specs.Core as core
use Rattle.cf_core.specs.Core.{Core, Cores, absent, given}
use Rattle.cf_core.specs.Valid.{is_label, has_label}
use Rattle.cf_core.specs.FromTypes.{Tables, type_of}
use Rattle.cf_core.specs.View.{Started, core_step, started_step, core_of, listed}
use Rattle.cf_plain.specs.declared.action.Action.TheVariants as action
use Rattle.cf_plain.specs.declared.statement.Plain.{Plain}
use Rattle.cf_plain.specs.declared.statement.Plain.TheVariants as code
use Rattle.cf_plain.specs.Plain.{Plains, nothing, more, leave}
use Rattle.cf_plain.specs.Plain as plain
use Rattle.cf_plain.specs.View.{plain_of}
use Rattle.cf_sequence.specs.Built.{is_value, is_statement, is_statement_or, next_local}
use Rattle.cf_sequence.specs.Made.{Local, declared, declared_all}
use Rattle.cf_sequence.specs.Statements.{made, passing, passes_local, passed}
use Rattle.cf_sequence.proofs.Calling.{never}
use Rattle.cf_sequence.proofs.Labels.{Label, a_case, the_default, mark, label-declares}
use Rattle.cf_sequence_expr.specs.declared.writing.Writing.{Writing}
use Rattle.cf_sequence_stmt.specs.declared.body.Body.{Body}
use Rattle.cf_sequence_stmt.specs.declared.body.Open.{Open}
use Rattle.cf_sequence_stmt.specs.Bodies.{on, stated, begun, switched, with_code, there, passed_at}
use Rattle.cf_sequence_stmt.specs.Steps as steps
use Rattle.cf_sequence_stmt.specs.Steps.{Step, step, step_step, all_open, labelled, passes, selected}
use Rattle.cf_sequence_written.proofs.Views.{of-Case, of-Default, of-Break}
use Rattle.cf_sequence_written.proofs.Followed.{followed}
use Rattle.cf_sequence_written.proofs.Opens.{ends, ends-more, no-opens}
use Rattle.cf_sequence_written.proofs.Held.{held_list, held-behind, held-is}
use Rattle.cf_sequence_written.proofs.Puts.{Still, still-act, still-then}
use Rattle.cf_sequence_written.proofs.Bodies.{Goes, goes-none, goes-as, goes-rest, goes-still, goes-stated, goes-alone, next-begun, scope-begun, same-scope, code-switched, next-switched, scope-switched, code-with_code, next-with_code, scope-with_code}
use Rattle.cf_sequence_written.proofs.Statements.{IsStated, AllStated, stated-statement, stated-all}

-- tests of the labels so far

same-passes : (b l q h p : Bool) → ((b || (l && q)) || ((q && h) || p)) ≡ (b || ((q && (l || h)) || p))
same-passes true l q h p = refl
same-passes false true true h p = refl
same-passes false true false h p = refl
same-passes false false q h p = refl

more-passes : (b q h p : Bool) → ((b || (false && q)) || ((true && h) || p)) ≡ (b || ((q && (false || h)) || (h || p)))
more-passes true q h p = refl
more-passes false true true p = refl
more-passes false false true p = refl
more-passes false true false p = refl
more-passes false false false p = refl

no-passes : (b q : Bool) → b ≡ (b || ((q && false) || false))
no-passes true q = refl
no-passes false true = refl
no-passes false false = refl

positive : (n : ℕ) → nat_lt 0 (suc n) ≡ true
positive n = grind (arith, nat_tests)

some-more : {A : Type 0} (xs : List A) (y : A) (ys : List A) → nat_lt 0 (length (xs ++ y ∷ ys)) ≡ true
some-more [] y ys = positive (length ys)
some-more (x ∷ xs) y ys = positive (length (xs ++ y ∷ ys))

-- the labels of a switch with what they pass, and then a rest
abbrev passing_before : List Local → Cores → Plains → Plains
passing_before before core.none rest = rest
passing_before before (core.more (core.case_label z) cs) rest = more (plain.case_label z) (made (reverse before) (more leave (passing_before before cs rest)))
passing_before before (core.more core.default_label cs) rest = more plain.default_label (made (reverse before) (more leave (passing_before before cs rest)))
passing_before before (core.more c cs) rest = passing_before (declared c ++ before) cs rest

passing-ends : (before : List Local) (cs : Cores) → passing_before before cs nothing ≡ passing before cs
passing-ends before core.none = refl
passing-ends before (core.more (core.case_label z) cs) = ap (λ ss. more (plain.case_label z) (made (reverse before) (more leave ss))) (passing-ends before cs)
passing-ends before (core.more core.default_label cs) = ap (λ ss. more plain.default_label (made (reverse before) (more leave ss))) (passing-ends before cs)
passing-ends before (core.more c cs) = passing-ends (declared c ++ before) cs

before-past : (m : ℕ) (c : Core) → is_statement m c ≡ true → (before : List Local) (cs : Cores) (rest : Plains) → passing_before before (core.more c cs) rest ≡ passing_before (declared c ++ before) cs rest
before-past m (core.case_label z) ok before cs rest = never ok
before-past m core.default_label ok before cs rest = never ok
before-past m c ok before cs rest = refl

before-label : (c : Core) (l : Label c) (before : List Local) (cs : Cores) (rest : Plains)
    → passing_before before (core.more c cs) rest ≡ more (mark l) (made (reverse before) (more leave (passing_before before cs rest)))
before-label c (a_case y e) before cs rest = ap (λ c. passing_before before (core.more c cs) rest) e
before-label c (the_default e) before cs rest = ap (λ c. passing_before before (core.more c cs) rest) e

module _ (tables : Tables) (signature : MemberRef → Name) where
  -- the label that a statement is
  pub data Marks : Option Plain → Core → Type 0 where
    no_mark : (c : Core) → is_label c ≡ false → Marks None c
    a_mark : (l : Plain) (c : Core) (label : Label c) → plain_of tables signature l ≡ mark label → Marks (Some l) c

  -- the locals that it declares
  pub record Adds (f : List Open → List Open) (ls : List Local) : Type 0 where
    pub new : List Open
    pub adds : (xs : List Open) → f xs ≡ xs ++ new
    pub ends : ends tables new ≡ ls

  pub record PassesAs (s : Step) (c : Core) : Type 0 where
    pub marks : Marks s.label c
    pub opens : IsStated c → Adds s.opens (declared c)

  pub data PassesAll : List Step → Cores → Type 0 where
    none_pass : PassesAll [] core.none
    more_pass : (s : Step) (c : Core) (ss : List Step) (cs : Cores) → PassesAs s c → PassesAll ss cs → PassesAll (s ∷ ss) (core.more c cs)

  both-add : {f g : List Open → List Open} {ls ms : List Local} → Adds f ls → Adds g ms → Adds (λ xs. g (f xs)) (ms ++ ls)
  both-add {f} {g} {ls} {ms} first second = record {
    new = first.new ++ second.new;
    adds = λ xs. ap g (first.adds xs) ∙ second.adds (xs ++ first.new) ∙ append_assoc xs first.new second.new;
    ends = ends-more tables first.new second.new ∙ ap (λ l. l ++ ends tables first.new) second.ends ∙ ap (λ l. ms ++ l) first.ends;
  }

  all-add : {ss : List Step} {cs : Cores} → PassesAll ss cs → AllStated cs → Adds (all_open ss) (declared_all cs)
  all-add none_pass ok = record { new = []; adds = λ xs. sym (append-nil xs); ends = refl }
  all-add (more_pass s c ss cs one all) ok =
      let first = one.opens ok.0 in
      let rest = all-add all ok.1 in
      record {
        new = first.new ++ rest.new;
        adds = λ xs. ap (all_open ss) (first.adds xs) ∙ rest.adds (xs ++ first.new) ∙ append_assoc xs first.new rest.new;
        ends = ends-more tables first.new rest.new ∙ ap (λ l. l ++ ends tables first.new) rest.ends ∙ ap (λ l. declared_all cs ++ l) first.ends;
      }

  -- Labels.

  still-there : (xs : List Open) → Still tables signature (there xs) (made (reverse (ends tables xs)))
  still-there [] = record { code = λ w rest. refl; next = λ w. refl }
  still-there (x ∷ xs) =
      let two = still-then tables signature (still-act tables signature (action.Declare x.number x.ty)) (still-there xs) in
      let last : Local = record { number = x.number; type = type_of tables x.ty } in
      record {
        code = λ w rest. Still.code two w rest ∙ ap (λ ls. followed tables signature w.code (made ls rest)) (sym (reverse-append (ends tables xs) (last ∷ [])));
        next = Still.next two;
      }

  goes-passed_at : (l : Plain) (p : plain.Plain) (xs : List Open) (b : Body) → plain_of tables signature l ≡ p
      → Goes tables signature (λ k rest. more p (made (reverse (ends tables xs)) (more leave rest))) 0 [] b (passed_at l xs b)
  unfolding passed_at
  goes-passed_at l p xs b is =
      goes-rest tables signature (goes-rest tables signature (goes-stated tables signature l p b is) (goes-still tables signature (stated l b) (still-there xs)))
      (goes-stated tables signature code.Break leave (on (there xs) (stated l b)) (of-Break tables signature))

  is-statement : (c : Core) (ok : IsStated c) → is_label c ≡ false → is_statement ok.below c ≡ true
  is-statement c ok e = sym (ap (λ b. b || is_statement ok.below c) e) ∙ ok.stated

  -- one label or statement, and those behind it
  one-goes : {o : Option Plain} {c : Core} → Marks o c → IsStated c → (cs : Cores) (xs zs : List Open) → ends tables zs ≡ declared c ++ ends tables xs → (b d : Body)
      → Goes tables signature (λ k rest. passing_before (ends tables zs) cs rest) 0 [] (labelled o xs b) d → Goes tables signature (λ k rest. passing_before (ends tables xs) (core.more c cs) rest) 0 [] b d
  one-goes (no_mark c e) ok cs xs zs same b d rest_goes =
      goes-as tables signature rest_goes (λ rest. ap (λ ls. passing_before ls cs rest) same ∙ sym (before-past ok.below c (is-statement c ok e) (ends tables xs) cs rest)) refl
  one-goes (a_mark l c label e) ok cs xs zs same b d rest_goes =
      goes-as tables signature (goes-rest tables signature (goes-passed_at l (mark label) xs b e) rest_goes)
      (λ rest.
      ap (λ ls. more (mark label) (made (reverse (ends tables xs)) (more leave (passing_before ls cs rest)))) (same ∙ ap (λ ls. ls ++ ends tables xs) (label-declares c label))
      ∙ sym (before-label c label (ends tables xs) cs rest)) refl

  goes-passing : {ss : List Step} {cs : Cores} → PassesAll ss cs → AllStated cs → (xs : List Open) (b : Body)
      → Goes tables signature (λ k rest. passing_before (ends tables xs) cs rest) 0 [] b (steps.passing ss xs b)
  goes-passing none_pass ok xs b = goes-none tables signature b
  goes-passing (more_pass s c ss cs one all) ok xs b =
      let first = one.opens ok.0 in
      one-goes one.marks ok.0 cs xs (s.opens xs)
      (ap (ends tables) (first.adds xs) ∙ ends-more tables xs first.new ∙ ap (λ l. l ++ ends tables xs) first.ends) b _
      (goes-passing all ok.1 (s.opens xs) (labelled s.label xs b))

  -- Whether one passes a local.

  marked : {o : Option Plain} {c : Core} → Marks o c → is_some o ≡ is_label c
  marked (no_mark c e) = sym e
  marked (a_mark l c (a_case y e) same) = sym (ap is_label e)
  marked (a_mark l c (the_default e) same) = sym (ap is_label e)

  -- what declares a local is no label
  declares-unmarked : {o : Option Plain} {c : Core} → Marks o c → (y : Open) (ys : List Open) → ends tables (y ∷ ys) ≡ declared c → is_label c ≡ false
  declares-unmarked (no_mark c e) y ys same = e
  declares-unmarked (a_mark l c label e) y ys same = let none : (y ∷ ys) ≡ [] = no-opens tables (y ∷ ys) (same ∙ label-declares c label) in absurd (cc)

  not-empty : (xs : List Local) (x : Local) (h p : Bool) → (elim (xs ++ x ∷ []) as (λ _. Bool) [ [] ↦ p | x ∷ xs ↦ h || p ]) ≡ (h || p)
  not-empty [] x h p = refl
  not-empty (y ∷ xs) x h p = refl

  one-passes : (o : Option Plain) (c : Core) → Marks o c → (cs : Cores) (new : List Open) → ends tables new ≡ declared c → (b : Bool) (xs : List Open)
      → ((b || (is_some o && nat_lt 0 (length xs))) || ((nat_lt 0 (length (xs ++ new)) && has_label cs) || passes_local cs))
      ≡ (b || ((nat_lt 0 (length xs) && (is_label c || has_label cs)) || passes_local (core.more c cs)))
  one-passes o c marks cs [] same b xs =
      let q : Bool = nat_lt 0 (length xs) in
      let h : Bool = has_label cs in
      let p : Bool = passes_local cs in
      ap (λ l. (b || (l && q)) || ((nat_lt 0 (length (xs ++ [])) && h) || p)) (marked marks)
      ∙ ap (λ ys. (b || (is_label c && q)) || ((nat_lt 0 (length ys) && h) || p)) (append-nil xs)
      ∙ same-passes b (is_label c) q h p
      ∙ ap (λ (ls : List Local). b || ((q && (is_label c || h)) || (elim ls as (λ _. Bool) [ [] ↦ p | x ∷ xs ↦ h || p ]))) same
  one-passes o c marks cs (y ∷ ys) same b xs =
      let q : Bool = nat_lt 0 (length xs) in
      let h : Bool = has_label cs in
      let p : Bool = passes_local cs in
      let none : is_label c ≡ false = declares-unmarked marks y ys same in
      ap (λ l. (b || (l && q)) || ((nat_lt 0 (length (xs ++ y ∷ ys)) && h) || p)) (marked marks ∙ none)
      ∙ ap (λ n. (b || (false && q)) || ((n && h) || p)) (some-more xs y ys)
      ∙ more-passes b q h p
      ∙ ap (λ l. b || ((q && (l || h)) || (h || p))) (sym none)
      ∙ ap (λ r. b || ((q && (is_label c || h)) || r))
      (sym (not-empty (ends tables ys) (record { number = y.number; type = type_of tables y.ty }) h p) ∙ ap (λ (ls : List Local). elim ls as (λ _. Bool) [ [] ↦ p | x ∷ xs ↦ h || p ]) same)

  passes-is : {ss : List Step} {cs : Cores} → PassesAll ss cs → AllStated cs → (b : Bool) (xs : List Open)
      → passes b ss xs ≡ (b || ((nat_lt 0 (length xs) && has_label cs) || passes_local cs))
  passes-is none_pass ok b xs = no-passes b (nat_lt 0 (length xs))
  passes-is (more_pass s c ss cs one all) ok b xs =
      let first = one.opens ok.0 in
      let so_far : Bool = b || (is_some s.label && nat_lt 0 (length xs)) in
      passes-is all ok.1 so_far (s.opens xs)
      ∙ ap (λ ys. so_far || ((nat_lt 0 (length ys) && has_label cs) || passes_local cs)) (first.adds xs)
      ∙ one-passes s.label c one.marks cs first.new first.ends b xs

  -- The switch before a switch.

  pub goes-selected : (n : ℕ) (ss : List Step) (cs : Cores) → PassesAll ss cs → AllStated cs → (b : Body)
      → Goes tables signature (λ k rest. passed n cs rest) 0 [] b (selected n ss b)
  goes-selected n ss cs all ok b = by (passes_local cs) (passes false ss []) (passes-is all ok false [])
    where
      c : Body
      c = steps.passing ss [] (begun b)

      within : Goes tables signature (λ k rest. passing_before [] cs rest) 0 [] (begun b) c
      within = goes-passing all ok [] (begun b)

      next-within : Writing.next (Body.writing c) ≡ Writing.next (Body.writing b)
      next-within = let one = Goes.next within in let two = next-begun tables signature b in omega (arith, one, two)

      scope-within : Body.scope c ≡ Body.scope b
      scope-within = same-scope tables signature within ∙ scope-begun tables signature b

      same : (d : Body) (p : Plains → Plains) → ((rest : Plains) → followed tables signature (Writing.code (Body.writing d)) rest ≡ followed tables signature (Writing.code (Body.writing b)) (p rest))
          → Writing.next (Body.writing d) ≡ Writing.next (Body.writing c) → Body.scope d ≡ Body.scope c → Goes tables signature (λ k rest. p rest) 0 [] b d
      same d p code next scope = record {
        code = code;
        next = (let inner = next-within in omega (arith, next, inner));
        opens = [];
        scope = scope ∙ scope-within ∙ sym (append-nil (Body.scope b));
        ends = refl;
      }

      by : (q r : Bool) → r ≡ q → Goes tables signature (λ k rest. if q then more (plain.switch n (passing [] cs)) rest else rest) 0 [] b
          (if r then switched n (Writing.code (Body.writing b)) c else with_code (Writing.code (Body.writing b)) c)
      by true true e =
          let before = Writing.code (Body.writing b) in
          same (switched n before c) (λ rest. more (plain.switch n (passing [] cs)) rest)
          (λ rest. code-switched tables signature n before c rest
          ∙ ap (λ ts. followed tables signature before (more (plain.switch n ts) rest)) (goes-alone tables signature b within ∙ passing-ends [] cs))
          (next-switched tables signature n before c) (scope-switched tables signature n before c)
      by false false e =
          let before = Writing.code (Body.writing b) in
          same (with_code before c) (λ rest. rest) (λ rest. ap (λ ss. followed tables signature ss rest) (code-with_code tables signature before c))
          (next-with_code tables signature before c) (scope-with_code tables signature before c)
      by true false e = absurd (cc)
      by false true e = absurd (cc)

  -- What each node is in a switch.

  abbrev of_node : Node → Core
  of_node = core_of tables signature

  abbrev IsPassed : Node → Type 0
  IsPassed n = PassesAs (step tables.types n) (of_node n)

  abbrev Child : Type 0
  Child = (n : Node) × IsPassed n

  abbrev PartChild : Type 0
  PartChild = (p : PartStart) × Unit {0}

  abbrev node_of : Child → Node
  node_of c = c.0

  abbrev part_of : PartChild → PartStart
  part_of c = c.0

  abbrev started_of : PartStart → Started
  started_of = fold-PartStart Core Started (core_step tables signature) (started_step tables signature)

  abbrev part_step_of : PartStart → Step
  part_step_of = fold-PartStart Step Step (step_step tables.types) (steps.part_step tables.types)

  abbrev shape : Core-F Child PartChild → Core-F Node PartStart
  shape y = map-Core _ _ _ _ node_of part_of y

  abbrev cores_of : List Child → Cores
  cores_of es = listed (map of_node (map node_of es))

  row : (es : List Child) → PassesAll (map (step tables.types) (map node_of es)) (cores_of es)
  row [] = none_pass
  row (e ∷ es) = more_pass (step tables.types e.0) (of_node e.0) (map (step tables.types) (map node_of es)) (cores_of es) e.1 (row es)

  abbrev of : Child → Core
  of c = of_node c.0

  none-added : Adds (λ xs. xs) []
  none-added = record { new = []; adds = λ xs. sym (append-nil xs); ends = refl }

  abbrev IsLayer : Core-F Node PartStart → Type 0
  IsLayer x =
      PassesAs (step_step tables.types (map-Core _ _ _ _ (step tables.types) part_step_of x)) (core_step tables signature (map-Core _ _ _ _ of_node started_of x))

  layer : (y : Core-F Child PartChild) → IsLayer (shape y)
  layer (Core-F.Declare at i t e) = record {
    marks = no_mark _ refl;
    opens = λ ok.
        let x : Open = record { number = i; ty = t } in
        let held = Step.held (step tables.types e.0) in
        record {
          new = held_list held ++ x ∷ [];
          adds = λ xs. ap (λ ys. ys ++ x ∷ []) (held-behind held xs) ∙ append_assoc xs (held_list held) (x ∷ []);
          ends = ends-more tables (held_list held) (x ∷ []) ∙ ap (λ ls. record { number = i; type = type_of tables t } ∷ ls) (held-is tables signature e.0);
        };
  }
  layer (Core-F.Sequence at es) = record { marks = no_mark _ refl; opens = λ ok. all-add (row es) (stated-all ok.below (cores_of es) ok.stated) }
  layer (Core-F.If at q a None) = record {
    marks = no_mark _ refl;
    opens = λ ok.
        let parts = both (is_value (of q)) (is_statement ok.below (of a) && is_statement_or (next_local ok.below (of a)) absent) ok.stated in
        let sides = both (is_statement ok.below (of a)) (is_statement_or (next_local ok.below (of a)) absent) parts.1 in
        a.1.opens (stated-statement ok.below (of a) sides.0);
  }
  layer (Core-F.If at q a (Some o)) = record {
    marks = no_mark _ refl;
    opens = λ ok.
        let parts = both (is_value (of q)) (is_statement ok.below (of a) && is_statement_or (next_local ok.below (of a)) (given (of o))) ok.stated in
        let sides = both (is_statement ok.below (of a)) (is_statement_or (next_local ok.below (of a)) (given (of o))) parts.1 in
        both-add (a.1.opens (stated-statement ok.below (of a) sides.0)) (o.1.opens (stated-statement (next_local ok.below (of a)) (of o) sides.1));
  }
  layer (Core-F.Case at z) = record { marks = a_mark (code.Case z) (core.case_label z) (a_case z refl) (of-Case tables signature z); opens = λ ok. none-added }
  layer (Core-F.Default at) = record { marks = a_mark code.Default core.default_label (the_default refl) (of-Default tables signature); opens = λ ok. none-added }
  layer y = record { marks = no_mark _ refl; opens = λ ok. none-added }

  rolled : (x : Core-F Node PartStart) → IsLayer x → IsPassed (roll-Core x)
  rolled x p =
      subst (λ s. PassesAs s (of_node (roll-Core x))) (sym (fold-roll-Core Step Step (step_step tables.types) (steps.part_step tables.types) x))
      (subst (λ c. PassesAs (step_step tables.types (map-Core _ _ _ _ (step tables.types) part_step_of x)) c)
      (sym (fold-roll-Core Core Started (core_step tables signature) (started_step tables signature) x)) p)

  passed-node : (n : Node) → IsPassed n
  passed-node = ind-Core IsPassed (λ p. Unit {0}) (λ x y is. subst (λ z. IsPassed (roll-Core z)) is (rolled (shape y) (layer y))) (λ x y is. tt)

  pub passed-nodes : (ns : List Node) → PassesAll (map (step tables.types) ns) (listed (map of_node ns))
  passed-nodes [] = none_pass
  passed-nodes (n ∷ ns) = more_pass (step tables.types n) (of_node n) (map (step tables.types) ns) (listed (map of_node ns)) (passed-node n) (passed-nodes ns)
