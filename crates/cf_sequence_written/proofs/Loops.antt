-- What is written for loops and switches is the definition's.
use Rattle.std.proofs.Common.{◌≡◌, ℕ, ◌+◌, true, List, [], ◌∷◌, ◌++◌, length, refl, ap, sym, subst, ◌∙◌, append-nil, arith}
use Rattle.std.specs.Prelude.{Option, Some, None}
use Rattle.cf_classes.specs.declared.class.MemberRef.{MemberRef}
use Rattle.cf_core.specs.declared.operators.LoopForm.{LoopForm}
use Rattle.cf_core.specs.declared.operators.LoopForm.TheVariants as form
use Rattle.cf_core.specs.Types.{Name}
use Rattle.cf_core.specs.Classes.{Class}
use Rattle.cf_core.specs.Core as core
use Rattle.cf_core.specs.Core.{Core, Cores, MaybeCore, absent, given}
use Rattle.cf_core.specs.Nodes.{nodes, nodes_all, nodes_maybe}
use Rattle.cf_core.specs.FromTypes.{Tables}
use Rattle.cf_plain.specs.declared.statement.Plain.{Plain}
use Rattle.cf_plain.specs.declared.statement.Plain.TheVariants as code
use Rattle.cf_plain.specs.Plain.{Plains, nothing, more, branch, leave}
use Rattle.cf_plain.specs.Plain as plain
use Rattle.cf_plain.specs.View.{plain_of, plains_of}
use Rattle.cf_sequence.specs.Built.{are_cases}
use Rattle.cf_sequence.specs.Made.{added, width, width_maybe, declared, declared_all}
use Rattle.cf_sequence.specs.Expressions.{finished}
use Rattle.cf_sequence.specs.Statements.{Inside, statement, statements, in_loop, in_switch, passed}
use Rattle.cf_sequence.specs.Statements as definition
use Rattle.cf_sequence_expr.specs.declared.writing.Writing.{Writing}
use Rattle.cf_sequence_stmt.specs.declared.body.Body.{Body}
use Rattle.cf_sequence_stmt.specs.declared.body.Ways.{Ways}
use Rattle.cf_sequence_stmt.specs.Bodies.{begun, tested, turned, with_code, behind_flags}
use Rattle.cf_sequence_stmt.specs.Bodies as bodies
use Rattle.cf_sequence_stmt.specs.Steps.{Step, held, stepped, turn, loop, cases, selected, selection, inside_loop, inside_switch}
use Rattle.cf_sequence_written.proofs.Views.{of-If, of-Break}
use Rattle.cf_sequence_written.proofs.Followed.{followed, followed-end}
use Rattle.cf_sequence_written.proofs.Values.{nodes-count}
use Rattle.cf_sequence_written.proofs.Bodies.{Goes, goes-none, goes-as, goes-rest, goes-stated, goes-closed, goes-alone, code-begun, next-begun, scope-begun, same-scope, code-turned, next-turned, scope-turned, code-switched, next-switched, scope-switched, code-with_code, next-with_code, scope-with_code}
use Rattle.cf_sequence_written.proofs.Standing.{Stands, stands-in_loop, stands-in_switch}
use Rattle.cf_sequence_written.proofs.Wholes.{Whole, register, goes-full, goes-given, goes-tested}
use Rattle.cf_sequence_written.proofs.Statements.{Acts, ActsAll, IsStated, stated-cases}
use Rattle.cf_sequence_written.proofs.Passed.{PassesAll, goes-selected}

maybe-count : (c : MaybeCore) → width_maybe c ≡ length (added (nodes_maybe c))
maybe-count absent = refl
maybe-count (given c) = refl

module _ (tables : Tables) (signature : MemberRef → Name) where
  -- the condition of a loop, or its step
  pub data Part : Option Step → MaybeCore → Type 0 where
    no_part : Part None absent
    one_part : (s : Step) (e : Core) → Whole tables signature s.piece e → Part (Some s) (given e)

  goes-held : {o : Option Step} {c : MaybeCore} (classes : List Class) (b : Body) → Part o c
      → Goes tables signature (λ k rest. definition.held classes c k rest) (width_maybe c) [] b (held o b)
  goes-held classes b no_part = goes-none tables signature b
  goes-held classes b (one_part s e w) =
      let r = behind_flags 0 s.piece in
      let out : plain_of tables signature (code.If r [] (code.Break ∷ [])) ≡ branch (0 + width e) nothing (more leave nothing) =
      of-If tables signature r [] (code.Break ∷ []) ∙ ap (λ q. branch q nothing (more (plain_of tables signature code.Break) nothing)) (register tables signature w)
      ∙ ap (λ s. branch (0 + width e) nothing (more s nothing)) (of-Break tables signature) in
      goes-as tables signature
      (goes-rest tables signature (goes-tested tables signature classes b w) (goes-stated tables signature (code.If r [] (code.Break ∷ [])) _ (tested s.piece b) out))
      (λ rest. refl) refl

  -- what the step does, before a rest
  abbrev step_before : Inside → MaybeCore → ℕ → Plains → Plains
  step_before f absent k rest = rest
  step_before f (given e) k rest = statement f (core.full e) k rest

  goes-stepped : {o : Option Step} {c : MaybeCore} (f : Inside) (b : Body) → Part o c → Goes tables signature (λ k rest. step_before f c k rest) (width_maybe c) [] b (stepped o b)
  goes-stepped f b no_part = goes-none tables signature b
  goes-stepped f b (one_part s e w) = goes-full tables signature f b w

  step-is : (f : Inside) (c : MaybeCore) (k : ℕ) → step_before f c k nothing ≡ definition.stepped f.classes c k
  step-is f absent k = refl
  step-is f (given e) k = refl

  -- the body of a turn
  goes-turn : {s : Step} {c : Core} → Acts tables signature s c → IsStated c → (f : Inside) (ways : Ways) (b : Body) → Stands tables f ways b.scope
      → Goes tables signature (λ k rest. statement (in_loop f) c k (finished (declared c) rest)) (width c) [] b (turn s b)
  goes-turn one ok f ways b at = goes-closed tables signature (Acts.acts one ok (in_loop f) (inside_loop b) b (stands-in_loop tables b at))

  -- A loop is written behind what was written of its condition and its step.
  module _ (o p : Option Step) (s : Step) (c e : MaybeCore) (body : Core) (to : Part o c) (ep : Part p e) (one : Acts tables signature s body) (ok : IsStated body)
      (f : Inside) (ways : Ways) (b : Body) (at : Stands tables f ways b.scope) where
    abbrev first : Body
    first = held o (begun b)

    abbrev second : Body
    second = stepped p (begun first)

    abbrev start : ℕ
    start = Writing.next b.writing

    abbrev inner : Plains
    inner = statement (in_loop f) body (start + width_maybe c + width_maybe e) (finished (declared body) nothing)

    test : Goes tables signature (λ k rest. definition.held f.classes c k rest) (width_maybe c) [] (begun b) first
    test = goes-held f.classes (begun b) to

    further : Goes tables signature (λ k rest. step_before f e k rest) (width_maybe e) [] (begun first) second
    further = goes-stepped f (begun first) ep

    at-first : Writing.next (Body.writing first) ≡ start + width_maybe c
    at-first = Goes.next test ∙ ap (λ k. k + width_maybe c) (next-begun tables signature b)

    at-second : Writing.next (Body.writing second) ≡ start + width_maybe c + width_maybe e
    at-second = Goes.next further ∙ ap (λ k. k + width_maybe e) (next-begun tables signature first ∙ at-first)

    scope-second : Body.scope second ≡ b.scope
    scope-second = same-scope tables signature further ∙ scope-begun tables signature first ∙ same-scope tables signature test ∙ scope-begun tables signature b

    step-code : plains_of tables signature (Writing.code (Body.writing second)) ≡ definition.stepped f.classes e (start + width_maybe c)
    step-code = goes-alone tables signature first further ∙ ap (λ k. step_before f e k nothing) at-first ∙ step-is f e (start + width_maybe c)

    all-count : start + width_maybe c + width_maybe e + width body ≡ start + length (added (nodes_maybe c ++ nodes_maybe e ++ nodes body))
    all-count =
        let one = maybe-count c in
        let two = maybe-count e in
        let three = nodes-count (nodes_maybe c) (nodes_maybe e) in
        let four = nodes-count (nodes_maybe c ++ nodes_maybe e) (nodes body) in
        omega (arith, one, two, three, four)

    -- whatever is written before the body within the turn
    looped : (z : Body) (before next : List Plain) (G N : Plains) → Goes tables signature (λ k rest. statement (in_loop f) body k (finished (declared body) rest)) (width body) [] z (turn s z)
        → Body.scope z ≡ b.scope → Writing.next (Body.writing z) ≡ start + width_maybe c + width_maybe e
        → plains_of tables signature (Writing.code (Body.writing (turn s z))) ≡ G → plains_of tables signature next ≡ N
        → Goes tables signature (λ k rest. more (plain.loop G N) rest) (length (added (nodes_maybe c ++ nodes_maybe e ++ nodes body))) [] b (turned (Writing.code b.writing) next (turn s z))
    looped z before next G N goes scope there within beyond = record {
      code = λ rest.
          code-turned tables signature (Writing.code b.writing) next (turn s z) rest
          ∙ ap (λ ss. followed tables signature (Writing.code b.writing) (more (plain.loop ss (plains_of tables signature next)) rest)) within
          ∙ ap (λ ss. followed tables signature (Writing.code b.writing) (more (plain.loop G ss) rest)) beyond;
      next = next-turned tables signature (Writing.code b.writing) next (turn s z) ∙ Goes.next goes ∙ ap (λ k. k + width body) there ∙ all-count;
      opens = [];
      scope = scope-turned tables signature (Writing.code b.writing) next (turn s z) ∙ same-scope tables signature goes ∙ scope ∙ sym (append-nil b.scope);
      ends = refl;
    }

    -- the condition comes first
    tested-first : Goes tables signature (λ k rest. more (plain.loop (definition.held f.classes c start inner) (definition.stepped f.classes e (start + width_maybe c))) rest)
        (length (added (nodes_maybe c ++ nodes_maybe e ++ nodes body))) [] b
        (turned (Writing.code b.writing) (Writing.code (Body.writing second)) (turn s (with_code (Writing.code (Body.writing first)) (begun second))))
    tested-first =
        let ss = Writing.code (Body.writing first) in
        let z = with_code ss (begun second) in
        let scope : Body.scope z ≡ b.scope = scope-with_code tables signature ss (begun second) ∙ scope-begun tables signature second ∙ scope-second in
        let there : Writing.next (Body.writing z) ≡ start + width_maybe c + width_maybe e =
        next-with_code tables signature ss (begun second) ∙ next-begun tables signature second ∙ at-second in
        let goes = goes-turn one ok f ways z (subst (Stands tables f ways) (sym scope) at) in
        looped z [] (Writing.code (Body.writing second)) _ _ goes scope there
        (sym (followed-end tables signature (Writing.code (Body.writing (turn s z)))) ∙ Goes.code goes nothing
        ∙ ap (λ ts. followed tables signature ts (statement (in_loop f) body (Writing.next (Body.writing z)) (finished (declared body) nothing))) (code-with_code tables signature ss (begun second))
        ∙ ap (λ k. followed tables signature ss (statement (in_loop f) body k (finished (declared body) nothing))) there
        ∙ Goes.code test inner
        ∙ ap (λ ts. followed tables signature ts (definition.held f.classes c (Writing.next (Body.writing (begun b))) inner)) (code-begun tables signature b)
        ∙ ap (λ k. definition.held f.classes c k inner) (next-begun tables signature b))
        step-code

    -- the condition comes before each further turn
    tested-behind : Goes tables signature (λ k rest. more (plain.loop inner (definition.held f.classes c start nothing)) rest)
        (length (added (nodes_maybe c ++ nodes_maybe e ++ nodes body))) [] b
        (turned (Writing.code b.writing) (Writing.code (Body.writing first)) (turn s (begun second)))
    tested-behind =
        let z = begun second in
        let scope : Body.scope z ≡ b.scope = scope-begun tables signature second ∙ scope-second in
        let there : Writing.next (Body.writing z) ≡ start + width_maybe c + width_maybe e = next-begun tables signature second ∙ at-second in
        let goes = goes-turn one ok f ways z (subst (Stands tables f ways) (sym scope) at) in
        looped z [] (Writing.code (Body.writing first)) _ _ goes scope there
        (goes-alone tables signature second goes ∙ ap (λ k. statement (in_loop f) body k (finished (declared body) nothing)) at-second)
        (goes-alone tables signature b test)

    pub goes-loop : (how : LoopForm)
        → Goes tables signature (λ k rest. statement f (core.loop how c e body) k rest) (length (added (nodes_maybe c ++ nodes_maybe e ++ nodes body))) [] b (loop how o p s b)
    goes-loop form.While = goes-as tables signature tested-first (λ rest. refl) refl
    goes-loop form.For = goes-as tables signature tested-first (λ rest. refl) refl
    goes-loop form.Do = goes-as tables signature tested-behind (λ rest. refl) refl

  -- Switches.

  pub goes-switch : (s : Step) {e : Core} {ss : List Step} {es : Cores} → Whole tables signature s.piece e → ActsAll tables signature ss es → PassesAll tables signature ss es
      → (m : ℕ) → are_cases m es ≡ true → (f : Inside) (ways : Ways) (b : Body) → Stands tables f ways b.scope
      → Goes tables signature (λ k rest. statement f (core.switch e es) k rest) (width (core.switch e es)) [] b (selection s ss ways b)
  goes-switch s {e} {ss} {es} w all passing m ok f ways b at =
      let n = 0 + width e in
      let r = behind_flags 0 s.piece in
      let k = Writing.next b.writing in
      let stated = stated-cases m es ok in
      let value_there = goes-given tables signature f.classes b w in
      let before : Goes tables signature (λ k rest. passed n es rest) 0 [] (bodies.given s.piece b) (selected r ss (bodies.given s.piece b)) =
      goes-as tables signature (goes-selected tables signature r ss es passing stated (bodies.given s.piece b)) (λ rest. ap (λ q. passed q es rest) (register tables signature w)) refl in
      let v = selected r ss (bodies.given s.piece b) in
      let front = goes-rest tables signature value_there before in
      let at-begun : Stands tables f ways (Body.scope (begun v)) = subst (Stands tables f ways) (sym (scope-begun tables signature v ∙ same-scope tables signature front)) at in
      let within = goes-closed tables signature (ActsAll.acts all stated (in_switch f) (inside_switch ways (begun v)) (begun v) (stands-in_switch tables (begun v) at-begun)) in
      let inner : Plains = statements (in_switch f) es (k + width e) (finished (declared_all es) nothing) in
      let c = cases ss ways (begun v) in
      record {
        code = λ rest.
            code-switched tables signature r (Writing.code v.writing) c rest
            ∙ ap (λ ts. followed tables signature (Writing.code v.writing) (more (plain.switch r ts) rest))
            (goes-alone tables signature v within ∙ ap (λ i. statements (in_switch f) es i (finished (declared_all es) nothing)) (Goes.next front))
            ∙ ap (λ q. followed tables signature (Writing.code v.writing) (more (plain.switch q inner) rest)) (register tables signature w)
            ∙ Goes.code front (more (plain.switch n inner) rest);
        next =
            let one = Goes.next front in
            let two = Goes.next within in
            let three = next-begun tables signature v in
            let four = nodes-count (nodes e) (nodes_all es) in
            next-switched tables signature r (Writing.code v.writing) c ∙ omega (arith, one, two, three, four);
        opens = [];
        scope = scope-switched tables signature r (Writing.code v.writing) c ∙ same-scope tables signature within ∙ scope-begun tables signature v ∙ same-scope tables signature front
            ∙ sym (append-nil b.scope);
        ends = refl;
      }
