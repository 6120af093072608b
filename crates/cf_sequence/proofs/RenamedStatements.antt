-- The plain statements of a statement whose names are replaced are those of the statement, with the names replaced.
use Rattle.std.proofs.Common.{◌≡◌, ℕ, ◌+◌, Bool, true, false, ◌&&◌, ◌||◌, nat_le, List, [], ◌∷◌, ◌++◌, reverse, refl, sym, ◌∙◌, ap, subst, if◌then◌else◌}
use Rattle.std.specs.Prelude.{Some, None}
use Rattle.cf_base.proofs.Tests.{both}
use Rattle.cf_core.specs.declared.operators.LoopForm.TheVariants as form
use Rattle.cf_core.specs.Types.{Name, is_class}
use Rattle.cf_core.specs.Classes.{Class}
use Rattle.cf_core.specs.Core as core
use Rattle.cf_core.specs.Core.{Core, Cores, MaybeCore, no_temporary, local_temporary, none, absent, given}
use Rattle.cf_core.specs.Joined.{renamed, renamed_all, renamed_maybe, is_nothing}
use Rattle.cf_core.specs.Valid.{has_label}
use Rattle.cf_plain.specs.Plain.{Register, Plains, act, set, branch, loop, switch, case_label, default_label, leave, continue, give, nothing, more}
use Rattle.cf_plain.specs.Plain as plain
use Rattle.cf_plain.specs.Joined as joined
use Rattle.cf_sequence.specs.Built.{is_value, is_condition, is_element, is_held, is_statement, is_statement_or, are_cases, are_statements, next_local}
use Rattle.cf_sequence.specs.Made.{Local, width, width_maybe, declared, declared_all}
use Rattle.cf_sequence.specs.Expressions.{value, whole, finished, used}
use Rattle.cf_sequence.specs.Statements.{Inside, opened, in_loop, in_switch, declares, held, stepped, started, returned, looping, made, passing, passes_local, passed, statement, statement_or, statements}
use Rattle.cf_sequence.proofs.Calling.{never, or-else}
use Rattle.cf_sequence.proofs.Fulls.{nothing-is}
use Rattle.cf_sequence.proofs.Labels.{passing-past}
use Rattle.cf_sequence.proofs.Renamed.{same-width, same-width-maybe, same-declared, same-declared-all, same-has-label, same-statement}
use Rattle.cf_sequence.proofs.RenamedCode.{over-finished, over-whole, over-kept, over-condition, over-held, over-stepped}
use Rattle.cf_sequence.proofs.RenamedLists.{over-element}

module _ (r : Name → Name) where
  abbrev again : Core → Core
  again e = renamed r e

  abbrev over : Plains → Plains
  over ss = joined.renamed_all r ss

  -- ---- statements

  -- what ends, and then a way out
  over-left : (xs : List Local) (s : plain.Plain) (rest : Plains) → joined.renamed r s ≡ s → over (finished xs (more s rest)) ≡ finished xs (more s (over rest))
  over-left xs s rest e = over-finished r xs (more s rest) ∙ ap (λ s. finished xs (more s (over rest))) e

  over-looping : (cs : List Class) (q e : MaybeCore) (k : ℕ) → is_condition q ≡ true → is_condition e ≡ true → (body later rest : Plains) → over body ≡ later
      → over (looping cs q e k body rest) ≡ looping cs (renamed_maybe r q) (renamed_maybe r e) k later (over rest)
  over-looping cs q e k tests steps body later rest same =
      ap (λ ss. more (loop ss (over (stepped cs e (k + width_maybe q)))) (over rest)) (over-held r cs q tests k body later same)
      ∙ ap (λ ss. more (loop (held cs (renamed_maybe r q) k later) ss) (over rest))
      (over-stepped r cs e steps (k + width_maybe q) ∙ ap (λ w. stepped cs (renamed_maybe r e) (k + w)) (sym (same-width-maybe r q)))

  over-returned : (f : Inside) → is_class f.result ≡ false → (e : Core) → is_value e ≡ true → (k : ℕ) (rest : Plains) → over (returned f e k rest) ≡ returned f (again e) k (over rest)
  over-returned f plain_result e ok k rest =
      let in_place : Core → Plains → Plains = λ e rest. more (set 0 plain.result) (started f.classes f.result e 0 k (finished (f.here ++ f.returns) (more (give None) rest))) in
      let by_value : Core → Plains → Plains = λ e rest. whole e 0 k (λ x n ss. value f.classes x e None n k (used n ss)) (λ n. finished (f.here ++ f.returns) (more (give (Some n)) rest)) in
      ap (λ b. over (if b then in_place e rest else by_value e rest)) plain_result
      ∙ over-whole r f.classes e ok 0 k None (λ m ss. used m ss) (λ m ss. used m ss) (λ n. finished (f.here ++ f.returns) (more (give (Some n)) rest)) (λ n. finished (f.here ++ f.returns) (more (give (Some n)) (over rest)))
      (λ m ss. refl) (λ n. over-left (f.here ++ f.returns) (give (Some n)) rest refl)
      ∙ sym (ap (λ b. if b then in_place (again e) (over rest) else by_value (again e) (over rest)) plain_result)

  -- the body of a turn
  abbrev turned_code : Core → MaybeCore → MaybeCore → Inside → ℕ → Plains
  turned_code body q e f k =
      statement (in_loop f) (again body) (k + width_maybe (renamed_maybe r q) + width_maybe (renamed_maybe r e)) (finished (declared (again body)) nothing)

  over-turn : (body : Core) (q e : MaybeCore) (f : Inside) (k : ℕ)
      → over (statement (in_loop f) body (k + width_maybe q + width_maybe e) (finished (declared body) nothing))
      ≡ statement (in_loop f) (again body) (k + width_maybe q + width_maybe e) (over (finished (declared body) nothing))
      → over (statement (in_loop f) body (k + width_maybe q + width_maybe e) (finished (declared body) nothing)) ≡ turned_code body q e f k
  over-turn body q e f k same =
      same
      ∙ ap (statement (in_loop f) (again body) (k + width_maybe q + width_maybe e)) (over-finished r (declared body) nothing ∙ ap (λ xs. finished xs nothing) (sym (same-declared r body)))
      ∙ ap (λ w. statement (in_loop f) (again body) (k + w + width_maybe e) (finished (declared (again body)) nothing)) (sym (same-width-maybe r q))
      ∙ ap (λ w. statement (in_loop f) (again body) (k + width_maybe (renamed_maybe r q) + w) (finished (declared (again body)) nothing)) (sym (same-width-maybe r e))

  -- what a label passes

  same-passes : (es : Cores) → passes_local (renamed_all r es) ≡ passes_local es
  same-passes none = refl
  same-passes (core.more s es) =
      ap (λ (xs : List Local). elim xs as (λ _. Bool) [ [] ↦ passes_local (renamed_all r es) | x ∷ xs ↦ has_label (renamed_all r es) || passes_local (renamed_all r es) ]) (same-declared r s)
      ∙ ap (λ b. elim (declared s) as (λ _. Bool) [ [] ↦ b | x ∷ xs ↦ has_label (renamed_all r es) || b ]) (same-passes es)
      ∙ ap (λ b. elim (declared s) as (λ _. Bool) [ [] ↦ passes_local es | x ∷ xs ↦ b || passes_local es ]) (same-has-label r es)

  over-made : (xs : List Local) (rest : Plains) → over (made xs rest) ≡ made xs (over rest)
  over-made [] rest = refl
  over-made (x ∷ xs) rest = ap (more (act (plain.declare x.number x.type))) (over-made xs rest)

  over-label : (before : List Local) (rest : Plains) → over (made before (more leave rest)) ≡ made before (more leave (over rest))
  over-label before rest = over-made before (more leave rest)

  over-passing : (es : Cores) (m : ℕ) → are_cases m es ≡ true → (before : List Local) → over (passing before es) ≡ passing before (renamed_all r es)
  over-passing none m ok before = refl
  over-passing (core.more (core.case_label z) es) m ok before =
      ap (more (case_label z)) (over-label (reverse before) (passing before es) ∙ ap (λ ss. made (reverse before) (more leave ss)) (over-passing es m ok before))
  over-passing (core.more core.default_label es) m ok before =
      ap (more default_label) (over-label (reverse before) (passing before es) ∙ ap (λ ss. made (reverse before) (more leave ss)) (over-passing es m ok before))
  over-passing (core.more s es) m ok before =
      let parts = both (is_statement m s) (are_cases (next_local m s) es) ok in
      over-passing es (next_local m s) parts.1 (declared s ++ before) ∙ ap (λ xs. passing (xs ++ before) (renamed_all r es)) (sym (same-declared r s))
      ∙ sym (passing-past m (again s) (same-statement r m s ∙ parts.0) before (renamed_all r es))

  over-passed : (n : Register) (es : Cores) (m : ℕ) → are_cases m es ≡ true → (rest : Plains) → over (passed n es rest) ≡ passed n (renamed_all r es) (over rest)
  over-passed n es m ok rest =
      by (passes_local es) ∙ ap (λ b. if b then more (switch n (passing [] (renamed_all r es))) (over rest) else over rest) (sym (same-passes es))
    where
      by : (b : Bool) → over (if b then more (switch n (passing [] es)) rest else rest) ≡ (if b then more (switch n (passing [] (renamed_all r es))) (over rest) else over rest)
      by true = ap (λ ss. more (switch n ss) (over rest)) (over-passing es m ok [])
      by false = refl

  mutual
    pub over-statement : (s : Core) (m : ℕ) → is_statement m s ≡ true → (f : Inside) → is_class f.result ≡ false → (k : ℕ) (rest : Plains)
        → over (statement f s k rest) ≡ statement f (again s) k (over rest)
    over-statement (core.full e) m ok f pr k rest =
        or-else (is_nothing e) (is_value e) ok
        (λ blank. subst (λ e. over (statement f (core.full e) k rest) ≡ statement f (core.full (again e)) k (over rest)) (sym (nothing-is e blank)) refl)
        (λ is. over-whole r f.classes e is 0 k None (λ m ss. ss) (λ m ss. ss) (λ m. rest) (λ m. over rest) (λ m ss. refl) (λ m. refl))
    over-statement (core.block es) m ok f pr k rest =
        over-statements es m ok (opened f) pr k (finished (declared_all es) rest)
        ∙ ap (statements (opened f) (renamed_all r es) k) (over-finished r (declared_all es) rest ∙ ap (λ xs. finished xs (over rest)) (sym (same-declared-all r es)))
    over-statement (core.sequence es) m ok f pr k rest = over-statements es m ok f pr k rest
    over-statement (core.declare i t e) m ok f pr k rest =
        ap (more (set 0 (plain.declare i t)))
        (or-else (is_element t e) (is_held i e) (both (nat_le m i) (is_element t e || is_held i e) ok).1
        (λ element. over-element r f.classes t e element t 0 k rest) (λ kept. over-kept r f.classes i t e kept 0 k rest))
    over-statement (core.branch q a b) m ok f pr k rest =
        let parts = both (is_value q) (is_statement m a && is_statement_or (next_local m a) b) ok in
        let arms = both (is_statement m a) (is_statement_or (next_local m a) b) parts.1 in
        let yes : Plains = statement f a (k + width q) nothing in
        let yes_again : Plains = statement f (again a) (k + width (again q)) nothing in
        let first : over yes ≡ yes_again = over-statement a m arms.0 f pr (k + width q) nothing ∙ ap (λ w. statement f (again a) (k + w) nothing) (sym (same-width r q)) in
        let second : over (statement_or f b (k + width q + width a) nothing) ≡ statement_or f (renamed_maybe r b) (k + width (again q) + width (again a)) nothing =
        over-or b (next_local m a) arms.1 f pr (k + width q + width a) nothing ∙ ap (λ w. statement_or f (renamed_maybe r b) (k + w + width a) nothing) (sym (same-width r q))
        ∙ ap (λ w. statement_or f (renamed_maybe r b) (k + width (again q) + w) nothing) (sym (same-width r a)) in
        over-condition r f.classes q parts.0 k (λ n. more (branch n yes (statement_or f b (k + width q + width a) nothing)) rest)
        (λ n. more (branch n yes_again (statement_or f (renamed_maybe r b) (k + width (again q) + width (again a)) nothing)) (over rest))
        (λ n. ap (λ ss. more (branch n ss (over (statement_or f b (k + width q + width a) nothing))) (over rest)) first
        ∙ ap (λ ss. more (branch n yes_again ss) (over rest)) second)
    over-statement (core.loop form.While q e body) m ok f pr k rest =
        let parts = both (is_condition q) (is_condition e && is_statement m body) ok in
        let inner = both (is_condition e) (is_statement m body) parts.1 in
        over-looping f.classes q e k parts.0 inner.0 (statement (in_loop f) body (k + width_maybe q + width_maybe e) (finished (declared body) nothing)) _ rest
        (over-turn body q e f k (over-statement body m inner.1 (in_loop f) pr (k + width_maybe q + width_maybe e) (finished (declared body) nothing)))
    over-statement (core.loop form.For q e body) m ok f pr k rest =
        let parts = both (is_condition q) (is_condition e && is_statement m body) ok in
        let inner = both (is_condition e) (is_statement m body) parts.1 in
        over-looping f.classes q e k parts.0 inner.0 (statement (in_loop f) body (k + width_maybe q + width_maybe e) (finished (declared body) nothing)) _ rest
        (over-turn body q e f k (over-statement body m inner.1 (in_loop f) pr (k + width_maybe q + width_maybe e) (finished (declared body) nothing)))
    over-statement (core.loop form.Do q e body) m ok f pr k rest =
        let parts = both (is_condition q) (is_condition e && is_statement m body) ok in
        let inner = both (is_condition e) (is_statement m body) parts.1 in
        ap (λ ss. more (loop ss (over (held f.classes q k nothing))) (over rest))
        (over-turn body q e f k (over-statement body m inner.1 (in_loop f) pr (k + width_maybe q + width_maybe e) (finished (declared body) nothing)))
        ∙ ap (λ ss. more (loop (turned_code body q e f k) ss) (over rest)) (over-held r f.classes q parts.0 k nothing nothing refl)
    over-statement (core.switch e es) m ok f pr k rest =
        let parts = both (is_value e) (are_cases m es) ok in
        let body : ℕ → List Local → Plains = λ w xs. statements (in_switch f) (renamed_all r es) (k + w) (finished xs nothing) in
        let inner : over (statements (in_switch f) es (k + width e) (finished (declared_all es) nothing)) ≡ body (width (again e)) (declared_all (renamed_all r es)) =
        over-cases es m parts.1 (in_switch f) pr (k + width e) (finished (declared_all es) nothing)
        ∙ ap (statements (in_switch f) (renamed_all r es) (k + width e)) (over-finished r (declared_all es) nothing)
        ∙ ap (body (width e)) (sym (same-declared-all r es)) ∙ ap (λ w. body w (declared_all (renamed_all r es))) (sym (same-width r e)) in
        over-whole r f.classes e parts.0 0 k None (λ m ss. used m ss) (λ m ss. used m ss)
        (λ n. passed n es (more (switch n (statements (in_switch f) es (k + width e) (finished (declared_all es) nothing))) rest))
        (λ n. passed n (renamed_all r es) (more (switch n (body (width (again e)) (declared_all (renamed_all r es)))) (over rest)))
        (λ m ss. refl)
        (λ n.
        over-passed n es m parts.1 (more (switch n (statements (in_switch f) es (k + width e) (finished (declared_all es) nothing))) rest)
        ∙ ap (λ ss. passed n (renamed_all r es) (more (switch n ss) (over rest))) inner)
    over-statement core.leave m ok f pr k rest = over-left (f.here ++ f.breaks) leave rest refl
    over-statement core.continue m ok f pr k rest = over-left (f.here ++ f.continues) continue rest refl
    over-statement (core.give absent) m ok f pr k rest = over-left (f.here ++ f.returns) (give None) rest refl
    over-statement (core.give (given e)) m ok f pr k rest = over-returned f pr e ok k rest
    over-statement s m ok f pr k rest = never ok

    over-or : (b : MaybeCore) (m : ℕ) → is_statement_or m b ≡ true → (f : Inside) → is_class f.result ≡ false → (k : ℕ) (rest : Plains)
        → over (statement_or f b k rest) ≡ statement_or f (renamed_maybe r b) k (over rest)
    over-or absent m ok f pr k rest = refl
    over-or (given s) m ok f pr k rest = over-statement s m ok f pr k rest

    over-statements : (es : Cores) (m : ℕ) → are_statements m es ≡ true → (f : Inside) → is_class f.result ≡ false → (k : ℕ) (rest : Plains)
        → over (statements f es k rest) ≡ statements f (renamed_all r es) k (over rest)
    over-statements none m ok f pr k rest = refl
    over-statements (core.more s es) m ok f pr k rest =
        let parts = both (is_statement m s) (are_statements (next_local m s) es) ok in
        over-statement s m parts.0 f pr k (statements (declares (declared s) f) es (k + width s) rest)
        ∙ ap (statement f (again s) k)
        (over-statements es (next_local m s) parts.1 (declares (declared s) f) pr (k + width s) rest
        ∙ ap (λ xs. statements (declares xs f) (renamed_all r es) (k + width s) (over rest)) (sym (same-declared r s))
        ∙ ap (λ w. statements (declares (declared (again s)) f) (renamed_all r es) (k + w) (over rest)) (sym (same-width r s)))

    over-cases : (es : Cores) (m : ℕ) → are_cases m es ≡ true → (f : Inside) → is_class f.result ≡ false → (k : ℕ) (rest : Plains)
        → over (statements f es k rest) ≡ statements f (renamed_all r es) k (over rest)
    over-cases none m ok f pr k rest = refl
    over-cases (core.more (core.case_label z) es) m ok f pr k rest = ap (more (case_label z)) (over-cases es m ok f pr (k + 0) rest)
    over-cases (core.more core.default_label es) m ok f pr k rest = ap (more default_label) (over-cases es m ok f pr (k + 0) rest)
    over-cases (core.more s es) m ok f pr k rest =
        let parts = both (is_statement m s) (are_cases (next_local m s) es) ok in
        over-statement s m parts.0 f pr k (statements (declares (declared s) f) es (k + width s) rest)
        ∙ ap (statement f (again s) k)
        (over-cases es (next_local m s) parts.1 (declares (declared s) f) pr (k + width s) rest
        ∙ ap (λ xs. statements (declares xs f) (renamed_all r es) (k + width s) (over rest)) (sym (same-declared r s))
        ∙ ap (λ w. statements (declares (declared (again s)) f) (renamed_all r es) (k + w) (over rest)) (sym (same-width r s)))
