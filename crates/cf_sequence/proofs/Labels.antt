-- The labels of a switch, in a core and in its plain statements: what has no label of its own is passed over.
use Rattle.std.proofs.Common.{◌≡◌, ℕ, suc, ◌+◌, Bool, true, false, not, ◌&&◌, ◌||◌, nat_le, nat_lt, if◌then◌else◌, List, [], ◌∷◌, ◌++◌, reverse, refl, sym, ap, subst}
use Rattle.std.specs.Prelude.{ℤ, int_le, Some, None}
use Rattle.cf_base.proofs.Tests.{both}
use Rattle.cf_core.specs.declared.operators.LoopForm.TheVariants as form
use Rattle.cf_core.specs.Types.{SourceType, is_class}
use Rattle.cf_core.specs.Core as core
use Rattle.cf_core.specs.Core.{Core, Cores, MaybeCore, Function, local_temporary, none, absent, given}
use Rattle.cf_core.specs.Places.{is_reference}
use Rattle.cf_core.specs.Run.{Act, ◌>>◌, when}
use Rattle.cf_core.specs.Joined.{is_nothing}
use Rattle.cf_core.specs.Valid.{is_label, has_label}
use Rattle.cf_core.specs.Calls as calling
use Rattle.cf_core.specs.Calls.{Program, function_named, in_scope, full_expression}
use Rattle.cf_core.specs.Statements as does
use Rattle.cf_plain.specs.Plain.{Register, Plain, Plains, act, set, loop, leave, continue, give, nothing, more}
use Rattle.cf_plain.specs.Plain as plain
use Rattle.cf_plain.specs.Acts.{Registers}
use Rattle.cf_plain.specs.Running as running
use Rattle.cf_plain.specs.Running.{Flow, Falls, Breaks, Continues, Returns, falling, all}
use Rattle.cf_sequence.specs.Built.{is_value, is_element, is_held, is_statement, is_statement_or, are_statements, are_cases, next_local}
use Rattle.cf_sequence.specs.Made.{Local, Temporary, temporaries, width, declared, declared_all}
use Rattle.cf_sequence.specs.Expressions.{Full, destination, finished, flags, ended, settled, whole, value, used as use_of}
use Rattle.cf_sequence.specs.Statements.{Inside, in_switch, statement, statement_or, statements, started, made, passing, passes_local, passed}
use Rattle.cf_sequence.proofs.Calling.{never, or-else}
use Rattle.cf_sequence.proofs.Operands.{H}
use Rattle.cf_sequence.proofs.Fulls.{nothing-is, held_at}
use Rattle.cf_sequence.proofs.Standing.{Open, inside_of, opened}
use Rattle.cf_sequence.proofs.Lists.{silent-element}
use Rattle.cf_sequence.proofs.Silent.{Silent, silent-by, silent-none, silent-set, silent-act, silent-branch, silent-then, silent-used, silent-switch, silent-settled, silent-finished, silent-leave, silent-continue, silent-give, silent-value, silent-flags, silent-ended, silent-whole}

-- what a switch looks for
pub data Aim : Type 0 where
  to_case : ℤ → Aim
  to_default : Aim

abbrev pub core_from : calling.Again → Program → Aim → Cores → Act calling.Flow
core_from again P (to_case z) es = does.from_case again P z es
core_from again P to_default es = does.from_default again P es

abbrev pub plain_from : running.Again → Program → Aim → Plains → Registers → Act Flow
plain_from again H (to_case z) ss g = running.from_case again H z ss g
plain_from again H to_default ss g = running.from_default again H ss g

abbrev pub core_has : Aim → Cores → Bool
core_has (to_case z) es = does.has_case z es
core_has to_default es = does.has_default es

-- a label is a case or the default
pub data Label (s : Core) : Type 0 where
  a_case : (y : ℤ) → s ≡ core.case_label y → Label s
  the_default : s ≡ core.default_label → Label s

pub label-of : (s : Core) → is_label s ≡ true → Label s
label-of (core.case_label y) ok = a_case y refl
label-of core.default_label ok = the_default refl
label-of s ok = never ok

or-right : (a b : Bool) → b ≡ true → (a || b) ≡ true
or-right true b ok = refl
or-right false b ok = ok

pub no-label : (aim : Aim) (m : ℕ) (s : Core) (rest : Cores) → is_statement m s ≡ true → core_has aim (core.more s rest) ≡ core_has aim rest
no-label (to_case z) m (core.case_label y) rest ok = never ok
no-label (to_case z) m s rest ok = refl
no-label to_default m core.default_label rest ok = never ok
no-label to_default m s rest ok = refl

pub label-declares : (s : Core) → Label s → declared s ≡ []
label-declares s (a_case y e) = ap declared e
label-declares s (the_default e) = ap declared e

pub label-next : (m : ℕ) (s : Core) → Label s → next_local m s ≡ m
label-next m s (a_case y e) = ap (next_local m) e
label-next m s (the_default e) = ap (next_local m) e

-- what stands in a switch: a label, or a statement
abbrev pub fits_case : ℕ → Core → Bool
fits_case m s = is_label s || is_statement m s

pub by-case : {X : Type 0} (m : ℕ) (s : Core) → fits_case m s ≡ true → (Label s → X) → (is_statement m s ≡ true → X) → X
by-case m s ok f g = or-else (is_label s) (is_statement m s) ok (λ l. f (label-of s l)) g

pub there-is-label : (aim : Aim) (es : Cores) → core_has aim es ≡ true → has_label es ≡ true
there-is-label (to_case z) none has = never has
there-is-label (to_case z) (core.more (core.case_label y) rest) has = refl
there-is-label (to_case z) (core.more core.default_label rest) has = refl
there-is-label (to_case z) (core.more s rest) has = or-right (is_label s) (has_label rest) (there-is-label (to_case z) rest has)
there-is-label to_default none has = never has
there-is-label to_default (core.more (core.case_label y) rest) has = refl
there-is-label to_default (core.more core.default_label rest) has = refl
there-is-label to_default (core.more s rest) has = or-right (is_label s) (has_label rest) (there-is-label to_default rest has)

pub none-has : (aim : Aim) → core_has aim none ≡ false
none-has (to_case z) = refl
none-has to_default = refl

-- a statement is passed
pub core-past : (again : calling.Again) (P : Program) (aim : Aim) (m : ℕ) (s1 : Core) (es : Cores) → is_statement m s1 ≡ true → core_from again P aim (core.more s1 es) ≡ (does.passes s1 >> core_from again P aim es)
core-past again P (to_case z) m (core.case_label y) es ok = never ok
core-past again P (to_case z) m s1 es ok = refl
core-past again P to_default m core.default_label es ok = never ok
core-past again P to_default m s1 es ok = refl

-- ---- what a label passes

-- behind what declares nothing
pub passes-behind : (xs : List Local) (a b : Bool) → xs ≡ [] → (elim xs as (λ _. Bool) [ [] ↦ b | x ∷ xs ↦ a || b ]) ≡ b
passes-behind xs a b empty = ap (λ xs. elim xs as (λ _. Bool) [ [] ↦ b | x ∷ xs ↦ a || b ]) empty

-- what passes no local before a label declares none
pub none-before : (xs : List Local) (a b : Bool) → a ≡ true → (elim xs as (λ _. Bool) [ [] ↦ b | x ∷ xs ↦ a || b ]) ≡ false → (xs ≡ []) × (b ≡ false)
none-before [] a b there e = (refl, e)
none-before (x ∷ xs) true b there e = never (sym e)
none-before (x ∷ xs) false b there e = never there

-- a switch before the switch, where a label passes a local
pub not-passed : (n : Register) (es : Cores) (rest : Plains) → passes_local es ≡ false → passed n es rest ≡ rest
not-passed n es rest none-there = ap (λ b. if b then more (plain.switch n (passing [] es)) rest else rest) none-there

pub does-pass : (n : Register) (es : Cores) (rest : Plains) → passes_local es ≡ true → passed n es rest ≡ more (plain.switch n (passing [] es)) rest
does-pass n es rest there = ap (λ b. if b then more (plain.switch n (passing [] es)) rest else rest) there

pub passing-past : (m : ℕ) (s : Core) → is_statement m s ≡ true → (before : List Local) (rest : Cores) → passing before (core.more s rest) ≡ passing (declared s ++ before) rest
passing-past m (core.case_label y) ok before rest = never ok
passing-past m core.default_label ok before rest = never ok
passing-past m s ok before rest = refl

-- ---- a label

-- as a plain statement
abbrev pub mark : {s : Core} → Label s → Plain
mark (a_case y e) = plain.case_label y
mark (the_default e) = plain.default_label

-- whether it is the one that is looked for
abbrev pub hits : {s : Core} → Aim → Label s → Bool
hits (to_case z) (a_case y e) = int_le y z && int_le z y
hits (to_case z) (the_default e) = false
hits to_default (a_case y e) = false
hits to_default (the_default e) = true

pub label-has : (aim : Aim) (s : Core) (l : Label s) (rest : Cores) → core_has aim (core.more s rest) ≡ hits aim l || core_has aim rest
label-has (to_case z) s (a_case y e) rest = ap (λ s. does.has_case z (core.more s rest)) e
label-has (to_case z) s (the_default e) rest = ap (λ s. does.has_case z (core.more s rest)) e
label-has to_default s (a_case y e) rest = ap (λ s. does.has_default (core.more s rest)) e
label-has to_default s (the_default e) rest = ap (λ s. does.has_default (core.more s rest)) e

pub label-goes : (again : calling.Again) (P : Program) (aim : Aim) (s : Core) (l : Label s) (rest : Cores)
    → core_from again P aim (core.more s rest) ≡ when (hits aim l) (does.does_all again P rest) (core_from again P aim rest)
label-goes again P (to_case z) s (a_case y e) rest = ap (λ s. does.from_case again P z (core.more s rest)) e
label-goes again P (to_case z) s (the_default e) rest = ap (λ s. does.from_case again P z (core.more s rest)) e
label-goes again P to_default s (a_case y e) rest = ap (λ s. does.from_default again P (core.more s rest)) e
label-goes again P to_default s (the_default e) rest = ap (λ s. does.from_default again P (core.more s rest)) e

pub label-passing : (s : Core) (l : Label s) (before : List Local) (rest : Cores)
    → passing before (core.more s rest) ≡ more (mark l) (made (reverse before) (more leave (passing before rest)))
label-passing s (a_case y e) before rest = ap (λ s. passing before (core.more s rest)) e
label-passing s (the_default e) before rest = ap (λ s. passing before (core.more s rest)) e

pub label-written : (s : Core) (l : Label s) (f : Inside) (rest : Cores) (k : ℕ) (last : Plains)
    → statements f (core.more s rest) k last ≡ more (mark l) (statements f rest (k + width s) last)
label-written s (a_case y e) f rest k last = subst (λ s. statements f (core.more s rest) k last ≡ more (plain.case_label y) (statements f rest (k + width s) last)) (sym e) refl
label-written s (the_default e) f rest k last = subst (λ s. statements f (core.more s rest) k last ≡ more plain.default_label (statements f rest (k + width s) last)) (sym e) refl

pub mark-has : (z : ℤ) (s : Core) (l : Label s) (rest : Plains) → running.has_case z (more (mark l) rest) ≡ hits (to_case z) l || running.has_case z rest
mark-has z s (a_case y e) rest = refl
mark-has z s (the_default e) rest = refl

pub mark-goes : (again : running.Again) (H : Program) (aim : Aim) (s : Core) (l : Label s) (rest : Plains) (g : Registers)
    → plain_from again H aim (more (mark l) rest) g ≡ when (hits aim l) (all again H rest g) (plain_from again H aim rest g)
mark-goes again H (to_case z) s (a_case y e) rest g = refl
mark-goes again H (to_case z) s (the_default e) rest g = refl
mark-goes again H to_default s (a_case y e) rest g = refl
mark-goes again H to_default s (the_default e) rest g = refl

-- ---- no statement but a switch's own has its labels

module _ (again : running.Again) (H : Program) (P : Program) (R C : SourceType) (plain-result : is_class R ≡ false) where
  silent-passed : (n : Register) (es : Cores) → Silent again H (passed n es)
  silent-passed n es = by-test (passes_local es)
    where
      by-test : (b : Bool) → Silent again H (λ rest. if b then more (plain.switch n (passing [] es)) rest else rest)
      by-test true = silent-switch again H n (passing [] es)
      by-test false = silent-none again H

  -- the initialiser of a local reference
  silent-held : (i : ℕ) (t : SourceType) (e : Core) (k : ℕ) → is_held i e ≡ true → Silent again H (started P.classes t e 0 k)
  silent-held i t (core.bind (local_temporary j u) e) k ok =
      let is : is_value e ≡ true = (both (not (is_reference u)) (is_value e) (both (nat_lt i j) (not (is_reference u) && is_value e) ok).1).1 in
      let n : Register = held_at e 0 in
      let x : Full = record { first = k; base = 1 } in
      let ts : List Temporary = temporaries false e k in
      let code : Plains → Plains = value P.classes x e (destination (suc n) u) (suc (suc n)) k in
      let last : Plains → Plains = λ rest. more (act (plain.first 0 n)) (ended x (reverse ts) rest) in
      let inner : Plains → Plains = λ rest. code (settled e (suc n) (suc (suc n)) (last rest)) in
      let named : Plains → Plains = λ rest. more (set n (plain.local j)) (inner rest) in
      silent-then again H (flags x ts) (λ rest. more (set (suc n) (plain.declare j u)) (named rest)) (silent-flags again H x ts)
      (silent-then again H (λ rest. more (set (suc n) (plain.declare j u)) rest) named (silent-set again H (suc n) (plain.declare j u))
      (silent-then again H (λ rest. more (set n (plain.local j)) rest) inner (silent-set again H n (plain.local j))
      (silent-then again H code (λ rest. settled e (suc n) (suc (suc n)) (last rest)) (silent-value again H P e is x (destination (suc n) u) (suc (suc n)) k)
      (silent-then again H (settled e (suc n) (suc (suc n))) last (silent-settled again H e (suc n) (suc (suc n)))
      (silent-then again H (λ rest. more (act (plain.first 0 n)) rest) (ended x (reverse ts)) (silent-act again H (plain.first 0 n)) (silent-ended again H x (reverse ts)))))))
  silent-held i t e k ok = never ok

  mutual
    pub silent-statement : (s : Core) (m : ℕ) → is_statement m s ≡ true → (o : Open) (k : ℕ) → Silent again H (statement (inside_of P R C o) s k)
    silent-statement (core.full e) m ok o k =
        or-else (is_nothing e) (is_value e) ok
        (λ blank. silent-by again H (statement (inside_of P R C o) (core.full e) k) (λ rest. rest)
        (λ rest. ap (λ e. whole e 0 k (λ x n rest. value P.classes x e None n k rest) (λ n. rest)) (nothing-is e blank)) (silent-none again H))
        (λ is. silent-whole again H P e is 0 k None (λ m rest. rest) (λ m rest. rest) (λ m. silent-none again H) (λ m. silent-none again H))
    silent-statement (core.block es) m ok o k =
        silent-then again H (statements (inside_of P R C (opened o)) es k) (finished (declared_all es)) (silent-statements es m ok (opened o) k) (silent-finished again H (declared_all es))
    silent-statement (core.sequence es) m ok o k = silent-statements es m ok o k
    silent-statement (core.declare i t e) m ok o k =
        silent-then again H (λ rest. more (set 0 (plain.declare i t)) rest) (started P.classes t e 0 k) (silent-set again H 0 (plain.declare i t))
        (or-else (is_element t e) (is_held i e) (both (nat_le m i) (is_element t e || is_held i e) ok).1 (λ element. silent-element again H P t e element t 0 k) (silent-held i t e k))
    silent-statement (core.branch q a b) m ok o k =
        let is = (both (is_value q) (is_statement m a && is_statement_or (next_local m a) b) ok).0 in
        let yes : Plains = statement (inside_of P R C o) a (k + width q) nothing in
        let other : Plains = statement_or (inside_of P R C o) b (k + width q + width a) nothing in
        silent-whole again H P q is 0 k None (λ m rest. more (set m (plain.truth m)) rest) (λ m rest. more (plain.branch m yes other) rest)
        (λ m. silent-set again H m (plain.truth m)) (λ m. silent-branch again H m yes other)
    silent-statement (core.loop form.While q e s) m ok o k = record { labels = λ z rest. refl; at_case = λ z rest g. refl; at_default = λ rest g. refl; ahead = λ rest. refl }
    silent-statement (core.loop form.For q e s) m ok o k = record { labels = λ z rest. refl; at_case = λ z rest g. refl; at_default = λ rest g. refl; ahead = λ rest. refl }
    silent-statement (core.loop form.Do q e s) m ok o k = record { labels = λ z rest. refl; at_case = λ z rest g. refl; at_default = λ rest g. refl; ahead = λ rest. refl }
    silent-statement (core.switch e es) m ok o k =
        let is = (both (is_value e) (are_cases m es) ok).0 in
        let body : Plains = statements (in_switch (inside_of P R C o)) es (k + width e) (finished (declared_all es) nothing) in
        silent-whole again H P e is 0 k None (λ n rest. use_of n rest) (λ n rest. passed n es (more (plain.switch n body) rest)) (λ n. silent-used again H n)
        (λ n. silent-then again H (passed n es) (λ rest. more (plain.switch n body) rest) (silent-passed n es) (silent-switch again H n body))
    silent-statement core.leave m ok o k =
        silent-then again H (finished (o.here ++ o.breaks)) (λ rest. more leave rest) (silent-finished again H (o.here ++ o.breaks)) (silent-leave again H)
    silent-statement core.continue m ok o k =
        silent-then again H (finished (o.here ++ o.continues)) (λ rest. more continue rest) (silent-finished again H (o.here ++ o.continues)) (silent-continue again H)
    silent-statement (core.give absent) m ok o k =
        silent-then again H (finished (o.here ++ o.returns)) (λ rest. more (give None) rest) (silent-finished again H (o.here ++ o.returns)) (silent-give again H None)
    silent-statement (core.give (given e)) m ok o k =
        let gone : Plains → Plains = finished (o.here ++ o.returns) in
        let code : Full → Register → Plains → Plains = λ x n rest. value P.classes x e None n k (use_of n rest) in
        let by_value : Plains → Plains = λ rest. whole e 0 k code (λ n. gone (more (give (Some n)) rest)) in
        let in_place : Plains → Plains = λ rest. more (set 0 plain.result) (started P.classes R e 0 k (gone (more (give None) rest))) in
        silent-by again H (statement (inside_of P R C o) (core.give (given e)) k) by_value (λ rest. ap (λ b. if b then in_place rest else by_value rest) plain-result)
        (silent-whole again H P e ok 0 k None (λ n rest. use_of n rest) (λ n rest. gone (more (give (Some n)) rest)) (λ n. silent-used again H n)
        (λ n. silent-then again H gone (λ rest. more (give (Some n)) rest) (silent-finished again H (o.here ++ o.returns)) (silent-give again H (Some n))))
    silent-statement s m ok o k = never ok

    pub silent-statements : (es : Cores) (m : ℕ) → are_statements m es ≡ true → (o : Open) (k : ℕ) → Silent again H (statements (inside_of P R C o) es k)
    silent-statements none m ok o k = silent-none again H
    silent-statements (core.more s es) m ok o k =
        let parts = both (is_statement m s) (are_statements (next_local m s) es) ok in
        silent-then again H (statement (inside_of P R C o) s k) (statements (inside_of P R C (record o { here = declared s ++ o.here })) es (k + width s))
        (silent-statement s m parts.0 o k) (silent-statements es (next_local m s) parts.1 (record o { here = declared s ++ o.here }) (k + width s))
