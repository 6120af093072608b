-- The plain statements of a core whose names are replaced are those of the core, with the names replaced.
use Rattle.std.proofs.Common.{◌≡◌, ℕ, suc, ◌+◌, Bool, true, false, not, ◌&&◌, nat_lt, List, [], ◌∷◌, length, reverse, refl, sym, ◌∙◌, ap, subst, if◌then◌else◌}
use Rattle.std.specs.Prelude.{pos, Option, None}
use Rattle.cf_base.proofs.Tests.{both}
use Rattle.cf_core.specs.Types.{Name, SourceType, parameters, result, is_class}
use Rattle.cf_core.specs.Classes.{Class}
use Rattle.cf_core.specs.Core as core
use Rattle.cf_core.specs.Core.{Core, Cores, MaybeCore, no_temporary, local_temporary, static_temporary, none, absent, given}
use Rattle.cf_core.specs.Places.{is_reference}
use Rattle.cf_core.specs.Joined.{renamed, renamed_all, renamed_maybe, is_nothing}
use Rattle.cf_plain.specs.Plain.{Register, Plains, act, set, branch, loop, switch, case_label, default_label, leave, continue, give, nothing, more}
use Rattle.cf_plain.specs.Plain as plain
use Rattle.cf_plain.specs.Joined as joined
use Rattle.cf_sequence.specs.Built.{is_value, are_values, are_arguments, is_chain, is_condition, is_start, is_filling, is_initial, is_held, is_bound}
use Rattle.cf_sequence.specs.Made.{Local, Temporary, temporaries, numbers, width}
use Rattle.cf_sequence.specs.Expressions.{Full, flag, flags, ended, Destination, destination, value, values, arguments, settled, builds, result_register, whole, finished, used}
use Rattle.cf_sequence.specs.Statements.{condition, held, stepped, started}
use Rattle.cf_sequence.proofs.Calling.{never, or-else}
use Rattle.cf_sequence.proofs.Filling.{fill, started-is}
use Rattle.cf_sequence.proofs.Fulls.{nothing-is, held_at}
use Rattle.cf_sequence.proofs.Constants.{constant-value}
use Rattle.cf_sequence.proofs.Renamed.{same-width, same-temporaries, same-builds, same-filling}

module _ (r : Name → Name) where
  abbrev again : Core → Core
  again e = renamed r e

  abbrev over : Plains → Plains
  over ss = joined.renamed_all r ss

  pub over-finished : (xs : List Local) (rest : Plains) → over (finished xs rest) ≡ finished xs (over rest)
  over-finished [] rest = refl
  over-finished (x ∷ xs) rest = ap (more (act (plain.finish x.type x.number))) (over-finished xs rest)

  -- the flags of temporaries, and their ends
  over-flags : (x : Full) (ts : List Temporary) (rest : Plains) → over (flags x ts rest) ≡ flags x ts (over rest)
  over-flags x [] rest = refl
  over-flags x (t ∷ ts) rest = by t.in_branch (over-flags x ts rest)
    where
      by : (b : Bool) → over (flags x ts rest) ≡ flags x ts (over rest)
          → over (elim b [ true ↦ more (set (flag x t.local.number) (plain.number (pos 0))) (flags x ts rest) | false ↦ flags x ts rest ])
          ≡ (elim b [ true ↦ more (set (flag x t.local.number) (plain.number (pos 0))) (flags x ts (over rest)) | false ↦ flags x ts (over rest) ])
      by true p = ap (more (set (flag x t.local.number) (plain.number (pos 0)))) p
      by false p = p

  over-ended : (x : Full) (ts : List Temporary) (rest : Plains) → over (ended x ts rest) ≡ ended x ts (over rest)
  over-ended x [] rest = refl
  over-ended x (t ∷ ts) rest = by t.in_branch (over-ended x ts rest)
    where
      by : (b : Bool) → over (ended x ts rest) ≡ ended x ts (over rest)
          → over (elim b [ true ↦ more (branch (flag x t.local.number) (finished (t.local ∷ []) nothing) nothing) (ended x ts rest) | false ↦ finished (t.local ∷ []) (ended x ts rest) ])
          ≡ (elim b [ true ↦ more (branch (flag x t.local.number) (finished (t.local ∷ []) nothing) nothing) (ended x ts (over rest)) | false ↦ finished (t.local ∷ []) (ended x ts (over rest)) ])
      by true p = ap (more (branch (flag x t.local.number) (finished (t.local ∷ []) nothing) nothing)) p
      by false p = ap (more (act (plain.finish t.local.type t.local.number))) p

  -- ---- expressions

  module _ (cs : List Class) where
    -- the code of an expression, before any rest
    abbrev Codes : Core → Type 0
    Codes e = (x : Full) (into : Option Destination) (n : Register) (k : ℕ) (rest : Plains) → over (value cs x e into n k rest) ≡ value cs x (again e) into n k (over rest)

    over-settled : (e : Core) (p n : Register) (rest : Plains) → over (settled e p n rest) ≡ settled (again e) p n (over rest)
    over-settled e p n rest = by (builds e) ∙ ap (λ b. if b then over rest else more (act (plain.first p n)) (over rest)) (sym (same-builds r e))
      where
        by : (b : Bool) → over (if b then rest else more (act (plain.first p n)) rest) ≡ (if b then over rest else more (act (plain.first p n)) (over rest))
        by true = refl
        by false = refl

    -- two operands, the left one used first
    over-two : (a b : Core) → Codes a → Codes b → (x : Full) (n : Register) (k : ℕ) (rest : Plains)
        → over (value cs x a None n k (used n (value cs x b None (suc n) (k + width a) rest))) ≡ value cs x (again a) None n k (used n (value cs x (again b) None (suc n) (k + width (again a)) (over rest)))
    over-two a b p q x n k rest =
        p x None n k (used n (value cs x b None (suc n) (k + width a) rest))
        ∙ ap (λ ss. value cs x (again a) None n k (used n ss)) (q x None (suc n) (k + width a) rest)
        ∙ ap (λ w. value cs x (again a) None n k (used n (value cs x (again b) None (suc n) (k + w) (over rest)))) (sym (same-width r a))

    mutual
      pub over-value : (e : Core) → is_value e ≡ true → Codes e
      over-value (core.number z) ok x into n k rest = refl
      over-value (core.local i) ok x into n k rest = refl
      over-value (core.text j bytes) ok x into n k rest = refl
      over-value (core.static_object name t) ok x into n k rest = refl
      over-value (core.function name t) ok x into n k rest = refl
      over-value (core.read e) ok x into n k rest = over-value e ok x None n k (more (set n (plain.read n)) rest)
      over-value (core.address e) ok x into n k rest = over-value e ok x None n k (used n rest)
      over-value (core.dereference e) ok x into n k rest = over-value e ok x None n k (more (set n (plain.dereference n)) rest)
      over-value (core.decay e) ok x into n k rest = over-value e ok x None n k (more (set n (plain.decay n)) rest)
      over-value (core.from_void t e) ok x into n k rest = over-value e ok x None n k (more (set n (plain.from_void t n)) rest)
      over-value (core.index a b) ok x into n k rest =
          let p = both (is_value a) (is_value b) ok in over-two a b (over-value a p.0) (over-value b p.1) x n k (more (set n (plain.index n (suc n))) rest)
      over-value (core.pointer_operate op a b) ok x into n k rest =
          let p = both (is_value a) (is_value b) ok in over-two a b (over-value a p.0) (over-value b p.1) x n k (more (set n (plain.pointer_operate op n (suc n))) rest)
      over-value (core.convert t e) ok x into n k rest = over-value e ok x None n k (more (set n (plain.convert t n)) rest)
      over-value (core.operate op kind a b) ok x into n k rest =
          let p = both (is_value a) (is_value b) ok in over-two a b (over-value a p.0) (over-value b p.1) x n k (more (set n (plain.operate op kind n (suc n))) rest)
      over-value (core.unary op kind e) ok x into n k rest = over-value e ok x None n k (more (set n (plain.unary op kind n)) rest)
      over-value (core.logical_not e) ok x into n k rest = over-value e ok x None n k (more (set n (plain.logical_not n)) rest)
      over-value (core.logical_and a b) ok x into n k rest =
          let p = both (is_value a) (is_value b) ok in
          let right : Core → ℕ → Plains = λ e w. value cs x e None n (k + w) (more (set n (plain.truth n)) nothing) in
          over-value a p.0 x None n k (more (set n (plain.truth n)) (more (branch n (right b (width a)) nothing) rest))
          ∙ ap (λ ss. value cs x (again a) None n k (more (set n (plain.truth n)) (more (branch n ss nothing) (over rest))))
          (over-value b p.1 x None n (k + width a) (more (set n (plain.truth n)) nothing) ∙ ap (right (again b)) (sym (same-width r a)))
      over-value (core.logical_or a b) ok x into n k rest =
          let p = both (is_value a) (is_value b) ok in
          let right : Core → ℕ → Plains = λ e w. value cs x e None n (k + w) (more (set n (plain.truth n)) nothing) in
          over-value a p.0 x None n k (more (set n (plain.truth n)) (more (branch n nothing (right b (width a))) rest))
          ∙ ap (λ ss. value cs x (again a) None n k (more (set n (plain.truth n)) (more (branch n nothing ss) (over rest))))
          (over-value b p.1 x None n (k + width a) (more (set n (plain.truth n)) nothing) ∙ ap (right (again b)) (sym (same-width r a)))
      over-value (core.conditional c a b) ok x into n k rest =
          let p = both (is_value c) (is_value a && is_value b) ok in
          let q = both (is_value a) (is_value b) p.1 in
          let yes : Core → ℕ → Plains = λ e w. value cs x e None n (k + w) nothing in
          let no_arm : Core → ℕ → ℕ → Plains = λ e w v. value cs x e None n (k + w + v) nothing in
          over-value c p.0 x None n k (more (set n (plain.truth n)) (more (branch n (yes a (width c)) (no_arm b (width c) (width a))) rest))
          ∙ ap (λ ss. value cs x (again c) None n k (more (set n (plain.truth n)) (more (branch n ss (over (no_arm b (width c) (width a)))) (over rest))))
          (over-value a q.0 x None n (k + width c) nothing ∙ ap (yes (again a)) (sym (same-width r c)))
          ∙ ap (λ ss. value cs x (again c) None n k (more (set n (plain.truth n)) (more (branch n (yes (again a) (width (again c))) ss) (over rest))))
          (over-value b q.1 x None n (k + width c + width a) nothing ∙ ap (λ w. no_arm (again b) w (width a)) (sym (same-width r c)) ∙ ap (no_arm (again b) (width (again c))) (sym (same-width r a)))
      over-value (core.comma es) ok x into n k rest = over-values es ok x n k rest
      over-value (core.store a b) ok x into n k rest =
          let p = both (is_value a) (is_value b) ok in over-two a b (over-value a p.0) (over-value b p.1) x n k (more (act (plain.store n (suc n))) rest)
      over-value (core.update a change b) ok x into n k rest =
          let p = both (is_value a) (is_value b) ok in
          over-two a b (over-value a p.0) (over-value b p.1) x n k
          (used (suc n) (more (set (suc (suc n)) (plain.read n)) (more (set (suc n) (plain.changed change (suc (suc n)) (suc n))) (more (act (plain.store n (suc n))) rest))))
      over-value (core.step false change e) ok x into n k rest =
          over-value e ok x None n k
          (more (set (suc n) (plain.read n)) (more (set (suc (suc n)) (plain.number (pos 1))) (more (set (suc n) (plain.changed change (suc n) (suc (suc n)))) (more (act (plain.store n (suc n))) rest))))
      over-value (core.step true change e) ok x into n k rest =
          over-value e ok x None (suc n) k
          (more (set n (plain.read (suc n))) (more (set (suc (suc n)) (plain.number (pos 1))) (more (set (suc (suc n)) (plain.changed change n (suc (suc n)))) (more (act (plain.store (suc n) (suc (suc n)))) rest))))
      over-value (core.temporary t e) ok x into n k rest =
          let is : is_value e ≡ true = (both (not (is_reference t)) (is_value e) ok).1 in
          let marked : Plains → Plains = λ rest. more (set (flag x k) (plain.number (pos 1))) rest in
          ap (λ ss. more (set (suc n) (plain.declare k t)) (more (set n (plain.local k)) ss))
          (over-value e is x (destination (suc n) t) (suc (suc n)) (suc k) (settled e (suc n) (suc (suc n)) (marked rest))
          ∙ ap (value cs x (again e) (destination (suc n) t) (suc (suc n)) (suc k)) (over-settled e (suc n) (suc (suc n)) (marked rest)))
      over-value (core.bind no_temporary e) ok x into n k rest = over-value e ok x None n k rest
      over-value (core.call name t absent args) ok x into n k rest =
          let p = both (not (is_class (result t))) (is_chain t && are_arguments args) ok in
          ap (more (act (plain.function (r name) t)))
          (over-arguments (parameters t) args (both (is_chain t) (are_arguments args) p.1).1 x n k (k + length (parameters t) + 0)
          (more (set n (plain.call name t None (numbers k (parameters t)) (result_register t into))) rest))
      over-value (core.pointer_call absent e t args) ok x into n k rest =
          let p = both (is_value e) (are_arguments args) (both (is_chain t) (is_value e && are_arguments args) (both (not (is_class (result t))) (is_chain t && (is_value e && are_arguments args)) ok).1).1 in
          let l : ℕ = k + length (parameters t) + 0 in
          let last : Plains → Plains = λ rest. more (set n (plain.pointer_call None n t (numbers k (parameters t)) (result_register t into))) rest in
          over-value e p.0 x None n l (used n (arguments cs x (parameters t) args (suc n) k (l + width e) (last rest)))
          ∙ ap (λ ss. value cs x (again e) None n l (used n ss))
          (over-arguments (parameters t) args p.1 x (suc n) k (l + width e) (last rest)
          ∙ ap (λ w. arguments cs x (parameters t) (renamed_all r args) (suc n) k (l + w) (last (over rest))) (sym (same-width r e)))
      over-value e ok x into n k rest = never ok

      over-values : (es : Cores) → are_values es ≡ true → (x : Full) (n : Register) (k : ℕ) (rest : Plains) → over (values cs x es n k rest) ≡ values cs x (renamed_all r es) n k (over rest)
      over-values none ok x n k rest = never ok
      over-values (core.more e none) ok x n k rest = over-value e ok x None n k rest
      over-values (core.more e (core.more f es)) ok x n k rest =
          let p = both (is_value e) (are_values (core.more f es)) ok in
          over-value e p.0 x None n k (values cs x (core.more f es) n (k + width e) rest)
          ∙ ap (value cs x (again e) None n k) (over-values (core.more f es) p.1 x n (k + width e) rest ∙ ap (λ w. values cs x (renamed_all r (core.more f es)) n (k + w) (over rest)) (sym (same-width r e)))

      over-arguments : (ts : List SourceType) (es : Cores) → are_arguments es ≡ true → (x : Full) (n : Register) (i k : ℕ) (rest : Plains)
          → over (arguments cs x ts es n i k rest) ≡ arguments cs x ts (renamed_all r es) n i k (over rest)
      over-arguments [] none ok x n i k rest = refl
      over-arguments [] (core.more e es) ok x n i k rest = refl
      over-arguments (t ∷ ts) none ok x n i k rest = refl
      over-arguments (t ∷ ts) (core.more e es) ok x n i k rest =
          let p = both (is_value e) (are_arguments es) ok in
          let others = arguments cs x ts es n (suc i) (k + width e) rest in
          ap (more (set n (plain.declare i t)))
          (over-value e p.0 x (destination n t) (suc n) k (settled e n (suc n) others)
          ∙ ap (value cs x (again e) (destination n t) (suc n) k)
          (over-settled e n (suc n) others
          ∙ ap (settled (again e) n (suc n)) (over-arguments ts es p.1 x n (suc i) (k + width e) rest ∙ ap (λ w. arguments cs x ts (renamed_all r es) n (suc i) (k + w) (over rest)) (sym (same-width r e)))))

    -- a full expression, and what follows with its register
    pub over-whole : (e : Core) → is_value e ≡ true → (n : Register) (k : ℕ) (into : Option Destination) (go then_go : Register → Plains → Plains) (rest later : Register → Plains)
        → ((m : Register) (ss : Plains) → over (go m ss) ≡ then_go m (over ss)) → ((m : Register) → over (rest m) ≡ later m)
        → over (whole e n k (λ x m ss. value cs x e into m k (go m ss)) rest) ≡ whole (again e) n k (λ x m ss. value cs x (again e) into m k (then_go m ss)) later
    over-whole e ok n k into go then_go rest later goes same =
        let x : Full = record { first = k; base = n } in
        let m : Register = n + width e in
        let ts : List Temporary = temporaries false e k in
        let behind : List Temporary → Plains = λ ts. ended x (reverse ts) (later m) in
        over-flags x ts (value cs x e into m k (go m (ended x (reverse ts) (rest m))))
        ∙ ap (flags x ts)
        (over-value e ok x into m k (go m (ended x (reverse ts) (rest m)))
        ∙ ap (value cs x (again e) into m k) (goes m (ended x (reverse ts) (rest m)) ∙ ap (then_go m) (over-ended x (reverse ts) (rest m) ∙ ap (ended x (reverse ts)) (same m))))
        ∙ ap (λ us. flags x us (value cs x (again e) into m k (then_go m (behind us)))) (sym (same-temporaries r e ok false k))
        ∙ ap (λ w. flags x (temporaries false (again e) k) (value cs x (again e) into (n + w) k (then_go (n + w) (ended x (reverse (temporaries false (again e) k)) (later (n + w)))))) (sym (same-width r e))

    over-fill : (e : Core) → is_filling e ≡ true → (n : Register) (rest : Plains) → over (more (act (fill e n)) rest) ≡ more (act (fill (again e) n)) (over rest)
    over-fill core.zeros ok n rest = refl
    over-fill (core.string bytes) ok n rest = refl
    over-fill e ok n rest = never ok

    -- an initialiser of the place in a register
    pub over-started : (t : SourceType) (e : Core) → is_initial e ≡ true → (n : Register) (k : ℕ) (rest : Plains) → over (started cs t e n k rest) ≡ started cs t (again e) n k (over rest)
    over-started t e ok n k rest =
        or-else (is_filling e) (is_start e) ok
        (λ fills.
        ap over (started-is cs t e fills n k rest) ∙ over-fill e fills n rest
        ∙ sym (started-is cs t (again e) (same-filling r e ∙ fills) n k (over rest)))
        (λ starts. or-else (is_nothing e) (is_value e) starts
        (λ blank. subst (λ e. over (started cs t e n k rest) ≡ started cs t (again e) n k (over rest)) (sym (nothing-is e blank)) refl)
        (λ is.
        over-whole e is (suc n) k (destination n t) (λ m ss. settled e n m ss) (λ m ss. settled (again e) n m ss) (λ m. rest) (λ m. over rest) (λ m ss. over-settled e n m ss) (λ m. refl)))

    -- a reference's temporary
    pub over-kept : (i : ℕ) (t : SourceType) (e : Core) → is_held i e ≡ true → (n : Register) (k : ℕ) (rest : Plains) → over (started cs t e n k rest) ≡ started cs t (again e) n k (over rest)
    over-kept i t (core.bind (local_temporary j u) e) ok n k rest =
        let is : is_value e ≡ true = (both (not (is_reference u)) (is_value e) (both (nat_lt i j) (not (is_reference u) && is_value e) ok).1).1 in
        let x : Full = record { first = k; base = suc n } in
        let ts : List Temporary = temporaries false e k in
        let from : Core → List Temporary → Register → Plains → Plains = λ e ts m rest.
        flags x ts (more (set (suc m) (plain.declare j u)) (more (set m (plain.local j))
        (value cs x e (destination (suc m) u) (suc (suc m)) k (settled e (suc m) (suc (suc m)) (more (act (plain.first n m)) (ended x (reverse ts) rest)))))) in
        let m : Register = held_at e n in
        let last : Plains = more (act (plain.first n m)) (ended x (reverse ts) rest) in
        over-flags x ts (more (set (suc m) (plain.declare j u)) (more (set m (plain.local j)) (value cs x e (destination (suc m) u) (suc (suc m)) k (settled e (suc m) (suc (suc m)) last))))
        ∙ ap (λ ss. flags x ts (more (set (suc m) (plain.declare j u)) (more (set m (plain.local j)) ss)))
        (over-value e is x (destination (suc m) u) (suc (suc m)) k (settled e (suc m) (suc (suc m)) last)
        ∙ ap (value cs x (again e) (destination (suc m) u) (suc (suc m)) k) (over-settled e (suc m) (suc (suc m)) last ∙ ap (settled (again e) (suc m) (suc (suc m))) (ap (more (act (plain.first n m))) (over-ended x (reverse ts) rest))))
        ∙ ap (λ us. from (again e) us m (over rest)) (sym (same-temporaries r e is false k))
        ∙ ap (λ w. from (again e) (temporaries false (again e) k) (suc n + w) (over rest)) (sym (same-width r e))
    over-kept i t e ok n k rest = never ok

    -- what binds a static reference
    pub over-bound : (t : SourceType) (e : Core) → is_bound e ≡ true → (n : Register) (k : ℕ) (rest : Plains) → over (started cs t e n k rest) ≡ started cs t (again e) n k (over rest)
    over-bound t (core.bind no_temporary e) ok n k rest = over-started t (core.bind no_temporary e) (constant-value e ok) n k rest
    over-bound t (core.bind (static_temporary name) e) ok n k rest =
        let is = constant-value e ok in
        let x : Full = record { first = k; base = suc n } in
        let ts : List Temporary = temporaries false e k in
        let from : Core → List Temporary → Register → Plains → Plains = λ e ts m rest.
        flags x ts (value cs x e None (suc m) k (more (set m (plain.finish_static (r name))) (settled e m (suc m) (more (act (plain.first n m)) (ended x (reverse ts) rest))))) in
        let m : Register = held_at e n in
        let last : Plains = more (act (plain.first n m)) (ended x (reverse ts) rest) in
        over-flags x ts (value cs x e None (suc m) k (more (set m (plain.finish_static name)) (settled e m (suc m) last)))
        ∙ ap (flags x ts)
        (over-value e is x None (suc m) k (more (set m (plain.finish_static name)) (settled e m (suc m) last))
        ∙ ap (λ ss. value cs x (again e) None (suc m) k (more (set m (plain.finish_static (r name))) ss))
        (over-settled e m (suc m) last ∙ ap (settled (again e) m (suc m)) (ap (more (act (plain.first n m))) (over-ended x (reverse ts) rest))))
        ∙ ap (λ us. from (again e) us m (over rest)) (sym (same-temporaries r e is false k))
        ∙ ap (λ w. from (again e) (temporaries false (again e) k) (suc n + w) (over rest)) (sym (same-width r e))
    over-bound t e ok n k rest = never ok

    pub over-condition : (q : Core) → is_value q ≡ true → (k : ℕ) (rest later : Register → Plains) → ((m : Register) → over (rest m) ≡ later m) → over (condition cs q k rest) ≡ condition cs (again q) k later
    over-condition q ok k rest later same = over-whole q ok 0 k None (λ m ss. more (set m (plain.truth m)) ss) (λ m ss. more (set m (plain.truth m)) ss) rest later (λ m ss. refl) same

    pub over-held : (q : MaybeCore) → is_condition q ≡ true → (k : ℕ) (rest later : Plains) → over rest ≡ later → over (held cs q k rest) ≡ held cs (renamed_maybe r q) k later
    over-held absent ok k rest later e = e
    over-held (given q) ok k rest later e =
        over-condition q ok k (λ n. more (branch n nothing (more leave nothing)) rest) (λ n. more (branch n nothing (more leave nothing)) later) (λ n. ap (more (branch n nothing (more leave nothing))) e)

    pub over-stepped : (q : MaybeCore) → is_condition q ≡ true → (k : ℕ) → over (stepped cs q k) ≡ stepped cs (renamed_maybe r q) k
    over-stepped absent ok k = refl
    over-stepped (given e) ok k = over-whole e ok 0 k None (λ m ss. ss) (λ m ss. ss) (λ m. nothing) (λ m. nothing) (λ m ss. refl) (λ m. refl)
