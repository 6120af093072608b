-- Plain statements without a label of their own: a switch passes over them to the labels behind.
use Rattle.std.proofs.Common.{◌≡◌, ℕ, suc, ◌+◌, length, if◌then◌else◌, Bool, true, false, not, ◌&&◌, List, [], ◌∷◌, reverse, refl, sym, ap, ◌∙◌}
use Rattle.std.specs.Prelude.{ℤ, pos, Option, None}
use Rattle.cf_base.proofs.Tests.{both}
use Rattle.cf_core.specs.Types.{SourceType, parameters, result, is_class}
use Rattle.cf_core.specs.Core as core
use Rattle.cf_core.specs.Core.{Core, Cores, MaybeCore, no_temporary, none, absent, given}
use Rattle.cf_core.specs.Places.{is_reference}
use Rattle.cf_core.specs.Calls.{Program}
use Rattle.cf_plain.specs.Plain.{Register, Action, Plain, Plains, act, set, branch, loop, leave, continue, give, nothing, more}
use Rattle.cf_plain.specs.Plain as plain
use Rattle.cf_plain.specs.Acts.{Registers}
use Rattle.cf_base.specs.World.{World, Ran, Went, Stops, and_then}
use Rattle.cf_core.specs.Run.{State, Did, Gives, Exits, Malformed}
use Rattle.cf_plain.specs.Running.{Again, Flow, Falls, Breaks, Continues, Returns, falling, does, all, has_case, from_case, from_default}
use Rattle.cf_sequence.proofs.Following.{on}
use Rattle.cf_sequence.specs.Built.{is_value, are_values, are_arguments, is_chain}
use Rattle.cf_sequence.specs.Made.{Local, Temporary, temporaries, width, numbers}
use Rattle.cf_sequence.specs.Expressions.{Full, flag, Destination, destination, value, values, arguments, settled, builds, finished, flags, ended, whole, result_register, used as use_of}
use Rattle.cf_sequence.proofs.Calling.{never}

-- statements before others
abbrev pub append : Plains → Plains → Plains
append nothing rest = rest
append (more s ss) rest = more s (append ss rest)

append-append : (a b rest : Plains) → append a (append b rest) ≡ append (append a b) rest
append-append nothing b rest = refl
append-append (more s ss) b rest = ap (more s) (append-append ss b rest)

-- they run first
pub all-append : (again : Again) (H : Program) (a b : Plains) (g : Registers) (s : State) (w : World)
    → all again H (append a b) g s w ≡ and_then (all again H a g s w) (on (falling (λ h. all again H b h)))
all-append again H nothing b g s w = refl
all-append again H (more st ss) b g s w = by (does again H st g s w) (λ h t w. all-append again H ss b h t w)
  where
    by : (x : Ran (Did Flow)) → ((h : Registers) (t : State) (w : World) → all again H (append ss b) h t w ≡ and_then (all again H ss h t w) (on (falling (λ h. all again H b h))))
        → and_then x (on (falling (λ h. all again H (append ss b) h))) ≡ and_then (and_then x (on (falling (λ h. all again H ss h)))) (on (falling (λ h. all again H b h)))
    by (Went (Gives (Falls h) t) w) later = later h t w
    by (Went (Gives (Breaks h) t) w) later = refl
    by (Went (Gives (Continues h) t) w) later = refl
    by (Went (Gives (Returns v) t) w) later = refl
    by (Went (Exits z t) w) later = refl
    by (Went Malformed w) later = refl
    by (Stops end trace) later = refl

module _ (again : Again) (H : Program) where
  -- code before others that has no label
  pub record Silent (code : Plains → Plains) : Type 0 where
    pub labels : (z : ℤ) (rest : Plains) → has_case z (code rest) ≡ has_case z rest
    pub at_case : (z : ℤ) (rest : Plains) (g : Registers) → from_case again H z (code rest) g ≡ from_case again H z rest g
    pub at_default : (rest : Plains) (g : Registers) → from_default again H (code rest) g ≡ from_default again H rest g
    pub ahead : (rest : Plains) → code rest ≡ append (code nothing) rest

  pub silent-none : Silent (λ rest. rest)
  silent-none = record { labels = λ z rest. refl; at_case = λ z rest g. refl; at_default = λ rest g. refl; ahead = λ rest. refl }

  pub silent-set : (n : Register) (a : Action) → Silent (λ rest. more (set n a) rest)
  silent-set n a = record { labels = λ z rest. refl; at_case = λ z rest g. refl; at_default = λ rest g. refl; ahead = λ rest. refl }

  pub silent-act : (a : Action) → Silent (λ rest. more (act a) rest)
  silent-act a = record { labels = λ z rest. refl; at_case = λ z rest g. refl; at_default = λ rest g. refl; ahead = λ rest. refl }

  pub silent-branch : (n : Register) (ss ts : Plains) → Silent (λ rest. more (branch n ss ts) rest)
  silent-branch n ss ts = record { labels = λ z rest. refl; at_case = λ z rest g. refl; at_default = λ rest g. refl; ahead = λ rest. refl }

  pub silent-loop : (ss ts : Plains) → Silent (λ rest. more (loop ss ts) rest)
  silent-loop ss ts = record { labels = λ z rest. refl; at_case = λ z rest g. refl; at_default = λ rest g. refl; ahead = λ rest. refl }

  pub silent-switch : (n : Register) (ss : Plains) → Silent (λ rest. more (plain.switch n ss) rest)
  silent-switch n ss = record { labels = λ z rest. refl; at_case = λ z rest g. refl; at_default = λ rest g. refl; ahead = λ rest. refl }

  pub silent-leave : Silent (λ rest. more leave rest)
  silent-leave = record { labels = λ z rest. refl; at_case = λ z rest g. refl; at_default = λ rest g. refl; ahead = λ rest. refl }

  pub silent-continue : Silent (λ rest. more continue rest)
  silent-continue = record { labels = λ z rest. refl; at_case = λ z rest g. refl; at_default = λ rest g. refl; ahead = λ rest. refl }

  pub silent-give : (r : Option Register) → Silent (λ rest. more (give r) rest)
  silent-give r = record { labels = λ z rest. refl; at_case = λ z rest g. refl; at_default = λ rest g. refl; ahead = λ rest. refl }

  pub silent-then : (F G : Plains → Plains) → Silent F → Silent G → Silent (λ rest. F (G rest))
  silent-then F G p q = record {
    labels = λ z rest. p.labels z (G rest) ∙ q.labels z rest;
    at_case = λ z rest g. p.at_case z (G rest) g ∙ q.at_case z rest g;
    at_default = λ rest g. p.at_default (G rest) g ∙ q.at_default rest g;
    ahead = λ rest.
        p.ahead (G rest) ∙ ap (append (F nothing)) (q.ahead rest) ∙ append-append (F nothing) (G nothing) rest ∙ ap (λ ss. append ss rest) (sym (p.ahead (G nothing)));
  }

  -- code that is the same
  pub silent-by : (F G : Plains → Plains) → ((rest : Plains) → F rest ≡ G rest) → Silent G → Silent F
  silent-by F G same p = record {
    labels = λ z rest. ap (has_case z) (same rest) ∙ p.labels z rest;
    at_case = λ z rest g. ap (λ ss. from_case again H z ss g) (same rest) ∙ p.at_case z rest g;
    at_default = λ rest g. ap (λ ss. from_default again H ss g) (same rest) ∙ p.at_default rest g;
    ahead = λ rest. same rest ∙ p.ahead rest ∙ ap (λ ss. append ss rest) (sym (same nothing));
  }

  pub silent-finished : (xs : List Local) → Silent (finished xs)
  silent-finished [] = silent-none
  silent-finished (x ∷ xs) = silent-then (λ rest. more (act (plain.finish x.type x.number)) rest) (finished xs) (silent-act _) (silent-finished xs)

  pub silent-used : (n : Register) → Silent (use_of n)
  silent-used n = silent-act (plain.truth n)

  -- two operands, and then more
  silent-operands : (F G last : Plains → Plains) (n : Register) → Silent F → Silent G → Silent last → Silent (λ rest. F (use_of n (G (last rest))))
  silent-operands F G last n p q r =
      silent-then F (λ rest. use_of n (G (last rest))) p (silent-then (use_of n) (λ rest. G (last rest)) (silent-used n) (silent-then G last q r))

  -- whether an initialiser's value is put or not
  pub silent-settled : (e : Core) (p n : Register) → Silent (settled e p n)
  silent-settled e p n = by-test (builds e)
    where
      by-test : (b : Bool) → Silent (λ rest. if b then rest else more (act (plain.first p n)) rest)
      by-test true = silent-none
      by-test false = silent-act (plain.first p n)

  -- the flags of temporaries, and their ends
  pub silent-flags : (x : Full) (ts : List Temporary) → Silent (flags x ts)
  silent-flags x [] = silent-none
  silent-flags x (t ∷ ts) = by-test t.in_branch (silent-flags x ts)
    where
      by-test : (b : Bool) → Silent (flags x ts) → Silent (λ rest. elim b [ true ↦ more (set (flag x t.local.number) (plain.number (pos 0))) (flags x ts rest) | false ↦ flags x ts rest ])
      by-test true p = silent-then (λ rest. more (set (flag x t.local.number) (plain.number (pos 0))) rest) (flags x ts) (silent-set (flag x t.local.number) (plain.number (pos 0))) p
      by-test false p = p

  pub silent-ended : (x : Full) (ts : List Temporary) → Silent (ended x ts)
  silent-ended x [] = silent-none
  silent-ended x (t ∷ ts) = by-test t.in_branch (silent-ended x ts)
    where
      by-test : (b : Bool) → Silent (ended x ts) → Silent (λ rest. elim b [
        | true ↦ more (branch (flag x t.local.number) (finished (t.local ∷ []) nothing) nothing) (ended x ts rest)
        | false ↦ finished (t.local ∷ []) (ended x ts rest)
      ])
      by-test true p =
          silent-then (λ rest. more (branch (flag x t.local.number) (finished (t.local ∷ []) nothing) nothing) rest) (ended x ts) (silent-branch (flag x t.local.number) (finished (t.local ∷ []) nothing) nothing) p
      by-test false p = silent-then (finished (t.local ∷ [])) (ended x ts) (silent-finished (t.local ∷ [])) p

  module _ (P : Program) where
    mutual
      pub silent-value : (e : Core) → is_value e ≡ true → (x : Full) (into : Option Destination) (n : Register) (k : ℕ) → Silent (value P.classes x e into n k)
      silent-value (core.number z) ok x into n k = silent-set n (plain.number z)
      silent-value (core.local i) ok x into n k = silent-set n (plain.local i)
      silent-value (core.read e) ok x into n k = silent-then (value P.classes x e None n k) (λ rest. more (set n (plain.read n)) rest) (silent-value e ok x None n k) (silent-set n (plain.read n))
      silent-value (core.static_object name t) ok x into n k = silent-set n (plain.static_object name t)
      silent-value (core.function name t) ok x into n k = silent-set n (plain.function name t)
      silent-value (core.text j bytes) ok x into n k = silent-set n (plain.text j bytes)
      silent-value (core.address e) ok x into n k = silent-then (value P.classes x e None n k) (use_of n) (silent-value e ok x None n k) (silent-used n)
      silent-value (core.dereference e) ok x into n k =
          silent-then (value P.classes x e None n k) (λ rest. more (set n (plain.dereference n)) rest) (silent-value e ok x None n k) (silent-set n (plain.dereference n))
      silent-value (core.decay e) ok x into n k =
          silent-then (value P.classes x e None n k) (λ rest. more (set n (plain.decay n)) rest) (silent-value e ok x None n k) (silent-set n (plain.decay n))
      silent-value (core.from_void t e) ok x into n k =
          silent-then (value P.classes x e None n k) (λ rest. more (set n (plain.from_void t n)) rest) (silent-value e ok x None n k) (silent-set n (plain.from_void t n))
      silent-value (core.index a b) ok x into n k =
          let parts = both (is_value a) (is_value b) ok in
          silent-operands (value P.classes x a None n k) (value P.classes x b None (suc n) (k + width a)) (λ rest. more (set n (plain.index n (suc n))) rest) n
          (silent-value a parts.0 x None n k) (silent-value b parts.1 x None (suc n) (k + width a)) (silent-set n (plain.index n (suc n)))
      silent-value (core.pointer_operate op a b) ok x into n k =
          let parts = both (is_value a) (is_value b) ok in
          silent-operands (value P.classes x a None n k) (value P.classes x b None (suc n) (k + width a)) (λ rest. more (set n (plain.pointer_operate op n (suc n))) rest) n
          (silent-value a parts.0 x None n k) (silent-value b parts.1 x None (suc n) (k + width a)) (silent-set n (plain.pointer_operate op n (suc n)))
      silent-value (core.convert t e) ok x into n k =
          silent-then (value P.classes x e None n k) (λ rest. more (set n (plain.convert t n)) rest) (silent-value e ok x None n k) (silent-set n (plain.convert t n))
      silent-value (core.unary op t e) ok x into n k =
          silent-then (value P.classes x e None n k) (λ rest. more (set n (plain.unary op t n)) rest) (silent-value e ok x None n k) (silent-set n (plain.unary op t n))
      silent-value (core.logical_not e) ok x into n k =
          silent-then (value P.classes x e None n k) (λ rest. more (set n (plain.logical_not n)) rest) (silent-value e ok x None n k) (silent-set n (plain.logical_not n))
      silent-value (core.operate op t a b) ok x into n k =
          let parts = both (is_value a) (is_value b) ok in
          silent-operands (value P.classes x a None n k) (value P.classes x b None (suc n) (k + width a)) (λ rest. more (set n (plain.operate op t n (suc n))) rest) n
          (silent-value a parts.0 x None n k) (silent-value b parts.1 x None (suc n) (k + width a)) (silent-set n (plain.operate op t n (suc n)))
      silent-value (core.logical_and a b) ok x into n k =
          let parts = both (is_value a) (is_value b) ok in
          silent-then (value P.classes x a None n k)
          (λ rest. more (set n (plain.truth n)) (more (branch n (value P.classes x b None n (k + width a) (more (set n (plain.truth n)) nothing)) nothing) rest))
          (silent-value a parts.0 x None n k) (record { labels = λ z rest. refl; at_case = λ z rest g. refl; at_default = λ rest g. refl; ahead = λ rest. refl })
      silent-value (core.logical_or a b) ok x into n k =
          let parts = both (is_value a) (is_value b) ok in
          silent-then (value P.classes x a None n k)
          (λ rest. more (set n (plain.truth n)) (more (branch n nothing (value P.classes x b None n (k + width a) (more (set n (plain.truth n)) nothing))) rest))
          (silent-value a parts.0 x None n k) (record { labels = λ z rest. refl; at_case = λ z rest g. refl; at_default = λ rest g. refl; ahead = λ rest. refl })
      silent-value (core.conditional q a b) ok x into n k =
          let parts = both (is_value q) (is_value a && is_value b) ok in
          silent-then (value P.classes x q None n k)
          (λ rest. more (set n (plain.truth n)) (more (branch n (value P.classes x a None n (k + width q) nothing) (value P.classes x b None n (k + width q + width a) nothing)) rest))
          (silent-value q parts.0 x None n k) (record { labels = λ z rest. refl; at_case = λ z rest g. refl; at_default = λ rest g. refl; ahead = λ rest. refl })
      silent-value (core.temporary t e) ok x into n k =
          let is : is_value e ≡ true = (both (not (is_reference t)) (is_value e) ok).1 in
          let code : Plains → Plains = value P.classes x e (destination (suc n) t) (suc (suc n)) (suc k) in
          let last : Plains → Plains = λ rest. more (set (flag x k) (plain.number (pos 1))) rest in
          let inner : Plains → Plains = λ rest. code (settled e (suc n) (suc (suc n)) (last rest)) in
          silent-then (λ rest. more (set (suc n) (plain.declare k t)) rest) (λ rest. more (set n (plain.local k)) (inner rest)) (silent-set (suc n) (plain.declare k t))
          (silent-then (λ rest. more (set n (plain.local k)) rest) inner (silent-set n (plain.local k))
          (silent-then code (λ rest. settled e (suc n) (suc (suc n)) (last rest)) (silent-value e is x (destination (suc n) t) (suc (suc n)) (suc k))
          (silent-then (settled e (suc n) (suc (suc n))) last (silent-settled e (suc n) (suc (suc n))) (silent-set (flag x k) (plain.number (pos 1))))))
      silent-value (core.bind no_temporary e) ok x into n k = silent-value e ok x None n k
      silent-value (core.comma es) ok x into n k = silent-values es ok x n k
      silent-value (core.store a b) ok x into n k =
          let parts = both (is_value a) (is_value b) ok in
          silent-operands (value P.classes x a None n k) (value P.classes x b None (suc n) (k + width a)) (λ rest. more (act (plain.store n (suc n))) rest) n
          (silent-value a parts.0 x None n k) (silent-value b parts.1 x None (suc n) (k + width a)) (silent-act (plain.store n (suc n)))
      silent-value (core.update a c b) ok x into n k =
          let parts = both (is_value a) (is_value b) ok in
          silent-operands (value P.classes x a None n k) (value P.classes x b None (suc n) (k + width a))
          (λ rest. use_of (suc n) (more (set (suc (suc n)) (plain.read n)) (more (set (suc n) (plain.changed c (suc (suc n)) (suc n))) (more (act (plain.store n (suc n))) rest)))) n
          (silent-value a parts.0 x None n k) (silent-value b parts.1 x None (suc n) (k + width a)) (record { labels = λ z rest. refl; at_case = λ z rest g. refl; at_default = λ rest g. refl; ahead = λ rest. refl })
      silent-value (core.step false c e) ok x into n k =
          silent-then (value P.classes x e None n k)
          (λ rest. more (set (suc n) (plain.read n)) (more (set (suc (suc n)) (plain.number (pos 1))) (more (set (suc n) (plain.changed c (suc n) (suc (suc n)))) (more (act (plain.store n (suc n))) rest))))
          (silent-value e ok x None n k) (record { labels = λ z rest. refl; at_case = λ z rest g. refl; at_default = λ rest g. refl; ahead = λ rest. refl })
      silent-value (core.step true c e) ok x into n k =
          silent-then (value P.classes x e None (suc n) k)
          (λ rest. more (set n (plain.read (suc n))) (more (set (suc (suc n)) (plain.number (pos 1))) (more (set (suc (suc n)) (plain.changed c n (suc (suc n)))) (more (act (plain.store (suc n) (suc (suc n)))) rest))))
          (silent-value e ok x None (suc n) k) (record { labels = λ z rest. refl; at_case = λ z rest g. refl; at_default = λ rest g. refl; ahead = λ rest. refl })
      silent-value (core.call name t absent args) ok x into n k =
          let given_args = (both (is_chain t) (are_arguments args) (both (not (is_class (result t))) (is_chain t && are_arguments args) ok).1).1 in
          let last : Plains → Plains = λ rest. more (set n (plain.call name t None (numbers k (parameters t)) (result_register t into))) rest in
          silent-then (λ rest. more (act (plain.function name t)) rest) (λ rest. arguments P.classes x (parameters t) args n k (k + length (parameters t) + 0) (last rest)) (silent-act (plain.function name t))
          (silent-then (arguments P.classes x (parameters t) args n k (k + length (parameters t) + 0)) last (silent-arguments (parameters t) args given_args x n k (k + length (parameters t) + 0))
          (silent-set n (plain.call name t None (numbers k (parameters t)) (result_register t into))))
      silent-value (core.pointer_call absent e t args) ok x into n k =
          let parts = both (is_value e) (are_arguments args) (both (is_chain t) (is_value e && are_arguments args) (both (not (is_class (result t))) (is_chain t && (is_value e && are_arguments args)) ok).1).1 in
          let l : ℕ = k + length (parameters t) + 0 in
          let last : Plains → Plains = λ rest. more (set n (plain.pointer_call None n t (numbers k (parameters t)) (result_register t into))) rest in
          silent-operands (value P.classes x e None n l) (arguments P.classes x (parameters t) args (suc n) k (l + width e)) last n
          (silent-value e parts.0 x None n l) (silent-arguments (parameters t) args parts.1 x (suc n) k (l + width e))
          (silent-set n (plain.pointer_call None n t (numbers k (parameters t)) (result_register t into)))
      silent-value e ok x into n k = never ok

      silent-values : (es : Cores) → are_values es ≡ true → (x : Full) (n : Register) (k : ℕ) → Silent (values P.classes x es n k)
      silent-values none ok x n k = silent-none
      silent-values (core.more e none) ok x n k = silent-value e ok x None n k
      silent-values (core.more e (core.more f es)) ok x n k =
          let parts = both (is_value e) (are_values (core.more f es)) ok in
          silent-then (value P.classes x e None n k) (values P.classes x (core.more f es) n (k + width e)) (silent-value e parts.0 x None n k) (silent-values (core.more f es) parts.1 x n (k + width e))

      silent-arguments : (ts : List SourceType) (es : Cores) → are_arguments es ≡ true → (x : Full) (n : Register) (i k : ℕ) → Silent (arguments P.classes x ts es n i k)
      silent-arguments [] none ok x n i k = silent-none
      silent-arguments [] (core.more e es) ok x n i k = silent-none
      silent-arguments (t ∷ ts) none ok x n i k = silent-none
      silent-arguments (t ∷ ts) (core.more e es) ok x n i k =
          let parts = both (is_value e) (are_arguments es) ok in
          let others : Plains → Plains = arguments P.classes x ts es n (suc i) (k + width e) in
          silent-then (λ rest. more (set n (plain.declare i t)) rest) (λ rest. value P.classes x e (destination n t) (suc n) k (settled e n (suc n) (others rest))) (silent-set n (plain.declare i t))
          (silent-then (value P.classes x e (destination n t) (suc n) k) (λ rest. settled e n (suc n) (others rest)) (silent-value e parts.0 x (destination n t) (suc n) k)
          (silent-then (settled e n (suc n)) others (silent-settled e n (suc n)) (silent-arguments ts es parts.1 x n (suc i) (k + width e))))

    -- a full expression, and what follows with its register
    pub silent-whole : (e : Core) → is_value e ≡ true → (n : Register) (k : ℕ) (into : Option Destination) (go last : Register → Plains → Plains) → ((m : Register) → Silent (go m)) → ((m : Register) → Silent (last m))
        → Silent (λ rest. whole e n k (λ x m ss. value P.classes x e into m k (go m ss)) (λ m. last m rest))
    silent-whole e ok n k into go last p q =
        let x : Full = record { first = k; base = n } in
        let m : Register = n + width e in
        let ts : List Temporary = temporaries false e k in
        let ends : Plains → Plains = λ rest. ended x (reverse ts) (last m rest) in
        silent-then (flags x ts) (λ rest. value P.classes x e into m k (go m (ends rest))) (silent-flags x ts)
        (silent-then (value P.classes x e into m k) (λ rest. go m (ends rest)) (silent-value e ok x into m k)
        (silent-then (go m) ends (p m) (silent-then (ended x (reverse ts)) (last m) (silent-ended x (reverse ts)) (q m))))
