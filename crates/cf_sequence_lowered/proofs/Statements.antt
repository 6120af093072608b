-- Statements: what is so of each of their nodes makes their plain statements pass.
use Rattle.std.proofs.Common.{◌≡◌, ℕ, suc, ◌+◌, ◌<◌, ◌≤◌, Bool, true, false, ◌&&◌, ◌||◌, nat_le, if◌then◌else◌, List, [], ◌∷◌, ◌++◌, length, reverse, refl, sym, ap, ◌∙◌, subst, arith}
use Rattle.std.specs.Prelude.{ℤ, Some, None}
use Rattle.cf_base.proofs.Tests.{both}
use Rattle.cf_core.specs.declared.operators.LoopForm.{LoopForm}
use Rattle.cf_core.specs.declared.operators.LoopForm.TheVariants as form
use Rattle.cf_core.specs.Types.{is_class}
use Rattle.cf_core.specs.Core as core
use Rattle.cf_core.specs.Core.{Core, Cores, MaybeCore, none, absent, given}
use Rattle.cf_core.specs.Joined.{is_nothing}
use Rattle.cf_core.specs.Nodes.{nodes, nodes_all, nodes_maybe}
use Rattle.cf_plain.specs.Plain.{Register, Action, Plains, act, set, branch, loop, switch, case_label, default_label, leave, continue, give, nothing, more}
use Rattle.cf_plain.specs.Plain as plain
use Rattle.cf_sequence.specs.Built.{is_value, is_start, is_condition, is_element, is_held, is_statement, is_statement_or, are_cases, are_statements, next_local}
use Rattle.cf_sequence.specs.Made.{Local, added, width, width_maybe, declared, declared_maybe, declared_all}
use Rattle.cf_sequence.specs.Expressions.{value, whole, finished, used}
use Rattle.cf_sequence.specs.Statements.{Inside, declares, opened, in_loop, in_switch, held, stepped, started, made, passing, passes_local, passed, looping, statement, statement_or, statements}
use Rattle.cf_sequence.proofs.Calling.{never, or-else}
use Rattle.cf_sequence.proofs.Fulls.{nothing-is}
use Rattle.cf_sequence.proofs.Labels.{passing-past}
use Rattle.cf_lower_program.specs.Labels.{labels}
use Rattle.cf_sequence_lowered.specs.Nodes.{core_labels}
use Rattle.cf_sequence_lowered.proofs.Each.{Each, each-two, each-left, each-right, each-reversed}
use Rattle.cf_sequence_lowered.proofs.Rooms.{Space, space-parts, space-left, space-right, space-inside, space-low, added-two}
use Rattle.cf_sequence_lowered.proofs.Suits.{Suits, Own}
use Rattle.cf_sequence_lowered.proofs.Temporaries.{fine-finished}
use Rattle.cf_sequence_lowered.proofs.Initials.{fine-whole, starts-well, StartsWell}
use Rattle.cf_sequence_lowered.proofs.Walk.{Inner, inner, AllPass, Fine, fine-none, fine-then, fine-by, fine-set, fine-act, fine-branch, fine-loop, fine-switch, fine-leave, fine-continue, fine-give}

module _ (T : Action → Type 0) (L : List ℤ → Type 0) (U : Core → Type 0) (B p W : ℕ) (suits : Suits T L U p) where
  abbrev Owns : List Local → Type 0
  Owns xs = Each (Own T L U p) xs

  -- the locals that stand around a statement
  pub record Around (f : Inside) : Type 0 where
    pub plain_result : is_class f.result ≡ false
    pub here : Each (Own T L U p) f.here
    pub breaks : Each (Own T L U p) f.breaks
    pub continues : Each (Own T L U p) f.continues
    pub returns : Each (Own T L U p) f.returns

  two : (xs ys : List Local) → Owns xs → Owns ys → Owns (xs ++ ys)
  two xs ys a b = each-two (Own T L U p) xs ys a b

  around-opened : (f : Inside) → Around f → Around (opened f)
  around-opened f a = record {
    plain_result = a.plain_result;
    here = tt;
    breaks = two f.here f.breaks a.here a.breaks;
    continues = two f.here f.continues a.here a.continues;
    returns = two f.here f.returns a.here a.returns;
  }

  around-loop : (f : Inside) → Around f → Around (in_loop f)
  around-loop f a = record { plain_result = a.plain_result; here = tt; breaks = tt; continues = tt; returns = two f.here f.returns a.here a.returns }

  around-switch : (f : Inside) → Around f → Around (in_switch f)
  around-switch f a = record {
    plain_result = a.plain_result;
    here = tt;
    breaks = tt;
    continues = two f.here f.continues a.here a.continues;
    returns = two f.here f.returns a.here a.returns;
  }

  around-declared : (xs : List Local) (f : Inside) → Owns xs → Around f → Around (declares xs f)
  around-declared xs f owns a = record {
    plain_result = a.plain_result;
    here = two xs f.here owns a.here;
    breaks = a.breaks;
    continues = a.continues;
    returns = a.returns;
  }

  -- a value, and then code with its register
  fine-value : (d : ℕ) (f : Inside) (e : Core) → is_value e ≡ true → Each U (nodes e) → (k : ℕ) → Space B p W d 0 k (nodes e) → (go : Register → Plains → Plains)
      (rest : Register → Plains → Plains) → ((m : Register) → m < B → Fine T L B d (go m)) → ((m : Register) → m < B → Fine T L B d (rest m))
      → Fine T L B d (λ last. whole e 0 k (λ x m rest. value f.classes x e None m k (go m rest)) (λ m. rest m last))
  fine-value d f e is u k s go rest g h =
      fine-whole T L U B p W suits f.classes d e is u 0 k (let a = Space.registers s in let b = Space.width s in omega arith) (Space.behind s) go rest g h None

  fine-truth : (d : ℕ) (m : Register) → m < B → Fine T L B d (λ rest. more (set m (plain.truth m)) rest)
  fine-truth d m low = fine-set T L B d m (plain.truth m) low (suits.neutral (plain.truth m) refl)

  fine-used : (d : ℕ) (m : Register) → Fine T L B d (used m)
  fine-used d m = fine-act T L B d (plain.truth m) (suits.neutral (plain.truth m) refl)

  -- a loop's condition
  fine-held : (d : ℕ) (f : Inside) (q : MaybeCore) → is_condition q ≡ true → Each U (nodes_maybe q) → (k : ℕ) → Space B p W d 0 k (nodes_maybe q) → Fine T L B d (held f.classes q k)
  fine-held d f absent ok u k s = fine-none T L B d
  fine-held d f (given q) ok u k s =
      fine-value d f q ok u k s (λ m rest. more (set m (plain.truth m)) rest) (λ m rest. more (branch m nothing (more leave nothing)) rest) (fine-truth d)
      (λ m low. fine-branch T L B d m nothing (more leave nothing) tt (tt, tt))

  -- what is done before a further turn
  pass-stepped : (d : ℕ) (f : Inside) (q : MaybeCore) → is_condition q ≡ true → Each U (nodes_maybe q) → (k : ℕ) → Space B p W d 0 k (nodes_maybe q)
      → AllPass T L B (stepped f.classes q k) d
  pass-stepped d f absent ok u k s = tt
  pass-stepped d f (given q) ok u k s =
      Fine.pass (fine-value d f q ok u k s (λ m rest. rest) (λ m rest. rest) (λ m low. fine-none T L B d) (λ m low. fine-none T L B d)) nothing tt

  -- ---- what labels pass

  fine-made : (d : ℕ) (xs : List Local) → Owns xs → Fine T L B d (made xs)
  fine-made d [] u = fine-none T L B d
  fine-made d (x ∷ xs) u =
      fine-then T L B d (λ rest. more (act (plain.declare x.number x.type)) rest) (made xs) (fine-act T L B d (plain.declare x.number x.type) u.0.0) (fine-made d xs u.1)

  -- what a label does there
  fine-label : (d : ℕ) (xs : List Local) → Owns xs → Fine T L B d (λ rest. made (reverse xs) (more leave rest))
  fine-label d xs u = fine-then T L B d (made (reverse xs)) (λ rest. more leave rest) (fine-made d (reverse xs) (each-reversed (Own T L U p) xs u)) (fine-leave T L B d)

  pass-labels : (es : Cores) (m : ℕ) → are_cases m es ≡ true → Owns (declared_all es) → (d : ℕ) (before : List Local) → Owns before → labels (passing before es) ≡ core_labels es
  pass-labels none m ok all d before owns = refl
  pass-labels (core.more (core.case_label y) es) m ok all d before owns =
      ap (λ zs. y ∷ zs) (Fine.labelled (fine-label d before owns) (passing before es) ∙ pass-labels es m ok (each-left (Own T L U p) (declared_all es) [] all) d before owns)
  pass-labels (core.more core.default_label es) m ok all d before owns =
      Fine.labelled (fine-label d before owns) (passing before es) ∙ pass-labels es m ok (each-left (Own T L U p) (declared_all es) [] all) d before owns
  pass-labels (core.more s es) m ok all d before owns =
      let parts = both (is_statement m s) (are_cases (next_local m s) es) ok in
      ap labels (passing-past m s parts.0 before es)
      ∙ pass-labels es (next_local m s) parts.1 (each-left (Own T L U p) (declared_all es) (declared s) all) d (declared s ++ before)
      (two (declared s) before (each-right (Own T L U p) (declared_all es) (declared s) all) owns)

  pass-passing : (es : Cores) (m : ℕ) → are_cases m es ≡ true → Owns (declared_all es) → (d : ℕ) (before : List Local) → Owns before → AllPass T L B (passing before es) d
  pass-passing none m ok all d before owns = tt
  pass-passing (core.more (core.case_label y) es) m ok all d before owns =
      (tt, Fine.pass (fine-label d before owns) (passing before es) (pass-passing es m ok (each-left (Own T L U p) (declared_all es) [] all) d before owns))
  pass-passing (core.more core.default_label es) m ok all d before owns =
      (tt, Fine.pass (fine-label d before owns) (passing before es) (pass-passing es m ok (each-left (Own T L U p) (declared_all es) [] all) d before owns))
  pass-passing (core.more s es) m ok all d before owns =
      let parts = both (is_statement m s) (are_cases (next_local m s) es) ok in
      subst (λ ss. AllPass T L B ss d) (sym (passing-past m s parts.0 before es))
      (pass-passing es (next_local m s) parts.1 (each-left (Own T L U p) (declared_all es) (declared s) all) d (declared s ++ before)
      (two (declared s) before (each-right (Own T L U p) (declared_all es) (declared s) all) owns))

  fine-passed : (d : ℕ) (n : Register) (es : Cores) (m : ℕ) → are_cases m es ≡ true → Owns (declared_all es) → L (core_labels es) → suc 0 ≤ d → Fine T L B d (passed n es)
  fine-passed d n es m ok all l le = by (passes_local es)
    where
      by : (t : Bool) → Fine T L B d (λ rest. if t then more (switch n (passing [] es)) rest else rest)
      by true =
          fine-switch T L B d n (passing [] es) (subst L (sym (pass-labels es m ok all 0 [] tt)) l)
          (inner d 0 (λ d. AllPass T L B (passing [] es) d) le (λ d le. pass-passing es m ok all d [] tt))
      by false = fine-none T L B d

  -- ---- statements

  pub record Works (s : Core) : Type 0 where
    pub owns : Each (Own T L U p) (declared s)
    pub code : (f : Inside) → Around f → (d k : ℕ) → Space B p W d 0 k (nodes s) → Fine T L B d (statement f s k)

  pub record AllWork (es : Cores) : Type 0 where
    pub owns : Each (Own T L U p) (declared_all es)
    pub code : (f : Inside) → Around f → (d k : ℕ) → Space B p W d 0 k (nodes_all es) → Fine T L B d (statements f es k)

  pub record MaybeWorks (o : MaybeCore) : Type 0 where
    pub owns : Each (Own T L U p) (declared_maybe o)
    pub code : (f : Inside) → Around f → (d k : ℕ) → Space B p W d 0 k (nodes_maybe o) → Fine T L B d (statement_or f o k)

  -- the statements and labels of a switch
  pub record CasesWork (es : Cores) : Type 0 where
    pub owns : Each (Own T L U p) (declared_all es)
    pub pass : (f : Inside) → Around f → (d k : ℕ) → Space B p W d 0 k (nodes_all es) → (rest : Plains) → AllPass T L B rest d → AllPass T L B (statements f es k rest) d
    pub labelled : (f : Inside) → Around f → (d k : ℕ) → Space B p W d 0 k (nodes_all es) → (rest : Plains) → labels rest ≡ [] → labels (statements f es k rest) ≡ core_labels es

  -- a statement of a switch, and those behind it
  case-more : (s : Core) (es : Cores) → Works s → CasesWork es → core_labels (core.more s es) ≡ core_labels es → CasesWork (core.more s es)
  case-more s es w others same = record {
    owns = two (declared_all es) (declared s) others.owns w.owns;
    pass = λ f a d k r rest ok.
        Fine.pass (w.code f a d k (space-left B p W d 0 k (nodes s) (nodes_all es) r)) (statements (declares (declared s) f) es (k + width s) rest)
        (others.pass (declares (declared s) f) (around-declared (declared s) f w.owns a) d (k + width s) (space-right B p W d 0 k (nodes s) (nodes_all es) r) rest ok);
    labelled = λ f a d k r rest ok.
        Fine.labelled (w.code f a d k (space-left B p W d 0 k (nodes s) (nodes_all es) r)) (statements (declares (declared s) f) es (k + width s) rest)
        ∙ others.labelled (declares (declared s) f) (around-declared (declared s) f w.owns a) d (k + width s) (space-right B p W d 0 k (nodes s) (nodes_all es) r) rest ok ∙ sym same;
  }

  case-label : (y : ℤ) (es : Cores) → CasesWork es → CasesWork (core.more (core.case_label y) es)
  case-label y es others = record {
    owns = two (declared_all es) [] others.owns tt;
    pass = λ f a d k r rest ok. (tt, others.pass f a d (k + 0) (space-right B p W d 0 k (core.case_label y ∷ []) (nodes_all es) r) rest ok);
    labelled = λ f a d k r rest ok. ap (λ zs. y ∷ zs) (others.labelled f a d (k + 0) (space-right B p W d 0 k (core.case_label y ∷ []) (nodes_all es) r) rest ok);
  }

  the-default : (es : Cores) → CasesWork es → CasesWork (core.more core.default_label es)
  the-default es others = record {
    owns = two (declared_all es) [] others.owns tt;
    pass = λ f a d k r rest ok. (tt, others.pass f a d (k + 0) (space-right B p W d 0 k (core.default_label ∷ []) (nodes_all es) r) rest ok);
    labelled = λ f a d k r rest ok. others.labelled f a d (k + 0) (space-right B p W d 0 k (core.default_label ∷ []) (nodes_all es) r) rest ok;
  }

  -- the value of a switch, and then its statements
  selection : (f : Inside) (m : ℕ) (e : Core) (es : Cores) → Around f → is_value e ≡ true → are_cases m es ≡ true → Each U (nodes e) → L (core_labels es) → CasesWork es
      → (d k : ℕ) → Space B p W d 0 k (core.switch e es ∷ nodes e ++ nodes_all es) → Fine T L B d (statement f (core.switch e es) k)
  selection f m e es a is are u l work d k r =
      let inside = space-parts B p W d 0 k (core.switch e es) (nodes e ++ nodes_all es) refl r in
      let row = space-right B p W d 0 k (nodes e) (nodes_all es) inside in
      let deep : suc (length (nodes_all es)) ≤ d = deeper (nodes e) (nodes_all es) d (Space.depth r) in
      let ends : Plains = finished (declared_all es) nothing in
      let code : Plains = statements (in_switch f) es (k + width e) ends in
      let labelled : labels code ≡ core_labels es =
      work.labelled (in_switch f) (around-switch f a) d (k + width e) row ends (Fine.labelled (fine-finished T L U B p suits d (declared_all es) work.owns) nothing) in
      let passes : Inner d (λ d. AllPass T L B code d) =
      inner d (length (nodes_all es)) (λ d. AllPass T L B code d) deep
      (λ q le. work.pass (in_switch f) (around-switch f a) q (k + width e) (space-inside B p W d q 0 (k + width e) (nodes_all es) le row) ends
      (Fine.pass (fine-finished T L U B p suits q (declared_all es) work.owns) nothing tt)) in
      fine-value d f e is u k (space-left B p W d 0 k (nodes e) (nodes_all es) inside) (λ n rest. used n rest) (λ n rest. passed n es (more (switch n code) rest)) (λ n low. fine-used d n)
      (λ n low.
      fine-then T L B d (passed n es) (λ rest. more (switch n code) rest) (fine-passed d n es m are work.owns l (omega arith))
      (fine-switch T L B d n code (subst L (sym labelled) l) passes))
    where
      deeper : (xs ys : List Core) (d : ℕ) → suc (length (xs ++ ys)) ≤ d → suc (length ys) ≤ d
      deeper [] ys d le = le
      deeper (x ∷ xs) ys d le = deeper xs ys d (omega arith)

  returned-fine : (f : Inside) (e : Core) → Around f → is_value e ≡ true → Each U (nodes e) → (d k : ℕ) → Space B p W d 0 k (nodes e) → Fine T L B d (statement f (core.give (given e)) k)
  returned-fine f e a is u d k r =
      let all = two f.here f.returns a.here a.returns in
      let by_value : Plains → Plains = λ rest.
      whole e 0 k (λ x n rest. value f.classes x e None n k (used n rest)) (λ n. finished (f.here ++ f.returns) (more (give (Some n)) rest)) in
      let in_place : Plains → Plains = λ rest.
      more (set 0 plain.result) (started f.classes f.result e 0 k (finished (f.here ++ f.returns) (more (give None) rest))) in
      fine-by T L B d (statement f (core.give (given e)) k) by_value (λ rest. ap (λ t. if t then in_place rest else by_value rest) a.plain_result)
      (fine-value d f e is u k r (λ n rest. used n rest) (λ n rest. finished (f.here ++ f.returns) (more (give (Some n)) rest)) (λ n low. fine-used d n)
      (λ n low. fine-then T L B d (finished (f.here ++ f.returns)) (λ rest. more (give (Some n)) rest) (fine-finished T L U B p suits d (f.here ++ f.returns) all) (fine-give T L B d (Some n))))

  width-maybe : (q : MaybeCore) → length (added (nodes_maybe q)) ≡ width_maybe q
  width-maybe absent = refl
  width-maybe (given e) = refl

  loop-fine : (how : LoopForm) (f : Inside) (q e : MaybeCore) (s : Core) → Around f → is_condition q ≡ true → is_condition e ≡ true → Each U (nodes_maybe q) → Each U (nodes_maybe e)
      → Works s → (d k : ℕ) → Space B p W d 0 k (core.loop how q e s ∷ nodes_maybe q ++ nodes_maybe e ++ nodes s) → Fine T L B d (statement f (core.loop how q e s) k)
  loop-fine how f q e s a test next uq ue work d k r =
      by how
      (fine-loop T L B d (held f.classes q k code) (stepped f.classes e (k + width_maybe q))
      (inner d (length all) (λ d. AllPass T L B (held f.classes q k code) d × AllPass T L B (stepped f.classes e (k + width_maybe q)) d) (Space.depth r)
      (λ c le.
      let t = tests c le in
      (Fine.pass (fine-held c f q test uq k t.0) code (turn c le), pass-stepped c f e next ue (k + width_maybe q) t.1))))
      (fine-loop T L B d code (held f.classes q k nothing)
      (inner d (length all) (λ d. AllPass T L B code d × AllPass T L B (held f.classes q k nothing) d) (Space.depth r)
      (λ c le. (turn c le, Fine.pass (fine-held c f q test uq k (tests c le).0) nothing tt))))
    where
      all : List Core
      all = nodes_maybe q ++ nodes_maybe e ++ nodes s

      code : Plains
      code = statement (in_loop f) s (k + width_maybe q + width_maybe e) (finished (declared s) nothing)

      parts : (c : ℕ) → length all ≤ c → Space B p W c 0 k all
      parts c le = space-inside B p W d c 0 k all le (space-parts B p W d 0 k (core.loop how q e s) all refl r)

      tests : (c : ℕ) → length all ≤ c → Space B p W c 0 k (nodes_maybe q) × Space B p W c 0 (k + width_maybe q) (nodes_maybe e)
      tests c le =
          let begin = space-left B p W c 0 k (nodes_maybe q ++ nodes_maybe e) (nodes s) (parts c le) in (
            space-left B p W c 0 k (nodes_maybe q) (nodes_maybe e) begin,
            subst (λ n. Space B p W c 0 (k + n) (nodes_maybe e)) (width-maybe q) (space-right B p W c 0 k (nodes_maybe q) (nodes_maybe e) begin),
          )

      body : (c : ℕ) → length all ≤ c → Space B p W c 0 (k + width_maybe q + width_maybe e) (nodes s)
      body c le =
          let two_of = added-two (nodes_maybe q) (nodes_maybe e) in
          let first = width-maybe q in
          let second = width-maybe e in
          let at : k + length (added (nodes_maybe q ++ nodes_maybe e)) ≡ k + width_maybe q + width_maybe e = omega arith in
          subst (λ n. Space B p W c 0 n (nodes s)) at (space-right B p W c 0 k (nodes_maybe q ++ nodes_maybe e) (nodes s) (parts c le))

      turn : (c : ℕ) → length all ≤ c → AllPass T L B code c
      turn c le =
          Fine.pass (work.code (in_loop f) (around-loop f a) c (k + width_maybe q + width_maybe e) (body c le)) (finished (declared s) nothing)
          (Fine.pass (fine-finished T L U B p suits c (declared s) work.owns) nothing tt)

      by : (how : LoopForm) → Fine T L B d (looping f.classes q e k code) → Fine T L B d (λ rest. more (loop code (held f.classes q k nothing)) rest) → Fine T L B d (statement f (core.loop how q e s) k)
      by form.While g h = g
      by form.For g h = g
      by form.Do g h = h

  -- an `if`
  branch-fine : (f : Inside) (q a : Core) (o : MaybeCore) → Around f → is_value q ≡ true → Each U (nodes q) → Works a → MaybeWorks o → (d k : ℕ)
      → Space B p W d 0 k (core.branch q a o ∷ nodes q ++ nodes a ++ nodes_maybe o) → Fine T L B d (statement f (core.branch q a o) k)
  branch-fine f q a o around is u first other d k r =
      let inside = space-parts B p W d 0 k (core.branch q a o) (nodes q ++ nodes a ++ nodes_maybe o) refl r in
      let begin = space-left B p W d 0 k (nodes q ++ nodes a) (nodes_maybe o) inside in
      let left = statement f a (k + width q) nothing in
      let right = statement_or f o (k + width q + width a) nothing in
      let two_of = added-two (nodes q) (nodes a) in
      let at : k + length (added (nodes q ++ nodes a)) ≡ k + width q + width a = omega arith in
      let last = subst (λ n. Space B p W d 0 n (nodes_maybe o)) at (space-right B p W d 0 k (nodes q ++ nodes a) (nodes_maybe o) inside) in
      fine-value d f q is u k (space-left B p W d 0 k (nodes q) (nodes a) begin) (λ n rest. more (set n (plain.truth n)) rest) (λ n rest. more (branch n left right) rest) (fine-truth d)
      (λ n low.
      fine-branch T L B d n left right
      (Fine.pass (first.code f around d (k + width q) (space-right B p W d 0 k (nodes q) (nodes a) begin)) nothing tt)
      (Fine.pass (other.code f around d (k + width q + width a) last) nothing tt))

  -- a way out, behind the ends of locals
  leaving : (d : ℕ) (xs ys : List Local) → Owns xs → Owns ys → (last : Plains → Plains) → Fine T L B d last → Fine T L B d (λ rest. finished (xs ++ ys) (last rest))
  leaving d xs ys a b last g = fine-then T L B d (finished (xs ++ ys)) last (fine-finished T L U B p suits d (xs ++ ys) (two xs ys a b)) g

  full-fine : (f : Inside) (e : Core) → is_start e ≡ true → Each U (nodes e) → (d k : ℕ) → Space B p W d 0 k (nodes e) → Fine T L B d (statement f (core.full e) k)
  full-fine f e ok u d k r =
      or-else (is_nothing e) (is_value e) ok
      (λ blank. fine-by T L B d (statement f (core.full e) k) (λ rest. rest) (λ rest. ap (λ e. statement f (core.full e) k rest) (nothing-is e blank)) (fine-none T L B d))
      (λ is. fine-value d f e is u k r (λ m rest. rest) (λ m rest. rest) (λ m low. fine-none T L B d) (λ m low. fine-none T L B d))

  mutual
    pub works : (s : Core) (m : ℕ) → is_statement m s ≡ true → Each U (nodes s) → Works s
    works (core.full e) m ok u =
        record { owns = tt; code = λ f a d k r. full-fine f e ok u.1 d k (space-parts B p W d 0 k (core.full e) (nodes e) refl r) }
    works (core.block es) m ok u =
        let all = work-all es m ok u.1 in
        record {
          owns = tt;
          code = λ f a d k r.
              fine-then T L B d (statements (opened f) es k) (finished (declared_all es))
              (all.code (opened f) (around-opened f a) d k (space-parts B p W d 0 k (core.block es) (nodes_all es) refl r)) (fine-finished T L U B p suits d (declared_all es) all.owns);
        }
    works (core.sequence es) m ok u =
        let all = work-all es m ok u.1 in
        record { owns = all.owns; code = λ f a d k r. all.code f a d k (space-parts B p W d 0 k (core.sequence es) (nodes_all es) refl r) }
    works (core.declare i t e) m ok u =
        let start = (both (nat_le m i) (is_element t e || is_held i e) ok).1 in
        let stays = suits.declare t e i u.0 in
        record {
          owns = (stays, StartsWell.stays (starts-well T L U B p W suits [] i t e start u.1));
          code = λ f a d k r.
              fine-then T L B d (λ rest. more (set 0 (plain.declare i t)) rest) (started f.classes t e 0 k)
              (fine-set T L B d 0 (plain.declare i t) (let low = space-low B p W d 0 k (core.declare i t e) (nodes e) r in omega arith) stays.0)
              (StartsWell.code (starts-well T L U B p W suits f.classes i t e start u.1) d k (space-parts B p W d 0 k (core.declare i t e) (nodes e) refl r));
        }
    works (core.branch q a o) m ok u =
        let forms = both (is_value q) (is_statement m a && is_statement_or (next_local m a) o) ok in
        let arms = both (is_statement m a) (is_statement_or (next_local m a) o) forms.1 in
        let first = each-left U (nodes q ++ nodes a) (nodes_maybe o) u.1 in
        let first_works = works a m arms.0 (each-right U (nodes q) (nodes a) first) in
        let other_works = work-or o (next_local m a) arms.1 (each-right U (nodes q ++ nodes a) (nodes_maybe o) u.1) in
        record {
          owns = two (declared_maybe o) (declared a) other_works.owns first_works.owns;
          code = λ f around d k r. branch-fine f q a o around forms.0 (each-left U (nodes q) (nodes a) first) first_works other_works d k r;
        }
    works (core.loop how q e s) m ok u =
        let forms = both (is_condition q) (is_condition e && is_statement m s) ok in
        let rest = both (is_condition e) (is_statement m s) forms.1 in
        let first = each-left U (nodes_maybe q ++ nodes_maybe e) (nodes s) u.1 in
        let turned = works s m rest.1 (each-right U (nodes_maybe q ++ nodes_maybe e) (nodes s) u.1) in
        record {
          owns = tt;
          code = λ f a d k r.
              loop-fine how f q e s a forms.0 rest.0 (each-left U (nodes_maybe q) (nodes_maybe e) first) (each-right U (nodes_maybe q) (nodes_maybe e) first) turned d k r;
        }
    works (core.switch e es) m ok u =
        let forms = both (is_value e) (are_cases m es) ok in
        let row = work-cases es m forms.1 (each-right U (nodes e) (nodes_all es) u.1) in
        record { owns = tt; code = λ f a d k r. selection f m e es a forms.0 forms.1 (each-left U (nodes e) (nodes_all es) u.1) (suits.switch e es u.0) row d k r }
    works core.leave m ok u = record { owns = tt; code = λ f a d k r. leaving d f.here f.breaks a.here a.breaks (λ rest. more leave rest) (fine-leave T L B d) }
    works core.continue m ok u = record { owns = tt; code = λ f a d k r. leaving d f.here f.continues a.here a.continues (λ rest. more continue rest) (fine-continue T L B d) }
    works (core.give absent) m ok u =
        record { owns = tt; code = λ f a d k r. leaving d f.here f.returns a.here a.returns (λ rest. more (give None) rest) (fine-give T L B d None) }
    works (core.give (given e)) m ok u =
        record { owns = tt; code = λ f a d k r. returned-fine f e a ok u.1 d k (space-parts B p W d 0 k (core.give (given e)) (nodes e) refl r) }
    works s m ok u = never ok

    work-or : (o : MaybeCore) (m : ℕ) → is_statement_or m o ≡ true → Each U (nodes_maybe o) → MaybeWorks o
    work-or absent m ok u = record { owns = tt; code = λ f a d k r. fine-none T L B d }
    work-or (given s) m ok u =
        let one = works s m ok u in record { owns = one.owns; code = one.code }

    work-all : (es : Cores) (m : ℕ) → are_statements m es ≡ true → Each U (nodes_all es) → AllWork es
    work-all none m ok u = record { owns = tt; code = λ f a d k r. fine-none T L B d }
    work-all (core.more s es) m ok u =
        let forms = both (is_statement m s) (are_statements (next_local m s) es) ok in
        let one = works s m forms.0 (each-left U (nodes s) (nodes_all es) u) in
        let others = work-all es (next_local m s) forms.1 (each-right U (nodes s) (nodes_all es) u) in
        record {
          owns = two (declared_all es) (declared s) others.owns one.owns;
          code = λ f a d k r.
              fine-then T L B d (statement f s k) (statements (declares (declared s) f) es (k + width s))
              (one.code f a d k (space-left B p W d 0 k (nodes s) (nodes_all es) r))
              (others.code (declares (declared s) f) (around-declared (declared s) f one.owns a) d (k + width s) (space-right B p W d 0 k (nodes s) (nodes_all es) r));
        }

    work-cases : (es : Cores) (m : ℕ) → are_cases m es ≡ true → Each U (nodes_all es) → CasesWork es
    work-cases none m ok u = record { owns = tt; pass = λ f a d k r rest ok. ok; labelled = λ f a d k r rest ok. ok }
    work-cases (core.more (core.case_label y) es) m ok u = case-label y es (work-cases es m ok u.1)
    work-cases (core.more core.default_label es) m ok u = the-default es (work-cases es m ok u.1)
    work-cases (core.more s es) m ok u =
        let forms = both (is_statement m s) (are_cases (next_local m s) es) ok in
        case-more s es (works s m forms.0 (each-left U (nodes s) (nodes_all es) u)) (work-cases es (next_local m s) forms.1 (each-right U (nodes s) (nodes_all es) u)) refl
