-- Cores whose names are replaced: what they are built of, and the locals that they add and declare, stay.
use Rattle.std.proofs.Common.{◌≡◌, ℕ, suc, ◌+◌, Bool, true, false, not, ◌&&◌, ◌||◌, nat_le, nat_lt, List, [], ◌∷◌, ◌++◌, length, refl, sym, ◌∙◌, ap}
use Rattle.cf_base.proofs.Tests.{both}
use Rattle.std.proofs.lemmas.Grind.{flat_map-append}
use Rattle.cf_core.specs.Types.{Name, SourceType, parameters, result, is_class, plain, element}
use Rattle.cf_core.specs.Objects.{count}
use Rattle.cf_core.specs.Core as core
use Rattle.cf_core.specs.Core.{Core, Cores, MaybeCore, Parts, Holder, no_temporary, local_temporary, static_temporary, none, absent, given, no_parts, part}
use Rattle.cf_core.specs.Places.{is_reference}
use Rattle.cf_core.specs.Nodes.{nodes, nodes_all, nodes_maybe, nodes_parts}
use Rattle.cf_core.specs.Joined.{renamed, renamed_all, renamed_maybe, renamed_parts, is_nothing}
use Rattle.cf_core.specs.Valid.{is_label, has_label}
use Rattle.cf_sequence.specs.Built.{is_row, is_chain, is_value, are_values, are_arguments, is_condition, is_start, is_filling, is_initial, is_list, is_element, are_elements, is_held, behind_declared, next_local, next_local_or, next_locals, arms_declare, any_arms_declare, is_statement, are_cases, are_statements, is_constant_value, is_constant_initial, is_constant_list, are_constant_elements, is_constant_element, is_bound, is_constant_set, is_constant_start, is_statement_or, is_none, arms_fit, or_arms_fit, all_arms_fit, none_passed}
use Rattle.cf_sequence.specs.Statements.{binds}
use Rattle.cf_sequence.specs.Made.{Local, temporaries, temporaries_all, added, makes, width, width_maybe, width_all, declared, declared_maybe, declared_all, held_by}
use Rattle.cf_sequence.specs.Expressions.{builds}
use Rattle.cf_sequence.proofs.Calling.{never}

-- ---- tests of parts

two-same : (a b c d : Bool) → a ≡ c → b ≡ d → a && b ≡ c && d
two-same a b c d p q = ap (λ x. x && b) p ∙ ap (λ x. c && x) q

module _ (r : Name → Name) where
  -- ---- locals that are added

  both-add : (xs ys us vs : List Core) → added us ≡ added xs → added vs ≡ added ys → added (us ++ vs) ≡ added (xs ++ ys)
  both-add xs ys us vs p q = flat_map-append makes us vs ∙ ap (λ l. l ++ added vs) p ∙ ap (λ l. added xs ++ l) q ∙ sym (flat_map-append makes xs ys)

  mutual
    pub same-adds : (e : Core) → added (nodes (renamed r e)) ≡ added (nodes e)
    same-adds (core.number z) = refl
    same-adds (core.text j bytes) = refl
    same-adds core.this = refl
    same-adds (core.local i) = refl
    same-adds (core.static_object n t) = refl
    same-adds (core.function n t) = refl
    same-adds (core.data_pointer i) = refl
    same-adds (core.function_pointer t) = refl
    same-adds (core.string bytes) = refl
    same-adds core.zeros = refl
    same-adds core.blank = refl
    same-adds (core.case_label z) = refl
    same-adds core.default_label = refl
    same-adds core.leave = refl
    same-adds core.continue = refl
    same-adds (core.member e i) = same-adds e
    same-adds (core.read e) = same-adds e
    same-adds (core.address e) = same-adds e
    same-adds (core.dereference e) = same-adds e
    same-adds (core.decay e) = same-adds e
    same-adds (core.convert t e) = same-adds e
    same-adds (core.up path e) = same-adds e
    same-adds (core.down c path e) = same-adds e
    same-adds (core.from_void t e) = same-adds e
    same-adds (core.to_member path e) = same-adds e
    same-adds (core.unary op k e) = same-adds e
    same-adds (core.logical_not e) = same-adds e
    same-adds (core.step is_postfix change e) = same-adds e
    same-adds (core.new t e) = same-adds e
    same-adds (core.delete t e) = same-adds e
    same-adds (core.delete_array t e) = same-adds e
    same-adds (core.each e) = same-adds e
    same-adds (core.bind h e) = same-adds e
    same-adds (core.full e) = same-adds e
    same-adds (core.declare i t e) = same-adds e
    same-adds (core.once n e) = same-adds e
    same-adds (core.index a b) = both-add (nodes a) (nodes b) (nodes (renamed r a)) (nodes (renamed r b)) (same-adds a) (same-adds b)
    same-adds (core.through a b) = both-add (nodes a) (nodes b) (nodes (renamed r a)) (nodes (renamed r b)) (same-adds a) (same-adds b)
    same-adds (core.operate op k a b) = both-add (nodes a) (nodes b) (nodes (renamed r a)) (nodes (renamed r b)) (same-adds a) (same-adds b)
    same-adds (core.logical_and a b) = both-add (nodes a) (nodes b) (nodes (renamed r a)) (nodes (renamed r b)) (same-adds a) (same-adds b)
    same-adds (core.logical_or a b) = both-add (nodes a) (nodes b) (nodes (renamed r a)) (nodes (renamed r b)) (same-adds a) (same-adds b)
    same-adds (core.pointer_operate op a b) = both-add (nodes a) (nodes b) (nodes (renamed r a)) (nodes (renamed r b)) (same-adds a) (same-adds b)
    same-adds (core.store a b) = both-add (nodes a) (nodes b) (nodes (renamed r a)) (nodes (renamed r b)) (same-adds a) (same-adds b)
    same-adds (core.update a change b) = both-add (nodes a) (nodes b) (nodes (renamed r a)) (nodes (renamed r b)) (same-adds a) (same-adds b)
    same-adds (core.new_array t a b) = both-add (nodes a) (nodes b) (nodes (renamed r a)) (nodes (renamed r b)) (same-adds a) (same-adds b)
    same-adds (core.comma es) = same-adds-all es
    same-adds (core.block es) = same-adds-all es
    same-adds (core.sequence es) = same-adds-all es
    same-adds (core.conditional c a b) =
        both-add (nodes c ++ nodes a) (nodes b) (nodes (renamed r c) ++ nodes (renamed r a)) (nodes (renamed r b))
        (both-add (nodes c) (nodes a) (nodes (renamed r c)) (nodes (renamed r a)) (same-adds c) (same-adds a)) (same-adds b)
    same-adds (core.assign t a b es) =
        both-add (nodes a ++ nodes b) (nodes_all es) (nodes (renamed r a) ++ nodes (renamed r b)) (nodes_all (renamed_all r es))
        (both-add (nodes a) (nodes b) (nodes (renamed r a)) (nodes (renamed r b)) (same-adds a) (same-adds b)) (same-adds-all es)
    same-adds (core.temporary t e) = ap (λ l. t ∷ l) (same-adds e)
    same-adds (core.call n t object es) =
        ap (λ l. parameters t ++ l)
        (both-add (nodes_maybe object) (nodes_all es) (nodes_maybe (renamed_maybe r object)) (nodes_all (renamed_all r es)) (same-adds-maybe object) (same-adds-all es))
    same-adds (core.virtual_call f t e es) =
        ap (λ l. parameters t ++ l) (both-add (nodes e) (nodes_all es) (nodes (renamed r e)) (nodes_all (renamed_all r es)) (same-adds e) (same-adds-all es))
    same-adds (core.pointer_call object e t es) =
        ap (λ l. parameters t ++ l)
        (both-add (nodes_maybe object ++ nodes e) (nodes_all es) (nodes_maybe (renamed_maybe r object) ++ nodes (renamed r e)) (nodes_all (renamed_all r es))
        (both-add (nodes_maybe object) (nodes e) (nodes_maybe (renamed_maybe r object)) (nodes (renamed r e)) (same-adds-maybe object) (same-adds e)) (same-adds-all es))
    same-adds (core.build n t es) = ap (λ l. parameters t ++ l) (same-adds-all es)
    same-adds (core.copy t e es) = both-add (nodes e) (nodes_all es) (nodes (renamed r e)) (nodes_all (renamed_all r es)) (same-adds e) (same-adds-all es)
    same-adds (core.list es rest) = both-add (nodes_all es) (nodes rest) (nodes_all (renamed_all r es)) (nodes (renamed r rest)) (same-adds-all es) (same-adds rest)
    same-adds (core.branch c a b) =
        both-add (nodes c ++ nodes a) (nodes_maybe b) (nodes (renamed r c) ++ nodes (renamed r a)) (nodes_maybe (renamed_maybe r b))
        (both-add (nodes c) (nodes a) (nodes (renamed r c)) (nodes (renamed r a)) (same-adds c) (same-adds a)) (same-adds-maybe b)
    same-adds (core.loop f c e s) =
        both-add (nodes_maybe c ++ nodes_maybe e) (nodes s) (nodes_maybe (renamed_maybe r c) ++ nodes_maybe (renamed_maybe r e)) (nodes (renamed r s))
        (both-add (nodes_maybe c) (nodes_maybe e) (nodes_maybe (renamed_maybe r c)) (nodes_maybe (renamed_maybe r e)) (same-adds-maybe c) (same-adds-maybe e)) (same-adds s)
    same-adds (core.switch e es) = both-add (nodes e) (nodes_all es) (nodes (renamed r e)) (nodes_all (renamed_all r es)) (same-adds e) (same-adds-all es)
    same-adds (core.give e) = same-adds-maybe e
    same-adds (core.parts ps s) = both-add (nodes_parts ps) (nodes s) (nodes_parts (renamed_parts r ps)) (nodes (renamed r s)) (same-adds-parts ps) (same-adds s)

    same-adds-all : (es : Cores) → added (nodes_all (renamed_all r es)) ≡ added (nodes_all es)
    same-adds-all none = refl
    same-adds-all (core.more e es) = both-add (nodes e) (nodes_all es) (nodes (renamed r e)) (nodes_all (renamed_all r es)) (same-adds e) (same-adds-all es)

    same-adds-maybe : (e : MaybeCore) → added (nodes_maybe (renamed_maybe r e)) ≡ added (nodes_maybe e)
    same-adds-maybe absent = refl
    same-adds-maybe (given e) = same-adds e

    same-adds-parts : (ps : Parts) → added (nodes_parts (renamed_parts r ps)) ≡ added (nodes_parts ps)
    same-adds-parts no_parts = refl
    same-adds-parts (part w e rest) = both-add (nodes e) (nodes_parts rest) (nodes (renamed r e)) (nodes_parts (renamed_parts r rest)) (same-adds e) (same-adds-parts rest)

  pub same-width : (e : Core) → width (renamed r e) ≡ width e
  same-width e = ap length (same-adds e)

  pub same-width-maybe : (e : MaybeCore) → width_maybe (renamed_maybe r e) ≡ width_maybe e
  same-width-maybe absent = refl
  same-width-maybe (given e) = same-width e

  -- ---- what is built

  pub same-builds : (e : Core) → builds (renamed r e) ≡ builds e
  same-builds core.zeros = refl
  same-builds e = refl

  mutual
    pub same-value : (e : Core) → is_value (renamed r e) ≡ is_value e
    same-value (core.read e) = same-value e
    same-value (core.address e) = same-value e
    same-value (core.dereference e) = same-value e
    same-value (core.decay e) = same-value e
    same-value (core.from_void t e) = same-value e
    same-value (core.convert t e) = same-value e
    same-value (core.unary op k e) = same-value e
    same-value (core.logical_not e) = same-value e
    same-value (core.step is_postfix change e) = same-value e
    same-value (core.bind no_temporary e) = same-value e
    same-value (core.temporary t e) = ap (λ b. not (is_reference t) && b) (same-value e)
    same-value (core.index a b) = two-same (is_value (renamed r a)) (is_value (renamed r b)) (is_value a) (is_value b) (same-value a) (same-value b)
    same-value (core.pointer_operate op a b) = two-same (is_value (renamed r a)) (is_value (renamed r b)) (is_value a) (is_value b) (same-value a) (same-value b)
    same-value (core.operate op k a b) = two-same (is_value (renamed r a)) (is_value (renamed r b)) (is_value a) (is_value b) (same-value a) (same-value b)
    same-value (core.logical_and a b) = two-same (is_value (renamed r a)) (is_value (renamed r b)) (is_value a) (is_value b) (same-value a) (same-value b)
    same-value (core.logical_or a b) = two-same (is_value (renamed r a)) (is_value (renamed r b)) (is_value a) (is_value b) (same-value a) (same-value b)
    same-value (core.store a b) = two-same (is_value (renamed r a)) (is_value (renamed r b)) (is_value a) (is_value b) (same-value a) (same-value b)
    same-value (core.update a change b) = two-same (is_value (renamed r a)) (is_value (renamed r b)) (is_value a) (is_value b) (same-value a) (same-value b)
    same-value (core.conditional c a b) =
        two-same (is_value (renamed r c)) (is_value (renamed r a) && is_value (renamed r b)) (is_value c) (is_value a && is_value b) (same-value c)
        (two-same (is_value (renamed r a)) (is_value (renamed r b)) (is_value a) (is_value b) (same-value a) (same-value b))
    same-value (core.comma es) = same-values es
    same-value (core.call name t absent args) = ap (λ b. not (is_class (result t)) && (is_chain t && b)) (same-arguments args)
    same-value (core.pointer_call absent e t args) =
        ap (λ b. not (is_class (result t)) && (is_chain t && b))
        (two-same (is_value (renamed r e)) (are_arguments (renamed_all r args)) (is_value e) (are_arguments args) (same-value e) (same-arguments args))
    same-value e = refl

    pub same-values : (es : Cores) → are_values (renamed_all r es) ≡ are_values es
    same-values none = refl
    same-values (core.more e none) = same-value e
    same-values (core.more e (core.more f es)) =
        two-same (is_value (renamed r e)) (are_values (renamed_all r (core.more f es))) (is_value e) (are_values (core.more f es)) (same-value e) (same-values (core.more f es))

    pub same-arguments : (es : Cores) → are_arguments (renamed_all r es) ≡ are_arguments es
    same-arguments none = refl
    same-arguments (core.more e es) = two-same (is_value (renamed r e)) (are_arguments (renamed_all r es)) (is_value e) (are_arguments es) (same-value e) (same-arguments es)

  -- those of two parts
  two-temporaries : (b c : Bool) (a e : Core) (k : ℕ) → temporaries b (renamed r a) k ≡ temporaries b a k → ((l : ℕ) → temporaries c (renamed r e) l ≡ temporaries c e l)
      → temporaries b (renamed r a) k ++ temporaries c (renamed r e) (k + width (renamed r a)) ≡ temporaries b a k ++ temporaries c e (k + width a)
  two-temporaries b c a e k p q =
      ap (λ w. temporaries b (renamed r a) k ++ temporaries c (renamed r e) (k + w)) (same-width a)
      ∙ ap (λ ts. ts ++ temporaries c (renamed r e) (k + width a)) p ∙ ap (λ us. temporaries b a k ++ us) (q (k + width a))

  mutual
    pub same-temporaries : (e : Core) → is_value e ≡ true → (b : Bool) (k : ℕ) → temporaries b (renamed r e) k ≡ temporaries b e k
    same-temporaries (core.read e) ok b k = same-temporaries e ok b k
    same-temporaries (core.address e) ok b k = same-temporaries e ok b k
    same-temporaries (core.dereference e) ok b k = same-temporaries e ok b k
    same-temporaries (core.decay e) ok b k = same-temporaries e ok b k
    same-temporaries (core.from_void t e) ok b k = same-temporaries e ok b k
    same-temporaries (core.convert t e) ok b k = same-temporaries e ok b k
    same-temporaries (core.unary op t e) ok b k = same-temporaries e ok b k
    same-temporaries (core.logical_not e) ok b k = same-temporaries e ok b k
    same-temporaries (core.step is_postfix change e) ok b k = same-temporaries e ok b k
    same-temporaries (core.bind no_temporary e) ok b k = same-temporaries e ok b k
    same-temporaries (core.number z) ok b k = refl
    same-temporaries (core.local i) ok b k = refl
    same-temporaries (core.text j bytes) ok b k = refl
    same-temporaries (core.static_object name t) ok b k = refl
    same-temporaries (core.function name t) ok b k = refl
    same-temporaries (core.temporary t e) ok b k =
        ap (λ ts. ts ++ record { local = record { number = k; type = t }; in_branch = b } ∷ []) (same-temporaries e (both (not (is_reference t)) (is_value e) ok).1 b (suc k))
    same-temporaries (core.index a e) ok b k =
        let p = both (is_value a) (is_value e) ok in two-temporaries b b a e k (same-temporaries a p.0 b k) (same-temporaries e p.1 b)
    same-temporaries (core.pointer_operate op a e) ok b k =
        let p = both (is_value a) (is_value e) ok in two-temporaries b b a e k (same-temporaries a p.0 b k) (same-temporaries e p.1 b)
    same-temporaries (core.operate op t a e) ok b k =
        let p = both (is_value a) (is_value e) ok in two-temporaries b b a e k (same-temporaries a p.0 b k) (same-temporaries e p.1 b)
    same-temporaries (core.store a e) ok b k =
        let p = both (is_value a) (is_value e) ok in two-temporaries b b a e k (same-temporaries a p.0 b k) (same-temporaries e p.1 b)
    same-temporaries (core.update a change e) ok b k =
        let p = both (is_value a) (is_value e) ok in two-temporaries b b a e k (same-temporaries a p.0 b k) (same-temporaries e p.1 b)
    same-temporaries (core.logical_and a e) ok b k =
        let p = both (is_value a) (is_value e) ok in two-temporaries b true a e k (same-temporaries a p.0 b k) (same-temporaries e p.1 true)
    same-temporaries (core.logical_or a e) ok b k =
        let p = both (is_value a) (is_value e) ok in two-temporaries b true a e k (same-temporaries a p.0 b k) (same-temporaries e p.1 true)
    same-temporaries (core.conditional c a e) ok b k =
        let p = both (is_value c) (is_value a && is_value e) ok in
        let q = both (is_value a) (is_value e) p.1 in
        ap (λ ts. ts ++ temporaries true (renamed r e) (k + width (renamed r c) + width (renamed r a))) (two-temporaries b true c a k (same-temporaries c p.0 b k) (same-temporaries a q.0 true))
        ∙ ap (λ us. (temporaries b c k ++ temporaries true a (k + width c)) ++ us)
        (ap (λ w. temporaries true (renamed r e) (k + w + width (renamed r a))) (same-width c) ∙ ap (λ w. temporaries true (renamed r e) (k + width c + w)) (same-width a)
        ∙ same-temporaries e q.1 true (k + width c + width a))
    same-temporaries (core.comma es) ok b k = same-temporaries-values es ok b k
    same-temporaries (core.call name t absent args) ok b k =
        same-temporaries-arguments args (both (is_chain t) (are_arguments args) (both (not (is_class (result t))) (is_chain t && are_arguments args) ok).1).1 b (k + length (parameters t) + 0)
    same-temporaries (core.pointer_call absent e t args) ok b k =
        let p = both (is_value e) (are_arguments args) (both (is_chain t) (is_value e && are_arguments args) (both (not (is_class (result t))) (is_chain t && (is_value e && are_arguments args)) ok).1).1 in
        let l : ℕ = k + length (parameters t) + 0 in
        ap (λ w. temporaries b (renamed r e) l ++ temporaries_all b (renamed_all r args) (l + w)) (same-width e)
        ∙ ap (λ ts. ts ++ temporaries_all b (renamed_all r args) (l + width e)) (same-temporaries e p.0 b l) ∙ ap (λ us. temporaries b e l ++ us) (same-temporaries-arguments args p.1 b (l + width e))
    same-temporaries e ok b k = never ok

    same-temporaries-values : (es : Cores) → are_values es ≡ true → (b : Bool) (k : ℕ) → temporaries_all b (renamed_all r es) k ≡ temporaries_all b es k
    same-temporaries-values none ok b k = refl
    same-temporaries-values (core.more e none) ok b k = ap (λ ts. ts ++ []) (same-temporaries e ok b k)
    same-temporaries-values (core.more e (core.more f es)) ok b k =
        let p = both (is_value e) (are_values (core.more f es)) ok in
        ap (λ w. temporaries b (renamed r e) k ++ temporaries_all b (renamed_all r (core.more f es)) (k + w)) (same-width e)
        ∙ ap (λ ts. ts ++ temporaries_all b (renamed_all r (core.more f es)) (k + width e)) (same-temporaries e p.0 b k) ∙ ap (λ us. temporaries b e k ++ us) (same-temporaries-values (core.more f es) p.1 b (k + width e))

    same-temporaries-arguments : (es : Cores) → are_arguments es ≡ true → (b : Bool) (k : ℕ) → temporaries_all b (renamed_all r es) k ≡ temporaries_all b es k
    same-temporaries-arguments none ok b k = refl
    same-temporaries-arguments (core.more e es) ok b k =
        let p = both (is_value e) (are_arguments es) ok in
        ap (λ w. temporaries b (renamed r e) k ++ temporaries_all b (renamed_all r es) (k + w)) (same-width e)
        ∙ ap (λ ts. ts ++ temporaries_all b (renamed_all r es) (k + width e)) (same-temporaries e p.0 b k) ∙ ap (λ us. temporaries b e k ++ us) (same-temporaries-arguments es p.1 b (k + width e))

  pub same-nothing : (e : Core) → is_nothing (renamed r e) ≡ is_nothing e
  same-nothing core.blank = refl
  same-nothing e = refl

  same-start : (e : Core) → is_start (renamed r e) ≡ is_start e
  same-start e = ap (λ b. b || is_value (renamed r e)) (same-nothing e) ∙ ap (λ b. is_nothing e || b) (same-value e)

  pub same-filling : (e : Core) → is_filling (renamed r e) ≡ is_filling e
  same-filling core.zeros = refl
  same-filling e = refl

  pub same-initial : (e : Core) → is_initial (renamed r e) ≡ is_initial e
  same-initial e = ap (λ b. b || is_start (renamed r e)) (same-filling e) ∙ ap (λ b. is_filling e || b) (same-start e)

  mutual
    pub same-list : (t : SourceType) (e : Core) → is_list t (renamed r e) ≡ is_list t e
    same-list t (core.list es rest) =
        let u : SourceType = element (plain t) in
        ap (λ b. is_row t && b) (two-same (are_elements u (renamed_all r es)) (is_filling (renamed r rest)) (are_elements u es) (is_filling rest) (same-elements u es) (same-filling rest))
    same-list t core.zeros = refl
    same-list t e = refl

    pub same-elements : (t : SourceType) (es : Cores) → are_elements t (renamed_all r es) ≡ are_elements t es
    same-elements t none = refl
    same-elements t (core.more e es) =
        two-same (is_element t (renamed r e)) (are_elements t (renamed_all r es)) (is_element t e) (are_elements t es)
        (ap (λ b. b || is_list t (renamed r e)) (same-initial e) ∙ ap (λ b. is_initial e || b) (same-list t e)) (same-elements t es)

  pub same-element : (t : SourceType) (e : Core) → is_element t (renamed r e) ≡ is_element t e
  same-element t e = ap (λ b. b || is_list t (renamed r e)) (same-initial e) ∙ ap (λ b. is_initial e || b) (same-list t e)

  pub same-count : (es : Cores) → count (renamed_all r es) ≡ count es
  same-count none = refl
  same-count (core.more e es) = ap suc (same-count es)

  pub same-width-all : (es : Cores) → width_all (renamed_all r es) ≡ width_all es
  same-width-all none = refl
  same-width-all (core.more e es) = ap (λ n. n + width_all (renamed_all r es)) (same-width e) ∙ ap (λ n. width e + n) (same-width-all es)

  pub same-constant : (e : Core) → is_constant_value (renamed r e) ≡ is_constant_value e
  same-constant (core.address e) = same-constant e
  same-constant (core.dereference e) = same-constant e
  same-constant (core.decay e) = same-constant e
  same-constant (core.convert t e) = same-constant e
  same-constant (core.unary op k e) = same-constant e
  same-constant (core.logical_not e) = same-constant e
  same-constant (core.index a b) = two-same (is_constant_value (renamed r a)) (is_constant_value (renamed r b)) (is_constant_value a) (is_constant_value b) (same-constant a) (same-constant b)
  same-constant (core.pointer_operate op a b) = two-same (is_constant_value (renamed r a)) (is_constant_value (renamed r b)) (is_constant_value a) (is_constant_value b) (same-constant a) (same-constant b)
  same-constant (core.operate op k a b) = two-same (is_constant_value (renamed r a)) (is_constant_value (renamed r b)) (is_constant_value a) (is_constant_value b) (same-constant a) (same-constant b)
  same-constant (core.logical_and a b) = two-same (is_constant_value (renamed r a)) (is_constant_value (renamed r b)) (is_constant_value a) (is_constant_value b) (same-constant a) (same-constant b)
  same-constant (core.logical_or a b) = two-same (is_constant_value (renamed r a)) (is_constant_value (renamed r b)) (is_constant_value a) (is_constant_value b) (same-constant a) (same-constant b)
  same-constant (core.conditional c a b) =
      two-same (is_constant_value (renamed r c)) (is_constant_value (renamed r a) && is_constant_value (renamed r b)) (is_constant_value c) (is_constant_value a && is_constant_value b) (same-constant c)
      (two-same (is_constant_value (renamed r a)) (is_constant_value (renamed r b)) (is_constant_value a) (is_constant_value b) (same-constant a) (same-constant b))
  same-constant e = refl

  same-constant-initial : (e : Core) → is_constant_initial (renamed r e) ≡ is_constant_initial e
  same-constant-initial e = ap (λ b. b || is_constant_value (renamed r e)) (same-filling e) ∙ ap (λ b. is_filling e || b) (same-constant e)

  mutual
    same-constant-list : (t : SourceType) (e : Core) → is_constant_list t (renamed r e) ≡ is_constant_list t e
    same-constant-list t (core.list es rest) =
        let u : SourceType = element (plain t) in
        ap (λ b. is_row t && b)
        (two-same (are_constant_elements u (renamed_all r es)) (is_filling (renamed r rest)) (are_constant_elements u es) (is_filling rest) (same-constant-elements u es) (same-filling rest))
    same-constant-list t core.zeros = refl
    same-constant-list t e = refl

    same-constant-elements : (t : SourceType) (es : Cores) → are_constant_elements t (renamed_all r es) ≡ are_constant_elements t es
    same-constant-elements t none = refl
    same-constant-elements t (core.more e es) =
        two-same (is_constant_element t (renamed r e)) (are_constant_elements t (renamed_all r es)) (is_constant_element t e) (are_constant_elements t es)
        (ap (λ b. b || is_constant_list t (renamed r e)) (same-constant-initial e) ∙ ap (λ b. is_constant_initial e || b) (same-constant-list t e)) (same-constant-elements t es)

  same-bound : (e : Core) → is_bound (renamed r e) ≡ is_bound e
  same-bound (core.bind no_temporary e) = same-constant e
  same-bound (core.bind (local_temporary i t) e) = refl
  same-bound (core.bind (static_temporary n) e) = same-constant e
  same-bound e = refl

  pub same-binds : (e : Core) → binds (renamed r e) ≡ binds e
  same-binds (core.bind h e) = refl
  same-binds e = refl

  pub same-constant-start : (t : SourceType) (e : Core) → is_constant_start t (renamed r e) ≡ is_constant_start t e
  same-constant-start t e =
      ap (λ b. b || is_constant_set t (renamed r e)) (same-nothing e)
      ∙ ap (λ b. is_nothing e || (b || (not (is_reference t) && is_constant_element t (renamed r e)))) (same-bound e)
      ∙ ap (λ b. is_nothing e || (is_bound e || (not (is_reference t) && (b || is_constant_list t (renamed r e))))) (same-constant-initial e)
      ∙ ap (λ b. is_nothing e || (is_bound e || (not (is_reference t) && (is_constant_initial e || b)))) (same-constant-list t e)

  same-condition : (e : MaybeCore) → is_condition (renamed_maybe r e) ≡ is_condition e
  same-condition absent = refl
  same-condition (given e) = same-value e

  -- ---- locals that are declared

  same-held : (e : Core) → held_by (renamed r e) ≡ held_by e
  same-held (core.bind no_temporary e) = refl
  same-held (core.bind (local_temporary i t) e) = refl
  same-held (core.bind (static_temporary n) e) = refl
  same-held e = refl

  mutual
    pub same-declared : (s : Core) → declared (renamed r s) ≡ declared s
    same-declared (core.declare i t e) = ap (λ (xs : List Local). record { number = i; type = t } ∷ xs) (same-held e)
    same-declared (core.sequence es) = same-declared-all es
    same-declared (core.branch c a b) = ap (λ (xs : List Local). xs ++ declared (renamed r a)) (same-declared-maybe b) ∙ ap (λ (xs : List Local). declared_maybe b ++ xs) (same-declared a)
    same-declared s = refl

    same-declared-maybe : (b : MaybeCore) → declared_maybe (renamed_maybe r b) ≡ declared_maybe b
    same-declared-maybe absent = refl
    same-declared-maybe (given s) = same-declared s

    pub same-declared-all : (es : Cores) → declared_all (renamed_all r es) ≡ declared_all es
    same-declared-all none = refl
    same-declared-all (core.more s es) = ap (λ (xs : List Local). xs ++ declared (renamed r s)) (same-declared-all es) ∙ ap (λ (xs : List Local). declared_all es ++ xs) (same-declared s)

  same-behind : (i : ℕ) (e : Core) → behind_declared i (renamed r e) ≡ behind_declared i e
  same-behind i (core.bind no_temporary e) = refl
  same-behind i (core.bind (local_temporary j t) e) = refl
  same-behind i (core.bind (static_temporary n) e) = refl
  same-behind i e = refl

  pub same-kept : (i : ℕ) (e : Core) → is_held i (renamed r e) ≡ is_held i e
  same-kept i (core.bind no_temporary e) = refl
  same-kept i (core.bind (local_temporary j t) e) = ap (λ b. nat_lt i j && (not (is_reference t) && b)) (same-value e)
  same-kept i (core.bind (static_temporary n) e) = refl
  same-kept i e = refl

  mutual
    same-next : (m : ℕ) (s : Core) → next_local m (renamed r s) ≡ next_local m s
    same-next m (core.declare i t e) = same-behind i e
    same-next m (core.sequence es) = same-nexts m es
    same-next m (core.branch c a b) = ap (λ k. next_local_or k (renamed_maybe r b)) (same-next m a) ∙ same-next-or (next_local m a) b
    same-next m s = refl

    same-next-or : (m : ℕ) (b : MaybeCore) → next_local_or m (renamed_maybe r b) ≡ next_local_or m b
    same-next-or m absent = refl
    same-next-or m (given s) = same-next m s

    same-nexts : (m : ℕ) (es : Cores) → next_locals m (renamed_all r es) ≡ next_locals m es
    same-nexts m none = refl
    same-nexts m (core.more s es) = ap (λ k. next_locals k (renamed_all r es)) (same-next m s) ∙ same-nexts (next_local m s) es

  mutual
    same-arms : (s : Core) → arms_declare (renamed r s) ≡ arms_declare s
    same-arms (core.sequence es) = same-any-arms es
    same-arms (core.branch c a b) = ap (λ (xs : List Local). not (is_none xs)) (same-declared (core.branch c a b))
    same-arms s = refl

    same-any-arms : (es : Cores) → any_arms_declare (renamed_all r es) ≡ any_arms_declare es
    same-any-arms none = refl
    same-any-arms (core.more s rest) = ap (λ b. b || any_arms_declare (renamed_all r rest)) (same-arms s) ∙ ap (λ b. arms_declare s || b) (same-any-arms rest)

  same-label : (s : Core) → is_label (renamed r s) ≡ is_label s
  same-label core.default_label = refl
  same-label s = refl

  pub same-has-label : (es : Cores) → has_label (renamed_all r es) ≡ has_label es
  same-has-label none = refl
  same-has-label (core.more s es) = ap (λ b. b || has_label (renamed_all r es)) (same-label s) ∙ ap (λ b. is_label s || b) (same-has-label es)

  -- ---- statements

  mutual
    pub same-statement : (m : ℕ) (s : Core) → is_statement m (renamed r s) ≡ is_statement m s
    same-statement m (core.full e) = same-start e
    same-statement m (core.block es) = same-statements m es
    same-statement m (core.sequence es) = same-statements m es
    same-statement m (core.declare i t e) =
        ap (λ b. nat_le m i && (b || is_held i (renamed r e))) (same-element t e) ∙ ap (λ b. nat_le m i && (is_element t e || b)) (same-kept i e)
    same-statement m (core.branch c a b) =
        two-same (is_value (renamed r c)) (is_statement m (renamed r a) && is_statement_or (next_local m (renamed r a)) (renamed_maybe r b)) (is_value c)
        (is_statement m a && is_statement_or (next_local m a) b) (same-value c)
        (two-same (is_statement m (renamed r a)) (is_statement_or (next_local m (renamed r a)) (renamed_maybe r b)) (is_statement m a) (is_statement_or (next_local m a) b) (same-statement m a)
        (ap (λ k. is_statement_or k (renamed_maybe r b)) (same-next m a) ∙ same-inner (next_local m a) b))
    same-statement m (core.loop f c e s) =
        two-same (is_condition (renamed_maybe r c)) (is_condition (renamed_maybe r e) && is_statement m (renamed r s)) (is_condition c) (is_condition e && is_statement m s) (same-condition c)
        (two-same (is_condition (renamed_maybe r e)) (is_statement m (renamed r s)) (is_condition e) (is_statement m s) (same-condition e) (same-statement m s))
    same-statement m (core.switch e es) = two-same (is_value (renamed r e)) (are_cases m (renamed_all r es)) (is_value e) (are_cases m es) (same-value e) (same-cases m es)
    same-statement m (core.give (given e)) = same-value e
    same-statement m (core.give absent) = refl
    same-statement m s = refl

    same-inner : (m : ℕ) (b : MaybeCore) → is_statement_or m (renamed_maybe r b) ≡ is_statement_or m b
    same-inner m absent = refl
    same-inner m (given s) = same-statement m s

    pub same-cases : (m : ℕ) (es : Cores) → are_cases m (renamed_all r es) ≡ are_cases m es
    same-cases m none = refl
    same-cases m (core.more s es) =
        two-same (is_label (renamed r s) || is_statement m (renamed r s)) (are_cases (next_local m (renamed r s)) (renamed_all r es)) (is_label s || is_statement m s) (are_cases (next_local m s) es)
        (ap (λ b. b || is_statement m (renamed r s)) (same-label s) ∙ ap (λ b. is_label s || b) (same-statement m s))
        (ap (λ k. are_cases k (renamed_all r es)) (same-next m s) ∙ same-cases (next_local m s) es)

    same-statements : (m : ℕ) (es : Cores) → are_statements m (renamed_all r es) ≡ are_statements m es
    same-statements m none = refl
    same-statements m (core.more s es) =
        two-same (is_statement m (renamed r s)) (are_statements (next_local m (renamed r s)) (renamed_all r es)) (is_statement m s) (are_statements (next_local m s) es) (same-statement m s)
        (ap (λ k. are_statements k (renamed_all r es)) (same-next m s) ∙ same-statements (next_local m s) es)

  mutual
    pub same-fit : (n : ℕ) (s : Core) → arms_fit n (renamed r s) ≡ arms_fit n s
    same-fit n (core.block es) = same-all-fit n es
    same-fit n (core.sequence es) = same-all-fit n es
    same-fit n (core.branch c a b) =
        two-same (nat_le (next_local 0 (renamed r (core.branch c a b))) n) (arms_fit n (renamed r a) && or_arms_fit n (renamed_maybe r b)) (nat_le (next_local 0 (core.branch c a b)) n)
        (arms_fit n a && or_arms_fit n b) (ap (λ k. nat_le k n) (same-next 0 (core.branch c a b)))
        (two-same (arms_fit n (renamed r a)) (or_arms_fit n (renamed_maybe r b)) (arms_fit n a) (or_arms_fit n b) (same-fit n a) (same-or-fit n b))
    same-fit n (core.loop f c e s) = same-fit n s
    same-fit n (core.switch e es) = two-same (none_passed (renamed_all r es)) (all_arms_fit n (renamed_all r es)) (none_passed es) (all_arms_fit n es) (same-none es) (same-all-fit n es)
    same-fit n s = refl

    same-or-fit : (n : ℕ) (b : MaybeCore) → or_arms_fit n (renamed_maybe r b) ≡ or_arms_fit n b
    same-or-fit n absent = refl
    same-or-fit n (given s) = same-fit n s

    same-all-fit : (n : ℕ) (es : Cores) → all_arms_fit n (renamed_all r es) ≡ all_arms_fit n es
    same-all-fit n none = refl
    same-all-fit n (core.more s es) = two-same (arms_fit n (renamed r s)) (all_arms_fit n (renamed_all r es)) (arms_fit n s) (all_arms_fit n es) (same-fit n s) (same-all-fit n es)

    same-none : (es : Cores) → none_passed (renamed_all r es) ≡ none_passed es
    same-none none = refl
    same-none (core.more s es) =
        two-same (not (arms_declare (renamed r s) && has_label (renamed_all r es))) (none_passed (renamed_all r es)) (not (arms_declare s && has_label es)) (none_passed es)
        (ap (λ b. not (b && has_label (renamed_all r es))) (same-arms s) ∙ ap (λ b. not (arms_declare s && b)) (same-has-label es)) (same-none es)
