-- The temporaries of an expression stand among the locals of its function, with their types.
use Rattle.std.proofs.Common.{◌≡◌, ℕ, suc, ◌+◌, Bool, true, false, not, ◌&&◌, List, [], ◌∷◌, ◌++◌, length, reverse, refl, ap, ◌∙◌}
use Rattle.std.proofs.lemmas.List.{reverse-append}
use Rattle.std.proofs.lemmas.List.Folds.{list_all-append}
use Rattle.cf_base.proofs.Tests.{both, all_of}
use Rattle.cf_core.specs.Types.{SourceType, parameters, result, is_class}
use Rattle.cf_core.specs.Core as core
use Rattle.cf_core.specs.Core.{Core, Cores, no_temporary, none, absent}
use Rattle.cf_core.specs.Nodes.{nodes, nodes_all}
use Rattle.cf_core.specs.Places.{is_reference}
use Rattle.cf_sequence.specs.Built.{is_value, are_values, are_arguments, is_chain}
use Rattle.cf_sequence.specs.Made.{Temporary, temporaries, temporaries_all, added, width}
use Rattle.cf_sequence.proofs.Calling.{never}
use Rattle.cf_sequence_valid.proofs.Stands.{Stand, stand-left, stand-right, stand-third, stand-parameters, of-itself, is_there, all_there}

module _ (locals : List SourceType) where
  there-both : (ts us : List Temporary) → all_there locals ts ≡ true → all_there locals us ≡ true → all_there locals (ts ++ us) ≡ true
  there-both ts us p q = list_all-append (λ (t : Temporary). is_there locals t.local) ts us ∙ all_of (all_there locals ts) (all_there locals us) p q

  there-reversed : (ts : List Temporary) → all_there locals ts ≡ true → all_there locals (reverse ts) ≡ true
  there-reversed [] ok = refl
  there-reversed (t ∷ ts) ok =
      let parts = both (is_there locals t.local) (all_there locals ts) ok in
      ap (all_there locals) (reverse-append (t ∷ []) ts)
      ∙ there-both (reverse ts) (t ∷ []) (there-reversed ts parts.1) (all_of (is_there locals t.local) true parts.0 refl)

  -- those of two parts
  there-two-parts : (b c : Bool) (a e : Core) (k : ℕ) → ((k : ℕ) → Stand locals k (added (nodes a)) → all_there locals (temporaries b a k) ≡ true)
      → ((k : ℕ) → Stand locals k (added (nodes e)) → all_there locals (temporaries c e k) ≡ true) → Stand locals k (added (nodes a ++ nodes e))
      → all_there locals (temporaries b a k ++ temporaries c e (k + width a)) ≡ true
  there-two-parts b c a e k p q st =
      there-both (temporaries b a k) (temporaries c e (k + width a)) (p k (stand-left locals k (nodes a) (nodes e) st)) (q (k + width a) (stand-right locals k (nodes a) (nodes e) st))

  mutual
    pub temporaries-there : (e : Core) → is_value e ≡ true → (b : Bool) (k : ℕ) → Stand locals k (added (nodes e)) → all_there locals (temporaries b e k) ≡ true
    temporaries-there (core.number z) ok b k st = refl
    temporaries-there (core.local i) ok b k st = refl
    temporaries-there (core.text j bytes) ok b k st = refl
    temporaries-there (core.static_object name t) ok b k st = refl
    temporaries-there (core.function name t) ok b k st = refl
    temporaries-there (core.read e) ok b k st = temporaries-there e ok b k st
    temporaries-there (core.convert t e) ok b k st = temporaries-there e ok b k st
    temporaries-there (core.address e) ok b k st = temporaries-there e ok b k st
    temporaries-there (core.dereference e) ok b k st = temporaries-there e ok b k st
    temporaries-there (core.decay e) ok b k st = temporaries-there e ok b k st
    temporaries-there (core.from_void t e) ok b k st = temporaries-there e ok b k st
    temporaries-there (core.unary op t e) ok b k st = temporaries-there e ok b k st
    temporaries-there (core.logical_not e) ok b k st = temporaries-there e ok b k st
    temporaries-there (core.step p c e) ok b k st = temporaries-there e ok b k st
    temporaries-there (core.bind no_temporary e) ok b k st = temporaries-there e ok b k st
    temporaries-there (core.temporary t e) ok b k st =
        let is : is_value e ≡ true = (both (not (is_reference t)) (is_value e) ok).1 in
        there-both (temporaries b e (suc k)) (record { local = record { number = k; type = t }; in_branch = b } ∷ []) (temporaries-there e is b (suc k) st.1)
        (all_of (is_there locals (record { number = k; type = t })) true (of-itself locals k t st.0) refl)
    temporaries-there (core.index a e) ok b k st =
        let p = both (is_value a) (is_value e) ok in there-two-parts b b a e k (temporaries-there a p.0 b) (temporaries-there e p.1 b) st
    temporaries-there (core.pointer_operate op a e) ok b k st =
        let p = both (is_value a) (is_value e) ok in there-two-parts b b a e k (temporaries-there a p.0 b) (temporaries-there e p.1 b) st
    temporaries-there (core.operate op t a e) ok b k st =
        let p = both (is_value a) (is_value e) ok in there-two-parts b b a e k (temporaries-there a p.0 b) (temporaries-there e p.1 b) st
    temporaries-there (core.store a e) ok b k st =
        let p = both (is_value a) (is_value e) ok in there-two-parts b b a e k (temporaries-there a p.0 b) (temporaries-there e p.1 b) st
    temporaries-there (core.update a c e) ok b k st =
        let p = both (is_value a) (is_value e) ok in there-two-parts b b a e k (temporaries-there a p.0 b) (temporaries-there e p.1 b) st
    temporaries-there (core.logical_and a e) ok b k st =
        let p = both (is_value a) (is_value e) ok in there-two-parts b true a e k (temporaries-there a p.0 b) (temporaries-there e p.1 true) st
    temporaries-there (core.logical_or a e) ok b k st =
        let p = both (is_value a) (is_value e) ok in there-two-parts b true a e k (temporaries-there a p.0 b) (temporaries-there e p.1 true) st
    temporaries-there (core.conditional q a e) ok b k st =
        let p = both (is_value q) (is_value a && is_value e) ok in
        let arms = both (is_value a) (is_value e) p.1 in
        there-both (temporaries b q k ++ temporaries true a (k + width q)) (temporaries true e (k + width q + width a))
        (there-two-parts b true q a k (temporaries-there q p.0 b) (temporaries-there a arms.0 true) (stand-left locals k (nodes q ++ nodes a) (nodes e) st))
        (temporaries-there e arms.1 true (k + width q + width a) (stand-third locals k (nodes q) (nodes a) (nodes e) st))
    temporaries-there (core.comma es) ok b k st = values-there es ok b k st
    temporaries-there (core.call name t absent args) ok b k st =
        arguments-there args (both (is_chain t) (are_arguments args) (both (not (is_class (result t))) (is_chain t && are_arguments args) ok).1).1 b (k + length (parameters t) + 0)
        (stand-parameters locals k (parameters t) (added (nodes_all args)) st)
    temporaries-there (core.pointer_call absent e t args) ok b k st =
        let p = both (is_value e) (are_arguments args) (both (is_chain t) (is_value e && are_arguments args) (both (not (is_class (result t))) (is_chain t && (is_value e && are_arguments args)) ok).1).1 in
        let l : ℕ = k + length (parameters t) + 0 in
        let behind : Stand locals l (added (nodes e ++ nodes_all args)) = stand-parameters locals k (parameters t) (added (nodes e ++ nodes_all args)) st in
        there-both (temporaries b e l) (temporaries_all b args (l + width e)) (temporaries-there e p.0 b l (stand-left locals l (nodes e) (nodes_all args) behind))
        (arguments-there args p.1 b (l + width e) (stand-right locals l (nodes e) (nodes_all args) behind))
    temporaries-there e ok b k st = never ok

    values-there : (es : Cores) → are_values es ≡ true → (b : Bool) (k : ℕ) → Stand locals k (added (nodes_all es)) → all_there locals (temporaries_all b es k) ≡ true
    values-there none ok b k st = refl
    values-there (core.more e none) ok b k st = there-both (temporaries b e k) [] (temporaries-there e ok b k (stand-left locals k (nodes e) [] st)) refl
    values-there (core.more e (core.more f es)) ok b k st =
        let p = both (is_value e) (are_values (core.more f es)) ok in
        there-both (temporaries b e k) (temporaries_all b (core.more f es) (k + width e)) (temporaries-there e p.0 b k (stand-left locals k (nodes e) (nodes_all (core.more f es)) st))
        (values-there (core.more f es) p.1 b (k + width e) (stand-right locals k (nodes e) (nodes_all (core.more f es)) st))

    arguments-there : (es : Cores) → are_arguments es ≡ true → (b : Bool) (k : ℕ) → Stand locals k (added (nodes_all es)) → all_there locals (temporaries_all b es k) ≡ true
    arguments-there none ok b k st = refl
    arguments-there (core.more e es) ok b k st =
        let p = both (is_value e) (are_arguments es) ok in
        there-both (temporaries b e k) (temporaries_all b es (k + width e)) (temporaries-there e p.0 b k (stand-left locals k (nodes e) (nodes_all es) st))
        (arguments-there es p.1 b (k + width e) (stand-right locals k (nodes e) (nodes_all es) st))

  -- those of a full expression, the newest first
  pub ends-there : (e : Core) → is_value e ≡ true → (k : ℕ) → Stand locals k (added (nodes e)) → all_there locals (reverse (temporaries false e k)) ≡ true
  ends-there e ok k st = there-reversed (temporaries false e k) (temporaries-there e ok false k st)
