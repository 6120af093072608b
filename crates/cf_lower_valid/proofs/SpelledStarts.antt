-- What constant initialisers store has a text.
use Rattle.std.proofs.Common.{◌≡◌, ℕ, Bool, true, false, List, [], ◌∷◌, refl, subst, inl, inr}
use Rattle.std.specs.Prelude.{Option, Some, None}
use Rattle.std.specs.List.{flat_map}
use Rattle.cf_core.specs.Types.{Name}
use Rattle.cf_core.specs.Objects.{character_kind}
use Rattle.cf_lower_layout.specs.Sorts.{Sort, sort_of}
use Rattle.cf_plain.specs.Plain as plain
use Rattle.cf_plain.specs.Plain.{Register, Plain, Plains, act, branch, nothing, more}
use Rattle.cc_whole.specs.Plain.{Statement}
use Rattle.cc_whole.specs.Spellable.{spellable_item}
use Rattle.cf_lower.specs.Written.{if_scalar}
use Rattle.cf_lower.specs.Statements.{put}
use Rattle.cf_lower.specs.Constants.{Known, at, at_byte, written, stored, stored_bytes, constant_done, holds_truth, known_after, constant_stores, constant_code}
use Rattle.cf_lower.specs.Functions.{constants_function}
use Rattle.cc_whole_sections.specs.Sections.{Every}
use Rattle.cf_lower_valid.proofs.Spelled.{AllSpelled, spelled-append, spelled-in-order, bytes-spelled}

module _ (f : Name) where
  stored-spelled : (x y : Known) → AllSpelled (stored [] x y)
  stored-spelled (at n o t) y = go (sort_of t)
    where
      go : (s : Option Sort) → AllSpelled (if_scalar s [] (λ s. put s (at_byte n o) (written [] y) ∷ []))
      go None = tt
      go (Some s) = (refl, tt)
  stored-spelled x y = tt

  filled-spelled : (x : Known) (b : List ℕ) → AllSpelled (stored_bytes [] x b)
  filled-spelled (at n o t) b = bytes-spelled (character_kind t) (at_byte n o) 0 b
  filled-spelled x b = tt

  done-spelled : (g : Register → Known) (a : plain.Action) → AllSpelled (constant_done [] g a)
  done-spelled g (plain.first r q) = stored-spelled (g r) (g q)
  done-spelled g (plain.bytes r b) = filled-spelled (g r) b
  done-spelled g a = tt

  taken : (o : Option Bool) (a b : List Statement) → AllSpelled a → AllSpelled b → AllSpelled (elim o [ None ↦ [] | Some c ↦ elim c [ true ↦ a | false ↦ b ] ])
  taken None a b h g = tt
  taken (Some true) a b h g = h
  taken (Some false) a b h g = g

  mutual
    start-spelled : (s : Plain) (g : Register → Known) → AllSpelled (constant_stores [] s f g)
    start-spelled (act a) g = done-spelled g a
    start-spelled (branch r ss ts) g = taken (holds_truth (g r)) (constant_code [] ss f g) (constant_code [] ts f g) (starts-spelled ss g) (starts-spelled ts g)
    start-spelled s g = tt

    pub starts-spelled : (ss : Plains) (g : Register → Known) → AllSpelled (constant_code [] ss f g)
    starts-spelled nothing g = tt
    starts-spelled (more s ss) g =
        spelled-append (constant_stores [] s f g) (constant_code [] ss f (known_after [] s f g)) (start-spelled s g) (starts-spelled ss (known_after [] s f g))

pub flat-spelled : {A : Type 0} (g : A → List Statement) (xs : List A) → ((x : A) → AllSpelled (g x)) → AllSpelled (flat_map g xs)
flat-spelled g [] h = tt
flat-spelled g (x ∷ xs) h = spelled-append (g x) (flat_map g xs) (h x) (flat-spelled g xs h)

pub helper-spelled : (ss : List Statement) → AllSpelled ss → Every (λ i. spellable_item i ≡ true) (constants_function ss)
helper-spelled [] h i k = absurd k
helper-spelled (s ∷ ss) h i (inl e) = subst (λ i. spellable_item i ≡ true) e (spelled-in-order (s ∷ ss) h)
helper-spelled (s ∷ ss) h i (inr k) = absurd k
