-- The type that specifiers name is one that a specifier names.
use Rattle.std.proofs.Common.{◌≡◌, ℕ, Bool, true, false, List, [], ◌∷◌, map, Option, None, Some, IfSome, All, refl, sym, subst, is_some, not, ◌||◌}
use Rattle.std.proofs.lemmas.List.Elements.{All-head, All-tail}
use Rattle.std.specs.Option.{option_or}
use Rattle.cf_syntax.specs.declared.specifier.Storage.{Storage}
use Rattle.cf_syntax.specs.declared.specifier.Storage.TheVariants as storage
use Rattle.cf_types.specs.Table.{Table}
use Rattle.cf_elab.specs.Specifiers.{Gathered, conflicts, with_storage, with_type, gathers, gathered, gathered_from, nothing_gathered, fits_basics, with_basic, any_basic}
use Rattle.cf_elab_env.specs.Holds.{IsType}
use Rattle.cf_elab_specifiers.specs.Said.Seen.{word_seen}
use Rattle.cf_elab_specifiers.specs.Said.Words.{IsWord}
use Rattle.cf_elab_specifiers.specs.declared.said.word.Word.{Word}
use Rattle.cf_elab_specifiers.specs.declared.said.word.Word.TheVariants as word

conflicts_named : (b : Bool) (at : ℕ) (g : Gathered) → (conflicts b at g).named ≡ g.named
conflicts_named true at g = refl
conflicts_named false at g = refl

storage_named : (at : ℕ) (s : Storage) (g : Gathered) → (with_storage at s g).named ≡ g.named
storage_named at storage.Inline g = refl
storage_named at storage.Virtual g = refl
storage_named at storage.Friend g = refl
storage_named at storage.Auto g = conflicts_named (is_some g.storage) at (record g { storage = option_or g.storage (Some (at, storage.Auto)) })
storage_named at storage.Register g = conflicts_named (is_some g.storage) at (record g { storage = option_or g.storage (Some (at, storage.Register)) })
storage_named at storage.Static g = conflicts_named (is_some g.storage) at (record g { storage = option_or g.storage (Some (at, storage.Static)) })
storage_named at storage.Extern g = conflicts_named (is_some g.storage) at (record g { storage = option_or g.storage (Some (at, storage.Extern)) })
storage_named at storage.Typedef g = conflicts_named (is_some g.storage) at (record g { storage = option_or g.storage (Some (at, storage.Typedef)) })

module _ (types : Table) where
  abbrev IsNamed : Option ℕ → Type 0
  IsNamed o = IfSome o (λ t. IsType types t)

  either : (o : Option ℕ) (t : ℕ) → IsNamed o → IsType types t → IsNamed (option_or o (Some t))
  either None t h k = k
  either (Some u) t h k = h

  type_known : (at t : ℕ) (g : Gathered) → IsNamed g.named → IsType types t → IsNamed (with_type at t g).named
  type_known at t g h k =
      subst IsNamed (sym (conflicts_named (is_some g.named || any_basic g.basics) at (record g { named = option_or g.named (Some t) }))) (either g.named t h k)

  gathers_known : (g : Gathered) (w : Word) → IsNamed g.named → IsWord types w → IsNamed (gathers g (word_seen w)).named
  gathers_known g (word.Stored at s) h k = subst IsNamed (sym (storage_named at s (record g { is_empty = false }))) h
  gathers_known g (word.Const at) h k = h
  gathers_known g (word.Basic at b) h k =
      subst IsNamed (sym (conflicts_named (is_some g.named || not (fits_basics b g.basics)) at (record g { basics = with_basic b g.basics; is_empty = false }))) h
  gathers_known g (word.Type at t) h k = type_known at t (record g { is_empty = false }) h k
  gathers_known g (word.Defined at t) h k = type_known at t (record g { is_empty = false }) h k

  from_known : (g : Gathered) (ws : List Word) → IsNamed g.named → All (λ w. IsWord types w) ws → IsNamed (gathered_from g (map word_seen ws)).named
  from_known g [] h all = h
  from_known g (w ∷ ws) h all =
      from_known (gathers g (word_seen w)) ws (gathers_known g w h (All-head (λ w. IsWord types w) w ws all)) (All-tail (λ w. IsWord types w) w ws all)

  pub named_known : (g : Gathered) (ws : List Word) → g ≡ gathered (map word_seen ws) → All (λ w. IsWord types w) ws → IfSome g.named (λ t. IsType types t)
  named_known g ws is all = subst (λ (g : Gathered). IsNamed g.named) (sym is) (from_known nothing_gathered ws tt all)
