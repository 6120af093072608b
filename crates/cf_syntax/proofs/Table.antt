-- A table of entries by their names, with one entry more.
use Rattle.std.proofs.Common.{◌≡◌, ℕ, zero, suc, ◌⊎◌, inl, inr, Bool, true, false, not, cond, List, [], ◌∷◌, ◌++◌, Option, Some, None, bytes_eq, refl, sym, ◌∙◌, ap, arith}
use Rattle.std.specs.Prelude.{◌≢◌, unwrap_or}
use Rattle.std.proofs.lemmas.Bool.{cases_eq, false_from_ne_true}
use Rattle.std.proofs.lemmas.Slice.Eq.{bytes_eq-Decides}
use Rattle.cf_shared.specs.declared.tree.Tree.{Tree}
use Rattle.cf_shared.specs.declared.tree.Tree.TheVariants as tree
use Rattle.cf_shared.specs.At.{at, Puts}
use Rattle.cf_shared.proofs.Indices.{at-empty}
use Rattle.cf_syntax.specs.declared.type_names.Entry.{Entry}
use Rattle.cf_syntax.specs.declared.type_names.NameKind.{NameKind}
use Rattle.cf_syntax.specs.Kinds.{or_else, newest, says, kind_of}
use Rattle.cf_syntax.specs.Slots.{slot_of, entries_at, IsTable, others, renewed}

or_none : {A : Type 0} (o : Option A) → o ≡ or_else o None
or_none (Some x) = refl
or_none None = refl

or_assoc : {A : Type 0} (a b c : Option A) → or_else (or_else a b) c ≡ or_else a (or_else b c)
or_assoc (Some x) b c = refl
or_assoc None b c = refl

newest-append : {A B : Type 0} (ask : A → Option B) (xs : List A) (y : A) → newest ask (xs ++ y ∷ []) ≡ or_else (ask y) (newest ask xs)
newest-append ask [] y = or_none (ask y)
newest-append ask (x ∷ xs) y = ap (λ o. or_else o (ask x)) (newest-append ask xs y) ∙ or_assoc (ask y) (newest ask xs) (ask x)

-- an entry says nothing of another name
silent : (e : Entry) (name : List ℕ) → bytes_eq e.name name ≡ false → says name e ≡ None
silent e name differ = ap (λ b. cond b (Some e.kind) None) differ

differs : (a b : List ℕ) → (a ≡ b → ⊥) → bytes_eq a b ≡ false
differs a b apart = false_from_ne_true (bytes_eq a b) (λ e. apart ((bytes_eq-Decides a b).0 e))

apart-names : (a b : List ℕ) → bytes_eq a b ≡ false → a ≡ b → ⊥
apart-names a b differ e = true-is-not-false (sym ((bytes_eq-Decides a b).1 e) ∙ differ)
  where
    true-is-not-false : true ≡ false → ⊥
    true-is-not-false e = cc

-- the entries of other names say the same of such a name
kind-others : (name other : List ℕ) → (name ≡ other → ⊥) → (entries : List Entry) → kind_of (others name entries) other ≡ kind_of entries other
kind-others name other apart [] = refl
kind-others name other apart (e ∷ es) = go (bytes_eq e.name name) refl (kind-others name other apart es)
  where
    go : (b : Bool) → bytes_eq e.name name ≡ b → kind_of (others name es) other ≡ kind_of es other
        → kind_of (others name (e ∷ es)) other ≡ or_else (kind_of es other) (says other e)
    go true same rest =
        ap (λ b. kind_of (cond (not b) (e ∷ others name es) (others name es)) other) same ∙ rest ∙ or_none (kind_of es other)
        ∙ ap (or_else (kind_of es other)) (sym (silent e other (differs e.name other (λ is. apart (sym ((bytes_eq-Decides e.name name).0 same) ∙ is)))))
    go false differ rest =
        ap (λ b. kind_of (cond (not b) (e ∷ others name es) (others name es)) other) differ ∙ ap (λ o. or_else o (says other e)) rest

kind-renewed : (entries : List Entry) (e : Entry) (name : List ℕ) → kind_of (renewed entries e) name ≡ or_else (says name e) (kind_of entries name)
kind-renewed entries e name = newest-append (says name) (others e.name entries) e ∙ go (bytes_eq e.name name) refl
  where
    go : (b : Bool) → bytes_eq e.name name ≡ b → or_else (says name e) (kind_of (others e.name entries) name) ≡ or_else (says name e) (kind_of entries name)
    go true same =
        let said : says name e ≡ Some e.kind = ap (λ b. cond b (Some e.kind) None) same in
        ap (λ o. or_else o (kind_of (others e.name entries) name)) said ∙ sym (ap (λ o. or_else o (kind_of entries name)) said)
    go false differ = ap (or_else (says name e)) (kind-others e.name name (apart-names e.name name differ) entries)

-- a name in another slot is another name
other-slot : (e : Entry) (name : List ℕ) → (slot_of name ≡ slot_of e.name → ⊥) → says name e ≡ None
other-slot e name apart = silent e name (differs e.name name (λ is. apart (ap slot_of (sym is))))

-- the slot of the new entry has it too, and the others are as they were
pub table_push : (older newer : Tree (List Entry)) (all : List Entry) (e : Entry) (slot : ℕ) (found : List Entry)
    → IsTable older all → slot ≡ slot_of e.name → found ≡ renewed (entries_at older slot) e → Puts older slot found newer → IsTable newer (all ++ e ∷ [])
table_push older newer all e slot found table is made puts name = go (cases_eq (slot_of name) slot) ∙ sym (newest-append (says name) all e)
  where
    go : (slot_of name ≡ slot) ⊎ (slot_of name ≡ slot → ⊥) → kind_of (entries_at newer (slot_of name)) name ≡ or_else (says name e) (kind_of all name)
    go (inl here) =
        ap (λ o. kind_of (unwrap_or o []) name) (ap (at newer) here ∙ puts.here)
        ∙ ap (λ es. kind_of es name) made
        ∙ kind-renewed (entries_at older slot) e name
        ∙ ap (or_else (says name e)) (ap (λ s. kind_of (entries_at older s) name) (sym here) ∙ table name)
    go (inr apart) =
        ap (λ o. kind_of (unwrap_or o []) name) (puts.elsewhere (slot_of name) apart)
        ∙ table name
        ∙ sym (ap (λ o. or_else o (kind_of all name)) (other-slot e name (λ same. apart (same ∙ sym is))))

pub table_empty : IsTable tree.Empty []
table_empty name = ap (λ o. kind_of (unwrap_or o []) name) (at-empty (slot_of name))
