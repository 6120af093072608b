-- Names in scope before and after names are changed.
use Rattle.std.proofs.Common.{◌≡◌, ℕ, Bool, true, false, not, ◌||◌, cond, List, [], ◌∷◌, ◌++◌, Option, Some, option_map, map, refl, ap, sym, subst, ◌∙◌, ◌⊎◌, inl, inr}
use Rattle.std.specs.Prelude.{bytes_eq, codes, find}
use Rattle.std.specs.List.{list_all}
use Rattle.std.proofs.lemmas.Bool.{and_parts, true≢false}
use Rattle.std.proofs.lemmas.Slice.Eq.{bytes_eq-Decides}
use Rattle.cc_whole.specs.declared.statement.CLocal.{CLocal}
use Rattle.cc_whole.specs.declared.unit.CParameter.{CParameter}
use Rattle.cc_whole.specs.Known.{Meant, Named, lookup, is_in, is_main, is_helper, parameters_named, locals_named}
use Rattle.cc_whole.specs.Uses.{local_names, parameter_names}
use Rattle.cc_whole_link.specs.Rename.{Renaming, hiding}
use Rattle.cc_whole_linked_valid.proofs.Same.{Meets, meets_itself}

abbrev pub Names : Type 0
Names = List (List ℕ)

-- a name may stand where the other stood: rules V9 and V10 say the same of both
pub record Mild (x y : List ℕ) : Type 0 where
  pub main : not (is_main x) ≡ true → not (is_main y) ≡ true
  pub helper : is_helper y ≡ is_helper x
  pub atexit : not (bytes_eq x (codes "atexit")) ≡ true → not (bytes_eq y (codes "atexit")) ≡ true

pub mild_itself : (x : List ℕ) → Mild x x
mild_itself x = record { main = λ e. e; helper = refl; atexit = λ e. e }

-- the name stays, or is one of these
abbrev pub Goes : Names → List ℕ → List ℕ → Type 0
Goes longer x y = (y ≡ x) ⊎ (is_in longer y ≡ true)

-- what the old names mean, their new names mean among the new ones
pub record Fits (longer : Names) (old new : List Named) (r : Renaming) : Type 0 where
  pub meets : (x : List ℕ) → Meets (lookup old x) (lookup new (r x))
  pub mild : (x : List ℕ) → Mild x (r x)
  pub goes : (x : List ℕ) → Goes longer x (r x)

-- none of these names is among those
abbrev pub Clear : Names → Names → Type 0
Clear longer names = list_all (λ n. not (is_in longer n)) names ≡ true

-- ---- names that are hidden

either_name : (names : Names) (r : Renaming) (x : List ℕ) (P : List ℕ → Type 0) → P x → P (r x) → P (hiding names r x)
either_name names r x P a b = go (is_in names x)
  where
    go : (c : Bool) → P (cond c x (r x))
    go true = a
    go false = b

not_both : (b : Bool) → b ≡ true → not b ≡ true → ⊥
not_both true e h = true≢false (sym h)
not_both false e h = true≢false (sym e)

-- a new name is none of the names that are clear of it
stays_out : (longer names : Names) (y : List ℕ) → Clear longer names → is_in longer y ≡ true → is_in names y ≡ false
stays_out longer [] y c e = refl
stays_out longer (n ∷ names) y c e =
    let parts = and_parts (not (is_in longer n)) (list_all (λ n. not (is_in longer n)) names) c in go (stays_out longer names y parts.1 e) parts.0 (bytes_eq n y) refl
  where
    go : is_in names y ≡ false → not (is_in longer n) ≡ true → (b : Bool) → bytes_eq n y ≡ b → (b || is_in names y) ≡ false
    go again h false is = again
    go again h true is = absurd (not_both (is_in longer n) (ap (is_in longer) ((bytes_eq-Decides n y).0 is) ∙ e) h)

goes_out : (longer names : Names) (x y : List ℕ) → Clear longer names → Goes longer x y → is_in names x ≡ false → is_in names y ≡ false
goes_out longer names x y c (inl e) h = ap (is_in names) e ∙ h
goes_out longer names x y c (inr e) h = stays_out longer names y c e

abbrev names_of : List Named → Names
names_of ns = map (λ (n : Named). n.name) ns

abbrev meaning : Option Named → Option Meant
meaning o = option_map (λ (n : Named). n.meant) o

looked_inside : (ns old new : List Named) (x : List ℕ) → is_in (names_of ns) x ≡ true → lookup (ns ++ old) x ≡ lookup (ns ++ new) x
looked_inside [] old new x e = absurd (true≢false (sym e))
looked_inside (n ∷ ns) old new x e = go (looked_inside ns old new x) (bytes_eq n.name x) e
  where
    go : (is_in (names_of ns) x ≡ true → lookup (ns ++ old) x ≡ lookup (ns ++ new) x) → (b : Bool) → (b || is_in (names_of ns) x) ≡ true
        → meaning (cond b (Some n) (find (λ (m : Named). bytes_eq m.name x) (ns ++ old))) ≡ meaning (cond b (Some n) (find (λ (m : Named). bytes_eq m.name x) (ns ++ new)))
    go again true h = refl
    go again false h = again h

looked_outside : (ns old : List Named) (x : List ℕ) → is_in (names_of ns) x ≡ false → lookup (ns ++ old) x ≡ lookup old x
looked_outside [] old x e = refl
looked_outside (n ∷ ns) old x e = go (looked_outside ns old x) (bytes_eq n.name x) e
  where
    go : (is_in (names_of ns) x ≡ false → lookup (ns ++ old) x ≡ lookup old x) → (b : Bool) → (b || is_in (names_of ns) x) ≡ false
        → meaning (cond b (Some n) (find (λ (m : Named). bytes_eq m.name x) (ns ++ old))) ≡ lookup old x
    go again true h = absurd (true≢false h)
    go again false h = again h

module _ (longer : Names) (old new : List Named) (r : Renaming) (f : Fits longer old new r) (ns : List Named) (names : Names) (same : names_of ns ≡ names) (clear : Clear longer names) where
  met : (x : List ℕ) (b : Bool) → is_in names x ≡ b → Meets (lookup (ns ++ old) x) (lookup (ns ++ new) (cond b x (r x)))
  met x true is =
      subst (λ o. Meets (lookup (ns ++ old) x) o) (looked_inside ns old new x (ap (λ l. is_in l x) same ∙ is)) (meets_itself (lookup (ns ++ old) x))
  met x false is =
      let out : is_in names (r x) ≡ false = goes_out longer names x (r x) clear (f.goes x) is in
      subst (λ o. Meets o (lookup (ns ++ new) (r x))) (sym (looked_outside ns old x (ap (λ l. is_in l x) same ∙ is)))
      (subst (Meets (lookup old x)) (sym (looked_outside ns new (r x) (ap (λ l. is_in l (r x)) same ∙ out))) (f.meets x))

  hidden_fits : Fits longer (ns ++ old) (ns ++ new) (hiding names r)
  hidden_fits = record {
    meets = λ x. met x (is_in names x) refl;
    mild = λ x. either_name names r x (Mild x) (mild_itself x) (f.mild x);
    goes = λ x. either_name names r x (Goes longer x) (inl refl) (f.goes x);
  }

locals_names : (xs : List CLocal) → names_of (locals_named xs) ≡ local_names xs
locals_names [] = refl
locals_names (x ∷ xs) = ap (λ l. x.name ∷ l) (locals_names xs)

parameters_names : (ps : List CParameter) → names_of (parameters_named ps) ≡ parameter_names ps
parameters_names [] = refl
parameters_names (p ∷ ps) = ap (λ l. p.name ∷ l) (parameters_names ps)

module _ (longer : Names) (old new : List Named) (r : Renaming) (f : Fits longer old new r) where
  pub under_locals : (xs : List CLocal) → Clear longer (local_names xs) → Fits longer (locals_named xs ++ old) (locals_named xs ++ new) (hiding (local_names xs) r)
  under_locals xs clear = hidden_fits longer old new r f (locals_named xs) (local_names xs) (locals_names xs) clear

  pub under_parameters : (ps : List CParameter) → Clear longer (parameter_names ps)
      → Fits longer (parameters_named ps ++ old) (parameters_named ps ++ new) (hiding (parameter_names ps) r)
  under_parameters ps clear = hidden_fits longer old new r f (parameters_named ps) (parameter_names ps) (parameters_names ps) clear
