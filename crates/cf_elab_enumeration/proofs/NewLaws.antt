-- Names that are new: no class is open, so the innermost scope alone may have them.
use Rattle.std.proofs.Common.{◌≡◌, ℕ, ◌+◌, ◌<◌, ◌≤◌, Bool, true, false, not, ◌&&◌, ◌||◌, if◌then◌else◌, List, [], ◌∷◌, ◌++◌, length, drop, get_or, Option, Some, is_some, refl, sym, ap, ◌∙◌}
use Rattle.std.proofs.lemmas.Cmp.{nat_list_eq_equiv}
use Rattle.std.proofs.lemmas.List.{append-nil, at_drop_more, at_drop_all}
use Rattle.std.specs.Prelude.{bytes_eq}
use Rattle.std.specs.List.{list_any}
use Rattle.cf_elab.specs.Answer.{Answer, Made, Refused, onward, need}
use Rattle.cf_elab.specs.ClassScope.{declares_member}
use Rattle.cf_elab.specs.Enumeration.{Counted}
use Rattle.cf_elab.specs.Env.{Env, Name, OpenClass}
use Rattle.cf_elab.specs.Names.{declared_here}
use Rattle.cf_elab_env.specs.Holds.{IsEnv}
use Rattle.cf_name_list.specs.Names.{is_in}
use Rattle.cf_elab_enumeration.specs.Shut as shut

-- a name among others, whichever is compared with the other
turned : (name : Name) (names : List Name) → list_any (bytes_eq name) names ≡ is_in names name
turned name [] = refl
turned name (x ∷ names) = (λ i. nat_list_eq_equiv.symm name x i || turned name names i)

module _ (env : Env) (e : IsEnv env) (name : Name) (at : ℕ) (before : List Name) where
  abbrev asked : Bool → Bool → Answer (Unit {0})
  asked here among = need (not here && not among) 8 at env

  abbrev in_some : List OpenClass → Bool
  in_some [] = false
  in_some (o ∷ rest) = true

  opened : shut.needs_new name at before env ≡ asked (is_some (declared_here env name)) (list_any (bytes_eq name) before)
  unfolding shut.needs_new
  opened = ap (λ os. asked (if in_some os then declares_member env name else is_some (declared_here env name)) (list_any (bytes_eq name) before)) e.no_open_class

  pub in_scope : (o : Option ℕ) → o ≡ declared_here env name → is_some o ≡ true → shut.needs_new name at before env ≡ Refused 8 at
  in_scope o is h = opened ∙ ap (λ b. asked b (list_any (bytes_eq name) before)) (ap is_some (sym is) ∙ h)

  pub among_them : (o : Option ℕ) (b : Bool) → o ≡ declared_here env name → is_some o ≡ false → b ≡ is_in before name → b ≡ true → shut.needs_new name at before env ≡ Refused 8 at
  among_them o b is h among t =
      opened ∙ ap (λ x. asked x (list_any (bytes_eq name) before)) (ap is_some (sym is) ∙ h) ∙ ap (asked false) (turned name before ∙ sym among ∙ t)

  pub is_new : (o : Option ℕ) (b : Bool) → o ≡ declared_here env name → is_some o ≡ false → b ≡ is_in before name → b ≡ false → shut.needs_new name at before env ≡ Made tt env
  is_new o b is h among f =
      opened ∙ ap (λ x. asked x (list_any (bytes_eq name) before)) (ap is_some (sym is) ∙ h) ∙ ap (asked false) (turned name before ∙ sym among ∙ f)

-- ---- one after another

-- the enumeration's own names come first
pub own_first : (own none before : List Name) (cs : List Counted) (env : Env) → before ≡ own ++ none → none ≡ [] → shut.all_new own cs env ≡ shut.all_new before cs env
own_first own none before cs env is nothing = ap (λ ns. shut.all_new ns cs env) (sym (is ∙ ap (λ l. own ++ l) nothing ∙ append-nil own))

-- those from an index on are left
module _ (first before : List Name) (cs : List Counted) (i : ℕ) (env : Env) (left : shut.all_new before (drop i cs) env ≡ shut.all_new first cs env) where
  pub all_named : length cs ≤ i → shut.all_new first cs env ≡ Made tt env
  unfolding shut.all_new
  all_named ended = sym left ∙ at_drop_all (λ l. shut.all_new before l env) cs i ended

  pub each_named : (c : Counted) (name : Name) (at : ℕ) → i < length cs → c ≡ get_or cs i c → name ≡ c.name → at ≡ c.at
      → shut.all_new first cs env ≡ onward (shut.needs_new name at before env) (λ _ e. shut.all_new (name ∷ before) (drop (i + 1) cs) e)
  unfolding shut.all_new shut.needs_new
  each_named c name at inside is called placed =
      sym left ∙ at_drop_more (λ l. shut.all_new before l env) cs i c inside ∙ ap (λ d. shut.all_new before (d ∷ drop (i + 1) cs) env) (sym is)
      ∙ (λ j. onward (shut.needs_new (sym called j) (sym placed j) before env) (λ _ e. shut.all_new (sym called j ∷ before) (drop (i + 1) cs) e))

  pub next_named : (c : Counted) (more : List Name) (name : Name) (at : ℕ) → i < length cs → c ≡ get_or cs i c → name ≡ c.name → at ≡ c.at
      → shut.needs_new name at before env ≡ Made tt env → more ≡ name ∷ before → shut.all_new more (drop (i + 1) cs) env ≡ shut.all_new first cs env
  next_named c more name at inside is called placed fine grown =
      sym (each_named c name at inside is called placed ∙ ap (λ a. onward a (λ _ e. shut.all_new (name ∷ before) (drop (i + 1) cs) e)) fine
      ∙ ap (λ ns. shut.all_new ns (drop (i + 1) cs) env) (sym grown))

module _ (env : Env) (e : IsEnv env) (name : Name) (at : ℕ) (o : Option ℕ) (is : o ≡ declared_here env name) where
  pub name_taken : is_some o ≡ true → shut.name_checked (Some (at, name)) env ≡ Refused 8 at
  unfolding shut.name_checked shut.needs_new
  name_taken h = in_scope env e name at [] o is h

  pub name_free : is_some o ≡ false → shut.name_checked (Some (at, name)) env ≡ Made tt env
  unfolding shut.name_checked shut.needs_new
  name_free h = is_new env e name at [] o false is h refl refl

pub ruleset new_laws = (in_scope, among_them, is_new)

pub ruleset each_laws = (all_named, next_named)

pub ruleset name_laws = (name_taken, name_free)
