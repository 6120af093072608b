-- What constant initialisers store.
use Rattle.std.proofs.Common.{◌≡◌, Bool, true, false, if◌then◌else◌, List, [], ◌∷◌, ◌++◌, map, refl, sym, ap, ◌∙◌, append-nil}
use Rattle.std.specs.Prelude.{filter}
use Rattle.std.specs.List.{flat_map}
use Rattle.cc_whole.specs.Plain.{Statement}
use Rattle.cf_core.specs.FromTypes.{Tables}
use Rattle.cf_core.specs.Types.{Name}
use Rattle.cf_lower.specs.Constants.{constant_code, nothing_known}
use Rattle.cf_lower_constants.specs.declared.site.Site.{Site}
use Rattle.cf_lower_constants.specs.Sites.{statements_at as statements_in}
use Rattle.cf_lower_fn.specs.Walks.{statements_at}
use Rattle.cf_lower_types.specs.Bare.{classes_of}
use Rattle.cf_plain.specs.declared.unit.PlainStatic.{PlainStatic}
use Rattle.cf_plain.specs.Plain.{PlainStatic as StaticOf}
use Rattle.cf_plain.specs.View.{static_of}
use Rattle.cf_lower_unit.specs.Pieces.{all_starts, owner_or, start_at, start_code}

module _ (tables : Tables) (x : PlainStatic) where
  -- of an initialiser whose statements stand in this
  pub start_is : (s : Site) (w v : List Statement) → s.tables.now ≡ tables → s.owner.now ≡ owner_or x.owner
      → v ≡ w ++ constant_code (classes_of s.tables.now) (statements_in s x.start) s.owner.now nothing_known → v ≡ w ++ start_code tables (static_of tables x)
  start_is s w v at owner is =
      is ∙ ap (λ (t : Tables). w ++ constant_code (classes_of t) (statements_at t x.start) s.owner.now nothing_known) at
      ∙ ap (λ (n : Name). w ++ constant_code (classes_of tables) (statements_at tables x.start) n nothing_known) owner

  -- by whether it is constant
  abbrev start_by : Bool → List Statement
  start_by b = if b then start_code tables (static_of tables x) else []

  pub not_stored : (w : List Statement) → x.is_constant ≡ false → w ≡ w ++ start_at tables x
  not_stored w e = sym (append-nil w) ∙ sym (ap (λ b. w ++ start_by b) e)

  pub stored : (w v : List Statement) → x.is_constant ≡ true → v ≡ w ++ start_code tables (static_of tables x) → v ≡ w ++ start_at tables x
  stored w v e is = is ∙ sym (ap (λ b. w ++ start_by b) e)

-- ---- of all static objects

module _ (tables : Tables) where
  abbrev constant_ones : List PlainStatic → List StaticOf
  constant_ones xs = filter (λ (x : StaticOf). x.is_constant) (map (static_of tables) xs)

  first_start : (x : PlainStatic) (xs : List PlainStatic) (b : Bool) → all_starts tables xs ≡ flat_map (start_code tables) (constant_ones xs)
      → (if b then start_code tables (static_of tables x) else []) ++ all_starts tables xs
      ≡ flat_map (start_code tables) (if b then static_of tables x ∷ constant_ones xs else constant_ones xs)
  first_start x xs true rest = ap (λ l. start_code tables (static_of tables x) ++ l) rest
  first_start x xs false rest = rest

  pub starts_are : (xs : List PlainStatic) → all_starts tables xs ≡ flat_map (start_code tables) (constant_ones xs)
  starts_are [] = refl
  starts_are (x ∷ xs) = first_start x xs x.is_constant (starts_are xs)
