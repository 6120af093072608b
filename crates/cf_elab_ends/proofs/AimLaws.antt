-- Where the types of a table lead, one after the other.
use Rattle.std.proofs.Common.{◌≡◌, ◌∙◌, ℕ, suc, ◌+◌, ◌<◌, ◌≤◌, Bool, true, false, ◌&&◌, length, drop, sym, ap, drop-cons, drop_of_length-le, add-one}
use Rattle.std.specs.List.{list_all}
use Rattle.std.proofs.lemmas.Option.{unwrap_or-slice_get}
use Rattle.cf_types.specs.Table.{Table}
use Rattle.cf_types.specs.declared.ty.Ty.TheVariants as ty
use Rattle.cf_convert.specs.Constness.{type_at}
use Rattle.cf_elab_valid_files.specs.File.Ends.{aims_right}

module _ (types : Table) where
  abbrev from : ℕ → Bool
  from n = list_all (aims_right types) (drop n types.types)

  pub none_left : (n : ℕ) → from n ≡ list_all (aims_right types) types.types → length types.types ≤ n → true ≡ list_all (aims_right types) types.types
  none_left n so_far le = ap (list_all (aims_right types)) (sym (drop_of_length-le types.types le)) ∙ so_far

  one_more : (n : ℕ) → n < length types.types → from n ≡ (aims_right types (type_at types n) && from (n + 1))
  one_more n lt =
      ap (list_all (aims_right types)) (drop-cons types.types n ty.Void lt)
      ∙ ap (λ v. aims_right types v && from (suc n)) (sym (unwrap_or-slice_get types.types n ty.Void))
      ∙ ap (λ k. aims_right types (type_at types n) && from k) (sym (add-one n))

  pub next_wrong : (n : ℕ) → from n ≡ list_all (aims_right types) types.types → n < length types.types → aims_right types (type_at types n) ≡ false
      → false ≡ list_all (aims_right types) types.types
  next_wrong n so_far lt wrong = ap (λ b. b && from (n + 1)) (sym wrong) ∙ sym (one_more n lt) ∙ so_far

  pub next_right : (n : ℕ) → from n ≡ list_all (aims_right types) types.types → n < length types.types → aims_right types (type_at types n) ≡ true
      → from (n + 1) ≡ list_all (aims_right types) types.types
  next_right n so_far lt right = ap (λ b. b && from (n + 1)) (sym right) ∙ sym (one_more n lt) ∙ so_far
