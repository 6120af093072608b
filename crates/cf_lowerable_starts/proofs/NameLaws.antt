-- Which types names of functions may have, by the names of the library's.
use Rattle.std.proofs.Common.{◌≡◌, Bool, true, false, ◌||◌, not, if◌then◌else◌, refl, sym, ap, ◌∙◌}
use Rattle.std.specs.Prelude.{bytes_eq, codes}
use Rattle.cf_base.specs.declared.kind.Kind.TheVariants.{Int}
use Rattle.cf_core.specs.Types.{Name, SourceType, void, integer, takes, gives, without_const, type_eq}
use Rattle.cf_lower_place.specs.Named.{may_be_named}

abbrev puts : SourceType
puts = takes (integer Int) (gives (integer Int) false)

abbrev exits : SourceType
exits = takes (integer Int) (gives void false)

abbrev gets : SourceType
gets = gives (integer Int) false

module _ (name : Name) (t : SourceType) where
  -- by whether the name is `putchar`, `getchar`, `exit`
  abbrev asked : Bool → Bool → Bool → Bool
  asked p g x = not ((p || g) || x) || type_eq (without_const (if p then puts else (if x then exits else gets))) (without_const t)

  abbrev put : Bool
  put = bytes_eq name (codes "putchar")

  abbrev get : Bool
  get = bytes_eq name (codes "getchar")

  abbrev exit : Bool
  exit = bytes_eq name (codes "exit")

  module _ (p : Bool) (of_put : p ≡ put) where
    pub puts_named : (b : Bool) → p ≡ true → b ≡ type_eq puts (without_const t) → b ≡ may_be_named name t
    puts_named b e is = is ∙ sym (ap (λ c. asked c get exit) (sym of_put ∙ e))

    module _ (other : p ≡ false) (x : Bool) (of_exit : x ≡ exit) where
      exits_by : (g : Bool) → type_eq exits (without_const t) ≡ asked false g true
      exits_by true = refl
      exits_by false = refl

      not_put : asked false get exit ≡ may_be_named name t
      not_put = sym (ap (λ c. asked c get exit) (sym of_put ∙ other))

      pub exits_named : (b : Bool) → x ≡ true → b ≡ type_eq exits (without_const t) → b ≡ may_be_named name t
      exits_named b e is = is ∙ exits_by get ∙ sym (ap (λ c. asked false get c) (sym of_exit ∙ e)) ∙ not_put

      module _ (none : x ≡ false) (g : Bool) (of_get : g ≡ get) where
        not_exit : asked false get false ≡ may_be_named name t
        not_exit = sym (ap (λ c. asked false get c) (sym of_exit ∙ none)) ∙ not_put

        pub gets_named : (b : Bool) → g ≡ true → b ≡ type_eq gets (without_const t) → b ≡ may_be_named name t
        gets_named b e is = is ∙ sym (ap (λ c. asked false c false) (sym of_get ∙ e)) ∙ not_exit

        pub any_named : g ≡ false → true ≡ may_be_named name t
        any_named e = sym (ap (λ c. asked false c false) (sym of_get ∙ e)) ∙ not_exit
