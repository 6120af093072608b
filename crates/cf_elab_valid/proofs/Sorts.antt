-- Sorts of types, and the trees that they allow.
use Rattle.std.proofs.Common.{◌≡◌, true, false, ℤ, Option, refl, sym, ap, ◌∙◌, true≢false}
use Rattle.std.specs.Option.{option_map}
use Rattle.cf_base.specs.declared.kind.Kind.{Kind}
use Rattle.cf_base.specs.declared.kind.Kind.TheVariants as kind
use Rattle.cf_base.specs.Integers.{convert}
use Rattle.cf_core.specs.FromTypes.{Tables}
use Rattle.cf_core.specs.Types.{SourceType, void, integer, enumeration, class, pointer, reference, array, takes, gives, data_member, function_member, const, without_const, is_void}
use Rattle.cf_core.specs.Typing.{is_integral, is_function}
use Rattle.cf_core_typed.specs.Same.{Same}
use Rattle.cf_elab.specs.Operand.{Sort, integral, enumeral, object_pointer, void_pointer, function_pointer, data_pointer, method_pointer, class_sort, array_sort, function_sort, void_sort, reference_sort}
use Rattle.cf_elab_valid.specs.Scene.{HoldsKnown}
use Rattle.cf_elab_valid.specs.Sorts.{SortIs}
use Rattle.cf_elab_valid.proofs.Numbers.{convert-holds, enumerator-holds}

pub void-told : (t : SourceType) → is_void t ≡ true → Same t void
void-told void h = refl
void-told (const t) h = void-told t h
void-told (integer k) h = absurd (true≢false (sym h))
void-told (enumeration n) h = absurd (true≢false (sym h))
void-told (class c) h = absurd (true≢false (sym h))
void-told (pointer t) h = absurd (true≢false (sym h))
void-told (reference t) h = absurd (true≢false (sym h))
void-told (array t n) h = absurd (true≢false (sym h))
void-told (takes p t) h = absurd (true≢false (sym h))
void-told (gives t c) h = absurd (true≢false (sym h))
void-told (data_member c t) h = absurd (true≢false (sym h))
void-told (function_member c t) h = absurd (true≢false (sym h))

-- promotion goes to the kind of the type, and to that of an enumeration's numbers
abbrev pub promoted_kind : Sort → Kind
promoted_kind (integral k) = k
promoted_kind other = kind.Int

pub promoted-holds : (T : Tables) (k : Sort) (u : SourceType) → SortIs T k u → is_integral (without_const u) ≡ true → (z : Option ℤ) → HoldsKnown (option_map (convert (promoted_kind k)) z) u
promoted-holds T (integral k) u is h z = convert-holds k z u is
promoted-holds T (enumeral n) u is h z = enumerator-holds is.name z u is.same
promoted-holds T (object_pointer t) u is h z = absurd (true≢false (sym h ∙ ap is_integral is.same))
promoted-holds T void_pointer u is h z = absurd (true≢false (sym h ∙ ap is_integral is.same))
promoted-holds T (function_pointer t) u is h z = absurd (true≢false (sym h ∙ ap is_integral is.same))
promoted-holds T (data_pointer c t) u is h z = absurd is
promoted-holds T (method_pointer c f) u is h z = absurd is
promoted-holds T (class_sort c) u is h z = absurd is
promoted-holds T (array_sort t n) u is h z = absurd (true≢false (sym h ∙ ap is_integral is.same))
promoted-holds T (function_sort f) u is h z = absurd (true≢false (sym h ∙ function_form u is))
  where
    function_form : (u : SourceType) → is_function u ≡ true → is_integral (without_const u) ≡ false
    function_form (takes p t) h = refl
    function_form (gives t c) h = refl
    function_form u h = absurd (true≢false (sym h))
promoted-holds T void_sort u is h z = absurd (true≢false (sym h ∙ ap is_integral (void-told u is)))
promoted-holds T (reference_sort t) u is h z = absurd (true≢false (sym h ∙ ap (λ v. is_integral (without_const v)) is.same))
